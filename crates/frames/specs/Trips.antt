-- Reading and writing undo each other.
use Rattle.std.specs.Prelude.{◌≡◌, ℕ, ◌^◌, ◌<◌, List, length, Some, None, Ok, Err, Option, ◌≢◌}
use Rattle.terms.specs.declared.answer.Refusal.TheVariants.{NotFrame}
use Rattle.terms.specs.declared.grant.Grant.{Grant}
use Rattle.frames.specs.declared.frame.SetupFrame.{SetupFrame}
use Rattle.frames.specs.Frames.{Plain, setup, subframe, deposit, withdrawal, packet, reads}
use Rattle.frames.specs.Written.{line_of}

-- the numbers of a set-up fit the types of its fields
pub record SetupFits (s : SetupFrame) : Type 0 where
  pub kind : s.kind < 2 ^ 8
  pub max_harq_tx : s.max_harq_tx < 2 ^ 8
  pub max_harq_msg3_tx : s.max_harq_msg3_tx < 2 ^ 8
  pub interval : s.interval < 2 ^ 16
  pub start : s.start < 2 ^ 64
  pub period : s.period < 2 ^ 8
  pub offset : s.offset < 2 ^ 8

-- those of a grant
pub record GrantFits (g : Grant) : Type 0 where
  pub kind : g.kind < 2 ^ 8
  pub ndi : g.ndi < 2 ^ 8
  pub mcs : g.mcs < 2 ^ 8
  pub version : g.version < 2 ^ 8
  pub process : g.process < 2 ^ 8
  pub repetitions : g.repetitions < 2 ^ 8
  pub resource : g.resource < 2 ^ 16
  pub size : g.size < 2 ^ 16

abbrev pub GrantedFits : Option Grant → Type 0
GrantedFits None = Unit {0}
GrantedFits (Some g) = GrantFits g

-- those of a frame; every frame of the code is such a one
abbrev pub FrameFits : Plain → Type 0
FrameFits (setup s) = SetupFits s
FrameFits (subframe a g) = GrantedFits g
FrameFits (deposit d) = Unit {0}
FrameFits withdrawal = Unit {0}
FrameFits (packet d) = Unit {0}

-- a frame that is written as a line is what that line reads as
abbrev pub WrittenReads : Type 0
WrittenReads = (p : Plain) (l : List ℕ) → FrameFits p → line_of p ≡ Ok l → reads l ≡ Ok p

-- a line that reads as a frame is what that frame is written as
abbrev pub ReadWrites : Type 0
ReadWrites = (l : List ℕ) (p : Plain) → reads l ≡ Ok p → line_of p ≡ Ok l

-- no line reads as the frame
abbrev pub Unread : Plain → Type 0
Unread p = (l : List ℕ) → reads l ≢ Ok p

-- the frames that are refused are those that no line reads as
abbrev pub RefusedUnread : Type 0
RefusedUnread = (p : Plain) → FrameFits p → (line_of p ≡ Err NotFrame → Unread p) × (Unread p → line_of p ≡ Err NotFrame)

-- no two lines read as one frame
abbrev pub OneSpelling : Type 0
OneSpelling = (l m : List ℕ) (p : Plain) → reads l ≡ Ok p → reads m ≡ Ok p → l ≡ m

-- every line that reads as the frame is longer than the stretch; so it is where no line does
abbrev pub NoLineFits : List ℕ → Plain → Type 0
NoLineFits o p = (l : List ℕ) → reads l ≡ Ok p → length o < length l
