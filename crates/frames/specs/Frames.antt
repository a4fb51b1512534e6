-- The frames of a trace, as values, and the lines that they are read from.
use Rattle.std.specs.Prelude.{ℕ, ◌+◌, ◌*◌, ◌/◌, ◌%◌, cond, ◌&&◌, List, [], ◌∷◌, length, drop, Some, None, Ok, Err, Option, Result, ◌==◌, nat_le, slice_index}
use Rattle.terms.specs.declared.answer.Refusal.{Refusal}
use Rattle.terms.specs.declared.answer.Refusal.TheVariants.{NotHexadecimal, NotFrame}
use Rattle.terms.specs.declared.grant.Grant.{Grant}
use Rattle.terms.specs.declared.process.Feedback.{Feedback}
use Rattle.terms.specs.declared.process.Feedback.TheVariants.{Ack, Nack}
use Rattle.hexadecimal.specs.Hex.{whole, decoded}
use Rattle.frames.specs.declared.frame.SetupFrame.{SetupFrame}
use Rattle.frames.specs.declared.frame.Frame.{Frame}
use Rattle.frames.specs.declared.frame.Frame.TheVariants.{Setup, Subframe, Deposit, Withdrawal, Packet}

-- a frame as a value: what it borrows is a list of digits
pub data Plain : Type 0 where
  setup : SetupFrame → Plain
  subframe : Option Feedback → Option Grant → Plain
  deposit : List ℕ → Plain
  withdrawal : Plain
  packet : List ℕ → Plain

abbrev pub plain : Frame → Plain
plain (Setup s) = setup s
plain (Subframe a g) = subframe a g
plain (Deposit d) = deposit d.now
plain Withdrawal = withdrawal
plain (Packet d) = packet d.now

-- what reading answers, as a value
abbrev pub plainly : Result Frame Refusal → Result Plain Refusal
plainly (Ok f) = Ok (plain f)
plainly (Err e) = Err e

-- bytes, where there are n of them
abbrev pub exactly : ℕ → List ℕ → Result (List ℕ) Refusal
exactly n b = cond (length b == n) (Ok b) (Err NotFrame)

-- the number in two bytes, the highest first
abbrev pub two_at : List ℕ → ℕ → ℕ
two_at b k = slice_index b k * 256 + slice_index b (k + 1)

-- a number in two bytes, the highest first
abbrev pub two_bytes : ℕ → List ℕ
two_bytes n = (n / 256 % 256) ∷ (n % 256) ∷ []

-- the number in eight bytes, the highest first
abbrev pub eight_at : List ℕ → ℕ → ℕ
eight_at b k = slice_index b k * 72057594037927936 + slice_index b (k + 1) * 281474976710656 + slice_index b (k + 2) * 1099511627776 + slice_index b (k + 3) * 4294967296 + slice_index b (k + 4) * 16777216 + slice_index b (k + 5) * 65536 + slice_index b (k + 6) * 256 + slice_index b (k + 7)

-- a number in eight bytes, the highest first
abbrev pub eight_bytes : ℕ → List ℕ
eight_bytes n =
    (n / 72057594037927936 % 256) ∷ (n / 281474976710656 % 256) ∷ (n / 1099511627776 % 256) ∷ (n / 4294967296 % 256) ∷ (n / 16777216 % 256) ∷ (n / 65536 % 256) ∷ (n / 256 % 256) ∷ (n % 256) ∷ []

-- the fields of a set-up, from its bytes
abbrev pub setup_of : List ℕ → SetupFrame
setup_of b = record { kind = slice_index b 1; max_harq_tx = slice_index b 2; max_harq_msg3_tx = slice_index b 3; interval = two_at b 4; start = eight_at b 6; period = slice_index b 14; offset = slice_index b 15 }

-- the fields of a subframe's grant, from the subframe's bytes
abbrev pub grant_of : List ℕ → Grant
grant_of b = record { kind = slice_index b 2; ndi = slice_index b 3; mcs = slice_index b 4; version = slice_index b 5; process = slice_index b 6; repetitions = slice_index b 7; resource = two_at b 8; size = two_at b 10 }

-- those fields, where the subframe has 12 bytes
abbrev pub grant_in : List ℕ → Result Grant Refusal
grant_in b = cond (length b == 12) (Ok (grant_of b)) (Err NotFrame)

-- the answer of an answer byte: 0 none, 1 ACK, 2 NACK, and no other
abbrev pub answer_of : ℕ → Result (Option Feedback) Refusal
answer_of n = cond (n == 0) (Ok None) (cond (n == 1) (Ok (Some Ack)) (cond (n == 2) (Ok (Some Nack)) (Err NotFrame)))

-- a grant, or none, by how many bytes the subframe has
abbrev pub granted_in : List ℕ → Result (Option Grant) Refusal
granted_in b = cond (length b == 2) (Ok None) (cond (length b == 12) (Ok (Some (grant_of b))) (Err NotFrame))

-- a frame of code 01: 16 bytes
abbrev pub setup_in : List ℕ → Result SetupFrame Refusal
setup_in b = cond (length b == 16) (Ok (setup_of b)) (Err NotFrame)

abbrev pub setup_frame : Result SetupFrame Refusal → Result Plain Refusal
setup_frame (Ok s) = Ok (setup s)
setup_frame (Err e) = Err e

-- a frame of code 02: an answer, then nothing or a grant
abbrev pub subframe_frame : Result (Option Feedback) Refusal → Result (Option Grant) Refusal → Result Plain Refusal
subframe_frame (Ok a) (Ok g) = Ok (subframe a g)
subframe_frame (Ok a) (Err e) = Err e
subframe_frame (Err e) g = Err e

-- the frame of bytes b, whose digits after the code are d; a packet has 1 to 645 bytes after the code
abbrev pub framed : List ℕ → List ℕ → Result Plain Refusal
framed b d =
    cond (slice_index b 0 == 1) (setup_frame (setup_in b))
    (cond (slice_index b 0 == 2) (subframe_frame (answer_of (slice_index b 1)) (granted_in b))
    (cond (slice_index b 0 == 3) (Ok (deposit d))
    (cond (slice_index b 0 == 4) (cond (length b == 1) (Ok withdrawal) (Err NotFrame))
    (cond (slice_index b 0 == 5) (cond (nat_le 2 (length b) && nat_le (length b) 646) (Ok (packet d)) (Err NotFrame)) (Err NotFrame)))))

-- the frame of a line; a line that is empty or not whole bytes in hexadecimal is refused before its frame is looked at
abbrev pub reads : List ℕ → Result Plain Refusal
reads l = cond (nat_le 1 (length l) && whole l) (framed (decoded l) (drop 2 l)) (Err NotHexadecimal)
