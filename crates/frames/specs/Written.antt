-- The line that a frame is written as, and what writing it leaves of a stretch.
use Rattle.std.specs.Prelude.{ℕ, Bool, cond, ◌&&◌, List, [], ◌∷◌, ◌++◌, length, Some, None, Ok, Err, Option, Result, nat_le}
use Rattle.terms.specs.declared.answer.Refusal.{Refusal}
use Rattle.terms.specs.declared.answer.Refusal.TheVariants.{NotFrame}
use Rattle.terms.specs.declared.grant.Grant.{Grant}
use Rattle.terms.specs.declared.process.Feedback.{Feedback}
use Rattle.terms.specs.declared.process.Feedback.TheVariants.{Ack, Nack}
use Rattle.hexadecimal.specs.Hex.{whole, decoded, encoded, has_room, laid}
use Rattle.frames.specs.declared.frame.SetupFrame.{SetupFrame}
use Rattle.frames.specs.Frames.{Plain, setup, subframe, deposit, withdrawal, packet, two_bytes, eight_bytes}

-- bytes in hexadecimal, and then digits
abbrev pub spelled : List ℕ → List ℕ → List ℕ
spelled b d = encoded b ++ d

-- the bytes of a set-up, with its code
unfoldable pub setup_bytes : SetupFrame → List ℕ
setup_bytes s = 1 ∷ s.kind ∷ s.max_harq_tx ∷ s.max_harq_msg3_tx ∷ (two_bytes s.interval ++ (eight_bytes s.start ++ s.period ∷ s.offset ∷ []))

-- the answer byte: 0 none, 1 ACK, 2 NACK
abbrev pub answer_byte : Option Feedback → ℕ
answer_byte None = 0
answer_byte (Some Ack) = 1
answer_byte (Some Nack) = 2

-- the bytes of a grant
unfoldable pub grant_bytes : Grant → List ℕ
grant_bytes g = g.kind ∷ g.ndi ∷ g.mcs ∷ g.version ∷ g.process ∷ g.repetitions ∷ (two_bytes g.resource ++ two_bytes g.size)

abbrev pub granted_bytes : Option Grant → List ℕ
granted_bytes None = []
granted_bytes (Some g) = grant_bytes g

-- the bytes of a subframe, with its code
abbrev pub subframe_bytes : Option Feedback → Option Grant → List ℕ
subframe_bytes a g = 2 ∷ answer_byte a ∷ granted_bytes g

-- whether digits are those of a packet: whole bytes, 1 to 645 of them
abbrev pub is_packet : List ℕ → Bool
is_packet d = whole d && (nat_le 1 (length (decoded d)) && nat_le (length (decoded d)) 645)

-- the line of a frame; a deposit has one if its digits are whole bytes, and a packet if they are those of a packet
abbrev pub line_of : Plain → Result (List ℕ) Refusal
line_of (setup s) = Ok (spelled (setup_bytes s) [])
line_of (subframe a g) = Ok (spelled (subframe_bytes a g) [])
line_of (deposit d) = cond (whole d) (Ok (spelled (3 ∷ []) d)) (Err NotFrame)
line_of withdrawal = Ok (spelled (4 ∷ []) [])
line_of (packet d) = cond (is_packet d) (Ok (spelled (5 ∷ []) d)) (Err NotFrame)

-- what writing a line to a stretch answers: the length of the line; there may be no line, or no room for it
abbrev pub written : List ℕ → Result (List ℕ) Refusal → Result ℕ Refusal
written o (Ok l) = cond (has_room o l) (Ok (length l)) (Err NotFrame)
written o (Err e) = Err e

-- the stretch after it: the line and the old rest, or the stretch as it was
abbrev pub after_writing : List ℕ → Result (List ℕ) Refusal → List ℕ
after_writing o (Ok l) = laid o l
after_writing o (Err e) = o
