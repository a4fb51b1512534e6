-- The text of an answer: each line is bytes in hexadecimal and a line feed.
use Rattle.std.specs.Prelude.{ℕ, cond, List, [], ◌∷◌, ◌++◌, Some, None, Ok, Err, Option, Result}
use Rattle.terms.specs.Numbers.{outcome_number, refusal_number}
use Rattle.terms.specs.Sendings.{Sending}
use Rattle.terms.specs.declared.answer.Outcome.{Outcome}
use Rattle.terms.specs.declared.answer.Outcome.TheVariants.{Idle, EmptyBuffer, NoPacket, Sent, Gap, Acknowledged}
use Rattle.terms.specs.declared.answer.Refusal.{Refusal}
use Rattle.terms.specs.declared.answer.Reply.{Reply}
use Rattle.slot.specs.Slots.{heading}
use Rattle.hexadecimal.specs.Hex.{encoded}
use Rattle.trace.specs.declared.session.Accepted.{Accepted}
use Rattle.trace.specs.declared.session.Accepted.TheVariants.{Replied, Deposited, Withdrawn, Packet}

abbrev pub line_text : List ℕ → List ℕ
line_text b = encoded b ++ 10 ∷ []

-- a reply: its code, outcome, process, version, given up
abbrev pub reply_bytes : Reply → List ℕ
reply_bytes r = 2 ∷ outcome_number r.outcome ∷ r.process ∷ r.version.0 ∷ cond r.given_up 1 0 ∷ []

-- a slot up to the end of its packet
abbrev pub slot_text : Sending → List ℕ
slot_text x = encoded (heading x) ++ line_text x.packet

abbrev pub sending_text : Option Sending → List ℕ
sending_text None = []
sending_text (Some x) = slot_text x

-- the slot of what was sent, where something was
abbrev pub sent_text : Outcome → Option Sending → List ℕ
sent_text Idle x = []
sent_text EmptyBuffer x = []
sent_text NoPacket x = []
sent_text Sent x = sending_text x
sent_text Gap x = []
sent_text Acknowledged x = []

abbrev pub reply_text : Reply → Option Sending → List ℕ
reply_text r x = line_text (reply_bytes r) ++ sent_text r.outcome x

abbrev pub refusal_text : Refusal → List ℕ
refusal_text e = line_text (255 ∷ refusal_number e ∷ [])

-- an accepted set-up
abbrev pub setup_text : List ℕ
setup_text = line_text (1 ∷ [])

-- an answer, with the latest instruction that the radio took
abbrev pub answer_text : Result Accepted Refusal → Option Sending → List ℕ
answer_text (Ok (Replied r)) x = reply_text r x
answer_text (Ok Deposited) x = line_text (3 ∷ [])
answer_text (Ok Withdrawn) x = line_text (4 ∷ [])
answer_text (Ok Packet) x = line_text (5 ∷ [])
answer_text (Err e) x = refusal_text e
