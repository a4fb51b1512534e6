-- The calls as calls of a run, and the worlds that they find and leave.
use Rattle.std.specs.Prelude.{◌≡◌, ℕ, Bool, List, [], ◌∷◌, Some, Ok, Err, Option, Result}
use Rattle.terms.specs.Sendings.{Sending}
use Rattle.terms.specs.declared.answer.Refusal.{Refusal}
use Rattle.terms.specs.declared.answer.Reply.{Reply}
use Rattle.terms.specs.declared.setup.Setup.{Setup}
use Rattle.terms.specs.declared.grant.Grant.{Grant}
use Rattle.terms.specs.declared.process.Feedback.{Feedback}
use Rattle.terms.specs.declared.state.State.{State}
use Rattle.ports.specs.Radio.{Radioed, told}
use Rattle.rules.specs.Subframe.{Event, answers, meets, starts, sends, flushes, deposits}
use Rattle.runs.specs.Runs.{World, Brought, Call, subframe_call, step}
use Rattle.standard.specs.Conformance.{SendsByTheStandard}

-- state, packet memory, the radio's count
abbrev pub world : State → List ℕ → ℕ → World
world st m n = record { state = st; memory = m; count = n }

-- what a subframe call brings: answer, grant, gap plan, what the source offers, the radio
abbrev pub brought_over : Option Feedback → Option Grant → (ℕ → Bool) → (ℕ → Option (List ℕ)) → Radioed → Brought
brought_over a g gaps offers r = record { answer = a; grant = g; gaps = gaps; offers = offers; capacity = r.capacity }

abbrev pub subframe_over : Option Feedback → Option Grant → (ℕ → Bool) → (ℕ → Option (List ℕ)) → Radioed → Call
subframe_over a g gaps offers r = subframe_call (record { answer = a; grant = g; gaps = gaps; offers = offers; capacity = r.capacity })

-- What the radio found and the radio left differ by is what TS 36.321 has the MAC entity transmit in the subframe, and nothing else. A refused call is no
-- subframe, and the radio is told nothing.
abbrev pub ByTheStandard : Setup → World → Brought → Result Reply Refusal → Radioed → Radioed → Type 0
ByTheStandard su w b (Ok y) r r' = SendsByTheStandard su w b (λ x. r' ≡ told r x)
ByTheStandard su w b (Err e) r r' = r' ≡ r

-- the latest of some sendings, or the one before them
abbrev pub latest_sent : List Event → Option Sending → Option Sending
latest_sent [] x = x
latest_sent (answers k t a gap ∷ es) x = latest_sent es x
latest_sent (meets k t g gap starved ∷ es) x = latest_sent es x
latest_sent (starts b ∷ es) x = latest_sent es x
latest_sent (sends y ∷ es) x = latest_sent es (Some y)
latest_sent (flushes k t ∷ es) x = latest_sent es x
latest_sent (deposits b ∷ es) x = latest_sent es x

-- the radio's latest instruction after a call: the last that the events of the call sent, or the one before the call
abbrev pub latest_after : Setup → World → Call → Option Sending → Option Sending
latest_after su w c x = latest_sent (step su w c).events x
