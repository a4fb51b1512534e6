-- The calls as a whole: the answer, and what the cell, packet memory, the radio and the source are after it.
use Rattle.std.specs.Prelude.{ℕ, Bool, List, Ok, Err, Option, Result}
use Rattle.terms.specs.declared.answer.Refusal.{Refusal}
use Rattle.terms.specs.declared.answer.Reply.{Reply}
use Rattle.terms.specs.declared.setup.Setup.{Setup}
use Rattle.terms.specs.declared.grant.Grant.{Grant}
use Rattle.terms.specs.declared.process.Feedback.{Feedback}
use Rattle.terms.specs.declared.state.State.{State}
use Rattle.ports.specs.Radio.{Radioed, has_room, told}
use Rattle.ports.specs.Source.{source_after}
use Rattle.rules.specs.Subframe.{Done, subframe}
use Rattle.rules.specs.Msg3.{Left, deposit, withdrawal}

pub record After (S : Type 0) (A : Type 0) : Type 0 where
  pub answer : A
  pub state : State
  pub memory : List ℕ
  pub radio : Radioed
  pub source : S

-- a subframe that was done, over a radio and a source: the radio took what was sent, and the source was asked for a packet, if one was wanted
abbrev pub after_done : {S A : Type 0} → (S → ℕ → Option (List ℕ)) → (S → ℕ → S) → Radioed → S → A → Done → After S A
after_done offers used r s a d = record { answer = a; state = d.state; memory = d.memory; radio = told r d.sending; source = source_after offers used s d.asked }

-- a refused call leaves everything as it was
abbrev pub after_result : {S : Type 0} → (S → ℕ → Option (List ℕ)) → (S → ℕ → S) → State → List ℕ → Radioed → S → Result Done Refusal → After S (Result Reply Refusal)
after_result offers used st m r s (Ok d) = after_done offers used r s (Ok d.reply) d
after_result offers used st m r s (Err e) = record { answer = Err e; state = st; memory = m; radio = r; source = s }

-- a subframe call: what the source offers and what use makes of it, set-up, state, packet memory, radio, source, gap, answer, grant
abbrev pub after_subframe : {S : Type 0} → (S → ℕ → Option (List ℕ)) → (S → ℕ → S) → Setup → State → List ℕ → Radioed → S → Bool → Option Feedback → Option Grant → After S (Result Reply Refusal)
after_subframe offers used su st m r s gap a g =
    after_result offers used st m r s (subframe su st m (record { ready = has_room r; gap = gap; answer = a; grant = g; offers = offers s }))

-- what a Msg3 deposit or withdrawal answers and leaves
pub record Filed : Type 0 where
  pub answer : Result (Unit {0}) Refusal
  pub state : State
  pub memory : List ℕ

-- a refused one leaves everything as it was
abbrev pub after_left : State → List ℕ → Result Left Refusal → Filed
after_left st m (Ok l) = record { answer = Ok tt; state = l.state; memory = l.memory }
after_left st m (Err e) = record { answer = Err e; state = st; memory = m }

-- state, packet memory, the packet
abbrev pub after_deposit : State → List ℕ → List ℕ → Filed
after_deposit st m b = after_left st m (deposit st m b)

abbrev pub after_withdrawal : State → List ℕ → Filed
after_withdrawal st m = after_left st m (withdrawal st m)
