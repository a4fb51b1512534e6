-- The Msg3 buffer: a deposit fills it for the packet of a Random Access Response grant, a withdrawal empties it.
use Rattle.std.specs.Prelude.{ℕ, Bool, not, List, [], ◌∷◌, length, is_some, Some, None, Ok, Err, Option, Result, ◌==◌}
use Rattle.terms.specs.declared.answer.Refusal.{Refusal}
use Rattle.terms.specs.declared.answer.Refusal.TheVariants as refusal
use Rattle.terms.specs.declared.state.State.{State}
use Rattle.rules.specs.Memory.{written}
use Rattle.rules.specs.Setup.{first_no, within}

-- what a deposit or a withdrawal leaves
pub record Left : Type 0 where
  pub state : State
  pub memory : List ℕ

-- a state with another length of the packet in the Msg3 buffer; the clock stays
abbrev pub with_msg3 : State → Option ℕ → State
with_msg3 st n = record { processes = st.processes; configured = st.configured; repetition = st.repetition; msg3 = n; tally = st.tally; clock = st.clock }

abbrev pub left_unless_refused : Result (Unit {0}) Refusal → Left → Result Left Refusal
left_unless_refused (Ok u) l = Ok l
left_unless_refused (Err e) l = Err e

-- length of packet memory, of the packet, and of the one in the Msg3 buffer
abbrev pub deposit_questions : ℕ → ℕ → Option ℕ → List (Bool × Refusal)
deposit_questions n length msg3 =
    ((n == 5805), refusal.PacketMemory)
    ∷ (within 1 645 length, refusal.PacketLength)
    ∷ (not (is_some msg3), refusal.Msg3Held)
    ∷ []

-- an accepted deposit: the packet is copied to the front of the ninth stretch
abbrev pub deposit_done : State → List ℕ → List ℕ → Left
deposit_done st m b = record { state = with_msg3 st (Some (length b)); memory = written m 8 b }

-- a Msg3 deposit: state, packet memory, the packet
abbrev pub deposit : State → List ℕ → List ℕ → Result Left Refusal
deposit st m b = left_unless_refused (first_no (deposit_questions (length m) (length b) st.msg3)) (deposit_done st m b)

abbrev pub withdrawal_questions : Option ℕ → List (Bool × Refusal)
withdrawal_questions msg3 = (is_some msg3, refusal.Msg3Empty) ∷ []

-- an accepted withdrawal: packet memory stays as it is
abbrev pub withdrawal_done : State → List ℕ → Left
withdrawal_done st m = record { state = with_msg3 st None; memory = m }

-- a Msg3 withdrawal
abbrev pub withdrawal : State → List ℕ → Result Left Refusal
withdrawal st m = left_unless_refused (first_no (withdrawal_questions st.msg3)) (withdrawal_done st m)
