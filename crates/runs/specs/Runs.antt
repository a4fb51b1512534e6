-- Runs: any calls of a cell from its set-up on, each finding what the earlier ones left.
use Rattle.std.specs.Prelude.{◌≡◌, ℕ, ◌+◌, Bool, cond, ◌&&◌, List, [], ◌∷◌, ◌++◌, length, Some, None, Ok, Err, Option, Result, ◌==◌, nat_lt}
use Rattle.terms.specs.declared.answer.Refusal.{Refusal}
use Rattle.terms.specs.declared.setup.Setup.{Setup}
use Rattle.terms.specs.declared.grant.Grant.{Grant}
use Rattle.terms.specs.declared.process.Feedback.{Feedback}
use Rattle.terms.specs.declared.state.State.{State}
use Rattle.terms.specs.Sendings.{Sending}
use Rattle.rules.specs.Setup.{first_no, within, set_up_questions, fresh_state}
use Rattle.rules.specs.Subframe.{Given, Done, Event, deposits, subframe}
use Rattle.rules.specs.Msg3.{Left, deposit, withdrawal}

-- what is handed on from call to call: the cell's state, packet memory, and how many sendings the radio took
pub record World : Type 0 where
  pub state : State
  pub memory : List ℕ
  pub count : ℕ

-- what a subframe call brings, with what then stands below the cell
pub record Brought : Type 0 where
  pub answer : Option Feedback
  pub grant : Option Grant
  -- whether a subframe lies in a measurement gap
  pub gaps : ℕ → Bool
  -- for each size the packet that waits in the source
  pub offers : ℕ → Option (List ℕ)
  -- how many sendings the radio takes in all
  pub capacity : ℕ

pub data Call : Type 0 where
  subframe_call : Brought → Call
  -- a Msg3 deposit of these bytes
  deposit_call : List ℕ → Call
  -- a Msg3 withdrawal
  withdrawal_call : Call

-- A source offers for a size of 1 to 645 a packet of that size, or none.
abbrev pub fitting_packet : ℕ → Option (List ℕ) → Option (List ℕ)
fitting_packet n None = None
fitting_packet n (Some b) = cond (length b == n && within 1 645 n) (Some b) None

abbrev pub fitting : (ℕ → Option (List ℕ)) → ℕ → Option (List ℕ)
fitting offers n = fitting_packet n (offers n)

-- what the rules of a subframe are given: the radio can take one more where its count is below its capacity
abbrev pub given : World → Brought → Given
given w b = record { ready = nat_lt w.count b.capacity; gap = b.gaps w.state.clock; answer = b.answer; grant = b.grant; offers = fitting b.offers }

-- what an accepted call leaves, and its events, the earliest first
pub record Step : Type 0 where
  pub world : World
  pub events : List Event

-- the radio's count after a subframe
abbrev pub count_after : Option Sending → ℕ → ℕ
count_after None n = n
count_after (Some x) n = n + 1

abbrev pub subframe_step : World → Result Done Refusal → Result Step Refusal
subframe_step w (Ok d) = Ok (record { world = record { state = d.state; memory = d.memory; count = count_after d.sending w.count }; events = d.events })
subframe_step w (Err e) = Err e

abbrev pub msg3_step : World → List Event → Result Left Refusal → Result Step Refusal
msg3_step w es (Ok l) = Ok (record { world = record { state = l.state; memory = l.memory; count = w.count }; events = es })
msg3_step w es (Err e) = Err e

-- a call
abbrev pub called : Setup → World → Call → Result Step Refusal
called su w (subframe_call b) = subframe_step w (subframe su w.state w.memory (given w b))
called su w (deposit_call b) = msg3_step w (deposits b ∷ []) (deposit w.state w.memory b)
called su w withdrawal_call = msg3_step w [] (withdrawal w.state w.memory)

-- a refused call changes nothing and yields no events
abbrev pub step_of : World → Result Step Refusal → Step
step_of w (Ok s) = s
step_of w (Err e) = record { world = w; events = [] }

abbrev pub step : Setup → World → Call → Step
step su w c = step_of w (called su w c)

-- after a list of calls, the earliest first
abbrev pub world_after : Setup → World → List Call → World
world_after su w [] = w
world_after su w (c ∷ cs) = world_after su (step su w c).world cs

-- the events of a list of calls, the earliest first
abbrev pub events_of : Setup → World → List Call → List Event
events_of su w [] = []
events_of su w (c ∷ cs) = (step su w c).events ++ events_of su (step su w c).world cs

-- the past of a cell: its set-up, packet memory and the radio's count at set-up, and the calls since, the earliest first
pub record Past : Type 0 where
  pub setup : Setup
  pub memory : List ℕ
  pub count : ℕ
  pub calls : List Call

-- as it was at set-up
abbrev pub set_up_world : Past → World
set_up_world p = record { state = fresh_state p.setup.start; memory = p.memory; count = p.count }

-- as it is now
abbrev pub world_now : Past → World
world_now p = world_after p.setup (set_up_world p) p.calls

-- all that happened
abbrev pub happened : Past → List Event
happened p = events_of p.setup (set_up_world p) p.calls

-- the set-up was accepted
abbrev pub Accepted : Setup → Type 0
Accepted su = first_no (set_up_questions su) ≡ Ok tt

-- the past with one more call
abbrev pub past_with : Past → Call → Past
past_with p c = record { setup = p.setup; memory = p.memory; count = p.count; calls = p.calls ++ (c ∷ []) }
