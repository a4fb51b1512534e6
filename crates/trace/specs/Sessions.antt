-- A session of the program, by where its trace stands.
use Rattle.std.specs.Prelude.{◌≡◌, ℕ, ◌^◌, List, replicate, None, Some, Ok, Err, Option, Result}
use Rattle.terms.specs.declared.answer.Refusal.{Refusal}
use Rattle.rules.specs.Setup.{fresh_state}
use Rattle.below.specs.Book.{left}
use Rattle.below.specs.Mailbox.{mailbox_radioed}
use Rattle.trace.specs.Standing.{Standing, Equipment}
use Rattle.trace.specs.declared.session.Equipped.{Equipped}
use Rattle.trace.specs.Answers.{answers_on}
use Rattle.trace.specs.declared.session.Session.{Session}
use Rattle.trace.specs.declared.session.Trace.{Trace}

-- a cell fresh from set-up and its gaps, as what was set up
abbrev pub equipment_of : Equipped → Equipment
equipment_of q = record { setup = q.cell.setup; period = q.gaps.period; offset = q.gaps.offset }

abbrev pub equipment_in : Result Equipped Refusal → Result Equipment Refusal
equipment_in (Ok q) = Ok (equipment_of q)
equipment_in (Err e) = Err e

-- the state of the cell that was set up is as at set-up
abbrev pub FreshIn : Result Equipped Refusal → Type 0
FreshIn (Ok q) = q.cell.state ≡ fresh_state q.cell.setup.start
FreshIn (Err e) = Unit {0}

-- where a trace stands with these and the records of its book
abbrev pub opened : Equipped → List ℕ → Standing
opened q records = record { setup = q.cell.setup; state = q.cell.state; period = q.gaps.period; offset = q.gaps.offset; memory = replicate 5805 0; radio = record { count = 0; latest = None; capacity = 2 ^ 48 }; left = records }

abbrev pub standing_of : Session → Standing
standing_of s = record { setup = s.cell.setup; state = s.cell.state; period = s.gaps.period; offset = s.gaps.offset; memory = s.memory; radio = mailbox_radioed s.radio; left = left s.book }

-- where a trace stands with a session, if it has one
abbrev pub standing_in : Option Session → Option Standing
standing_in None = None
standing_in (Some s) = Some (standing_of s)

-- the answers to lines that come to a trace
abbrev pub answers_to : Trace → List (List ℕ) → List ℕ
answers_to t ls = answers_on t.records.now (standing_in t.session) ls
