-- Set-up: its questions, and what a cell is then.
use Rattle.std.specs.Prelude.{ℕ, ◌^◌, Bool, true, false, cond, ◌&&◌, ◌||◌, List, [], ◌∷◌, replicate, Some, None, Ok, Err, Option, Result, ◌==◌, nat_le, nat_lt}
use Rattle.terms.specs.declared.answer.Refusal.{Refusal}
use Rattle.terms.specs.declared.answer.Refusal.TheVariants as refusal
use Rattle.terms.specs.declared.setup.CellKind.{CellKind}
use Rattle.terms.specs.declared.setup.CellKind.TheVariants.{Plain, Bundled, Asynchronous}
use Rattle.terms.specs.declared.setup.Setup.{Setup}
use Rattle.terms.specs.declared.state.State.{State}
use Rattle.terms.specs.Numbers.{cell_kind_of}
use Rattle.rules.specs.Process.{idle}

-- Questions in their order, each with the refusal that a no brings; the first no ends the call.
abbrev pub first_no : List (Bool × Refusal) → Result (Unit {0}) Refusal
first_no [] = Ok tt
first_no (q ∷ qs) = cond q.0 (first_no qs) (Err q.1)

-- every question is answered yes
abbrev pub all_yes : List (Bool × Refusal) → Bool
all_yes [] = true
all_yes (q ∷ qs) = q.0 && all_yes qs

abbrev pub within : ℕ → ℕ → ℕ → Bool
within least most n = nat_le least n && nat_le n most

abbrev pub is_plain : CellKind → Bool
is_plain Plain = true
is_plain Bundled = false
is_plain Asynchronous = false

-- the questions after the first, which asks for one of the three kinds
abbrev pub set_up_questions : Setup → List (Bool × Refusal)
set_up_questions su =
    (within 1 28 su.max_harq_tx && within 1 8 su.max_harq_msg3_tx, refusal.Maximum)
    ∷ (su.interval == 0 || (within 1 640 su.interval && is_plain su.kind), refusal.Interval)
    ∷ (nat_lt su.start (2 ^ 48), refusal.Start)
    ∷ []

-- every question of set-up after its first is answered yes
unfoldable pub set_up_holds : Setup → Bool
set_up_holds su = all_yes (set_up_questions su)

-- the state at set-up
abbrev pub fresh_state : ℕ → State
fresh_state start = record { processes = replicate 8 idle; configured = None; repetition = None; msg3 = None; tally = record { packets = 0; sendings = 0 }; clock = start }

abbrev pub accepted : Setup → Result (Unit {0}) Refusal → Result Setup Refusal
accepted su (Ok u) = Ok su
accepted su (Err e) = Err e

abbrev pub set_up_kind : Option CellKind → ℕ → ℕ → ℕ → ℕ → Result Setup Refusal
set_up_kind None tx msg3tx interval start = Err refusal.CellKind
set_up_kind (Some k) tx msg3tx interval start =
    let su : Setup = record { kind = k; max_harq_tx = tx; max_harq_msg3_tx = msg3tx; interval = interval; start = start } in
    accepted su (first_no (set_up_questions su))

-- the set-up that a call gives: kind, maxHARQ-Tx, maxHARQ-Msg3Tx, interval, start
abbrev pub set_up : ℕ → ℕ → ℕ → ℕ → ℕ → Result Setup Refusal
set_up kind tx msg3tx interval start = set_up_kind (cell_kind_of kind) tx msg3tx interval start
