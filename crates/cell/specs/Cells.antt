-- A cell by its set-up and its state.
use Rattle.std.specs.Prelude.{Ok, Err, Result}
use Rattle.terms.specs.declared.answer.Refusal.{Refusal}
use Rattle.terms.specs.declared.setup.Setup.{Setup}
use Rattle.terms.specs.declared.state.State.{State}
use Rattle.rules.specs.Setup.{fresh_state}
use Rattle.cell.specs.declared.cell.Cell.{Cell}

-- what a set-up call gives: the set-up and the state
abbrev pub parts : Result Cell Refusal → Result (Setup × State) Refusal
parts (Ok c) = Ok (c.setup, c.state)
parts (Err e) = Err e

abbrev pub with_fresh_state : Result Setup Refusal → Result (Setup × State) Refusal
with_fresh_state (Ok su) = Ok (su, fresh_state su.start)
with_fresh_state (Err e) = Err e
