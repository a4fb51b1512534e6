use Rattle.std.proofs.Common.{◌≡◌, length, Some, None, Ok, refl, rules}
use Rattle.terms.specs.declared.answer.Refusal.TheVariants.{PacketMemory}
use Rattle.ports.specs.Radio.{has_room}
use Rattle.rules.specs.Entity.{process_of}
use Rattle.rules.specs.Questions.{questioned}
use Rattle.rules.specs.Subframe.{heard}
use Rattle.cell.proofs.Calling.{Stages, sound_cell, accepted_cell, sound_idle, prepared}
use Rattle.cell.proofs.Answering.{refused, done}
use Rattle.cell.proofs.cell.Cell.subframe.Given as given
use Rattle.cell.proofs.cell.Cell.subframe.Goals.{In_ok-memory, After-store-self}
use Rattle.cell.proofs.cell.Cell.subframe.Goals as goal

-- packet memory has its length, and is lent as it is
lent : (g : given.Over) (c : In_ok-memory g) → (length c.args.memory.now ≡ 5805) × (c.in_ok-memory.memory.now ≡ c.args.memory.now)
lent g c = (search rules, search rules)

-- every question was answered yes
yes : (g : given.Over) (c : After-store-self g) → length c.args.memory.now ≡ 5805
    → Ok tt ≡ questioned c.args.self.now.setup c.args.self.now.state (length c.args.memory.now) (has_room (g.R.Radio.radioed c.args.radio.now)) (g.G.GapPlan.covered c.args.gaps.now c.args.self.now.state.clock) c.args.answer c.args.grant
yes g c l = search rules

-- the process whose answers fall in the subframe heard them, or the gap
hears : (g : given.Over) (c : After-store-self g) → c.take_answer.new.state ≡ heard c.args.self.now.setup c.args.self.now.state (g.G.GapPlan.covered c.args.gaps.now c.args.self.now.state.clock) c.args.answer
hears g c = rw c.covers-gap.ensures at c.take_answer.ensures

-- what the stages returned
abbrev stages : (g : given.Over) (c : After-store-self g) → length c.args.memory.now ≡ 5805
    → Stages c.args.self.now.setup c.args.self.now.state (length c.args.memory.now) (has_room (g.R.Radio.radioed c.args.radio.now)) (g.G.GapPlan.covered c.args.gaps.now c.args.self.now.state.clock) c.args.answer c.args.grant
stages g c l = record { hears = c.take_answer.new.state; in_force = c.force-g.result; stores = c.store-self.result; yes = yes g c l; hears_is = hears g c; in_force_is = c.force-g.ensures; stores_is = c.store-self.ensures }

pub invariant_of-tti : goal.invariant_of-tti
invariant_of-tti g c =
    let p = goal.at.invariant_of-tti g c in
    let z = prepared (stages g p.After-store-self (lent g p.In_ok-memory).0) c.in-Some.ensures c.in-Some.process refl (sound_cell c.args.self.now) in
    record { below_end = z.clock; one_of_eight = z.bound }

pub invariant_of-roomy : goal.invariant_of-roomy
invariant_of-roomy g c =
    let p = goal.at.invariant_of-roomy g c in
    let z = prepared (stages g p.After-store-self (lent g p.In_ok-memory).0) c.in-Some.ensures c.in-Some.process refl (sound_cell c.args.self.now) in
    record { room = z.room }

pub turn-requires : goal.turn-requires
turn-requires g c =
    let p = goal.at.turn-requires g c in
    let z = prepared (stages g p.After-store-self (lent g p.In_ok-memory).0) c.in-Some.ensures c.in-Some.process refl (sound_cell c.args.self.now) in
    record { clock = z.same_clock; sound = z.sound; sized = z.sized; named = z.named }

pub invariant_of-self : goal.invariant_of-self
invariant_of-self g c =
    let p = goal.at.invariant_of-self g c in
    let eo : None ≡ process_of c.args.self.now.setup.kind c.args.self.now.state.clock c.force-g.result c.take_answer.new.state.repetition = search rules in
    record {
      accepted = c.args.self.now.accepted;
      sound = sound_idle (stages g p.After-store-self (lent g p.In_ok-memory).0) eo (sound_cell c.args.self.now);
    }

pub returns-in_err-memory-clause-promise : goal.returns-in_err-memory-clause-promise
returns-in_err-memory-clause-promise g c =
    let z = refused g.S.Source.offers g.S.Source.used c.args.self.now.setup c.args.self.now.state c.args.memory.now (g.R.Radio.radioed c.args.radio.now) c.args.source.now (g.G.GapPlan.covered c.args.gaps.now)
    c.args.answer c.args.grant (accepted_cell c.args.self.now) PacketMemory (search rules) in
    z.promise

pub returns-in_err-ask-clause-promise : goal.returns-in_err-ask-clause-promise
returns-in_err-ask-clause-promise g c =
    let h = lent g (goal.at.returns-in_err-ask-clause-promise g c).In_ok-memory in
    let z = refused g.S.Source.offers g.S.Source.used c.args.self.now.setup c.args.self.now.state c.args.memory.now (g.R.Radio.radioed c.args.radio.now) c.args.source.now (g.G.GapPlan.covered c.args.gaps.now)
    c.args.answer c.args.grant (accepted_cell c.args.self.now) c.in_err-ask.field-0.0 (search rules) in
    rw h.1 z.promise

pub returns-in_default : goal.returns-in_default
returns-in_default g c =
    let p = goal.at.returns-in_default g c in
    let h = lent g p.In_ok-memory in
    let eo : None ≡ process_of c.args.self.now.setup.kind c.args.self.now.state.clock c.force-g.result c.take_answer.new.state.repetition = search rules in
    let z = done g.S.Source.offers g.S.Source.used c.args.self.now.setup c.args.self.now.state c.args.memory.now (g.R.Radio.radioed c.args.radio.now) c.args.source.now (g.G.GapPlan.covered c.args.gaps.now)
    c.args.answer c.args.grant (accepted_cell c.args.self.now) (stages g p.After-store-self h.0) None eo tt _ refl in
    rw h.1 (record { whole = z.whole; setup = refl; promise = z.promise; latest = z.latest; standard = z.standard; lender = refl })

pub returns : goal.returns
returns g c =
    let p = goal.at.returns g c in
    let h = lent g p.In_ok-memory in
    let z = done g.S.Source.offers g.S.Source.used c.args.self.now.setup c.args.self.now.state c.args.memory.now (g.R.Radio.radioed c.args.radio.now) c.args.source.now (g.G.GapPlan.covered c.args.gaps.now)
    c.args.answer c.args.grant (accepted_cell c.args.self.now) (stages g p.After-store-self h.0) (Some c.in-Some.process) c.in-Some.ensures c.turn.ensures.fits _ (rw (h.1, c.covers-gap.ensures) at c.turn.ensures.whole) in
    record { whole = z.whole; setup = refl; promise = z.promise; latest = z.latest; standard = z.standard; lender = c.turn.ensures.lender }
