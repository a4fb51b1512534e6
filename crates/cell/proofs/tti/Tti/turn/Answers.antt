use Rattle.rules.specs.Invariant.{LoadedWork}
use Rattle.rules.proofs.Keeping.{sane}
use Rattle.cell.proofs.Turning.{loaded_turn, sound_turn}
use Rattle.cell.proofs.tti.Tti.turn.Given as given
use Rattle.cell.proofs.tti.Tti.turn.Goals.{After-begin-work}
use Rattle.cell.proofs.tti.Tti.turn.Goals as goal

-- the work can be done
loaded : (g : given.Over) (c : After-begin-work g) → LoadedWork c.args.self.setup c.begin-work.result
loaded g c =
    loaded_turn c.args.self.setup c.args.state.now c.args.memory.now (g.S.Source.offers c.args.source.now) c.args.g c.args.self.process c.requires.sound c.requires.sized c.args.self.one_of_eight
    c.fetch.result c.refer.result c.decide-decision.result c.begin-work.result c.fetch.ensures c.refer.ensures c.decide-decision.ensures c.begin-work.ensures.obtains c.begin-work.ensures.work

pub begin-work-requires-clause-sane : goal.begin-work-requires-clause-sane
begin-work-requires-clause-sane g c = rw c.decide-decision.ensures (sane c.args.self.setup c.args.g c.refer.result c.requires.sized)

pub conclude-conclusion-requires : goal.conclude-conclusion-requires
conclude-conclusion-requires g c = loaded g (goal.at.conclude-conclusion-requires g c).After-begin-work

pub returns-clause-sound : goal.returns-clause-sound
returns-clause-sound g c =
    sound_turn c.args.self.setup c.args.state.now c.args.memory.now (g.S.Source.offers c.args.source.now) c.args.g c.args.self.process c.requires.sound c.requires.sized c.args.self.one_of_eight
    c.args.self.clock c.args.self.gap c.begin-work.result c.conclude-conclusion.result c.rerun-repetition.result c.finish.new.state c.requires.named
    (loaded g (goal.at.returns-clause-sound g c).After-begin-work) c.conclude-conclusion.ensures.conclusion c.rerun-repetition.ensures c.finish.ensures
