use Rattle.std.proofs.Common.{vec_items}
use Rattle.frames.specs.Lines.{lines_of}
use Rattle.trace.specs.Sessions.{standing_in}
use Rattle.trace.proofs.Answering.{on_end}
use Rattle.trace.proofs.answer.answer_all.Goals as goal

pub returns : goal.returns
returns c = on_end c.loop-line.trace.records.now (standing_in c.loop-line.trace.session) (vec_items c.loop-line.out) _ (lines_of c.loop-line.line-iterator.rest.now) c.in-None.ensures.steps.0.0 c.loop-line.invariant
