use Rattle.trace.proofs.Appending.{front}
use Rattle.trace.proofs.answer.answer.Goals as goal

pub returns : goal.returns
returns c = rw (front c.args.input.now c.min.result 65536 c.min.ensures) at c.answer_all.ensures
