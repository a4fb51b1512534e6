use Rattle.below.proofs.Taping.{keeps}
use Rattle.below.proofs.tape.filling.tapes_keep.Goals as goal

pub returns : goal.returns
returns c = keeps
