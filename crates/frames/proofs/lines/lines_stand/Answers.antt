use Rattle.frames.proofs.Joining.{joins, frees}
use Rattle.frames.proofs.lines.lines_stand.Goals as goal

pub returns : goal.returns
returns c = λ t. (joins t, frees t)
