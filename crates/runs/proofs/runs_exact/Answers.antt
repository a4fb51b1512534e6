use Rattle.runs.proofs.runs_exact.Goals as goal
use Rattle.runs.proofs.Main.{promise}

pub returns : goal.returns
returns c = λ p a. (promise p a).exact
