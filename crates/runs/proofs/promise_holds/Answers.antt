use Rattle.runs.proofs.promise_holds.Goals as goal
use Rattle.runs.proofs.Main.{promise}

pub returns : goal.returns
returns c = promise
