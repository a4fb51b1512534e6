use Rattle.runs.proofs.stays_counted.Goals as goal
use Rattle.runs.proofs.Main.{counted}

pub returns : goal.returns
returns c = counted
