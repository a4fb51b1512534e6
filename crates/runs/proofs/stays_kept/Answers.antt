use Rattle.runs.proofs.stays_kept.Goals as goal
use Rattle.runs.proofs.Main.{kept}

pub returns : goal.returns
returns c = kept
