use Rattle.runs.proofs.examples_stand.Goals as goal
use Rattle.runs.proofs.Examples.{examples}

pub returns : goal.returns
returns c = examples
