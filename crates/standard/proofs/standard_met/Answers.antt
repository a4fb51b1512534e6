use Rattle.standard.proofs.Conforming.{by_the_standard}
use Rattle.standard.proofs.standard_met.Goals as goal

pub returns : goal.returns
returns c = by_the_standard
