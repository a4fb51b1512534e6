-- Each run is computed.
use Rattle.std.proofs.Common.{refl}
use Rattle.rules.proofs.worked_runs_stand.Goals as goal

pub returns : goal.returns
returns c = (refl, refl, refl, refl, refl, refl, refl, (refl, refl), refl, refl, refl, refl, refl, (refl, refl))
