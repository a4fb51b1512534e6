use Rattle.std.proofs.Common.{rules}
use Rattle.frames.specs.Written.{grant_bytes}
use Rattle.frames.proofs.write.granted_bytes.Goals as goal

pub returns : goal.returns
unfolding grant_bytes
returns c = record { value = search rules; fits = search rules }
