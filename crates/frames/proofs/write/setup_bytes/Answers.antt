use Rattle.std.proofs.Common.{rules}
use Rattle.frames.specs.Written.{setup_bytes}
use Rattle.frames.proofs.write.setup_bytes.Goals as goal

pub returns : goal.returns
unfolding setup_bytes
returns c = record { value = search rules; fits = search rules }
