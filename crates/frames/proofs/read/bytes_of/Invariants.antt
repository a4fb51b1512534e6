use Rattle.std.proofs.Common.{◌≡◌, ℕ, ◌<◌, length, get_or}
use Rattle.hexadecimal.specs.Hex.{decoded}
use Rattle.frames.proofs.read.bytes_of.Given as goal

abbrev pub invariant-loop-k : goal.invariant-loop-k
invariant-loop-k g l = record { long : length l.bytes ≡ length (decoded l.line); same : (k : ℕ) → k < length l.yielded → get_or l.bytes k 0 ≡ get_or (decoded l.line) k 0 }
