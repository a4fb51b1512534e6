use Rattle.std.proofs.Common.{◌≡◌, ◌*◌, ◌++◌, take, drop}
use Rattle.hexadecimal.specs.Hex.{encoded}
use Rattle.hexadecimal.proofs.encode_into.Given as goal

abbrev pub invariant-loop-k : goal.invariant-loop-k
invariant-loop-k l = l.stretch ≡ take (2 * l.k) (encoded l.bytes) ++ drop (2 * l.k) l.initial.stretch
