use Rattle.std.proofs.Common.{◌≡◌, ◌*◌, ◌++◌, take, vec_items}
use Rattle.hexadecimal.specs.Hex.{encoded}
use Rattle.hexadecimal.proofs.encode_onto.Given as goal

abbrev pub invariant-loop-byte : goal.invariant-loop-byte
invariant-loop-byte l = vec_items l.v ≡ vec_items l.initial.v ++ take (2 * l.byte-index) (encoded l.bytes)
