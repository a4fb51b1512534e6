use Rattle.std.proofs.Common.{◌≡◌, ◌++◌, vec_items}
use Rattle.hexadecimal.specs.Hex.{decoded}
use Rattle.hexadecimal.proofs.decode_onto.Given as goal

abbrev pub invariant-loop-byte : goal.invariant-loop-byte
invariant-loop-byte l = record { held : vec_items l.v ≡ vec_items l.initial.v ++ l.yielded; left : l.yielded ++ decoded l.byte-iterator.text.now ≡ decoded l.text }
