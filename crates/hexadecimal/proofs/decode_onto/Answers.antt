use Rattle.std.proofs.Common.{vec_items, rules}
use Rattle.hexadecimal.specs.Hex.{decoded}
use Rattle.hexadecimal.proofs.Coding.{partly}
use Rattle.hexadecimal.proofs.decode_onto.Goals as goal

pub returns-in_err-push-clause-part : goal.returns-in_err-push-clause-part
returns-in_err-push-clause-part c =
    partly (vec_items c.args.v.now) (vec_items c.push.new.self) (decoded c.args.text.now) c.loop-byte.yielded (decoded c.loop-byte.byte-iterator.text.now) (search rules) c.loop-byte.invariant.left
