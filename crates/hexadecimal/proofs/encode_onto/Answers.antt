use Rattle.std.proofs.Common.{◌*◌, vec_items, arith, rules}
use Rattle.std.proofs.lemmas.Slice.{pushed}
use Rattle.hexadecimal.specs.Hex.{encoded}
use Rattle.hexadecimal.proofs.Coding.{digits_pushed, push_all, length_encoded}
use Rattle.hexadecimal.proofs.encode_onto.Goals as goal

pub loop-byte-preserved : goal.loop-byte-preserved
loop-byte-preserved c =
    digits_pushed (vec_items c.args.v.now) (vec_items c.extend_from_slice.new.self) c.args.bytes.now c.digits_of.result c.loop-byte.byte-index (omega arith) (search rules)
    (pushed c.digits_of.result c.loop-byte.invariant c.in_ok-extend_from_slice.was c.extend_from_slice.ensures.items)

pub returns : goal.returns
returns c = record { all = push_all (vec_items c.args.v.now) (vec_items c.loop-byte.v) (encoded c.args.bytes.now) (2 * c.loop-byte.byte-index) (omega (arith, length_encoded c.args.bytes.now)) c.loop-byte.invariant; part = (2 * c.loop-byte.byte-index, c.loop-byte.invariant) }
