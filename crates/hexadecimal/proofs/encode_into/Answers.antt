use Rattle.std.proofs.Common.{◌≡◌, ◌*◌, true, leb, length, arith, rules}
use Rattle.hexadecimal.specs.Hex.{encoded}
use Rattle.std.proofs.lemmas.List.{take_all}
use Rattle.std.proofs.lemmas.Bool.{leb-true}
use Rattle.hexadecimal.proofs.Coding.{length_encoded, lay_digits}
use Rattle.hexadecimal.proofs.encode_into.Goals as goal

pub returns-then-not-has_room : goal.returns-then-not-has_room
returns-then-not-has_room c = let n = length_encoded c.args.bytes.now in search rules

pub loop-k-preserved : goal.loop-k-preserved
loop-k-preserved c =
    let r : leb (2 * length c.args.bytes.now) (length c.args.stretch.now) ≡ true = search rules in
    let l = leb-true (2 * length c.args.bytes.now) (length c.args.stretch.now) r in
    let e = lay_digits c.args.bytes.now c.args.stretch.now c.loop-k.stretch c.digits_of.result c.loop-k.k (omega arith) (omega arith) c.loop-k.invariant (search rules) in
    search rules

pub returns : goal.returns
returns c =
    let r : leb (2 * length c.args.bytes.now) (length c.args.stretch.now) ≡ true = search rules in
    let n = length_encoded c.args.bytes.now in
    let k : 2 * c.loop-k.k ≡ length (encoded c.args.bytes.now) = omega arith in
    let e = take_all (2 * c.loop-k.k) (encoded c.args.bytes.now) (omega arith) in
    search rules
