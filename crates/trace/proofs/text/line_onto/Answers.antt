use Rattle.std.proofs.Common.{[], ◌∷◌, vec_items, refl}
use Rattle.std.proofs.lemmas.Slice.{pushed}
use Rattle.hexadecimal.specs.Hex.{encoded}
use Rattle.trace.proofs.Appending.{then}
use Rattle.trace.proofs.text.line_onto.Goals as goal

pub returns : goal.returns
returns c =
    then (vec_items c.args.out.now) (vec_items c.encode_onto.new.v) (vec_items c.push.new.self) (encoded c.args.bytes.now) (10 ∷ [])
    c.in_ok-encode_onto.ensures.all (pushed (10 ∷ []) refl c.in_ok-push.was c.push.ensures.items)
