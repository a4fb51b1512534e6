use Rattle.std.proofs.Common.{ap, ◌∙◌, arith, rules}
use Rattle.slot.specs.Slots.{decoded}
use Rattle.below.proofs.Taping.{chunk_slot, past_slots}
use Rattle.below.proofs.tape.filled.read_at.Goals as goal

pub returns-in_err-get : goal.returns-in_err-get
returns-in_err-get c = let e = past_slots c.args.bytes.now c.args.k (omega (arith, c.in_err-get.ensures.lookup)) in search rules

pub returns : goal.returns
returns c =
    let at = c.in_ok-get.ensures in
    let s = c.in_ok-get.field-0.now in
    c.decode.ensures ∙ ap decoded (chunk_slot c.args.bytes.now c.args.k s s (omega arith) (rw (← c.as_chunks.ensures.front) at.lookup.1))
