use Rattle.std.proofs.Common.{◌≡◌, ◌+◌, ◌-◌, ◌*◌, length, ap, ◌∙◌, arith, length-drop, length-take, rules}
use Rattle.terms.specs.Sendings.{sending_of}
use Rattle.slot.specs.Slots.{decoded}
use Rattle.below.specs.Tape.{slot_at}
use Rattle.below.proofs.Taping.{put_slot, put_encoded, slot_with}
use Rattle.below.proofs.tape.filling.write_at.Goals as goal

pub returns : goal.returns
returns c =
    let b = c.args.bytes.now in
    let s = c.encode.new.stretch in
    let k = c.args.k in
    let n : 661 * k + 661 - 661 * k ≡ 661 = omega arith in
    let l : length s ≡ 661 = search (rules, length-take, length-drop) in
    record {
      answer = search (rules, length-take, length-drop);
      bytes = put_encoded b s k (661 * k + 661 - 661 * k) (sending_of c.args.instruction) n (omega arith) c.encode.ensures.bytes;
      back = λ h. ap (λ t. decoded (slot_at t k)) (put_slot b s k (661 * k + 661 - 661 * k) n) ∙ ap decoded (slot_with b s k (omega arith) l) ∙ c.encode.ensures.back h;
    }
