use Rattle.std.proofs.Common.{◌≡◌, ◌+◌, ◌-◌, ◌++◌, true, length, drop, ap, ◌∙◌, arith, rules}
use borrow.Rule.Slice.PartMut.{put_mid}
use Rattle.terms.specs.Sendings.{sending_of, is_packet}
use Rattle.slot.specs.Slots.{heading, slot_of, decoded}
use Rattle.slot.proofs.Coding.{written, length_heading, decoded_slot}
use Rattle.slot.proofs.encode.Goals as goal

pub returns : goal.returns
unfolding slot_of
returns c =
    let x = sending_of c.args.instruction in
    let p : is_packet (length x.packet) ≡ true = search rules in
    let w : put_mid 16 (16 + length x.packet - 16) (c.copy_from_slice.new.self ++ drop 16 c.fill.new.self) c.copy_from_slice-2.new.self ≡ slot_of x =
    written (heading x) c.copy_from_slice.new.self c.fill.new.self x.packet c.copy_from_slice-2.new.self (length c.args.stretch.now) _
    (c.copy_from_slice.ensures.after ∙ c.heading_of.ensures) (length_heading x) (c.fill.ensures.after (λ y h. h)) (search rules) c.copy_from_slice-2.ensures.after (omega arith) (search rules) in
    record {
      answer = search rules;
      bytes = w ∙ search rules;
      back = λ _. ap decoded w ∙ decoded_slot x (record { subframe = search rules; resource = search rules; packet = p });
    }
