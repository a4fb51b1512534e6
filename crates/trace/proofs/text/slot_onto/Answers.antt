use Rattle.std.proofs.Common.{◌++◌, vec_items, ap, ◌∙◌}
use Rattle.terms.specs.Sendings.{sending_of}
use Rattle.slot.specs.Slots.{heading, up_to_packet}
use Rattle.hexadecimal.specs.Hex.{encoded}
use Rattle.trace.specs.Texts.{line_text}
use Rattle.trace.proofs.Appending.{then, then_line}
use Rattle.trace.proofs.text.slot_onto.Goals as goal

pub returns : goal.returns
unfolding up_to_packet
returns c =
    let before = vec_items c.args.out.now in
    let x = sending_of c.args.instruction in
    let e = c.in_ok-encode_onto.ensures.all ∙ ap (λ h. before ++ encoded h) c.heading_of.ensures in
    record {
      text = then before (vec_items c.encode_onto.new.v) (vec_items c.line_onto.new.out) (encoded (heading x)) (line_text c.args.instruction.packet.now) e c.in_ok-line_onto.ensures;
      slot = then_line before (vec_items c.encode_onto.new.v) (vec_items c.line_onto.new.out) (heading x) c.args.instruction.packet.now e c.in_ok-line_onto.ensures;
    }
