use Rattle.std.proofs.Common.{◌≡◌, ◌++◌, vec_items, ap, ◌∙◌, rules}
use Rattle.terms.specs.Sendings.{sending_of, told_of}
use Rattle.trace.specs.Texts.{reply_bytes, line_text, slot_text, sent_text}
use Rattle.trace.proofs.Appending.{then}
use Rattle.trace.proofs.text.reply_onto.Goals as goal

pub returns-in_ok-slot_onto : goal.returns-in_ok-slot_onto
returns-in_ok-slot_onto c =
    let e : slot_text (sending_of c.in-Sent-Some.instruction) ≡ sent_text c.args.reply.outcome (told_of c.args.latest) = search rules in
    then (vec_items c.args.out.now) (vec_items c.line_onto.new.out) (vec_items c.slot_onto.new.out) (line_text (reply_bytes c.args.reply)) (sent_text c.args.reply.outcome (told_of c.args.latest))
    (c.in_ok-line_onto.ensures ∙ ap (λ b. vec_items c.args.out.now ++ line_text b) c.bytes_of_reply.ensures) (c.in_ok-slot_onto.ensures.text ∙ ap (λ t. vec_items c.line_onto.new.out ++ t) e)
