use Rattle.std.proofs.Common.{◌≡◌, true, rules}
use Rattle.slot.specs.Slots.{decoded, is_slot}
use Rattle.slot.proofs.Coding.{stated_parts, said_parts, Parts}
use Rattle.slot.proofs.decode.Goals as goal

pub returns-then-not-is_packet_size : goal.returns-then-not-is_packet_size
unfolding decoded
returns-then-not-is_packet_size c =
    let b = c.args.bytes.now in
    let p : Parts b c.in_ok-subframe.subframe.now c.in_ok-process.field-0-0.now c.in_ok-resource.resource.now c.in_ok-size.size.now c.in_ok-size.rest.now = search rules in
    let n = stated_parts b _ _ _ _ _ p in
    search rules

pub returns : goal.returns
unfolding decoded
returns c =
    let b = c.args.bytes.now in
    let p : Parts b c.in_ok-subframe.subframe.now c.in_ok-process.field-0-0.now c.in_ok-resource.resource.now c.in_ok-size.size.now c.in_ok-size.rest.now = search rules in
    let n = stated_parts b _ _ _ _ _ p in
    let t : is_slot b ≡ true = search rules in
    let s = said_parts b _ _ _ _ _ p in
    rw (t, ← s) (search rules)
