use Rattle.std.proofs.Common.{◌≡◌, ◌-◌, ◌≤◌, length, take, Some, None, rules}
use Rattle.hexadecimal.specs.Hex.{encoded, laid_length}
use Rattle.frames.proofs.Spelling.{no_room_for_digits, no_room_for_bytes, stays, spells}
use Rattle.frames.proofs.write.spell.Goals as goal

pub returns-in_err-room : goal.returns-in_err-room
returns-in_err-room c =
    let h : length c.args.digits.now ≤ length c.args.stretch.now → ⊥ = search rules in
    let e = no_room_for_digits c.args.stretch.now c.args.bytes.now c.args.digits.now h in
    search rules

pub returns-in_err-end : goal.returns-in_err-end
returns-in_err-end c =
    let l : length c.args.digits.now ≤ length c.args.stretch.now = search rules in
    let r : c.in_ok-room.room ≡ length c.args.stretch.now - length c.args.digits.now = search rules in
    let h : None ≡ laid_length (take c.in_ok-room.room c.args.stretch.now) (encoded c.args.bytes.now) = search rules in
    let e = no_room_for_bytes c.args.stretch.now c.args.bytes.now c.args.digits.now c.in_ok-room.room l r h in
    let s = stays c.args.stretch.now c.encode_into.new.stretch c.args.bytes.now c.in_ok-room.room h c.encode_into.ensures.after in
    search rules

pub returns : goal.returns
returns c =
    let l : length c.args.digits.now ≤ length c.args.stretch.now = search rules in
    let r : c.in_ok-room.room ≡ length c.args.stretch.now - length c.args.digits.now = search rules in
    let h : Some c.in_ok-end.end ≡ laid_length (take c.in_ok-room.room c.args.stretch.now) (encoded c.args.bytes.now) = search rules in
    let w = spells c.args.stretch.now c.encode_into.new.stretch c.copy_from_slice.new.self c.args.bytes.now c.args.digits.now c.in_ok-room.room c.in_ok-end.end l r h c.encode_into.ensures.after c.copy_from_slice.ensures.after in
    search rules
