use Rattle.std.proofs.Common.{◌≡◌, true, drop, Some, None, slice_get, sym, ◌∙◌, rules}
use Rattle.hexadecimal.specs.Hex.{whole, decoded}
use Rattle.frames.proofs.Reading.{coded, uncoded, unread, first_byte}
use Rattle.frames.proofs.read.frame_of.Goals as goal

pub returns-in_err-code : goal.returns-in_err-code
returns-in_err-code c =
    let l = c.args.line.now in
    let w : whole l ≡ true = search rules in
    let n : slice_get (decoded l) 0 ≡ None = search rules in
    let e = unread l w n in
    search rules

pub returns-in_err-try_from : goal.returns-in_err-try_from
returns-in_err-try_from c =
    let l = c.args.line.now in
    let w : whole l ≡ true = search rules in
    let n : slice_get (decoded l) 0 ≡ Some c.in_ok-code.code = search rules in
    let b = first_byte l c.in_ok-code.code w n in
    let e = c.in_err-try_from.ensures in
    let u = uncoded (decoded l) (drop 2 l) (rw b.is e.0) in
    search rules

pub framed-requires : goal.framed-requires
framed-requires c =
    let l = c.args.line.now in
    let w : whole l ≡ true = search rules in
    let n : slice_get (decoded l) 0 ≡ Some c.in_ok-code.code = search rules in
    (first_byte l c.in_ok-code.code w n).long

pub returns : goal.returns
returns c =
    let l = c.args.line.now in
    let w : whole l ≡ true = search rules in
    let n : slice_get (decoded l) 0 ≡ Some c.in_ok-code.code = search rules in
    let b = first_byte l c.in_ok-code.code w n in
    c.framed.ensures ∙ sym (coded c.in_ok-try_from.field-0 (decoded l) (drop 2 l) (b.is ∙ c.in_ok-try_from.ensures)) ∙ sym b.reads_as
