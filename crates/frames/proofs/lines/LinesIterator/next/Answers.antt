use Rattle.std.proofs.Common.{◌≡◌, true, eqb, length, rules, eqb-true}
use Rattle.frames.proofs.Cutting.{lines_none, after_none, lines_step}
use Rattle.frames.proofs.lines.LinesIterator.next.Goals as goal

pub returns-then-is_empty : goal.returns-then-is_empty
returns-then-is_empty c =
    let l = c.args.self.now.rest.now in
    let t : eqb (length l) 0 ≡ true = search rules in
    let e = lines_none l (eqb-true (length l) 0 t) in
    let a = after_none l (eqb-true (length l) 0 t) in
    search rules

pub returns : goal.returns
returns c = let e = lines_step c.args.self.now.rest.now (search rules) in search rules
