use Rattle.std.proofs.Common.{◌≡◌, eqb, rules, tests}
use Rattle.std.specs.List.{position}
use Rattle.std.proofs.lemmas.Iterator.{YieldsList-from_slice}
use Rattle.std.proofs.lemmas.Iterator.Search.{position_from_yields_List}
use Rattle.frames.proofs.Cutting.{parts_at, parts_without}
use Rattle.frames.proofs.lines.cut_at.Goals as goal

pub returns-in-Some : goal.returns-in-Some
returns-in-Some c =
    let t = c.args.text.now in
    let e : c.position.result ≡ position (λ x. eqb x c.args.separator) t = position_from_yields_List _ _ _ c.position.result c.position.ensures.ran (YieldsList-from_slice t cc) (λ x b q k. search (rules, tests)) in
    let p = parts_at c.args.separator t c.in-Some.end cc in
    search rules

pub returns-in-None : goal.returns-in-None
returns-in-None c =
    let t = c.args.text.now in
    let e : c.position.result ≡ position (λ x. eqb x c.args.separator) t = position_from_yields_List _ _ _ c.position.result c.position.ensures.ran (YieldsList-from_slice t cc) (λ x b q k. search (rules, tests)) in
    let p = parts_without c.args.separator t cc in
    search rules
