use Rattle.std.proofs.Common.{rules, tests}
use Rattle.std.proofs.lemmas.Iterator.{YieldsList-from_slice}
use Rattle.std.proofs.lemmas.Iterator.Search.{all_from_yields_List}
use Rattle.site.specs.Figures.{counts_hold}
use Rattle.site.proofs.Walking.{all_hold_is}
use Rattle.site.proofs.tallies.is_site.Goals as goal

pub returns-then-contains : goal.returns-then-contains
returns-then-contains c =
    let e = all_from_yields_List counts_hold _ _ c.all.result c.all.ensures.ran (YieldsList-from_slice c.args.tallies.now cc) (λ x b q k. search (rules, tests)) in
    let h = all_hold_is c.args.tallies.now in
    search rules
