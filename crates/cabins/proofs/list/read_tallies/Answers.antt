use Rattle.std.proofs.Common.{rules, tests}
use Rattle.std.proofs.lemmas.Iterator.{items_from_collect}
use Rattle.std.proofs.lemmas.Iterator.Consumers.{YieldsList-from_filter_map}
use Rattle.frames.specs.Lines.{lines_of}
use Rattle.cabins.specs.Entries.{tally_of}
use Rattle.cabins.proofs.Walking.{lines_yield, tallies_are}
use Rattle.cabins.proofs.list.read_tallies.Goals as goal

pub returns : goal.returns
returns c =
    let ls = lines_of c.args.input.now in
    let e = tallies_are ls in
    let h = items_from_collect _ c.collect.ensures.ran (YieldsList-from_filter_map _ tally_of (lines_yield c.filter_map.result.iter c.args.input.now cc) c.filter_map.ensures.closure (λ x r q k. search (rules, tests))) in
    search rules
