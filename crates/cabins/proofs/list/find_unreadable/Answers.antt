use Rattle.std.proofs.Common.{◌≡◌, inl, rules, tests}
use Rattle.std.specs.List.{position}
use Rattle.std.proofs.lemmas.Iterator.Search.{position_from_yields_List}
use Rattle.frames.specs.Lines.{lines_of}
use Rattle.cabins.proofs.Walking.{lines_yield, lines_few, unreadable, unreadable_is}
use Rattle.cabins.proofs.list.find_unreadable.Goals as goal

pub position-requires-clause-fits : goal.position-requires-clause-fits
position-requires-clause-fits c = let few = lines_few c.new.result c.args.input.now c.new.ensures in inl (search rules)

pub map-requires : goal.map-requires
map-requires c = let few = lines_few c.new.result c.args.input.now c.new.ensures in search rules

pub returns : goal.returns
returns c =
    let t = c.args.input.now in
    let e : c.position.result ≡ position unreadable (lines_of t) = position_from_yields_List unreadable c.position.new.self _ c.position.result c.position.ensures.ran (lines_yield c.new.result t c.new.ensures) (λ x b q k. search (rules, tests)) in
    let u = unreadable_is 1 (lines_of t) in
    search rules
