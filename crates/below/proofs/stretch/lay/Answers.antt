use Rattle.std.proofs.Common.{rules}
use Rattle.std.proofs.lemmas.List.{drop-replicate, take_at}
use Rattle.below.proofs.stretch.lay.Goals as goal

pub returns : goal.returns
returns c =
    let zeros = c.fill.ensures.after (λ y h. h) in
    record { whole = search (rules, drop-replicate); front = search (rules, take_at) }
