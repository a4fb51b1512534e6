use Rattle.std.proofs.Common.{rules, tests}
use Rattle.cell.proofs.cell.Cell.ask_of_grant.Goals as goal

pub returns-then-is_within_bundle : goal.returns-then-is_within_bundle
returns-then-is_within_bundle c = search (tests, rules)

pub returns : goal.returns
returns c = search (tests, rules)
