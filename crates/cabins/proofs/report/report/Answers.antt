use Rattle.std.proofs.Common.{rules}
use Rattle.cabins.specs.Reports.{report_of}
use Rattle.cabins.proofs.report.report.Goals as goal

pub returns-in-Some : goal.returns-in-Some
unfolding report_of
returns-in-Some c = search rules

pub returns : goal.returns
unfolding report_of
returns c = search rules
