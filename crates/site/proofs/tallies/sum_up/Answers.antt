use Rattle.std.proofs.Common.{rules}
use Rattle.site.proofs.Walking.{site_sums, total_packets_is, total_sendings_is}
use Rattle.site.proofs.tallies.sum_up.Goals as goal

pub sum-requires-clause-fits : goal.sum-requires-clause-fits
sum-requires-clause-fits c =
    let few = site_sums c.args.tallies.now c.requires in search rules

pub sum-requires-2-clause-fits : goal.sum-requires-2-clause-fits
sum-requires-2-clause-fits c =
    let few = site_sums c.args.tallies.now c.requires in search rules

pub invariant_of-result : goal.invariant_of-result
invariant_of-result c =
    let few = site_sums c.args.tallies.now c.requires in search rules

pub returns-clause-packets : goal.returns-clause-packets
returns-clause-packets c =
    let a = total_packets_is c.args.tallies.now in search rules

pub returns-clause-sendings : goal.returns-clause-sendings
returns-clause-sendings c =
    let a = total_sendings_is c.args.tallies.now in search rules
