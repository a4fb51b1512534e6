use Rattle.std.proofs.Common.{rules}
use Rattle.site.proofs.Walking.{come_to, figured_more, figured_all, each_its_own}
use Rattle.site.proofs.tallies.write_figures.Goals as goal

pub of-requires : goal.of-requires
of-requires c =
    let few = come_to c.args.tallies.now c.loop-tally.tallies c.loop-tally.tally-index (search rules) c.loop-tally.invariant c.loop-tally-test.true in
    search rules

pub loop-tally-preserved : goal.loop-tally-preserved
loop-tally-preserved c = figured_more c.args.tallies.now c.loop-tally.tallies c.loop-tally.tally-index _ c.loop-tally-test.true c.loop-tally.invariant (search rules)

pub returns : goal.returns
returns c =
    let ts = c.args.tallies.now in
    let e = figured_all ts c.loop-tally.tallies c.loop-tally.tally-index c.loop-tally-test.false c.loop-tally.invariant in
    let o = each_its_own ts in
    search rules
