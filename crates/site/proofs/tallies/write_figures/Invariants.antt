use Rattle.std.proofs.Common.{◌≡◌}
use Rattle.site.proofs.Walking.{figured_to}
use Rattle.site.proofs.tallies.write_figures.Given as goal

-- the tallies so far have their figures, and the others are as they were
abbrev pub invariant-loop-tally : goal.invariant-loop-tally
invariant-loop-tally l = l.tallies ≡ figured_to l.tally-index l.initial.tallies
