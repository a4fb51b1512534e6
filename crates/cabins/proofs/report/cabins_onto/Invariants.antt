use Rattle.std.proofs.Common.{◌≡◌, ◌++◌, vec_items}
use Rattle.std.specs.Iterator.Adapters.{zip_first, zip_second}
use Rattle.std.specs.Slice.Iter.{iter_rest}
use Rattle.frames.specs.Lines.{lines_of}
use Rattle.frames.specs.Walks.{lines_left}
use Rattle.cabins.specs.Reports.{cabin_lines}
use Rattle.cabins.proofs.report.cabins_onto.Given as goal

-- the lines so far, and those to come
abbrev pub invariant-loop-line : goal.invariant-loop-line
invariant-loop-line l = vec_items l.out ++ cabin_lines (lines_left (zip_first l.line-iterator)) (iter_rest (zip_second l.line-iterator)) ≡ vec_items l.initial.out ++ cabin_lines (lines_of l.input) l.tallies
