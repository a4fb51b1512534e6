use Rattle.std.proofs.Common.{◌≡◌, ◌++◌, vec_items}
use Rattle.std.specs.List.{flat_map}
use Rattle.frames.specs.Lines.{lines_of}
use Rattle.frames.specs.Books.{record_of}
use Rattle.frames.proofs.book.book.Given as goal

abbrev pub invariant-loop-line : goal.invariant-loop-line
invariant-loop-line l = vec_items l.records ++ flat_map record_of (lines_of l.line-iterator.rest.now) ≡ flat_map record_of (lines_of l.input)
