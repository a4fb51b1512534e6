use Rattle.std.proofs.Common.{rules}
use Rattle.frames.specs.Books.{book_of}
use Rattle.frames.proofs.book.book.Goals as goal

pub returns : goal.returns
unfolding book_of
returns c = search rules
