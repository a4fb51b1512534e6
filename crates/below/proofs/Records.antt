-- The records of a book: how use moves the book on.
use Rattle.std.proofs.Common.{◌≡◌, ℕ, Bool, true, false, cond, List, is_some, Some, None, Option, refl}
use Rattle.ports.specs.Source.{source_after}
use Rattle.below.specs.declared.book.Book.{Book}
use Rattle.below.specs.Book.{left, first_record, left_used, left_after, past, moved, book_offers, book_used}

-- a book moved past its first record leaves what is past it
left_moved : (b : Book) (o : Option (List ℕ)) → left (moved b o) ≡ past (left b) o
left_moved b None = refl
left_moved b (Some p) = refl

-- use of the first record leaves what is past it
pub left_book_used : (b : Book) (n : ℕ) → left (book_used b n) ≡ left_used (left b)
left_book_used b n = left_moved b (first_record (left b))

-- a book that was asked for a size leaves what the bytes left say
pub left_source_after : (b : Book) (o : Option ℕ) → left (source_after book_offers book_used b o) ≡ left_after (left b) o
left_source_after b None = refl
left_source_after b (Some n) = asked (is_some (book_offers b n))
  where
    asked : (w : Bool) → left (cond w (book_used b n) b) ≡ cond w (left_used (left b)) (left b)
    asked true = left_book_used b n
    asked false = refl
