-- The meaning of a book: what the bytes that are left of it offer.
use Rattle.std.specs.Prelude.{ℕ, ◌+◌, ◌*◌, ◌≤◌, Bool, cond, ◌&&◌, List, length, take, drop, is_some, Some, None, Option, nat_le, slice_index}
use Rattle.std.specs.Borrow.{Bor}
use Rattle.below.specs.Stretch.{padded}
use Rattle.below.specs.declared.book.Book.{Book}

-- the length that the first record states: two bytes, the higher first
abbrev pub stated_length : List ℕ → ℕ
stated_length l = slice_index l 0 * 256 + slice_index l 1

-- a whole record of 1 to 645 bytes stands first
abbrev pub has_record : List ℕ → Bool
has_record l = nat_le 2 (length l) && nat_le 1 (stated_length l) && nat_le (stated_length l) 645 && nat_le (2 + stated_length l) (length l)

-- the bytes of the first whole record
abbrev pub first_record : List ℕ → Option (List ℕ)
first_record l = cond (has_record l) (Some (take (stated_length l) (drop 2 l))) None

-- what the bytes of a record offer: they wait for every size from their length up to 645, with zeros after them
abbrev pub packet_offers : Option (List ℕ) → ℕ → Option (List ℕ)
packet_offers None size = None
packet_offers (Some p) size = cond (nat_le (length p) size && nat_le size 645) (Some (padded p size)) None

-- the bytes of a record, if they wait for a size
abbrev pub waiting_for : Option (List ℕ) → ℕ → Option (List ℕ)
waiting_for None size = None
waiting_for (Some p) size = cond (nat_le (length p) size && nat_le size 645) (Some p) None

-- what the bytes left offer for a size
abbrev pub left_offers : List ℕ → ℕ → Option (List ℕ)
left_offers l size = packet_offers (first_record l) size

-- the bytes past a first record with these bytes
abbrev pub past : List ℕ → Option (List ℕ) → List ℕ
past l None = l
past l (Some p) = drop (2 + length p) l

-- what is left once the first record was used
abbrev pub left_used : List ℕ → List ℕ
left_used l = past l (first_record l)

-- what is left once a packet of a size was asked for, if one was
abbrev pub left_after : List ℕ → Option ℕ → List ℕ
left_after l None = l
left_after l (Some n) = cond (is_some (left_offers l n)) (left_used l) l

-- the records that are left
abbrev pub left : Book → List ℕ
left b = b.rest.now

-- what a book offers for a size
abbrev pub book_offers : Book → ℕ → Option (List ℕ)
book_offers b = left_offers (left b)

-- a slice past its first n bytes: where it points, and what stands there
abbrev pub slice_past : Bor (List ℕ) → ℕ → Bor (List ℕ)
slice_past s n = record { ref_ptr = (s.ref_ptr.0, s.ref_ptr.1 + n); now = drop n s.now }

-- a book moved past a first record with these bytes
abbrev pub moved : Book → Option (List ℕ) → Book
moved b None = b
moved b (Some p) = record { rest = slice_past b.rest (2 + length p) }

-- a book once its first record was used, for whatever size
abbrev pub book_used : Book → ℕ → Book
book_used b size = moved b (first_record (left b))

-- the bytes of a slice, if there is one
abbrev pub slice_bytes : Option (Bor (List ℕ)) → Option (List ℕ)
slice_bytes None = None
slice_bytes (Some s) = Some s.now

-- a record with these bytes has 1 to 645 of them, and ends in what is left of the book
abbrev pub LiesIn : Book → Option (List ℕ) → Type 0
LiesIn b None = Unit {0}
LiesIn b (Some p) = (1 ≤ length p) × (length p ≤ 645) × (2 + length p ≤ length (left b))
