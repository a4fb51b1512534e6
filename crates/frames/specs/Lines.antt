-- The lines of a text: each ends at a line feed, which is no part of it, and the last may end with the text.
use Rattle.std.specs.Prelude.{◌≡◌, ℕ, suc, Bool, true, cond, not, ◌&&◌, List, [], ◌∷◌, ◌++◌, take, drop, ◌==◌}
use Rattle.std.specs.List.{flat_map}

-- one character more before the first line
abbrev pub before : ℕ → List (List ℕ) → List (List ℕ)
before x [] = (x ∷ []) ∷ []
before x (l ∷ ls) = (x ∷ l) ∷ ls

-- the lines of a text
unfoldable pub lines_of : List ℕ → List (List ℕ)
lines_of [] = []
lines_of (x ∷ xs) = cond (x == 10) ([] ∷ lines_of xs) (before x (lines_of xs))

-- how many characters stand before the first separator
unfoldable pub length_to : ℕ → List ℕ → ℕ
length_to c [] = 0
length_to c (x ∷ xs) = cond (x == c) 0 (suc (length_to c xs))

-- what stands before the first separator, and after it
abbrev pub part_before : ℕ → List ℕ → List ℕ
part_before c t = take (length_to c t) t

abbrev pub part_after : ℕ → List ℕ → List ℕ
part_after c t = drop (suc (length_to c t)) t

-- how many characters stand before the first line feed
abbrev pub first_length : List ℕ → ℕ
first_length = length_to 10

-- what stands after the first line feed
abbrev pub after_first : List ℕ → List ℕ
after_first = part_after 10

-- a line with its line feed
abbrev pub fed : List ℕ → List ℕ
fed l = l ++ 10 ∷ []

-- the line feed that a text lacks at its end, if it does
unfoldable pub lacking : List ℕ → List ℕ
lacking [] = []
lacking (x ∷ []) = cond (x == 10) [] (10 ∷ [])
lacking (x ∷ y ∷ ys) = lacking (y ∷ ys)

-- no line feed in a line, and in none of several
unfoldable pub free_of_feeds : List ℕ → Bool
free_of_feeds [] = true
free_of_feeds (x ∷ xs) = not (x == 10) && free_of_feeds xs

unfoldable pub all_free : List (List ℕ) → Bool
all_free [] = true
all_free (l ∷ ls) = free_of_feeds l && all_free ls

-- the lines with their line feeds are the text, and no line has one inside
abbrev pub LinesMakeTheText : Type 0
LinesMakeTheText = (t : List ℕ) → (flat_map fed (lines_of t) ≡ t ++ lacking t) × (all_free (lines_of t) ≡ true)
