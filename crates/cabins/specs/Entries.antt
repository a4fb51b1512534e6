-- A line of a site's list: a cabin's name, its packets and its sendings, with a space between.
use Rattle.std.specs.Prelude.{◌≡◌, ℕ, ◌+◌, ◌-◌, ◌*◌, ◌^◌, ◌<◌, min, Bool, true, cond, not, ◌&&◌, List, [], ◌∷◌, ◌++◌, length, Some, None, decimal, Option, ◌==◌, nat_le}
use Rattle.frames.specs.Lines.{length_to, part_before, part_after}
use Rattle.terms.specs.declared.tally.Tally.{Tally}

-- how many characters stand before the first space
abbrev pub word_length : List ℕ → ℕ
word_length = length_to 32

-- what stands before the first space, and after it
abbrev pub word_of : List ℕ → List ℕ
word_of = part_before 32

abbrev pub after_word : List ℕ → List ℕ
after_word = part_after 32

abbrev pub is_digit : ℕ → Bool
is_digit c = nat_le 48 c && nat_le c 57

-- one digit more; a number above the largest of 64 bits counts as that
abbrev pub next_value : ℕ → ℕ → ℕ
next_value n c = min (n * 10 + (c - 48)) 18446744073709551615

-- the number that digits make of one that was begun
unfoldable pub number_on : ℕ → List ℕ → Option ℕ
number_on n [] = Some n
number_on n (c ∷ cs) = cond (is_digit c) (number_on (next_value n c) cs) None

-- the number that a word writes: at least one digit, and nothing else
abbrev pub number_of : List ℕ → Option ℕ
number_of w = cond (length w == 0) None (number_on 0 w)

abbrev pub tally_with : Option ℕ → Option ℕ → Option Tally
tally_with None s = None
tally_with (Some p) None = None
tally_with (Some p) (Some s) = Some (record { packets = p; sendings = s; figure = 0 })

-- the tally of a line: a name, two numbers, and no more
abbrev pub tally_of : List ℕ → Option Tally
tally_of l = cond (length (word_of l) == 0) None (tally_with (number_of (word_of (after_word l))) (number_of (after_word (after_word l))))

-- no space in a name
unfoldable pub free_of_spaces : List ℕ → Bool
free_of_spaces [] = true
free_of_spaces (x ∷ xs) = not (x == 32) && free_of_spaces xs

-- the line of a cabin with a name and two counts
abbrev pub entry : List ℕ → ℕ → ℕ → List ℕ
entry name p s = name ++ 32 ∷ (decimal p ++ 32 ∷ decimal s)

-- what is written of a cabin is read again: its name, and its counts
abbrev pub EntriesReadBack : Type 0
EntriesReadBack =
    (name : List ℕ) (p s : ℕ)
    → 0 < length name
    → free_of_spaces name ≡ true
    → p < 2 ^ 64
    → s < 2 ^ 64
    → (word_of (entry name p s) ≡ name) × (tally_of (entry name p s) ≡ Some (record { packets = p; sendings = s; figure = 0 }))
