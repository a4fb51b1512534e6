-- The lines of a site's list, one for each cabin.
use Rattle.std.specs.Prelude.{ℕ, ◌+◌, cond, List, [], ◌∷◌, is_some, Some, None, Option}
use Rattle.std.specs.List.{flat_map}
use Rattle.std.specs.Option.{option_to_list}
use Rattle.terms.specs.declared.tally.Tally.{Tally}
use Rattle.cabins.specs.Entries.{tally_of}

-- the number of the first of some lines that cannot be read, where the first of them has the number n
unfoldable pub first_unreadable : ℕ → List (List ℕ) → Option ℕ
first_unreadable n [] = None
first_unreadable n (l ∷ ls) = cond (is_some (tally_of l)) (first_unreadable (n + 1) ls) (Some n)

-- the tally of a line, or none
abbrev pub tallies_in : List ℕ → List Tally
tallies_in l = option_to_list (tally_of l)

-- the tallies of the lines that can be read
unfoldable pub tallies_of : List (List ℕ) → List Tally
tallies_of ls = flat_map tallies_in ls
