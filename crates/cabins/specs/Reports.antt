-- The whole report.
use Rattle.std.specs.Prelude.{ℕ, List, [], ◌∷◌, ◌++◌, Some, None, Ok, Err, Option, Result}
use Rattle.terms.specs.Numbers.{refusal_number}
use Rattle.terms.specs.declared.answer.Refusal.{Refusal}
use Rattle.terms.specs.declared.tally.Tally.{Tally}
use Rattle.site.specs.Sites.{site_answer, site_after}
use Rattle.cabins.specs.Entries.{word_of}
use Rattle.cabins.specs.Lists.{first_unreadable, tallies_of}
use Rattle.cabins.specs.Texts.{cabin_line, site_line, unreadable_line, refusal_line}

-- a line for each cabin: the name from the list, the rest from the tally
unfoldable pub cabin_lines : List (List ℕ) → List Tally → List ℕ
cabin_lines [] ts = []
cabin_lines (l ∷ ls) [] = []
cabin_lines (l ∷ ls) (t ∷ ts) = cabin_line (word_of l) t ++ cabin_lines ls ts

-- the answer of the site call, with the tallies that it left
abbrev pub answered : List (List ℕ) → List Tally → Result ℕ Refusal → List ℕ
answered ls ts (Ok f) = cabin_lines ls ts ++ site_line f
answered ls ts (Err e) = refusal_line (refusal_number e)

abbrev pub site_report : List (List ℕ) → List Tally → List ℕ
site_report ls ts = answered ls (site_after ts) (site_answer ts)

abbrev pub report_or : List (List ℕ) → Option ℕ → List ℕ
report_or ls (Some n) = unreadable_line n
report_or ls None = site_report ls (tallies_of ls)

-- the report of a list, by its lines
unfoldable pub report_of : List (List ℕ) → List ℕ
report_of ls = report_or ls (first_unreadable 1 ls)
