-- The site call: from the tallies of a site's cabins to their figures and the site's.
use Rattle.std.specs.Prelude.{◌≡◌, ℕ, ◌+◌, Bool, true, cond, ◌&&◌, List, [], ◌∷◌, map, length, Ok, Err, Result, nat_le}
use Rattle.terms.specs.declared.answer.Refusal.{Refusal}
use Rattle.terms.specs.declared.answer.Refusal.TheVariants.{SiteList}
use Rattle.terms.specs.declared.tally.Tally.{Tally}
use Rattle.site.specs.Figures.{IsFigure, figure_of, figured, counts_hold}

-- the packets, and the sendings, of all cabins together
unfoldable pub total_packets : List Tally → ℕ
total_packets [] = 0
total_packets (t ∷ ts) = t.packets + total_packets ts

unfoldable pub total_sendings : List Tally → ℕ
total_sendings [] = 0
total_sendings (t ∷ ts) = t.sendings + total_sendings ts

-- every count of every tally is at most 2^40
unfoldable pub all_hold : List Tally → Bool
all_hold [] = true
all_hold (t ∷ ts) = counts_hold t && all_hold ts

-- the tallies of a site: 1 to 400, whose counts hold
abbrev pub is_site : List Tally → Bool
is_site ts = nat_le 1 (length ts) && (nat_le (length ts) 400 && all_hold ts)

-- every tally with its own figure
unfoldable pub all_figured : List Tally → List Tally
all_figured ts = map figured ts

-- the site's figure, which is that of the sums
abbrev pub site_answer : List Tally → Result ℕ Refusal
site_answer ts = cond (is_site ts) (Ok (figure_of (total_packets ts) (total_sendings ts))) (Err SiteList)

-- the tallies that the call leaves
abbrev pub site_after : List Tally → List Tally
site_after ts = cond (is_site ts) (all_figured ts) ts

-- the second list has the counts of the first in its order, each with a figure that is theirs
unfoldable pub EachItsOwn : List Tally → List Tally → Type 0
EachItsOwn [] [] = Unit {0}
EachItsOwn [] (u ∷ us) = ⊥
EachItsOwn (t ∷ ts) [] = ⊥
EachItsOwn (t ∷ ts) (u ∷ us) = (u.packets ≡ t.packets) × (u.sendings ≡ t.sendings) × IsFigure t.packets t.sendings u.figure × EachItsOwn ts us
