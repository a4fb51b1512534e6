-- A walk over the tallies of a site, one at a time.
use Rattle.std.proofs.Common.{◌≡◌, ℕ, zero, suc, ◌+◌, ◌*◌, ◌^◌, ◌<◌, ◌≤◌, true, ◌&&◌, List, [], ◌∷◌, ◌++◌, map, length, get_or, take, drop, set, sym, refl, ap, ◌∙◌, subst, arith, rules}
use Rattle.std.proofs.lemmas.List.{take_all, drop_all, append-nil, get_or_default}
use Rattle.std.proofs.lemmas.List.Recursion.{same_from_clauses, is_sum_by, and_at}
use Rattle.std.specs.List.{list_all, sum_by}
use Rattle.std.proofs.lemmas.List.Edits.{map_over_more}
use Rattle.terms.specs.declared.tally.Tally.{Tally}
use Rattle.site.specs.Figures.{figured, no_tally, counts_hold}
use Rattle.site.specs.Sites.{total_packets, total_sendings, all_hold, is_site, all_figured, EachItsOwn}
use Rattle.site.proofs.Figuring.{figure_meant}

-- the definitions of a site are those of the library
pub all_hold_is : (ts : List Tally) → list_all counts_hold ts ≡ all_hold ts
unfolding all_hold
all_hold_is ts = same_from_clauses (list_all counts_hold) all_hold (λ t b. counts_hold t && b) refl (λ _ _. refl) (λ _ _. refl) ts

pub total_packets_is : (ts : List Tally) → total_packets ts ≡ sum_by (λ t. t.packets) ts
unfolding total_packets
total_packets_is ts = is_sum_by total_packets (λ t. t.packets) refl (λ _ _. refl) ts

pub total_sendings_is : (ts : List Tally) → total_sendings ts ≡ sum_by (λ t. t.sendings) ts
unfolding total_sendings
total_sendings_is ts = is_sum_by total_sendings (λ t. t.sendings) refl (λ _ _. refl) ts

-- the sums of counts that hold
pub totals_small : (ts : List Tally) → all_hold ts ≡ true → (total_packets ts ≤ length ts * 2 ^ 40) × (total_sendings ts ≤ length ts * 2 ^ 40)
unfolding all_hold total_packets total_sendings
totals_small [] e = (omega arith, omega arith)
totals_small (t ∷ ts) e = let h = totals_small ts (search rules) in (search rules, search rules)

-- every tally that is left has its own figure
pub each_its_own : (ts : List Tally) → EachItsOwn ts (all_figured ts)
unfolding all_figured EachItsOwn
each_its_own [] = tt
each_its_own (t ∷ ts) = (refl, refl, figure_meant t.packets t.sendings, each_its_own ts)

-- how many tallies a site has, and that their counts hold
pub site_parts : (ts : List Tally) → is_site ts ≡ true → (length ts ≤ 400) × (all_hold ts ≡ true)
site_parts ts e = (search rules, search rules)

-- the sums of a site's counts
pub site_sums : (ts : List Tally) → is_site ts ≡ true → (sum_by (λ t. t.packets) ts ≤ 400 * 2 ^ 40) × (sum_by (λ t. t.sendings) ts ≤ 400 * 2 ^ 40)
site_sums ts e =
    let s = site_parts ts e in
    let few = totals_small ts s.1 in
    (omega (arith, total_packets_is ts), omega (arith, total_sendings_is ts))

-- the counts of a tally in a list whose counts hold
pub counts_small : (ts : List Tally) (i : ℕ) → all_hold ts ≡ true → i < length ts → ((get_or ts i no_tally).packets ≤ 2 ^ 40) × ((get_or ts i no_tally).sendings ≤ 2 ^ 40)
unfolding all_hold
counts_small ts i e h = let k = and_at all_hold counts_hold refl (λ _ _. refl) ts i no_tally h e in (search rules, search rules)

-- the tallies when the walk comes to the one at i: those before it have their figures
abbrev pub figured_to : ℕ → List Tally → List Tally
figured_to i ts = map figured (take i ts) ++ drop i ts

length_figured : (ts : List Tally) (i : ℕ) → length (figured_to i ts) ≡ length ts
length_figured ts zero = refl
length_figured [] (suc i) = refl
length_figured (t ∷ ts) (suc i) = ap suc (length_figured ts i)

-- the walk goes on
pub figured_more : (ts us : List Tally) (i : ℕ) (t : Tally) → i < length ts → us ≡ figured_to i ts → t ≡ figured (get_or us i no_tally) → set us i t ≡ figured_to (i + 1) ts
figured_more ts us i t h e f =
    let l : length us ≡ length ts = ap length e ∙ length_figured ts i in
    ap (set us i) f ∙ map_over_more figured ts us i (get_or us i no_tally) h e (get_or_default us i no_tally (get_or us i no_tally) (omega arith))

pub figured_all : (ts us : List Tally) (i : ℕ) → length ts ≤ i → us ≡ figured_to i ts → us ≡ all_figured ts
unfolding all_figured
figured_all ts us i h e = e ∙ rw (take_all i ts h, drop_all i ts h, append-nil)

-- the tally that the walk comes to is as it was
pub still_there : (ts : List Tally) (i : ℕ) (d e : Tally) → i < length ts → get_or (figured_to i ts) i d ≡ get_or ts i e
still_there [] i d e h = absurd (omega arith)
still_there (t ∷ ts) zero d e h = refl
still_there (t ∷ ts) (suc i) d e h = still_there ts i d e (omega arith)

-- the walk comes to the tally at i of a site
pub come_to : (ts us : List Tally) (i : ℕ) → is_site ts ≡ true → us ≡ figured_to i ts → i < length ts → (get_or us i no_tally ≡ get_or ts i no_tally) × ((get_or us i no_tally).packets ≤ 2 ^ 40) × ((get_or us i no_tally).sendings ≤ 2 ^ 40)
come_to ts us i site e h =
    let there : get_or us i no_tally ≡ get_or ts i no_tally = ap (λ l. get_or l i no_tally) e ∙ still_there ts i no_tally no_tally h in
    let small = counts_small ts i (site_parts ts site).1 h in
    (there, subst (λ (t : Tally). t.packets ≤ 2 ^ 40) (sym there) small.0, subst (λ (t : Tally). t.sendings ≤ 2 ^ 40) (sym there) small.1)
