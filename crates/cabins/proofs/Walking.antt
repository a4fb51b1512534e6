-- Walks over the lines of a list, and over the digits of a word.
use Rattle.std.proofs.Common.{◌≡◌, ℕ, suc, ◌+◌, ◌<◌, ◌≤◌, ◌⊎◌, inl, inr, Bool, true, false, cond, not, eqb, nat_lt, List, [], ◌∷◌, ◌++◌, length, get_or, drop, is_some, Some, None, Option, sym, refl, ap, ◌∙◌, arith}
use Rattle.std.proofs.lemmas.List.{append_assoc, append-nil, at_drop_more, at_drop_all}
use Rattle.std.proofs.lemmas.Bool.Decides.{nat_tests}
use Rattle.std.proofs.lemmas.Iterator.{YieldsList}
use Rattle.std.proofs.lemmas.Iterator.Consumers.{YieldsList-from_shown}
use Rattle.frames.specs.Walks.{lines_left, GivesLine}
use Rattle.frames.specs.declared.lines.Lines.{Lines}
use Rattle.std.specs.List.{position, position_or_len, filter_map, cons_option, flat_map}
use Rattle.std.specs.Option.{option_map, option_to_list}
use Rattle.terms.specs.declared.tally.Tally.{Tally}
use Rattle.frames.specs.Lines.{lines_of, before}
use Rattle.cabins.specs.Entries.{word_of, is_digit, next_value, number_on, tally_of}
use Rattle.cabins.specs.Lists.{first_unreadable, tallies_in, tallies_of}
use Rattle.cabins.specs.Texts.{cabin_line}
use Rattle.cabins.specs.Reports.{cabin_lines}

-- a walk gives the lines of the text
pub lines_yield : (s : Lines) (t : List ℕ) → s.rest.now ≡ t → YieldsList GivesLine (λ x. x.now) s (lines_of t)
lines_yield s t e = rw (← e) (YieldsList-from_shown GivesLine (λ x. x.now) lines_left (λ s t h. ap length h.0.0) (λ s x t h. h.0) s)

-- a text has no more lines than characters
few : (t : List ℕ) → length (lines_of t) ≤ length t
unfolding lines_of
few [] = omega arith
few (x ∷ xs) = go (eqb x 10) (lines_of xs) (few xs)
  where
    go : (b : Bool) (ls : List (List ℕ)) → length ls ≤ length xs → length (cond b ([] ∷ ls) (before x ls)) ≤ suc (length xs)
    go true ls h = omega arith
    go false [] h = omega arith
    go false (l ∷ ls) h = omega arith

pub lines_few : (s : Lines) (t : List ℕ) → s.rest.now ≡ t → length (lines_of s.rest.now) ≤ length t
lines_few s t e = omega (arith, few s.rest.now, ap length e)

-- the place of the first line that cannot be read, counted from n
abbrev pub unreadable : List ℕ → Bool
unreadable l = not (is_some (tally_of l))

counted_on : (n k m : ℕ) → option_map (λ i. n + 1 + i) (cond (nat_lt k m) (Some k) None) ≡ option_map (λ i. n + i) (cond (nat_lt (1 + k) (suc m)) (Some (1 + k)) None)
counted_on n k m = grind (arith, nat_tests)

found_first : (n m : ℕ) → Some n ≡ option_map (λ i. n + i) (cond (nat_lt 0 (suc m)) (Some 0) None)
found_first n m = grind (arith, nat_tests)

pub unreadable_is : (n : ℕ) (ls : List (List ℕ)) → first_unreadable n ls ≡ option_map (λ i. n + i) (position unreadable ls)
unfolding first_unreadable
unreadable_is n [] = refl
unreadable_is n (l ∷ ls) = go (is_some (tally_of l)) (unreadable_is (n + 1) ls)
  where
    k : ℕ
    k = position_or_len unreadable ls

    go : (b : Bool) → first_unreadable (n + 1) ls ≡ option_map (λ i. n + 1 + i) (position unreadable ls) → cond b (first_unreadable (n + 1) ls) (Some n) ≡ option_map (λ i. n + i) (cond (nat_lt (cond (not (not b)) (1 + k) 0) (suc (length ls))) (Some (cond (not (not b)) (1 + k) 0)) None)
    go true h = h ∙ counted_on n k (length ls)
    go false h = found_first n (length ls)

-- the tallies of the lines that can be read
pub tallies_are : (ls : List (List ℕ)) → filter_map tally_of ls ≡ tallies_of ls
unfolding tallies_of
tallies_are [] = refl
tallies_are (l ∷ ls) = go (tally_of l) (tallies_are ls)
  where
    go : (o : Option Tally) → filter_map tally_of ls ≡ flat_map tallies_in ls → cons_option o (filter_map tally_of ls) ≡ option_to_list o ++ flat_map tallies_in ls
    go None h = h
    go (Some t) h = ap (λ ts. t ∷ ts) h

-- one cabin more
pub cabins_step : (v v' : List ℕ) (ls ls' : List (List ℕ)) (l : List ℕ) (us us' : List Tally) (u : Tally) (w : List ℕ) → ls ≡ l ∷ ls' → us ≡ u ∷ us' → v' ≡ v ++ cabin_line (word_of l) u → v ++ cabin_lines ls us ≡ w → v' ++ cabin_lines ls' us' ≡ w
unfolding cabin_lines
cabins_step v v' ls ls' l us us' u w e f k h = let a = append_assoc v (cabin_line (word_of l) u) (cabin_lines ls' us') in cc

-- no line, or no cabin, is left
no_cabins : (ls : List (List ℕ)) (us : List Tally) → (ls ≡ []) ⊎ (length us ≡ 0) → cabin_lines ls us ≡ []
unfolding cabin_lines
no_cabins [] us h = refl
no_cabins (l ∷ ls) [] h = refl
no_cabins (l ∷ ls) (u ∷ us) (inl e) = cc
no_cabins (l ∷ ls) (u ∷ us) (inr e) = absurd (omega arith)

pub cabins_end : (v : List ℕ) (ls : List (List ℕ)) (us : List Tally) (w : List ℕ) → (ls ≡ []) ⊎ (length us ≡ 0) → v ++ cabin_lines ls us ≡ w → v ≡ w
cabins_end v ls us w h e = sym (append-nil v) ∙ ap (λ y. v ++ y) (sym (no_cabins ls us h)) ∙ e

-- one digit more of a word, and none
pub number_more : (n : ℕ) (w : List ℕ) (i : ℕ) → i < length w → number_on n (drop i w) ≡ cond (is_digit (get_or w i 0)) (number_on (next_value n (get_or w i 0)) (drop (i + 1) w)) None
unfolding number_on
number_more n w i h = at_drop_more (number_on n) w i 0 h

pub number_all : (n : ℕ) (w : List ℕ) (i : ℕ) → length w ≤ i → number_on n (drop i w) ≡ Some n
unfolding number_on
number_all n w i h = at_drop_all (number_on n) w i h
