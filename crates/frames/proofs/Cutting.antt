-- The first part of a text, and the rest.
use Rattle.std.proofs.Common.{◌≡◌, ℕ, suc, ◌+◌, ◌-◌, ◌<◌, ◌≤◌, Bool, true, false, cond, eqb, ltb, List, [], ◌∷◌, length, take, drop, Some, None, sym, refl, ap, ◌∙◌, arith}
use Rattle.std.specs.List.{position, position_or_len}
use Rattle.std.proofs.lemmas.List.{take_all, take_rest, drop_all}
use Rattle.std.proofs.lemmas.List.Recursion.{is_position_or_len}
use Rattle.frames.specs.Lines.{lines_of, before, length_to, part_before, part_after, first_length, after_first}

-- the place of the first separator is how many characters stand before it
length_is : (c : ℕ) (t : List ℕ) → length_to c t ≡ position_or_len (λ x. eqb x c) t
unfolding length_to
length_is c t = is_position_or_len (length_to c) (λ x. eqb x c) refl (λ x xs. ap (cond (eqb x c) 0) (omega arith)) t

found_at : (g : Bool) (n i : ℕ) → Some i ≡ cond g (Some n) None → i ≡ n
found_at true n i h = cc
found_at false n i h = cc

found_nowhere : (m n : ℕ) → None ≡ cond (ltb m n) (Some m) None → n ≤ m
found_nowhere m n h = grind arith

-- the parts of a text with its first separator at i
pub parts_at : (c : ℕ) (t : List ℕ) (i : ℕ) → Some i ≡ position (λ x. eqb x c) t → (take i t ≡ part_before c t) × (take (length t - (i + 1)) (drop (i + 1) t) ≡ part_after c t)
parts_at c t i h =
    let e : i ≡ length_to c t = found_at _ _ i h ∙ sym (length_is c t) in
    let s : i + 1 ≡ suc (length_to c t) = omega arith in
    (ap (λ n. take n t) e, take_rest t (i + 1) ∙ ap (λ n. drop n t) s)

-- the parts of a text without a separator
pub parts_without : (c : ℕ) (t : List ℕ) → None ≡ position (λ x. eqb x c) t → (t ≡ part_before c t) × ([] ≡ part_after c t)
parts_without c t h =
    let l : length t ≤ length_to c t = rw (length_is c t) (found_nowhere _ (length t) h) in
    (sym (take_all (length_to c t) t l), sym (drop_all (suc (length_to c t)) t (omega arith)))

pub lines_none : (l : List ℕ) → length l ≡ 0 → lines_of l ≡ []
unfolding lines_of
lines_none [] h = refl
lines_none (x ∷ xs) h = absurd (omega arith)

-- an empty text stays as it is
pub after_none : (l : List ℕ) → length l ≡ 0 → l ≡ after_first l
after_none [] h = refl
after_none (x ∷ xs) h = absurd (omega arith)

-- a text that is not empty is its first line and the lines after it
pub lines_step : (l : List ℕ) → 0 < length l → lines_of l ≡ take (first_length l) l ∷ lines_of (after_first l)
unfolding lines_of length_to
lines_step [] h = absurd (omega arith)
lines_step (x ∷ []) h =
    elim (eqb x 10) as (λ b. cond b ([] ∷ []) ((x ∷ []) ∷ []) ≡ take (cond b 0 1) (x ∷ []) ∷ lines_of (drop (suc (cond b 0 1)) (x ∷ []))) [ true ↦ refl | false ↦ refl ]
lines_step (x ∷ y ∷ ys) h =
    elim (eqb x 10) as (λ b. cond b ([] ∷ lines_of (y ∷ ys)) (before x (lines_of (y ∷ ys))) ≡ take (cond b 0 (suc (first_length (y ∷ ys)))) (x ∷ y ∷ ys) ∷ lines_of (drop (suc (cond b 0 (suc (first_length (y ∷ ys))))) (x ∷ y ∷ ys))) [
      | true ↦ refl
      | false ↦ ap (before x) (lines_step (y ∷ ys) (omega arith))
    ]
