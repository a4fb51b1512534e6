-- The lines of a text, joined.
use Rattle.std.proofs.Common.{◌≡◌, ℕ, true, false, cond, not, ◌&&◌, eqb, List, [], ◌∷◌, ◌++◌, sym, refl, ap, ◌∙◌, inl, inr}
use Rattle.std.specs.List.{flat_map}
use Rattle.std.proofs.lemmas.Bool.{eqb-true, cases_Bool}
use Rattle.frames.specs.Lines.{lines_of, before, fed, lacking, free_of_feeds, all_free}

-- a text with something in it has a line
some_line : (x : ℕ) (xs : List ℕ) → (l : List ℕ) × (ls : List (List ℕ)) × (lines_of (x ∷ xs) ≡ l ∷ ls)
unfolding lines_of
some_line x xs = elim (eqb x 10) as (λ b. (l : List ℕ) × (ls : List (List ℕ)) × (cond b ([] ∷ lines_of xs) (before x (lines_of xs)) ≡ l ∷ ls)) [
  | true ↦ ([], lines_of xs, refl)
  | false ↦ elim (lines_of xs) as (λ v. (l : List ℕ) × (ls : List (List ℕ)) × (before x v ≡ l ∷ ls)) [ [] ↦ (x ∷ [], [], refl) | m ∷ ms ↦ (x ∷ m, ms, refl) ]
]

join_before : (x : ℕ) (v : List (List ℕ)) (l : List ℕ) (ls : List (List ℕ)) → v ≡ l ∷ ls → flat_map fed (before x v) ≡ x ∷ flat_map fed v
join_before x v l ls e = ap (λ w. flat_map fed (before x w)) e ∙ sym (ap (λ w. x ∷ flat_map fed w) e)

pub joins : (t : List ℕ) → flat_map fed (lines_of t) ≡ t ++ lacking t
unfolding lines_of lacking
joins [] = refl
joins (x ∷ []) = elim (cases_Bool (eqb x 10)) [
  | inl e ↦ ap (λ b. flat_map fed (cond b ([] ∷ []) ((x ∷ []) ∷ []))) e ∙ ap (λ n. n ∷ []) (sym (eqb-true x 10 e)) ∙ ap (λ b. x ∷ cond b [] (10 ∷ [])) (sym e)
  | inr e ↦ ap (λ b. flat_map fed (cond b ([] ∷ []) ((x ∷ []) ∷ []))) e ∙ ap (λ b. x ∷ cond b [] (10 ∷ [])) (sym e)
]
joins (x ∷ y ∷ ys) =
    let s = some_line y ys in
    let i = joins (y ∷ ys) in
    elim (cases_Bool (eqb x 10)) [
      | inl e ↦ ap (λ b. flat_map fed (cond b ([] ∷ lines_of (y ∷ ys)) (before x (lines_of (y ∷ ys))))) e ∙ ap (λ n. n ∷ flat_map fed (lines_of (y ∷ ys))) (sym (eqb-true x 10 e)) ∙ ap (λ w. x ∷ w) i
      | inr e ↦ ap (λ b. flat_map fed (cond b ([] ∷ lines_of (y ∷ ys)) (before x (lines_of (y ∷ ys))))) e ∙ join_before x (lines_of (y ∷ ys)) s.0 s.1 s.2 ∙ ap (λ w. x ∷ w) i
    ]

free_before : (x : ℕ) (v : List (List ℕ)) → eqb x 10 ≡ false → all_free (before x v) ≡ all_free v
unfolding all_free free_of_feeds
free_before x [] e = ap (λ b. (not b && true) && true) e
free_before x (l ∷ ls) e = ap (λ b. (not b && free_of_feeds l) && all_free ls) e

pub frees : (t : List ℕ) → all_free (lines_of t) ≡ true
unfolding lines_of all_free free_of_feeds
frees [] = refl
frees (x ∷ xs) = elim (cases_Bool (eqb x 10)) [
  | inl e ↦ ap (λ b. all_free (cond b ([] ∷ lines_of xs) (before x (lines_of xs)))) e ∙ frees xs
  | inr e ↦ ap (λ b. all_free (cond b ([] ∷ lines_of xs) (before x (lines_of xs)))) e ∙ free_before x (lines_of xs) e ∙ frees xs
]
