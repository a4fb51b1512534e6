-- One text after another.
use Rattle.std.proofs.Common.{◌≡◌, ℕ, ◌-◌, ◌≤◌, min, ◌⊎◌, List, [], ◌∷◌, ◌++◌, length, take, sym, refl, ap, ◌∙◌, inl, inr, append_assoc, arith}
use Rattle.std.proofs.lemmas.List.{take_all}
use Rattle.hexadecimal.specs.Hex.{digits_of, encoded}
use Rattle.trace.specs.Texts.{line_text}

pub then : (v v₁ v₂ a b : List ℕ) → v₁ ≡ v ++ a → v₂ ≡ v₁ ++ b → v₂ ≡ v ++ (a ++ b)
then v v₁ v₂ a b e f = f ∙ ap (λ x. x ++ b) e ∙ append_assoc v a b

-- the text of some bytes and of others
encoded_append : (a b : List ℕ) → encoded (a ++ b) ≡ encoded a ++ encoded b
unfolding encoded
encoded_append [] b = refl
encoded_append (x ∷ xs) b = ap (λ t. digits_of x ++ t) (encoded_append xs b)

-- the text of some bytes, and then a line of others, make a line of both
pub then_line : (v v₁ v₂ a b : List ℕ) → v₁ ≡ v ++ encoded a → v₂ ≡ v₁ ++ line_text b → v₂ ≡ v ++ line_text (a ++ b)
then_line v v₁ v₂ a b e f =
    then v v₁ v₂ (encoded a) (line_text b) e f ∙ ap (λ t. v ++ t) (sym (append_assoc (encoded a) (encoded b) (10 ∷ [])) ∙ ap (λ t. t ++ 10 ∷ []) (sym (encoded_append a b)))

-- the front of a text of some length at most
pub front : (xs : List ℕ) (k n : ℕ) → k ≡ min (length xs) n → take (k - 0) xs ≡ take n xs
front xs k n e = go (order n (length xs))
  where
    order : (a b : ℕ) → (a ≤ b) ⊎ (b ≤ a)
    order a b = search arith

    go : (n ≤ length xs) ⊎ (length xs ≤ n) → take (k - 0) xs ≡ take n xs
    go (inl h) = let z : k - 0 ≡ n = omega arith in ap (λ x. take x xs) z
    go (inr h) = take_all (k - 0) xs (omega arith) ∙ sym (take_all n xs h)
