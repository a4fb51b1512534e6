-- What a write to one stretch of packet memory leaves in it and in the others.
use Rattle.std.proofs.Common.{◌≡◌, ℕ, ◌+◌, ◌-◌, ◌*◌, ◌<◌, ◌≤◌, ◌≢◌, ◌⊎◌, List, ◌++◌, length, take, drop, sym, refl, ap, ◌∙◌, inl, inr, append_assoc, arith, length-append, length-drop, take-append-drop, length-take-le, drop-drop, take_at, drop_at}
use lib.Seq.{take-append-le, drop-append-le, drop-append-add}
use Rattle.rules.specs.Memory.{part, written}

-- a part that lies in the front
front : (xs ys : List ℕ) (a n : ℕ) → a + n ≤ length xs → take n (drop a (xs ++ ys)) ≡ take n (drop a xs)
front xs ys a n h =
    let h₁ : a ≤ length xs = omega arith in
    let h₂ : n ≤ length (drop a xs) = simp length-drop (omega arith) in
    ap (take n) (drop-append-le a xs ys h₁) ∙ take-append-le n (drop a xs) ys h₂

behind : (xs ys : List ℕ) (a : ℕ) → length xs ≤ a → drop a (xs ++ ys) ≡ drop (a - length xs) ys
behind xs ys a h =
    let e : a ≡ length xs + (a - length xs) = omega arith in
    ap (λ n. drop n (xs ++ ys)) e ∙ drop-append-add xs ys (a - length xs)

module _ (m : List ℕ) (k : ℕ) (b : List ℕ) (whole : length m ≡ 5805) (fits : k ≤ 8) (short : length b ≤ 645) where
  head_length : length (take (645 * k) m) ≡ 645 * k
  head_length = length-take-le (645 * k) m (omega arith)

  pub part_written : part (written m k b) k (length b) ≡ b
  part_written =
      ap (take (length b)) (drop_at (take (645 * k) m) (b ++ drop (645 * k + length b) m) (645 * k) head_length)
      ∙ take_at b (drop (645 * k + length b) m) (length b) refl

  below_k : (j n : ℕ) → n ≤ 645 → j < k → part (written m k b) j n ≡ part m j n
  below_k j n h lt =
      let within : 645 * j + n ≤ length (take (645 * k) m) = omega (arith, head_length) in
      front (take (645 * k) m) (b ++ drop (645 * k + length b) m) (645 * j) n within
      ∙ sym (front (take (645 * k) m) (drop (645 * k) m) (645 * j) n within)
      ∙ ap (λ x. take n (drop (645 * j) x)) (take-append-drop (645 * k) m)

  above_k : (j n : ℕ) → k < j → part (written m k b) j n ≡ part m j n
  above_k j n lt =
      let c : ℕ = 645 * k + length b in
      let front_length : length (take (645 * k) m ++ b) ≡ c = length-append (take (645 * k) m) b ∙ ap (λ x. x + length b) head_length in
      let past : length (take (645 * k) m ++ b) ≤ 645 * j = omega (arith, front_length) in
      let r : ℕ = 645 * j - length (take (645 * k) m ++ b) in
      let sum : c + r ≡ 645 * j = omega (arith, front_length) in
      ap (take n)
      (ap (drop (645 * j)) (sym (append_assoc (take (645 * k) m) b (drop c m)))
      ∙ behind (take (645 * k) m ++ b) (drop c m) (645 * j) past
      ∙ drop-drop r c m
      ∙ ap (λ x. drop x m) sum)

  pub part_other : (j n : ℕ) → n ≤ 645 → j ≢ k → part (written m k b) j n ≡ part m j n
  part_other j n h ne = go (order j)
    where
      order : (i : ℕ) → (i < k) ⊎ (k ≤ i)
      order i = search arith

      go : (j < k) ⊎ (k ≤ j) → part (written m k b) j n ≡ part m j n
      go (inl lt) = below_k j n h lt
      go (inr ge) = above_k j n (omega arith)
