-- What an amendment of the stay that goes on in a process leaves.
use Rattle.std.proofs.Common.{◌≡◌, ℕ, suc, ◌+◌, ◌*◌, Bool, true, false, cond, not, ◌&&◌, eqb, ◌≢◌, ◌⊎◌, List, [], ◌∷◌, length, is_some, Some, None, Option, sym, refl, ap, ◌∙◌, ap₂, inl, inr, arith}
use Rattle.std.proofs.lemmas.Bool.{eqb-true, eq-eqb, ne_eqb, both_ways, and_parts, and_cases}
use Rattle.std.specs.List.{AllByRecursion}
use Rattle.rules.specs.Subframe.{one_if}
use Rattle.runs.specs.Stays.{Stay, goes_on, amend, total}

-- f leaves the beginning
abbrev pub Leaves : (Stay → Stay) → Type 0
Leaves f = (s : Stay) → (f s).beginning ≡ s.beginning

pub none_some : {A : Type 0} {x : A} → ◌≡◌ {A = Option A} None (Some x) → ⊥
none_some e = both_ways true (sym (ap is_some e)) refl

pub some_inj : {A : Type 0} {a b : A} → Some a ≡ Some b → a ≡ b
some_inj e = cc

unended : (o : Option ℕ) → not (is_some o) ≡ true → o ≡ None
unended None e = refl
unended (Some x) e = absurd (both_ways false refl e)

ended_some : (o : Option ℕ) → not (is_some o) ≡ false → is_some o ≡ true
ended_some None e = absurd (both_ways true e refl)
ended_some (Some x) e = refl

-- a stay that goes on in process k
pub record Going (k : ℕ) (s : Stay) : Type 0 where
  pub process : s.beginning.process ≡ k
  pub unended : s.ended ≡ None

pub going_facts : (k : ℕ) (s : Stay) → goes_on k s ≡ true → Going k s
going_facts k s e =
    let h = and_parts (eqb s.beginning.process k) (not (is_some s.ended)) e in
    record { process = eqb-true s.beginning.process k h.0; unended = unended s.ended h.1 }

pub going_from : (k : ℕ) (s : Stay) → s.beginning.process ≡ k → s.ended ≡ None → goes_on k s ≡ true
going_from k s e u = ap (λ b. b && not (is_some s.ended)) (eq-eqb s.beginning.process k e) ∙ ap (λ o. not (is_some o)) u

pub going_other : (j k : ℕ) (s : Stay) → s.beginning.process ≡ k → j ≢ k → goes_on j s ≡ false
going_other j k s e ne = ap (λ b. b && not (is_some s.ended)) (ne_eqb s.beginning.process j (λ q. ne (sym q ∙ e)))

-- one that does not: it is elsewhere, or over
pub not_going : (k : ℕ) (s : Stay) → goes_on k s ≡ false → (s.beginning.process ≢ k) ⊎ (is_some s.ended ≡ true)
not_going k s e = go (and_cases (eqb s.beginning.process k) (not (is_some s.ended)) e)
  where
    go : (eqb s.beginning.process k ≡ false) ⊎ (not (is_some s.ended) ≡ false) → (s.beginning.process ≢ k) ⊎ (is_some s.ended ≡ true)
    go (inl a) = inl (λ q. both_ways (eqb s.beginning.process k) a (eq-eqb s.beginning.process k q))
    go (inr a) = inr (ended_some s.ended a)

-- how many stays go on in process k
abbrev pub goings : ℕ → List Stay → ℕ
goings k [] = 0
goings k (s ∷ ss) = one_if (goes_on k s) + goings k ss

module _ (k : ℕ) (f : Stay → Stay) where
  pub all_amended : (P P' : Stay → Type 0) → ((s : Stay) → goes_on k s ≡ true → P s → P' (f s)) → ((s : Stay) → goes_on k s ≡ false → P s → P' s) → (ss : List Stay) → AllByRecursion P ss → AllByRecursion P' (amend k f ss)
  all_amended P P' h h' [] a = tt
  all_amended P P' h h' (s ∷ ss) a = (go (goes_on k s) refl, all_amended P P' h h' ss a.1)
    where
      go : (b : Bool) → goes_on k s ≡ b → P' (cond b (f s) s)
      go true e = h s e a.0
      go false e = h' s e a.0

  -- each stay that goes on gains d
  pub total_amended : (w : Stay → ℕ) (d : ℕ) → ((s : Stay) → w (f s) ≡ w s + d) → (ss : List Stay) → total w (amend k f ss) ≡ total w ss + goings k ss * d
  total_amended w d h [] = omega arith
  total_amended w d h (s ∷ ss) = go (goes_on k s) (total_amended w d h ss)
    where
      go : (b : Bool) → total w (amend k f ss) ≡ total w ss + goings k ss * d → w (cond b (f s) s) + total w (amend k f ss) ≡ w s + total w ss + (one_if b + goings k ss) * d
      go true ih = let e : (1 + goings k ss) * d ≡ d + goings k ss * d = search arith in omega (arith, h s)
      go false ih = omega arith

  pub length_amended : (ss : List Stay) → length (amend k f ss) ≡ length ss
  length_amended [] = refl
  length_amended (s ∷ ss) = ap suc (length_amended ss)

module _ (k : ℕ) (f : Stay → Stay) (leaves : Leaves f) where
  pub goings_other : (j : ℕ) → j ≢ k → (ss : List Stay) → goings j (amend k f ss) ≡ goings j ss
  goings_other j ne [] = refl
  goings_other j ne (s ∷ ss) = ap₂ (λ b n. one_if b + n) (go (goes_on k s) refl) (goings_other j ne ss)
    where
      go : (b : Bool) → goes_on k s ≡ b → goes_on j (cond b (f s) s) ≡ goes_on j s
      go true e = let p = (going_facts k s e).process in going_other j k (f s) (ap (λ b. b.process) (leaves s) ∙ p) ne ∙ sym (going_other j k s p ne)
      go false e = refl

  -- the stays go on
  pub goings_same : ((s : Stay) → (f s).ended ≡ s.ended) → (ss : List Stay) → goings k (amend k f ss) ≡ goings k ss
  goings_same same [] = refl
  goings_same same (s ∷ ss) = ap₂ (λ b n. one_if b + n) (go (goes_on k s)) (goings_same same ss)
    where
      go : (b : Bool) → goes_on k (cond b (f s) s) ≡ goes_on k s
      go true = ap₂ (λ b o. eqb b.process k && not (is_some o)) (leaves s) (same s)
      go false = refl

-- the stays end
pub goings_over : (k : ℕ) (f : Stay → Stay) → ((s : Stay) → is_some (f s).ended ≡ true) → (ss : List Stay) → goings k (amend k f ss) ≡ 0
goings_over k f over [] = refl
goings_over k f over (s ∷ ss) = ap₂ (λ b n. one_if b + n) (go (goes_on k s) refl) (goings_over k f over ss)
  where
    go : (b : Bool) → goes_on k s ≡ b → goes_on k (cond b (f s) s) ≡ false
    go true e = ended_not k (f s) (over s)
      where
        ended_not : (k : ℕ) (s : Stay) → is_some s.ended ≡ true → goes_on k s ≡ false
        ended_not k s u = ap (λ b. eqb s.beginning.process k && not b) u ∙ and_none (eqb s.beginning.process k)
          where
            and_none : (b : Bool) → (b && false) ≡ false
            and_none true = refl
            and_none false = refl
    go false e = e

-- where no stay goes on, there is nothing to amend
pub amend_none : (k : ℕ) (h : Stay → Stay) (ss : List Stay) → goings k ss ≡ 0 → amend k h ss ≡ ss
amend_none k h [] e = refl
amend_none k h (s ∷ ss) e = go (goes_on k s) e (amend_none k h ss)
  where
    go : (b : Bool) → one_if b + goings k ss ≡ 0 → (goings k ss ≡ 0 → amend k h ss ≡ ss) → cond b (h s) s ∷ amend k h ss ≡ s ∷ ss
    go true e ih = absurd (omega arith)
    go false e ih = ap (λ l. s ∷ l) (ih (omega arith))

-- one amendment after another
pub amend_twice : (k : ℕ) (f h : Stay → Stay) → Leaves f → ((s : Stay) → (f s).ended ≡ s.ended) → (ss : List Stay) → amend k h (amend k f ss) ≡ amend k (λ s. h (f s)) ss
amend_twice k f h leaves same [] = refl
amend_twice k f h leaves same (s ∷ ss) = ap₂ {C = List Stay} (λ x l. x ∷ l) (go (goes_on k s) refl) (amend_twice k f h leaves same ss)
  where
    go : (b : Bool) → goes_on k s ≡ b → cond (goes_on k (cond b (f s) s)) (h (cond b (f s) s)) (cond b (f s) s) ≡ cond b (h (f s)) s
    go true e = ap (λ b. cond b (h (f s)) (f s)) (ap₂ (λ b o. eqb b.process k && not (is_some o)) (leaves s) (same s) ∙ e)
    go false e = ap (λ b. cond b (h s) s) e
