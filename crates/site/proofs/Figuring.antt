-- The figure that is computed is the figure that is meant.
use Rattle.std.proofs.Common.{◌≡◌, ℕ, ◌+◌, ◌*◌, ◌/◌, ◌%◌, ◌<◌, ◌≤◌, Bool, true, false, cond, eqb, refl, add-mul, lt_of_mul-lt-mul_right, arith, eqb-true}
use borrow.Author.Tests.{eqb-false}
use Rattle.std.proofs.lemmas.Nat.{div-add-mod', mod_below}
use Rattle.site.specs.Figures.{IsFigure, figure_of}

pub figure_meant : (packets sendings : ℕ) → IsFigure packets sendings (figure_of packets sendings)
figure_meant p s = go (eqb p 0) refl
  where
    go : (b : Bool) → eqb p 0 ≡ b → IsFigure p s (cond b 0 (100 * s / p))
    go true e =
        let z : p ≡ 0 = eqb-true p 0 e in
        record { without_packets = λ h. refl; reached = λ h. omega arith; largest = λ h. omega arith }
    go false e =
        let q = 100 * s / p in
        let split : q * p + 100 * s % p ≡ 100 * s = div-add-mod' (100 * s) p in
        let one_more : (q + 1) * p ≡ q * p + 1 * p = add-mul q 1 p in
        record {
          without_packets = λ h. absurd (eqb-false p 0 e h);
          reached = λ h. omega arith;
          largest = λ h. let below : 100 * s % p < p = mod_below (100 * s) p h in omega arith;
        }

-- two figures of the same counts: neither is below the other
not_below : (p s f g : ℕ) → 0 < p → f * p ≤ 100 * s → 100 * s < (g + 1) * p → f ≤ g
not_below p s f g h reached largest = let below : f < g + 1 = lt_of_mul-lt-mul_right p {m = f} {n = g + 1} (omega arith) in omega arith

pub figure_only : (packets sendings f : ℕ) → IsFigure packets sendings f → f ≡ figure_of packets sendings
figure_only p s f i = go (eqb p 0) refl
  where
    m : IsFigure p s (figure_of p s)
    m = figure_meant p s

    go : (b : Bool) → eqb p 0 ≡ b → f ≡ figure_of p s
    go true e = let z : p ≡ 0 = eqb-true p 0 e in let k = i.without_packets z in let l = m.without_packets z in omega arith
    go false e =
        let z : 0 < p = omega (arith, eqb-false p 0 e) in
        let up = not_below p s f (figure_of p s) z (i.reached z) (m.largest z) in
        let down = not_below p s (figure_of p s) f z (m.reached z) (i.largest z) in
        omega arith
