-- An answer is awaited only between a sending and the subframe of its answer.
use Rattle.std.proofs.Common.{◌≡◌, ℕ, ◌+◌, ◌-◌, ◌*◌, ◌/◌, ◌%◌, ◌<◌, ◌≤◌, Bool, true, false, cond, ◌&&◌, eqb, leb, ◌⊎◌, List, length, set, Some, None, Option, sym, refl, ap, ◌∙◌, subst, inl, inr, arith, get_or-set_other, get_or-set_same}
use Rattle.std.proofs.lemmas.Bool.{eqb-false, leb-true, leb-false, both_ways, cases_eq}
use Rattle.terms.specs.declared.setup.CellKind.{CellKind}
use Rattle.terms.specs.declared.setup.CellKind.TheVariants.{Plain, Bundled, Asynchronous}
use Rattle.terms.specs.declared.process.Feedback.{Feedback}
use Rattle.terms.specs.declared.process.Process.{Process}
use Rattle.rules.specs.Process.{idle, synchronous, hears, with_feedback, feedback_heard}
use Rattle.rules.specs.Entity.{process_at, answering}
use Rattle.rules.specs.Questions.{is_bundled}
use Rattle.rules.specs.Subframe.{heard_at}

-- before the call at t
abbrev pub Window : CellKind → ℕ → ℕ → Type 0
Window Plain t k = (u : ℕ) × (u % 8 ≡ k) × (u < t) × (t ≤ u + 4)
Window Bundled t k = (u : ℕ) × (u % 16 ≡ 4 * k) × (u < t) × (t ≤ u + 7)
Window Asynchronous t k = ⊥

-- after the answer of t
abbrev pub Later : CellKind → ℕ → ℕ → Type 0
Later Plain t k = (u : ℕ) × (u % 8 ≡ k) × (u < t) × (t < u + 4)
Later Bundled t k = (u : ℕ) × (u % 16 ≡ 4 * k) × (u < t) × (t < u + 7)
Later Asynchronous t k = ⊥

abbrev pub Timed : CellKind → ℕ → List Process → Type 0
Timed kd t ps = (k : ℕ) → k < 8 → (process_at ps k).awaits_answer ≡ true → Window kd t k

abbrev pub TimedLater : CellKind → ℕ → List Process → Type 0
TimedLater kd t ps = (k : ℕ) → k < 8 → (process_at ps k).awaits_answer ≡ true → Later kd t k

pub answers_below : (kd : CellKind) (t i : ℕ) → answering kd t ≡ Some i → i < 8
answers_below Plain t i e = go (leb 4 t) e
  where
    go : (b : Bool) → cond b (Some ((t - 4) % 8)) None ≡ Some i → i < 8
    go true e = let q : (t - 4) % 8 ≡ i = cc in omega arith
    go false e = let z : ◌≡◌ {A = ℕ} 0 1 = cc in omega arith
answers_below Bundled t i e = go (leb 4 t && eqb (t % 4) 3) e
  where
    go : (b : Bool) → cond b (Some (((t - 4) % 16) / 4)) None ≡ Some i → i < 8
    go true e = let q : ((t - 4) % 16) / 4 ≡ i = cc in omega arith
    go false e = let z : ◌≡◌ {A = ℕ} 0 1 = cc in omega arith
answers_below Asynchronous t i e = let z : ◌≡◌ {A = ℕ} 0 1 = cc in omega arith

-- a process that is not answered in t is answered later
not_answered : (kd : CellKind) (t k : ℕ) → ((i : ℕ) → answering kd t ≡ Some i → i ≡ k → ⊥) → Window kd t k → Later kd t k
not_answered Plain t k nobody w = go (leb 4 t) refl nobody
  where
    go : (b : Bool) → leb 4 t ≡ b → ((i : ℕ) → cond b (Some ((t - 4) % 8)) None ≡ Some i → i ≡ k → ⊥) → Later Plain t k
    go true e nobody = let ne : ((t - 4) % 8 ≡ k → ⊥) = nobody ((t - 4) % 8) refl in let le = leb-true 4 t e in (w.0, w.1, w.2, omega arith)
    go false e nobody = let le = leb-false 4 t e in (w.0, w.1, w.2, omega arith)
not_answered Bundled t k nobody w = go (leb 4 t) (eqb (t % 4) 3) refl refl nobody
  where
    go : (b c : Bool) → leb 4 t ≡ b → eqb (t % 4) 3 ≡ c → ((i : ℕ) → cond (b && c) (Some (((t - 4) % 16) / 4)) None ≡ Some i → i ≡ k → ⊥) → Later Bundled t k
    go true true e e' nobody = let ne : (((t - 4) % 16) / 4 ≡ k → ⊥) = nobody (((t - 4) % 16) / 4) refl in let le = leb-true 4 t e in (w.0, w.1, w.2, omega arith)
    go true false e e' nobody = let ne = eqb-false (t % 4) 3 e' in (w.0, w.1, w.2, omega arith)
    go false c e e' nobody = let le = leb-false 4 t e in (w.0, w.1, w.2, omega arith)
not_answered Asynchronous t k nobody w = w

heard_awaits : (x gap : Bool) (a : Option Feedback) (p : Process) → p.awaits_answer ≡ x → (cond x (with_feedback p (feedback_heard gap p.from_msg3 a p.harq_feedback)) p).awaits_answer ≡ false
heard_awaits true gap a p e = refl
heard_awaits false gap a p e = e

pub hear_timed : (kd : CellKind) (t : ℕ) (gap : Bool) (a : Option Feedback) (ps : List Process) → length ps ≡ 8 → Timed kd t ps → TimedLater kd t (heard_at (answering kd t) gap a ps)
hear_timed kd t gap a ps eight timed k lt aw = go (answering kd t) refl aw
  where
    go : (o : Option ℕ) → answering kd t ≡ o → (process_at (heard_at o gap a ps) k).awaits_answer ≡ true → Later kd t k
    go None e aw = not_answered kd t k (λ i q z. let bad : ◌≡◌ {A = ℕ} 0 1 = cc in omega arith) (timed k lt aw)
    go (Some i) e aw = split (cases_eq k i)
      where
        split : (k ≡ i) ⊎ (k ≡ i → ⊥) → Later kd t k
        split (inl same) =
            let ilt : i < length ps = omega arith in
            let off : (process_at (set ps i (hears gap a (process_at ps i))) i).awaits_answer ≡ false = ap (λ p. p.awaits_answer) (get_or-set_same ps i (hears gap a (process_at ps i)) idle ilt) ∙ heard_awaits (process_at ps i).awaits_answer gap a (process_at ps i) refl in
            absurd (both_ways (process_at (set ps i (hears gap a (process_at ps i))) i).awaits_answer off (subst (λ j. (process_at (set ps i (hears gap a (process_at ps i))) j).awaits_answer ≡ true) same aw))
        split (inr ne) =
            not_answered kd t k (λ j q z. let r : i ≡ j = cc in ne (sym z ∙ sym r))
            (timed k lt (ap (λ p. p.awaits_answer) (sym (get_or-set_other ps i k (hears gap a (process_at ps i)) idle ne)) ∙ aw))

-- k is the process of t
abbrev pub Owns : CellKind → ℕ → ℕ → Type 0
Owns Plain t k = t % 8 ≡ k
Owns Bundled t k = (t % 16) / 4 ≡ k
Owns Asynchronous t k = Unit {0}

not_true_false : (b : Bool) → (b ≡ true → ⊥) → b ≡ false
not_true_false true h = absurd (h refl)
not_true_false false h = refl

fourth : (t : ℕ) → t % 4 ≡ 0 → (t % 16) % 4 ≡ 0
fourth t h = omega arith

four_times : (r k : ℕ) → r % 4 ≡ 0 → r / 4 ≡ k → r ≡ 4 * k
four_times r k h e = omega arith

same_apart : (t u : ℕ) → t % 16 ≡ u % 16 → u < t → t < u + 7 → ⊥
same_apart t u e lt gt = omega arith

-- where a packet may begin, no answer is awaited
never_awaits : (kd : CellKind) (t k : ℕ) → (is_bundled kd ≡ true → t % 4 ≡ 0) → Owns kd t k → Later kd t k → ⊥
never_awaits Plain t k start own w = omega arith
never_awaits Bundled t k start own w =
    let s = start refl in
    let r : (t % 16) % 4 ≡ 0 = fourth t s in
    let e : t % 16 ≡ 4 * k = four_times (t % 16) k r own in
    same_apart t w.0 (e ∙ sym w.1) w.2 w.3
never_awaits Asynchronous t k start own w = w

pub quiet_own : (kd : CellKind) (t k : ℕ) (ps : List Process) → k < 8 → (is_bundled kd ≡ true → t % 4 ≡ 0) → Owns kd t k → TimedLater kd t ps → (process_at ps k).awaits_answer ≡ false
quiet_own kd t k ps lt start own timed = not_true_false (process_at ps k).awaits_answer (λ e. never_awaits kd t k start own (timed k lt e))

later_window : (kd : CellKind) (t k : ℕ) → Later kd t k → Window kd (t + 1) k
later_window Plain t k w = (w.0, w.1, omega arith, omega arith)
later_window Bundled t k w = (w.0, w.1, omega arith, omega arith)
later_window Asynchronous t k w = w

own_window : (kd : CellKind) (t k : ℕ) → Owns kd t k → (synchronous kd ≡ false → ⊥) → Window kd (t + 1) k
own_window Plain t k own h = (t, own, omega arith, omega arith)
own_window Bundled t k own h = (t - t % 4, omega arith, omega arith, omega arith)
own_window Asynchronous t k own h = absurd (h refl)

-- the process of t does as it may, the clock gains 1
pub own_timed : (kd : CellKind) (t k : ℕ) (ps : List Process) (p : Process) → length ps ≡ 8 → k < 8 → Owns kd t k → (synchronous kd ≡ false → (process_at ps k).awaits_answer ≡ false → p.awaits_answer ≡ false) → TimedLater kd t ps → Timed kd (t + 1) (set ps k p)
own_timed kd t k ps p eight klt own quiet timed j lt aw = split (cases_eq j k)
  where
    split : (j ≡ k) ⊎ (j ≡ k → ⊥) → Window kd (t + 1) j
    split (inr ne) = later_window kd t j (timed j lt (ap (λ p. p.awaits_answer) (sym (get_or-set_other ps k j p idle ne)) ∙ aw))
    split (inl same) =
        subst (λ i. Window kd (t + 1) i) (sym same) (own_window kd t k own asynchronous)
      where
        here : p.awaits_answer ≡ true
        here = let klt' : k < length ps = omega arith in ap (λ p. p.awaits_answer) (sym (get_or-set_same ps k p idle klt')) ∙ subst (λ i. (process_at (set ps k p) i).awaits_answer ≡ true) same aw

        none_later : (d : CellKind) → synchronous d ≡ false → Later d t k → ⊥
        none_later Plain e w = both_ways true e refl
        none_later Bundled e w = both_ways true e refl
        none_later Asynchronous e w = w

        asynchronous : synchronous kd ≡ false → ⊥
        asynchronous e = both_ways p.awaits_answer (quiet e (not_true_false (process_at ps k).awaits_answer (λ a. none_later kd e (timed k klt a)))) here

pub nobody_timed : (kd : CellKind) (t : ℕ) (ps : List Process) → TimedLater kd t ps → Timed kd (t + 1) ps
nobody_timed kd t ps timed j lt aw = later_window kd t j (timed j lt aw)
