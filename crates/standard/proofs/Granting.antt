-- Grant reception: what the relations deliver is the grant in force, and the process that they identify is the cell's.
use Rattle.std.proofs.Common.{◌≡◌, ℕ, zero, suc, ◌+◌, ◌-◌, ◌*◌, ◌/◌, ◌%◌, ◌<◌, ◌≤◌, Bool, true, false, cond, ltb, ◌⊎◌, Some, None, Option, sym, refl, ap, ◌∙◌, subst, inl, inr, suc-mul, div-add-mod', arith}
use native.Mathlib.Nat.{mul-mod_left}
use Rattle.std.proofs.lemmas.Bool.{eqb-true, ltb-true, ltb-false, eq-eqb, lt-ltb, and_from, and_parts}
use Rattle.terms.specs.declared.setup.CellKind.{CellKind}
use Rattle.terms.specs.declared.setup.CellKind.TheVariants.{Plain, Bundled, Asynchronous}
use Rattle.terms.specs.declared.setup.Setup.{Setup}
use Rattle.terms.specs.declared.grant.Grant.{Grant}
use Rattle.terms.specs.declared.grant.GrantInForce.{GrantInForce}
use Rattle.terms.specs.declared.grant.ConfiguredGrant.{ConfiguredGrant}
use Rattle.terms.specs.declared.state.Repetition.{Repetition}
use Rattle.rules.specs.Reception.{recurs, recurring, grant_in_force, stored_after}
use Rattle.rules.specs.Entity.{process_of, repeating}
use Rattle.runs.proofs.Amends.{none_some, some_inj}
use Rattle.standard.specs.Ts36321 as ts
use Rattle.standard.proofs.Likeness.{in_force_if, stored_one, stored_as, BundledAlike, Owns}

-- The configured grant recurs where it occurs.
positive_product : (n i : ℕ) → 0 < n → 0 < i → 0 < n * i
positive_product zero i a b = absurd (omega arith)
positive_product (suc n) i a b = let c : suc n * i ≡ n * i + i = suc-mul n i in omega arith

pub occurs_recurs : (su : Setup) (t : ℕ) (c : ConfiguredGrant) → ts.Occurs su t (stored_one c) → recurs su t c ≡ true
occurs_recurs su t c o =
    let e : t ≡ c.since + o.0 * su.interval = o.3 in
    let pos : 0 < o.0 * su.interval = positive_product o.0 su.interval o.1 o.2 in
    let later : c.since < t = omega arith in
    let gap : t - c.since ≡ o.0 * su.interval = omega arith in
    let even : (t - c.since) % su.interval ≡ 0 = ap (λ n. n % su.interval) gap ∙ mul-mod_left o.0 su.interval in
    and_from (ltb 0 su.interval) _ (lt-ltb 0 su.interval o.2) (and_from (ltb c.since t) _ (lt-ltb c.since t later) (eq-eqb ((t - c.since) % su.interval) 0 even))

pub recurs_occurs : (su : Setup) (t : ℕ) (c : ConfiguredGrant) → recurs su t c ≡ true → ts.Occurs su t (stored_one c)
recurs_occurs su t c e =
    let a = and_parts (ltb 0 su.interval) _ e in
    let b = and_parts (ltb c.since t) _ a.1 in
    let i = ltb-true 0 su.interval a.0 in
    let later = ltb-true c.since t b.0 in
    let even = eqb-true ((t - c.since) % su.interval) 0 b.1 in
    let whole = div-add-mod' (t - c.since) su.interval in
    let n : ℕ = (t - c.since) / su.interval in
    let sum : t ≡ c.since + n * su.interval = omega arith in
    (n, some n sum later, i, sum)
  where
    some : (n : ℕ) → t ≡ c.since + n * su.interval → c.since < t → 0 < n
    some n = go n
      where
        go : (n : ℕ) → t ≡ c.since + n * su.interval → c.since < t → 0 < n
        go zero e lt = let z : 0 * su.interval ≡ 0 = omega arith in absurd (omega arith)
        go (suc n) e lt = omega arith

-- what is delivered is the grant in force, and what is stored then
abbrev pub Delivered : Setup → ℕ → Option ConfiguredGrant → Option Grant → Option ts.UplinkGrant → Option ts.Configured → Type 0
Delivered su t conf g u c = (in_force_if u ≡ grant_in_force su t conf g) × (c ≡ stored_as (stored_after t conf g))

pub delivers_sound : (su : Setup) (t : ℕ) (conf : Option ConfiguredGrant) (mc : Option ts.Configured) (g : Option Grant) (u : Option ts.UplinkGrant) (c : Option ts.Configured)
    → ts.Delivers su t mc g u c → mc ≡ stored_as conf → Delivered su t conf g u c
delivers_sound su t conf mc g u c (ts.CRntiGrant mc₁ g₁ e) q = (rw e refl, rw e q)
delivers_sound su t conf mc g u c (ts.TemporaryCRntiGrant mc₁ g₁ e) q = (rw e refl, rw e q)
delivers_sound su t conf mc g u c (ts.RandomAccessResponseGrant mc₁ g₁ e) q = (rw e refl, rw e q)
delivers_sound su t conf mc g u c (ts.SpsRetransmission mc₁ g₁ e n) q = (rw (e, n) refl, rw (e, n) q)
delivers_sound su t conf mc g u c (ts.SpsRelease mc₁ g₁ e) q = (rw e refl, rw e refl)
delivers_sound su t conf mc g u c (ts.SpsActivation mc₁ g₁ e n) q = (rw (e, n) refl, rw (e, n) refl)
delivers_sound su t conf mc g u c (ts.configured_occurs c₁ o) q = go conf q
  where
    go : (conf : Option ConfiguredGrant) → Some c₁ ≡ stored_as conf → Delivered su t conf None (Some (ts.configured_grant c₁)) (Some c₁)
    go None q = absurd (none_some (sym q))
    go (Some d) q =
        let s : stored_one d ≡ c₁ = sym (some_inj q) in
        subst (λ z. Delivered su t (Some d) None (Some (ts.configured_grant z)) (Some z)) s
        (sym (ap (λ b. cond b (Some (recurring d)) None) (occurs_recurs su t d (subst (ts.Occurs su t) (sym s) o))), refl)
delivers_sound su t conf mc g u c (ts.no_grant mc₁ never) q = go conf q
  where
    go : (conf : Option ConfiguredGrant) → mc₁ ≡ stored_as conf → Delivered su t conf None None mc₁
    go None q = (refl, q)
    go (Some d) q = by (recurs su t d) refl
      where
        by : (b : Bool) → recurs su t d ≡ b → Delivered su t (Some d) None None mc₁
        by true e = absurd (never (subst (ts.ConfiguredFor su t) (sym q) (ts.occurs (stored_one d) (recurs_occurs su t d e))))
        by false e = (sym (ap (λ b. cond b (Some (recurring d)) None) e), q)

-- what the questions have settled of a delivered grant
pub record Proper (su : Setup) (g : ts.UplinkGrant) : Type 0 where
  pub zero : su.kind ≡ Asynchronous → g.received ≡ ts.in_random_access_response → g.identifier ≡ 0
  pub plain : g.received ≡ ts.configured → su.kind ≡ Plain
  pub version : su.kind ≡ Asynchronous → g.redundancy_version ≤ 3
  pub mcs : (g.received ≡ ts.configured → ⊥) → g.MCS ≤ 31

abbrev pub ProperIf : Setup → Option ts.UplinkGrant → Type 0
ProperIf su None = Unit {0}
ProperIf su (Some g) = Proper su g

-- the process
running : (t : ℕ) (b : Option ts.Bundle) (r : ts.Bundle) (rep : Option Repetition) → b ≡ Some r → t < r.start + r.number → BundledAlike t b rep → repeating t rep ≡ Some r.process
running t None r rep e lt h = absurd (none_some e)
running t (Some b) r None e lt h = absurd h
running t (Some b) r (Some rep) e lt h =
    let s : b ≡ r = some_inj e in
    let n : b.start + b.number ≡ r.start + r.number = ap (λ z. z.start + z.number) s in
    let until = h.1 in
    ap (λ x. cond x (Some rep.process) None) (lt-ltb t rep.until (omega arith)) ∙ ap Some (sym h.0 ∙ ap (λ z. z.process) s)

pub identifies_sound : (su : Setup) (t : ℕ) (b : Option ts.Bundle) (rep : Option Repetition) (u : Option ts.UplinkGrant) (k : ℕ) → ts.Identifies su t b u k → BundledAlike t b rep → ProperIf su u
    → process_of su.kind t (in_force_if u) rep ≡ Some k
identifies_sound su t b rep u k (ts.synchronously g e) h ok = rw e refl
identifies_sound su t b rep u k (ts.with_bundling g e) h ok = rw e refl
identifies_sound su t b rep u k (ts.by_grant g e ne) h ok = rw e refl
identifies_sound su t b rep u k (ts.by_random_access_response g e r) h ok = rw e (ap Some (ok.zero e r))
identifies_sound su t b rep u k (ts.by_bundle r e q le lt) h ok = rw e (running t b r rep q lt h)

by_kind : (kd : CellKind) (t : ℕ) (g : Option GrantInForce) (rep : Option Repetition) (k : ℕ) → process_of kd t g rep ≡ Some k → Owns kd t k
by_kind Plain t g rep k e = some_inj e
by_kind Bundled t g rep k e = some_inj e
by_kind Asynchronous t g rep k e = tt

pub owns : (su : Setup) (t : ℕ) (g : Option GrantInForce) (rep : Option Repetition) (k : ℕ) → process_of su.kind t g rep ≡ Some k → Owns su.kind t k
owns su = by_kind su.kind

rar_or_not : (r : ts.Received) → (r ≡ ts.in_random_access_response) ⊎ (r ≡ ts.in_random_access_response → ⊥)
rar_or_not ts.in_random_access_response = inl refl
rar_or_not ts.for_c_rnti = inr (λ e. let z : ◌≡◌ {A = ℕ} 0 1 = cc in omega arith)
rar_or_not ts.for_temporary_c_rnti = inr (λ e. let z : ◌≡◌ {A = ℕ} 0 1 = cc in omega arith)
rar_or_not ts.for_sps_c_rnti = inr (λ e. let z : ◌≡◌ {A = ℕ} 0 1 = cc in omega arith)
rar_or_not ts.configured = inr (λ e. let z : ◌≡◌ {A = ℕ} 0 1 = cc in omega arith)

-- a process is identified, or none
abbrev pub Identified : Setup → ℕ → Option ts.Bundle → Option ts.UplinkGrant → Type 0
Identified su t b u = ((k : ℕ) × ts.Identifies su t b u k) ⊎ (((k : ℕ) → ts.Identifies su t b u k → ⊥) × (su.kind ≡ Asynchronous) × (u ≡ None))

in_bundle : (su : Setup) (t : ℕ) (b : Option ts.Bundle) (rep : Option Repetition) → su.kind ≡ Asynchronous → BundledAlike t b rep → Identified su t b None
in_bundle su t None rep e h = inr (none, e, refl)
  where
    none : (k : ℕ) → ts.Identifies su t None None k → ⊥
    none k (ts.synchronously g q) = let z : ◌≡◌ {A = ℕ} 0 1 = cc in omega arith
    none k (ts.with_bundling g q) = let z : ◌≡◌ {A = ℕ} 0 1 = cc in omega arith
    none k (ts.by_bundle r q s le lt) = none_some s
in_bundle su t (Some b) None e h = absurd h
in_bundle su t (Some b) (Some rep) e h = go (ltb t (b.start + b.number)) refl
  where
    go : (x : Bool) → ltb t (b.start + b.number) ≡ x → Identified su t (Some b) None
    go true q = inl (b.process, ts.by_bundle b e refl h.2 (ltb-true t (b.start + b.number) q))
    go false q = inr (none, e, refl)
      where
        none : (k : ℕ) → ts.Identifies su t (Some b) None k → ⊥
        none k (ts.synchronously g s) = let z : ◌≡◌ {A = ℕ} 0 1 = cc in omega arith
        none k (ts.with_bundling g s) = let z : ◌≡◌ {A = ℕ} 0 1 = cc in omega arith
        none k (ts.by_bundle r s same le lt) =
            let n : b.start + b.number ≡ r.start + r.number = ap (λ z. z.start + z.number) (some_inj same) in
            let over = ltb-false t (b.start + b.number) q in
            omega arith

pub identified : (su : Setup) (t : ℕ) (b : Option ts.Bundle) (rep : Option Repetition) (u : Option ts.UplinkGrant) → BundledAlike t b rep → Identified su t b u
identified su t b rep u h = go su.kind refl u
  where
    go : (kd : CellKind) → su.kind ≡ kd → (u : Option ts.UplinkGrant) → Identified su t b u
    go Plain e u = inl (t % 8, ts.synchronously u e)
    go Bundled e u = inl (t % 16 / 4, ts.with_bundling u e)
    go Asynchronous e None = in_bundle su t b rep e h
    go Asynchronous e (Some g) = by (rar_or_not g.received)
      where
        by : (g.received ≡ ts.in_random_access_response) ⊎ (g.received ≡ ts.in_random_access_response → ⊥) → Identified su t b (Some g)
        by (inl r) = inl (0, ts.by_random_access_response g e r)
        by (inr ne) = inl (g.identifier, ts.by_grant g e ne)

-- none is identified: the cell has no process either
idle_bundle : (su : Setup) (t : ℕ) (b : Option ts.Bundle) (rep : Option Repetition) → su.kind ≡ Asynchronous → BundledAlike t b rep → ((k : ℕ) → ts.Identifies su t b None k → ⊥) → repeating t rep ≡ None
idle_bundle su t None None e h none = refl
idle_bundle su t None (Some r) e h none = absurd h
idle_bundle su t (Some b) None e h none = absurd h
idle_bundle su t (Some b) (Some r) e h none = go (ltb t r.until) refl
  where
    go : (x : Bool) → ltb t r.until ≡ x → cond x (Some r.process) None ≡ None
    go true q = let lt = ltb-true t r.until q in let u = h.1 in absurd (none b.process (ts.by_bundle b e refl h.2 (omega arith)))
    go false q = refl

pub none_identified : (su : Setup) (t : ℕ) (b : Option ts.Bundle) (rep : Option Repetition) (u : Option ts.UplinkGrant) → BundledAlike t b rep → ((k : ℕ) → ts.Identifies su t b u k → ⊥) → process_of su.kind t (in_force_if u) rep ≡ None
none_identified su t b rep u h none = go su.kind refl u none
  where
    go : (kd : CellKind) → su.kind ≡ kd → (u : Option ts.UplinkGrant) → ((k : ℕ) → ts.Identifies su t b u k → ⊥) → process_of kd t (in_force_if u) rep ≡ None
    go Plain e u none = absurd (none (t % 8) (ts.synchronously u e))
    go Bundled e u none = absurd (none (t % 16 / 4) (ts.with_bundling u e))
    go Asynchronous e None none = idle_bundle su t b rep e h none
    go Asynchronous e (Some g) none = by (rar_or_not g.received)
      where
        by : (g.received ≡ ts.in_random_access_response) ⊎ (g.received ≡ ts.in_random_access_response → ⊥) → process_of Asynchronous t (in_force_if (Some g)) rep ≡ None
        by (inl r) = absurd (none 0 (ts.by_random_access_response g e r))
        by (inr ne) = absurd (none g.identifier (ts.by_grant g e ne))
