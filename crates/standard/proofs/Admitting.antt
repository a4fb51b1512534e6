-- What the questions of set-up and of a subframe have settled of the grants that the relations see.
use Rattle.std.proofs.Common.{◌≡◌, ℕ, ◌<◌, ◌≤◌, Bool, true, false, not, ◌&&◌, ◌||◌, eqb, ltb, leb, ◌⊎◌, Some, None, Option, refl, subst, inl, inr, arith}
use Rattle.std.proofs.lemmas.Bool.{eqb-true, leb-true, ltb-true, both_ways, and_parts, or_cases}
use Rattle.terms.specs.declared.setup.CellKind.{CellKind}
use Rattle.terms.specs.declared.setup.CellKind.TheVariants.{Plain, Bundled, Asynchronous}
use Rattle.terms.specs.declared.setup.Setup.{Setup}
use Rattle.terms.specs.declared.grant.Grant.{Grant}
use Rattle.rules.specs.Setup.{within, is_plain, set_up_questions}
use Rattle.rules.specs.Questions.{kind_allowed, fields_by_kind, fields_hold, is_bundled}
use Rattle.rules.proofs.Keeping.{Fields}
use Rattle.runs.specs.Runs.{Accepted}
use Rattle.runs.proofs.Questions.{all_yes}
use Rattle.standard.specs.Ts36321 as ts
use Rattle.standard.proofs.Granting.{ProperIf}
use Rattle.standard.proofs.Totality.{Known, KnownIf}

-- configured grants go with a plain cell
plain_of : (kd : CellKind) → is_plain kd ≡ true → kd ≡ Plain
plain_of Plain e = refl
plain_of Bundled e = absurd (both_ways false refl e)
plain_of Asynchronous e = absurd (both_ways false refl e)

pub interval_plain : (su : Setup) → Accepted su → 0 < su.interval → su.kind ≡ Plain
interval_plain su accepted some = go (or_cases (eqb su.interval 0) _ (all_yes (set_up_questions su) accepted).1.0)
  where
    go : (eqb su.interval 0 ≡ true) ⊎ ((within 1 640 su.interval && is_plain su.kind) ≡ true) → su.kind ≡ Plain
    go (inl e) = let z = eqb-true su.interval 0 e in absurd (omega arith)
    go (inr e) = plain_of su.kind (and_parts (within 1 640 su.interval) (is_plain su.kind) e).1

-- the fields of a grant
module _ (su : Setup) (g : Grant) (fields : fields_hold su g ≡ true) where
  allowed : kind_allowed su g ≡ true
  allowed = (and_parts (kind_allowed su g) _ fields).0

  abbrev rest : (leb g.ndi 1 ≡ true) × ((within 1 645 g.size && fields_by_kind su.kind g) ≡ true)
  rest = and_parts (leb g.ndi 1) _ (and_parts (kind_allowed su g) _ fields).1

  by_kind : fields_by_kind su.kind g ≡ true
  by_kind = (and_parts (within 1 645 g.size) _ rest.1).1

  kind_below : g.kind ≤ 4
  kind_below = go (or_cases (eqb g.kind 0) _ allowed)
    where
      sps : (eqb g.kind 2 ≡ true) ⊎ (eqb g.kind 3 ≡ true) → g.kind ≤ 4
      sps (inl e) = let z = eqb-true g.kind 2 e in omega arith
      sps (inr e) = let z = eqb-true g.kind 3 e in omega arith

      random : (eqb g.kind 1 ≡ true) ⊎ (eqb g.kind 4 ≡ true) → g.kind ≤ 4
      random (inl e) = let z = eqb-true g.kind 1 e in omega arith
      random (inr e) = let z = eqb-true g.kind 4 e in omega arith

      other : (((eqb g.kind 2 || eqb g.kind 3) && ltb 0 su.interval) ≡ true) ⊎ (((eqb g.kind 1 || eqb g.kind 4) && not (is_bundled su.kind)) ≡ true) → g.kind ≤ 4
      other (inl e) = sps (or_cases (eqb g.kind 2) (eqb g.kind 3) (and_parts (eqb g.kind 2 || eqb g.kind 3) _ e).0)
      other (inr e) = random (or_cases (eqb g.kind 1) (eqb g.kind 4) (and_parts (eqb g.kind 1 || eqb g.kind 4) _ e).0)

      go : (eqb g.kind 0 ≡ true) ⊎ ((((eqb g.kind 2 || eqb g.kind 3) && ltb 0 su.interval) || ((eqb g.kind 1 || eqb g.kind 4) && not (is_bundled su.kind))) ≡ true) → g.kind ≤ 4
      go (inl e) = let z = eqb-true g.kind 0 e in omega arith
      go (inr e) = other (or_cases ((eqb g.kind 2 || eqb g.kind 3) && ltb 0 su.interval) _ e)

  pub known : Known g
  known = record { kind = kind_below; ndi = leb-true g.ndi 1 rest.0 }

  -- kind 2 goes with an interval
  interval_some : g.kind ≡ 2 → 0 < su.interval
  interval_some e =
      let P : ℕ → Type 0 = λ n. (eqb n 0 || (((eqb n 2 || eqb n 3) && ltb 0 su.interval) || ((eqb n 1 || eqb n 4) && not (is_bundled su.kind)))) ≡ true in
      go (or_cases (ltb 0 su.interval) false (subst P e allowed))
    where
      go : (ltb 0 su.interval ≡ true) ⊎ (◌≡◌ {A = Bool} false true) → 0 < su.interval
      go (inl z) = ltb-true 0 su.interval z
      go (inr z) = absurd (both_ways false refl z)

  mcs_below : g.mcs ≤ 31
  mcs_below = go su.kind by_kind
    where
      go : (kd : CellKind) → fields_by_kind kd g ≡ true → g.mcs ≤ 31
      go Plain e = leb-true g.mcs 31 (and_parts (leb g.mcs 31) _ e).0
      go Bundled e = leb-true g.mcs 31 (and_parts (leb g.mcs 31) _ e).0
      go Asynchronous e = let le = leb-true g.mcs 28 (and_parts (leb g.mcs 28) _ e).0 in omega arith

  module _ (a : su.kind ≡ Asynchronous) where
    abbrev after_mcs : (leb g.version 3 && (leb g.process 7 && ((eqb g.process 0 || not (eqb g.kind 1 || eqb g.kind 4)) && within 1 32 g.repetitions))) ≡ true
    after_mcs = (and_parts (leb g.mcs 28) _ (subst (λ kd. fields_by_kind kd g ≡ true) a by_kind)).1

    version_below : g.version ≤ 3
    version_below = leb-true g.version 3 (and_parts (leb g.version 3) _ after_mcs).0

    process_zero : g.kind ≡ 4 → g.process ≡ 0
    process_zero e =
        let P : ℕ → Type 0 = λ n. (eqb g.process 0 || not (eqb n 1 || eqb n 4)) ≡ true in
        go (or_cases (eqb g.process 0) false (subst P e (and_parts (eqb g.process 0 || not (eqb g.kind 1 || eqb g.kind 4)) _ (and_parts (leb g.process 7) _ (and_parts (leb g.version 3) _ after_mcs).1).1).0))
      where
        go : (eqb g.process 0 ≡ true) ⊎ (◌≡◌ {A = Bool} false true) → g.process ≡ 0
        go (inl z) = eqb-true g.process 0 z
        go (inr z) = absurd (both_ways false refl z)

pub known_if : (su : Setup) (g : Option Grant) → Fields su g → KnownIf g
known_if su None f = tt
known_if su (Some g) f = known su g f

-- what is delivered
pub delivers_proper : (su : Setup) (t : ℕ) (mc : Option ts.Configured) (g : Option Grant) (u : Option ts.UplinkGrant) (c : Option ts.Configured) → Accepted su → ts.Delivers su t mc g u c → Fields su g → ProperIf su u
delivers_proper su t mc g u c acc (ts.CRntiGrant mc₁ g₁ e) f = record { zero = λ a r. let z : ◌≡◌ {A = ℕ} 0 1 = cc in absurd (omega arith); plain = λ r. let z : ◌≡◌ {A = ℕ} 0 1 = cc in absurd (omega arith); version = version_below su g₁ f; mcs = λ n. mcs_below su g₁ f }
delivers_proper su t mc g u c acc (ts.TemporaryCRntiGrant mc₁ g₁ e) f = record { zero = λ a r. let z : ◌≡◌ {A = ℕ} 0 1 = cc in absurd (omega arith); plain = λ r. let z : ◌≡◌ {A = ℕ} 0 1 = cc in absurd (omega arith); version = version_below su g₁ f; mcs = λ n. mcs_below su g₁ f }
delivers_proper su t mc g u c acc (ts.RandomAccessResponseGrant mc₁ g₁ e) f = record { zero = λ a r. process_zero su g₁ f a e; plain = λ r. let z : ◌≡◌ {A = ℕ} 0 1 = cc in absurd (omega arith); version = version_below su g₁ f; mcs = λ n. mcs_below su g₁ f }
delivers_proper su t mc g u c acc (ts.SpsRetransmission mc₁ g₁ e n) f = record { zero = λ a r. let z : ◌≡◌ {A = ℕ} 0 1 = cc in absurd (omega arith); plain = λ r. let z : ◌≡◌ {A = ℕ} 0 1 = cc in absurd (omega arith); version = version_below su g₁ f; mcs = λ n. mcs_below su g₁ f }
delivers_proper su t mc g u c acc (ts.SpsRelease mc₁ g₁ e) f = tt
delivers_proper su t mc g u c acc (ts.SpsActivation mc₁ g₁ e n) f = record { zero = λ a r. let z : ◌≡◌ {A = ℕ} 0 1 = cc in absurd (omega arith); plain = λ r. interval_plain su acc (interval_some su g₁ f e); version = version_below su g₁ f; mcs = λ n. mcs_below su g₁ f }
delivers_proper su t mc g u c acc (ts.configured_occurs c₁ o) f = record { zero = λ a r. refl; plain = λ r. interval_plain su acc o.2; version = λ a. omega arith; mcs = λ n. absurd (n refl) }
delivers_proper su t mc g u c acc (ts.no_grant mc₁ never) f = tt
