-- What is known once the questions are answered by yes.
use Rattle.std.proofs.Common.{◌≡◌, ℕ, ◌-◌, ◌/◌, ◌%◌, ◌<◌, ◌≤◌, Bool, true, false, cond, not, ◌&&◌, ◌||◌, eqb, ltb, leb, ◌⊎◌, List, [], ◌∷◌, length, Some, None, Ok, Err, Option, Result, sym, refl, ap, ◌∙◌, subst, inl, inr, arith}
use Rattle.std.proofs.lemmas.Bool.{eqb-true, leb-true, ltb-true, both_ways, and_parts, or_cases, eq-eqb}
use Rattle.std.specs.List.{AllByRecursion}
use Rattle.terms.specs.declared.answer.Refusal.{Refusal}
use Rattle.terms.specs.declared.setup.CellKind.{CellKind}
use Rattle.terms.specs.declared.setup.CellKind.TheVariants.{Plain, Bundled, Asynchronous}
use Rattle.terms.specs.declared.setup.Setup.{Setup}
use Rattle.terms.specs.declared.grant.Grant.{Grant}
use Rattle.terms.specs.declared.grant.Reception.{Reception}
use Rattle.terms.specs.declared.grant.Reception.TheVariants.{CRnti, TemporaryCRnti, SpsRetransmission, Configured, RandomAccessResponse}
use Rattle.terms.specs.declared.grant.GrantInForce.{GrantInForce}
use Rattle.terms.specs.declared.grant.ConfiguredGrant.{ConfiguredGrant}
use Rattle.terms.specs.declared.process.Feedback.{Feedback}
use Rattle.terms.specs.declared.state.Repetition.{Repetition}
use Rattle.terms.specs.declared.state.State.{State}
use Rattle.rules.specs.Memory.{part}
use Rattle.rules.specs.Process.{synchronous, maximum}
use Rattle.rules.specs.Reception.{reception_of, in_force_by, grant_in_force, recurring, recurs, stored_after}
use Rattle.rules.specs.Entity.{Fresh, process_of, msg3_taken, offered, obtained_by, obtained}
use Rattle.rules.specs.Setup.{first_no, within, is_plain, set_up_questions}
use Rattle.rules.specs.Questions.{is_bundled, kind_allowed, fields_by_kind, grant_questions, subframe_questions}
use Rattle.runs.specs.Runs.{fitting_packet, fitting, Accepted}
use Rattle.runs.proofs.Amends.{none_some, some_inj}
use Rattle.runs.proofs.Timing.{Owns}

-- a question is answered by yes
abbrev pub Yes : Bool × Refusal → Type 0
Yes q = q.0 ≡ true

abbrev accepting : Result (Unit {0}) Refusal → Bool
accepting (Ok u) = true
accepting (Err e) = false

pub all_yes : (qs : List (Bool × Refusal)) → first_no qs ≡ Ok tt → AllByRecursion Yes qs
all_yes [] e = tt
all_yes (q ∷ qs) e = go q.0 refl (all_yes qs) e
  where
    refused : (r : Refusal) → ◌≡◌ {A = Result (Unit {0}) Refusal} (Err r) (Ok tt) → ⊥
    refused r e = both_ways false refl (ap accepting e)

    go : (b : Bool) → q.0 ≡ b → (first_no qs ≡ Ok tt → AllByRecursion Yes qs) → cond b (first_no qs) (Err q.1) ≡ Ok tt → (q.0 ≡ true) × AllByRecursion Yes qs
    go true z ih e = (z, ih e)
    go false z ih e = absurd (refused q.1 e)

-- set-up
pub record Ready (su : Setup) : Type 0 where
  pub tries : (m : Bool) → 1 ≤ maximum su m
  pub plain : 0 < su.interval → is_bundled su.kind ≡ false

pub within_low : (lo hi n : ℕ) → within lo hi n ≡ true → lo ≤ n
within_low lo hi n e = leb-true lo n (and_parts (leb lo n) (leb n hi) e).0

pub within_high : (lo hi n : ℕ) → within lo hi n ≡ true → n ≤ hi
within_high lo hi n e = leb-true n hi (and_parts (leb lo n) (leb n hi) e).1

pub ready : (su : Setup) → Accepted su → Ready su
ready su e = record { tries = tries; plain = plain }
  where
    a : (within 1 28 su.max_harq_tx && within 1 8 su.max_harq_msg3_tx) ≡ true
    a = (all_yes (set_up_questions su) e).0

    b : (eqb su.interval 0 || (within 1 640 su.interval && is_plain su.kind)) ≡ true
    b = (all_yes (set_up_questions su) e).1.0

    tries : (m : Bool) → 1 ≤ maximum su m
    tries true = within_low 1 8 su.max_harq_msg3_tx (and_parts (within 1 28 su.max_harq_tx) (within 1 8 su.max_harq_msg3_tx) a).1
    tries false = within_low 1 28 su.max_harq_tx (and_parts (within 1 28 su.max_harq_tx) (within 1 8 su.max_harq_msg3_tx) a).0

    not_bundled : (k : CellKind) → is_plain k ≡ true → is_bundled k ≡ false
    not_bundled Plain q = refl
    not_bundled Bundled q = absurd (both_ways false refl q)
    not_bundled Asynchronous q = refl

    plain : 0 < su.interval → is_bundled su.kind ≡ false
    plain h = go (or_cases (eqb su.interval 0) (within 1 640 su.interval && is_plain su.kind) b)
      where
        go : (eqb su.interval 0 ≡ true) ⊎ ((within 1 640 su.interval && is_plain su.kind) ≡ true) → is_bundled su.kind ≡ false
        go (inl q) = let z = eqb-true su.interval 0 q in absurd (omega arith)
        go (inr q) = not_bundled su.kind (and_parts (within 1 640 su.interval) (is_plain su.kind) q).1

-- a grant over the air
pub record Granted (su : Setup) (t : ℕ) (g : Grant) : Type 0 where
  pub pace : synchronous su.kind ≡ false → (1 ≤ g.repetitions) × (g.process < 8)
  pub interval : eqb g.kind 2 ≡ true → 0 < su.interval
  pub start : is_bundled su.kind ≡ true → t % 4 ≡ 0

abbrev pub GrantedBy : Setup → ℕ → Option Grant → Type 0
GrantedBy su t (Some g) = Granted su t g
GrantedBy su t None = Unit {0}

fields_pace : (kd : CellKind) (g : Grant) → synchronous kd ≡ false → fields_by_kind kd g ≡ true → (1 ≤ g.repetitions) × (g.process < 8)
fields_pace Plain g z e = absurd (both_ways true z refl)
fields_pace Bundled g z e = absurd (both_ways true z refl)
fields_pace Asynchronous g z e =
    let e₁ = (and_parts (leb g.mcs 28) _ e).1 in
    let e₂ = (and_parts (leb g.version 3) _ e₁).1 in
    let e₃ = and_parts (leb g.process 7) _ e₂ in
    let e₄ = (and_parts (eqb g.process 0 || not (eqb g.kind 1 || eqb g.kind 4)) _ e₃.1).1 in
    let p = leb-true g.process 7 e₃.0 in
    (within_low 1 32 g.repetitions e₄, omega arith)

-- a grant for the SPS C-RNTI goes with an interval
kind_interval : (su : Setup) (g : Grant) → kind_allowed su g ≡ true → eqb g.kind 2 ≡ true → 0 < su.interval
kind_interval su g e two = go (or_cases (eqb g.kind 0) _ e)
  where
    is_two : g.kind ≡ 2
    is_two = eqb-true g.kind 2 two

    not_it : (n : ℕ) → eqb g.kind n ≡ true → (n ≡ 2 → ⊥) → ⊥
    not_it n q ne = ne (sym (eqb-true g.kind n q) ∙ is_two)

    random_access : (eqb g.kind 1 ≡ true) ⊎ (eqb g.kind 4 ≡ true) → 0 < su.interval
    random_access (inl q) = absurd (not_it 1 q (λ z. absurd (omega arith)))
    random_access (inr q) = absurd (not_it 4 q (λ z. absurd (omega arith)))

    other : (((eqb g.kind 2 || eqb g.kind 3) && ltb 0 su.interval) ≡ true) ⊎ (((eqb g.kind 1 || eqb g.kind 4) && not (is_bundled su.kind)) ≡ true) → 0 < su.interval
    other (inl q) = ltb-true 0 su.interval (and_parts (eqb g.kind 2 || eqb g.kind 3) (ltb 0 su.interval) q).1
    other (inr q) = random_access (or_cases (eqb g.kind 1) (eqb g.kind 4) (and_parts (eqb g.kind 1 || eqb g.kind 4) (not (is_bundled su.kind)) q).0)

    go : (eqb g.kind 0 ≡ true) ⊎ ((((eqb g.kind 2 || eqb g.kind 3) && ltb 0 su.interval) || ((eqb g.kind 1 || eqb g.kind 4) && not (is_bundled su.kind))) ≡ true) → 0 < su.interval
    go (inl q) = absurd (not_it 0 q (λ z. absurd (omega arith)))
    go (inr q) = other (or_cases ((eqb g.kind 2 || eqb g.kind 3) && ltb 0 su.interval) _ q)

grant_facts : (su : Setup) (st : State) (g : Option Grant) → AllByRecursion Yes (grant_questions su st g) → GrantedBy su st.clock g
grant_facts su st None e = tt
grant_facts su st (Some g) qs =
    let f₁ = and_parts (kind_allowed su g) _ qs.0 in
    let f₂ = (and_parts (leb g.ndi 1) _ f₁.1).1 in
    let f₃ = (and_parts (within 1 645 g.size) _ f₂).1 in
    record {
      pace = λ z. fields_pace su.kind g z f₃;
      interval = kind_interval su g f₁.0;
      start = λ k. eqb-true (st.clock % 4) 0 (sym (ap (λ b. not b || eqb (st.clock % 4) 0) k) ∙ qs.1.1.0);
    }

-- a subframe call
pub record Asked (su : Setup) (st : State) (m : List ℕ) (g : Option Grant) : Type 0 where
  pub whole : length m ≡ 5805
  pub granted : GrantedBy su st.clock g

pub asked_facts : (su : Setup) (st : State) (m : List ℕ) (ready gap : Bool) (a : Option Feedback) (g : Option Grant) → first_no (subframe_questions su st (length m) ready gap a g) ≡ Ok tt → Asked su st m g
asked_facts su st m ready gap a g e =
    let qs = all_yes (subframe_questions su st (length m) ready gap a g) e in
    record { whole = eqb-true (length m) 5805 qs.0; granted = grant_facts su st g qs.1.1.1.1 }

-- configured grants are stored in a cell without bundles
abbrev pub StoredOk : Setup → Option ConfiguredGrant → Type 0
StoredOk su (Some c) = is_bundled su.kind ≡ false
StoredOk su None = Unit {0}

-- the grant in force
pub record ForceOk (su : Setup) (t : ℕ) (y : GrantInForce) : Type 0 where
  pub start : is_bundled su.kind ≡ true → t % 4 ≡ 0
  pub pace : synchronous su.kind ≡ false → (1 ≤ y.repetitions) × (y.process < 8)

abbrev pub ForceOkIf : Setup → ℕ → Option GrantInForce → Type 0
ForceOkIf su t (Some y) = ForceOk su t y
ForceOkIf su t None = Unit {0}

pub force_ok : (su : Setup) (t : ℕ) (c : Option ConfiguredGrant) (g : Option Grant) → GrantedBy su t g → StoredOk su c → ForceOkIf su t (grant_in_force su t c g)
force_ok su t c (Some g) h ok = go (reception_of g)
  where
    go : (r : Option Reception) → ForceOkIf su t (in_force_by g r)
    go None = tt
    go (Some r) = record { start = h.start; pace = h.pace }
force_ok su t None None h ok = tt
force_ok su t (Some c) None h ok = go (recurs su t c)
  where
    go : (d : Bool) → ForceOkIf su t (cond d (Some (recurring c)) None)
    go true = record { start = λ z. absurd (both_ways (is_bundled su.kind) ok z); pace = λ z. (omega arith, omega arith) }
    go false = tt

pub stored_ok : (su : Setup) (t : ℕ) (c : Option ConfiguredGrant) (g : Option Grant) → Ready su → GrantedBy su t g → StoredOk su c → StoredOk su (stored_after t c g)
stored_ok su t c None rd h ok = ok
stored_ok su t c (Some g) rd h ok = go (eqb g.kind 2) refl (eqb g.ndi 0)
  where
    release : (r : Bool) → StoredOk su (cond r None c)
    release true = tt
    release false = ok

    new : ConfiguredGrant
    new = record { since = t; mcs = g.mcs; resource = g.resource; size = g.size }

    go : (k : Bool) → eqb g.kind 2 ≡ k → (n : Bool) → StoredOk su (cond (k && n) (Some new) (cond (eqb g.kind 3) None c))
    go true e true = rd.plain (h.interval e)
    go true e false = release (eqb g.kind 3)
    go false e n = release (eqb g.kind 3)

-- the repetitions of process k that are still to come, from subframe t on
abbrev pub left : ℕ → Option Repetition → ℕ → ℕ
left t None k = 0
left t (Some r) k = cond (eqb r.process k) (r.until - t) 0

abbrev pub Paced : CellKind → ℕ → Option GrantInForce → Option Repetition → ℕ → Type 0
Paced Plain t g r k = Unit {0}
Paced Bundled t g r k = Unit {0}
Paced Asynchronous t (Some y) r k = (1 ≤ y.repetitions) × (y.process ≡ k)
Paced Asynchronous t None r k = 1 ≤ left t r k

abbrev pub RepetitionOk : Option Repetition → Type 0
RepetitionOk None = Unit {0}
RepetitionOk (Some r) = r.process < 8

-- whose subframe it is
pub record TurnOk (kd : CellKind) (t : ℕ) (g : Option GrantInForce) (r : Option Repetition) (k : ℕ) : Type 0 where
  pub below : k < 8
  pub owns : Owns kd t k
  pub paced : Paced kd t g r k

pub turn_ok : (su : Setup) (kd : CellKind) (t : ℕ) (g : Option GrantInForce) (r : Option Repetition) (k : ℕ) → su.kind ≡ kd → ForceOkIf su t g → RepetitionOk r → process_of kd t g r ≡ Some k → TurnOk kd t g r k
turn_ok su Plain t g r k q ok rok e = let i : t % 8 ≡ k = some_inj e in record { below = omega arith; owns = i; paced = tt }
turn_ok su Bundled t g r k q ok rok e = let i : (t % 16) / 4 ≡ k = some_inj e in record { below = omega arith; owns = i; paced = tt }
turn_ok su Asynchronous t (Some y) r k q ok rok e =
    let i : y.process ≡ k = some_inj e in
    let p = ok.pace (ap synchronous q) in
    record { below = omega arith; owns = tt; paced = (p.0, i) }
turn_ok su Asynchronous t None None k q ok rok e = absurd (none_some e)
turn_ok su Asynchronous t None (Some r) k q ok rok e = go (ltb t r.until) refl e
  where
    go : (b : Bool) → ltb t r.until ≡ b → cond b (Some r.process) None ≡ Some k → TurnOk Asynchronous t None (Some r) k
    go true z e =
        let i : r.process ≡ k = some_inj e in
        let p = ltb-true t r.until z in
        let here : left t (Some r) k ≡ r.until - t = ap (λ b. cond b (r.until - t) 0) (eq-eqb r.process k i) in
        record { below = omega arith; owns = tt; paced = omega arith }
    go false z e = absurd (none_some e)

-- the Msg3 buffer holds the last deposit: packet memory, last deposit, length of the packet in the buffer
pub record Held (m : List ℕ) (d : Option (List ℕ)) (n : ℕ) : Type 0 where
  pub bytes : List ℕ
  pub last : d ≡ Some bytes
  pub measured : length bytes ≡ n
  pub stored : part m 8 n ≡ bytes
  pub some : 1 ≤ n
  pub short : n ≤ 645

abbrev pub Msg3Ok : List ℕ → Option (List ℕ) → Option ℕ → Type 0
Msg3Ok m d (Some n) = Held m d n
Msg3Ok m d None = Unit {0}

-- a packet for a new transmission has 1 to 645 bytes, and one from Msg3 is the last deposit
pub record FreshOk (d : Option (List ℕ)) (f : Fresh) : Type 0 where
  pub some : 1 ≤ length f.packet
  pub short : length f.packet ≤ 645
  pub deposit : f.from_msg3 ≡ true → d ≡ Some f.packet

pub fresh_ok : (m : List ℕ) (d : Option (List ℕ)) (msg3 : Option ℕ) (y : GrantInForce) (offers : ℕ → Option (List ℕ)) → Msg3Ok m d msg3
    → (f : Fresh) → obtained y msg3 m (fitting offers) ≡ Some f → FreshOk d f
fresh_ok m d msg3 y offers ok f e = go y.reception msg3 ok e
  where
    from_source : (o : Option (List ℕ)) → offered (fitting_packet y.size o) ≡ Some f → FreshOk d f
    from_source None e = absurd (none_some e)
    from_source (Some b) e = fits (eqb (length b) y.size && within 1 645 y.size) refl e
      where
        fits : (x : Bool) → (eqb (length b) y.size && within 1 645 y.size) ≡ x → offered (cond x (Some b) None) ≡ Some f → FreshOk d f
        fits false q e = absurd (none_some e)
        fits true q e =
            let h = and_parts (eqb (length b) y.size) (within 1 645 y.size) q in
            let l = eqb-true (length b) y.size h.0 in
            let lo = within_low 1 645 y.size h.1 in
            let hi = within_high 1 645 y.size h.1 in
            subst (FreshOk d) (some_inj e) (record { some = omega arith; short = omega arith; deposit = λ z. absurd (both_ways false refl z) })

    from_msg3 : (o : Option ℕ) → Msg3Ok m d o → obtained_by o y.size m (fitting offers) ≡ Some f → FreshOk d f
    from_msg3 None ok e = from_source (offers y.size) e
    from_msg3 (Some n) ok e =
        let l : length (part m 8 n) ≡ n = ap length ok.stored ∙ ok.measured in
        let some-n = ok.some in
        let short_n = ok.short in
        subst (FreshOk d) (some_inj e) (record { some = omega arith; short = omega arith; deposit = λ z. ok.last ∙ ap Some (sym ok.stored) })

    go : (r : Reception) (o : Option ℕ) → Msg3Ok m d o → obtained_by (msg3_taken r o) y.size m (fitting offers) ≡ Some f → FreshOk d f
    go (CRnti n) o ok e = from_msg3 None tt e
    go TemporaryCRnti o ok e = from_msg3 None tt e
    go SpsRetransmission o ok e = from_msg3 None tt e
    go Configured o ok e = from_msg3 None tt e
    go RandomAccessResponse o ok e = from_msg3 o ok e
