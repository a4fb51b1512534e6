-- The relations decide every TTI of a cell: there is always something that the MAC entity is to do.
use Rattle.std.proofs.Common.{◌≡◌, ℕ, zero, suc, ◌+◌, ◌-◌, ◌%◌, ◌<◌, ◌≤◌, Bool, true, false, ◌⊎◌, List, Some, None, Option, sym, refl, ap, ◌∙◌, subst, inl, inr, arith}
use Rattle.std.proofs.lemmas.Bool.{both_ways, cases_eq, cases_lt}
use Rattle.terms.specs.declared.setup.CellKind.{CellKind}
use Rattle.terms.specs.declared.setup.CellKind.TheVariants.{Plain, Bundled, Asynchronous}
use Rattle.terms.specs.declared.setup.Setup.{Setup}
use Rattle.terms.specs.declared.grant.Grant.{Grant}
use Rattle.terms.specs.declared.grant.ConfiguredGrant.{ConfiguredGrant}
use Rattle.terms.specs.declared.process.Feedback.{Feedback}
use Rattle.terms.specs.declared.process.Feedback.TheVariants.{Nack, Ack}
use Rattle.terms.specs.declared.state.Repetition.{Repetition}
use Rattle.terms.specs.Sendings.{Sending}
use Rattle.rules.specs.Reception.{recurs}
use Rattle.runs.proofs.Amends.{none_some, some_inj}
use Rattle.standard.specs.Ts36321 as ts
use Rattle.standard.proofs.Likeness.{stored_one, stored_as, BundledAlike}
use Rattle.standard.proofs.Granting.{occurs_recurs, recurs_occurs, ProperIf, Identified, identified}

abbrev Decided : Type 0 → Type 0
Decided A = A ⊎ (A → ⊥)

-- Feedback.
hears_total : (i : ts.TTI) (h : ts.HarqProcess) → (f : Feedback) × ts.Hears i h f
hears_total i h = at_time h.feedback_time refl
  where
    with_none : h.feedback_time ≡ Some i.time → i.gap ≡ false → (a : Option Feedback) → i.feedback ≡ a → (f : Feedback) × ts.Hears i h f
    with_none e g None q = (h.HARQ_FEEDBACK, ts.no_feedback e g q)
    with_none e g (Some f) q = (f, ts.feedback_received f e g q)

    by_gap : h.feedback_time ≡ Some i.time → (g : Bool) → i.gap ≡ g → (m : Bool) → h.from_msg3 ≡ m → (f : Feedback) × ts.Hears i h f
    by_gap e false g m q = with_none e g i.feedback refl
    by_gap e true g true q = (h.HARQ_FEEDBACK, ts.gap_at_msg3_feedback e g q)
    by_gap e true g false q = (Ack, ts.gap_at_feedback e g q)

    at_time : (o : Option ℕ) → h.feedback_time ≡ o → (f : Feedback) × ts.Hears i h f
    at_time None e = (h.HARQ_FEEDBACK, ts.other_time (λ q. none_some (sym e ∙ q)))
    at_time (Some u) e = by (cases_eq u i.time)
      where
        by : (u ≡ i.time) ⊎ (u ≡ i.time → ⊥) → (f : Feedback) × ts.Hears i h f
        by (inl s) = by_gap (e ∙ ap Some s) i.gap refl h.from_msg3 refl
        by (inr ne) = (h.HARQ_FEEDBACK, ts.other_time (λ q. ne (some_inj (sym e ∙ q))))

-- Grant reception, where the fields of a grant hold.
pub record Known (g : Grant) : Type 0 where
  pub kind : g.kind ≤ 4
  pub ndi : g.ndi ≤ 1

abbrev pub KnownIf : Option Grant → Type 0
KnownIf None = Unit {0}
KnownIf (Some g) = Known g

delivers_total : (su : Setup) (t : ℕ) (conf : Option ConfiguredGrant) (mc : Option ts.Configured) (g : Option Grant) → mc ≡ stored_as conf → KnownIf g → (u : Option ts.UplinkGrant) × (c : Option ts.Configured) × ts.Delivers su t mc g u c
delivers_total su t conf mc (Some g) e known = by_kind g.kind refl g.ndi refl known.kind known.ndi
  where
    by_kind : (n : ℕ) → g.kind ≡ n → (b : ℕ) → g.ndi ≡ b → n ≤ 4 → b ≤ 1 → (u : Option ts.UplinkGrant) × (c : Option ts.Configured) × ts.Delivers su t mc (Some g) u c
    by_kind zero e b q le one = (_, _, ts.CRntiGrant mc g e)
    by_kind (suc zero) e b q le one = (_, _, ts.TemporaryCRntiGrant mc g e)
    by_kind (suc (suc zero)) e zero q le one = (_, _, ts.SpsActivation mc g e q)
    by_kind (suc (suc zero)) e (suc zero) q le one = (_, _, ts.SpsRetransmission mc g e q)
    by_kind (suc (suc zero)) e (suc (suc b)) q le one = absurd (omega arith)
    by_kind (suc (suc (suc zero))) e b q le one = (_, _, ts.SpsRelease mc g e)
    by_kind (suc (suc (suc (suc zero)))) e b q le one = (_, _, ts.RandomAccessResponseGrant mc g e)
    by_kind (suc (suc (suc (suc (suc n))))) e b q le one = absurd (omega arith)
delivers_total su t None mc None e known = (None, mc, ts.no_grant mc none)
  where
    none : ts.ConfiguredFor su t mc → ⊥
    none = subst (λ z. ts.ConfiguredFor su t z → ⊥) (sym e) never
      where
        inner : (z : Option ts.Configured) → ts.ConfiguredFor su t z → z ≡ None → ⊥
        inner z (ts.occurs c o) q = none_some (sym q)

        never : ts.ConfiguredFor su t None → ⊥
        never x = inner None x refl
delivers_total su t (Some d) mc None e known = by (recurs su t d) refl
  where
    by : (b : Bool) → recurs su t d ≡ b → (u : Option ts.UplinkGrant) × (c : Option ts.Configured) × ts.Delivers su t mc None u c
    by true q = subst (λ z. (u : Option ts.UplinkGrant) × (c : Option ts.Configured) × ts.Delivers su t z None u c) (sym e) (_, _, ts.configured_occurs (stored_one d) (recurs_occurs su t d q))
    by false q = (None, mc, ts.no_grant mc none)
      where
        inner : (z : Option ts.Configured) → ts.ConfiguredFor su t z → z ≡ Some (stored_one d) → ⊥
        inner z (ts.occurs c o) s = both_ways (recurs su t d) q (occurs_recurs su t d (subst (ts.Occurs su t) (some_inj s) o))

        none : ts.ConfiguredFor su t mc → ⊥
        none x = inner mc x e

notes_total : (h : ts.HarqProcess) (u : Option ts.UplinkGrant) → (r : Option ts.Received) × ts.Notes h u r
notes_total h None = (_, ts.none)
notes_total h (Some g) = by g.received refl
  where
    by : (x : ts.Received) → g.received ≡ x → (r : Option ts.Received) × ts.Notes h (Some g) r
    by ts.for_c_rnti e = (_, ts.CRnti g e)
    by ts.for_temporary_c_rnti e = (_, ts.TemporaryCRnti g e)
    by ts.for_sps_c_rnti e = (_, ts.SpsCRnti g e)
    by ts.in_random_access_response e = (_, ts.RandomAccessResponse g e)
    by ts.configured e = (_, ts.configured_one g e)

-- The HARQ entity.
other_received : (x y : ts.Received) → Type 0
other_received x y = x ≡ y → ⊥

toggled_or_not : (h : ts.HarqProcess) (g : ts.UplinkGrant) → g.received ≡ ts.for_c_rnti → Decided (ts.Toggled h g)
toggled_or_not h g e = by h.previous_ndi refl h.previous_grant refl
  where
    same_value : (n : ℕ) → h.previous_ndi ≡ Some n → n ≡ g.NDI → (h.previous_grant ≡ Some ts.for_sps_c_rnti → ⊥) → (h.previous_grant ≡ Some ts.configured → ⊥) → (h.previous_grant ≡ Some ts.in_random_access_response → ⊥) → ts.Toggled h g → ⊥
    same_value n q s a b c (ts.by_configuration z) = let w : ◌≡◌ {A = ℕ} 0 1 = cc in omega arith
    same_value n q s a b c (ts.after_sps z v) = a v
    same_value n q s a b c (ts.after_configured z v) = b v
    same_value n q s a b c (ts.after_random_access_response z v) = c v
    same_value n q s a b c (ts.by_value m z v ne) = ne (some_inj (sym v ∙ q) ∙ s)
    same_value n q s a b c (ts.at_first z v) = none_some (sym v ∙ q)

    value : (n : ℕ) → h.previous_ndi ≡ Some n → (h.previous_grant ≡ Some ts.for_sps_c_rnti → ⊥) → (h.previous_grant ≡ Some ts.configured → ⊥) → (h.previous_grant ≡ Some ts.in_random_access_response → ⊥) → Decided (ts.Toggled h g)
    value n q a b c = go (cases_eq n g.NDI)
      where
        go : (n ≡ g.NDI) ⊎ (n ≡ g.NDI → ⊥) → Decided (ts.Toggled h g)
        go (inl s) = inr (same_value n q s a b c)
        go (inr ne) = inl (ts.by_value n e q ne)

    by : (n : Option ℕ) → h.previous_ndi ≡ n → (v : Option ts.Received) → h.previous_grant ≡ v → Decided (ts.Toggled h g)
    by None q v p = inl (ts.at_first e q)
    by (Some n) q None p = value n q (λ z. none_some (sym p ∙ z)) (λ z. none_some (sym p ∙ z)) (λ z. none_some (sym p ∙ z))
    by (Some n) q (Some ts.for_sps_c_rnti) p = inl (ts.after_sps e p)
    by (Some n) q (Some ts.configured) p = inl (ts.after_configured e p)
    by (Some n) q (Some ts.in_random_access_response) p = inl (ts.after_random_access_response e p)
    by (Some n) q (Some ts.for_c_rnti) p = value n q (λ z. let w : ◌≡◌ {A = ℕ} 0 1 = cc in omega arith) (λ z. let w : ◌≡◌ {A = ℕ} 0 1 = cc in omega arith) (λ z. let w : ◌≡◌ {A = ℕ} 0 1 = cc in omega arith)
    by (Some n) q (Some ts.for_temporary_c_rnti) p = value n q (λ z. let w : ◌≡◌ {A = ℕ} 0 1 = cc in omega arith) (λ z. let w : ◌≡◌ {A = ℕ} 0 1 = cc in omega arith) (λ z. let w : ◌≡◌ {A = ℕ} 0 1 = cc in omega arith)

-- a grant for the SPS C-RNTI or the Temporary C-RNTI is not toggled
never_toggled : (h : ts.HarqProcess) (g : ts.UplinkGrant) → (g.received ≡ ts.for_c_rnti → ⊥) → (g.received ≡ ts.configured → ⊥) → ts.Toggled h g → ⊥
never_toggled h g a b (ts.by_configuration z) = b z
never_toggled h g a b (ts.after_sps z v) = a z
never_toggled h g a b (ts.after_configured z v) = a z
never_toggled h g a b (ts.after_random_access_response z v) = a z
never_toggled h g a b (ts.by_value m z v ne) = a z
never_toggled h g a b (ts.at_first z v) = a z

new_or_not : (h : ts.HarqProcess) (g : ts.UplinkGrant) → Decided (ts.New h g)
new_or_not h g = by g.received refl
  where
    never : (g.received ≡ ts.for_c_rnti → ⊥) → (g.received ≡ ts.configured → ⊥) → (g.received ≡ ts.in_random_access_response → ⊥) → ts.New h g → ⊥
    never a b c (ts.toggled z v) = never_toggled h g a b v
    never a b c (ts.empty_buffer z v) = a z
    never a b c (ts.random_access z) = c z

    on_c_rnti : g.received ≡ ts.for_c_rnti → (o : Option (List ℕ)) → h.buffer ≡ o → Decided (ts.New h g)
    on_c_rnti e None q = inl (ts.empty_buffer e q)
    on_c_rnti e (Some pdu) q = go (toggled_or_not h g e)
      where
        not_new : (ts.Toggled h g → ⊥) → ts.New h g → ⊥
        not_new n (ts.toggled z v) = n v
        not_new n (ts.empty_buffer z v) = none_some (sym v ∙ q)
        not_new n (ts.random_access z) = let w : ◌≡◌ {A = ℕ} 0 1 = cc in omega arith

        go : Decided (ts.Toggled h g) → Decided (ts.New h g)
        go (inl x) = inl (ts.toggled (λ z. let w : ◌≡◌ {A = ℕ} 0 1 = cc in omega arith) x)
        go (inr n) = inr (not_new n)

    by : (x : ts.Received) → g.received ≡ x → Decided (ts.New h g)
    by ts.for_c_rnti e = on_c_rnti e h.buffer refl
    by ts.for_temporary_c_rnti e = inr (never (λ z. let w : ◌≡◌ {A = ℕ} 0 1 = cc in omega arith) (λ z. let w : ◌≡◌ {A = ℕ} 0 1 = cc in omega arith) (λ z. let w : ◌≡◌ {A = ℕ} 0 1 = cc in omega arith))
    by ts.for_sps_c_rnti e = inr (never (λ z. let w : ◌≡◌ {A = ℕ} 0 1 = cc in omega arith) (λ z. let w : ◌≡◌ {A = ℕ} 0 1 = cc in omega arith) (λ z. let w : ◌≡◌ {A = ℕ} 0 1 = cc in omega arith))
    by ts.in_random_access_response e = inl (ts.random_access e)
    by ts.configured e = inl (ts.toggled (λ z. let w : ◌≡◌ {A = ℕ} 0 1 = cc in omega arith) (ts.by_configuration e))

-- a configured grant is always for a new transmission
configured_new : (h : ts.HarqProcess) (g : ts.UplinkGrant) → g.received ≡ ts.configured → ts.New h g
configured_new h g e = ts.toggled (λ z. let w : ◌≡◌ {A = ℕ} 0 1 = cc in omega arith) (ts.by_configuration e)

Msg3OrNot : (Msg3 : Option (List ℕ)) (g : ts.UplinkGrant) → ((pdu : List ℕ) × ts.FromMsg3 Msg3 g pdu) ⊎ ((pdu : List ℕ) → ts.FromMsg3 Msg3 g pdu → ⊥)
Msg3OrNot Msg3 g = by g.received refl Msg3 refl
  where
    never : (g.received ≡ ts.in_random_access_response → ⊥) → (pdu : List ℕ) → ts.FromMsg3 Msg3 g pdu → ⊥
    never n pdu (ts.held pdu₁ e q) = n e

    empty : Msg3 ≡ None → (pdu : List ℕ) → ts.FromMsg3 Msg3 g pdu → ⊥
    empty z pdu (ts.held pdu₁ e q) = none_some (sym z ∙ q)

    by : (x : ts.Received) → g.received ≡ x → (o : Option (List ℕ)) → Msg3 ≡ o → ((pdu : List ℕ) × ts.FromMsg3 Msg3 g pdu) ⊎ ((pdu : List ℕ) → ts.FromMsg3 Msg3 g pdu → ⊥)
    by ts.in_random_access_response e (Some pdu) q = inl (pdu, ts.held pdu e q)
    by ts.in_random_access_response e None q = inr (empty q)
    by ts.for_c_rnti e o q = inr (never (λ z. let w : ◌≡◌ {A = ℕ} 0 1 = cc in omega arith))
    by ts.for_temporary_c_rnti e o q = inr (never (λ z. let w : ◌≡◌ {A = ℕ} 0 1 = cc in omega arith))
    by ts.for_sps_c_rnti e o q = inr (never (λ z. let w : ◌≡◌ {A = ℕ} 0 1 = cc in omega arith))
    by ts.configured e o q = inr (never (λ z. let w : ◌≡◌ {A = ℕ} 0 1 = cc in omega arith))

kept_or_not : (su : Setup) (h : ts.HarqProcess) (g : ts.UplinkGrant) → Decided (ts.Kept su h g)
kept_or_not su h g = by (cases_lt su.interval 10) g.received refl h.buffer refl h.HARQ_FEEDBACK refl
  where
    long : 10 ≤ su.interval → ts.Kept su h g → ⊥
    long le (ts.kept pdu lt e has f) = omega arith

    other : (g.received ≡ ts.configured → ⊥) → ts.Kept su h g → ⊥
    other n (ts.kept pdu lt e has f) = n e

    empty : h.buffer ≡ None → ts.Kept su h g → ⊥
    empty z (ts.kept pdu lt e has f) = none_some (sym z ∙ has)

    acked : h.HARQ_FEEDBACK ≡ Ack → ts.Kept su h g → ⊥
    acked z (ts.kept pdu lt e has f) = let w : ◌≡◌ {A = ℕ} 0 1 = cc in omega arith

    by : (su.interval < 10) ⊎ (10 ≤ su.interval) → (x : ts.Received) → g.received ≡ x → (o : Option (List ℕ)) → h.buffer ≡ o → (f : Feedback) → h.HARQ_FEEDBACK ≡ f → Decided (ts.Kept su h g)
    by (inr le) x e o q f z = inr (long le)
    by (inl lt) ts.for_c_rnti e o q f z = inr (other (λ z. let w : ◌≡◌ {A = ℕ} 0 1 = cc in omega arith))
    by (inl lt) ts.for_temporary_c_rnti e o q f z = inr (other (λ z. let w : ◌≡◌ {A = ℕ} 0 1 = cc in omega arith))
    by (inl lt) ts.for_sps_c_rnti e o q f z = inr (other (λ z. let w : ◌≡◌ {A = ℕ} 0 1 = cc in omega arith))
    by (inl lt) ts.in_random_access_response e o q f z = inr (other (λ z. let w : ◌≡◌ {A = ℕ} 0 1 = cc in omega arith))
    by (inl lt) ts.configured e None q f z = inr (empty q)
    by (inl lt) ts.configured e (Some pdu) q Ack z = inr (acked z)
    by (inl lt) ts.configured e (Some pdu) q Nack z = inl (ts.kept pdu lt e q z)

-- what a request can rely on
abbrev Feasible : Setup → ts.HarqProcess → ts.Request → Type 0
Feasible su h (ts.new_transmission pdu m3 g) = su.kind ≡ Asynchronous → g.redundancy_version ≤ 3
Feasible su h (ts.adaptive_retransmission g) = ((pdu : List ℕ) × (h.buffer ≡ Some pdu)) × (su.kind ≡ Asynchronous → g.redundancy_version ≤ 3) × (g.MCS ≤ 31)
Feasible su h ts.non_adaptive_retransmission = (pdu : List ℕ) × (h.buffer ≡ Some pdu)
Feasible su h ts.no_request = Unit {0}

abbrev Requested : Setup → Option (List ℕ) → (ℕ → Option (List ℕ)) → ts.HarqProcess → Option ts.UplinkGrant → Type 0
Requested su Msg3 assembly h u = (r : ts.Request) × ts.Requests su Msg3 assembly h u r × Feasible su h r

requests_total : (su : Setup) (Msg3 : Option (List ℕ)) (assembly : ℕ → Option (List ℕ)) (h : ts.HarqProcess) (u : Option ts.UplinkGrant) → ProperIf su u → Requested su Msg3 assembly h u
requests_total su Msg3 assembly h None ok = by h.buffer refl
  where
    by : (o : Option (List ℕ)) → h.buffer ≡ o → Requested su Msg3 assembly h None
    by None e = (ts.no_request, ts.idle e, tt)
    by (Some pdu) e = (ts.non_adaptive_retransmission, ts.non_adaptive pdu e, (pdu, e))
requests_total su Msg3 assembly h (Some g) ok = by (new_or_not h g)
  where
    from_assembly : ts.New h g → ((pdu : List ℕ) → ts.FromMsg3 Msg3 g pdu → ⊥) → (ts.Kept su h g → ⊥) → (o : Option (List ℕ)) → assembly g.size ≡ o → Requested su Msg3 assembly h (Some g)
    from_assembly new none spared None e = (ts.no_request, ts.none_obtained g new none spared e, tt)
    from_assembly new none spared (Some pdu) e = (ts.new_transmission pdu false g, ts.assembled_transmission g pdu new none spared e, ok.version)

    not_from_msg3 : ts.New h g → ((pdu : List ℕ) → ts.FromMsg3 Msg3 g pdu → ⊥) → Decided (ts.Kept su h g) → Requested su Msg3 assembly h (Some g)
    not_from_msg3 new none (inl (ts.kept pdu lt e has f)) = (ts.non_adaptive_retransmission, ts.kept_for_retransmission g new none (ts.kept pdu lt e has f), (pdu, has))
    not_from_msg3 new none (inr spared) = from_assembly new none spared (assembly g.size) refl

    anew : ts.New h g → ((pdu : List ℕ) × ts.FromMsg3 Msg3 g pdu) ⊎ ((pdu : List ℕ) → ts.FromMsg3 Msg3 g pdu → ⊥) → Requested su Msg3 assembly h (Some g)
    anew new (inl x) = (ts.new_transmission x.0 true g, ts.Msg3Transmission g x.0 new x.1, ok.version)
    anew new (inr none) = not_from_msg3 new none (kept_or_not su h g)

    again : (ts.New h g → ⊥) → (o : Option (List ℕ)) → h.buffer ≡ o → Requested su Msg3 assembly h (Some g)
    again new None e = (ts.no_request, ts.empty_retransmission g new e, tt)
    again new (Some pdu) e = (ts.adaptive_retransmission g, ts.adaptive g pdu new e, ((pdu, e), ok.version, ok.mcs (λ z. new (configured_new h g z))))

    by : Decided (ts.New h g) → Requested su Msg3 assembly h (Some g)
    by (inl new) = anew new (Msg3OrNot Msg3 g)
    by (inr new) = again new h.buffer refl

-- The HARQ process.
index_total : (v : ℕ) → v ≤ 3 → (j : ℕ) × ts.Index v j
index_total zero le = (0, ts.index 0 (omega arith) refl)
index_total (suc zero) le = (3, ts.index 3 (omega arith) refl)
index_total (suc (suc zero)) le = (1, ts.index 1 (omega arith) refl)
index_total (suc (suc (suc zero))) le = (2, ts.index 2 (omega arith) refl)
index_total (suc (suc (suc (suc n)))) le = absurd (omega arith)

version_total : (n : ℕ) → n ≤ 31 → (v : ℕ) × ts.McsVersion n v × (v ≤ 3)
version_total n le = by (cases_lt 28 n)
  where
    at : (k : ℕ) → n ≡ 29 + k → (v : ℕ) × ts.McsVersion n v × (v ≤ 3)
    at zero e = subst (λ x. (v : ℕ) × ts.McsVersion x v × (v ≤ 3)) (sym e) (1, ts.at_29, omega arith)
    at (suc zero) e = subst (λ x. (v : ℕ) × ts.McsVersion x v × (v ≤ 3)) (sym e) (2, ts.at_30, omega arith)
    at (suc (suc zero)) e = subst (λ x. (v : ℕ) × ts.McsVersion x v × (v ≤ 3)) (sym e) (3, ts.at_31, omega arith)
    at (suc (suc (suc k))) e = absurd (omega arith)

    by : (28 < n) ⊎ (n ≤ 28) → (v : ℕ) × ts.McsVersion n v × (v ≤ 3)
    by (inr low) = (0, ts.up_to_28 n low, omega arith)
    by (inl high) = at (n - 29) (omega arith)

used_total : (before n : ℕ) → (s : ℕ) × ts.McsUsed before n s
used_total before n = by (cases_lt 28 n)
  where
    by : (28 < n) ⊎ (n ≤ 28) → (s : ℕ) × ts.McsUsed before n s
    by (inl high) = (before, ts.not_provided n high)
    by (inr low) = (n, ts.provided n low)

compared_total : (h : ts.HarqProcess) (g : ts.UplinkGrant) → (n : Option ℕ) × (r : Option ts.Received) × ts.Compared h g n r
compared_total h g = by g.received refl
  where
    by : (x : ts.Received) → g.received ≡ x → (n : Option ℕ) × (r : Option ts.Received) × ts.Compared h g n r
    by ts.for_c_rnti e = (_, _, ts.CRnti e)
    by ts.for_temporary_c_rnti e = (_, _, ts.other (λ z. let w : ◌≡◌ {A = ℕ} 0 1 = cc in omega arith))
    by ts.for_sps_c_rnti e = (_, _, ts.other (λ z. let w : ◌≡◌ {A = ℕ} 0 1 = cc in omega arith))
    by ts.in_random_access_response e = (_, _, ts.other (λ z. let w : ◌≡◌ {A = ℕ} 0 1 = cc in omega arith))
    by ts.configured e = (_, _, ts.other (λ z. let w : ◌≡◌ {A = ℕ} 0 1 = cc in omega arith))

-- synchronous, or not
which : (kd : CellKind) → ts.Synchronous kd ⊎ (kd ≡ Asynchronous)
which Plain = inl ts.plain
which Bundled = inl ts.bundled
which Asynchronous = inr refl

falls_total : (kd : CellKind) (t : ℕ) (before : Option ℕ) → (f : Option ℕ) × ts.FeedbackFalls t before kd f
falls_total Plain t before = (Some (t + 4), ts.four_later)
falls_total Bundled t before = (Some ((t + 3 - t % 4) + 4), ts.after_last (t + 3 - t % 4) (omega arith) (omega arith) (omega arith))
falls_total Asynchronous t before = (before, ts.not_applicable)

generates_total : (kd : CellKind) (t k : ℕ) (gap : Bool) (h : ts.HarqProcess) (pdu : List ℕ) → h.buffer ≡ Some pdu → (x : Option Sending) × (h' : ts.HarqProcess) × ts.Generates kd t k gap h x h'
generates_total kd t k gap h pdu has = by gap refl h.from_msg3 refl (falls_total kd t h.feedback_time)
  where
    by : (g : Bool) → gap ≡ g → (m : Bool) → h.from_msg3 ≡ m → (f : Option ℕ) × ts.FeedbackFalls t h.feedback_time kd f → (x : Option Sending) × (h' : ts.HarqProcess) × ts.Generates kd t k gap h x h'
    by false e m q f = (_, _, ts.no_gap pdu f.0 has e f.1)
    by true e true q f = (_, _, ts.Msg3Pdu pdu f.0 has q f.1)
    by true e false q f = (_, _, ts.in_gap q e)

flushes_total : (su : Setup) (h : ts.HarqProcess) → (h' : ts.HarqProcess) × ts.Flushes su h h'
flushes_total su h = by (which su.kind) (cases_eq h.CURRENT_TX_NB (ts.maximum_number su h - 1))
  where
    by : ts.Synchronous su.kind ⊎ (su.kind ≡ Asynchronous) → Decided (h.CURRENT_TX_NB ≡ ts.maximum_number su h - 1) → (h' : ts.HarqProcess) × ts.Flushes su h h'
    by (inr a) d = (_, ts.no_maximum a)
    by (inl s) (inl e) = (_, ts.last_transmission s e)
    by (inl s) (inr ne) = (_, ts.not_last s ne)

abbrev CarriedOut : Setup → ℕ → ℕ → Bool → ts.HarqProcess → ts.Request → Type 0
CarriedOut su t k gap h r = (x : Option Sending) × (h' : ts.HarqProcess) × ts.CarriesOut su t k gap h r x h'

module _ (su : Setup) (t k : ℕ) (gap : Bool) (h : ts.HarqProcess) where
  -- a process that generates a transmission carries the request out
  goes_on : (r : ts.Request) (h₁ : ts.HarqProcess) (pdu : List ℕ) → ts.Prepares su h r h₁ true → h₁.buffer ≡ Some pdu → CarriedOut su t k gap h r
  goes_on r h₁ pdu pr has =
      let g = generates_total su.kind t k gap h₁ pdu has in
      let f = flushes_total su g.1 in
      (g.0, f.0, ts.generated r h₁ g.1 f.0 g.0 pr g.2 f.1)

  new_out : (pdu : List ℕ) (m3 : Bool) (g : ts.UplinkGrant) → (su.kind ≡ Asynchronous → g.redundancy_version ≤ 3) → CarriedOut su t k gap h (ts.new_transmission pdu m3 g)
  new_out pdu m3 g ver = by (which su.kind)
    where
      c : (n : Option ℕ) × (r : Option ts.Received) × ts.Compared h g n r
      c = compared_total h g

      by : ts.Synchronous su.kind ⊎ (su.kind ≡ Asynchronous) → CarriedOut su t k gap h (ts.new_transmission pdu m3 g)
      by (inl s) = goes_on (ts.new_transmission pdu m3 g) _ pdu (ts.new_synchronous pdu m3 g c.0 c.1 s c.2) refl
      by (inr a) = let i = index_total g.redundancy_version (ver a) in goes_on (ts.new_transmission pdu m3 g) _ pdu (ts.new_asynchronous pdu m3 g c.0 c.1 i.0 a c.2 i.1) refl

  adaptive_out : (g : ts.UplinkGrant) (pdu : List ℕ) → h.buffer ≡ Some pdu → (su.kind ≡ Asynchronous → g.redundancy_version ≤ 3) → g.MCS ≤ 31 → CarriedOut su t k gap h (ts.adaptive_retransmission g)
  adaptive_out g pdu has ver le = by (which su.kind)
    where
      c : (n : Option ℕ) × (r : Option ts.Received) × ts.Compared h g n r
      c = compared_total h g

      s : (n : ℕ) × ts.McsUsed h.MCS g.MCS n
      s = used_total h.MCS g.MCS

      by : ts.Synchronous su.kind ⊎ (su.kind ≡ Asynchronous) → CarriedOut su t k gap h (ts.adaptive_retransmission g)
      by (inl sy) =
          let v = version_total g.MCS le in
          let i = index_total v.0 v.2 in
          goes_on (ts.adaptive_retransmission g) _ pdu (ts.adaptive_synchronous g c.0 c.1 v.0 i.0 s.0 sy c.2 v.1 i.1 s.1) has
      by (inr a) = let i = index_total g.redundancy_version (ver a) in goes_on (ts.adaptive_retransmission g) _ pdu (ts.adaptive_asynchronous g c.0 c.1 i.0 s.0 a c.2 i.1 s.1) has

  again_out : (pdu : List ℕ) → h.buffer ≡ Some pdu → CarriedOut su t k gap h ts.non_adaptive_retransmission
  again_out pdu has = by (which su.kind) h.HARQ_FEEDBACK refl
    where
      kept_back : ts.Synchronous su.kind → h.HARQ_FEEDBACK ≡ Ack → CarriedOut su t k gap h ts.non_adaptive_retransmission
      kept_back s e =
          let h₁ : ts.HarqProcess = record { buffer = h.buffer; from_msg3 = h.from_msg3; CURRENT_TX_NB = h.CURRENT_TX_NB + 1; HARQ_FEEDBACK = h.HARQ_FEEDBACK; CURRENT_IRV = h.CURRENT_IRV; MCS = h.MCS; resource = h.resource; feedback_time = h.feedback_time; previous_ndi = h.previous_ndi; previous_grant = h.previous_grant } in
          let f = flushes_total su h₁ in
          (None, f.0, ts.not_generated ts.non_adaptive_retransmission h₁ f.0 (ts.non_adaptive_ack s e) f.1)

      by : ts.Synchronous su.kind ⊎ (su.kind ≡ Asynchronous) → (f : Feedback) → h.HARQ_FEEDBACK ≡ f → CarriedOut su t k gap h ts.non_adaptive_retransmission
      by (inr a) f e = goes_on ts.non_adaptive_retransmission h pdu (ts.non_adaptive_asynchronous a) has
      by (inl s) Nack e = goes_on ts.non_adaptive_retransmission _ pdu (ts.non_adaptive_nack s e) has
      by (inl s) Ack e = kept_back s e

  carries_total : (r : ts.Request) → Feasible su h r → CarriedOut su t k gap h r
  carries_total (ts.new_transmission pdu m3 g) f = new_out pdu m3 g f
  carries_total (ts.adaptive_retransmission g) f = adaptive_out g f.0.0 f.0.1 f.1 f.2
  carries_total ts.non_adaptive_retransmission f = again_out f.0 f.1
  carries_total ts.no_request f = (None, h, ts.nothing)

bundles_total : (su : Setup) (t k : ℕ) (b : Option ts.Bundle) (r : ts.Request) → (b' : Option ts.Bundle) × ts.Bundles su t k b r b'
bundles_total su t k b (ts.new_transmission pdu m3 g) = by (which su.kind)
  where
    by : ts.Synchronous su.kind ⊎ (su.kind ≡ Asynchronous) → (b' : Option ts.Bundle) × ts.Bundles su t k b (ts.new_transmission pdu m3 g) b'
    by (inl s) = (_, ts.synchronous_new pdu m3 g s)
    by (inr a) = (_, ts.new_bundle pdu m3 g a)
bundles_total su t k b (ts.adaptive_retransmission g) = by (which su.kind)
  where
    by : ts.Synchronous su.kind ⊎ (su.kind ≡ Asynchronous) → (b' : Option ts.Bundle) × ts.Bundles su t k b (ts.adaptive_retransmission g) b'
    by (inl s) = (_, ts.synchronous_adaptive g s)
    by (inr a) = (_, ts.adaptive_bundle g a)
bundles_total su t k b ts.non_adaptive_retransmission = (_, ts.within_bundle)
bundles_total su t k b ts.no_request = (_, ts.no_bundle)

-- a TTI
pub performs_total : (su : Setup) (mac : ts.MAC) (i : ts.TTI) (conf : Option ConfiguredGrant) (rep : Option Repetition) → mac.configured ≡ stored_as conf → BundledAlike i.time mac.bundle rep → KnownIf i.grant
    → ((u : Option ts.UplinkGrant) (c : Option ts.Configured) → ts.Delivers su i.time mac.configured i.grant u c → ProperIf su u) → (x : Option Sending) × (mac' : ts.MAC) × ts.Performs su mac i x mac'
performs_total su mac i conf rep stored bundle known proper = go (identified su i.time mac.bundle rep u bundle)
  where
    fs : (k : ℕ) → (f : Feedback) × ts.Hears i (mac.process k) f
    fs k = hears_total i (mac.process k)

    d : (u : Option ts.UplinkGrant) × (c : Option ts.Configured) × ts.Delivers su i.time mac.configured i.grant u c
    d = delivers_total su i.time conf mac.configured i.grant stored known

    u : Option ts.UplinkGrant
    u = d.0

    go : Identified su i.time mac.bundle u → (x : Option Sending) × (mac' : ts.MAC) × ts.Performs su mac i x mac'
    go (inr none) = (None, _, ts.in_no_process (λ k. (fs k).0) u d.1 (λ k. (fs k).1) d.2 none.0)
    go (inl id) =
        let k : ℕ = id.0 in
        let h : ts.HarqProcess = ts.heard (mac.process k) (fs k).0 in
        let n = notes_total h u in
        let q = requests_total su mac.Msg3 i.assembly (ts.noted h n.0) u (proper u d.1 d.2) in
        let c = carries_total su i.time k i.gap (ts.noted h n.0) q.0 q.2 in
        let b = bundles_total su i.time k mac.bundle q.0 in
        (c.0, _, ts.in_process (λ j. (fs j).0) u d.1 k n.0 q.0 c.0 c.1 b.0 (λ j. (fs j).1) d.2 id.1 n.1 q.1 c.2 b.1)
