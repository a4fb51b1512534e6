-- The HARQ entity: what the relations request of a process, the rules have it do.
use Rattle.std.proofs.Common.{◌≡◌, ℕ, Bool, true, false, not, eqb, ltb, ◌⊎◌, List, length, is_some, Some, None, Option, sym, refl, ap, ◌∙◌, inl, inr, arith}
use Rattle.std.proofs.lemmas.Bool.{eqb-false, ltb-true, lt-ltb, ne_eqb, both_ways, and_from, and_parts, or_cases, or_left, or_right, not-true, not_from_false}
use Rattle.terms.specs.declared.answer.Outcome.{Outcome}
use Rattle.terms.specs.declared.answer.Outcome.TheVariants.{Idle, EmptyBuffer, NoPacket}
use Rattle.terms.specs.declared.setup.Setup.{Setup}
use Rattle.terms.specs.declared.grant.Reception.{Reception}
use Rattle.terms.specs.declared.process.Feedback.{Feedback}
use Rattle.terms.specs.declared.process.Feedback.TheVariants.{Nack, Ack}
use Rattle.terms.specs.declared.process.Process.{Process}
use Rattle.rules.specs.Process.{is_ack, holds_packet, renewed, adapted, repeated}
use Rattle.rules.specs.Reception.{reference_kept, with_reference, referred}
use Rattle.rules.specs.Entity.{toggled, wants_new, spares, decided_by, decided, msg3_taken, offered, obtained_by, Course, rests, begins, again, begun, course}
use Rattle.runs.proofs.Amends.{none_some, some_inj}
use Rattle.standard.specs.Ts36321 as ts
use Rattle.standard.proofs.Likeness.{held_in, reference, Like, reception, in_force, in_force_if}

-- What a grant leaves to be compared with.
module _ {su : Setup} {t : ℕ} {m : List ℕ} {k : ℕ} {h : ts.HarqProcess} {p : Process} (like : Like su t m k h p) where
  like_noted : (r : Option ts.Received) (q : Option ℕ) → reference r h.previous_ndi ≡ q → Like su t m k (ts.noted h r) (with_reference p q)
  like_noted r q e = record { buffer = like.buffer; from_msg3 = like.from_msg3; count = like.count; feedback = like.feedback; index = like.index; mcs = like.mcs; resource = like.resource; compared = e; due = like.due; resting = like.resting }

  kept_by : (g : ts.UplinkGrant) (x : ts.Received) → g.received ≡ x → reference_kept (reception x g.NDI) p.reference_ndi ≡ reference_kept (reception g.received g.NDI) p.reference_ndi
  kept_by g x e = sym (ap (λ z. reference_kept (reception z g.NDI) p.reference_ndi) e)

  pub notes_sound : (u : Option ts.UplinkGrant) (r : Option ts.Received) → ts.Notes h u r → Like su t m k (ts.noted h r) (referred (in_force_if u) p)
  notes_sound u r ts.none = like
  notes_sound u r (ts.CRnti g e) = like_noted h.previous_grant _ (like.compared ∙ kept_by g ts.for_c_rnti e)
  notes_sound u r (ts.TemporaryCRnti g e) = like_noted h.previous_grant _ (like.compared ∙ kept_by g ts.for_temporary_c_rnti e)
  notes_sound u r (ts.SpsCRnti g e) = like_noted (Some ts.for_sps_c_rnti) _ (kept_by g ts.for_sps_c_rnti e)
  notes_sound u r (ts.RandomAccessResponse g e) = like_noted (Some ts.in_random_access_response) _ (kept_by g ts.in_random_access_response e)
  notes_sound u r (ts.configured_one g e) = like_noted (Some ts.configured) _ (kept_by g ts.configured e)

-- Buffers.
held_none : (m : List ℕ) (k : ℕ) (o : Option ℕ) → None ≡ held_in m k o → is_some o ≡ false
held_none m k None e = refl
held_none m k (Some n) e = absurd (none_some e)

held_some : (m : List ℕ) (k : ℕ) (o : Option ℕ) (b : List ℕ) → Some b ≡ held_in m k o → is_some o ≡ true
held_some m k None b e = absurd (none_some (sym e))
held_some m k (Some n) b e = refl

-- toggled, by the value and the previous grant
toggled_after : (r : Option ts.Received) (n v : ℕ) → (n ≡ v → ⊥) → toggled v (reference r (Some n)) ≡ true
toggled_after None n v ne = not_from_false (eqb n v) (ne_eqb n v ne)
toggled_after (Some ts.for_c_rnti) n v ne = not_from_false (eqb n v) (ne_eqb n v ne)
toggled_after (Some ts.for_temporary_c_rnti) n v ne = not_from_false (eqb n v) (ne_eqb n v ne)
toggled_after (Some ts.for_sps_c_rnti) n v ne = refl
toggled_after (Some ts.in_random_access_response) n v ne = refl
toggled_after (Some ts.configured) n v ne = refl

toggled_first : (r : Option ts.Received) (v : ℕ) → toggled v (reference r None) ≡ true
toggled_first None v = refl
toggled_first (Some ts.for_c_rnti) v = refl
toggled_first (Some ts.for_temporary_c_rnti) v = refl
toggled_first (Some ts.for_sps_c_rnti) v = refl
toggled_first (Some ts.in_random_access_response) v = refl
toggled_first (Some ts.configured) v = refl

module _ {su : Setup} {t : ℕ} {m : List ℕ} {k : ℕ} {h : ts.HarqProcess} {p : Process} (like : Like su t m k h p) where
  pub empty_here : h.buffer ≡ None → holds_packet p ≡ false
  empty_here e = held_none m k p.buffer (sym e ∙ like.buffer)

  pub full_here : (b : List ℕ) → h.buffer ≡ Some b → holds_packet p ≡ true
  full_here b e = held_some m k p.buffer b (sym e ∙ like.buffer)

  module _ (g : ts.UplinkGrant) where
    abbrev r : Reception
    r = reception g.received g.NDI

    came : (x : ts.Received) → g.received ≡ x → wants_new (reception x g.NDI) p ≡ wants_new r p
    came x e = ap (λ z. wants_new (reception z g.NDI) p) (sym e)

    by_toggle : g.received ≡ ts.for_c_rnti → toggled g.NDI (reference h.previous_grant h.previous_ndi) ≡ true → wants_new r p ≡ true
    by_toggle e q = sym (came ts.for_c_rnti e) ∙ or_right (not (holds_packet p)) (toggled g.NDI p.reference_ndi) (ap (toggled g.NDI) (sym like.compared) ∙ q)

    toggled_new : ts.Toggled h g → wants_new r p ≡ true
    toggled_new (ts.by_configuration e) = sym (came ts.configured e)
    toggled_new (ts.after_sps e q) = by_toggle e (ap (λ z. toggled g.NDI (reference z h.previous_ndi)) q)
    toggled_new (ts.after_configured e q) = by_toggle e (ap (λ z. toggled g.NDI (reference z h.previous_ndi)) q)
    toggled_new (ts.after_random_access_response e q) = by_toggle e (ap (λ z. toggled g.NDI (reference z h.previous_ndi)) q)
    toggled_new (ts.by_value n e q ne) = by_toggle e (ap (λ z. toggled g.NDI (reference h.previous_grant z)) q ∙ toggled_after h.previous_grant n g.NDI ne)
    toggled_new (ts.at_first e q) = by_toggle e (ap (λ z. toggled g.NDI (reference h.previous_grant z)) q ∙ toggled_first h.previous_grant g.NDI)

    pub new_true : ts.New h g → wants_new r p ≡ true
    new_true (ts.toggled ne q) = toggled_new q
    new_true (ts.empty_buffer e q) = sym (came ts.for_c_rnti e) ∙ or_left (not (holds_packet p)) (toggled g.NDI p.reference_ndi) (not_from_false (holds_packet p) (empty_here q))
    new_true (ts.random_access e) = sym (came ts.in_random_access_response e)

    not_temporary : g.received ≡ ts.for_c_rnti → g.received ≡ ts.for_temporary_c_rnti → ⊥
    not_temporary e q = let z : ◌≡◌ {A = ℕ} 0 1 = cc in omega arith

    differs : (n : ℕ) → not (eqb n g.NDI) ≡ true → n ≡ g.NDI → ⊥
    differs n q = eqb-false n g.NDI (not-true (eqb n g.NDI) q)

    toggle_of : g.received ≡ ts.for_c_rnti → (v : Option ts.Received) → h.previous_grant ≡ v → (n : Option ℕ) → h.previous_ndi ≡ n → toggled g.NDI (reference v n) ≡ true → ts.Toggled h g
    toggle_of e v ev None en q = ts.at_first e en
    toggle_of e None ev (Some n) en q = ts.by_value n e en (differs n q)
    toggle_of e (Some ts.for_c_rnti) ev (Some n) en q = ts.by_value n e en (differs n q)
    toggle_of e (Some ts.for_temporary_c_rnti) ev (Some n) en q = ts.by_value n e en (differs n q)
    toggle_of e (Some ts.for_sps_c_rnti) ev (Some n) en q = ts.after_sps e ev
    toggle_of e (Some ts.in_random_access_response) ev (Some n) en q = ts.after_random_access_response e ev
    toggle_of e (Some ts.configured) ev (Some n) en q = ts.after_configured e ev

    pub true_new : wants_new r p ≡ true → ts.New h g
    true_new = go g.received refl
      where
        buffer_none : (b : Option (List ℕ)) (o : Option ℕ) → b ≡ held_in m k o → is_some o ≡ false → b ≡ None
        buffer_none b None e q = e
        buffer_none b (Some n) e q = absurd (both_ways true q refl)

        go : (x : ts.Received) → g.received ≡ x → wants_new (reception x g.NDI) p ≡ true → ts.New h g
        go ts.for_c_rnti e q = by (or_cases (not (holds_packet p)) (toggled g.NDI p.reference_ndi) q)
          where
            by : (not (holds_packet p) ≡ true) ⊎ (toggled g.NDI p.reference_ndi ≡ true) → ts.New h g
            by (inl z) = ts.empty_buffer e (buffer_none h.buffer p.buffer like.buffer (not-true (holds_packet p) z))
            by (inr z) = ts.toggled (not_temporary e) (toggle_of e h.previous_grant refl h.previous_ndi refl (ap (toggled g.NDI) like.compared ∙ z))
        go ts.for_temporary_c_rnti e q = absurd (both_ways false refl q)
        go ts.for_sps_c_rnti e q = absurd (both_ways false refl q)
        go ts.in_random_access_response e q = ts.random_access e
        go ts.configured e q = ts.toggled (λ z. let w : ◌≡◌ {A = ℕ} 0 1 = cc in omega arith) (ts.by_configuration e)

    pub kept_true : ts.Kept su h g → spares su r p ≡ true
    kept_true (ts.kept b lt e q f) =
        ap (λ z. spares su (reception z g.NDI) p) e
        ∙ and_from (ltb su.interval 10) _ (lt-ltb su.interval 10 lt) (and_from (holds_packet p) _ (full_here b q) (ap (λ z. not (is_ack z)) (sym like.feedback ∙ f)))

    pub true_kept : spares su r p ≡ true → ts.Kept su h g
    true_kept = go g.received refl
      where
        nack : (f : Feedback) → not (is_ack f) ≡ true → f ≡ Nack
        nack Nack q = refl
        nack Ack q = absurd (both_ways false refl q)

        go : (x : ts.Received) → g.received ≡ x → spares su (reception x g.NDI) p ≡ true → ts.Kept su h g
        go ts.for_c_rnti e q = absurd (both_ways false refl q)
        go ts.for_temporary_c_rnti e q = absurd (both_ways false refl q)
        go ts.for_sps_c_rnti e q = absurd (both_ways false refl q)
        go ts.in_random_access_response e q = absurd (both_ways false refl q)
        go ts.configured e q =
            let a = and_parts (ltb su.interval 10) _ q in
            let b = and_parts (holds_packet p) _ a.1 in
            by p.buffer like.buffer b.0
          where
            feedback_nack : h.HARQ_FEEDBACK ≡ Nack
            feedback_nack = like.feedback ∙ nack p.harq_feedback (and_parts (holds_packet p) _ (and_parts (ltb su.interval 10) _ q).1).1

            by : (o : Option ℕ) → h.buffer ≡ held_in m k o → is_some o ≡ true → ts.Kept su h g
            by None z w = absurd (both_ways false refl w)
            by (Some n) z w = ts.kept _ (ltb-true su.interval 10 (and_parts (ltb su.interval 10) _ q).0) e z feedback_nack

-- what a request has the process do
abbrev pub Matches : Setup → Process → ts.Request → Course → Type 0
Matches su p (ts.new_transmission pdu m3 g) c = c ≡ begins (in_force g) (record { from_msg3 = m3; packet = pdu }) (renewed su (in_force g) (length pdu) m3 p)
Matches su p (ts.adaptive_retransmission g) c = c ≡ again (adapted su (in_force g) p) false
Matches su p ts.non_adaptive_retransmission c = c ≡ again (repeated su p) (is_ack p.harq_feedback)
Matches su p ts.no_request c = (o : Outcome) × (c ≡ rests o p)

not_true_is_false : (b : Bool) → (b ≡ true → ⊥) → b ≡ false
not_true_is_false true n = absurd (n refl)
not_true_is_false false n = refl

module _ {su : Setup} {t : ℕ} {m : List ℕ} {k : ℕ} {h : ts.HarqProcess} {p : Process} (like : Like su t m k h p) (Msg3 : Option (List ℕ)) (n : Option ℕ) (same : Msg3 ≡ held_in m 8 n) (assembly : ℕ → Option (List ℕ)) where
  -- what the rules have the process do, by the three tests of the decision
  abbrev course_by : ts.UplinkGrant → Bool → Bool → Bool → Course
  course_by g new spared full = course su (decided_by (in_force g) new spared full) n m assembly p

  by_tests : (g : ts.UplinkGrant) (a b c : Bool) → wants_new (reception g.received g.NDI) p ≡ a → spares su (reception g.received g.NDI) p ≡ b → holds_packet p ≡ c
      → course su (decided su (in_force_if (Some g)) p) n m assembly p ≡ course_by g a b c
  by_tests g a b c ea eb ec =
      ap (λ x. course_by g x (spares su (reception g.received g.NDI) p) (holds_packet p)) ea
      ∙ ap (λ x. course_by g a x (holds_packet p)) eb
      ∙ ap (course_by g a b) ec

  -- the packet comes from Msg3
  taken : (g : ts.UplinkGrant) (pdu : List ℕ) → g.received ≡ ts.in_random_access_response → Msg3 ≡ Some pdu → (y : Option ℕ) → Msg3 ≡ held_in m 8 y
      → obtained_by (msg3_taken (reception g.received g.NDI) y) g.size m assembly ≡ Some (record { from_msg3 = true; packet = pdu })
  taken g pdu e q None s = absurd (none_some (sym s ∙ q))
  taken g pdu e q (Some i) s =
      ap (λ z. obtained_by (msg3_taken (reception z g.NDI) (Some i)) g.size m assembly) e
      ∙ ap (λ b. Some (record { from_msg3 = true; packet = b })) (some_inj (sym s ∙ q))

  -- or it does not
  not_taken : (g : ts.UplinkGrant) → ((pdu : List ℕ) → ts.FromMsg3 Msg3 g pdu → ⊥) → obtained_by (msg3_taken (reception g.received g.NDI) n) g.size m assembly ≡ offered (assembly g.size)
  not_taken g none = go g.received refl n same
    where
      go : (x : ts.Received) → g.received ≡ x → (y : Option ℕ) → Msg3 ≡ held_in m 8 y → obtained_by (msg3_taken (reception x g.NDI) y) g.size m assembly ≡ offered (assembly g.size)
      go ts.for_c_rnti e y s = refl
      go ts.for_temporary_c_rnti e y s = refl
      go ts.for_sps_c_rnti e y s = refl
      go ts.configured e y s = refl
      go ts.in_random_access_response e None s = refl
      go ts.in_random_access_response e (Some i) s = absurd (none _ (ts.held _ e s))

  spared_not : (g : ts.UplinkGrant) → g.received ≡ ts.in_random_access_response → spares su (reception g.received g.NDI) p ≡ false
  spared_not g e = ap (λ z. spares su (reception z g.NDI) p) e

  pub requests_sound : (u : Option ts.UplinkGrant) (q : ts.Request) → ts.Requests su Msg3 assembly h u q → Matches su p q (course su (decided su (in_force_if u) p) n m assembly p)
  requests_sound u q (ts.Msg3Transmission g pdu new (ts.held pdu₁ e held)) =
      by_tests g true false (holds_packet p) (new_true like g new) (spared_not g e) refl
      ∙ ap (begun su (in_force g) p) (taken g pdu e held n same)
  requests_sound u q (ts.kept_for_retransmission g new none spared) = by_tests g true true (holds_packet p) (new_true like g new) (kept_true like g spared) refl
  requests_sound u q (ts.assembled_transmission g pdu new none not_spared has) =
      by_tests g true false (holds_packet p) (new_true like g new) (not_true_is_false _ (λ z. not_spared (true_kept like g z))) refl
      ∙ ap (begun su (in_force g) p) (not_taken g none ∙ ap offered has)
  requests_sound u q (ts.none_obtained g new none not_spared has) = (
    NoPacket,
    by_tests g true false (holds_packet p) (new_true like g new) (not_true_is_false _ (λ z. not_spared (true_kept like g z))) refl
        ∙ ap (begun su (in_force g) p) (not_taken g none ∙ ap offered has),
  )
  requests_sound u q (ts.adaptive g pdu new has) = by_tests g false _ true (not_true_is_false _ (λ z. new (true_new like g z))) refl (full_here like pdu has)
  requests_sound u q (ts.empty_retransmission g new has) = (EmptyBuffer, by_tests g false _ false (not_true_is_false _ (λ z. new (true_new like g z))) refl (empty_here like has))
  requests_sound u q (ts.non_adaptive pdu has) = rw (full_here like pdu has) refl
  requests_sound u q (ts.idle has) = (Idle, rw (empty_here like has) refl)
