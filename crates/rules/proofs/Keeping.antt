-- What a cell keeps, from call to call.
use Rattle.std.proofs.Common.{◌≡◌, ℕ, zero, suc, ◌+◌, ◌-◌, ◌/◌, ◌%◌, ◌^◌, ◌<◌, ◌≤◌, Bool, true, false, cond, ◌&&◌, eqb, ltb, leb, ◌⊎◌, List, [], ◌∷◌, length, get_or, set, replicate, is_some, Some, None, Ok, Err, Option, Result, unwrap_or, sym, refl, ap, ◌∙◌, subst, inl, inr, ⊎_elim, arith}
use Rattle.std.proofs.lemmas.Bool.{eqb-true, ltb-true}
use Rattle.terms.specs.declared.answer.Refusal.{Refusal}
use Rattle.terms.specs.declared.answer.Outcome.TheVariants.{Idle}
use Rattle.terms.specs.declared.setup.CellKind.{CellKind}
use Rattle.terms.specs.declared.setup.CellKind.TheVariants.{Plain, Bundled, Asynchronous}
use Rattle.terms.specs.declared.setup.Setup.{Setup}
use Rattle.terms.specs.declared.grant.Grant.{Grant}
use Rattle.terms.specs.declared.grant.Reception.{Reception}
use Rattle.terms.specs.declared.grant.Reception.TheVariants.{CRnti, TemporaryCRnti, SpsRetransmission, Configured, RandomAccessResponse}
use Rattle.terms.specs.declared.grant.GrantInForce.{GrantInForce}
use Rattle.terms.specs.declared.grant.ConfiguredGrant.{ConfiguredGrant}
use Rattle.terms.specs.declared.process.Feedback.{Feedback}
use Rattle.terms.specs.declared.process.Process.{Process}
use Rattle.terms.specs.declared.state.Repetition.{Repetition}
use Rattle.terms.specs.declared.state.State.{State}
use Rattle.terms.specs.declared.decision.Decision.{Decision}
use Rattle.terms.specs.declared.decision.Decision.TheVariants as decision
use Rattle.terms.specs.declared.decision.Work.{Work}
use Rattle.terms.specs.declared.decision.Work.TheVariants as work
use Rattle.terms.specs.declared.decision.Conclusion.{Conclusion}
use Rattle.terms.specs.declared.version.RedundancyVersion.{RedundancyVersion}
use Rattle.terms.specs.Versions.{index_of}
use Rattle.rules.specs.Process.{idle, synchronous, holds_packet, hears, granted_version, first_index, counted, renewed, adapted, repeated, on_air, advanced, maximum, gives_up, flushed, transmitted}
use Rattle.rules.specs.Reception.{in_force_by, reception_of, recurs, recurring, stored_in_force, grant_in_force, activates, stored_after, referred}
use Rattle.rules.specs.Entity.{process_at, repeating, process_of, answering, wants_new, spares, decided_by, decided, Fresh, begun, obtained, course, work_of}
use Rattle.rules.specs.Setup.{first_no, all_yes, within, set_up_questions, fresh_state}
use Rattle.rules.specs.Questions.{answer_due, kind_allowed, fields_by_kind, fields_hold, asked_of_grant, questioned}
use Rattle.rules.specs.Subframe.{heard_at, heard, with_configured, clock_moved, concluded, repetition_by, repetition_after, finished}
use Rattle.rules.specs.Invariant.{stored_size, repeated_process, Good, Loaded, Bounds, Sound, LoadedWork, SizedGrant, Sane, FreshSized, Obtains, NamedBelow}

le_of : {m n : ℕ} → leb m n ≡ true → m ≤ n
le_of e = grind arith

and_left : (a b : Bool) → a && b ≡ true → a ≡ true
and_left true b h = refl
and_left false b h = h

and_right : (a b : Bool) → a && b ≡ true → b ≡ true
and_right true b h = h
and_right false b h = absurd (let z : ◌≡◌ {A = ℕ} 0 1 = cc in omega arith)

-- one of two processes
good_if : (su : Setup) (b : Bool) (x y : Process) → Good su x → Good su y → Good su (cond b x y)
good_if su true x y h i = h
good_if su false x y h i = i

good_hears : (su : Setup) (p : Process) (gap : Bool) (a : Option Feedback) → Good su p → Good su (hears gap a p)
good_hears su p gap a h = good_if su p.awaits_answer _ p (record { index = h.index; count = h.count; not_empty = h.not_empty; not_long = h.not_long; limit = h.limit }) h

pub good_referred : (su : Setup) (g : Option GrantInForce) (p : Process) → Good su p → Good su (referred g p)
good_referred su None p h = h
good_referred su (Some g) p h = record { index = h.index; count = h.count; not_empty = h.not_empty; not_long = h.not_long; limit = h.limit }

good_idle : (su : Setup) → Good su idle
good_idle su = record { index = omega arith; count = omega arith; not_empty = omega arith; not_long = omega arith; limit = λ e. absurd (let z : ◌≡◌ {A = ℕ} 0 1 = cc in omega arith) }

index_bound : (i : ℕ) → (i + 1) % 4 < 4
index_bound i = omega arith

loaded_new : (su : Setup) (g : GrantInForce) (n : ℕ) (m : Bool) (p : Process) → Bounds su → 1 ≤ n → n ≤ 645 → Loaded su (renewed su g n m p)
loaded_new su g n m p b l u = record { index = at_first su.kind; count = omega arith; not_empty = l; not_long = u; limit = λ e. most m }
  where
    at_first : (kind : CellKind) → (first_index kind g).0 < 4
    at_first Plain = omega arith
    at_first Bundled = omega arith
    at_first Asynchronous = grind arith

    most : (m : Bool) → 0 + 1 ≤ maximum su m
    most true = b.least3
    most false = b.least

held_length : (o : Option ℕ) → is_some o ≡ true → unwrap_or o 0 ≡ unwrap_or o 1
held_length None e = absurd (let z : ◌≡◌ {A = ℕ} 0 1 = cc in omega arith)
held_length (Some n) e = refl

most_of : (su : Setup) (m : Bool) → Bounds su → maximum su m ≤ 28
most_of su true b = omega (arith, b.most3)
most_of su false b = b.most

-- a retransmission counts
counted_count : (su : Setup) (kind : CellKind) (p : Process) → su.kind ≡ kind → Bounds su → Good su p → holds_packet p ≡ true → counted kind p.current_tx_nb < 28
counted_count su Plain p k b h e = let l = h.limit (ap (λ x. holds_packet p && synchronous x) k ∙ ap (λ x. x && true) e) in let m = most_of su p.from_msg3 b in omega arith
counted_count su Bundled p k b h e = let l = h.limit (ap (λ x. holds_packet p && synchronous x) k ∙ ap (λ x. x && true) e) in let m = most_of su p.from_msg3 b in omega arith
counted_count su Asynchronous p k b h e = h.count

counted_limit : (su : Setup) (kind : CellKind) (p : Process) → su.kind ≡ kind → Good su p → holds_packet p ≡ true → synchronous kind ≡ true → counted kind p.current_tx_nb + 1 ≤ maximum su p.from_msg3
counted_limit su Plain p k h e s = let l = h.limit (ap (λ x. holds_packet p && synchronous x) k ∙ ap (λ x. x && true) e) in omega arith
counted_limit su Bundled p k h e s = let l = h.limit (ap (λ x. holds_packet p && synchronous x) k ∙ ap (λ x. x && true) e) in omega arith
counted_limit su Asynchronous p k h e s = absurd (let z : ◌≡◌ {A = ℕ} 0 1 = cc in omega arith)

loaded_repeated : (su : Setup) (p : Process) → Bounds su → Good su p → holds_packet p ≡ true → Loaded su (repeated su p)
loaded_repeated su p b h e =
    let z = held_length p.buffer e in
    record { index = h.index; count = counted_count su su.kind p refl b h e; not_empty = omega (arith, h.not_empty); not_long = omega (arith, h.not_long); limit = counted_limit su su.kind p refl h e }

granted_index : (v : RedundancyVersion) → (index_of v).0 < 4
granted_index v = grind arith

loaded_adapted : (su : Setup) (g : GrantInForce) (p : Process) → Bounds su → Good su p → holds_packet p ≡ true → Loaded su (adapted su g p)
loaded_adapted su g p b h e =
    let r = loaded_repeated su p b h e in
    record { index = granted_index (granted_version su.kind g); count = r.count; not_empty = r.not_empty; not_long = r.not_long; limit = r.limit }

-- a process after a transmission
loaded_advanced : (su : Setup) (p : Process) → Loaded su p → Loaded su (advanced su p)
loaded_advanced su p h = record { index = index_bound p.current_irv.0; count = h.count; not_empty = h.not_empty; not_long = h.not_long; limit = h.limit }

good_flushed : (su : Setup) (p : Process) → Loaded su p → Good su (flushed p)
good_flushed su p h = record { index = h.index; count = h.count; not_empty = omega arith; not_long = omega arith; limit = λ e. absurd (let z : ◌≡◌ {A = ℕ} 0 1 = cc in omega arith) }

loaded_length : (o : Option ℕ) → 1 ≤ unwrap_or o 0 → unwrap_or o 1 ≡ unwrap_or o 0
loaded_length None h = absurd (omega arith)
loaded_length (Some n) h = refl

below_limit : (s : Bool) (n m : ℕ) → (s && eqb (n + 1) m) ≡ false → (s ≡ true → n + 1 ≤ m) → s ≡ true → n + 1 < m
below_limit s n m e h t = let l = h t in grind arith

good_kept : (su : Setup) (p : Process) → Loaded su p → gives_up su p ≡ false → Good su p
good_kept su p h e =
    let z = loaded_length p.buffer h.not_empty in
    record { index = h.index; count = h.count; not_empty = omega (arith, h.not_empty); not_long = omega (arith, h.not_long); limit = λ t. below_limit (synchronous su.kind) p.current_tx_nb (maximum su p.from_msg3) e h.limit (and_right (holds_packet p) (synchronous su.kind) t) }

loaded_if : (su : Setup) (b : Bool) (x y : Process) → Loaded su x → Loaded su y → Loaded su (cond b x y)
loaded_if su true x y h i = h
loaded_if su false x y h i = i

gives_up_same : (su : Setup) (b : Bool) (p : Process) → gives_up su (cond b (advanced su p) p) ≡ gives_up su p
gives_up_same su true p = refl
gives_up_same su false p = refl

good_transmitted : (su : Setup) (sent : Bool) (p : Process) → Loaded su p → Good su (transmitted su sent p)
good_transmitted su sent p h = go (gives_up su p) refl
  where
    q : Process
    q = cond sent (advanced su p) p

    l : Loaded su q
    l = loaded_if su sent (advanced su p) p (loaded_advanced su p h) h

    go : (b : Bool) → gives_up su p ≡ b → Good su (cond b (flushed q) q)
    go true e = good_flushed su q l
    go false e = good_kept su q l (gives_up_same su sent p ∙ e)

pub good_concluded : (su : Setup) (k : ℕ) (gap : Bool) (w : Work) → LoadedWork su w → Good su (concluded su k gap w).process
good_concluded su k gap (work.Rest o p) h = h
good_concluded su k gap (work.New p) h = good_transmitted su (on_air false gap p) p h
good_concluded su k gap (work.Again p acked) h = good_transmitted su (on_air acked gap p) p h

-- the fields of a grant, if one came
abbrev pub Fields : Setup → Option Grant → Type 0
Fields su None = Unit {0}
Fields su (Some g) = fields_hold su g ≡ true

-- the grant in force has a packet's size
within_of : (n : ℕ) → within 1 645 n ≡ true → (1 ≤ n) × (n ≤ 645)
within_of n e = (le_of (and_left (leb 1 n) (leb n 645) e), le_of (and_right (leb 1 n) (leb n 645) e))

size_of_fields : (su : Setup) (g : Grant) → fields_hold su g ≡ true → (1 ≤ g.size) × (g.size ≤ 645)
size_of_fields su g e =
    within_of g.size (and_left (within 1 645 g.size) (fields_by_kind su.kind g) (and_right (leb g.ndi 1) _ (and_right (kind_allowed su g) _ e)))

process_of_fields : (su : Setup) (g : Grant) → fields_hold su g ≡ true → su.kind ≡ Asynchronous → g.process ≤ 7
process_of_fields su g e k =
    let f : fields_by_kind su.kind g ≡ true = and_right (within 1 645 g.size) (fields_by_kind su.kind g) (and_right (leb g.ndi 1) _ (and_right (kind_allowed su g) _ e)) in
    let a : fields_by_kind Asynchronous g ≡ true = ap (λ x. fields_by_kind x g) (sym k) ∙ f in
    le_of (and_left (leb g.process 7) _ (and_right (leb g.version 3) _ (and_right (leb g.mcs 28) _ a)))

sized_air : (g : Grant) (r : Option Reception) → (1 ≤ g.size) × (g.size ≤ 645) → SizedGrant (in_force_by g r)
sized_air g None h = tt
sized_air g (Some r) h = h

sized_if : (b : Bool) (x y : Option GrantInForce) → SizedGrant x → SizedGrant y → SizedGrant (cond b x y)
sized_if true x y h i = h
sized_if false x y h i = i

sized_stored : (su : Setup) (t : ℕ) (c : Option ConfiguredGrant) → 1 ≤ stored_size c → stored_size c ≤ 645 → SizedGrant (stored_in_force su t c)
sized_stored su t None l u = tt
sized_stored su t (Some c) l u = sized_if (recurs su t c) (Some (recurring c)) None (l, u) tt

pub sized_in_force : (su : Setup) (st : State) (t : ℕ) (g : Option Grant) → Sound su st → Fields su g → SizedGrant (grant_in_force su t st.configured g)
sized_in_force su st t None h f = sized_stored su t st.configured h.smallest h.largest
sized_in_force su st t (Some g) h f = sized_air g (reception_of g) (size_of_fields su g f)

-- the process of a subframe is one of the eight
abbrev Below8 : Option ℕ → Type 0
Below8 None = Unit {0}
Below8 (Some k) = k < 8

below_if : (b : Bool) (k : ℕ) → k < 8 → Below8 (cond b (Some k) None)
below_if true k h = h
below_if false k h = tt

repeating_below : (t : ℕ) (r : Option Repetition) → repeated_process r < 8 → Below8 (repeating t r)
repeating_below t None h = tt
repeating_below t (Some r) h = below_if (ltb t r.until) r.process h

named_air : (kind : CellKind) (g : Grant) (r : Option Reception) → (kind ≡ Asynchronous → g.process ≤ 7) → NamedBelow kind (in_force_by g r)
named_air Plain g r h = tt
named_air Bundled g r h = tt
named_air Asynchronous g None h = tt
named_air Asynchronous g (Some r) h = let l = h refl in omega arith

named_if : (kind : CellKind) (b : Bool) (c : ConfiguredGrant) → NamedBelow kind (cond b (Some (recurring c)) None)
named_if Plain b c = tt
named_if Bundled b c = tt
named_if Asynchronous true c = omega arith
named_if Asynchronous false c = tt

named_none : (kind : CellKind) → NamedBelow kind None
named_none Plain = tt
named_none Bundled = tt
named_none Asynchronous = tt

pub named_in_force : (su : Setup) (t : ℕ) (c : Option ConfiguredGrant) (g : Option Grant) → Fields su g → NamedBelow su.kind (grant_in_force su t c g)
named_in_force su t None None f = named_none su.kind
named_in_force su t (Some c) None f = named_if su.kind (recurs su t c) c
named_in_force su t c (Some g) f = named_air su.kind g (reception_of g) (process_of_fields su g f)

process_below : (kind : CellKind) (t : ℕ) (g : Option GrantInForce) (r : Option Repetition) → NamedBelow kind g → repeated_process r < 8 → Below8 (process_of kind t g r)
process_below Plain t g r n h = omega arith
process_below Bundled t g r n h = omega arith
process_below Asynchronous t None r n h = repeating_below t r h
process_below Asynchronous t (Some g) r n h = n

pub process_bound : (su : Setup) (st : State) (t k : ℕ) (g : Option Grant) → Sound su st → Fields su g → Some k ≡ process_of su.kind t (grant_in_force su t st.configured g) st.repetition → k < 8
process_bound su st t k g h f e =
    let P : Option ℕ → Type 0 = λ o. Below8 o in
    subst P (sym e) (process_below su.kind t (grant_in_force su t st.configured g) st.repetition (named_in_force su t st.configured g f) h.repeats)

-- what stands at a place after a write is what was written or what stood there
either : (ps : List Process) (i k : ℕ) (q : Process) → (get_or (set ps i q) k idle ≡ q) ⊎ (get_or (set ps i q) k idle ≡ get_or ps k idle)
either [] i k q = inr refl
either (p ∷ ps) zero zero q = inl refl
either (p ∷ ps) zero (suc k) q = inr refl
either (p ∷ ps) (suc i) zero q = inr refl
either (p ∷ ps) (suc i) (suc k) q = either ps i k q

good_set : (su : Setup) (ps : List Process) (i k : ℕ) (q : Process) → Good su q → Good su (process_at ps k) → Good su (process_at (set ps i q) k)
good_set su ps i k q h g =
    let P : Process → Type 0 = λ p. Good su p in
    ⊎_elim (λ e. subst P (sym e) h) (λ e. subst P (sym e) g) (either ps i k q)

-- the answer
answering_below : (kind : CellKind) (t : ℕ) → Below8 (answering kind t)
answering_below Plain t = below_if (leb 4 t) ((t - 4) % 8) (omega arith)
answering_below Bundled t = below_if (leb 4 t && eqb (t % 4) 3) ((t - 4) % 16 / 4) (omega arith)
answering_below Asynchronous t = tt

good_heard : (su : Setup) (st : State) (o : Option ℕ) (gap : Bool) (a : Option Feedback) (k : ℕ) → Below8 o → k < 8 → Sound su st → Good su (process_at (heard_at o gap a st.processes) k)
good_heard su st None gap a k b l h = h.good k l
good_heard su st (Some j) gap a k b l h = good_set su st.processes j k _ (good_hears su (process_at st.processes j) gap a (h.good j b)) (h.good k l)

pub sound_heard : (su : Setup) (st : State) (gap : Bool) (a : Option Feedback) → Sound su st → Sound su (heard su st gap a)
sound_heard su st gap a h = record {
  bounds = h.bounds;
  packets = h.packets;
  sendings = h.sendings;
  smallest = h.smallest;
  largest = h.largest;
  shortest = h.shortest;
  longest = h.longest;
  repeats = h.repeats;
  good = λ k l. good_heard su st (answering su.kind st.clock) gap a k (answering_below su.kind st.clock) l h;
}

-- the stored grant
abbrev StoredSized : Option ConfiguredGrant → Type 0
StoredSized c = (1 ≤ stored_size c) × (stored_size c ≤ 645)

stored_if : (b : Bool) (x y : Option ConfiguredGrant) → StoredSized x → StoredSized y → StoredSized (cond b x y)
stored_if true x y h i = h
stored_if false x y h i = i

stored_sized : (su : Setup) (t : ℕ) (c : Option ConfiguredGrant) (g : Option Grant) → StoredSized c → Fields su g → StoredSized (stored_after t c g)
stored_sized su t c None h f = h
stored_sized su t c (Some g) h f = stored_if (activates g) _ _ (size_of_fields su g f) (stored_if (eqb g.kind 3) None c (omega arith, omega arith) h)

pub sound_stored : (su : Setup) (st : State) (t : ℕ) (g : Option Grant) → Sound su st → Fields su g → Sound su (with_configured st (stored_after t st.configured g))
sound_stored su st t g h f =
    let z = stored_sized su t st.configured g (h.smallest, h.largest) f in
    record { bounds = h.bounds; packets = h.packets; sendings = h.sendings; smallest = z.0; largest = z.1; shortest = h.shortest; longest = h.longest; repeats = h.repeats; good = h.good }

-- the decision
sane_granted : (g : GrantInForce) (p : Process) (new spared held : Bool) → held ≡ holds_packet p → (spared ≡ true → holds_packet p ≡ true) → SizedGrant (Some g) → Sane p (decided_by g new spared held)
sane_granted g p true true held e s z = s refl
sane_granted g p true false held e s z = z
sane_granted g p false spared true e s z = sym e
sane_granted g p false spared false e s z = tt

spared_holds : (su : Setup) (r : Reception) (p : Process) → spares su r p ≡ true → holds_packet p ≡ true
spared_holds su (CRnti n) p e = absurd (let z : ◌≡◌ {A = ℕ} 0 1 = cc in omega arith)
spared_holds su TemporaryCRnti p e = absurd (let z : ◌≡◌ {A = ℕ} 0 1 = cc in omega arith)
spared_holds su SpsRetransmission p e = absurd (let z : ◌≡◌ {A = ℕ} 0 1 = cc in omega arith)
spared_holds su Configured p e = and_left (holds_packet p) _ (and_right (ltb su.interval 10) _ e)
spared_holds su RandomAccessResponse p e = absurd (let z : ◌≡◌ {A = ℕ} 0 1 = cc in omega arith)

sane_if : (p : Process) (b : Bool) → b ≡ holds_packet p → Sane p (cond b decision.NonAdaptive (decision.Rest Idle))
sane_if p true e = sym e
sane_if p false e = tt

pub sane : (su : Setup) (g : Option GrantInForce) (p : Process) → SizedGrant g → Sane p (decided su g p)
sane su None p z = sane_if p (holds_packet p) refl
sane su (Some g) p z = sane_granted g p (wants_new g.reception p) (spares su g.reception p) (holds_packet p) refl (spared_holds su g.reception p) z

loaded_begun : (su : Setup) (g : GrantInForce) (p : Process) (f : Option Fresh) → Bounds su → Good su p → FreshSized f → LoadedWork su (work_of (begun su g p f))
loaded_begun su g p None b h z = h
loaded_begun su g p (Some f) b h z = loaded_new su g (length f.packet) f.from_msg3 p b z.0 z.1

pub loaded_work : (su : Setup) (d : Decision) (msg3 : Option ℕ) (m : List ℕ) (offers : ℕ → Option (List ℕ)) (p : Process) → Bounds su → Good su p → Sane p d → Obtains d msg3 m offers → LoadedWork su (work_of (course su d msg3 m offers p))
loaded_work su (decision.Rest o) msg3 m offers p b h s z = h
loaded_work su (decision.New g) msg3 m offers p b h s z = loaded_begun su g p (obtained g msg3 m offers) b h z
loaded_work su (decision.Adaptive g) msg3 m offers p b h s z = loaded_adapted su g p b h s
loaded_work su decision.NonAdaptive msg3 m offers p b h s z = loaded_repeated su p b h s

-- the end of a subframe
at_most : (b : Bool) (m n : ℕ) → m ≤ n → m + cond b 1 0 ≤ n + 1
at_most true m n h = omega arith
at_most false m n h = omega arith

pub sound_finished : (su : Setup) (st : State) (k : ℕ) (r : Option Repetition) (c : Conclusion) → Sound su st → Good su c.process → repeated_process r < 8 → Sound su (finished st k r c)
sound_finished su st k r c h g z = record {
  bounds = h.bounds;
  packets = at_most c.begun st.tally.packets st.clock h.packets;
  sendings = at_most c.sent st.tally.sendings st.clock h.sendings;
  smallest = h.smallest;
  largest = h.largest;
  shortest = h.shortest;
  longest = h.longest;
  repeats = z;
  good = λ i l. good_set su st.processes k i _ g (h.good i l);
}

pub sound_moved : (su : Setup) (st : State) → Sound su st → Sound su (clock_moved st)
sound_moved su st h = record { bounds = h.bounds; packets = omega (arith, h.packets); sendings = omega (arith, h.sendings); smallest = h.smallest; largest = h.largest; shortest = h.shortest; longest = h.longest; repeats = h.repeats; good = h.good }

repeated_by : (kind : CellKind) (t : ℕ) (g : Option GrantInForce) (r : Option Repetition) → NamedBelow kind g → repeated_process r < 8 → repeated_process (repetition_by kind t g r) < 8
repeated_by Plain t g r n h = h
repeated_by Bundled t g r n h = h
repeated_by Asynchronous t None r n h = h
repeated_by Asynchronous t (Some g) r n h = n

pub repeated_after : (kind : CellKind) (t : ℕ) (g : Option GrantInForce) (w : Work) (r : Option Repetition) → NamedBelow kind g → repeated_process r < 8 → repeated_process (repetition_after kind t g w r) < 8
repeated_after kind t g (work.Rest o p) r n h = h
repeated_after kind t g (work.New p) r n h = repeated_by kind t g r n h
repeated_after kind t g (work.Again p acked) r n h = repeated_by kind t g r n h

-- what the questions have settled
pub record Admitted (su : Setup) (st : State) (n : ℕ) (ready : Bool) (g : Option Grant) : Type 0 where
  pub whole : n ≡ 5805
  pub clock : st.clock < 2 ^ 48
  pub room : ready ≡ true
  pub fields : Fields su g

first : (b : Bool) (e : Refusal) (qs : Result (Unit {0}) Refusal) → Ok tt ≡ cond b qs (Err e) → b ≡ true
first true e qs h = refl
first false e qs h = absurd (let z : ◌≡◌ {A = ℕ} 0 1 = cc in omega arith)

rest : (b : Bool) (e : Refusal) (qs : Result (Unit {0}) Refusal) → Ok tt ≡ cond b qs (Err e) → Ok tt ≡ qs
rest true e qs h = h
rest false e qs h = absurd (let z : ◌≡◌ {A = ℕ} 0 1 = cc in omega arith)

fields_asked : (su : Setup) (st : State) (g : Option Grant) → Ok tt ≡ asked_of_grant su st g → Fields su g
fields_asked su st None e = tt
fields_asked su st (Some g) e = first (fields_hold su g) _ _ e

pub admitted : (su : Setup) (st : State) (n : ℕ) (ready gap : Bool) (a : Option Feedback) (g : Option Grant) → Ok tt ≡ questioned su st n ready gap a g → Admitted su st n ready g
admitted su st n ready gap a g e =
    let e1 = rest (eqb n 5805) _ _ e in
    let e2 = rest (ltb st.clock (2 ^ 48)) _ _ e1 in
    let e3 = rest ready _ _ e2 in
    let e4 = rest (answer_due su st gap a) _ _ e3 in
    record { whole = eqb-true n 5805 (first (eqb n 5805) _ _ e); clock = ltb-true st.clock (2 ^ 48) (first (ltb st.clock (2 ^ 48)) _ _ e1); room = first ready _ _ e2; fields = fields_asked su st g e4 }

-- set-up
idle_at : (k : ℕ) → process_at (replicate 8 idle) k ≡ idle
idle_at k = blanks 8 k
  where
    blanks : (n k : ℕ) → get_or (replicate n idle) k idle ≡ idle
    blanks zero k = refl
    blanks (suc n) zero = refl
    blanks (suc n) (suc k) = blanks n k

pub sound_fresh : (su : Setup) (t : ℕ) → Bounds su → Sound su (fresh_state t)
sound_fresh su t b = record {
  bounds = b;
  packets = omega arith;
  sendings = omega arith;
  smallest = omega arith;
  largest = omega arith;
  shortest = omega arith;
  longest = omega arith;
  repeats = omega arith;
  good = λ k l. let P : Process → Type 0 = λ p. Good su p in subst P (sym (idle_at k)) (good_idle su);
}

-- what the questions of set-up have settled
pub bounds_asked : (su : Setup) → Ok tt ≡ first_no (set_up_questions su) → Bounds su
bounds_asked su e =
    let m = first (within 1 28 su.max_harq_tx && within 1 8 su.max_harq_msg3_tx) _ _ e in
    let tx = and_left (within 1 28 su.max_harq_tx) (within 1 8 su.max_harq_msg3_tx) m in
    let tx3 = and_right (within 1 28 su.max_harq_tx) (within 1 8 su.max_harq_msg3_tx) m in
    record { least = le_of (and_left (leb 1 su.max_harq_tx) _ tx); most = le_of (and_right (leb 1 su.max_harq_tx) _ tx); least3 = le_of (and_left (leb 1 su.max_harq_msg3_tx) _ tx3); most3 = le_of (and_right (leb 1 su.max_harq_msg3_tx) _ tx3) }

-- a call is accepted where every question is answered yes, and only there
pub yes_accepts : (qs : List (Bool × Refusal)) → all_yes qs ≡ true → first_no qs ≡ Ok tt
yes_accepts [] h = refl
yes_accepts (q ∷ qs) h = go q.0 h (yes_accepts qs)
  where
    go : (b : Bool) → (b && all_yes qs) ≡ true → (all_yes qs ≡ true → first_no qs ≡ Ok tt) → cond b (first_no qs) (Err q.1) ≡ Ok tt
    go true h k = k h
    go false h k = absurd (let z : ◌≡◌ {A = ℕ} 0 1 = cc in omega arith)

pub accepts_yes : (qs : List (Bool × Refusal)) → Ok tt ≡ first_no qs → all_yes qs ≡ true
accepts_yes [] h = refl
accepts_yes (q ∷ qs) h = go q.0 h (accepts_yes qs)
  where
    go : (b : Bool) → Ok tt ≡ cond b (first_no qs) (Err q.1) → (Ok tt ≡ first_no qs → all_yes qs ≡ true) → (b && all_yes qs) ≡ true
    go true h k = k h
    go false h k = absurd (let z : ◌≡◌ {A = ℕ} 0 1 = cc in omega arith)
