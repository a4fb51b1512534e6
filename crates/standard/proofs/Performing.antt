-- A TTI: what the relations have the MAC entity transmit is what the cell sends, and they stay alike.
use Rattle.std.proofs.Common.{◌≡◌, ℕ, ◌+◌, ◌*◌, ◌<◌, ◌≤◌, Bool, true, false, cond, ◌&&◌, eqb, leb, ◌⊎◌, List, length, drop, set, Some, None, Ok, Option, unwrap_or, sym, refl, ap, ◌∙◌, subst, inl, inr, arith, length-drop, length-set, length-take-le, get_or-set_other, get_or-set_same}
use Rattle.std.proofs.lemmas.Bool.{eqb-true, eq-eqb, ne_eqb, leb-true, and_parts, cases_eq}
use Rattle.terms.specs.declared.setup.CellKind.{CellKind}
use Rattle.terms.specs.declared.setup.CellKind.TheVariants.{Plain, Bundled, Asynchronous}
use Rattle.terms.specs.declared.setup.Setup.{Setup}
use Rattle.terms.specs.declared.grant.Reception.{Reception}
use Rattle.terms.specs.declared.grant.Reception.TheVariants.{CRnti, TemporaryCRnti, SpsRetransmission, Configured, RandomAccessResponse}
use Rattle.terms.specs.declared.grant.GrantInForce.{GrantInForce}
use Rattle.terms.specs.declared.process.Feedback.{Feedback}
use Rattle.terms.specs.declared.process.Process.{Process}
use Rattle.terms.specs.declared.state.Repetition.{Repetition}
use Rattle.terms.specs.declared.state.State.{State}
use Rattle.terms.specs.declared.decision.Decision.{Decision}
use Rattle.terms.specs.declared.decision.Decision.TheVariants as decision
use Rattle.terms.specs.Sendings.{Sending}
use Rattle.rules.specs.Memory.{part}
use Rattle.rules.specs.Process.{idle}
use Rattle.rules.specs.Reception.{stored_after, referred}
use Rattle.rules.specs.Entity.{process_at, process_of, answering, decided, msg3_taken, offered, obtained_by, Course, rests, begins, again, course, work_of, memory_after}
use Rattle.rules.specs.Setup.{within}
use Rattle.rules.specs.Questions.{questioned}
use Rattle.rules.specs.Subframe.{Done, heard_at, heard, with_configured, concluded, repetition_by, repetition_after, turn_done, subframe_done}
use Rattle.rules.specs.Invariant.{Good, Sound, SizedGrant, NamedBelow, FreshSized, Obtains}
use Rattle.rules.proofs.Keeping.{good_referred, good_concluded, sized_in_force, named_in_force, process_bound, sound_heard, sound_stored, sane, loaded_work, sound_finished, sound_moved, repeated_after, Admitted, admitted}
use Rattle.runs.specs.Runs.{World, Brought, fitting_packet, fitting, given, count_after}
use Rattle.runs.proofs.Amends.{none_some, some_inj}
use Rattle.runs.proofs.Memory.{part_other}
use Rattle.standard.specs.Ts36321 as ts
use Rattle.standard.specs.Conformance.{TtiOf}
use Rattle.standard.proofs.Likeness.{held_in, Like, in_force_if, BundledAlike, Alike}
use Rattle.standard.proofs.Hearing.{like_heard}
use Rattle.standard.proofs.Granting.{Delivered, delivers_sound, Proper, ProperIf, identifies_sound, none_identified, owns}
use Rattle.standard.proofs.Requesting.{notes_sound, Matches, requests_sound}
use Rattle.standard.proofs.Carrying.{Short, Carried, carries_sound}

-- Sizes.
abbrev pub Sized : List ℕ → Type 0
Sized b = (1 ≤ length b) × (length b ≤ 645)

pub fitting_sized : (offers : ℕ → Option (List ℕ)) (n : ℕ) (b : List ℕ) → fitting offers n ≡ Some b → Sized b
fitting_sized offers n b e = go (offers n) e
  where
    go : (o : Option (List ℕ)) → fitting_packet n o ≡ Some b → Sized b
    go None e = absurd (none_some e)
    go (Some x) e = by (eqb (length x) n && within 1 645 n) refl e
      where
        by : (z : Bool) → (eqb (length x) n && within 1 645 n) ≡ z → cond z (Some x) None ≡ Some b → Sized b
        by false q e = absurd (none_some e)
        by true q e =
            let a = and_parts (eqb (length x) n) (within 1 645 n) q in
            let l = eqb-true (length x) n a.0 in
            let c = and_parts (leb 1 n) (leb n 645) a.1 in
            let lo = leb-true 1 n c.0 in
            let hi = leb-true n 645 c.1 in
            subst Sized (some_inj e) (omega arith, omega arith)

part_length : (m : List ℕ) (n : ℕ) → length m ≡ 5805 → n ≤ 645 → length (part m 8 n) ≡ n
part_length m n whole le = length-take-le n (drop (645 * 8) m) (simp length-drop (omega arith))

pub Msg3Sized : (m : List ℕ) (o : Option ℕ) (b : List ℕ) → length m ≡ 5805 → 1 ≤ unwrap_or o 1 → unwrap_or o 1 ≤ 645 → held_in m 8 o ≡ Some b → Sized b
Msg3Sized m None b whole lo hi e = absurd (none_some e)
Msg3Sized m (Some n) b whole lo hi e = let l = part_length m n whole hi in subst Sized (some_inj e) (omega arith, omega arith)

-- what a new transmission obtains
module _ (m : List ℕ) (o : Option ℕ) (offers : ℕ → Option (List ℕ)) (whole : length m ≡ 5805) (lo : 1 ≤ unwrap_or o 1) (hi : unwrap_or o 1 ≤ 645) where
  from_source : (x : Option (List ℕ)) → ((b : List ℕ) → x ≡ Some b → Sized b) → FreshSized (offered x)
  from_source None h = tt
  from_source (Some b) h = h b refl

  obtained_sized : (y : Option ℕ) (size : ℕ) → 1 ≤ unwrap_or y 1 → unwrap_or y 1 ≤ 645 → FreshSized (obtained_by y size m (fitting offers))
  obtained_sized None size lo hi = from_source (fitting offers size) (fitting_sized offers size)
  obtained_sized (Some n) size lo hi = let l = part_length m n whole hi in (omega arith, omega arith)

  taken_sized : (r : Reception) (size : ℕ) → FreshSized (obtained_by (msg3_taken r o) size m (fitting offers))
  taken_sized (CRnti n) size = obtained_sized None size (omega arith) (omega arith)
  taken_sized TemporaryCRnti size = obtained_sized None size (omega arith) (omega arith)
  taken_sized SpsRetransmission size = obtained_sized None size (omega arith) (omega arith)
  taken_sized Configured size = obtained_sized None size (omega arith) (omega arith)
  taken_sized RandomAccessResponse size = obtained_sized o size lo hi

  obtains : (d : Decision) → Obtains d o m (fitting offers)
  obtains (decision.Rest x) = tt
  obtains (decision.New g) = taken_sized g.reception g.size
  obtains (decision.Adaptive g) = tt
  obtains decision.NonAdaptive = tt

-- What a request has to do with the grant.
abbrev Linked : Option ts.UplinkGrant → ts.Request → Type 0
Linked u (ts.new_transmission pdu m3 g) = u ≡ Some g
Linked u (ts.adaptive_retransmission g) = u ≡ Some g
Linked u ts.non_adaptive_retransmission = (u ≡ None) ⊎ ((g : ts.UplinkGrant) × (u ≡ Some g) × (g.received ≡ ts.configured))
Linked u ts.no_request = Unit {0}

module _ (su : Setup) (Msg3 : Option (List ℕ)) (assembly : ℕ → Option (List ℕ)) (h : ts.HarqProcess) where
  linked : (u : Option ts.UplinkGrant) (r : ts.Request) → ts.Requests su Msg3 assembly h u r → Linked u r
  linked u r (ts.Msg3Transmission g pdu new there) = refl
  linked u r (ts.kept_for_retransmission g new none (ts.kept pdu lt e has f)) = inr (g, refl, e)
  linked u r (ts.assembled_transmission g pdu new none spared has) = refl
  linked u r (ts.none_obtained g new none spared has) = tt
  linked u r (ts.adaptive g pdu new has) = refl
  linked u r (ts.empty_retransmission g new has) = tt
  linked u r (ts.non_adaptive pdu has) = inl refl
  linked u r (ts.idle has) = tt

  short : ((b : List ℕ) → Msg3 ≡ Some b → Sized b) → ((n : ℕ) (b : List ℕ) → assembly n ≡ Some b → Sized b) → (u : Option ts.UplinkGrant) (r : ts.Request) → ts.Requests su Msg3 assembly h u r → Short r
  short a b u r (ts.Msg3Transmission g pdu new (ts.held pdu₁ e held)) = (a pdu held).1
  short a b u r (ts.kept_for_retransmission g new none spared) = tt
  short a b u r (ts.assembled_transmission g pdu new none spared has) = (b g.size pdu has).1
  short a b u r (ts.none_obtained g new none spared has) = tt
  short a b u r (ts.adaptive g pdu new has) = tt
  short a b u r (ts.empty_retransmission g new has) = tt
  short a b u r (ts.non_adaptive pdu has) = tt
  short a b u r (ts.idle has) = tt

-- The bundle under way.
alike_later : (t : ℕ) (b : Option ts.Bundle) (r : Option Repetition) → BundledAlike t b r → BundledAlike (t + 1) b r
alike_later t None None h = h
alike_later t None (Some r) h = h
alike_later t (Some b) None h = h
alike_later t (Some b) (Some r) h = let le = h.2 in (h.0, h.1, omega arith)

module _ (su : Setup) (t k : ℕ) (b : Option ts.Bundle) (rep : Option Repetition) (u : Option ts.UplinkGrant) (p : Process) (alike : BundledAlike t b rep)
    (here : process_of su.kind t (in_force_if u) rep ≡ Some k) (ok : ProperIf su u) where
  abbrev after : Course → Option Repetition
  after c = repetition_after su.kind t (in_force_if u) (work_of c) rep

  stays : (r : Option Repetition) → r ≡ rep → BundledAlike (t + 1) b r
  stays r e = subst (BundledAlike (t + 1) b) (sym e) (alike_later t b rep alike)

  by_synchronous : (kd : CellKind) (y : Option GrantInForce) → ts.Synchronous kd → repetition_by kd t y rep ≡ rep
  by_synchronous kd y ts.plain = refl
  by_synchronous kd y ts.bundled = refl

  by_none : (kd : CellKind) → repetition_by kd t None rep ≡ rep
  by_none Plain = refl
  by_none Bundled = refl
  by_none Asynchronous = refl

  started : (g : ts.UplinkGrant) → su.kind ≡ Asynchronous → u ≡ Some g → BundledAlike (t + 1) (Some (record { process = k; start = t; number = g.UL_REPETITION_NUMBER })) (repetition_by su.kind t (in_force_if u) rep)
  started g a link =
      let same : repetition_by su.kind t (in_force_if u) rep ≡ Some (record { process = g.identifier; until = t + g.UL_REPETITION_NUMBER }) =
      ap (λ kd. repetition_by kd t (in_force_if u) rep) a ∙ ap (λ v. repetition_by Asynchronous t (in_force_if v) rep) link in
      let named : g.identifier ≡ k = some_inj (sym (ap (λ kd. process_of kd t (in_force_if u) rep) a ∙ ap (λ v. process_of Asynchronous t (in_force_if v) rep) link) ∙ here) in
      subst (BundledAlike (t + 1) (Some (record { process = k; start = t; number = g.UL_REPETITION_NUMBER }))) (sym same) (sym named, refl, omega arith)

  again_kept : Linked u ts.non_adaptive_retransmission → repetition_by su.kind t (in_force_if u) rep ≡ rep
  again_kept (inl e) = ap (λ v. repetition_by su.kind t (in_force_if v) rep) e ∙ by_none su.kind
  again_kept (inr x) =
      let proper : Proper su x.0 = subst (ProperIf su) x.1 ok in
      ap (λ kd. repetition_by kd t (in_force_if u) rep) (proper.plain x.2)

  bundles_sound : (r : ts.Request) (b' : Option ts.Bundle) (c : Course) → ts.Bundles su t k b r b' → Linked u r → Matches su p r c → BundledAlike (t + 1) b' (after c)
  bundles_sound r b' c (ts.new_bundle pdu m3 g a) link e = subst (λ c. BundledAlike (t + 1) b' (after c)) (sym e) (started g a link)
  bundles_sound r b' c (ts.adaptive_bundle g a) link e = subst (λ c. BundledAlike (t + 1) b' (after c)) (sym e) (started g a link)
  bundles_sound r b' c (ts.synchronous_new pdu m3 g s) link e = subst (λ c. BundledAlike (t + 1) b (after c)) (sym e) (stays _ (by_synchronous su.kind (in_force_if u) s))
  bundles_sound r b' c (ts.synchronous_adaptive g s) link e = subst (λ c. BundledAlike (t + 1) b (after c)) (sym e) (stays _ (by_synchronous su.kind (in_force_if u) s))
  bundles_sound r b' c ts.within_bundle link e = subst (λ c. BundledAlike (t + 1) b (after c)) (sym e) (stays _ (again_kept link))
  bundles_sound r b' c ts.no_bundle link e = subst (λ c. BundledAlike (t + 1) b (after c)) (sym e.1) (stays rep refl)

-- What a write for process k leaves elsewhere.
abbrev ShortCourse : Course → Type 0
ShortCourse (rests o p) = Unit {0}
ShortCourse (begins g f p) = length f.packet ≤ 645
ShortCourse (again p acked) = Unit {0}

short_course : (su : Setup) (p : Process) (r : ts.Request) (c : Course) → Matches su p r c → Short r → ShortCourse c
short_course su p (ts.new_transmission pdu m3 g) c e s = subst ShortCourse (sym e) s
short_course su p (ts.adaptive_retransmission g) c e s = subst ShortCourse (sym e) tt
short_course su p ts.non_adaptive_retransmission c e s = subst ShortCourse (sym e) tt
short_course su p ts.no_request c e s = subst ShortCourse (sym e.1) tt

module _ (m : List ℕ) (k : ℕ) (whole : length m ≡ 5805) (klt : k < 8) where
  held_elsewhere : (c : Course) → ShortCourse c → (j : ℕ) → (j ≡ k → ⊥) → (o : Option ℕ) → unwrap_or o 1 ≤ 645 → held_in m j o ≡ held_in (memory_after m k c) j o
  held_elsewhere c s j ne None le = refl
  held_elsewhere (rests x p) s j ne (Some n) le = refl
  held_elsewhere (again p a) s j ne (Some n) le = refl
  held_elsewhere (begins g f p) s j ne (Some n) le = ap Some (sym (part_other m k f.packet whole (omega arith) s j n le ne))

  like_elsewhere : (su : Setup) (t : ℕ) (c : Course) (j : ℕ) (h : ts.HarqProcess) (p : Process) → ShortCourse c → (j ≡ k → ⊥) → unwrap_or p.buffer 1 ≤ 645 → Like su t m j h p → Like su t (memory_after m k c) j h p
  like_elsewhere su t c j h p s ne le like = record { buffer = like.buffer ∙ held_elsewhere c s j ne p.buffer le; from_msg3 = like.from_msg3; count = like.count; feedback = like.feedback; index = like.index; mcs = like.mcs; resource = like.resource; compared = like.compared; due = like.due; resting = like.resting }

heard_eight : (o : Option ℕ) (gap : Bool) (a : Option Feedback) (ps : List Process) → length ps ≡ 8 → length (heard_at o gap a ps) ≡ 8
heard_eight None gap a ps e = e
heard_eight (Some k) gap a ps e = length-set ps k _ ∙ e

-- an accepted subframe call, and a MAC entity that is alike
module _ (su : Setup) (w : World) (mac : ts.MAC) (alike : Alike su mac w) (b : Brought) (proper : (u : Option ts.UplinkGrant) (c : Option ts.Configured) → ts.Delivers su w.state.clock mac.configured b.grant u c → ProperIf su u)
    (yes-all : Ok tt ≡ questioned su w.state (length w.memory) (given w b).ready (given w b).gap b.answer b.grant) where
  abbrev st : State
  st = w.state

  abbrev t : ℕ
  t = w.state.clock

  abbrev m : List ℕ
  m = w.memory

  abbrev gap : Bool
  gap = b.gaps w.state.clock

  abbrev offers : ℕ → Option (List ℕ)
  offers = fitting b.offers

  abbrev s₂ : State
  s₂ = with_configured (heard su st gap b.answer) (stored_after t st.configured b.grant)

  abbrev ps : List Process
  ps = heard_at (answering su.kind t) gap b.answer st.processes

  asked : Admitted su st (length m) (given w b).ready b.grant
  asked = admitted su st (length m) (given w b).ready gap b.answer b.grant yes-all

  whole : length m ≡ 5805
  whole = asked.whole

  eight : length ps ≡ 8
  eight = heard_eight (answering su.kind t) gap b.answer st.processes alike.eight

  sound₂ : Sound su s₂
  sound₂ = sound_stored su (heard su st gap b.answer) t b.grant (sound_heard su st gap b.answer alike.sound) asked.fields

  -- a subframe by what its turn came to
  abbrev world_by : Done → World
  world_by d = record { state = d.state; memory = d.memory; count = count_after d.sending w.count }

  abbrev Sent : Option Sending → ts.MAC → Done → Type 0
  Sent x mac' d = (x ≡ d.sending) × Alike su mac' (world_by d)

  module _ (fs : ℕ → Feedback) (routes : ts.Routes (TtiOf w b) mac.process fs) (u : Option ts.UplinkGrant) (c : Option ts.Configured) (delivers : ts.Delivers su t mac.configured b.grant u c) where
    likes : (j : ℕ) → j < 8 → Like su (t + 1) m j (ts.heard (mac.process j) (fs j)) (process_at ps j)
    likes j lt = like_heard su t m st.processes j alike.eight lt (TtiOf w b) refl (mac.process j) (alike.like j lt) (fs j) (routes j)

    delivered : Delivered su t st.configured b.grant u c
    delivered = delivers_sound su t st.configured mac.configured b.grant u c delivers alike.configured

    -- in the turn of the grant in force
    in_turn : (x : Option Sending) (mac' : ts.MAC) (o : Option ℕ) → process_of su.kind t (in_force_if u) st.repetition ≡ o → Sent x mac' (turn_done su s₂ m gap offers (in_force_if u) o)
        → Sent x mac' (subframe_done su st m (given w b))
    in_turn x mac' o e done =
        let D : Option GrantInForce → Option ℕ → Type 0 = λ y o. Sent x mac' (turn_done su s₂ m gap offers y o) in
        subst (λ y. D y (process_of su.kind t y st.repetition)) delivered.0 (subst (D (in_force_if u)) (sym e) done)

    nobody_sound : ((k : ℕ) → ts.Identifies su t mac.bundle u k → ⊥) → Sent None (record { process = λ j. ts.heard (mac.process j) (fs j); configured = c; bundle = mac.bundle; Msg3 = mac.Msg3 }) (subframe_done su st m (given w b))
    nobody_sound none =
        in_turn None _ None (none_identified su t mac.bundle st.repetition u alike.bundle none)
        (refl, record { sound = sound_moved su s₂ sound₂; eight = eight; like = likes; configured = delivered.1; bundle = alike_later t mac.bundle st.repetition alike.bundle; Msg3 = alike.Msg3 })

    module _ (k : ℕ) (here : process_of su.kind t (in_force_if u) st.repetition ≡ Some k) (v : Option ts.Received) (notes : ts.Notes (ts.heard (mac.process k) (fs k)) u v) where
      klt : k < 8
      klt = process_bound su st t k b.grant alike.sound asked.fields (sym here ∙ ap (λ y. process_of su.kind t y st.repetition) delivered.0)

      abbrev h : ts.HarqProcess
      h = ts.noted (ts.heard (mac.process k) (fs k)) v

      abbrev p : Process
      p = referred (in_force_if u) (process_at ps k)

      like : Like su (t + 1) m k h p
      like = notes_sound (likes k klt) u v notes

      good : Good su p
      good = good_referred su (in_force_if u) (process_at ps k) (sound₂.good k klt)

      abbrev turn : Course
      turn = course su (decided su (in_force_if u) p) st.msg3 m offers p

      sized : SizedGrant (in_force_if u)
      sized = subst SizedGrant (sym delivered.0) (sized_in_force su st t b.grant alike.sound asked.fields)

      named : NamedBelow su.kind (in_force_if u)
      named = subst (NamedBelow su.kind) (sym delivered.0) (named_in_force su t st.configured b.grant asked.fields)

      good_after : Good su (concluded su k gap (work_of turn)).process
      good_after = good_concluded su k gap (work_of turn) (loaded_work su (decided su (in_force_if u) p) st.msg3 m offers p sound₂.bounds good (sane su (in_force_if u) p sized) (obtains m st.msg3 b.offers whole alike.sound.shortest alike.sound.longest (decided su (in_force_if u) p)))

      module _ (r : ts.Request) (requests : ts.Requests su mac.Msg3 offers h u r) where
        matches : Matches su p r turn
        matches = requests_sound like mac.Msg3 st.msg3 alike.Msg3 offers u r requests

        short_request : Short r
        short_request = short su mac.Msg3 offers h (λ x e. Msg3Sized m st.msg3 x whole alike.sound.shortest alike.sound.longest (sym alike.Msg3 ∙ e)) (fitting_sized b.offers) u r requests

        short_turn : ShortCourse turn
        short_turn = short_course su p r turn matches short_request

        process_sound : (x : Option Sending) (h' : ts.HarqProcess) (b' : Option ts.Bundle) → ts.CarriesOut su t k gap h r x h' → ts.Bundles su t k mac.bundle r b'
            → Sent x (record { process = ts.put k h' (λ j. ts.heard (mac.process j) (fs j)); configured = c; bundle = b'; Msg3 = mac.Msg3 }) (subframe_done su st m (given w b))
        process_sound x h' b' carries bundles =
            in_turn x _ (Some k) here (
              carried.0,
              record {
                sound = sound_finished su s₂ k _ (concluded su k gap (work_of turn)) sound₂ good_after (repeated_after su.kind t (in_force_if u) (work_of turn) st.repetition named sound₂.repeats);
                eight = length-set ps k _ ∙ eight;
                like = each;
                configured = delivered.1;
                bundle = bundles_sound su t k mac.bundle st.repetition u p alike.bundle here (proper u c delivers) r b' turn bundles (linked su mac.Msg3 offers h u r requests) matches;
                Msg3 = alike.Msg3 ∙ held_elsewhere m k whole klt turn short_turn 8 (λ e. absurd (let lt = klt in omega arith)) st.msg3 alike.sound.longest;
              },
            )
          where
            carried : Carried su t m k gap whole klt (owns su t (in_force_if u) st.repetition k here) sound₂.bounds h p like good.index turn x h'
            carried = carries_sound su t m k gap whole klt (owns su t (in_force_if u) st.repetition k here) sound₂.bounds h p like good.index r x h' turn carries matches short_request

            q : Process
            q = (concluded su k gap (work_of turn)).process

            each : (j : ℕ) → j < 8 → Like su (t + 1) (memory_after m k turn) j (ts.put k h' (λ j. ts.heard (mac.process j) (fs j)) j) (process_at (set ps k q) j)
            each j lt = split (cases_eq j k)
              where
                split : (j ≡ k) ⊎ (j ≡ k → ⊥) → Like su (t + 1) (memory_after m k turn) j (ts.put k h' (λ j. ts.heard (mac.process j) (fs j)) j) (process_at (set ps k q) j)
                split (inl e) =
                    let in_place : k < length ps = let lt = klt in let n = eight in omega arith in
                    subst (λ i. Like su (t + 1) (memory_after m k turn) i (ts.put k h' (λ j. ts.heard (mac.process j) (fs j)) i) (process_at (set ps k q) i)) (sym e)
                    (subst (λ y. Like su (t + 1) (memory_after m k turn) k y (process_at (set ps k q) k)) (sym (ap (λ z. cond z h' (ts.heard (mac.process k) (fs k))) (eq-eqb k k refl)))
                    (subst (Like su (t + 1) (memory_after m k turn) k h') (sym (get_or-set_same ps k q idle in_place)) carried.1))
                split (inr ne) =
                    subst (λ y. Like su (t + 1) (memory_after m k turn) j y (process_at (set ps k q) j)) (sym (ap (λ z. cond z h' (ts.heard (mac.process j) (fs j))) (ne_eqb j k ne)))
                    (subst (Like su (t + 1) (memory_after m k turn) j (ts.heard (mac.process j) (fs j))) (sym (get_or-set_other ps k j q idle ne))
                    (like_elsewhere m k whole klt su (t + 1) turn j (ts.heard (mac.process j) (fs j)) (process_at ps j) short_turn ne (sound₂.good j lt).not_long (likes j lt)))

  pub performs_sound : (x : Option Sending) (mac' : ts.MAC) → ts.Performs su mac (TtiOf w b) x mac' → Sent x mac' (subframe_done su st m (given w b))
  performs_sound x mac' (ts.in_process fs u c k v r x₁ h' b' routes delivers identifies notes requests carries bundles) =
      process_sound fs routes u c delivers k (identifies_sound su t mac.bundle st.repetition u k identifies alike.bundle (proper u c delivers)) v notes r requests x h' b' carries bundles
  performs_sound x mac' (ts.in_no_process fs u c routes delivers none) = nobody_sound fs routes u c delivers none
