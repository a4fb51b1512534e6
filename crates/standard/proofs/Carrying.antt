-- The HARQ process: what the relations make of a request, the rules make of it.
use Rattle.std.proofs.Common.{◌≡◌, ℕ, zero, suc, ◌+◌, ◌-◌, ◌%◌, ◌<◌, ◌≤◌, Bool, true, false, cond, not, ◌&&◌, ◌||◌, eqb, leb, List, length, Some, None, Option, unwrap_or, sym, refl, ap, ◌∙◌, subst, ap₂, arith}
use Rattle.std.proofs.lemmas.Bool.{le-leb, lt-leb, eq-eqb, ne_eqb, both_ways, and_from, and_left}
use Rattle.terms.specs.declared.setup.CellKind.{CellKind}
use Rattle.terms.specs.declared.setup.CellKind.TheVariants.{Plain, Bundled, Asynchronous}
use Rattle.terms.specs.declared.setup.Setup.{Setup}
use Rattle.terms.specs.declared.grant.GrantInForce.{GrantInForce}
use Rattle.terms.specs.declared.process.Process.{Process}
use Rattle.terms.specs.declared.version.Irv.{Irv}
use Rattle.terms.specs.Versions.{version_at, index_of}
use Rattle.terms.specs.Sendings.{Sending}
use Rattle.rules.specs.Memory.{part}
use Rattle.rules.specs.Process.{synchronous, is_ack, granted_version, first_index, reference_set, renewed, counted, adapted, repeated, on_air, advanced, maximum, gives_up, flushed, transmitted}
use Rattle.rules.specs.Entity.{Course, work_of, memory_after}
use Rattle.rules.specs.Subframe.{concluded, sending_by, sending_if, sending}
use Rattle.rules.specs.Invariant.{Bounds}
use Rattle.runs.proofs.Amends.{none_some, some_inj}
use Rattle.runs.proofs.Memory.{part_written}
use Rattle.standard.specs.Ts36321 as ts
use Rattle.standard.proofs.Likeness.{held_in, reference, Due, Owns, Like, reception, in_force, due_sent}
use Rattle.standard.proofs.Requesting.{Matches}

-- Synchronous operation.
pub synchronous_true : (kd : CellKind) → ts.Synchronous kd → synchronous kd ≡ true
synchronous_true kd ts.plain = refl
synchronous_true kd ts.bundled = refl

first_synchronous : (kd : CellKind) (g : GrantInForce) → ts.Synchronous kd → (first_index kd g).0 ≡ 0
first_synchronous kd g ts.plain = refl
first_synchronous kd g ts.bundled = refl

counted_synchronous : (kd : CellKind) (n : ℕ) → ts.Synchronous kd → counted kd n ≡ n + 1
counted_synchronous kd n ts.plain = refl
counted_synchronous kd n ts.bundled = refl

granted_synchronous : (kd : CellKind) (g : GrantInForce) → ts.Synchronous kd → granted_version kd g ≡ record { 0 = g.mcs - 28 }
granted_synchronous kd g ts.plain = refl
granted_synchronous kd g ts.bundled = refl

-- Versions and indices.
pub index_same : (v j : ℕ) → ts.Index v j → j ≡ (index_of (record { 0 = v })).0
index_same v j (ts.index j₁ lt e) = go j lt e
  where
    go : (j : ℕ) → j < 4 → ts.version_of j ≡ v → j ≡ (index_of (record { 0 = v })).0
    go zero lt e = subst (λ x. 0 ≡ (index_of (record { 0 = x })).0) e refl
    go (suc zero) lt e = subst (λ x. 1 ≡ (index_of (record { 0 = x })).0) e refl
    go (suc (suc zero)) lt e = subst (λ x. 2 ≡ (index_of (record { 0 = x })).0) e refl
    go (suc (suc (suc zero))) lt e = subst (λ x. 3 ≡ (index_of (record { 0 = x })).0) e refl
    go (suc (suc (suc (suc n)))) lt e = absurd (omega arith)

pub index_below : (v j : ℕ) → ts.Index v j → j < 4
index_below v j (ts.index j₁ lt e) = lt

version_same : (i : Irv) → i.0 < 4 → ts.version_of i.0 ≡ (version_at i).0
version_same i lt = go i.0 lt
  where
    go : (n : ℕ) → n < 4 → ts.version_of n ≡ (version_at (record { 0 = n })).0
    go zero lt = refl
    go (suc zero) lt = refl
    go (suc (suc zero)) lt = refl
    go (suc (suc (suc zero))) lt = refl
    go (suc (suc (suc (suc n)))) lt = absurd (omega arith)

version_by_mcs : (n v : ℕ) → ts.McsVersion n v → v ≡ n - 28
version_by_mcs n v (ts.up_to_28 n₁ le) = omega arith
version_by_mcs n v ts.at_29 = refl
version_by_mcs n v ts.at_30 = refl
version_by_mcs n v ts.at_31 = refl

mcs_same : (before n s : ℕ) → ts.McsUsed before n s → s ≡ cond (leb n 28) n before
mcs_same before n s (ts.provided n₁ le) = sym (ap (λ b. cond b n before) (le-leb n 28 le))
mcs_same before n s (ts.not_provided n₁ gt) = sym (ap (λ b. cond b n before) (lt-leb n 28 gt))

-- what a transmission leaves to be compared with
compared_same : (h : ts.HarqProcess) (g : ts.UplinkGrant) (n : Option ℕ) (r : Option ts.Received) (q : Option ℕ) → ts.Compared h g n r → reference h.previous_grant h.previous_ndi ≡ q
    → reference r n ≡ reference_set (reception g.received g.NDI) q
compared_same h g n r q (ts.CRnti e) like = sym (ap (λ x. reference_set (reception x g.NDI) q) e)
compared_same h g n r q (ts.other ne) like = go g.received refl
  where
    go : (x : ts.Received) → g.received ≡ x → reference h.previous_grant h.previous_ndi ≡ reference_set (reception x g.NDI) q
    go ts.for_c_rnti e = absurd (ne e)
    go ts.for_temporary_c_rnti e = like
    go ts.for_sps_c_rnti e = like
    go ts.in_random_access_response e = like
    go ts.configured e = like

-- a packet for a new transmission is not too long
abbrev pub Short : ts.Request → Type 0
Short (ts.new_transmission pdu m3 g) = length pdu ≤ 645
Short (ts.adaptive_retransmission g) = Unit {0}
Short ts.non_adaptive_retransmission = Unit {0}
Short ts.no_request = Unit {0}

-- process k in subframe t, with packet memory m; p is the process before the request
module _ (su : Setup) (t : ℕ) (m : List ℕ) (k : ℕ) (gap : Bool) (whole : length m ≡ 5805) (klt : k < 8) where
  -- a course tries to send: the process that does, and whether an ACK keeps it back
  pub record Trial (c : Course) (p : Process) (acked : Bool) : Type 0 where
    pub told : sending t k (memory_after m k c) gap (work_of c) ≡ sending_if (on_air acked gap p) (sending_by t k (memory_after m k c) p)
    pub left : (concluded su k gap (work_of c)).process ≡ transmitted su (on_air acked gap p) p

  pub record Prepared (h : ts.HarqProcess) (b : Bool) (c : Course) : Type 0 where
    pub process : Process
    pub acked : Bool
    pub kept_back : acked ≡ not b
    pub trial : Trial c process acked
    pub like : Like su (t + 1) (memory_after m k c) k h process
    pub index : process.current_irv.0 < 4

  module _ (h : ts.HarqProcess) (p : Process) (like : Like su (t + 1) m k h p) (index : p.current_irv.0 < 4) where
    asynchronous : su.kind ≡ Asynchronous → synchronous su.kind ≡ false
    asynchronous e = ap synchronous e

    never : {A : Type 0} → ts.Synchronous su.kind → synchronous su.kind ≡ false → A
    never s z = absurd (both_ways (synchronous su.kind) z (synchronous_true su.kind s))

    pub prepares_sound : (r : ts.Request) (h₁ : ts.HarqProcess) (b : Bool) (c : Course) → ts.Prepares su h r h₁ b → Matches su p r c → Short r → Prepared h₁ b c
    prepares_sound r h₁ b c (ts.new_synchronous pdu m3 g n v s cmp) e short =
        subst (Prepared h₁ true) (sym e)
        (record {
          process = renewed su (in_force g) (length pdu) m3 p;
          acked = false;
          kept_back = refl;
          trial = record { told = refl; left = refl };
          like = record {
            buffer = ap Some (sym (part_written m k pdu whole (omega arith) short));
            from_msg3 = refl;
            count = refl;
            feedback = refl;
            index = sym (first_synchronous su.kind (in_force g) s);
            mcs = refl;
            resource = refl;
            compared = compared_same h g n v p.reference_ndi cmp like.compared;
            due = like.due;
            resting = λ z. never s z;
          };
          index = let z = first_synchronous su.kind (in_force g) s in omega arith;
        })
    prepares_sound r h₁ b c (ts.new_asynchronous pdu m3 g n v j a cmp i) e short =
        let here : j ≡ (first_index su.kind (in_force g)).0 = index_same g.redundancy_version j i ∙ sym (ap (λ x. (first_index x (in_force g)).0) a) in
        let rest = like.resting (asynchronous a) in
        subst (Prepared h₁ true) (sym e)
        (record {
          process = renewed su (in_force g) (length pdu) m3 p;
          acked = false;
          kept_back = refl;
          trial = record { told = refl; left = refl };
          like = record {
            buffer = ap Some (sym (part_written m k pdu whole (omega arith) short));
            from_msg3 = refl;
            count = like.count ∙ rest.1;
            feedback = like.feedback ∙ rest.0;
            index = here;
            mcs = refl;
            resource = refl;
            compared = compared_same h g n v p.reference_ndi cmp like.compared;
            due = like.due;
            resting = λ z. (refl, refl);
          };
          index = let lt = index_below g.redundancy_version j i in omega arith;
        })
    prepares_sound r h₁ b c (ts.adaptive_synchronous g n v x j s sy cmp ver i used) e short =
        let here : j ≡ (index_of (granted_version su.kind (in_force g))).0 =
        index_same x j i ∙ ap (λ z. (index_of (record { 0 = z })).0) (version_by_mcs g.MCS x ver) ∙ sym (ap (λ z. (index_of z).0) (granted_synchronous su.kind (in_force g) sy)) in
        subst (Prepared h₁ true) (sym e)
        (record {
          process = adapted su (in_force g) p;
          acked = false;
          kept_back = refl;
          trial = record { told = refl; left = refl };
          like = record {
            buffer = like.buffer;
            from_msg3 = like.from_msg3;
            count = ap (λ z. z + 1) like.count ∙ sym (counted_synchronous su.kind p.current_tx_nb sy);
            feedback = refl;
            index = here;
            mcs = mcs_same h.MCS g.MCS s used ∙ ap (λ z. cond (leb g.MCS 28) g.MCS z) like.mcs;
            resource = refl;
            compared = compared_same h g n v p.reference_ndi cmp like.compared;
            due = like.due;
            resting = λ z. never sy z;
          };
          index = let lt = index_below x j i in omega arith;
        })
    prepares_sound r h₁ b c (ts.adaptive_asynchronous g n v j s a cmp i used) e short =
        let here : j ≡ (index_of (granted_version su.kind (in_force g))).0 = index_same g.redundancy_version j i ∙ sym (ap (λ z. (index_of (granted_version z (in_force g))).0) a) in
        let rest = like.resting (asynchronous a) in
        let same : counted su.kind p.current_tx_nb ≡ p.current_tx_nb = ap (λ z. counted z p.current_tx_nb) a in
        subst (Prepared h₁ true) (sym e)
        (record {
          process = adapted su (in_force g) p;
          acked = false;
          kept_back = refl;
          trial = record { told = refl; left = refl };
          like = record {
            buffer = like.buffer;
            from_msg3 = like.from_msg3;
            count = like.count ∙ sym same;
            feedback = like.feedback ∙ rest.0;
            index = here;
            mcs = mcs_same h.MCS g.MCS s used ∙ ap (λ z. cond (leb g.MCS 28) g.MCS z) like.mcs;
            resource = refl;
            compared = compared_same h g n v p.reference_ndi cmp like.compared;
            due = like.due;
            resting = λ z. (refl, same ∙ rest.1);
          };
          index = let lt = index_below g.redundancy_version j i in omega arith;
        })
    prepares_sound r h₁ b c (ts.non_adaptive_nack sy f) e short =
        subst (Prepared h₁ true) (sym e)
        (record {
          process = repeated su p;
          acked = is_ack p.harq_feedback;
          kept_back = ap is_ack (sym like.feedback ∙ f);
          trial = record { told = refl; left = refl };
          like = record {
            buffer = like.buffer;
            from_msg3 = like.from_msg3;
            count = ap (λ z. z + 1) like.count ∙ sym (counted_synchronous su.kind p.current_tx_nb sy);
            feedback = like.feedback;
            index = like.index;
            mcs = like.mcs;
            resource = like.resource;
            compared = like.compared;
            due = like.due;
            resting = λ z. never sy z;
          };
          index = index;
        })
    prepares_sound r h₁ b c (ts.non_adaptive_ack sy f) e short =
        subst (Prepared h₁ false) (sym e)
        (record {
          process = repeated su p;
          acked = is_ack p.harq_feedback;
          kept_back = ap is_ack (sym like.feedback ∙ f);
          trial = record { told = refl; left = refl };
          like = record {
            buffer = like.buffer;
            from_msg3 = like.from_msg3;
            count = ap (λ z. z + 1) like.count ∙ sym (counted_synchronous su.kind p.current_tx_nb sy);
            feedback = like.feedback;
            index = like.index;
            mcs = like.mcs;
            resource = like.resource;
            compared = like.compared;
            due = like.due;
            resting = λ z. never sy z;
          };
          index = index;
        })
    prepares_sound r h₁ b c (ts.non_adaptive_asynchronous a) e short =
        let rest = like.resting (asynchronous a) in
        let same : counted su.kind p.current_tx_nb ≡ p.current_tx_nb = ap (λ z. counted z p.current_tx_nb) a in
        subst (Prepared h₁ true) (sym e)
        (record {
          process = repeated su p;
          acked = is_ack p.harq_feedback;
          kept_back = ap is_ack rest.0;
          trial = record { told = refl; left = refl };
          like = record {
            buffer = like.buffer;
            from_msg3 = like.from_msg3;
            count = like.count ∙ sym same;
            feedback = like.feedback;
            index = like.index;
            mcs = like.mcs;
            resource = like.resource;
            compared = like.compared;
            due = like.due;
            resting = λ z. (rest.0, same ∙ rest.1);
          };
          index = index;
        })

-- A transmission.
packet_same : (m : List ℕ) (k : ℕ) (o : Option ℕ) (pdu : List ℕ) → held_in m k o ≡ Some pdu → pdu ≡ part m k (unwrap_or o 0)
packet_same m k None pdu e = absurd (none_some e)
packet_same m k (Some n) pdu e = sym (some_inj e)

due_advanced : (kd : CellKind) (t k : ℕ) (before f : Option ℕ) (a : Bool) → Owns kd t k → ts.FeedbackFalls t before kd f → Due kd (t + 1) k before a → Due kd (t + 1) k f (synchronous kd || a)
due_advanced Plain t k before f a own falls d = due_sent Plain t k before f own refl falls
due_advanced Bundled t k before f a own falls d = due_sent Bundled t k before f own refl falls
due_advanced Asynchronous t k before f a own ts.not_applicable d = d

module _ (su : Setup) (t : ℕ) (m : List ℕ) (k : ℕ) (gap : Bool) (h : ts.HarqProcess) (p : Process) (like : Like su (t + 1) m k h p) (index : p.current_irv.0 < 4) (own : Owns su.kind t k) where
  -- on the air or not, what is sent and what the process is then
  abbrev Generated : Bool → Option Sending → ts.HarqProcess → Type 0
  Generated air x h' = (x ≡ sending_if air (sending_by t k m p)) × Like su (t + 1) m k h' (cond air (advanced su p) p)

  on_the_air : (pdu : List ℕ) (f : Option ℕ) → h.buffer ≡ Some pdu → ts.FeedbackFalls t h.feedback_time su.kind f → Generated true (Some (ts.transmission t k h pdu)) (ts.transmitted h f)
  on_the_air pdu f has falls = (
    ap Some same,
    record {
      buffer = like.buffer;
      from_msg3 = like.from_msg3;
      count = like.count;
      feedback = like.feedback;
      index = ap (λ n. (n + 1) % 4) like.index;
      mcs = like.mcs;
      resource = like.resource;
      compared = like.compared;
      due = due_advanced su.kind t k h.feedback_time f p.awaits_answer own falls like.due;
      resting = like.resting;
    },
  )
    where
      version : ts.version_of h.CURRENT_IRV ≡ (version_at p.current_irv).0
      version = ap ts.version_of like.index ∙ version_same p.current_irv index

      packet : pdu ≡ part m k (unwrap_or p.buffer 0)
      packet = packet_same m k p.buffer pdu (sym like.buffer ∙ has)

      same : ts.transmission t k h pdu ≡ sending_by t k m p
      same = λ i. record { subframe = t; process = k; version = record { 0 = version i }; mcs = like.mcs i; resource = like.resource i; packet = packet i }

  air_by : (g f : Bool) → gap ≡ g → p.from_msg3 ≡ f → on_air false gap p ≡ (not g || f)
  air_by g f e q = ap₂ (λ x y. not x || y) e q

  pub generates_sound : (x : Option Sending) (h' : ts.HarqProcess) → ts.Generates su.kind t k gap h x h' → Generated (on_air false gap p) x h'
  generates_sound x h' (ts.Msg3Pdu pdu f has m3 falls) = subst (λ a. Generated a x h') (sym (air gap)) (on_the_air pdu f has falls)
    where
      air : (g : Bool) → (not g || p.from_msg3) ≡ true
      air true = sym like.from_msg3 ∙ m3
      air false = refl
  generates_sound x h' (ts.no_gap pdu f has none falls) = subst (λ a. Generated a x h') (sym (air_by false p.from_msg3 none refl)) (on_the_air pdu f has falls)
  generates_sound x h' (ts.in_gap m3 some) = subst (λ a. Generated a None h) (sym (air_by true false some (sym like.from_msg3 ∙ m3))) (refl, like)

-- The maximum number of transmissions.
maximum_same : (su : Setup) (b : Bool) → cond b su.max_harq_msg3_tx su.max_harq_tx ≡ maximum su b
maximum_same su true = refl
maximum_same su false = refl

maximum_some : (su : Setup) (b : Bool) → Bounds su → 1 ≤ maximum su b
maximum_some su true h = h.least3
maximum_some su false h = h.least

module _ (su : Setup) (t : ℕ) (m : List ℕ) (k : ℕ) (h : ts.HarqProcess) (q : Process) (bounds : Bounds su) (like : Like su t m k h q) where
  most : ts.maximum_number su h ≡ maximum su q.from_msg3
  most = maximum_same su h.from_msg3 ∙ ap (maximum su) like.from_msg3

  abbrev Left : Bool → ts.HarqProcess → Type 0
  Left up h' = Like su t m k h' (cond up (flushed q) q)

  pub flushes_sound : (h' : ts.HarqProcess) → ts.Flushes su h h' → Left (gives_up su q) h'
  flushes_sound h' (ts.last_transmission s e) =
      let c = like.count in
      let n = most in
      let some = maximum_some su q.from_msg3 bounds in
      let up : gives_up su q ≡ true = and_from (synchronous su.kind) _ (synchronous_true su.kind s) (eq-eqb (q.current_tx_nb + 1) (maximum su q.from_msg3) (omega arith)) in
      subst (λ z. Left z h') (sym up)
      (record { buffer = refl; from_msg3 = like.from_msg3; count = like.count; feedback = like.feedback; index = like.index; mcs = like.mcs; resource = like.resource; compared = like.compared; due = like.due; resting = like.resting })
  flushes_sound h' (ts.not_last s ne) =
      let c = like.count in
      let n = most in
      let differ : (q.current_tx_nb + 1 ≡ maximum su q.from_msg3 → ⊥) = λ e. ne (omega arith) in
      subst (λ z. Left z h) (sym (ap (λ z. synchronous su.kind && z) (ne_eqb (q.current_tx_nb + 1) (maximum su q.from_msg3) differ) ∙ and_none (synchronous su.kind))) like
    where
      and_none : (b : Bool) → (b && false) ≡ false
      and_none true = refl
      and_none false = refl
  flushes_sound h' (ts.no_maximum a) = subst (λ z. Left z h) (sym (and_left (synchronous su.kind) (eqb (q.current_tx_nb + 1) (maximum su q.from_msg3)) (ap synchronous a))) like

-- the process after a transmission that went on the air or did not, by the process before the flush
transmitted_by : (su : Setup) (air : Bool) (p : Process) → let q = cond air (advanced su p) p in transmitted su air p ≡ cond (gives_up su q) (flushed q) q
transmitted_by su true p = refl
transmitted_by su false p = refl

-- a request carried out
module _ (su : Setup) (t : ℕ) (m : List ℕ) (k : ℕ) (gap : Bool) (whole : length m ≡ 5805) (klt : k < 8) (own : Owns su.kind t k) (bounds : Bounds su)
    (h : ts.HarqProcess) (p : Process) (like : Like su (t + 1) m k h p) (index : p.current_irv.0 < 4) where
  abbrev pub Carried : Course → Option Sending → ts.HarqProcess → Type 0
  Carried c x h' = (x ≡ sending t k (memory_after m k c) gap (work_of c)) × Like su (t + 1) (memory_after m k c) k h' (concluded su k gap (work_of c)).process

  module _ (c : Course) (h₁ : ts.HarqProcess) (b : Bool) (ready : Prepared su t m k gap whole klt h₁ b c) where
    abbrev m₁ : List ℕ
    m₁ = memory_after m k c

    abbrev p₁ : Process
    p₁ = ready.process

    ended : (air : Bool) (x : Option Sending) (h₂ h₃ : ts.HarqProcess) → on_air ready.acked gap p₁ ≡ air → x ≡ sending_if air (sending_by t k m₁ p₁) → Like su (t + 1) m₁ k h₂ (cond air (advanced su p₁) p₁) → ts.Flushes su h₂ h₃ → Carried c x h₃
    ended air x h₂ h₃ e told like₂ fl = (
      told ∙ ap (λ a. sending_if a (sending_by t k m₁ p₁)) (sym e) ∙ sym ready.trial.told,
      subst (Like su (t + 1) m₁ k h₃) (sym (transmitted_by su air p₁) ∙ ap (λ a. transmitted su a p₁) (sym e) ∙ sym ready.trial.left)
          (flushes_sound su (t + 1) m₁ k h₂ (cond air (advanced su p₁) p₁) bounds like₂ h₃ fl),
    )

  pub carries_sound : (r : ts.Request) (x : Option Sending) (h' : ts.HarqProcess) (c : Course) → ts.CarriesOut su t k gap h r x h' → Matches su p r c → Short r → Carried c x h'
  carries_sound r x h' c ts.nothing e short = subst (λ c. Carried c None h) (sym e.1) (refl, like)
  carries_sound r x h' c (ts.generated r₁ h₁ h₂ h₃ x₁ pr gen fl) e short =
      let ready : Prepared su t m k gap whole klt h₁ true c = prepares_sound su t m k gap whole klt h p like index r h₁ true c pr e short in
      let g = generates_sound su t (memory_after m k c) k gap h₁ ready.process ready.like ready.index own x h₂ gen in
      ended c h₁ true ready (on_air false gap ready.process) x h₂ h' (ap (λ a. on_air a gap ready.process) ready.kept_back) g.0 g.1 fl
  carries_sound r x h' c (ts.not_generated r₁ h₁ h₂ pr fl) e short =
      let ready : Prepared su t m k gap whole klt h₁ false c = prepares_sound su t m k gap whole klt h p like index r h₁ false c pr e short in
      ended c h₁ false ready false None h₁ h' (ap (λ a. on_air a gap ready.process) ready.kept_back) refl ready.like fl
