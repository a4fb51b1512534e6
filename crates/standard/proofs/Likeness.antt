-- When a MAC entity of the standard and a cell are alike.
use Rattle.std.proofs.Common.{◌≡◌, ℕ, ◌+◌, ◌-◌, ◌/◌, ◌%◌, ◌<◌, ◌≤◌, Bool, true, false, cond, ◌&&◌, eqb, leb, List, length, Some, None, Option, sym, refl, ap, ◌∙◌, subst, arith}
use Rattle.std.proofs.lemmas.Bool.{eqb-true, leb-true, eq-eqb, le-leb, and_from}
use Rattle.terms.specs.declared.setup.CellKind.{CellKind}
use Rattle.terms.specs.declared.setup.CellKind.TheVariants.{Plain, Bundled, Asynchronous}
use Rattle.terms.specs.declared.setup.Setup.{Setup}
use Rattle.terms.specs.declared.grant.Reception.{Reception}
use Rattle.terms.specs.declared.grant.Reception.TheVariants.{CRnti, TemporaryCRnti, SpsRetransmission, Configured, RandomAccessResponse}
use Rattle.terms.specs.declared.grant.GrantInForce.{GrantInForce}
use Rattle.terms.specs.declared.grant.ConfiguredGrant.{ConfiguredGrant}
use Rattle.terms.specs.declared.process.Feedback.TheVariants.{Nack}
use Rattle.terms.specs.declared.process.Process.{Process}
use Rattle.terms.specs.declared.state.Repetition.{Repetition}
use Rattle.rules.specs.Memory.{part}
use Rattle.rules.specs.Process.{synchronous}
use Rattle.rules.specs.Entity.{process_at, answering}
use Rattle.rules.specs.Invariant.{Sound}
use Rattle.runs.specs.Runs.{World}
use Rattle.runs.proofs.Amends.{none_some, some_inj}
use Rattle.standard.specs.Ts36321 as ts

-- the packet in stretch k of packet memory, by its length
abbrev pub held_in : List ℕ → ℕ → Option ℕ → Option (List ℕ)
held_in m k None = None
held_in m k (Some n) = Some (part m k n)

-- the reference NDI, by the previous grant and the NDI of the previous transmission
abbrev pub reference : Option ts.Received → Option ℕ → Option ℕ
reference None n = n
reference (Some ts.for_c_rnti) n = n
reference (Some ts.for_temporary_c_rnti) n = n
reference (Some ts.for_sps_c_rnti) n = None
reference (Some ts.in_random_access_response) n = None
reference (Some ts.configured) n = None

-- the answers of process k fall in subframe u
abbrev pub Falls : CellKind → ℕ → ℕ → Type 0
Falls Plain u k = (4 ≤ u) × ((u - 4) % 8 ≡ k)
Falls Bundled u k = (4 ≤ u) × (u % 4 ≡ 3) × ((u - 4) % 16 / 4 ≡ k)
Falls Asynchronous u k = ⊥

-- after how many subframes the answers of a process fall again
abbrev pub cycle : CellKind → ℕ
cycle Plain = 8
cycle Bundled = 16
cycle Asynchronous = 0

-- before the call at t: where an answer is awaited, the feedback falls in the next subframe of the process's answers; else it is over
abbrev pub Due : CellKind → ℕ → ℕ → Option ℕ → Bool → Type 0
Due kd t k f true = (u : ℕ) × (f ≡ Some u) × (t ≤ u) × (u < t + cycle kd) × Falls kd u k
Due kd t k f false = (u : ℕ) → f ≡ Some u → u < t

-- process k of the standard, and the cell's with packet memory m before the call at t
pub record Like (su : Setup) (t : ℕ) (m : List ℕ) (k : ℕ) (h : ts.HarqProcess) (p : Process) : Type 0 where
  pub buffer : h.buffer ≡ held_in m k p.buffer
  pub from_msg3 : h.from_msg3 ≡ p.from_msg3
  pub count : h.CURRENT_TX_NB ≡ p.current_tx_nb
  pub feedback : h.HARQ_FEEDBACK ≡ p.harq_feedback
  pub index : h.CURRENT_IRV ≡ p.current_irv.0
  pub mcs : h.MCS ≡ p.mcs
  pub resource : h.resource ≡ p.resource
  pub compared : reference h.previous_grant h.previous_ndi ≡ p.reference_ndi
  pub due : Due su.kind t k h.feedback_time p.awaits_answer
  -- what an asynchronous process does not maintain
  pub resting : synchronous su.kind ≡ false → (p.harq_feedback ≡ Nack) × (p.current_tx_nb ≡ 0)

abbrev pub reception : ts.Received → ℕ → Reception
reception ts.for_c_rnti n = CRnti n
reception ts.for_temporary_c_rnti n = TemporaryCRnti
reception ts.for_sps_c_rnti n = SpsRetransmission
reception ts.in_random_access_response n = RandomAccessResponse
reception ts.configured n = Configured

-- a delivered grant as the cell has it in force
abbrev pub in_force : ts.UplinkGrant → GrantInForce
in_force g = record { reception = reception g.received g.NDI; mcs = g.MCS; version = record { 0 = g.redundancy_version }; process = g.identifier; repetitions = g.UL_REPETITION_NUMBER; resource = g.resource; size = g.size }

abbrev pub in_force_if : Option ts.UplinkGrant → Option GrantInForce
in_force_if None = None
in_force_if (Some g) = Some (in_force g)

abbrev pub stored_one : ConfiguredGrant → ts.Configured
stored_one c = record { start = c.since; MCS = c.mcs; resource = c.resource; size = c.size }

abbrev pub stored_as : Option ConfiguredGrant → Option ts.Configured
stored_as None = None
stored_as (Some c) = Some (stored_one c)

-- the bundle under way and the repetitions, before the call at t
abbrev pub BundledAlike : ℕ → Option ts.Bundle → Option Repetition → Type 0
BundledAlike t None None = Unit {0}
BundledAlike t None (Some r) = ⊥
BundledAlike t (Some b) None = ⊥
BundledAlike t (Some b) (Some r) = (b.process ≡ r.process) × (b.start + b.number ≡ r.until) × (b.start ≤ t)

pub record Alike (su : Setup) (mac : ts.MAC) (w : World) : Type 0 where
  pub sound : Sound su w.state
  pub eight : length w.state.processes ≡ 8
  pub like : (k : ℕ) → k < 8 → Like su w.state.clock w.memory k (mac.process k) (process_at w.state.processes k)
  pub configured : mac.configured ≡ stored_as w.state.configured
  pub bundle : BundledAlike w.state.clock mac.bundle w.state.repetition
  pub Msg3 : mac.Msg3 ≡ held_in w.memory 8 w.state.msg3

-- The answers.
pub falls_from : (kd : CellKind) (t k : ℕ) → answering kd t ≡ Some k → Falls kd t k
falls_from Plain t k e = go (leb 4 t) refl e
  where
    go : (b : Bool) → leb 4 t ≡ b → cond b (Some ((t - 4) % 8)) None ≡ Some k → Falls Plain t k
    go true z e = (leb-true 4 t z, some_inj e)
    go false z e = absurd (none_some e)
falls_from Bundled t k e = go (leb 4 t) (eqb (t % 4) 3) refl refl e
  where
    go : (b c : Bool) → leb 4 t ≡ b → eqb (t % 4) 3 ≡ c → cond (b && c) (Some (((t - 4) % 16) / 4)) None ≡ Some k → Falls Bundled t k
    go true true z y e = (leb-true 4 t z, eqb-true (t % 4) 3 y, some_inj e)
    go true false z y e = absurd (none_some e)
    go false c z y e = absurd (none_some e)
falls_from Asynchronous t k e = absurd (none_some e)

pub falls_to : (kd : CellKind) (t k : ℕ) → Falls kd t k → answering kd t ≡ Some k
falls_to Plain t k f = ap (λ b. cond b (Some ((t - 4) % 8)) None) (le-leb 4 t f.0) ∙ ap Some f.1
falls_to Bundled t k f = ap (λ b. cond b (Some (((t - 4) % 16) / 4)) None) (and_from (leb 4 t) (eqb (t % 4) 3) (le-leb 4 t f.0) (eq-eqb (t % 4) 3 f.1)) ∙ ap Some f.2
falls_to Asynchronous t k f = absurd f

once_a_cycle : (kd : CellKind) (t u k : ℕ) → t ≤ u → u < t + cycle kd → Falls kd u k → Falls kd t k → u ≡ t
once_a_cycle Plain t u k le lt f g = let a = f.1 in let b = g.1 in let c = f.0 in let d = g.0 in omega arith
once_a_cycle Bundled t u k le lt f g = bundles (u - 4) (t - 4) (omega arith) (omega arith) (f.2 ∙ sym g.2)
  where
    a : (u - 4) % 4 ≡ 3
    a = let x = f.0 in let y = f.1 in omega arith

    b : (t - 4) % 4 ≡ 3
    b = let x = g.0 in let y = g.1 in omega arith

    bundles : (x y : ℕ) → x ≡ u - 4 → y ≡ t - 4 → (x % 16) / 4 ≡ (y % 16) / 4 → u ≡ t
    bundles x y ex ey q = let x4 = f.0 in let y4 = g.0 in let p = a in let r = b in omega arith
once_a_cycle Asynchronous t u k le lt f g = absurd f

-- the time of the feedback is the subframe in which an awaited answer falls
pub due_now : (kd : CellKind) (t k : ℕ) (f : Option ℕ) → Due kd t k f true → answering kd t ≡ Some k → f ≡ Some t
due_now kd t k f d e = d.1 ∙ ap Some (once_a_cycle kd t d.0 k d.2 d.3 d.4 (falls_from kd t k e))

pub now_due : (kd : CellKind) (t k : ℕ) (f : Option ℕ) (a : Bool) → Due kd t k f a → f ≡ Some t → (a ≡ true) × (answering kd t ≡ Some k)
now_due kd t k f true d e = let s : d.0 ≡ t = some_inj (sym d.1 ∙ e) in (refl, falls_to kd t k (subst (λ u. Falls kd u k) s d.4))
now_due kd t k f false d e = let lt = d t e in absurd (omega arith)

-- the clock gains 1
pub due_kept : (kd : CellKind) (t k : ℕ) (f : Option ℕ) (a : Bool) → Due kd t k f a → (f ≡ Some t → ⊥) → Due kd (t + 1) k f a
due_kept kd t k f true d ne =
    let apart : d.0 ≡ t → ⊥ = λ s. ne (d.1 ∙ ap Some s) in
    let le = d.2 in
    let lt = d.3 in
    (d.0, d.1, omega arith, omega arith, d.4)
due_kept kd t k f false d ne = λ u e. let lt = d u e in omega arith

pub due_over : (kd : CellKind) (t k : ℕ) (f : Option ℕ) → f ≡ Some t → Due kd (t + 1) k f false
due_over kd t k f e = λ u q. let s : t ≡ u = some_inj (sym e ∙ q) in omega arith

-- the subframe of process k, in a cell of each kind
abbrev pub Owns : CellKind → ℕ → ℕ → Type 0
Owns Plain t k = t % 8 ≡ k
Owns Bundled t k = t % 16 / 4 ≡ k
Owns Asynchronous t k = Unit {0}

-- a sending brings the next feedback
pub due_sent : (kd : CellKind) (t k : ℕ) (before f : Option ℕ) → Owns kd t k → synchronous kd ≡ true → ts.FeedbackFalls t before kd f → Due kd (t + 1) k f true
due_sent Plain t k before f own z ts.four_later = (t + 4, refl, omega arith, omega arith, (omega arith, omega arith))
due_sent Bundled t k before f own z (ts.after_last last le lt e) = (last + 4, refl, omega arith, omega arith, (omega arith, omega arith, omega arith))
due_sent Asynchronous t k before f own z ts.not_applicable = let q : ◌≡◌ {A = ℕ} 0 1 = cc in absurd (omega arith)
