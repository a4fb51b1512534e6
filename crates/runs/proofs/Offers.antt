-- A subframe sees of its source what it offers for the size that is asked for, and nothing else.
use Rattle.std.proofs.Common.{◌≡◌, ℕ, ◌≤◌, Bool, cond, eqb, leb, List, length, Some, None, Option, sym, refl, ap}
use Rattle.std.proofs.lemmas.Bool.{eq-eqb, le-leb, and_from}
use Rattle.terms.specs.declared.setup.Setup.{Setup}
use Rattle.terms.specs.declared.grant.GrantInForce.{GrantInForce}
use Rattle.terms.specs.declared.process.Process.{Process}
use Rattle.terms.specs.declared.state.State.{State}
use Rattle.terms.specs.declared.decision.Decision.{Decision}
use Rattle.terms.specs.declared.decision.Decision.TheVariants as decision
use Rattle.rules.specs.Reception.{grant_in_force, stored_after, referred}
use Rattle.rules.specs.Entity.{process_at, process_of, answering, decided, msg3_taken, offered, obtained_by, begun, course, asked, asked_by}
use Rattle.rules.specs.Questions.{questioned}
use Rattle.rules.specs.Setup.{within}
use Rattle.rules.specs.Subframe.{Given, heard, with_configured, answer_events, turn_done, after_events, subframe_done, unless_refused, subframe}
use Rattle.runs.specs.Runs.{fitting_packet, fitting}
use Rattle.runs.proofs.Follow.{done_by}

-- what a source may offer for a size
abbrev pub Fits : ℕ → List ℕ → Type 0
Fits n b = (1 ≤ n) × (n ≤ 645) × (length b ≡ n)

pub fitting_same : (n : ℕ) (o : Option (List ℕ)) → ((b : List ℕ) → o ≡ Some b → Fits n b) → fitting_packet n o ≡ o
fitting_same n None h = refl
fitting_same n (Some b) h =
    let f = h b refl in
    ap (λ x. cond x (Some b) None) (and_from (eqb (length b) n) (within 1 645 n) (eq-eqb (length b) n f.2) (and_from (leb 1 n) (leb n 645) (le-leb 1 n f.0) (le-leb n 645 f.1)))

module _ (su : Setup) (m : List ℕ) (offers offers' : ℕ → Option (List ℕ)) where
  course_same : (d : Decision) (msg3 : Option ℕ) (p : Process) → ((n : ℕ) → asked d msg3 ≡ Some n → offers n ≡ offers' n) → course su d msg3 m offers p ≡ course su d msg3 m offers' p
  course_same (decision.Rest o) msg3 p h = refl
  course_same (decision.Adaptive g) msg3 p h = refl
  course_same decision.NonAdaptive msg3 p h = refl
  course_same (decision.New g) msg3 p h = ap (begun su g p) (go (msg3_taken g.reception msg3) h)
    where
      go : (o : Option ℕ) → ((n : ℕ) → asked_by o g.size ≡ Some n → offers n ≡ offers' n) → obtained_by o g.size m offers ≡ obtained_by o g.size m offers'
      go None h = ap offered (h g.size refl)
      go (Some n) h = refl

  turn_same : (st : State) (gap : Bool) (g : Option GrantInForce) (o : Option ℕ) → ((n : ℕ) → (turn_done su st m gap offers g o).asked ≡ Some n → offers n ≡ offers' n) → turn_done su st m gap offers g o ≡ turn_done su st m gap offers' g o
  turn_same st gap g None h = refl
  turn_same st gap g (Some k) h = ap (done_by su st m gap g k (asked (decided su g p) st.msg3)) (course_same (decided su g p) st.msg3 p h)
    where
      p : Process
      p = referred g (process_at st.processes k)

-- a subframe over another source
abbrev pub with_offers : Given → (ℕ → Option (List ℕ)) → Given
with_offers i offers = record { ready = i.ready; gap = i.gap; answer = i.answer; grant = i.grant; offers = offers }

pub subframe_same : (su : Setup) (st : State) (m : List ℕ) (i : Given) (offers : ℕ → Option (List ℕ)) → ((n : ℕ) → (subframe_done su st m i).asked ≡ Some n → i.offers n ≡ offers n)
    → subframe su st m i ≡ subframe su st m (with_offers i offers)
subframe_same su st m i offers h =
    ap (λ d. unless_refused (questioned su st (length m) i.ready i.gap i.answer i.grant) (after_events (answer_events (answering su.kind st.clock) st.clock i.answer i.gap) d))
    (turn_same su m i.offers offers s₂ i.gap g (process_of su.kind st.clock g st.repetition) h)
  where
    g : Option GrantInForce
    g = grant_in_force su st.clock st.configured i.grant

    s₂ : State
    s₂ = with_configured (heard su st i.gap i.answer) (stored_after st.clock st.configured i.grant)

-- where what is offered for the size that is asked for fits, the subframe is that of a call
pub subframe_fitting : (su : Setup) (st : State) (m : List ℕ) (i : Given) → ((n : ℕ) → (subframe_done su st m i).asked ≡ Some n → (b : List ℕ) → i.offers n ≡ Some b → Fits n b)
    → subframe su st m i ≡ subframe su st m (with_offers i (fitting i.offers))
subframe_fitting su st m i h = subframe_same su st m i (fitting i.offers) (λ n e. sym (fitting_same n (i.offers n) (h n e)))
