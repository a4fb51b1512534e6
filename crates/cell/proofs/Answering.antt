-- A subframe call as a whole: what it answers and leaves, the promise over whole runs, and what TS 36.321 has the MAC entity transmit.
use Rattle.std.proofs.Common.{◌≡◌, ℕ, ◌+◌, Bool, List, length, Some, None, Ok, Err, Option, Result, sym, refl, ap, ◌∙◌, subst, arith}
use Rattle.terms.specs.Sendings.{Sending}
use Rattle.terms.specs.declared.answer.Refusal.{Refusal}
use Rattle.terms.specs.declared.answer.Reply.{Reply}
use Rattle.terms.specs.declared.setup.Setup.{Setup}
use Rattle.terms.specs.declared.grant.Grant.{Grant}
use Rattle.terms.specs.declared.grant.GrantInForce.{GrantInForce}
use Rattle.terms.specs.declared.process.Feedback.{Feedback}
use Rattle.terms.specs.declared.state.State.{State}
use Rattle.ports.specs.Radio.{Radioed, has_room, told}
use Rattle.ports.specs.Source.{FitsAsked}
use Rattle.rules.specs.Reception.{grant_in_force, stored_after}
use Rattle.rules.specs.Entity.{process_of, answering}
use Rattle.rules.specs.Questions.{questioned}
use Rattle.rules.specs.Subframe.{Given, Done, heard, with_configured, answer_events, after_events, turn_done, subframe_done, unless_refused, subframe}
use Rattle.runs.specs.Runs.{World, Brought, Call, fitting, subframe_step, step_of, step, Accepted}
use Rattle.runs.specs.Promise.{KeepsPromise}
use Rattle.runs.proofs.Offers.{with_offers, subframe_fitting}
use Rattle.standard.proofs.Conforming.{sends_by_the_standard}
use Rattle.cell.specs.Calls.{After, after_done, after_result, after_subframe}
use Rattle.cell.specs.Promises.{world, brought_over, subframe_over, latest_sent, latest_after, ByTheStandard}
use Rattle.cell.proofs.Calling.{Stages}
use Rattle.cell.proofs.Promising.{keeps, fits_asked, done_latest}

-- a radio that was told one thing was not told another
told_once : (r : Radioed) (x y : Option Sending) → told r x ≡ told r y → y ≡ x
told_once r None None e = refl
told_once r None (Some y) e = let n : r.count ≡ r.count + 1 = ap (λ z. z.count) e in absurd (omega arith)
told_once r (Some x) None e = let n : r.count + 1 ≡ r.count = ap (λ z. z.count) e in absurd (omega arith)
told_once r (Some x) (Some y) e = sym (ap (λ z. z.latest) e)

module _ {S : Type 0} (offers : S → ℕ → Option (List ℕ)) (used : S → ℕ → S) (su : Setup) (st : State) (m : List ℕ) (r : Radioed) (s : S) (gaps : ℕ → Bool) (a : Option Feedback) (g : Option Grant) (accepted : Accepted su) where
  abbrev call : Call
  call = subframe_over a g gaps (offers s) r

  abbrev over : Brought
  over = brought_over a g gaps (offers s) r

  abbrev here : World
  here = world st m r.count

  abbrev asked_for : Given
  asked_for = record { ready = has_room r; gap = gaps st.clock; answer = a; grant = g; offers = offers s }

  abbrev answers : Result (Unit {0}) Refusal
  answers = questioned su st (length m) (has_room r) (gaps st.clock) a g

  -- the subframe over the source, and over what of it fits
  abbrev does : Done
  does = subframe_done su st m asked_for

  abbrev does_fitting : Done
  does_fitting = subframe_done su st m (with_offers asked_for (fitting (offers s)))

  -- what is promised of what a subframe call answers and leaves
  pub record Answered (x : After S (Result Reply Refusal)) : Type 0 where
    pub whole : x ≡ after_subframe offers used su st m r s (gaps st.clock) a g
    pub promise : KeepsPromise su here call (world x.state x.memory x.radio.count)
    pub latest : x.radio.latest ≡ latest_after su here call r.latest
    pub standard : ByTheStandard su here over x.answer r x.radio

  world_of : (d : Result Done Refusal) → let x = after_result offers used st m r s d in (step_of here (subframe_step here d)).world ≡ world x.state x.memory x.radio.count
  world_of (Err e) = refl
  world_of (Ok d) = go d.sending
    where
      go : (x : Option Sending) → (step_of here (subframe_step here (Ok (record { reply = d.reply; state = d.state; memory = d.memory; asked = d.asked; sending = x; events = d.events })))).world ≡ world d.state d.memory (told r x).count
      go None = refl
      go (Some x) = refl

  latest_of : (q : Result (Unit {0}) Refusal) → (after_result offers used st m r s (unless_refused q does)).radio.latest ≡ latest_sent (step_of here (subframe_step here (unless_refused q does))).events r.latest
  latest_of (Err z) = refl
  latest_of (Ok u) = done_latest r su (with_configured (heard su st (gaps st.clock) a) (stored_after st.clock st.configured g)) m (gaps st.clock) (offers s) in_force (process_of su.kind st.clock in_force st.repetition) (answering su.kind st.clock) st.clock a
    where
      in_force : Option GrantInForce
      in_force = grant_in_force su st.clock st.configured g

  -- where the call is admitted, what the source is asked for fits
  module _ (fit : answers ≡ Ok tt → FitsAsked (offers s) does.asked) where
    -- the call over the source is the call over what of it fits
    same : subframe su st m asked_for ≡ subframe su st m (with_offers asked_for (fitting (offers s)))
    same = go answers refl
      where
        go : (q : Result (Unit {0}) Refusal) → answers ≡ q → unless_refused answers does ≡ unless_refused answers does_fitting
        go (Err e) z = ap (λ q. unless_refused q does) z ∙ ap (λ q. unless_refused q does_fitting) (sym z)
        go (Ok u) z = subframe_fitting su st m asked_for (fits_asked (offers s) does.asked (fit z))

    -- the step of the run is that of the call's own rules
    same_step : step su here call ≡ step_of here (subframe_step here (subframe su st m asked_for))
    same_step = ap (λ d. step_of here (subframe_step here d)) (sym same)

    followed : (q : Result (Unit {0}) Refusal) → answers ≡ q → let x = after_result offers used st m r s (unless_refused q does) in ByTheStandard su here over x.answer r x.radio
    followed (Err e) z = refl
    followed (Ok u) z =
        let both : Ok does ≡ Ok does_fitting = subst (λ q. unless_refused q does ≡ unless_refused q does_fitting) z same in
        let one : does ≡ does_fitting = cc in
        sends_by_the_standard su here over (λ x. told r does.sending ≡ told r x) accepted (sym z) (ap (λ d. told r d.sending) one)
        (λ x e. told_once r does.sending x e ∙ ap (λ d. d.sending) one)

    answered : (x : After S (Result Reply Refusal)) → x ≡ after_subframe offers used su st m r s (gaps st.clock) a g → Answered x
    answered x e = record {
      whole = e;
      promise = keeps su here (world x.state x.memory x.radio.count) call accepted
          (ap (λ z. z.world) same_step ∙ world_of (subframe su st m asked_for) ∙ ap (λ z. world z.state z.memory z.radio.count) (sym e));
      latest = ap (λ z. z.radio.latest) e ∙ latest_of answers ∙ ap (λ z. latest_sent z.events r.latest) (sym same_step);
      standard = subst (λ z. ByTheStandard su here over z.answer r z.radio) (sym e) (followed answers refl);
    }

  -- a refused call leaves everything as it was
  pub refused : (e : Refusal) → Err e ≡ answers → Answered (record { answer = Err e; state = st; memory = m; radio = r; source = s })
  refused e h = answered (λ z. cc) _ (ap (λ q. after_result offers used st m r s (unless_refused q does)) h)

  -- an admitted call, by its stages and what followed them
  module _ (z : Stages su st (length m) (has_room r) (gaps st.clock) a g) (o : Option ℕ) (eo : o ≡ process_of su.kind st.clock z.in_force z.hears.repetition) where
    abbrev turns : Done
    turns = turn_done su (with_configured z.hears z.stores) m (gaps st.clock) (offers s) z.in_force o

    -- the stages together are the call
    staged : after_events (answer_events (answering su.kind st.clock) st.clock a (gaps st.clock)) turns ≡ does
    staged = rw (eo, z.stores_is, z.in_force_is, z.hears_is)

    pub done : FitsAsked (offers s) turns.asked → (x : After S Reply) → x ≡ after_done offers used r s turns.reply turns → Answered (record { answer = Ok x.answer; state = x.state; memory = x.memory; radio = x.radio; source = x.source })
    done fit x e = answered (λ q. subst (λ (d : Done). FitsAsked (offers s) d.asked) staged fit) _ (rw e (ap (λ d. after_done offers used r s (Ok d.reply) d) staged ∙ ap (λ q. after_result offers used st m r s (unless_refused q does)) z.yes))
