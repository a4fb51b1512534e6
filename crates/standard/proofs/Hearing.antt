-- The HARQ feedback of a TTI: what the relations make of it, the answer makes of the cell's processes.
use Rattle.std.proofs.Common.{◌≡◌, ℕ, ◌+◌, ◌<◌, Bool, true, false, cond, ◌⊎◌, List, length, Some, None, Option, sym, refl, ap, ◌∙◌, subst, inl, inr, arith, get_or-set_other, get_or-set_same}
use Rattle.std.proofs.lemmas.Bool.{both_ways, cases_eq}
use Rattle.terms.specs.declared.setup.CellKind.{CellKind}
use Rattle.terms.specs.declared.setup.CellKind.TheVariants.{Plain, Bundled, Asynchronous}
use Rattle.terms.specs.declared.setup.Setup.{Setup}
use Rattle.terms.specs.declared.process.Feedback.{Feedback}
use Rattle.terms.specs.declared.process.Feedback.TheVariants.{Ack}
use Rattle.terms.specs.declared.process.Process.{Process}
use Rattle.rules.specs.Process.{idle, synchronous, hears, with_feedback, feedback_heard}
use Rattle.rules.specs.Entity.{process_at, answering}
use Rattle.rules.specs.Subframe.{heard_at}
use Rattle.runs.proofs.Amends.{none_some, some_inj}
use Rattle.standard.specs.Ts36321 as ts
use Rattle.standard.proofs.Likeness.{Due, Like, due_now, now_due, due_kept, due_over}

module _ (kd : CellKind) (t : ℕ) (gap : Bool) (a : Option Feedback) (ps : List Process) (k : ℕ) (eight : length ps ≡ 8) (lt : k < 8) where
  abbrev before : Process
  before = process_at ps k

  abbrev after : Process
  after = process_at (heard_at (answering kd t) gap a ps) k

  -- an answer falls for process k
  falls_here : answering kd t ≡ Some k → after ≡ hears gap a before
  falls_here e =
      let klt : k < length ps = omega arith in
      ap (λ o. process_at (heard_at o gap a ps) k) e ∙ get_or-set_same ps k (hears gap a before) idle klt

  -- an answer falls for another process, or for none
  falls_elsewhere : (answering kd t ≡ Some k → ⊥) → after ≡ before
  falls_elsewhere ne = go (answering kd t) refl
    where
      go : (o : Option ℕ) → answering kd t ≡ o → process_at (heard_at o gap a ps) k ≡ before
      go None e = refl
      go (Some j) e = get_or-set_other ps j k (hears gap a (process_at ps j)) idle (λ same. ne (e ∙ ap Some (sym same)))

  module _ (f : Option ℕ) (due : Due kd t k f before.awaits_answer) where
    -- the time of its feedback
    pub heard_now : f ≡ Some t → after ≡ with_feedback before (feedback_heard gap before.from_msg3 a before.harq_feedback)
    heard_now e =
        let d = now_due kd t k f before.awaits_answer due e in
        falls_here d.1 ∙ ap (λ b. cond b (with_feedback before (feedback_heard gap before.from_msg3 a before.harq_feedback)) before) d.0

    -- any other time
    pub not_heard : (f ≡ Some t → ⊥) → after ≡ before
    not_heard ne = go before.awaits_answer refl (answering kd t) refl
      where
        go : (x : Bool) → before.awaits_answer ≡ x → (o : Option ℕ) → answering kd t ≡ o → after ≡ before
        go true e o q = falls_elsewhere (λ z. ne (due_now kd t k f (subst (Due kd t k f) e due) z))
        go false e None q = falls_elsewhere (λ z. none_some (sym q ∙ z))
        go false e (Some j) q = split (cases_eq j k)
          where
            split : (j ≡ k) ⊎ (j ≡ k → ⊥) → after ≡ before
            split (inl same) = falls_here (q ∙ ap Some same) ∙ ap (λ b. cond b (with_feedback before (feedback_heard gap before.from_msg3 a before.harq_feedback)) before) e
            split (inr ne) = falls_elsewhere (λ z. ne (some_inj (sym q ∙ z)))

never_due : (kd : CellKind) (t k : ℕ) (f : Option ℕ) (a : Bool) → synchronous kd ≡ false → Due kd t k f a → f ≡ Some t → ⊥
never_due Plain t k f a z d e = both_ways true z refl
never_due Bundled t k f a z d e = both_ways true z refl
never_due Asynchronous t k f true z d e = d.4
never_due Asynchronous t k f false z d e = let lt = d t e in omega arith

module _ (su : Setup) (t : ℕ) (m : List ℕ) (ps : List Process) (k : ℕ) (eight : length ps ≡ 8) (lt : k < 8) (i : ts.TTI) (now : i.time ≡ t) (h : ts.HarqProcess) (like : Like su t m k h (process_at ps k)) where
  abbrev p : Process
  p = process_at ps k

  -- the feedback is what the rules have
  feedback_same : (g : Feedback) → h.feedback_time ≡ Some i.time → feedback_heard i.gap p.from_msg3 i.feedback p.harq_feedback ≡ g
      → Like su (t + 1) m k (ts.heard h g) (process_at (heard_at (answering su.kind t) i.gap i.feedback ps) k)
  feedback_same g e q =
      let e' : h.feedback_time ≡ Some t = e ∙ ap Some now in
      subst (Like su (t + 1) m k (ts.heard h g)) (sym (heard_now su.kind t i.gap i.feedback ps k eight lt h.feedback_time like.due e'))
      (record {
        buffer = like.buffer;
        from_msg3 = like.from_msg3;
        count = like.count;
        feedback = sym q;
        index = like.index;
        mcs = like.mcs;
        resource = like.resource;
        compared = like.compared;
        due = due_over su.kind t k h.feedback_time e';
        resting = λ z. absurd (never_due su.kind t k h.feedback_time p.awaits_answer z like.due e');
      })

  at_other_time : (h.feedback_time ≡ Some i.time → ⊥) → Like su (t + 1) m k (ts.heard h h.HARQ_FEEDBACK) (process_at (heard_at (answering su.kind t) i.gap i.feedback ps) k)
  at_other_time ne =
      let ne' : h.feedback_time ≡ Some t → ⊥ = λ e. ne (e ∙ ap Some (sym now)) in
      subst (Like su (t + 1) m k h) (sym (not_heard su.kind t i.gap i.feedback ps k eight lt h.feedback_time like.due ne'))
      (record {
        buffer = like.buffer;
        from_msg3 = like.from_msg3;
        count = like.count;
        feedback = like.feedback;
        index = like.index;
        mcs = like.mcs;
        resource = like.resource;
        compared = like.compared;
        due = due_kept su.kind t k h.feedback_time p.awaits_answer like.due ne';
        resting = like.resting;
      })

  pub like_heard : (f : Feedback) → ts.Hears i h f → Like su (t + 1) m k (ts.heard h f) (process_at (heard_at (answering su.kind t) i.gap i.feedback ps) k)
  like_heard f (ts.feedback_received f₁ e gap a) = feedback_same f₁ e (rw (gap, a) refl)
  like_heard f (ts.gap_at_feedback e gap m3) = feedback_same Ack e (let q : p.from_msg3 ≡ false = sym like.from_msg3 ∙ m3 in rw (gap, q) refl)
  like_heard f (ts.gap_at_msg3_feedback e gap m3) = feedback_same h.HARQ_FEEDBACK e (let q : p.from_msg3 ≡ true = sym like.from_msg3 ∙ m3 in rw (gap, q) (sym like.feedback))
  like_heard f (ts.no_feedback e gap a) = feedback_same h.HARQ_FEEDBACK e (rw (gap, a) (sym like.feedback))
  like_heard f (ts.other_time ne) = at_other_time ne
