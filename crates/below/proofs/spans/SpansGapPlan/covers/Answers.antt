use Rattle.std.proofs.Common.{◌≡◌, ℕ, ◌<◌, Bool, true, false, List, length, MatchBool, refl, ◌∙◌, arith, rules, tests}
use Rattle.std.specs.List.{HoldsAt, AllWithin}
use Rattle.std.proofs.lemmas.List.{take_all}
use Rattle.std.proofs.lemmas.Iterator.{cases_from_any, YieldsList-from_slice}
use Rattle.std.proofs.lemmas.List.Recursion.{or_is, or_at}
use Rattle.below.specs.declared.spans.Span.{Span}
use Rattle.below.specs.Spans.{span_covers, spans_cover, CoveredBySome, CoveredByNone}
use Rattle.below.proofs.spans.SpansGapPlan.covers.Goals as goal

-- what an answer says of the spans one by one
told : (l : List Span) (t : ℕ) (r : Bool) → MatchBool r ((k : ℕ) × (k < length l) × HoldsAt (λ s. span_covers s t ≡ true) l k) (AllWithin (λ s. span_covers s t ≡ false) l 0 (length l)) → (r ≡ true → CoveredBySome l t) × (r ≡ false → CoveredByNone l t)
told l t true m = (λ _. let d = m.2 (record { from = 0; to = 0 }) in (m.0, (m.1, (search (rules, tests), search (rules, tests)))), λ e. cc)
told l t false m = (λ e. cc, λ _ k h. m k (record { from = 0; to = 0 }) (omega arith) h)

pub returns : goal.returns
unfolding spans_cover
returns c =
    let l = c.args.self.now.spans.now in
    let t = c.args.subframe in
    let m = told l t c.any.result (cases_from_any _ _ c.any.result (λ s. span_covers s t ≡ true) (λ s. span_covers s t ≡ false) c.any.ensures.ran (YieldsList-from_slice l (search (rules, take_all))) (λ x q k. search (rules, tests)) (λ x q k. search (rules, tests))) in
    let computed : c.any.result ≡ spans_cover l t = or_is (λ l. spans_cover l t) (λ s. span_covers s t) refl (λ _ _. refl) l (record { from = 0; to = 0 }) c.any.result (λ e. search rules) m.1 in
    record {
      computed = computed;
      some = m.0;
      none = m.1;
      every = λ s. computed ∙ or_at (λ l. spans_cover l t) (λ s. span_covers s t) refl (λ _ _. refl) l s.0 (record { from = 0; to = 0 }) s.1.0 (search rules);
    }
