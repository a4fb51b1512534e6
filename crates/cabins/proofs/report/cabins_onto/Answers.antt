use Rattle.std.proofs.Common.{◌++◌, inl, inr, vec_items, refl, ap, ◌∙◌}
use Rattle.std.specs.Iterator.Adapters.{zip_first, zip_second}
use Rattle.std.specs.Slice.Iter.{iter_rest}
use Rattle.std.proofs.lemmas.List.{append_assoc}
use Rattle.std.proofs.lemmas.Slice.{pushed}
use Rattle.frames.specs.Walks.{lines_left}
use Rattle.cabins.specs.Entries.{word_of}
use Rattle.cabins.specs.Texts.{cabin_text}
use Rattle.cabins.proofs.Walking.{cabins_step, cabins_end}
use Rattle.cabins.proofs.report.cabins_onto.Goals as goal

pub loop-line-preserved : goal.loop-line-preserved
loop-line-preserved c =
    let v = vec_items c.loop-line.out in
    let l = word_of c.in-Some.line.now in
    let t = cabin_text c.in-Some.tally.now in
    let z = c.in-Some.ensures.steps in
    let a = pushed c.name_of.result.now refl c.in_ok-extend_from_slice.was c.extend_from_slice.ensures.items in
    let k = c.in_ok-append.ensures ∙ ap (λ y. y ++ t) (a ∙ ap (λ n. v ++ n) c.name_of.ensures) ∙ append_assoc v l t in
    cabins_step v (vec_items c.append.new.out) _ _ c.in-Some.line.now _ _ c.in-Some.tally.now _ z.0.0 z.1 k c.loop-line.invariant

pub returns : goal.returns
returns c =
    let z = c.in-None.ensures.steps in
    cabins_end _ (lines_left (zip_first c.loop-line.line-iterator)) (iter_rest (zip_second c.loop-line.line-iterator)) _ (elim z [ inl h ↦ inl h.1.0.0 | inr h ↦ inr h.1.0 ]) c.loop-line.invariant
