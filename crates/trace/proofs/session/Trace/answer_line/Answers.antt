use Rattle.std.proofs.Common.{◌++◌, ◌∷◌, vec_items, OnOk, Ok, Err, Result, refl, ap, sym, ◌∙◌}
use Rattle.std.proofs.lemmas.Result.{on_ok_weaker}
use Rattle.trace.specs.Answers.{answers_on}
use Rattle.trace.specs.Sessions.{standing_of, standing_in}
use Rattle.trace.proofs.Answering.{on_session, on_begin}
use Rattle.trace.proofs.session.Trace.answer_line.Goals as goal

both : {X Y A B C : Type 0} (r : Result X Y) → (A → B → C) → OnOk r A → OnOk r B → OnOk r C
both (Ok x) f a b = f a b
both (Err e) f a b = tt

pub returns-in-Some : goal.returns-in-Some
returns-in-Some c =
    let s = standing_in c.args.self.now.session in
    both c.answer_line.result (λ session text later. sym (on_session c.args.self.now.records.now s (standing_of c.in-Some.session) (standing_of c.answer_line.new.self) (vec_items c.args.out.now) (vec_items c.answer_line.new.out) c.args.line.now _ (c.args.line.now ∷ later) later refl (ap standing_in c.in-Some.is) session text refl))
    c.answer_line.ensures.session c.answer_line.ensures.text

pub returns-in-None : goal.returns-in-None
returns-in-None c =
    let s = standing_in c.args.self.now.session in
    let t = standing_in c.begin.new.self.session in
    on_ok_weaker c.begin.result
    (λ b later. sym (on_begin c.args.self.now.records.now s t (vec_items c.args.out.now) (vec_items c.begin.new.out) c.args.line.now _ (c.args.line.now ∷ later) later refl (ap standing_in c.in-None.is) b refl)
    ∙ ap (λ r. vec_items c.begin.new.out ++ answers_on r t later) (sym c.begin.ensures.records))
    c.begin.ensures.begun
