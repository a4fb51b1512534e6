-- The answers so far and those still to come are all answers.
use Rattle.std.proofs.Common.{◌≡◌, ℕ, List, [], ◌∷◌, ◌++◌, Some, None, Ok, Err, Option, Result, sym, ap, ◌∙◌, append_assoc}
use Rattle.std.proofs.lemmas.List.{append-nil}
use Rattle.terms.specs.declared.answer.Refusal.{Refusal}
use Rattle.terms.specs.declared.state.State.{State}
use Rattle.rules.specs.Setup.{fresh_state}
use Rattle.frames.specs.Frames.{reads}
use Rattle.trace.specs.Standing.{Standing, Equipment, equipped, at_first, answered}
use Rattle.trace.specs.Texts.{refusal_text, setup_text}
use Rattle.trace.specs.Answers.{text_of, answers_from, answers_by, answers_before, answers_on, Begun}
use Rattle.trace.specs.Sessions.{equipment_of, opened}
use Rattle.trace.specs.declared.session.Equipped.{Equipped}

-- a text, and what is to come after it
moved : (v v' a r t : List ℕ) → v' ≡ v ++ a → v ++ (a ++ r) ≡ t → v' ++ r ≡ t
moved v v' a r t e h = ap (λ x. x ++ r) e ∙ append_assoc v a r ∙ h

-- a line after the set-up
pub on_session : (records : List ℕ) (o : Option Standing) (s s' : Standing) (v v' x t : List ℕ) (ls ls' : List (List ℕ)) → ls ≡ x ∷ ls' → o ≡ Some s → s' ≡ (answered s (reads x)).standing → v' ≡ v ++ text_of (answered s (reads x))
    → v ++ answers_on records o ls ≡ t → v' ++ answers_on records (Some s') ls' ≡ t
unfolding answers_from
on_session records o s s' v v' x t ls ls' el eo es ev h =
    ap (λ z. v' ++ answers_from z ls') es
    ∙ moved v v' (text_of (answered s (reads x))) (answers_from (answered s (reads x)).standing ls') t ev
    (ap (λ z. v ++ answers_from s z) (sym el) ∙ ap (λ z. v ++ answers_on records z ls) (sym eo) ∙ h)

-- a line before the set-up: it sets up, or it is refused
pub on_begin : (records : List ℕ) (o o' : Option Standing) (v v' x t : List ℕ) (ls ls' : List (List ℕ)) → ls ≡ x ∷ ls' → o ≡ None → Begun (equipped (reads x)) records o' o v v'
    → v ++ answers_on records o ls ≡ t → v' ++ answers_on records o' ls' ≡ t
unfolding answers_before
on_begin records o o' v v' x t ls ls' el eo b h = by_equipment (equipped (reads x)) b (ap (λ z. v ++ answers_before records z) (sym el) ∙ ap (λ z. v ++ answers_on records z ls) (sym eo) ∙ h)
  where
    by_equipment : (q : Result Equipment Refusal) → Begun q records o' o v v' → v ++ answers_by q records (answers_before records ls') ls' ≡ t → v' ++ answers_on records o' ls' ≡ t
    by_equipment (Ok q) b h = ap (λ z. v' ++ answers_on records z ls') b.0 ∙ moved v v' setup_text (answers_from (at_first q records) ls') t b.1 h
    by_equipment (Err e) b h = ap (λ z. v' ++ answers_on records z ls') (b.0 ∙ eo) ∙ moved v v' (refusal_text e) (answers_before records ls') t b.1 h

-- no line is left
pub on_end : (records : List ℕ) (o : Option Standing) (v t : List ℕ) (ls : List (List ℕ)) → ls ≡ [] → v ++ answers_on records o ls ≡ t → v ≡ t
unfolding answers_from answers_before
on_end records None v t ls el h = sym (append-nil v) ∙ ap (λ z. v ++ answers_before records z) (sym el) ∙ h
on_end records (Some s) v t ls el h = sym (append-nil v) ∙ ap (λ z. v ++ answers_from s z) (sym el) ∙ h

-- the cell of a set-up is as at set-up
pub opened_at_first : (q : Equipped) (records : List ℕ) → q.cell.state ≡ fresh_state q.cell.setup.start → opened q records ≡ at_first (equipment_of q) records
opened_at_first q records e = ap (λ (st : State). record { setup = q.cell.setup; state = st; period = q.gaps.period; offset = q.gaps.offset; memory = (opened q records).memory; radio = (opened q records).radio; left = records }) e
