-- A set-up, and a subframe call over a book.
use Rattle.std.proofs.Common.{◌≡◌, ℕ, List, Some, None, Ok, Err, Option, Result, sym, refl, ap, ◌∙◌, arith}
use Rattle.terms.specs.declared.answer.Refusal.{Refusal}
use Rattle.terms.specs.declared.answer.Reply.{Reply}
use Rattle.terms.specs.declared.setup.Setup.{Setup}
use Rattle.terms.specs.declared.state.State.{State}
use Rattle.terms.specs.declared.grant.Grant.{Grant}
use Rattle.terms.specs.declared.process.Feedback.{Feedback}
use Rattle.ports.specs.Radio.{Radioed, has_room}
use Rattle.ports.specs.Source.{source_after}
use Rattle.rules.specs.Setup.{fresh_state}
use Rattle.rules.specs.Subframe.{Done, subframe}
use Rattle.below.specs.declared.book.Book.{Book}
use Rattle.below.specs.Book.{left, left_offers, left_used, left_after, book_offers, book_used}
use Rattle.below.specs.Pattern.{gaps_of}
use Rattle.below.proofs.Records.{left_source_after}
use Rattle.cell.specs.Calls.{After, after_result, after_subframe}
use Rattle.cell.specs.Cells.{with_fresh_state}
use Rattle.trace.specs.Standing.{Standing, Answered, admitted_by, replied, after_answer, called}
use Rattle.trace.specs.declared.session.Accepted.{Accepted}

-- a set-up that was refused, and one that was accepted
pub setup_refused : (x : Result Setup Refusal) (p : Result (ℕ × ℕ) Refusal) (e : Refusal) → Err e ≡ with_fresh_state x → Err e ≡ admitted_by x p
setup_refused (Ok su) p e h = absurd (let z : ◌≡◌ {A = ℕ} 0 1 = cc in omega arith)
setup_refused (Err d) p e h = cc

abbrev setup_part : Setup → Result (Setup × State) Refusal → Setup
setup_part d (Ok p) = p.0
setup_part d (Err e) = d

abbrev state_part : State → Result (Setup × State) Refusal → State
state_part d (Ok p) = p.1
state_part d (Err e) = d

pub setup_made : (x : Result Setup Refusal) (su : Setup) (st : State) → Ok (su, st) ≡ with_fresh_state x → (Ok su ≡ x) × (st ≡ fresh_state su.start)
setup_made (Ok su') su st h = let e : su ≡ su' = ap (setup_part su) h in (ap Ok e, ap (state_part st) h ∙ ap (λ s. fresh_state s.start) (sym e))
setup_made (Err d) su st h = absurd (let z : ◌≡◌ {A = ℕ} 0 1 = cc in omega arith)

pub pattern_refused : (x : Result Setup Refusal) (p : Result (ℕ × ℕ) Refusal) (su : Setup) (e : Refusal) → Ok su ≡ x → Err e ≡ p → Err e ≡ admitted_by x p
pattern_refused x p su e h k = ap (λ p. admitted_by (Ok su) p) k ∙ ap (λ x. admitted_by x p) h

pub both_made : (x : Result Setup Refusal) (p : Result (ℕ × ℕ) Refusal) (su : Setup) (n m : ℕ) → Ok su ≡ x → Ok (n, m) ≡ p → Ok (record { setup = su; period = n; offset = m }) ≡ admitted_by x p
both_made x p su n m h k = ap (λ p. admitted_by (Ok su) p) k ∙ ap (λ x. admitted_by x p) h

-- a call over a book is a call over what is left of it
abbrev over_left : {A : Type 0} → After Book A → After (List ℕ) A
over_left x = record { answer = x.answer; state = x.state; memory = x.memory; radio = x.radio; source = left x.source }

same_left : (l : List ℕ) (o : Option ℕ) → left_after l o ≡ source_after left_offers (λ l n. left_used l) l o
same_left l None = refl
same_left l (Some n) = refl

result_left : (st : State) (m : List ℕ) (r : Radioed) (b : Book) (d : Result Done Refusal)
    → over_left (after_result book_offers book_used st m r b d) ≡ after_result left_offers (λ l n. left_used l) st m r (left b) d
result_left st m r b (Err e) = refl
result_left st m r b (Ok d) = let e = left_source_after b d.asked ∙ same_left (left b) d.asked in λ i. record { answer = Ok d.reply; state = d.state; memory = d.memory; radio = (after_result book_offers book_used st m r b (Ok d)).radio; source = e i }

-- what is left of a cell, a mailbox and a book after a call
abbrev after_over : Standing → Setup → Result Accepted Refusal → After (List ℕ) (Result Reply Refusal) → Answered
after_over s su a x = record { answer = a; standing = record { setup = su; state = x.state; period = s.period; offset = s.offset; memory = x.memory; radio = x.radio; left = x.source } }

pub called_whole : (s : Standing) (b : Book) (su : Setup) (v : Result Accepted Refusal) (a : Option Feedback) (g : Option Grant) (x : After Book (Result Reply Refusal))
    → v ≡ replied x.answer → su ≡ s.setup → s.left ≡ left b
    → x ≡ after_subframe book_offers book_used s.setup s.state s.memory s.radio b (gaps_of s.period s.offset s.state.clock) a g
    → after_over s su v (over_left x) ≡ called s a g
called_whole s b su v a g x ev es el e =
    ap (λ v. after_over s su v (over_left x)) ev
    ∙ ap (λ u. after_over s u (replied x.answer) (over_left x)) es
    ∙ ap (λ x. after_answer s (over_left x)) e
    ∙ ap (after_answer s) (result_left s.state s.memory s.radio b (subframe s.setup s.state s.memory (record { ready = has_room s.radio; gap = gaps_of s.period s.offset s.state.clock; answer = a; grant = g; offers = book_offers b })))
    ∙ ap (λ l. after_answer s (after_subframe left_offers (λ l n. left_used l) s.setup s.state s.memory s.radio l (gaps_of s.period s.offset s.state.clock) a g)) (sym el)

-- a session before its first line
pub fresh_session : (su : Setup) (st : State) (n m : ℕ) (memory memory' : List ℕ) (radio radio' : Radioed) (l l' : List ℕ) → memory ≡ memory' → radio ≡ radio' → l ≡ l'
    → ◌≡◌ {A = Standing} (record { setup = su; state = st; period = n; offset = m; memory = memory; radio = radio; left = l }) (record { setup = su; state = st; period = n; offset = m; memory = memory'; radio = radio'; left = l' })
fresh_session su st n m memory memory' radio radio' l l' em er el = λ i. record { setup = su; state = st; period = n; offset = m; memory = em i; radio = er i; left = el i }
