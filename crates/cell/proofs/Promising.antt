-- The promise over whole runs, on the calls.
use Rattle.std.proofs.Common.{◌≡◌, ℕ, Bool, true, false, List, [], ◌∷◌, ◌++◌, length, Some, None, Ok, Err, Option, Result, sym, refl, ap, ◌∙◌, subst, arith}
use Rattle.terms.specs.Sendings.{Sending}
use Rattle.terms.specs.declared.answer.Refusal.{Refusal}
use Rattle.terms.specs.declared.setup.Setup.{Setup}
use Rattle.terms.specs.declared.grant.GrantInForce.{GrantInForce}
use Rattle.terms.specs.declared.process.Feedback.{Feedback}
use Rattle.terms.specs.declared.state.State.{State}
use Rattle.ports.specs.Radio.{Radioed, told}
use Rattle.ports.specs.Source.{FitsSize, FitsAsked}
use Rattle.rules.specs.Entity.{Course, rests, begins, again}
use Rattle.rules.specs.Subframe.{Event, deposits, process_events, answer_events, turn_done}
use Rattle.rules.specs.Msg3.{Left, deposit, withdrawal}
use Rattle.runs.specs.Runs.{World, Call, deposit_call, withdrawal_call, msg3_step, step_of, step, Accepted}
use Rattle.runs.specs.Promise.{KeepsPromise}
use Rattle.runs.proofs.Main.{call_keeps}
use Rattle.runs.proofs.Offers.{Fits}
use Rattle.cell.specs.Calls.{Filed, after_left, after_deposit, after_withdrawal}
use Rattle.cell.specs.Promises.{world, latest_sent}

-- a call that leaves what a step of the run leaves keeps the promise
pub keeps : (su : Setup) (w w' : World) (c : Call) → Accepted su → (step su w c).world ≡ w' → KeepsPromise su w c w'
keeps su w w' c accepted e p same leads = let k = call_keeps su w c accepted p same leads in (k.0 ∙ e, k.1)

-- a packet that is offered for a size fits it
fits_of : (n : ℕ) (o : Option (List ℕ)) → FitsSize n o → (b : List ℕ) → o ≡ Some b → Fits n b
fits_of n None h b e = absurd (let z : ◌≡◌ {A = ℕ} 0 1 = cc in omega arith)
fits_of n (Some p) h b e = let s : p ≡ b = cc in (h.0, h.1, ap length (sym s) ∙ h.2)

-- a packet that is offered for the size that is asked for fits it
pub fits_asked : (offers : ℕ → Option (List ℕ)) (o : Option ℕ) → FitsAsked offers o → (n : ℕ) → o ≡ Some n → (b : List ℕ) → offers n ≡ Some b → Fits n b
fits_asked offers None h n e b k = absurd (let z : ◌≡◌ {A = ℕ} 0 1 = cc in omega arith)
fits_asked offers (Some m) h n e b k = let s : m ≡ n = cc in fits_of n (offers n) (subst (λ x. FitsSize x (offers x)) s h) b k

-- what the events of a subframe sent last is what the radio was told
process_latest : (r : Radioed) (k t : ℕ) (g : Option GrantInForce) (gap : Bool) (c : Course) (x : Option Sending) (up : Bool) → (told r x).latest ≡ latest_sent (process_events k t g gap c x up) r.latest
process_latest r k t g gap (rests o p) None true = refl
process_latest r k t g gap (rests o p) None false = refl
process_latest r k t g gap (rests o p) (Some x) true = refl
process_latest r k t g gap (rests o p) (Some x) false = refl
process_latest r k t g gap (begins h f p) None true = refl
process_latest r k t g gap (begins h f p) None false = refl
process_latest r k t g gap (begins h f p) (Some x) true = refl
process_latest r k t g gap (begins h f p) (Some x) false = refl
process_latest r k t g gap (again p b) None true = refl
process_latest r k t g gap (again p b) None false = refl
process_latest r k t g gap (again p b) (Some x) true = refl
process_latest r k t g gap (again p b) (Some x) false = refl

turn_latest : (r : Radioed) (su : Setup) (st : State) (m : List ℕ) (gap : Bool) (offers : ℕ → Option (List ℕ)) (g : Option GrantInForce) (o : Option ℕ) → let d = turn_done su st m gap offers g o in (told r d.sending).latest ≡ latest_sent d.events r.latest
turn_latest r su st m gap offers g None = refl
turn_latest r su st m gap offers g (Some k) = process_latest r k st.clock g gap _ _ _

answered_latest : (o : Option ℕ) (t : ℕ) (a : Option Feedback) (gap : Bool) (es : List Event) (x : Option Sending) → latest_sent es x ≡ latest_sent (answer_events o t a gap ++ es) x
answered_latest None t a gap es x = refl
answered_latest (Some k) t a gap es x = refl

pub done_latest : (r : Radioed) (su : Setup) (st : State) (m : List ℕ) (gap : Bool) (offers : ℕ → Option (List ℕ)) (g : Option GrantInForce) (o j : Option ℕ) (t : ℕ) (a : Option Feedback) → let d = turn_done su st m gap offers g o in (told r d.sending).latest ≡ latest_sent (answer_events j t a gap ++ d.events) r.latest
done_latest r su st m gap offers g o j t a = turn_latest r su st m gap offers g o ∙ answered_latest j t a gap (turn_done su st m gap offers g o).events r.latest

-- the Msg3 calls
module _ (su : Setup) (st : State) (m : List ℕ) (n : ℕ) (accepted : Accepted su) where
  filed_world : (es : List Event) (l : Result Left Refusal) → let x = after_left st m l in (step_of (world st m n) (msg3_step (world st m n) es l)).world ≡ world x.state x.memory n
  filed_world es (Ok l) = refl
  filed_world es (Err e) = refl

  pub deposit_keeps : (b : List ℕ) (a : Result (Unit {0}) Refusal) (st' : State) (m' : List ℕ) → ◌≡◌ {A = Filed} (record { answer = a; state = st'; memory = m' }) (after_deposit st m b) → KeepsPromise su (world st m n) (deposit_call b) (world st' m' n)
  deposit_keeps b a st' m' e = keeps su (world st m n) (world st' m' n) (deposit_call b) accepted (filed_world (deposits b ∷ []) (deposit st m b) ∙ ap (λ z. world z.state z.memory n) (sym e))

  pub withdrawal_keeps : (a : Result (Unit {0}) Refusal) (st' : State) (m' : List ℕ) → ◌≡◌ {A = Filed} (record { answer = a; state = st'; memory = m' }) (after_withdrawal st m) → KeepsPromise su (world st m n) withdrawal_call (world st' m' n)
  withdrawal_keeps a st' m' e = keeps su (world st m n) (world st' m' n) withdrawal_call accepted (filed_world [] (withdrawal st m) ∙ ap (λ z. world z.state z.memory n) (sym e))
