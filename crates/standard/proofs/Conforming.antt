-- Whole runs: the relations let a cell's run go as it went, and in no other way.
use Rattle.std.proofs.Common.{◌≡◌, ℕ, ◌<◌, ◌≤◌, Bool, List, [], ◌∷◌, ◌++◌, length, Some, None, Ok, Err, Option, Result, unwrap_or, sym, refl, ap, ◌∙◌, subst, arith}
use lib.ListN.{get_or-replicate}
use Rattle.std.proofs.lemmas.Bool.{eqb-true}
use Rattle.terms.specs.declared.answer.Refusal.{Refusal}
use Rattle.terms.specs.declared.setup.Setup.{Setup}
use Rattle.terms.specs.declared.process.Process.{Process}
use Rattle.terms.specs.Sendings.{Sending}
use Rattle.rules.specs.Memory.{written}
use Rattle.rules.specs.Process.{idle}
use Rattle.rules.specs.Entity.{process_at}
use Rattle.rules.specs.Setup.{first_no}
use Rattle.rules.specs.Questions.{questioned}
use Rattle.rules.specs.Subframe.{Done, deposits, subframe_done, unless_refused}
use Rattle.rules.specs.Msg3.{deposit_questions, deposit_done, withdrawal_questions, withdrawal_done, left_unless_refused, with_msg3}
use Rattle.rules.proofs.Keeping.{sound_fresh, bounds_asked, admitted}
use Rattle.runs.specs.Runs.{World, Brought, Call, subframe_call, deposit_call, withdrawal_call, given, Step, count_after, subframe_step, msg3_step, step_of, world_after, Past, set_up_world, world_now, Accepted}
use Rattle.runs.proofs.Amends.{none_some}
use Rattle.runs.proofs.Memory.{part_written, part_other}
use Rattle.runs.proofs.Questions.{all_yes, within_low, within_high}
use Rattle.standard.specs.Ts36321 as ts
use Rattle.standard.specs.Conformance.{Happening, a_tti, Msg3Filled, Msg3Emptied, TtiOf, if_accepted, happenings, told_in, sent, mac_with_msg3, Goes, at_rest, through_tti, with_msg3_filled, with_msg3_emptied, ByTheStandard, Reaches, HasItSend, SendsByTheStandard}
use Rattle.standard.proofs.Likeness.{held_in, Like, Alike}
use Rattle.standard.proofs.Performing.{performs_sound}
use Rattle.standard.proofs.Totality.{performs_total}
use Rattle.standard.proofs.Admitting.{known_if, delivers_proper}

-- at set-up
established_like : (su : Setup) (t : ℕ) (m : List ℕ) (k : ℕ) (p : Process) → p ≡ idle → Like su t m k ts.established_process p
established_like su t m k p e = subst (Like su t m k ts.established_process) (sym e)
    (record { buffer = refl; from_msg3 = refl; count = refl; feedback = refl; index = refl; mcs = refl; resource = refl; compared = refl; due = λ u q. absurd (none_some q); resting = λ z. (refl, refl) })

pub established_alike : (p : Past) → Accepted p.setup → Alike p.setup ts.established (set_up_world p)
established_alike p accepted = record {
  sound = sound_fresh p.setup p.setup.start (bounds_asked p.setup (sym accepted));
  eight = refl;
  like = λ k lt. established_like p.setup p.setup.start p.memory k (process_at (set_up_world p).state.processes k) (get_or-replicate 8 k idle idle lt);
  configured = refl;
  bundle = tt;
  Msg3 = refl;
}

-- the Msg3 calls
module _ (su : Setup) (mac : ts.MAC) (w : World) (alike : Alike su mac w) where
  pub filled_alike : (b : List ℕ) → length w.memory ≡ 5805 → 1 ≤ length b → length b ≤ 645
      → Alike su (mac_with_msg3 mac (Some b)) (record { state = with_msg3 w.state (Some (length b)); memory = written w.memory 8 b; count = w.count })
  filled_alike b whole lo hi = record {
    sound = record { bounds = alike.sound.bounds; packets = alike.sound.packets; sendings = alike.sound.sendings; smallest = alike.sound.smallest; largest = alike.sound.largest; shortest = lo; longest = hi; repeats = alike.sound.repeats; good = alike.sound.good };
    eight = alike.eight;
    like = λ k lt. kept k lt (alike.like k lt);
    configured = alike.configured;
    bundle = alike.bundle;
    Msg3 = ap Some (sym (part_written w.memory 8 b whole (omega arith) hi));
  }
    where
      held_kept : (k : ℕ) → k < 8 → (o : Option ℕ) → (n : ℕ) → o ≡ Some n → n ≤ 645 → held_in w.memory k o ≡ held_in (written w.memory 8 b) k o
      held_kept k lt o n e le = subst (λ z. held_in w.memory k z ≡ held_in (written w.memory 8 b) k z) (sym e) (ap Some (sym (part_other w.memory 8 b whole (omega arith) hi k n le (λ z. absurd (omega arith)))))

      buffers : (k : ℕ) → k < 8 → (o : Option ℕ) → (process_at w.state.processes k).buffer ≡ o → held_in w.memory k o ≡ held_in (written w.memory 8 b) k o
      buffers k lt None e = refl
      buffers k lt (Some n) e = held_kept k lt (Some n) n refl (subst (λ o. unwrap_or o 1 ≤ 645) e (alike.sound.good k lt).not_long)

      kept : (k : ℕ) → k < 8 → Like su w.state.clock w.memory k (mac.process k) (process_at w.state.processes k) → Like su w.state.clock (written w.memory 8 b) k (mac.process k) (process_at w.state.processes k)
      kept k lt l = record { buffer = l.buffer ∙ buffers k lt (process_at w.state.processes k).buffer refl; from_msg3 = l.from_msg3; count = l.count; feedback = l.feedback; index = l.index; mcs = l.mcs; resource = l.resource; compared = l.compared; due = l.due; resting = l.resting }

  pub emptied_alike : Alike su (mac_with_msg3 mac None) (record { state = with_msg3 w.state None; memory = w.memory; count = w.count })
  emptied_alike = record {
    sound = record { bounds = alike.sound.bounds; packets = alike.sound.packets; sendings = alike.sound.sendings; smallest = alike.sound.smallest; largest = alike.sound.largest; shortest = omega arith; longest = omega arith; repeats = alike.sound.repeats; good = alike.sound.good };
    eight = alike.eight;
    like = alike.like;
    configured = alike.configured;
    bundle = alike.bundle;
    Msg3 = refl;
  }

-- a subframe call
module _ (su : Setup) (accepted : Accepted su) (mac : ts.MAC) (w : World) (alike : Alike su mac w) (b : Brought) (yes-all : Ok tt ≡ questioned su w.state (length w.memory) (given w b).ready (given w b).gap b.answer b.grant) where
  abbrev done : Done
  done = subframe_done su w.state w.memory (given w b)

  abbrev next : World
  next = record { state = done.state; memory = done.memory; count = count_after done.sending w.count }

  pub only_so : (x : Option Sending) (mac' : ts.MAC) → ts.Performs su mac (TtiOf w b) x mac' → (x ≡ done.sending) × Alike su mac' next
  only_so = performs_sound su w mac alike b (λ u c d. delivers_proper su w.state.clock mac.configured b.grant u c accepted d (admitted su w.state (length w.memory) (given w b).ready (given w b).gap b.answer b.grant yes-all).fields) yes-all

  pub so : HasItSend su mac (TtiOf w b) done.sending
  so =
      let fields = (admitted su w.state (length w.memory) (given w b).ready (given w b).gap b.answer b.grant yes-all).fields in
      let p = performs_total su mac (TtiOf w b) w.state.configured w.state.repetition alike.configured alike.bundle (known_if su b.grant fields) (λ u c d. delivers_proper su w.state.clock mac.configured b.grant u c accepted d fields) in
      subst (HasItSend su mac (TtiOf w b)) (only_so p.0 p.1 p.2).0 (p.1, p.2)

-- runs
module _ (su : Setup) (accepted : Accepted su) where
  -- from alike to alike: what is sent, and where the MAC entity comes to
  abbrev Went : World → List Call → List (Option Sending) → ts.MAC → Type 0
  Went w cs xs mac = (xs ≡ sent su w cs) × Alike su mac (world_after su w cs)

  abbrev Only : World → List Call → Type 0
  Only w cs = (mac : ts.MAC) → Alike su mac w → (xs : List (Option Sending)) (mac' : ts.MAC) → Goes su mac (happenings su w cs) xs mac' → Went w cs xs mac'

  abbrev Possible : World → List Call → Type 0
  Possible w cs = (mac : ts.MAC) → Alike su mac w → (mac' : ts.MAC) × Goes su mac (happenings su w cs) (sent su w cs) mac'

  -- one happening
  rest_only : (mac mac' : ts.MAC) (xs : List (Option Sending)) → Goes su mac [] xs mac' → (xs ≡ []) × (mac ≡ mac')
  rest_only mac mac' xs (at_rest m) = (refl, refl)

  TtiOnly : (mac mac' : ts.MAC) (i : ts.TTI) (hs : List Happening) (xs : List (Option Sending)) → Goes su mac (a_tti i ∷ hs) xs mac'
      → (x : Option Sending) × (m₁ : ts.MAC) × (ys : List (Option Sending)) × (xs ≡ x ∷ ys) × ts.Performs su mac i x m₁ × Goes su m₁ hs ys mac'
  TtiOnly mac mac' i hs xs (through_tti m m₁ m₂ i₁ x hs₁ ys pf go) = (x, m₁, ys, refl, pf, go)

  filled_only : (mac mac' : ts.MAC) (b : List ℕ) (hs : List Happening) (xs : List (Option Sending)) → Goes su mac (Msg3Filled b ∷ hs) xs mac' → Goes su (mac_with_msg3 mac (Some b)) hs xs mac'
  filled_only mac mac' b hs xs (with_msg3_filled m m₂ b₁ hs₁ ys go) = go

  emptied_only : (mac mac' : ts.MAC) (hs : List Happening) (xs : List (Option Sending)) → Goes su mac (Msg3Emptied ∷ hs) xs mac' → Goes su (mac_with_msg3 mac None) hs xs mac'
  emptied_only mac mac' hs xs (with_msg3_emptied m m₂ hs₁ ys go) = go

  -- a call, and then the others
  abbrev Then : (World → Type 0) → Type 0
  Then P = (w : World) → P w

  subframe_only : (w : World) (b : Brought) (cs : List Call) → Then (λ v. Only v cs) → Only w (subframe_call b ∷ cs)
  subframe_only w b cs others mac alike = go (questioned su w.state (length w.memory) (given w b).ready (given w b).gap b.answer b.grant) refl
    where
      d : Done
      d = subframe_done su w.state w.memory (given w b)

      stepped : Result (Unit {0}) Refusal → Result Step Refusal
      stepped q = subframe_step w (unless_refused q d)

      go : (q : Result (Unit {0}) Refusal) → questioned su w.state (length w.memory) (given w b).ready (given w b).gap b.answer b.grant ≡ q
          → (xs : List (Option Sending)) (mac' : ts.MAC) → Goes su mac (if_accepted (stepped q) (a_tti (TtiOf w b)) ++ happenings su (step_of w (stepped q)).world cs) xs mac'
          → (xs ≡ told_in (unless_refused q d) ++ sent su (step_of w (stepped q)).world cs) × Alike su mac' (world_after su (step_of w (stepped q)).world cs)
      go (Err e) z xs mac' goes = others w mac alike xs mac' goes
      go (Ok u) z xs mac' goes =
          let g = TtiOnly mac mac' (TtiOf w b) _ xs goes in
          let s = only_so su accepted mac w alike b (sym z) g.0 g.1 g.4 in
          let r = others _ g.1 s.1 g.2 mac' g.5 in
          (g.3 ∙ ap (λ x. x ∷ g.2) s.0 ∙ ap (λ ys. d.sending ∷ ys) r.0, r.1)

  deposit_only : (w : World) (b : List ℕ) (cs : List Call) → Then (λ v. Only v cs) → Only w (deposit_call b ∷ cs)
  deposit_only w b cs others mac alike = go (first_no qs) refl
    where
      qs : List (Bool × Refusal)
      qs = deposit_questions (length w.memory) (length b) w.state.msg3

      stepped : Result (Unit {0}) Refusal → Result Step Refusal
      stepped q = msg3_step w (deposits b ∷ []) (left_unless_refused q (deposit_done w.state w.memory b))

      go : (q : Result (Unit {0}) Refusal) → first_no qs ≡ q
          → (xs : List (Option Sending)) (mac' : ts.MAC) → Goes su mac (if_accepted (stepped q) (Msg3Filled b) ++ happenings su (step_of w (stepped q)).world cs) xs mac'
          → (xs ≡ sent su (step_of w (stepped q)).world cs) × Alike su mac' (world_after su (step_of w (stepped q)).world cs)
      go (Err e) z xs mac' goes = others w mac alike xs mac' goes
      go (Ok u) z xs mac' goes =
          let ys = all_yes qs z in
          others _ (mac_with_msg3 mac (Some b)) (filled_alike su mac w alike b (eqb-true (length w.memory) 5805 ys.0) (within_low 1 645 (length b) ys.1.0) (within_high 1 645 (length b) ys.1.0)) xs mac' (filled_only mac mac' b _ xs goes)

  withdrawal_only : (w : World) (cs : List Call) → Then (λ v. Only v cs) → Only w (withdrawal_call ∷ cs)
  withdrawal_only w cs others mac alike = go (first_no (withdrawal_questions w.state.msg3))
    where
      stepped : Result (Unit {0}) Refusal → Result Step Refusal
      stepped q = msg3_step w [] (left_unless_refused q (withdrawal_done w.state w.memory))

      go : (q : Result (Unit {0}) Refusal)
          → (xs : List (Option Sending)) (mac' : ts.MAC) → Goes su mac (if_accepted (stepped q) Msg3Emptied ++ happenings su (step_of w (stepped q)).world cs) xs mac'
          → (xs ≡ sent su (step_of w (stepped q)).world cs) × Alike su mac' (world_after su (step_of w (stepped q)).world cs)
      go (Err e) xs mac' goes = others w mac alike xs mac' goes
      go (Ok u) xs mac' goes = others _ (mac_with_msg3 mac None) (emptied_alike su mac w alike) xs mac' (emptied_only mac mac' _ xs goes)

  pub only : (cs : List Call) (w : World) → Only w cs
  only [] w = λ mac alike xs mac' goes. let r = rest_only mac mac' xs goes in (r.0, subst (λ z. Alike su z w) r.1 alike)
  only (subframe_call b ∷ cs) w = subframe_only w b cs (only cs)
  only (deposit_call b ∷ cs) w = deposit_only w b cs (only cs)
  only (withdrawal_call ∷ cs) w = withdrawal_only w cs (only cs)

  subframe_possible : (w : World) (b : Brought) (cs : List Call) → Then (λ v. Possible v cs) → Possible w (subframe_call b ∷ cs)
  subframe_possible w b cs others mac alike = go (questioned su w.state (length w.memory) (given w b).ready (given w b).gap b.answer b.grant) refl
    where
      d : Done
      d = subframe_done su w.state w.memory (given w b)

      stepped : Result (Unit {0}) Refusal → Result Step Refusal
      stepped q = subframe_step w (unless_refused q d)

      go : (q : Result (Unit {0}) Refusal) → questioned su w.state (length w.memory) (given w b).ready (given w b).gap b.answer b.grant ≡ q
          → (mac' : ts.MAC) × Goes su mac (if_accepted (stepped q) (a_tti (TtiOf w b)) ++ happenings su (step_of w (stepped q)).world cs) (told_in (unless_refused q d) ++ sent su (step_of w (stepped q)).world cs) mac'
      go (Err e) z = others w mac alike
      go (Ok u) z =
          let p = so su accepted mac w alike b (sym z) in
          let s = only_so su accepted mac w alike b (sym z) d.sending p.0 p.1 in
          let r = others _ p.0 s.1 in
          (r.0, through_tti mac p.0 r.0 (TtiOf w b) d.sending _ _ p.1 r.1)

  deposit_possible : (w : World) (b : List ℕ) (cs : List Call) → Then (λ v. Possible v cs) → Possible w (deposit_call b ∷ cs)
  deposit_possible w b cs others mac alike = go (first_no qs) refl
    where
      qs : List (Bool × Refusal)
      qs = deposit_questions (length w.memory) (length b) w.state.msg3

      stepped : Result (Unit {0}) Refusal → Result Step Refusal
      stepped q = msg3_step w (deposits b ∷ []) (left_unless_refused q (deposit_done w.state w.memory b))

      go : (q : Result (Unit {0}) Refusal) → first_no qs ≡ q → (mac' : ts.MAC) × Goes su mac (if_accepted (stepped q) (Msg3Filled b) ++ happenings su (step_of w (stepped q)).world cs) (sent su (step_of w (stepped q)).world cs) mac'
      go (Err e) z = others w mac alike
      go (Ok u) z =
          let ys = all_yes qs z in
          let r = others _ (mac_with_msg3 mac (Some b)) (filled_alike su mac w alike b (eqb-true (length w.memory) 5805 ys.0) (within_low 1 645 (length b) ys.1.0) (within_high 1 645 (length b) ys.1.0)) in
          (r.0, with_msg3_filled mac r.0 b _ _ r.1)

  withdrawal_possible : (w : World) (cs : List Call) → Then (λ v. Possible v cs) → Possible w (withdrawal_call ∷ cs)
  withdrawal_possible w cs others mac alike = go (first_no (withdrawal_questions w.state.msg3))
    where
      stepped : Result (Unit {0}) Refusal → Result Step Refusal
      stepped q = msg3_step w [] (left_unless_refused q (withdrawal_done w.state w.memory))

      go : (q : Result (Unit {0}) Refusal) → (mac' : ts.MAC) × Goes su mac (if_accepted (stepped q) Msg3Emptied ++ happenings su (step_of w (stepped q)).world cs) (sent su (step_of w (stepped q)).world cs) mac'
      go (Err e) = others w mac alike
      go (Ok u) = let r = others _ (mac_with_msg3 mac None) (emptied_alike su mac w alike) in (r.0, with_msg3_emptied mac r.0 _ _ r.1)

  pub possible : (cs : List Call) (w : World) → Possible w cs
  possible [] w = λ mac alike. (mac, at_rest mac)
  possible (subframe_call b ∷ cs) w = subframe_possible w b cs (possible cs)
  possible (deposit_call b ∷ cs) w = deposit_possible w b cs (possible cs)
  possible (withdrawal_call ∷ cs) w = withdrawal_possible w cs (possible cs)

pub by_the_standard : (p : Past) → Accepted p.setup → ByTheStandard p
by_the_standard p a = record {
  possible = possible p.setup a p.calls (set_up_world p) ts.established (established_alike p a);
  only = λ xs m goes. (only p.setup a p.calls (set_up_world p) ts.established (established_alike p a) xs m goes).0;
}

-- an accepted subframe call, where the radio is told just what the rules send
pub sends_by_the_standard : (su : Setup) (w : World) (b : Brought) (Told : Option Sending → Type 0) → Accepted su
    → Ok tt ≡ questioned su w.state (length w.memory) (given w b).ready (given w b).gap b.answer b.grant
    → Told (subframe_done su w.state w.memory (given w b)).sending
    → ((x : Option Sending) → Told x → x ≡ (subframe_done su w.state w.memory (given w b)).sending)
    → SendsByTheStandard su w b Told
sends_by_the_standard su w b Told accepted yes-all told just p same leads =
    let a : Accepted p.setup = subst Accepted (sym same) accepted in
    let r = possible p.setup a p.calls (set_up_world p) ts.established (established_alike p a) in
    ((r.0, (_, r.1)), λ m reach x. (there m reach x, back m reach x))
  where
    alike : (m : ts.MAC) → Reaches p m → Alike su m w
    alike m reach =
        let a : Accepted p.setup = subst Accepted (sym same) accepted in
        let g = only p.setup a p.calls (set_up_world p) ts.established (established_alike p a) reach.0 m reach.1 in
        subst (λ v. Alike su m v) leads (subst (λ z. Alike z m (world_now p)) same g.1)

    there : (m : ts.MAC) → Reaches p m → (x : Option Sending) → HasItSend su m (TtiOf w b) x → Told x
    there m reach x h = subst Told (sym (only_so su accepted m w (alike m reach) b yes-all x h.0 h.1).0) told

    back : (m : ts.MAC) → Reaches p m → (x : Option Sending) → Told x → HasItSend su m (TtiOf w b) x
    back m reach x h = subst (HasItSend su m (TtiOf w b)) (sym (just x h)) (so su accepted m w (alike m reach) b yes-all)
