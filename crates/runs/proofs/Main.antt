-- The promise holds of every past whose set-up was accepted.
use Rattle.std.proofs.Common.{◌≡◌, ℕ, ◌<◌, ◌≤◌, Bool, true, false, cond, List, [], ◌∷◌, ◌++◌, length, replicate, sym, refl, ap, ◌∙◌, subst, ap₂, zero-add, arith}
use lib.ListN.{get_or-replicate}
use Rattle.std.proofs.lemmas.Bool.{both_ways}
use Rattle.std.proofs.ByRecursion.{All-weaker}
use Rattle.std.specs.List.{AllByRecursion}
use Rattle.terms.specs.declared.setup.Setup.{Setup}
use Rattle.rules.specs.Process.{idle, holds_packet, maximum}
use Rattle.rules.specs.Entity.{process_at}
use Rattle.rules.specs.Subframe.{Event, one_if}
use Rattle.runs.specs.Runs.{World, Call, step, world_after, events_of, Past, set_up_world, world_now, happened, Accepted, past_with}
use Rattle.runs.specs.Stays.{Met, Stay, Log, recorded_all, empty_log, surroundings, met_after, sent_below, over_below, passing_of_run, passing_of_stays}
use Rattle.runs.specs.Promise.{stays_of, Counted, Carries, Kept, surroundings_between, Independent, AllKept, Promise, KeepsPromise}
use Rattle.runs.proofs.Life.{Life, life, life_limited, life_carries, ordered_after, Agrees, life_below}
use Rattle.runs.proofs.Exactly.{exact_of}
use Rattle.runs.proofs.Runs.{world_with}
use Rattle.runs.proofs.Questions.{Ready, ready}
use Rattle.runs.proofs.Tied.{Scene, scene, life_of, Good}
use Rattle.runs.proofs.Follow.{met_with}
use Rattle.runs.proofs.Sound.{Sound, Once, recorded_append, met_append, passing_append, step_sound}

run_sound : (su : Setup) (n : ℕ) → Ready su → (cs : List Call) (w : World) (l : Log) (met : ℕ → List Met) → Sound su n w l met
    → Sound su n (world_after su w cs) (recorded_all (events_of su w cs) l) (met_with (events_of su w cs) met) × Once l (events_of su w cs)
run_sound su n rd [] w l met h = (h, λ f. omega arith)
run_sound su n rd (c ∷ cs) w l met h =
    let w' : World = (step su w c).world in
    let es : List Event = (step su w c).events in
    let fs : List Event = events_of su w' cs in
    let one = step_sound su n w l met rd h c in
    let rest = run_sound su n rd cs w' (recorded_all es l) (met_with es met) one.0 in (
      subst (λ l'. Sound su n (world_after su w' cs) l' (met_with (es ++ fs) met)) (sym (recorded_append es fs l))
          (subst (Sound su n (world_after su w' cs) (recorded_all fs (recorded_all es l))) (sym (met_append es fs met)) rest.0),
      λ f.
          let e₁ = ap (λ z. passing_of_stays f z.stays) (recorded_append es fs l) in
          let e₂ = one.1 f in
          let e₃ = rest.1 f in
          let e₄ = passing_append f es fs in
          omega arith,
    )

-- at set-up
idle_at : (k : ℕ) → k < 8 → process_at (replicate 8 idle) k ≡ idle
idle_at k lt = get_or-replicate 8 k idle idle lt

start_sound : (p : Past) → Sound p.setup p.count (set_up_world p) empty_log (λ j. [])
start_sound p = record {
  eight = refl;
  good = tt;
  one = λ k lt. sym (ap (λ q. one_if (holds_packet q)) (idle_at k lt));
  ordered = λ k lt. tt;
  timed = λ k lt e. absurd (both_ways (process_at (replicate 8 idle) k).awaits_answer (ap (λ q. q.awaits_answer) (idle_at k lt)) e);
  stored = tt;
  msg3 = tt;
  repeats = tt;
  packets = refl;
  sent = refl;
  count = omega arith;
}

module _ (p : Past) (accepted : Accepted p.setup) where
  sound : Sound p.setup p.count (world_now p) (recorded_all (happened p) empty_log) (λ j. surroundings j (happened p)) × Once empty_log (happened p)
  sound = run_sound p.setup p.count (ready p.setup accepted) p.calls (set_up_world p) empty_log (λ j. []) (start_sound p)

  abbrev now : Scene
  now = scene (world_now p).state (world_now p).memory (λ j. surroundings j (happened p))

  pub counted : Counted p
  counted = record { count = sound.0.count; once = λ f. sound.1 f ∙ zero-add (passing_of_run f (happened p)); tally_sendings = sound.0.sent; tally_packets = sound.0.packets }

  pub kept : AllKept p
  kept = All-weaker (Good p.setup now) (Kept p.setup) each (stays_of p) sound.0.good
    where
      su : Setup
      su = p.setup

      maximum_by : (b : Bool) → maximum su b ≡ cond b su.max_harq_msg3_tx su.max_harq_tx
      maximum_by true = refl
      maximum_by false = refl

      each : (s : Stay) → Good su now s → Kept su s
      each s g = record {
        packet_length = (g.born.some, g.born.short);
        carried = subst (AllByRecursion (Carries s.beginning)) (sym g.sent) (life_carries su s.beginning s.gap ms);
        from_deposit = g.born.deposit;
        synchronous_limit = λ z. subst (λ n. length s.sendings ≤ n) (maximum_by s.beginning.from_msg3) (subst (λ xs. length xs ≤ maximum su s.beginning.from_msg3) (sym g.sent) (life_limited su s.beginning z ((ready su accepted).tries s.beginning.from_msg3) s.gap ms).all);
        asynchronous_limit = g.room;
      }
        where
          ms : List Met
          ms = met_after s.beginning.first (surroundings s.beginning.process (happened p))

  -- below subframe t a stay is its life in the surroundings below t
  pub lives : (s : Stay) → Good p.setup now s → (t : ℕ)
      → let l = life p.setup s.beginning s.gap (surroundings_between p s.beginning.process s.beginning.first t) in (sent_below t s.sendings ≡ sent_below t l.sendings) × (over_below t s.ended ≡ over_below t l.ended)
  lives s g t = (ap (sent_below t) g.sent ∙ h.sent, ap (over_below t) g.over ∙ h.over)
    where
      k : ℕ
      k = s.beginning.process

      u : ℕ
      u = s.beginning.first

      h : Agrees t (life_of p.setup (surroundings k (happened p)) s) (life p.setup s.beginning s.gap (surroundings_between p k u t))
      h = life_below p.setup s.beginning t s.gap (world_now p).state.clock (met_after u (surroundings k (happened p))) (ordered_after (world_now p).state.clock u (surroundings k (happened p)) (sound.0.ordered k g.born.below))

independent : (p : Past) (a : Accepted p.setup) (p' : Past) (a' : Accepted p'.setup) → p'.setup ≡ p.setup → (s s' : Stay) → Good p.setup (now p a) s → Good p'.setup (now p' a') s' → Independent p p' s s'
independent p a p' a' same s s' g g' began gap t met = record {
  sent = (lives p a s g t).0 ∙ ap (λ l. sent_below t l.sendings) equal ∙ sym (lives p' a' s' g' t).0;
  over = (lives p a s g t).1 ∙ ap (λ l. over_below t l.ended) equal ∙ sym (lives p' a' s' g' t).1;
}
  where
    life_by : Setup → Bool → List Met → Life
    life_by su x ms = life su s.beginning x ms

    equal : life p.setup s.beginning s.gap (surroundings_between p s.beginning.process s.beginning.first t) ≡ life p'.setup s'.beginning s'.gap (surroundings_between p' s'.beginning.process s'.beginning.first t)
    equal =
        ap (life_by p.setup s.gap) met
        ∙ ap₂ (λ su x. life_by su x (surroundings_between p' s.beginning.process s.beginning.first t)) (sym same) gap
        ∙ ap (λ b. life p'.setup b s'.gap (surroundings_between p' b.process b.first t)) began

-- the promise
pub promise : (p : Past) → Accepted p.setup → Promise p
promise p a = record {
  exact = exact_of p (counted p a);
  counted = counted p a;
  kept = kept p a;
  alike = λ p' same.
      let a' : Accepted p'.setup = subst Accepted (sym same) a in
      All-weaker (Good p.setup (now p a)) (λ s. AllByRecursion (Independent p p' s) (stays_of p'))
      (λ s g. All-weaker (Good p'.setup (now p' a')) (Independent p p' s) (λ s' g'. independent p a p' a' same s s' g g') (stays_of p') (sound p' a').0.good)
      (stays_of p) (sound p a).0.good;
}

-- every call keeps it
pub call_keeps : (su : Setup) (w : World) (c : Call) → Accepted su → KeepsPromise su w c (step su w c).world
call_keeps su w c a p same leads = (world_with p c ∙ ap₂ (λ z v. (step z v c).world) same leads, promise (past_with p c) (subst Accepted (sym same) a))
