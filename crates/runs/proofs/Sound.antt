-- What every call of a run leaves true.
use Rattle.std.proofs.Common.{◌≡◌, ℕ, ◌+◌, ◌%◌, ◌<◌, ◌≤◌, Bool, true, false, cond, ◌||◌, ◌≢◌, List, [], ◌∷◌, ◌++◌, length, set, is_some, Some, None, Ok, Err, Option, Result, sym, refl, ap, ◌∙◌, subst, ap₂, arith, length-set}
use Rattle.std.proofs.lemmas.Bool.{eqb-true}
use Rattle.std.proofs.ByRecursion.{All-weaker}
use Rattle.std.specs.List.{AllByRecursion}
use Rattle.terms.specs.declared.answer.Refusal.{Refusal}
use Rattle.terms.specs.declared.setup.CellKind.{CellKind}
use Rattle.terms.specs.declared.setup.CellKind.TheVariants.{Plain, Bundled, Asynchronous}
use Rattle.terms.specs.declared.setup.Setup.{Setup}
use Rattle.terms.specs.declared.grant.GrantInForce.{GrantInForce}
use Rattle.terms.specs.declared.process.Feedback.{Feedback}
use Rattle.terms.specs.declared.process.Process.{Process}
use Rattle.terms.specs.declared.state.Repetition.{Repetition}
use Rattle.terms.specs.declared.state.State.{State}
use Rattle.terms.specs.declared.decision.Decision.{Decision}
use Rattle.terms.specs.declared.decision.Decision.TheVariants as decision
use Rattle.terms.specs.declared.decision.Work.{Work}
use Rattle.terms.specs.declared.decision.Work.TheVariants as work
use Rattle.terms.specs.Sendings.{Sending}
use Rattle.rules.specs.Memory.{part, written}
use Rattle.rules.specs.Process.{synchronous, is_ack, hears, renewed, adapted, repeated, on_air, advanced, gives_up, flushed, transmitted}
use Rattle.rules.specs.Reception.{grant_in_force, stored_after, referred}
use Rattle.rules.specs.Entity.{process_at, process_of, answering, decided, Fresh, obtained, course, begun, work_of, asked}
use Rattle.rules.specs.Setup.{first_no}
use Rattle.rules.specs.Questions.{is_bundled, subframe_questions}
use Rattle.rules.specs.Subframe.{Event, answers, meets, starts, sends, flushes, deposits, Done, heard_at, heard, with_configured, concluded, repetition_by, repetition_after, one_if, answer_events, turn_done, subframe_done, unless_refused}
use Rattle.rules.specs.Msg3.{with_msg3, deposit_questions, deposit_done, withdrawal_questions, withdrawal_done, left_unless_refused}
use Rattle.runs.specs.Runs.{World, Brought, Call, subframe_call, deposit_call, withdrawal_call, fitting, given, count_after, subframe_step, msg3_step, Step, step_of, step}
use Rattle.runs.specs.Stays.{Met, answer_met, Stay, Log, goes_on, amend, with_met, recorded, recorded_all, surrounded, surrounded_all, passing, passing_of_run, passing_of_stays, sendings_of_stays}
use Rattle.runs.proofs.Memory.{part_written, part_other}
use Rattle.runs.proofs.Amends.{Going, going_facts, length_amended, goings_other, goings_same}
use Rattle.runs.proofs.Life.{hears_same, lived, ordered_later}
use Rattle.runs.proofs.Timing.{Timed, TimedLater, answers_below, hear_timed, quiet_own, own_timed, nobody_timed}
use Rattle.runs.proofs.Questions.{all_yes, within_low, within_high, Ready, StoredOk, ForceOkIf, force_ok, stored_ok, Asked, asked_facts, RepetitionOk, turn_ok, Msg3Ok, fresh_ok}
use Rattle.runs.proofs.Tied.{Scene, scene, scene_with, life_of, Good, good_kept, Change, life_more, good_amended, fewer_next}
use Rattle.runs.proofs.Follow.{met_with, Grown, One, AllOrdered, Followed, own_process, one_after, process_change, change_ordered, total_same, follow}

-- a world, what was written down of its events, and the surroundings of its processes; `n` is the radio's count at set-up
pub record Sound (su : Setup) (n : ℕ) (w : World) (l : Log) (met : ℕ → List Met) : Type 0 where
  pub eight : length w.state.processes ≡ 8
  pub good : AllByRecursion (Good su (scene w.state w.memory met)) l.stays
  pub one : One w.state.processes l.stays
  pub ordered : AllOrdered w.state.clock met
  pub timed : Timed su.kind w.state.clock w.state.processes
  pub stored : StoredOk su w.state.configured
  pub msg3 : Msg3Ok w.memory l.deposited w.state.msg3
  pub repeats : RepetitionOk w.state.repetition
  pub packets : w.state.tally.packets ≡ length l.stays
  pub sent : w.state.tally.sendings ≡ sendings_of_stays l.stays
  pub count : w.count ≡ n + sendings_of_stays l.stays

-- Events one after another.
pub recorded_append : (es fs : List Event) (l : Log) → recorded_all (es ++ fs) l ≡ recorded_all fs (recorded_all es l)
recorded_append [] fs l = refl
recorded_append (e ∷ es) fs l = recorded_append es fs (recorded e l)

surrounded_append : (j : ℕ) (es fs : List Event) (ms : List Met) → surrounded_all j (es ++ fs) ms ≡ surrounded_all j fs (surrounded_all j es ms)
surrounded_append j [] fs ms = refl
surrounded_append j (e ∷ es) fs ms = surrounded_append j es fs (surrounded j e ms)

pub met_append : (es fs : List Event) (met : ℕ → List Met) → met_with (es ++ fs) met ≡ met_with fs (met_with es met)
met_append es fs met = λ i j. surrounded_append j es fs (met j) i

pub passing_append : (f : Sending → Bool) (es fs : List Event) → passing_of_run f (es ++ fs) ≡ passing_of_run f es + passing_of_run f fs
passing_append f [] fs = omega arith
passing_append f (answers k t a gap ∷ es) fs = passing_append f es fs
passing_append f (meets k t g gap st ∷ es) fs = passing_append f es fs
passing_append f (starts b ∷ es) fs = passing_append f es fs
passing_append f (sends x ∷ es) fs = omega (arith, passing_append f es fs)
passing_append f (flushes k t ∷ es) fs = passing_append f es fs
passing_append f (deposits b ∷ es) fs = passing_append f es fs

-- The answer.
pub record Hearing (su : Setup) (st : State) (m : List ℕ) (l : Log) (met : ℕ → List Met) (ps' : List Process) (es : List Event) : Type 0 where
  pub eight : length ps' ≡ 8
  pub good : AllByRecursion (Good su (record { processes = ps'; memory = m; repetition = st.repetition; clock = st.clock; met = met_with es met })) (recorded_all es l).stays
  pub one : One ps' (recorded_all es l).stays
  pub ordered : AllOrdered (st.clock + 1) (met_with es met)
  pub deposited : (recorded_all es l).deposited ≡ l.deposited
  pub all : sendings_of_stays (recorded_all es l).stays ≡ sendings_of_stays l.stays
  pub stays : length (recorded_all es l).stays ≡ length l.stays
  pub once : (f : Sending → Bool) → passing_of_stays f (recorded_all es l).stays ≡ passing_of_stays f l.stays
  pub none : (f : Sending → Bool) → passing_of_run f es ≡ 0

module _ (su : Setup) (st : State) (m : List ℕ) (l : Log) (met : ℕ → List Met) (gap : Bool) (a : Option Feedback)
    (eight : length st.processes ≡ 8) (good : AllByRecursion (Good su (scene st m met)) l.stays) (one : One st.processes l.stays) (ordered : AllOrdered st.clock met) where
  later : AllOrdered (st.clock + 1) met
  later j jlt = ordered_later st.clock (st.clock + 1) (met j) (omega arith) (ordered j jlt)

  hear_each : (o : Option ℕ) → ((i : ℕ) → o ≡ Some i → i < 8) → Hearing su st m l met (heard_at o gap a st.processes) (answer_events o st.clock a gap)
  hear_each None below = record { eight = eight; good = good; one = one; ordered = later; deposited = refl; all = refl; stays = refl; once = λ f. refl; none = λ f. refl }
  hear_each (Some k) below = record {
    eight = length-set ps k p' ∙ eight;
    good = good_amended su k x c c' ch f hearing l.stays good;
    one = one_after ps k p' eight (below k refl) l.stays (amend k f l.stays) one (λ j ne. goings_other k f (λ s. refl) j ne l.stays) (goings_same k f (λ s. refl) (λ s. refl) l.stays ∙ one k (below k refl) ∙ ap (λ q. one_if (is_some q)) (sym (hears_same gap a (process_at ps k)).buffer));
    ordered = change_ordered k x c c' ch later;
    deposited = refl;
    all = total_same k f (λ s. length s.sendings) (λ s. refl) l.stays;
    stays = length_amended k f l.stays;
    once = λ c. total_same k f (λ s. passing c s.sendings) (λ s. refl) l.stays;
    none = λ c. refl;
  }
    where
      t : ℕ
      t = st.clock

      ps : List Process
      ps = st.processes

      p' : Process
      p' = hears gap a (process_at st.processes k)

      x : Met
      x = answer_met st.clock a gap

      f : Stay → Stay
      f = with_met (answer_met st.clock a gap)

      c : Scene
      c = scene st m met

      c' : Scene
      c' = scene_with st k p' m st.repetition st.clock (met_with (answers k st.clock a gap ∷ []) met)

      ch : Change k x c c'
      ch = process_change st m m met (met_with (answers k st.clock a gap ∷ []) met) k p' st.repetition st.clock x (omega arith) refl (λ j. refl) (λ j n h ne. refl) (λ j ne. omega arith)

      hearing : (s : Stay) → goes_on k s ≡ true → Good su c s → Good su c' (f s)
      hearing s e h = record {
        born = h.born;
        began = h.began;
        sent = h.sent ∙ sym (ap (λ z. z.sendings) here);
        over = i.unended ∙ sym (ap (λ z. z.ended) here);
        room = h.room;
        going = λ u. let tied = h.going i.unended in record {
          state = ap (process_at (set ps k p')) i.process ∙ own_process ps k p' eight (below k refl) ∙ ap (hears gap a) (ap (process_at ps) (sym i.process) ∙ tied.state) ∙ sym (ap (λ z. z.process) here);
          stored = tied.stored;
          room = tied.room;
        };
      }
        where
          i : Going k s
          i = going_facts k s e

          here : life_of su (c'.met s.beginning.process) s ≡ lived su s.beginning x (life_of su (met s.beginning.process) s)
          here = life_more su k x c c' ch s e h

-- What a subframe leaves beside the stays.
pub record Passed (su : Setup) (st st' : State) : Type 0 where
  pub clock : st'.clock ≡ st.clock + 1
  pub msg3 : st'.msg3 ≡ st.msg3
  pub timed : Timed su.kind (st.clock + 1) st'.processes
  pub stored : StoredOk su st'.configured
  pub repeats : RepetitionOk st'.repetition

transmitted_awaits : (su : Setup) (sent : Bool) (p : Process) → synchronous su.kind ≡ false → p.awaits_answer ≡ false → (transmitted su sent p).awaits_answer ≡ false
transmitted_awaits su sent p z e = go (gives_up su p) sent
  where
    sends_on : (x : Bool) → (cond x (advanced su p) p).awaits_answer ≡ false
    sends_on true = ap₂ (λ x y. x || y) z e
    sends_on false = e

    go : (up x : Bool) → (cond up (flushed (cond x (advanced su p) p)) (cond x (advanced su p) p)).awaits_answer ≡ false
    go true x = sends_on x
    go false x = sends_on x

course_awaits : (su : Setup) (k : ℕ) (gap : Bool) (v : Decision) (msg3 : Option ℕ) (m : List ℕ) (offers : ℕ → Option (List ℕ)) (p : Process) → synchronous su.kind ≡ false → p.awaits_answer ≡ false
    → (concluded su k gap (work_of (course su v msg3 m offers p))).process.awaits_answer ≡ false
course_awaits su k gap (decision.Rest o) msg3 m offers p z e = e
course_awaits su k gap (decision.Adaptive y) msg3 m offers p z e = transmitted_awaits su (on_air false gap (adapted su y p)) (adapted su y p) z e
course_awaits su k gap decision.NonAdaptive msg3 m offers p z e = transmitted_awaits su (on_air (is_ack p.harq_feedback) gap (repeated su p)) (repeated su p) z e
course_awaits su k gap (decision.New y) msg3 m offers p z e = go (obtained y msg3 m offers)
  where
    go : (o : Option Fresh) → (concluded su k gap (work_of (begun su y p o))).process.awaits_answer ≡ false
    go None = e
    go (Some f) = let q : Process = renewed su y (length f.packet) f.from_msg3 p in transmitted_awaits su (on_air false gap q) q z e

referred_awaits : (g : Option GrantInForce) (p : Process) → (referred g p).awaits_answer ≡ p.awaits_answer
referred_awaits None p = refl
referred_awaits (Some g) p = refl

repetition_ok : (su : Setup) (t : ℕ) (g : Option GrantInForce) (r : Option Repetition) (w : Work) → ForceOkIf su t g → RepetitionOk r → RepetitionOk (repetition_after su.kind t g w r)
repetition_ok su t g r w ok h = go w
  where
    by : (kd : CellKind) → su.kind ≡ kd → (g : Option GrantInForce) → ForceOkIf su t g → RepetitionOk (repetition_by kd t g r)
    by Plain e g ok = h
    by Bundled e g ok = h
    by Asynchronous e None ok = h
    by Asynchronous e (Some y) ok = (ok.pace (ap synchronous e)).1

    go : (w : Work) → RepetitionOk (repetition_after su.kind t g w r)
    go (work.Rest o p) = h
    go (work.New p) = by su.kind refl g ok
    go (work.Again p acked) = by su.kind refl g ok

module _ (su : Setup) (st : State) (m : List ℕ) (gap : Bool) (offers : ℕ → Option (List ℕ)) (g : Option GrantInForce) (l : Log) (met : ℕ → List Met)
    (eight : length st.processes ≡ 8) (good : AllByRecursion (Good su (scene st m met)) l.stays) (one : One st.processes l.stays) (ordered : AllOrdered (st.clock + 1) met)
    (whole : length m ≡ 5805) (timed : TimedLater su.kind st.clock st.processes) (force : ForceOkIf su st.clock g) (stored : StoredOk su st.configured)
    (msg3 : Msg3Ok m l.deposited st.msg3) (repeats : RepetitionOk st.repetition) where
  turn_followed : (o : Option ℕ) → process_of su.kind st.clock g st.repetition ≡ o
      → let d = turn_done su st m gap (fitting offers) g o in Followed su st m l met d (recorded_all d.events l) × Passed su st d.state
  turn_followed None e = (
    record {
      eight = eight;
      good = All-weaker (Good su (scene st m met)) (Good su c') (λ s. good_kept su (scene st m met) c' s (record { clock = omega arith; process = refl; met = refl; parts = λ n h. refl; fewer = fewer_next st.clock st.repetition s.beginning.process })) l.stays good;
      one = one;
      ordered = ordered;
      deposited = refl;
      msg3 = λ n h. refl;
      grown = record { more = 0; new = 0; sent = omega arith; count = λ n. omega arith; all = omega arith; begun = omega arith; stays = omega arith; once = λ f. omega arith };
    },
    record { clock = refl; msg3 = refl; timed = nobody_timed su.kind st.clock st.processes timed; stored = stored; repeats = repeats },
  )
    where
      c' : Scene
      c' = record { processes = st.processes; memory = m; repetition = st.repetition; clock = st.clock + 1; met = met }
  turn_followed (Some k) e =
      let tk = turn_ok su su.kind st.clock g st.repetition k refl force repeats e in (
        follow su st m gap g k l met eight tk.below good one ordered (asked (decided su g p) st.msg3) st.msg3 (fitting offers) tk.paced whole
            (λ y q. quiet_own su.kind st.clock k st.processes tk.below (start y q) tk.owns timed)
            (λ y f q. fresh_ok m l.deposited st.msg3 y offers msg3 f q),
        record {
          clock = refl;
          msg3 = refl;
          timed = own_timed su.kind st.clock k st.processes (concluded su k gap (work_of (course su (decided su g p) st.msg3 m (fitting offers) p))).process eight tk.below tk.owns
              (λ z q. course_awaits su k gap (decided su g p) st.msg3 m (fitting offers) p z (referred_awaits g (process_at st.processes k) ∙ q)) timed;
          stored = stored;
          repeats = repetition_ok su st.clock g st.repetition (work_of (course su (decided su g p) st.msg3 m (fitting offers) p)) force repeats;
        },
      )
    where
      p : Process
      p = referred g (process_at st.processes k)

      start : (y : GrantInForce) → g ≡ Some y → is_bundled su.kind ≡ true → st.clock % 4 ≡ 0
      start y q = (subst (ForceOkIf su st.clock) q force).start

-- every sending of the events is in one stay more
abbrev pub Once : Log → List Event → Type 0
Once l es = (f : Sending → Bool) → passing_of_stays f (recorded_all es l).stays ≡ passing_of_stays f l.stays + passing_of_run f es

-- what a call leaves
abbrev pub Stepped : Setup → ℕ → Log → (ℕ → List Met) → Step → Type 0
Stepped su n l met s = Sound su n s.world (recorded_all s.events l) (met_with s.events met) × Once l s.events

msg3_kept : (m m' : List ℕ) (d d' : Option (List ℕ)) (o : Option ℕ) → ((n : ℕ) → n ≤ 645 → part m' 8 n ≡ part m 8 n) → d' ≡ d → Msg3Ok m d o → Msg3Ok m' d' o
msg3_kept m m' d d' None parts e h = tt
msg3_kept m m' d d' (Some n) parts e h = record { bytes = h.bytes; last = e ∙ h.last; measured = h.measured; stored = parts n h.short ∙ h.stored; some = h.some; short = h.short }

module _ (su : Setup) (n : ℕ) (w : World) (l : Log) (met : ℕ → List Met) (rd : Ready su) (h : Sound su n w l met) where
  subframe_sound : (b : Brought) → first_no (subframe_questions su w.state (length w.memory) (given w b).ready (given w b).gap b.answer b.grant) ≡ Ok tt
      → let d = subframe_done su w.state w.memory (given w b) in Stepped su n l met (record { world = record { state = d.state; memory = d.memory; count = count_after d.sending w.count }; events = d.events })
  subframe_sound b yes-all = (
    subst (λ l'. Sound su n w' l' (met_with (es ++ d.events) met)) (sym (recorded_append es d.events l))
        (subst (Sound su n w' (recorded_all d.events l₁)) (sym (met_append es d.events met))
        (record {
          eight = fw.0.eight;
          good = fw.0.good;
          one = fw.0.one;
          ordered = subst (λ c. AllOrdered c (met_with d.events met₁)) (sym fw.1.clock) fw.0.ordered;
          timed = subst (λ c. Timed su.kind c d.state.processes) (sym fw.1.clock) fw.1.timed;
          stored = fw.1.stored;
          msg3 = subst (Msg3Ok d.memory (recorded_all d.events l₁).deposited) (sym fw.1.msg3) (msg3_kept w.memory d.memory l.deposited (recorded_all d.events l₁).deposited w.state.msg3 fw.0.msg3 (fw.0.deposited ∙ hd.deposited) h.msg3);
          repeats = fw.1.repeats;
          packets = let e₁ = h.packets in let e₂ = g.begun in let e₃ = g.stays in let e₄ = hd.stays in omega arith;
          sent = let e₁ = h.sent in let e₂ = g.sent in let e₃ = g.all in let e₄ = hd.all in omega arith;
          count = let e₁ = h.count in let e₂ = g.count w.count in let e₃ = g.all in let e₄ = hd.all in omega arith;
        })),
    λ f.
        let e₁ = ap (λ z. passing_of_stays f z.stays) (recorded_append es d.events l) in
        let e₂ = g.once f in
        let e₃ = hd.once f in
        let e₄ = hd.none f in
        let e₅ = passing_append f es d.events in
        omega arith,
  )
    where
      st : State
      st = w.state

      t : ℕ
      t = st.clock

      gap : Bool
      gap = b.gaps t

      o : Option ℕ
      o = answering su.kind t

      es : List Event
      es = answer_events o t b.answer gap

      y : Option GrantInForce
      y = grant_in_force su t st.configured b.grant

      s₂ : State
      s₂ = with_configured (heard su st gap b.answer) (stored_after t st.configured b.grant)

      q : Asked su st w.memory b.grant
      q = asked_facts su st w.memory (given w b).ready gap b.answer b.grant yes-all

      hd : Hearing su st w.memory l met s₂.processes es
      hd = hear_each su st w.memory l met gap b.answer h.eight h.good h.one h.ordered o (answers_below su.kind t)

      l₁ : Log
      l₁ = recorded_all es l

      met₁ : ℕ → List Met
      met₁ = met_with es met

      k : Option ℕ
      k = process_of su.kind t y st.repetition

      d : Done
      d = turn_done su s₂ w.memory gap (fitting b.offers) y k

      w' : World
      w' = record { state = d.state; memory = d.memory; count = count_after d.sending w.count }

      fw : Followed su s₂ w.memory l₁ met₁ d (recorded_all d.events l₁) × Passed su s₂ d.state
      fw = turn_followed su s₂ w.memory gap b.offers y l₁ met₁ hd.eight hd.good hd.one hd.ordered q.whole (hear_timed su.kind t gap b.answer st.processes h.eight h.timed)
          (force_ok su t st.configured b.grant q.granted h.stored) (stored_ok su t st.configured b.grant rd q.granted h.stored)
          (msg3_kept w.memory w.memory l.deposited l₁.deposited st.msg3 (λ i z. refl) hd.deposited h.msg3) h.repeats k refl

      g : Grown s₂ d.state d.sending l₁.stays (recorded_all d.events l₁).stays d.events
      g = fw.0.grown

  -- the processes' stretches of packet memory are untouched by a deposit
  deposit_sound : (b : List ℕ) → length w.memory ≡ 5805 → 1 ≤ length b → length b ≤ 645
      → Sound su n (record { state = with_msg3 w.state (Some (length b)); memory = written w.memory 8 b; count = w.count }) (record { stays = l.stays; deposited = Some b; gap = l.gap }) met
  deposit_sound b whole some short = record {
    eight = h.eight;
    good = All-weaker (Good su (scene w.state w.memory met)) (Good su c') elsewhere l.stays h.good;
    one = h.one;
    ordered = h.ordered;
    timed = h.timed;
    stored = h.stored;
    msg3 = record { bytes = b; last = refl; measured = refl; stored = part_written w.memory 8 b whole (omega arith) short; some = some; short = short };
    repeats = h.repeats;
    packets = h.packets;
    sent = h.sent;
    count = h.count;
  }
    where
      c' : Scene
      c' = scene w.state (written w.memory 8 b) met

      elsewhere : (s : Stay) → Good su (scene w.state w.memory met) s → Good su c' s
      elsewhere s good = good_kept su (scene w.state w.memory met) c' s (record { clock = omega arith; process = refl; met = refl; parts = parts; fewer = omega arith }) good
        where
          parts : (i : ℕ) → i ≤ 645 → part (written w.memory 8 b) s.beginning.process i ≡ part w.memory s.beginning.process i
          parts i le = let lt = good.born.below in let ne : s.beginning.process ≢ 8 = λ e. absurd (omega arith) in part_other w.memory 8 b whole (omega arith) short s.beginning.process i le ne

  withdrawal_sound : Sound su n (record { state = with_msg3 w.state None; memory = w.memory; count = w.count }) l met
  withdrawal_sound = record {
    eight = h.eight;
    good = h.good;
    one = h.one;
    ordered = h.ordered;
    timed = h.timed;
    stored = h.stored;
    msg3 = tt;
    repeats = h.repeats;
    packets = h.packets;
    sent = h.sent;
    count = h.count;
  }

  nothing_once : Once l []
  nothing_once f = omega arith

  pub step_sound : (c : Call) → Stepped su n l met (step su w c)
  step_sound (subframe_call b) = go (first_no (subframe_questions su w.state (length w.memory) (given w b).ready (given w b).gap b.answer b.grant)) refl
    where
      go : (r : Result (Unit {0}) Refusal) → first_no (subframe_questions su w.state (length w.memory) (given w b).ready (given w b).gap b.answer b.grant) ≡ r
          → Stepped su n l met (step_of w (subframe_step w (unless_refused r (subframe_done su w.state w.memory (given w b)))))
      go (Ok u) e = subframe_sound b e
      go (Err x) e = (h, nothing_once)
  step_sound (deposit_call b) = go (first_no qs) refl
    where
      qs : List (Bool × Refusal)
      qs = deposit_questions (length w.memory) (length b) w.state.msg3

      go : (r : Result (Unit {0}) Refusal) → first_no qs ≡ r → Stepped su n l met (step_of w (msg3_step w (deposits b ∷ []) (left_unless_refused r (deposit_done w.state w.memory b))))
      go (Ok u) e =
          let ys = all_yes qs e in
          (deposit_sound b (eqb-true (length w.memory) 5805 ys.0) (within_low 1 645 (length b) ys.1.0) (within_high 1 645 (length b) ys.1.0), λ f. omega arith)
      go (Err x) e = (h, nothing_once)
  step_sound withdrawal_call = go (first_no (withdrawal_questions w.state.msg3))
    where
      go : (r : Result (Unit {0}) Refusal) → Stepped su n l met (step_of w (msg3_step w [] (left_unless_refused r (withdrawal_done w.state w.memory))))
      go (Ok u) = (withdrawal_sound, nothing_once)
      go (Err x) = (h, nothing_once)
