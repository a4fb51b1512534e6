-- What one subframe of a process leaves of the stays.
use Rattle.std.proofs.Common.{◌≡◌, ℕ, ◌+◌, ◌*◌, ◌<◌, ◌≤◌, Bool, true, false, cond, not, ◌&&◌, eqb, ltb, ◌≢◌, ◌⊎◌, List, [], ◌∷◌, ◌++◌, length, set, is_some, Some, None, Option, unwrap_or, sym, refl, ap, ◌∙◌, subst, ap₂, inl, inr, zero-add, arith, length-set, get_or-set_other, get_or-set_same}
use Rattle.std.proofs.lemmas.Bool.{eq-eqb, ne_eqb, both_ways, and_parts, cases_eq}
use Rattle.std.specs.List.{AllByRecursion}
use Rattle.terms.specs.declared.answer.Outcome.{Outcome}
use Rattle.terms.specs.declared.answer.Outcome.TheVariants.{Idle, NoPacket}
use Rattle.terms.specs.declared.setup.Setup.{Setup}
use Rattle.terms.specs.declared.grant.Reception.{Reception}
use Rattle.terms.specs.declared.grant.Reception.TheVariants.{CRnti, TemporaryCRnti, SpsRetransmission, Configured, RandomAccessResponse}
use Rattle.terms.specs.declared.grant.GrantInForce.{GrantInForce}
use Rattle.terms.specs.declared.process.Process.{Process}
use Rattle.terms.specs.declared.state.Repetition.{Repetition}
use Rattle.terms.specs.declared.state.State.{State}
use Rattle.terms.specs.declared.decision.Decision.{Decision}
use Rattle.terms.specs.declared.decision.Decision.TheVariants as decision
use Rattle.terms.specs.Versions.{version_at}
use Rattle.terms.specs.Sendings.{Sending}
use Rattle.rules.specs.Memory.{part, written}
use Rattle.rules.specs.Process.{idle, synchronous, is_ack, holds_packet, reference_set, renewed, adapted, repeated, on_air, gives_up, transmitted}
use Rattle.rules.specs.Reception.{reference_kept, referred}
use Rattle.rules.specs.Entity.{process_at, wants_new, spares, decided_by, decided, Fresh, obtained, Course, rests, begins, again, begun, course, work_of, memory_after}
use Rattle.rules.specs.Subframe.{Beginning, Event, meets, Done, concluded, sending, sending_by, sending_if, process_events, start_events, is_starved, repetition_by, repetition_after, one_if, finished}
use Rattle.runs.specs.Runs.{count_after}
use Rattle.runs.specs.Stays.{Met, subframe_met, Stay, Log, goes_on, amend, with_met, with_end, replaced, new_stay, with_stays, recorded_all, subframe_of, met_after, surrounded_all, repetitions, repetitions_met, total, passing, passing_of_run, passing_of_stays, sendings_of_stays}
use Rattle.runs.proofs.Memory.{part_written, part_other}
use Rattle.runs.proofs.Amends.{none_some, Going, going_facts, goings, total_amended, length_amended, goings_other, goings_same, goings_over, amend_twice}
use Rattle.runs.proofs.Life.{Life, life, carried_out, tried, first_process, sent_by, sent_if, end_if, sent_if_length, life_fit, Same, referred_same, transmitted_held, Ordered, none_after}
use Rattle.runs.proofs.Questions.{left, Paced, FreshOk}
use Rattle.runs.proofs.Tied.{Scene, scene, scene_with, life_of, Tied, Good, Change, life_more, good_amended, end_or, amended, begun_stay, tail_events, tail_amended, tail_begun, tail_surrounded, granted_repetitions, room_after, room_new, fewer_next, fewer_after}

-- the surroundings after some events
abbrev pub met_with : List Event → (ℕ → List Met) → ℕ → List Met
met_with es met j = surrounded_all j es (met j)

-- a subframe whose course is known
abbrev pub done_by : Setup → State → List ℕ → Bool → Option GrantInForce → ℕ → Option ℕ → Course → Done
done_by su st m gap g k a c =
    let w = work_of c in
    let m1 = memory_after m k c in
    let e = concluded su k gap w in
    let x = sending st.clock k m1 gap w in
    record {
      reply = e.reply;
      state = finished st k (repetition_after su.kind st.clock g w st.repetition) e;
      memory = m1;
      asked = a;
      sending = x;
      events = process_events k st.clock g gap c x e.reply.given_up;
    }

-- the figures of a state, the radio's count and the stays grow by the same
pub record Grown (st st' : State) (x : Option Sending) (ss ss' : List Stay) (es : List Event) : Type 0 where
  pub more : ℕ
  pub new : ℕ
  pub sent : st'.tally.sendings ≡ st.tally.sendings + more
  pub count : (n : ℕ) → count_after x n ≡ n + more
  pub all : sendings_of_stays ss' ≡ sendings_of_stays ss + more
  pub begun : st'.tally.packets ≡ st.tally.packets + new
  pub stays : length ss' ≡ length ss + new
  pub once : (f : Sending → Bool) → passing_of_stays f ss' ≡ passing_of_stays f ss + passing_of_run f es

-- a stay goes on in each process that holds a packet
abbrev pub One : List Process → List Stay → Type 0
One ps ss = (j : ℕ) → j < 8 → goings j ss ≡ one_if (holds_packet (process_at ps j))

abbrev pub AllOrdered : ℕ → (ℕ → List Met) → Type 0
AllOrdered t met = (j : ℕ) → j < 8 → Ordered t (met j)

pub record Followed (su : Setup) (st : State) (m : List ℕ) (l : Log) (met : ℕ → List Met) (d : Done) (l' : Log) : Type 0 where
  pub eight : length d.state.processes ≡ 8
  pub good : AllByRecursion (Good su (scene d.state d.memory (met_with d.events met))) l'.stays
  pub one : One d.state.processes l'.stays
  pub ordered : AllOrdered (st.clock + 1) (met_with d.events met)
  pub deposited : l'.deposited ≡ l.deposited
  -- the Msg3 buffer is left as it is
  pub msg3 : (n : ℕ) → n ≤ 645 → part d.memory 8 n ≡ part m 8 n
  pub grown : Grown st d.state d.sending l.stays l'.stays d.events

-- Decisions.
abbrev pub Decides : Option GrantInForce → Process → Decision → Type 0
Decides g p (decision.Rest o) = Unit {0}
Decides g p (decision.New y) = (g ≡ Some y) × (wants_new y.reception p ≡ true)
Decides g p (decision.Adaptive y) = holds_packet p ≡ true
Decides g p decision.NonAdaptive = holds_packet p ≡ true

spares_held : (su : Setup) (r : Reception) (p : Process) → spares su r p ≡ true → holds_packet p ≡ true
spares_held su (CRnti n) p e = absurd (both_ways false refl e)
spares_held su TemporaryCRnti p e = absurd (both_ways false refl e)
spares_held su SpsRetransmission p e = absurd (both_ways false refl e)
spares_held su Configured p e = (and_parts (holds_packet p) (not (is_ack p.harq_feedback)) (and_parts (ltb su.interval 10) (holds_packet p && not (is_ack p.harq_feedback)) e).1).0
spares_held su RandomAccessResponse p e = absurd (both_ways false refl e)

pub decides : (su : Setup) (g : Option GrantInForce) (p : Process) → Decides g p (decided su g p)
decides su None p = go (holds_packet p) refl
  where
    go : (h : Bool) → holds_packet p ≡ h → Decides None p (cond h decision.NonAdaptive (decision.Rest Idle))
    go true e = e
    go false e = tt
decides su (Some y) p = go (wants_new y.reception p) (spares su y.reception p) (holds_packet p) refl (spares_held su y.reception p) refl
  where
    go : (n s h : Bool) → wants_new y.reception p ≡ n → (s ≡ true → holds_packet p ≡ true) → holds_packet p ≡ h → Decides (Some y) p (decided_by y n s h)
    go true true h e f q = f refl
    go true false h e f q = (refl, e)
    go false s true e f q = q
    go false s false e f q = tt

-- a packet begins in a process as in one that is idle
pub renewed_first : (su : Setup) (g : Option GrantInForce) (y : GrantInForce) (n : ℕ) (m : Bool) (p : Process) → g ≡ Some y → wants_new y.reception (referred g p) ≡ true → p.awaits_answer ≡ false
    → renewed su y n m (referred g p) ≡ renewed su y n m idle
renewed_first su g y n m p e w a = subst (λ g. wants_new y.reception (referred g p) ≡ true → renewed su y n m (referred g p) ≡ renewed su y n m idle) (sym e) here w
  where
    reference : (r : Reception) (q : Process) → wants_new r q ≡ true → reference_set r (reference_kept r p.reference_ndi) ≡ reference_set r None
    reference (CRnti i) q w = refl
    reference TemporaryCRnti q w = absurd (both_ways false refl w)
    reference SpsRetransmission q w = absurd (both_ways false refl w)
    reference Configured q w = refl
    reference RandomAccessResponse q w = refl

    same : (o o' : Option ℕ) (b b' : Bool) → o ≡ o' → b ≡ b'
        → ◌≡◌ {A = Process} (record { buffer = Some n; from_msg3 = m; current_tx_nb = 0; harq_feedback = (renewed su y n m idle).harq_feedback; current_irv = (renewed su y n m idle).current_irv; mcs = y.mcs; resource = y.resource; reference_ndi = o; awaits_answer = b })
        (record { buffer = Some n; from_msg3 = m; current_tx_nb = 0; harq_feedback = (renewed su y n m idle).harq_feedback; current_irv = (renewed su y n m idle).current_irv; mcs = y.mcs; resource = y.resource; reference_ndi = o'; awaits_answer = b' })
    same o o' b b' e e' = λ i. record { buffer = Some n; from_msg3 = m; current_tx_nb = 0; harq_feedback = (renewed su y n m idle).harq_feedback; current_irv = (renewed su y n m idle).current_irv; mcs = y.mcs; resource = y.resource; reference_ndi = e i; awaits_answer = e' i }

    here : wants_new y.reception (referred (Some y) p) ≡ true → renewed su y n m (referred (Some y) p) ≡ renewed su y n m idle
    here w = same (reference_set y.reception (reference_kept y.reception p.reference_ndi)) (reference_set y.reception None) p.awaits_answer false (reference y.reception (referred (Some y) p) w) a

-- A process changes, and the others do not.
module _ (ps : List Process) (k : ℕ) (p' : Process) (eight : length ps ≡ 8) (lt : k < 8) where
  pub own_process : process_at (set ps k p') k ≡ p'
  own_process = let here : k < length ps = omega arith in get_or-set_same ps k p' idle here

  pub one_after : (ss ss' : List Stay) → One ps ss → ((j : ℕ) → j ≢ k → goings j ss' ≡ goings j ss) → goings k ss' ≡ one_if (holds_packet p') → One (set ps k p') ss'
  one_after ss ss' one others own j jlt = go (cases_eq j k)
    where
      go : (j ≡ k) ⊎ (j ≡ k → ⊥) → goings j ss' ≡ one_if (holds_packet (process_at (set ps k p') j))
      go (inl e) = subst (λ i. goings i ss' ≡ one_if (holds_packet (process_at (set ps k p') i))) (sym e) (own ∙ ap (λ q. one_if (holds_packet q)) (sym own_process))
      go (inr ne) = others j ne ∙ one j jlt ∙ ap (λ q. one_if (holds_packet q)) (sym (get_or-set_other ps k j p' idle ne))

pub process_change : (st : State) (m m' : List ℕ) (met met' : ℕ → List Met) (k : ℕ) (p' : Process) (r' : Option Repetition) (t : ℕ) (x : Met) → st.clock ≤ t → subframe_of x ≡ st.clock
    → ((j : ℕ) → met' j ≡ cond (eqb k j) (x ∷ met j) (met j))
    → ((j n : ℕ) → n ≤ 645 → j ≢ k → part m' j n ≡ part m j n)
    → ((j : ℕ) → j ≢ k → left t r' j ≤ left st.clock st.repetition j)
    → Change k x (scene st m met) (scene_with st k p' m' r' t met')
process_change st m m' met met' k p' r' t x clock dated more parts fewer = record {
  clock = clock;
  dated = dated;
  own = more k ∙ ap (λ b. cond b (x ∷ met k) (met k)) (eq-eqb k k refl);
  others = λ j jlt ne. record {
    clock = clock;
    process = get_or-set_other st.processes k j p' idle ne;
    met = more j ∙ ap (λ b. cond b (x ∷ met j) (met j)) (ne_eqb k j (λ e. ne (sym e)));
    parts = λ n h. parts j n h ne;
    fewer = fewer j ne;
  };
}

pub change_ordered : (k : ℕ) (x : Met) (c c' : Scene) → Change k x c c' → AllOrdered (c.clock + 1) c.met → AllOrdered (c.clock + 1) c'.met
change_ordered k x c c' ch h j jlt = go (cases_eq j k)
  where
    u : subframe_of x ≡ c.clock
    u = ch.dated

    go : (j ≡ k) ⊎ (j ≡ k → ⊥) → Ordered (c.clock + 1) (c'.met j)
    go (inl e) =
        subst (λ i. Ordered (c.clock + 1) (c'.met i)) (sym e)
        (subst (Ordered (c.clock + 1)) (sym ch.own) (omega arith, subst (λ v. Ordered (v + 1) (c.met k)) (sym u) (subst (λ i. Ordered (c.clock + 1) (c.met i)) e (h j jlt))))
    go (inr ne) = subst (Ordered (c.clock + 1)) (sym (ch.others j jlt ne).met) (h j jlt)

-- Figures.
pub sent_length : (on : Bool) (x : Sending) (xs : List Sending) → length (sent_if on x xs) ≡ length xs + one_if on
sent_length true x xs = omega arith
sent_length false x xs = omega arith

sent_passing : (f : Sending → Bool) (on up : Bool) (k t : ℕ) (x : Sending) (xs : List Sending) → passing f (sent_if on x xs) ≡ passing f xs + passing_of_run f (tail_events on x up k t)
sent_passing f true true k t x xs = omega arith
sent_passing f true false k t x xs = omega arith
sent_passing f false true k t x xs = omega arith
sent_passing f false false k t x xs = omega arith

counted_after : (on : Bool) (x : Sending) (n : ℕ) → count_after (sending_if on x) n ≡ n + one_if on
counted_after true x n = refl
counted_after false x n = omega arith

one_le : (b : Bool) → one_if b ≤ 1
one_le true = omega arith
one_le false = omega arith

total_one : (k : ℕ) (f : Stay → Stay) (w : Stay → ℕ) (d : ℕ) → ((s : Stay) → w (f s) ≡ w s + d) → (ss : List Stay) → goings k ss ≡ 1 → total w (amend k f ss) ≡ total w ss + d
total_one k f w d h ss e = total_amended k f w d h ss ∙ ap (λ n. total w ss + n * d) e ∙ (let z : total w ss + 1 * d ≡ total w ss + d = omega arith in z)

pub total_same : (k : ℕ) (f : Stay → Stay) (w : Stay → ℕ) → ((s : Stay) → w (f s) ≡ w s) → (ss : List Stay) → total w (amend k f ss) ≡ total w ss
total_same k f w h ss = total_amended k f w 0 (λ s. h s ∙ (let z : w s ≡ w s + 0 = omega arith in z)) ss ∙ (let z : total w ss + goings k ss * 0 ≡ total w ss = omega arith in z)

-- repetitions that a stay met
met_granted : (t : ℕ) (g : Option GrantInForce) (gap : Bool) (ms : List Met) → repetitions_met (subframe_met t g gap false ∷ ms) ≡ granted_repetitions g + repetitions_met ms
met_granted t (Some g) gap ms = refl
met_granted t None gap ms = omega arith

met_as_many : (t : ℕ) (g : Option GrantInForce) (gap starve : Bool) (ms : List Met) → repetitions_met ms ≤ repetitions_met (subframe_met t g gap starve ∷ ms)
met_as_many t (Some g) gap true ms = omega arith
met_as_many t (Some g) gap false ms = omega arith
met_as_many t None gap starve ms = omega arith

same_sending : (p : Process) (t k k' : ℕ) (b b' : List ℕ) → k ≡ k' → b ≡ b'
    → ◌≡◌ {A = Sending} (record { subframe = t; process = k; version = version_at p.current_irv; mcs = p.mcs; resource = p.resource; packet = b })
    (record { subframe = t; process = k'; version = version_at p.current_irv; mcs = p.mcs; resource = p.resource; packet = b' })
same_sending p t k k' b b' e e' = λ i. record { subframe = t; process = e i; version = version_at p.current_irv; mcs = p.mcs; resource = p.resource; packet = e' i }

end_or_none : (up : Bool) (t : ℕ) (o : Option ℕ) → o ≡ None → end_or up t o ≡ end_if up t
end_or_none true t o e = refl
end_or_none false t o e = e

module _ (su : Setup) (st : State) (m : List ℕ) (gap : Bool) (g : Option GrantInForce) (k : ℕ) (l : Log) (met : ℕ → List Met)
    (eight : length st.processes ≡ 8) (lt : k < 8) (good : AllByRecursion (Good su (scene st m met)) l.stays) (one : One st.processes l.stays)
    (ordered : AllOrdered (st.clock + 1) met) where
  -- the process once the grant in force is known
  abbrev ready : Process
  ready = referred g (process_at st.processes k)

  -- the stay that goes on lives as the process does
  lives : (starve : Bool) (c' : Scene) → Change k (subframe_met st.clock g gap starve) (scene st m met) c' → (s : Stay) → goes_on k s ≡ true → Good su (scene st m met) s
      → life_of su (c'.met s.beginning.process) s ≡ carried_out su s.beginning st.clock gap starve (decided su g ready) ready s.sendings
  lives starve c' ch s e h =
      let i = going_facts k s e in
      let now : process_at st.processes k ≡ (life_of su (met s.beginning.process) s).process = ap (process_at st.processes) (sym i.process) ∙ (h.going i.unended).state in
      life_more su k (subframe_met st.clock g gap starve) (scene st m met) c' ch s e h
      ∙ ap₂ (λ q xs. carried_out su s.beginning st.clock gap starve (decided su g (referred g q)) (referred g q) xs) (sym now) (sym h.sent)

  -- the stay that goes on still does, or is given up
  good_on : (starve : Bool) (p' : Process) (r' : Option Repetition) (on : Bool) (x : Sending) (up : Bool) (met' : ℕ → List Met)
      → let c' : Scene = scene_with st k p' m r' (st.clock + 1) met' in
      Change k (subframe_met st.clock g gap starve) (scene st m met) c'
      → ((s : Stay) → goes_on k s ≡ true → Good su (scene st m met) s → carried_out su s.beginning st.clock gap starve (decided su g ready) ready s.sendings ≡ record { process = p'; sendings = sent_if on x s.sendings; ended = end_if up st.clock })
      → ((s : Stay) → synchronous su.kind ≡ false → length s.sendings + left st.clock st.repetition k ≤ repetitions s → length (sent_if on x s.sendings) + left (st.clock + 1) r' k ≤ repetitions (amended (subframe_met st.clock g gap starve) on x up st.clock s))
      → AllByRecursion (Good su c') (amend k (amended (subframe_met st.clock g gap starve) on x up st.clock) l.stays)
  good_on starve p' r' on x up met' ch alone room = good_amended su k (subframe_met st.clock g gap starve) (scene st m met) c' ch (amended (subframe_met st.clock g gap starve) on x up st.clock) step l.stays good
    where
      c' : Scene
      c' = scene_with st k p' m r' (st.clock + 1) met'

      step : (s : Stay) → goes_on k s ≡ true → Good su (scene st m met) s → Good su c' (amended (subframe_met st.clock g gap starve) on x up st.clock s)
      step s e h = record {
        born = h.born;
        began = let a = h.began in omega arith;
        sent = sym (ap (λ z. z.sendings) here);
        over = end_or_none up st.clock s.ended i.unended ∙ sym (ap (λ z. z.ended) here);
        room = λ z. let a = roomy z in omega arith;
        going = λ u. record {
          state = ap (process_at (set st.processes k p')) i.process ∙ own_process st.processes k p' eight lt ∙ sym (ap (λ z. z.process) here);
          stored = (h.going i.unended).stored;
          room = λ z. subst (λ j. length (sent_if on x s.sendings) + left (st.clock + 1) r' j ≤ repetitions (amended (subframe_met st.clock g gap starve) on x up st.clock s)) (sym i.process) (roomy z);
        };
      }
        where
          i : Going k s
          i = going_facts k s e

          here : life_of su (c'.met s.beginning.process) s ≡ record { process = p'; sendings = sent_if on x s.sendings; ended = end_if up st.clock }
          here = lives starve c' ch s e h ∙ alone s e h

          roomy : synchronous su.kind ≡ false → length (sent_if on x s.sendings) + left (st.clock + 1) r' k ≤ repetitions (amended (subframe_met st.clock g gap starve) on x up st.clock s)
          roomy z = room s z (subst (λ j. length s.sendings + left st.clock st.repetition j ≤ repetitions s) i.process ((h.going i.unended).room z))

  pub follow_rests : (a : Option ℕ) (o : Outcome) → ((s : Stay) → carried_out su s.beginning st.clock gap (is_starved o) (decided su g ready) ready s.sendings ≡ record { process = ready; sendings = s.sendings; ended = None })
      → let d = done_by su st m gap g k a (rests o ready) in Followed su st m l met d (recorded_all d.events l)
  follow_rests a o alone = record {
    eight = length-set st.processes k ready ∙ eight;
    good = good_on (is_starved o) ready st.repetition false (sending_by t k m ready) false (met_with es met) ch (λ s e h. alone s) (λ s z h. let b = met_as_many t g gap (is_starved o) s.met in let c = fewer_next t st.repetition k in omega arith);
    one = one_after st.processes k ready eight lt l.stays (amend k f l.stays) one (λ j ne. goings_other k f (λ s. refl) j ne l.stays) (goings_same k f (λ s. refl) (λ s. refl) l.stays ∙ one k lt ∙ ap (λ q. one_if (is_some q)) (sym (referred_same g (process_at st.processes k)).buffer));
    ordered = change_ordered k x (scene st m met) c' ch ordered;
    deposited = refl;
    msg3 = λ n h. refl;
    grown = record {
      more = 0;
      new = 0;
      sent = refl;
      count = λ n. omega arith;
      all = total_same k f (λ s. length s.sendings) (λ s. refl) l.stays ∙ (let z : sendings_of_stays l.stays ≡ sendings_of_stays l.stays + 0 = omega arith in z);
      begun = refl;
      stays = length_amended k f l.stays ∙ (let z : length l.stays ≡ length l.stays + 0 = omega arith in z);
      once = λ c. total_same k f (λ s. passing c s.sendings) (λ s. refl) l.stays ∙ (let z : passing_of_stays c l.stays ≡ passing_of_stays c l.stays + 0 = omega arith in z);
    };
  }
    where
      t : ℕ
      t = st.clock

      x : Met
      x = subframe_met st.clock g gap (is_starved o)

      es : List Event
      es = meets k st.clock g gap (is_starved o) ∷ []

      f : Stay → Stay
      f = with_met (subframe_met st.clock g gap (is_starved o))

      c' : Scene
      c' = scene_with st k ready m st.repetition (st.clock + 1) (met_with es met)

      ch : Change k (subframe_met st.clock g gap (is_starved o)) (scene st m met) c'
      ch = process_change st m m met (met_with es met) k ready st.repetition (st.clock + 1) x (omega arith) refl (λ j. refl) (λ j n h ne. refl) (λ j ne. fewer_next st.clock st.repetition j)

  -- a retransmission
  pub follow_again : (a : Option ℕ) (p' : Process) (acked : Bool) → Paced su.kind st.clock g st.repetition k → holds_packet (process_at st.processes k) ≡ true → p'.buffer ≡ (process_at st.processes k).buffer
      → ((s : Stay) → carried_out su s.beginning st.clock gap false (decided su g ready) ready s.sendings ≡ tried su s.beginning st.clock gap acked p' s.sendings)
      → let d = done_by su st m gap g k a (again p' acked) in Followed su st m l met d (recorded_all d.events l)
  follow_again a p' acked paced full buffer alone =
      subst (Followed su st m l met (done_by su st m gap g k a (again p' acked))) (sym (tail_amended (record { stays = l.stays; deposited = l.deposited; gap = gap }) k t x on y up l.stays refl))
      (record {
        eight = length-set st.processes k q ∙ eight;
        good = good_on false q r' on y up (met_with es met) ch transmits room;
        one = one_after st.processes k q eight lt l.stays (amend k f l.stays) one (λ j ne. goings_other k f (λ s. refl) j ne l.stays) (own up refl ∙ ap one_if (sym (transmitted_held su on p' (ap is_some buffer ∙ full))));
        ordered = change_ordered k x (scene st m met) c' ch ordered;
        deposited = refl;
        msg3 = λ n h. refl;
        grown = record {
          more = one_if on;
          new = 0;
          sent = refl;
          count = counted_after on y;
          all = total_one k f (λ s. length s.sendings) (one_if on) (λ s. sent_length on y s.sendings) l.stays goes;
          begun = refl;
          stays = length_amended k f l.stays ∙ (let z : length l.stays ≡ length l.stays + 0 = omega arith in z);
          once = λ c. total_one k f (λ s. passing c s.sendings) (passing_of_run c (tail_events on y up k t)) (λ s. sent_passing c on up k t y s.sendings) l.stays goes;
        };
      })
    where
      t : ℕ
      t = st.clock

      on : Bool
      on = on_air acked gap p'

      up : Bool
      up = gives_up su p'

      q : Process
      q = transmitted su (on_air acked gap p') p'

      r' : Option Repetition
      r' = repetition_by su.kind st.clock g st.repetition

      x : Met
      x = subframe_met st.clock g gap false

      y : Sending
      y = sending_by st.clock k m p'

      es : List Event
      es = meets k st.clock g gap false ∷ tail_events (on_air acked gap p') (sending_by st.clock k m p') (gives_up su p') k st.clock

      f : Stay → Stay
      f = amended x on y up t

      goes : goings k l.stays ≡ 1
      goes = one k lt ∙ ap one_if full

      c' : Scene
      c' = scene_with st k q m r' (st.clock + 1) (met_with es met)

      ch : Change k (subframe_met st.clock g gap false) (scene st m met) c'
      ch = process_change st m m met (met_with es met) k q r' (st.clock + 1) x (omega arith) refl (λ j. tail_surrounded j on y up k t (cond (eqb k j) (x ∷ met j) (met j))) (λ j n h ne. refl) (fewer_after su.kind t g st.repetition k paced)

      own : (u : Bool) → gives_up su p' ≡ u → goings k (amend k (amended x on y u t) l.stays) ≡ one_if (not u)
      own true e = goings_over k (amended x on y true t) (λ s. refl) l.stays
      own false e = goings_same k (amended x on y false t) (λ s. refl) (λ s. refl) l.stays ∙ goes

      transmits : (s : Stay) → goes_on k s ≡ true → Good su (scene st m met) s → carried_out su s.beginning t gap false (decided su g ready) ready s.sendings ≡ record { process = q; sendings = sent_if on y s.sendings; ended = end_if up t }
      transmits s e h = alone s ∙ ap {B = Life} (λ z. record { process = q; sendings = sent_if on z s.sendings; ended = end_if up t }) (sym carries)
        where
          i : Going k s
          i = going_facts k s e

          tied : Tied su (scene st m met) s
          tied = h.going i.unended

          size : p'.buffer ≡ Some (length s.beginning.packet)
          size = buffer ∙ ap (λ j. (process_at st.processes j).buffer) (sym i.process) ∙ ap (λ z. z.buffer) tied.state ∙ (life_fit su s.beginning s.gap (met_after s.beginning.first (met s.beginning.process))).full (sym h.over ∙ i.unended)

          carries : y ≡ sent_by t s.beginning p'
          carries = same_sending p' t k s.beginning.process (part m k (unwrap_or p'.buffer 0)) s.beginning.packet (sym i.process)
              (ap (λ z. part m k (unwrap_or z 0)) size ∙ ap (λ j. part m j (length s.beginning.packet)) (sym i.process) ∙ tied.stored)

      room : (s : Stay) → synchronous su.kind ≡ false → length s.sendings + left t st.repetition k ≤ repetitions s → length (sent_if on y s.sendings) + left (t + 1) r' k ≤ repetitions (amended x on y up t s)
      room s z h =
          let b = sent_if_length on y s.sendings in
          let c = met_granted t g gap s.met in
          let e = room_after su.kind t g st.repetition k (length s.sendings) (repetitions s) z paced h in
          omega arith

  -- a new transmission: the packet before it is over
  module _ (w : GrantInForce) (f : Fresh) (granted : g ≡ Some w) (paced : Paced su.kind st.clock g st.repetition k) (whole : length m ≡ 5805) (fresh : FreshOk l.deposited f) where
    abbrev beginning : Beginning
    beginning = record { process = k; first = st.clock; grant = w; from_msg3 = f.from_msg3; packet = f.packet }

    pub follow_begins : (a : Option ℕ)
        → ((s : Stay) → carried_out su s.beginning st.clock gap false (decided su g ready) ready s.sendings ≡ record { process = ready; sendings = s.sendings; ended = Some st.clock })
        → let d = done_by su st m gap g k a (begins w f (first_process su beginning)) in Followed su st m l met d (recorded_all d.events l)
    follow_begins a alone =
        subst (Followed su st m l met (done_by su st m gap g k a (begins w f p))) (sym log_after)
        (record {
          eight = length-set st.processes k q ∙ eight;
          good = (new_good, good_amended su k x (scene st m met) c' ch (with_end t) ends l.stays good);
          one = one_after st.processes k q eight lt l.stays (s' ∷ amend k (with_end t) l.stays) one
              (λ j ne. ap₂ (λ b n. one_if b + n) (elsewhere j ne) (goings_other k (with_end t) (λ s. refl) j ne l.stays) ∙ zero-add (goings j l.stays))
              (ap₂ (λ b n. one_if b + n) (new_goes up) (goings_over k (with_end t) (λ s. refl) l.stays) ∙ (let z : one_if (not up) + 0 ≡ one_if (not up) = omega arith in z) ∙ ap one_if (sym (transmitted_held su on p refl)));
          ordered = ordered';
          deposited = refl;
          msg3 = λ n h. let ne : (8 ≡ k → ⊥) = λ e. absurd (omega arith) in part_other m k f.packet whole (omega arith) fresh.short 8 n h ne;
          grown = record {
            more = one_if on;
            new = 1;
            sent = refl;
            count = counted_after on y;
            all = let b = sent_length on y [] in let c = total_same k (with_end t) (λ s. length s.sendings) (λ s. refl) l.stays in omega arith;
            begun = refl;
            stays = let b = length_amended k (with_end t) l.stays in omega arith;
            once = λ c. let b = sent_passing c on up k t y [] in let e = total_same k (with_end t) (λ s. passing c s.sendings) (λ s. refl) l.stays in omega arith;
          };
        })
      where
        t : ℕ
        t = st.clock

        b : Beginning
        b = record { process = k; first = st.clock; grant = w; from_msg3 = f.from_msg3; packet = f.packet }

        p : Process
        p = first_process su b

        on : Bool
        on = on_air false gap p

        up : Bool
        up = gives_up su p

        q : Process
        q = transmitted su on p

        r' : Option Repetition
        r' = repetition_by su.kind st.clock g st.repetition

        m' : List ℕ
        m' = written m k f.packet

        x : Met
        x = subframe_met st.clock g gap false

        y : Sending
        y = sending_by st.clock k m' p

        l₁ : Log
        l₁ = record { stays = l.stays; deposited = l.deposited; gap = gap }

        s' : Stay
        s' = begun_stay l₁ b on y up t

        es : List Event
        es = start_events k t (begins w f p) ++ tail_events on y up k t

        c' : Scene
        c' = scene_with st k q m' r' (st.clock + 1) (met_with (meets k st.clock g gap false ∷ es) met)

        log_after : recorded_all (meets k t g gap false ∷ es) l ≡ with_stays l₁ (s' ∷ amend k (with_end t) l.stays)
        log_after =
            ap (λ ss. recorded_all (tail_events on y up k t) (with_stays l₁ (new_stay l₁ b ∷ ss))) (amend_twice k (with_met x) (replaced t) (λ s. refl) (λ s. refl) l.stays)
            ∙ tail_begun l₁ k t b on y up (amend k (with_end t) l.stays) refl refl (goings_over k (with_end t) (λ s. refl) l.stays)

        ch : Change k x (scene st m met) c'
        ch = process_change st m m' met (met_with (meets k t g gap false ∷ es) met) k q r' (st.clock + 1) x (omega arith) refl (λ j. tail_surrounded j on y up k t (cond (eqb k j) (x ∷ met j) (met j))) (λ j n h ne. part_other m k f.packet whole (omega arith) fresh.short j n h ne) (fewer_after su.kind t g st.repetition k paced)

        ordered' : AllOrdered (t + 1) c'.met
        ordered' = change_ordered k x (scene st m met) c' ch ordered

        ends : (s : Stay) → goes_on k s ≡ true → Good su (scene st m met) s → Good su c' (with_end t s)
        ends s e h = record {
          born = h.born;
          began = let z = h.began in omega arith;
          sent = sym (ap (λ z. z.sendings) here);
          over = sym (ap (λ z. z.ended) here);
          room = h.room;
          going = λ u. absurd (none_some (sym u));
        }
          where
            here : life_of su (c'.met s.beginning.process) s ≡ record { process = ready; sendings = s.sendings; ended = Some t }
            here = lives false c' ch s e h ∙ alone s

        new_goes : (u : Bool) → goes_on k (begun_stay l₁ b on y u t) ≡ not u
        new_goes true = ap (λ z. z && false) (eq-eqb k k refl)
        new_goes false = ap (λ z. z && true) (eq-eqb k k refl)

        elsewhere : (j : ℕ) → j ≢ k → goes_on j s' ≡ false
        elsewhere j ne = ap (λ z. z && not (is_some s'.ended)) (ne_eqb k j (λ e. ne (sym e)))

        stored : part m' k (length f.packet) ≡ f.packet
        stored = part_written m k f.packet whole (omega arith) fresh.short

        alive : life_of su (c'.met k) s' ≡ tried su b t gap false p []
        alive = ap (life su b gap) (none_after t (c'.met k) (ordered' k lt))

        carries : y ≡ sent_by t b p
        carries = same_sending p t k k (part m' k (length f.packet)) f.packet refl stored

        room : synchronous su.kind ≡ false → length s'.sendings + left (t + 1) r' k ≤ repetitions s'
        room z =
            let a = sent_if_length on y [] in
            let c = subst (λ h. Paced su.kind t h st.repetition k → 1 + left (t + 1) (repetition_by su.kind t h st.repetition) k ≤ w.repetitions) (sym granted) (room_new su.kind t w st.repetition k z) paced in
            omega arith

        new_good : Good su c' s'
        new_good = record {
          born = record { below = lt; some = fresh.some; short = fresh.short; deposit = fresh.deposit };
          began = omega arith;
          sent = ap (λ z. sent_if on z []) carries ∙ sym (ap (λ z. z.sendings) alive);
          over = sym (ap (λ z. z.ended) alive);
          room = λ z. let a = room z in omega arith;
          going = λ u. record {
            state = own_process st.processes k q eight lt ∙ sym (ap (λ z. z.process) alive);
            stored = stored;
            room = room;
          };
        }

  -- the subframe of process k, by its decision
  pub follow : (a : Option ℕ) (msg3 : Option ℕ) (offers : ℕ → Option (List ℕ)) → Paced su.kind st.clock g st.repetition k → length m ≡ 5805
      → ((y : GrantInForce) → g ≡ Some y → (process_at st.processes k).awaits_answer ≡ false)
      → ((y : GrantInForce) (f : Fresh) → obtained y msg3 m offers ≡ Some f → FreshOk l.deposited f)
      → let d = done_by su st m gap g k a (course su (decided su g ready) msg3 m offers ready) in Followed su st m l met d (recorded_all d.events l)
  follow a msg3 offers paced whole quiet fresh = go (decided su g ready) refl (decides su g ready)
    where
      same : Same (process_at st.processes k) ready
      same = referred_same g (process_at st.processes k)

      go : (v : Decision) → decided su g ready ≡ v → Decides g ready v → let d = done_by su st m gap g k a (course su v msg3 m offers ready) in Followed su st m l met d (recorded_all d.events l)
      go (decision.Rest o) e h = follow_rests a o (λ s. ap (λ v. carried_out su s.beginning st.clock gap (is_starved o) v ready s.sendings) e)
      go (decision.Adaptive y) e h = follow_again a (adapted su y ready) false paced (sym (ap is_some same.buffer) ∙ h) same.buffer (λ s. ap (λ v. carried_out su s.beginning st.clock gap false v ready s.sendings) e)
      go decision.NonAdaptive e h = follow_again a (repeated su ready) (is_ack ready.harq_feedback) paced (sym (ap is_some same.buffer) ∙ h) same.buffer (λ s. ap (λ v. carried_out su s.beginning st.clock gap false v ready s.sendings) e)
      go (decision.New y) e h = obtains (obtained y msg3 m offers) refl
        where
          obtains : (o : Option Fresh) → obtained y msg3 m offers ≡ o → let d = done_by su st m gap g k a (begun su y ready o) in Followed su st m l met d (recorded_all d.events l)
          obtains None q = follow_rests a NoPacket (λ s. ap (λ v. carried_out su s.beginning st.clock gap true v ready s.sendings) e)
          obtains (Some f) q =
              subst (λ p. let d = done_by su st m gap g k a (begins y f p) in Followed su st m l met d (recorded_all d.events l)) (sym (renewed_first su g y (length f.packet) f.from_msg3 (process_at st.processes k) h.0 h.1 (quiet y h.0)))
              (follow_begins y f h.0 paced whole (fresh y f q) a (λ s. ap (λ v. carried_out su s.beginning st.clock gap false v ready s.sendings) e))
