-- How processes, packet memory and repetitions are tied to the stays.
use Rattle.std.proofs.Common.{◌≡◌, ℕ, ◌+◌, ◌-◌, ◌<◌, ◌≤◌, Bool, true, false, cond, eqb, ◌≢◌, ◌⊎◌, List, [], ◌∷◌, ◌++◌, length, set, is_some, Some, None, Option, sym, refl, ap, ◌∙◌, ap₂, inl, inr, arith}
use Rattle.std.proofs.lemmas.Bool.{ne_eqb, both_ways, lt-ltb, cases_eq}
use Rattle.std.specs.List.{AllByRecursion}
use Rattle.terms.specs.declared.setup.CellKind.{CellKind}
use Rattle.terms.specs.declared.setup.CellKind.TheVariants.{Plain, Bundled, Asynchronous}
use Rattle.terms.specs.declared.setup.Setup.{Setup}
use Rattle.terms.specs.declared.grant.GrantInForce.{GrantInForce}
use Rattle.terms.specs.declared.process.Process.{Process}
use Rattle.terms.specs.declared.state.Repetition.{Repetition}
use Rattle.terms.specs.declared.state.State.{State}
use Rattle.terms.specs.Sendings.{Sending}
use Rattle.rules.specs.Memory.{part}
use Rattle.rules.specs.Process.{synchronous}
use Rattle.rules.specs.Entity.{process_at}
use Rattle.rules.specs.Subframe.{Beginning, Event, sending_if, send_events, flush_events, repetition_by}
use Rattle.runs.specs.Stays.{Met, Stay, Log, goes_on, amend, with_met, with_sending, with_end, new_stay, with_stays, recorded_all, subframe_of, met_after, surrounded_all, repetitions}
use Rattle.runs.proofs.Amends.{going_facts, going_from, not_going, goings, all_amended, amend_none, amend_twice}
use Rattle.runs.proofs.Life.{Life, life, lived, life_over, life_on, sent_if, end_if}
use Rattle.runs.proofs.Questions.{left, Paced}

-- what the stays are tied to; `met` has the surroundings of each process
pub record Scene : Type 0 where
  pub processes : List Process
  pub memory : List ℕ
  pub repetition : Option Repetition
  pub clock : ℕ
  pub met : ℕ → List Met

abbrev pub scene : State → List ℕ → (ℕ → List Met) → Scene
scene st m met = record { processes = st.processes; memory = m; repetition = st.repetition; clock = st.clock; met = met }

-- process k is now p, in subframe t
abbrev pub scene_with : State → ℕ → Process → List ℕ → Option Repetition → ℕ → (ℕ → List Met) → Scene
scene_with st k p m r t met = record { processes = set st.processes k p; memory = m; repetition = r; clock = t; met = met }

-- the life of a stay in its surroundings
abbrev pub life_of : Setup → List Met → Stay → Life
life_of su ms s = life su s.beginning s.gap (met_after s.beginning.first ms)

-- a stay that goes on
pub record Tied (su : Setup) (c : Scene) (s : Stay) : Type 0 where
  pub state : process_at c.processes s.beginning.process ≡ (life_of su (c.met s.beginning.process) s).process
  pub stored : part c.memory s.beginning.process (length s.beginning.packet) ≡ s.beginning.packet
  pub room : synchronous su.kind ≡ false → length s.sendings + left c.clock c.repetition s.beginning.process ≤ repetitions s

-- what a beginning and the last deposit before it have for good
pub record Born (b : Beginning) (d : Option (List ℕ)) : Type 0 where
  pub below : b.process < 8
  pub some : 1 ≤ length b.packet
  pub short : length b.packet ≤ 645
  pub deposit : b.from_msg3 ≡ true → d ≡ Some b.packet

pub record Good (su : Setup) (c : Scene) (s : Stay) : Type 0 where
  pub born : Born s.beginning s.deposited
  pub began : s.beginning.first < c.clock
  pub sent : s.sendings ≡ (life_of su (c.met s.beginning.process) s).sendings
  pub over : s.ended ≡ (life_of su (c.met s.beginning.process) s).ended
  pub room : synchronous su.kind ≡ false → length s.sendings ≤ repetitions s
  pub going : s.ended ≡ None → Tied su c s

-- process j is left as it is
pub record Keeps (j : ℕ) (c c' : Scene) : Type 0 where
  pub clock : c.clock ≤ c'.clock
  pub process : process_at c'.processes j ≡ process_at c.processes j
  pub met : c'.met j ≡ c.met j
  pub parts : (n : ℕ) → n ≤ 645 → part c'.memory j n ≡ part c.memory j n
  pub fewer : left c'.clock c'.repetition j ≤ left c.clock c.repetition j

pub good_kept : (su : Setup) (c c' : Scene) (s : Stay) → Keeps s.beginning.process c c' → Good su c s → Good su c' s
good_kept su c c' s k g = record {
  born = g.born;
  began = let a = g.began in let b = k.clock in omega arith;
  sent = g.sent ∙ sym (ap (λ ms. (life_of su ms s).sendings) k.met);
  over = g.over ∙ sym (ap (λ ms. (life_of su ms s).ended) k.met);
  room = g.room;
  going = λ e. let h = g.going e in record {
    state = k.process ∙ h.state ∙ sym (ap (λ ms. (life_of su ms s).process) k.met);
    stored = k.parts (length s.beginning.packet) g.born.short ∙ h.stored;
    room = λ z. let a = h.room z in let b = k.fewer in omega arith;
  };
}

-- process k meets x in the subframe of the clock, and the others are left as they are
pub record Change (k : ℕ) (x : Met) (c c' : Scene) : Type 0 where
  pub clock : c.clock ≤ c'.clock
  pub dated : subframe_of x ≡ c.clock
  pub own : c'.met k ≡ x ∷ c.met k
  pub others : (j : ℕ) → j < 8 → j ≢ k → Keeps j c c'

module _ (su : Setup) (k : ℕ) (x : Met) (c c' : Scene) (ch : Change k x c c') where
  -- what a stay of process k met is one more
  met_more : (s : Stay) → s.beginning.process ≡ k → s.beginning.first < c.clock → met_after s.beginning.first (c'.met s.beginning.process) ≡ x ∷ met_after s.beginning.first (c.met s.beginning.process)
  met_more s e lt =
      ap (λ j. met_after s.beginning.first (c'.met j)) e
      ∙ ap (met_after s.beginning.first) ch.own
      ∙ ap (λ b. cond b (x ∷ met_after s.beginning.first (c.met k)) (met_after s.beginning.first (c.met k))) (lt-ltb s.beginning.first (subframe_of x) (let d = ch.dated in omega arith))
      ∙ ap (λ j. x ∷ met_after s.beginning.first (c.met j)) (sym e)

  good_over : (s : Stay) → s.beginning.process ≡ k → is_some s.ended ≡ true → Good su c s → Good su c' s
  good_over s e z g = record {
    born = g.born;
    began = let a = g.began in let b = ch.clock in omega arith;
    sent = g.sent ∙ sym (ap (λ l. l.sendings) same);
    over = g.over ∙ sym (ap (λ l. l.ended) same);
    room = g.room;
    going = λ u. absurd (both_ways (is_some s.ended) (ap is_some u) z);
  }
    where
      same : life_of su (c'.met s.beginning.process) s ≡ life_of su (c.met s.beginning.process) s
      same =
          ap (life su s.beginning s.gap) (met_more s e g.began)
          ∙ life_over su s.beginning s.gap x (met_after s.beginning.first (c.met s.beginning.process)) (sym (ap is_some g.over) ∙ z)

  -- the stay that goes on lives through x
  pub life_more : (s : Stay) → goes_on k s ≡ true → Good su c s → life_of su (c'.met s.beginning.process) s ≡ lived su s.beginning x (life_of su (c.met s.beginning.process) s)
  life_more s e g =
      let h = going_facts k s e in
      ap (life su s.beginning s.gap) (met_more s h.process g.began)
      ∙ life_on su s.beginning s.gap x (met_after s.beginning.first (c.met s.beginning.process)) (sym g.over ∙ h.unended)

  pub good_amended : (f : Stay → Stay) → ((s : Stay) → goes_on k s ≡ true → Good su c s → Good su c' (f s)) → (ss : List Stay) → AllByRecursion (Good su c) ss → AllByRecursion (Good su c') (amend k f ss)
  good_amended f h = all_amended k f (Good su c) (Good su c') h rest
    where
      rest : (s : Stay) → goes_on k s ≡ false → Good su c s → Good su c' s
      rest s e g = here (cases_eq s.beginning.process k)
        where
          over : (q : s.beginning.process ≡ k) → (s.beginning.process ≢ k) ⊎ (is_some s.ended ≡ true) → Good su c' s
          over q (inl ne) = absurd (ne q)
          over q (inr z) = good_over s q z g

          here : (s.beginning.process ≡ k) ⊎ (s.beginning.process ≡ k → ⊥) → Good su c' s
          here (inl q) = over q (not_going k s e)
          here (inr ne) = good_kept su c c' s (ch.others s.beginning.process g.born.below ne) g

-- What one of its subframes makes of the stay that goes on.
abbrev pub end_or : Bool → ℕ → Option ℕ → Option ℕ
end_or true t o = Some t
end_or false t o = o

abbrev pub amended : Met → Bool → Sending → Bool → ℕ → Stay → Stay
amended mt on x up t s = record { beginning = s.beginning; gap = s.gap; sendings = sent_if on x s.sendings; met = mt ∷ s.met; ended = end_or up t s.ended; deposited = s.deposited }

abbrev pub begun_stay : Log → Beginning → Bool → Sending → Bool → ℕ → Stay
begun_stay l b on x up t = record { beginning = b; gap = l.gap; sendings = sent_if on x []; met = []; ended = end_if up t; deposited = l.deposited }

abbrev pub tail_events : Bool → Sending → Bool → ℕ → ℕ → List Event
tail_events on x up k t = send_events (sending_if on x) ++ flush_events up k t

pub tail_amended : (l : Log) (k t : ℕ) (mt : Met) (on : Bool) (x : Sending) (up : Bool) (ss : List Stay) → x.process ≡ k
    → recorded_all (tail_events on x up k t) (with_stays l (amend k (with_met mt) ss)) ≡ with_stays l (amend k (amended mt on x up t) ss)
tail_amended l k t mt false x false ss e = refl
tail_amended l k t mt false x true ss e = ap (with_stays l) (amend_twice k (with_met mt) (with_end t) (λ s. refl) (λ s. refl) ss)
tail_amended l k t mt true x false ss e = ap (with_stays l) (ap (λ j. amend j (with_sending x) (amend k (with_met mt) ss)) e ∙ amend_twice k (with_met mt) (with_sending x) (λ s. refl) (λ s. refl) ss)
tail_amended l k t mt true x true ss e =
    ap (with_stays l)
    (ap (amend k (with_end t)) (ap (λ j. amend j (with_sending x) (amend k (with_met mt) ss)) e ∙ amend_twice k (with_met mt) (with_sending x) (λ s. refl) (λ s. refl) ss)
    ∙ amend_twice k (λ s. with_sending x (with_met mt s)) (with_end t) (λ s. refl) (λ s. refl) ss)

-- the first of the stays alone goes on in process k
amend_first : (k : ℕ) (f : Stay → Stay) (s : Stay) (ss : List Stay) → s.beginning.process ≡ k → s.ended ≡ None → goings k ss ≡ 0 → amend k f (s ∷ ss) ≡ f s ∷ ss
amend_first k f s ss e u none = ap₂ {C = List Stay} (λ b l. cond b (f s) s ∷ l) (going_from k s e u) (amend_none k f ss none)

pub tail_begun : (l : Log) (k t : ℕ) (b : Beginning) (on : Bool) (x : Sending) (up : Bool) (ss : List Stay) → x.process ≡ k → b.process ≡ k → goings k ss ≡ 0
    → recorded_all (tail_events on x up k t) (with_stays l (new_stay l b ∷ ss)) ≡ with_stays l (begun_stay l b on x up t ∷ ss)
tail_begun l k t b false x false ss e i none = refl
tail_begun l k t b false x true ss e i none = ap (with_stays l) (amend_first k (with_end t) (new_stay l b) ss i refl none)
tail_begun l k t b true x false ss e i none = ap (with_stays l) (ap (λ j. amend j (with_sending x) (new_stay l b ∷ ss)) e ∙ amend_first k (with_sending x) (new_stay l b) ss i refl none)
tail_begun l k t b true x true ss e i none =
    ap (with_stays l)
    (ap (amend k (with_end t)) (ap (λ j. amend j (with_sending x) (new_stay l b ∷ ss)) e ∙ amend_first k (with_sending x) (new_stay l b) ss i refl none)
    ∙ amend_first k (with_end t) (with_sending x (new_stay l b)) ss i refl none)

-- a sending and a flush are no surroundings
pub tail_surrounded : (j : ℕ) (on : Bool) (x : Sending) (up : Bool) (k t : ℕ) (ms : List Met) → surrounded_all j (tail_events on x up k t) ms ≡ ms
tail_surrounded j true x true k t ms = refl
tail_surrounded j true x false k t ms = refl
tail_surrounded j false x true k t ms = refl
tail_surrounded j false x false k t ms = refl

-- Repetitions.
abbrev pub granted_repetitions : Option GrantInForce → ℕ
granted_repetitions (Some y) = y.repetitions
granted_repetitions None = 0

-- a subframe passes
pub left_next : (t : ℕ) (r : Option Repetition) (k : ℕ) → left (t + 1) r k ≡ left t r k - 1
left_next t None k = refl
left_next t (Some r) k = go (eqb r.process k)
  where
    go : (b : Bool) → cond b (r.until - (t + 1)) 0 ≡ cond b (r.until - t) 0 - 1
    go true = omega arith
    go false = refl

-- those of a grant that is followed in t, once t has passed
left_granted : (t : ℕ) (y : GrantInForce) (k : ℕ) → left (t + 1) (Some (record { process = y.process; until = t + y.repetitions })) k ≤ y.repetitions - 1
left_granted t y k = go (eqb y.process k)
  where
    go : (b : Bool) → cond b (t + y.repetitions - (t + 1)) 0 ≤ y.repetitions - 1
    go true = omega arith
    go false = omega arith

pub room_after : (kd : CellKind) (t : ℕ) (g : Option GrantInForce) (r : Option Repetition) (k n reps : ℕ) → synchronous kd ≡ false → Paced kd t g r k → n + left t r k ≤ reps
    → n + 1 + left (t + 1) (repetition_by kd t g r) k ≤ granted_repetitions g + reps
room_after Plain t g r k n reps e h le = absurd (both_ways true e refl)
room_after Bundled t g r k n reps e h le = absurd (both_ways true e refl)
room_after Asynchronous t (Some y) r k n reps e h le = let q = left_granted t y k in let one = h.0 in omega arith
room_after Asynchronous t None r k n reps e h le = let q = left_next t r k in omega arith

pub room_new : (kd : CellKind) (t : ℕ) (y : GrantInForce) (r : Option Repetition) (k : ℕ) → synchronous kd ≡ false → Paced kd t (Some y) r k
    → 1 + left (t + 1) (repetition_by kd t (Some y) r) k ≤ y.repetitions
room_new Plain t y r k e h = absurd (both_ways true e refl)
room_new Bundled t y r k e h = absurd (both_ways true e refl)
room_new Asynchronous t y r k e h = let q = left_granted t y k in let one = h.0 in omega arith

pub fewer_next : (t : ℕ) (r : Option Repetition) (j : ℕ) → left (t + 1) r j ≤ left t r j
fewer_next t r j = let q = left_next t r j in omega arith

pub fewer_after : (kd : CellKind) (t : ℕ) (g : Option GrantInForce) (r : Option Repetition) (k : ℕ) → Paced kd t g r k → (j : ℕ) → j ≢ k → left (t + 1) (repetition_by kd t g r) j ≤ left t r j
fewer_after Plain t g r k h j ne = fewer_next t r j
fewer_after Bundled t g r k h j ne = fewer_next t r j
fewer_after Asynchronous t None r k h j ne = fewer_next t r j
fewer_after Asynchronous t (Some y) r k h j ne =
    let q : left (t + 1) (Some (record { process = y.process; until = t + y.repetitions })) j ≡ 0 = ap (λ b. cond b (t + y.repetitions - (t + 1)) 0) (ne_eqb y.process j (λ e. ne (sym e ∙ h.1))) in
    omega arith
