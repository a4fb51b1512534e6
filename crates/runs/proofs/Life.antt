-- One stay by itself: its process, its sendings and its end are a function of its beginning and of what its process met since.
use Rattle.std.proofs.Common.{◌≡◌, ℕ, ◌+◌, ◌<◌, ◌≤◌, Bool, true, false, cond, not, ◌&&◌, eqb, ltb, List, [], ◌∷◌, length, is_some, Some, None, Option, sym, refl, ap, ◌∙◌, subst, arith}
use Rattle.std.proofs.lemmas.Bool.{eqb-false, both_ways, lt-ltb, le-ltb, ltb-true, ltb-false}
use Rattle.std.specs.List.{AllByRecursion}
use Rattle.terms.specs.declared.setup.CellKind.{CellKind}
use Rattle.terms.specs.declared.setup.CellKind.TheVariants.{Plain, Bundled, Asynchronous}
use Rattle.terms.specs.declared.setup.Setup.{Setup}
use Rattle.terms.specs.declared.grant.GrantInForce.{GrantInForce}
use Rattle.terms.specs.declared.process.Feedback.{Feedback}
use Rattle.terms.specs.declared.process.Process.{Process}
use Rattle.terms.specs.declared.decision.Decision.{Decision}
use Rattle.terms.specs.declared.decision.Decision.TheVariants as decision
use Rattle.terms.specs.Versions.{version_at}
use Rattle.terms.specs.Sendings.{Sending}
use Rattle.rules.specs.Process.{idle, synchronous, is_ack, holds_packet, hears, with_feedback, feedback_heard, renewed, counted, adapted, repeated, on_air, advanced, maximum, gives_up, flushed, transmitted}
use Rattle.rules.specs.Reception.{referred}
use Rattle.rules.specs.Entity.{decided}
use Rattle.rules.specs.Subframe.{Beginning}
use Rattle.runs.specs.Stays.{Met, subframe_met, answer_met, subframe_of, met_below, met_after, sent_below, over_below}
use Rattle.runs.specs.Promise.{Carries}
use Rattle.runs.proofs.Amends.{none_some}

pub record Life : Type 0 where
  pub process : Process
  -- the latest first
  pub sendings : List Sending
  pub ended : Option ℕ

-- the process before the first sending
abbrev pub first_process : Setup → Beginning → Process
first_process su b = renewed su b.grant (length b.packet) b.from_msg3 idle

abbrev pub sent_by : ℕ → Beginning → Process → Sending
sent_by t b p = record { subframe = t; process = b.process; version = version_at p.current_irv; mcs = p.mcs; resource = p.resource; packet = b.packet }

abbrev pub sent_if : Bool → Sending → List Sending → List Sending
sent_if true x xs = x ∷ xs
sent_if false x xs = xs

abbrev pub end_if : Bool → ℕ → Option ℕ
end_if true t = Some t
end_if false t = None

-- a transmission in subframe t
abbrev pub tried : Setup → Beginning → ℕ → Bool → Bool → Process → List Sending → Life
tried su b t gap acked p xs = record { process = transmitted su (on_air acked gap p) p; sendings = sent_if (on_air acked gap p) (sent_by t b p) xs; ended = end_if (gives_up su p) t }

-- a decision carried out: a new transmission ends the stay unless the source is empty
abbrev pub carried_out : Setup → Beginning → ℕ → Bool → Bool → Decision → Process → List Sending → Life
carried_out su b t gap starved (decision.Rest o) p xs = record { process = p; sendings = xs; ended = None }
carried_out su b t gap starved (decision.New g) p xs = record { process = p; sendings = xs; ended = end_if (not starved) t }
carried_out su b t gap starved (decision.Adaptive g) p xs = tried su b t gap false (adapted su g p) xs
carried_out su b t gap starved decision.NonAdaptive p xs = tried su b t gap (is_ack p.harq_feedback) (repeated su p) xs

abbrev pub lived : Setup → Beginning → Met → Life → Life
lived su b (answer_met t a gap) l = record { process = hears gap a l.process; sendings = l.sendings; ended = None }
lived su b (subframe_met t g gap starved) l = let p = referred g l.process in carried_out su b t gap starved (decided su g p) p l.sendings

abbrev pub unless_over : Option ℕ → Life → Life → Life
unless_over None l l' = l'
unless_over (Some t) l l' = l

-- set-up, beginning, whether it began in a gap, and what its process met, the latest first
abbrev pub life : Setup → Beginning → Bool → List Met → Life
life su b gap [] = tried su b b.first gap false (first_process su b) []
life su b gap (m ∷ ms) = let l = life su b gap ms in unless_over l.ended l (lived su b m l)

module _ (su : Setup) (b : Beginning) (gap : Bool) where
  -- once over, a stay meets nothing
  pub life_over : (m : Met) (ms : List Met) → is_some (life su b gap ms).ended ≡ true → life su b gap (m ∷ ms) ≡ life su b gap ms
  life_over m ms e = go (life su b gap ms).ended e
    where
      go : (o : Option ℕ) → is_some o ≡ true → unless_over o (life su b gap ms) (lived su b m (life su b gap ms)) ≡ life su b gap ms
      go None e = absurd (both_ways false refl e)
      go (Some t) e = refl

  pub life_on : (m : Met) (ms : List Met) → (life su b gap ms).ended ≡ None → life su b gap (m ∷ ms) ≡ lived su b m (life su b gap ms)
  life_on m ms e = ap (λ o. unless_over o (life su b gap ms) (lived su b m (life su b gap ms))) e

  -- what holds at first and is kept while it goes on holds throughout
  pub throughout : (P : Life → Type 0) → P (life su b gap []) → ((m : Met) (l : Life) → l.ended ≡ None → P l → P (lived su b m l)) → (ms : List Met) → P (life su b gap ms)
  throughout P start kept [] = start
  throughout P start kept (m ∷ ms) = go (life su b gap ms).ended refl (throughout P start kept ms)
    where
      go : (o : Option ℕ) → (life su b gap ms).ended ≡ o → P (life su b gap ms) → P (unless_over o (life su b gap ms) (lived su b m (life su b gap ms)))
      go None e h = kept m (life su b gap ms) e h
      go (Some t) e h = h

-- What the grant in force and an answer leave of a process.
pub record Same (p p' : Process) : Type 0 where
  pub buffer : p'.buffer ≡ p.buffer
  pub from_msg3 : p'.from_msg3 ≡ p.from_msg3
  pub count : p'.current_tx_nb ≡ p.current_tx_nb

pub referred_same : (g : Option GrantInForce) (p : Process) → Same p (referred g p)
referred_same None p = record { buffer = refl; from_msg3 = refl; count = refl }
referred_same (Some g) p = record { buffer = refl; from_msg3 = refl; count = refl }

pub hears_same : (gap : Bool) (a : Option Feedback) (p : Process) → Same p (hears gap a p)
hears_same gap a p = go p.awaits_answer
  where
    go : (x : Bool) → Same p (cond x (with_feedback p (feedback_heard gap p.from_msg3 a p.harq_feedback)) p)
    go true = record { buffer = refl; from_msg3 = refl; count = refl }
    go false = record { buffer = refl; from_msg3 = refl; count = refl }

sending_same : (su : Setup) (sent : Bool) (p : Process) → Same p (cond sent (advanced su p) p)
sending_same su true p = record { buffer = refl; from_msg3 = refl; count = refl }
sending_same su false p = record { buffer = refl; from_msg3 = refl; count = refl }

-- what a transmission leaves: the buffer is flushed where the packet is given up
pub record Tried (p p' : Process) (up : Bool) : Type 0 where
  pub buffer : p'.buffer ≡ cond up None p.buffer
  pub from_msg3 : p'.from_msg3 ≡ p.from_msg3
  pub count : p'.current_tx_nb ≡ p.current_tx_nb

pub transmitted_facts : (su : Setup) (sent : Bool) (p : Process) → Tried p (transmitted su sent p) (gives_up su p)
transmitted_facts su sent p = go (gives_up su p) (sending_same su sent p)
  where
    go : (up : Bool) → Same p (cond sent (advanced su p) p) → Tried p (cond up (flushed (cond sent (advanced su p) p)) (cond sent (advanced su p) p)) up
    go true h = record { buffer = refl; from_msg3 = h.from_msg3; count = h.count }
    go false h = record { buffer = h.buffer; from_msg3 = h.from_msg3; count = h.count }

-- it is held after a transmission unless it is given up
pub transmitted_held : (su : Setup) (sent : Bool) (p : Process) → holds_packet p ≡ true → holds_packet (transmitted su sent p) ≡ not (gives_up su p)
transmitted_held su sent p h = ap is_some (transmitted_facts su sent p).buffer ∙ go (gives_up su p)
  where
    go : (up : Bool) → is_some (cond up None p.buffer) ≡ not up
    go true = refl
    go false = h

-- the packet's length and its mark stay
pub record Fit (b : Beginning) (l : Life) : Type 0 where
  pub full : l.ended ≡ None → l.process.buffer ≡ Some (length b.packet)
  pub mark : l.process.from_msg3 ≡ b.from_msg3

module _ (su : Setup) (b : Beginning) where
  tried_fit : (t : ℕ) (gap acked : Bool) (p : Process) (xs : List Sending) → p.buffer ≡ Some (length b.packet) → p.from_msg3 ≡ b.from_msg3 → Fit b (tried su b t gap acked p xs)
  tried_fit t gap acked p xs e m = record { full = λ z. h.buffer ∙ go (gives_up su p) z; mark = h.from_msg3 ∙ m }
    where
      h : Tried p (transmitted su (on_air acked gap p) p) (gives_up su p)
      h = transmitted_facts su (on_air acked gap p) p

      go : (up : Bool) → end_if up t ≡ None → cond up None p.buffer ≡ Some (length b.packet)
      go true z = absurd (none_some (sym z))
      go false z = e

  carried_fit : (t : ℕ) (gap starved : Bool) (d : Decision) (p : Process) (xs : List Sending) → p.buffer ≡ Some (length b.packet) → p.from_msg3 ≡ b.from_msg3 → Fit b (carried_out su b t gap starved d p xs)
  carried_fit t gap starved (decision.Rest o) p xs e m = record { full = λ z. e; mark = m }
  carried_fit t gap starved (decision.New g) p xs e m = record { full = λ z. e; mark = m }
  carried_fit t gap starved (decision.Adaptive g) p xs e m = tried_fit t gap false (adapted su g p) xs e m
  carried_fit t gap starved decision.NonAdaptive p xs e m = tried_fit t gap (is_ack p.harq_feedback) (repeated su p) xs e m

  lived_fit : (m : Met) (l : Life) → l.ended ≡ None → Fit b l → Fit b (lived su b m l)
  lived_fit (answer_met t a gap) l e f = let h = hears_same gap a l.process in record { full = λ z. h.buffer ∙ f.full e; mark = h.from_msg3 ∙ f.mark }
  lived_fit (subframe_met t g gap starved) l e f =
      let h = referred_same g l.process in
      carried_fit t gap starved (decided su g (referred g l.process)) (referred g l.process) l.sendings (h.buffer ∙ f.full e) (h.from_msg3 ∙ f.mark)

  pub life_fit : (gap : Bool) (ms : List Met) → Fit b (life su b gap ms)
  life_fit gap ms = throughout su b gap (Fit b) (tried_fit b.first gap false (first_process su b) [] refl refl) lived_fit ms

-- no more sendings than the maximum
pub record Limited (su : Setup) (b : Beginning) (l : Life) : Type 0 where
  pub fit : Fit b l
  pub going : l.ended ≡ None → (length l.sendings ≤ l.process.current_tx_nb + 1) × (l.process.current_tx_nb + 1 < maximum su b.from_msg3)
  pub all : length l.sendings ≤ maximum su b.from_msg3

pub sent_if_length : (on : Bool) (x : Sending) (xs : List Sending) → length (sent_if on x xs) ≤ length xs + 1
sent_if_length true x xs = omega arith
sent_if_length false x xs = omega arith

module _ (su : Setup) (b : Beginning) (sync : synchronous su.kind ≡ true) (some-tries : 1 ≤ maximum su b.from_msg3) where
  counted_sync : (k : CellKind) (n : ℕ) → synchronous k ≡ true → counted k n ≡ n + 1
  counted_sync Plain n e = refl
  counted_sync Bundled n e = refl
  counted_sync Asynchronous n e = absurd (both_ways false refl e)

  tried_limited : (t : ℕ) (gap acked : Bool) (p : Process) (xs : List Sending) → p.buffer ≡ Some (length b.packet) → p.from_msg3 ≡ b.from_msg3 → length xs ≤ p.current_tx_nb → p.current_tx_nb + 1 ≤ maximum su b.from_msg3
      → Limited su b (tried su b t gap acked p xs)
  tried_limited t gap acked p xs full mark few top = record { fit = tried_fit su b t gap acked p xs full mark; going = going (gives_up su p) refl; all = let h = sent_if_length (on_air acked gap p) (sent_by t b p) xs in omega arith }
    where
      going : (up : Bool) → gives_up su p ≡ up → end_if up t ≡ None → (length (sent_if (on_air acked gap p) (sent_by t b p) xs) ≤ (transmitted su (on_air acked gap p) p).current_tx_nb + 1) × ((transmitted su (on_air acked gap p) p).current_tx_nb + 1 < maximum su b.from_msg3)
      going true e z = absurd (none_some (sym z))
      going false e z =
          let h = sent_if_length (on_air acked gap p) (sent_by t b p) xs in
          let k = (transmitted_facts su (on_air acked gap p) p).count in
          let off : eqb (p.current_tx_nb + 1) (maximum su p.from_msg3) ≡ false = sym (ap (λ s. s && eqb (p.current_tx_nb + 1) (maximum su p.from_msg3)) sync) ∙ e in
          let mx : maximum su p.from_msg3 ≡ maximum su b.from_msg3 = ap (maximum su) mark in
          let ne = eqb-false (p.current_tx_nb + 1) (maximum su p.from_msg3) off in
          (omega arith, omega (arith, ne))

  carried_limited : (t : ℕ) (gap starved : Bool) (d : Decision) (p : Process) (xs : List Sending) → p.buffer ≡ Some (length b.packet) → p.from_msg3 ≡ b.from_msg3 → length xs ≤ p.current_tx_nb + 1 → p.current_tx_nb + 1 < maximum su b.from_msg3
      → Limited su b (carried_out su b t gap starved d p xs)
  carried_limited t gap starved (decision.Rest o) p xs e m few top = record { fit = carried_fit su b t gap starved (decision.Rest o) p xs e m; going = λ z. (few, top); all = omega arith }
  carried_limited t gap starved (decision.New g) p xs e m few top = record { fit = carried_fit su b t gap starved (decision.New g) p xs e m; going = λ z. (few, top); all = omega arith }
  carried_limited t gap starved (decision.Adaptive g) p xs e m few top =
      let k = counted_sync su.kind p.current_tx_nb sync in
      tried_limited t gap false (adapted su g p) xs e m (omega arith) (omega arith)
  carried_limited t gap starved decision.NonAdaptive p xs e m few top =
      let k = counted_sync su.kind p.current_tx_nb sync in
      tried_limited t gap (is_ack p.harq_feedback) (repeated su p) xs e m (omega arith) (omega arith)

  lived_limited : (m : Met) (l : Life) → l.ended ≡ None → Limited su b l → Limited su b (lived su b m l)
  lived_limited (answer_met t a gap) l e h =
      let s = hears_same gap a l.process in
      let k = s.count in
      let i = h.going e in
      record { fit = lived_fit su b (answer_met t a gap) l e h.fit; going = λ z. (omega arith, omega arith); all = h.all }
  lived_limited (subframe_met t g gap starved) l e h =
      let s = referred_same g l.process in
      let k = s.count in
      let i = h.going e in
      carried_limited t gap starved (decided su g (referred g l.process)) (referred g l.process) l.sendings (s.buffer ∙ h.fit.full e) (s.from_msg3 ∙ h.fit.mark) (omega arith) (omega arith)

  pub life_limited : (gap : Bool) (ms : List Met) → Limited su b (life su b gap ms)
  life_limited gap ms = throughout su b gap (Limited su b) (tried_limited b.first gap false (first_process su b) [] refl refl (omega arith) some-tries) lived_limited ms

-- each sending is of the packet
module _ (su : Setup) (b : Beginning) where
  sent_carries : (on : Bool) (t : ℕ) (p : Process) (xs : List Sending) → AllByRecursion (Carries b) xs → AllByRecursion (Carries b) (sent_if on (sent_by t b p) xs)
  sent_carries true t p xs h = ((refl, refl), h)
  sent_carries false t p xs h = h

  carried_carries : (t : ℕ) (gap starved : Bool) (d : Decision) (p : Process) (xs : List Sending) → AllByRecursion (Carries b) xs → AllByRecursion (Carries b) (carried_out su b t gap starved d p xs).sendings
  carried_carries t gap starved (decision.Rest o) p xs h = h
  carried_carries t gap starved (decision.New g) p xs h = h
  carried_carries t gap starved (decision.Adaptive g) p xs h = sent_carries (on_air false gap (adapted su g p)) t (adapted su g p) xs h
  carried_carries t gap starved decision.NonAdaptive p xs h = sent_carries (on_air (is_ack p.harq_feedback) gap (repeated su p)) t (repeated su p) xs h

  lived_carries : (m : Met) (l : Life) → l.ended ≡ None → AllByRecursion (Carries b) l.sendings → AllByRecursion (Carries b) (lived su b m l).sendings
  lived_carries (answer_met t a gap) l e h = h
  lived_carries (subframe_met t g gap starved) l e h = carried_carries t gap starved (decided su g (referred g l.process)) (referred g l.process) l.sendings h

  pub life_carries : (gap : Bool) (ms : List Met) → AllByRecursion (Carries b) (life su b gap ms).sendings
  life_carries gap ms = throughout su b gap (λ l. AllByRecursion (Carries b) l.sendings) (sent_carries (on_air false gap (first_process su b)) b.first (first_process su b) [] tt) lived_carries ms

-- What was met stands in the order of the subframes, the latest first, all below t.
abbrev pub Ordered : ℕ → List Met → Type 0
Ordered t [] = Unit {0}
Ordered t (m ∷ ms) = (subframe_of m < t) × Ordered (subframe_of m + 1) ms

pub ordered_later : (t t' : ℕ) (ms : List Met) → t ≤ t' → Ordered t ms → Ordered t' ms
ordered_later t t' [] le h = tt
ordered_later t t' (m ∷ ms) le h = (omega (arith, h.0), h.1)

pub ordered_after : (t u : ℕ) (ms : List Met) → Ordered t ms → Ordered t (met_after u ms)
ordered_after t u [] h = tt
ordered_after t u (m ∷ ms) h = go (ltb u (subframe_of m)) (ordered_after (subframe_of m + 1) u ms h.1)
  where
    go : (x : Bool) → Ordered (subframe_of m + 1) (met_after u ms) → Ordered t (cond x (m ∷ met_after u ms) (met_after u ms))
    go true ih = (h.0, ih)
    go false ih = ordered_later (subframe_of m + 1) t (met_after u ms) (omega (arith, h.0)) ih

-- nothing is met after its latest
pub none_after : (u : ℕ) (ms : List Met) → Ordered (u + 1) ms → met_after u ms ≡ []
none_after u [] h = refl
none_after u (m ∷ ms) h =
    ap (λ x. cond x (m ∷ met_after u ms) (met_after u ms)) (le-ltb u (subframe_of m) (omega (arith, h.0)))
    ∙ none_after u ms (ordered_later (subframe_of m + 1) (u + 1) ms (omega (arith, h.0)) h.1)

pub all_below : (t : ℕ) (ms : List Met) → Ordered t ms → met_below t ms ≡ ms
all_below t [] h = refl
all_below t (m ∷ ms) h =
    ap (λ x. cond x (m ∷ met_below t ms) (met_below t ms)) (lt-ltb (subframe_of m) t h.0)
    ∙ ap (λ l. m ∷ l) (all_below t ms (ordered_later (subframe_of m + 1) t ms (omega (arith, h.0)) h.1))

-- two lives are the same below t
pub record Agrees (t : ℕ) (l l' : Life) : Type 0 where
  pub sent : sent_below t l.sendings ≡ sent_below t l'.sendings
  pub over : over_below t l.ended ≡ over_below t l'.ended

module _ (su : Setup) (b : Beginning) (t : ℕ) where
  sent_late : (on : Bool) (u : ℕ) (p : Process) (xs : List Sending) → t ≤ u → sent_below t (sent_if on (sent_by u b p) xs) ≡ sent_below t xs
  sent_late true u p xs le = ap (λ x. cond x (sent_by u b p ∷ sent_below t xs) (sent_below t xs)) (le-ltb u t le)
  sent_late false u p xs le = refl

  over_late : (up : Bool) (u : ℕ) → t ≤ u → over_below t (end_if up u) ≡ false
  over_late true u le = le-ltb u t le
  over_late false u le = refl

  -- what happens from t on does not count below t
  carried_late : (u : ℕ) (gap starved : Bool) (d : Decision) (p : Process) (l : Life) → t ≤ u → l.ended ≡ None → Agrees t (carried_out su b u gap starved d p l.sendings) l
  carried_late u gap starved (decision.Rest o) p l le e = record { sent = refl; over = sym (ap (over_below t) e) }
  carried_late u gap starved (decision.New g) p l le e = record { sent = refl; over = over_late (not starved) u le ∙ sym (ap (over_below t) e) }
  carried_late u gap starved (decision.Adaptive g) p l le e =
      record { sent = sent_late (on_air false gap (adapted su g p)) u (adapted su g p) l.sendings le; over = over_late (gives_up su (adapted su g p)) u le ∙ sym (ap (over_below t) e) }
  carried_late u gap starved decision.NonAdaptive p l le e =
      record { sent = sent_late (on_air (is_ack p.harq_feedback) gap (repeated su p)) u (repeated su p) l.sendings le; over = over_late (gives_up su (repeated su p)) u le ∙ sym (ap (over_below t) e) }

  lived_late : (m : Met) (l : Life) → t ≤ subframe_of m → l.ended ≡ None → Agrees t (lived su b m l) l
  lived_late (answer_met u a gap) l le e = record { sent = refl; over = sym (ap (over_below t) e) }
  lived_late (subframe_met u g gap starved) l le e = carried_late u gap starved (decided su g (referred g l.process)) (referred g l.process) l le e

  pub life_below : (gap : Bool) (c : ℕ) (ms : List Met) → Ordered c ms → Agrees t (life su b gap ms) (life su b gap (met_below t ms))
  life_below gap c [] h = record { sent = refl; over = refl }
  life_below gap c (m ∷ ms) h = go (ltb (subframe_of m) t) refl (life_below gap (subframe_of m + 1) ms h.1)
    where
      once_more : t ≤ subframe_of m → (o : Option ℕ) → (life su b gap ms).ended ≡ o → Agrees t (life su b gap ms) (life su b gap (met_below t ms)) → Agrees t (unless_over o (life su b gap ms) (lived su b m (life su b gap ms))) (life su b gap (met_below t ms))
      once_more le (Some u) e ih = ih
      once_more le None e ih = let a = lived_late m (life su b gap ms) le e in record { sent = a.sent ∙ ih.sent; over = a.over ∙ ih.over }

      go : (x : Bool) → ltb (subframe_of m) t ≡ x → Agrees t (life su b gap ms) (life su b gap (met_below t ms)) → Agrees t (life su b gap (m ∷ ms)) (life su b gap (cond x (m ∷ met_below t ms) (met_below t ms)))
      go true e ih =
          let lt = ltb-true (subframe_of m) t e in
          subst (λ l. Agrees t (life su b gap (m ∷ ms)) (life su b gap (m ∷ l))) (sym (all_below t ms (ordered_later (subframe_of m + 1) t ms (omega arith) h.1))) (record { sent = refl; over = refl })
      go false e ih = once_more (ltb-false (subframe_of m) t e) (life su b gap ms).ended refl ih
