-- Stays, read off the events: a packet's time in a process, from the subframe in which it begins until it is flushed or another packet replaces it.
-- Stays, their sendings and what they met stand with the latest first.
use Rattle.std.specs.Prelude.{ℕ, ◌+◌, Bool, true, false, cond, not, ◌&&◌, List, [], ◌∷◌, length, drop, is_some, Some, None, Option, ◌==◌, nat_lt}
use Rattle.terms.specs.declared.grant.GrantInForce.{GrantInForce}
use Rattle.terms.specs.declared.process.Feedback.{Feedback}
use Rattle.terms.specs.Sendings.{Sending}
use Rattle.rules.specs.Subframe.{Beginning, Event, answers, meets, starts, sends, flushes, deposits, one_if}

-- what a process meets
pub data Met : Type 0 where
  -- one of its subframes: subframe, grant in force, gap, and whether a packet was wanted and the source was empty
  subframe_met : ℕ → Option GrantInForce → Bool → Bool → Met
  -- a subframe of its answers: subframe, answer, gap
  answer_met : ℕ → Option Feedback → Bool → Met

pub record Stay : Type 0 where
  -- its process, first subframe, grant and packet
  pub beginning : Beginning
  -- its first subframe lies in a measurement gap
  pub gap : Bool
  pub sendings : List Sending
  -- what its process met after the first subframe: up to the flush, or before the subframe in which another packet replaced it
  pub met : List Met
  -- the subframe in which it was flushed or replaced
  pub ended : Option ℕ
  -- the last packet that was deposited in the Msg3 buffer before it began
  pub deposited : Option (List ℕ)

-- what is written down while the events are read
pub record Log : Type 0 where
  pub stays : List Stay
  -- the last packet that was deposited in the Msg3 buffer
  pub deposited : Option (List ℕ)
  -- whether the latest subframe of a process lies in a gap
  pub gap : Bool

-- the stay goes on in process k
abbrev pub goes_on : ℕ → Stay → Bool
goes_on k s = s.beginning.process == k && not (is_some s.ended)

-- alters the stay that goes on in process k; there is at most one, since each that begins ends the one before it
abbrev pub amend : ℕ → (Stay → Stay) → List Stay → List Stay
amend k f [] = []
amend k f (s ∷ ss) = cond (goes_on k s) (f s) s ∷ amend k f ss

abbrev pub with_met : Met → Stay → Stay
with_met m s = record { beginning = s.beginning; gap = s.gap; sendings = s.sendings; met = m ∷ s.met; ended = s.ended; deposited = s.deposited }

abbrev pub with_sending : Sending → Stay → Stay
with_sending x s = record { beginning = s.beginning; gap = s.gap; sendings = x ∷ s.sendings; met = s.met; ended = s.ended; deposited = s.deposited }

abbrev pub with_end : ℕ → Stay → Stay
with_end t s = record { beginning = s.beginning; gap = s.gap; sendings = s.sendings; met = s.met; ended = Some t; deposited = s.deposited }

-- the subframe of the replacement, which the process just met, belongs to the packet that begins in it
abbrev pub replaced : ℕ → Stay → Stay
replaced t s = record { beginning = s.beginning; gap = s.gap; sendings = s.sendings; met = drop 1 s.met; ended = Some t; deposited = s.deposited }

abbrev pub new_stay : Log → Beginning → Stay
new_stay l b = record { beginning = b; gap = l.gap; sendings = []; met = []; ended = None; deposited = l.deposited }

abbrev pub with_stays : Log → List Stay → Log
with_stays l ss = record { stays = ss; deposited = l.deposited; gap = l.gap }

-- an event is written down
abbrev pub recorded : Event → Log → Log
recorded (answers k t a gap) l = with_stays l (amend k (with_met (answer_met t a gap)) l.stays)
recorded (meets k t g gap starved) l = record { stays = amend k (with_met (subframe_met t g gap starved)) l.stays; deposited = l.deposited; gap = gap }
recorded (starts b) l = with_stays l (new_stay l b ∷ amend b.process (replaced b.first) l.stays)
recorded (sends x) l = with_stays l (amend x.process (with_sending x) l.stays)
recorded (flushes k t) l = with_stays l (amend k (with_end t) l.stays)
recorded (deposits b) l = record { stays = l.stays; deposited = Some b; gap = l.gap }

-- events, the earliest first
abbrev pub recorded_all : List Event → Log → Log
recorded_all [] l = l
recorded_all (e ∷ es) l = recorded_all es (recorded e l)

abbrev pub empty_log : Log
empty_log = record { stays = []; deposited = None; gap = false }

-- the stays of a run
abbrev pub stays : List Event → List Stay
stays es = (recorded_all es empty_log).stays

-- The surroundings of process k in a run, the latest first: all that it met, whatever it held.
abbrev pub surrounded : ℕ → Event → List Met → List Met
surrounded k (answers j t a gap) ms = cond (j == k) (answer_met t a gap ∷ ms) ms
surrounded k (meets j t g gap starved) ms = cond (j == k) (subframe_met t g gap starved ∷ ms) ms
surrounded k (starts b) ms = ms
surrounded k (sends x) ms = ms
surrounded k (flushes j t) ms = ms
surrounded k (deposits b) ms = ms

abbrev pub surrounded_all : ℕ → List Event → List Met → List Met
surrounded_all k [] ms = ms
surrounded_all k (e ∷ es) ms = surrounded_all k es (surrounded k e ms)

abbrev pub surroundings : ℕ → List Event → List Met
surroundings k es = surrounded_all k es []

-- By subframe.
abbrev pub subframe_of : Met → ℕ
subframe_of (subframe_met t g gap starved) = t
subframe_of (answer_met t a gap) = t

-- what was met later than in subframe t
abbrev pub met_after : ℕ → List Met → List Met
met_after t [] = []
met_after t (m ∷ ms) = cond (nat_lt t (subframe_of m)) (m ∷ met_after t ms) (met_after t ms)

-- what was met earlier than in subframe t
abbrev pub met_below : ℕ → List Met → List Met
met_below t [] = []
met_below t (m ∷ ms) = cond (nat_lt (subframe_of m) t) (m ∷ met_below t ms) (met_below t ms)

-- what was met strictly between two subframes
abbrev pub met_between : ℕ → ℕ → List Met → List Met
met_between t u ms = met_below u (met_after t ms)

abbrev pub sent_below : ℕ → List Sending → List Sending
sent_below t [] = []
sent_below t (x ∷ xs) = cond (nat_lt x.subframe t) (x ∷ sent_below t xs) (sent_below t xs)

-- over in a subframe below t
abbrev pub over_below : ℕ → Option ℕ → Bool
over_below t None = false
over_below t (Some u) = nat_lt u t

-- By number.
-- the repetitions of the grants that a stay met and that a lack of packets did not void
abbrev pub repetitions_met : List Met → ℕ
repetitions_met [] = 0
repetitions_met (subframe_met t None gap starved ∷ ms) = repetitions_met ms
repetitions_met (subframe_met t (Some g) gap true ∷ ms) = repetitions_met ms
repetitions_met (subframe_met t (Some g) gap false ∷ ms) = g.repetitions + repetitions_met ms
repetitions_met (answer_met t a gap ∷ ms) = repetitions_met ms

-- a stay's repetitions added up: those of the grant that began it, and of those by which it was sent again
abbrev pub repetitions : Stay → ℕ
repetitions s = s.beginning.grant.repetitions + repetitions_met s.met

-- how many of some sendings pass a test
abbrev pub passing : (Sending → Bool) → List Sending → ℕ
passing f [] = 0
passing f (x ∷ xs) = one_if (f x) + passing f xs

-- how many sendings of a run pass a test
abbrev pub passing_of_run : (Sending → Bool) → List Event → ℕ
passing_of_run f [] = 0
passing_of_run f (answers k t a gap ∷ es) = passing_of_run f es
passing_of_run f (meets k t g gap starved ∷ es) = passing_of_run f es
passing_of_run f (starts b ∷ es) = passing_of_run f es
passing_of_run f (sends x ∷ es) = one_if (f x) + passing_of_run f es
passing_of_run f (flushes k t ∷ es) = passing_of_run f es
passing_of_run f (deposits b ∷ es) = passing_of_run f es

-- added up over stays
abbrev pub total : (Stay → ℕ) → List Stay → ℕ
total w [] = 0
total w (s ∷ ss) = w s + total w ss

-- how many sendings of stays pass a test
abbrev pub passing_of_stays : (Sending → Bool) → List Stay → ℕ
passing_of_stays f = total (λ s. passing f s.sendings)

-- how many sendings stays have
abbrev pub sendings_of_stays : List Stay → ℕ
sendings_of_stays = total (λ s. length s.sendings)

-- how many sendings a run has
abbrev pub sendings_of_run : List Event → ℕ
sendings_of_run es = passing_of_run (λ x. true) es

-- how many new transmissions a run has
abbrev pub starts_of_run : List Event → ℕ
starts_of_run [] = 0
starts_of_run (answers k t a gap ∷ es) = starts_of_run es
starts_of_run (meets k t g gap starved ∷ es) = starts_of_run es
starts_of_run (starts b ∷ es) = 1 + starts_of_run es
starts_of_run (sends x ∷ es) = starts_of_run es
starts_of_run (flushes k t ∷ es) = starts_of_run es
starts_of_run (deposits b ∷ es) = starts_of_run es
