-- What a subframe call does, stage by stage, and the events that it yields.
use Rattle.std.specs.Prelude.{ℕ, ◌+◌, Bool, true, false, cond, List, [], ◌∷◌, ◌++◌, length, Some, None, Ok, Err, Option, Result, slice_set}
use Rattle.std.specs.Option.{unwrap_or}
use Rattle.terms.specs.declared.answer.Outcome.{Outcome}
use Rattle.terms.specs.declared.answer.Outcome.TheVariants.{Idle, EmptyBuffer, NoPacket, Sent, Gap, Acknowledged}
use Rattle.terms.specs.declared.answer.Refusal.{Refusal}
use Rattle.terms.specs.declared.answer.Reply.{Reply}
use Rattle.terms.specs.declared.setup.CellKind.{CellKind}
use Rattle.terms.specs.declared.setup.CellKind.TheVariants.{Plain, Bundled, Asynchronous}
use Rattle.terms.specs.declared.setup.Setup.{Setup}
use Rattle.terms.specs.declared.grant.Grant.{Grant}
use Rattle.terms.specs.declared.grant.GrantInForce.{GrantInForce}
use Rattle.terms.specs.declared.grant.ConfiguredGrant.{ConfiguredGrant}
use Rattle.terms.specs.declared.process.Feedback.{Feedback}
use Rattle.terms.specs.declared.process.Process.{Process}
use Rattle.terms.specs.declared.state.Repetition.{Repetition}
use Rattle.terms.specs.declared.state.State.{State}
use Rattle.terms.specs.declared.version.RedundancyVersion.{RedundancyVersion}
use Rattle.terms.specs.declared.decision.Work.{Work}
use Rattle.terms.specs.declared.decision.Work.TheVariants as work
use Rattle.terms.specs.declared.decision.Conclusion.{Conclusion}
use Rattle.terms.specs.Versions.{version_at}
use Rattle.terms.specs.Sendings.{Sending}
use Rattle.rules.specs.Memory.{part}
use Rattle.rules.specs.Process.{hears, on_air, gives_up, transmitted}
use Rattle.rules.specs.Reception.{grant_in_force, stored_after, referred}
use Rattle.rules.specs.Entity.{process_at, process_of, answering, decided, Course, rests, begins, again, course, asked, work_of, memory_after}
use Rattle.rules.specs.Questions.{questioned}

-- what a subframe call is given beside the cell and its packet memory
pub record Given : Type 0 where
  -- the radio can take one more
  pub ready : Bool
  -- the subframe lies in a measurement gap
  pub gap : Bool
  pub answer : Option Feedback
  pub grant : Option Grant
  -- for each size the packet that waits in the source
  pub offers : ℕ → Option (List ℕ)

-- a new transmission: its process, subframe and grant, and the packet that began there
pub record Beginning : Type 0 where
  pub process : ℕ
  pub first : ℕ
  pub grant : GrantInForce
  pub from_msg3 : Bool
  pub packet : List ℕ

pub data Event : Type 0 where
  -- the subframe of a process's answers: process, subframe, answer, gap
  answers : ℕ → ℕ → Option Feedback → Bool → Event
  -- a subframe of a process: process, subframe, grant in force, gap, and whether a packet was wanted and none was there
  meets : ℕ → ℕ → Option GrantInForce → Bool → Bool → Event
  -- a packet begins, and replaces the one before it
  starts : Beginning → Event
  sends : Sending → Event
  -- a packet's transmissions are used up: process, subframe
  flushes : ℕ → ℕ → Event
  -- a packet is deposited in the Msg3 buffer
  deposits : List ℕ → Event

pub record Done : Type 0 where
  pub reply : Reply
  pub state : State
  pub memory : List ℕ
  -- the size that the source was asked for, if it was
  pub asked : Option ℕ
  -- what the radio was told, if anything
  pub sending : Option Sending
  pub events : List Event

-- The answer: the process whose answers fall in the subframe hears it, or the gap.
abbrev pub heard_at : Option ℕ → Bool → Option Feedback → List Process → List Process
heard_at None gap a ps = ps
heard_at (Some k) gap a ps = slice_set ps k (hears gap a (process_at ps k))

abbrev pub with_processes : State → List Process → State
with_processes st ps = record { processes = ps; configured = st.configured; repetition = st.repetition; msg3 = st.msg3; tally = st.tally; clock = st.clock }

abbrev pub heard : Setup → State → Bool → Option Feedback → State
heard su st gap a = with_processes st (heard_at (answering su.kind st.clock) gap a st.processes)

-- The transmission: its outcome, and what it leaves of the process.
abbrev pub outcome_of : Bool → Bool → Outcome
outcome_of true sent = Acknowledged
outcome_of false true = Sent
outcome_of false false = Gap

-- the version that a reply names: 0 where nothing was sent
abbrev pub version_told : Bool → Process → RedundancyVersion
version_told sent p = cond sent (version_at p.current_irv) (record { 0 = 0 })

-- process number, gap, does a packet begin, acknowledged, the process that transmits
abbrev pub attempted : Setup → ℕ → Bool → Bool → Bool → Process → Conclusion
attempted su k gap new acked p = record {
  process = transmitted su (on_air acked gap p) p;
  reply = record { outcome = outcome_of acked (on_air acked gap p); process = k; version = version_told (on_air acked gap p) p; given_up = gives_up su p };
  begun = new;
  sent = on_air acked gap p;
}

abbrev pub concluded : Setup → ℕ → Bool → Work → Conclusion
concluded su k gap (work.Rest o p) = record { process = p; reply = record { outcome = o; process = k; version = record { 0 = 0 }; given_up = false }; begun = false; sent = false }
concluded su k gap (work.New p) = attempted su k gap true false p
concluded su k gap (work.Again p acked) = attempted su k gap false acked p

-- the packet as it stands in packet memory, with the version of CURRENT_IRV and the stored MCS and resource
abbrev pub sending_by : ℕ → ℕ → List ℕ → Process → Sending
sending_by t k m p = record { subframe = t; process = k; version = version_at p.current_irv; mcs = p.mcs; resource = p.resource; packet = part m k (unwrap_or p.buffer 0) }

abbrev pub sending_if : Bool → Sending → Option Sending
sending_if true x = Some x
sending_if false x = None

-- what the radio is told: subframe, process, packet memory, gap
abbrev pub sending : ℕ → ℕ → List ℕ → Bool → Work → Option Sending
sending t k m gap (work.Rest o p) = None
sending t k m gap (work.New p) = sending_if (on_air false gap p) (sending_by t k m p)
sending t k m gap (work.Again p acked) = sending_if (on_air acked gap p) (sending_by t k m p)

-- Repetitions: a grant that an asynchronous process follows makes them run from t for its number of subframes.
abbrev pub repetition_by : CellKind → ℕ → Option GrantInForce → Option Repetition → Option Repetition
repetition_by Plain t g r = r
repetition_by Bundled t g r = r
repetition_by Asynchronous t None r = r
repetition_by Asynchronous t (Some g) r = Some (record { process = g.process; until = t + g.repetitions })

abbrev pub repetition_after : CellKind → ℕ → Option GrantInForce → Work → Option Repetition → Option Repetition
repetition_after kind t g (work.Rest o p) r = r
repetition_after kind t g (work.New p) r = repetition_by kind t g r
repetition_after kind t g (work.Again p acked) r = repetition_by kind t g r

-- The end of a subframe: the process is put back, the tally counts, and the clock gains 1.
abbrev pub one_if : Bool → ℕ
one_if b = cond b 1 0

abbrev pub finished : State → ℕ → Option Repetition → Conclusion → State
finished st k r c = record {
  processes = slice_set st.processes k c.process;
  configured = st.configured;
  repetition = r;
  msg3 = st.msg3;
  tally = record { packets = st.tally.packets + one_if c.begun; sendings = st.tally.sendings + one_if c.sent };
  clock = st.clock + 1;
}

abbrev pub with_configured : State → Option ConfiguredGrant → State
with_configured st c = record { processes = st.processes; configured = c; repetition = st.repetition; msg3 = st.msg3; tally = st.tally; clock = st.clock }

abbrev pub clock_moved : State → State
clock_moved st = record { processes = st.processes; configured = st.configured; repetition = st.repetition; msg3 = st.msg3; tally = st.tally; clock = st.clock + 1 }

-- The events.
abbrev pub answer_events : Option ℕ → ℕ → Option Feedback → Bool → List Event
answer_events None t a gap = []
answer_events (Some k) t a gap = answers k t a gap ∷ []

abbrev pub is_starved : Outcome → Bool
is_starved Idle = false
is_starved EmptyBuffer = false
is_starved NoPacket = true
is_starved Sent = false
is_starved Gap = false
is_starved Acknowledged = false

abbrev pub starved : Course → Bool
starved (rests o p) = is_starved o
starved (begins g f p) = false
starved (again p acked) = false

abbrev pub start_events : ℕ → ℕ → Course → List Event
start_events k t (rests o p) = []
start_events k t (begins g f p) = starts (record { process = k; first = t; grant = g; from_msg3 = f.from_msg3; packet = f.packet }) ∷ []
start_events k t (again p acked) = []

abbrev pub send_events : Option Sending → List Event
send_events None = []
send_events (Some x) = sends x ∷ []

abbrev pub flush_events : Bool → ℕ → ℕ → List Event
flush_events true k t = flushes k t ∷ []
flush_events false k t = []

abbrev pub process_events : ℕ → ℕ → Option GrantInForce → Bool → Course → Option Sending → Bool → List Event
process_events k t g gap c x up = meets k t g gap (starved c) ∷ (start_events k t c ++ (send_events x ++ flush_events up k t))

-- The subframe of process k: the state has heard the answer, and g is the grant in force.
abbrev pub process_done : Setup → State → List ℕ → Bool → (ℕ → Option (List ℕ)) → Option GrantInForce → ℕ → Done
process_done su st m gap offers g k =
    let p = referred g (process_at st.processes k) in
    let d = decided su g p in
    let c = course su d st.msg3 m offers p in
    let w = work_of c in
    let m1 = memory_after m k c in
    let e = concluded su k gap w in
    let x = sending st.clock k m1 gap w in
    record {
      reply = e.reply;
      state = finished st k (repetition_after su.kind st.clock g w st.repetition) e;
      memory = m1;
      asked = asked d st.msg3;
      sending = x;
      events = process_events k st.clock g gap c x e.reply.given_up;
    }

-- a subframe with no process, in an asynchronous cell
abbrev pub idle_reply : Reply
idle_reply = record { outcome = Idle; process = 8; version = record { 0 = 0 }; given_up = false }

abbrev pub idle_done : State → List ℕ → Done
idle_done st m = record { reply = idle_reply; state = clock_moved st; memory = m; asked = None; sending = None; events = [] }

abbrev pub turn_done : Setup → State → List ℕ → Bool → (ℕ → Option (List ℕ)) → Option GrantInForce → Option ℕ → Done
turn_done su st m gap offers g None = idle_done st m
turn_done su st m gap offers g (Some k) = process_done su st m gap offers g k

abbrev pub after_events : List Event → Done → Done
after_events es d = record { reply = d.reply; state = d.state; memory = d.memory; asked = d.asked; sending = d.sending; events = es ++ d.events }

-- an accepted subframe
abbrev pub subframe_done : Setup → State → List ℕ → Given → Done
subframe_done su st m i =
    let s1 = heard su st i.gap i.answer in
    let g = grant_in_force su s1.clock s1.configured i.grant in
    let s2 = with_configured s1 (stored_after s1.clock s1.configured i.grant) in
    after_events (answer_events (answering su.kind st.clock) st.clock i.answer i.gap)
    (turn_done su s2 m i.gap i.offers g (process_of su.kind s2.clock g s2.repetition))

abbrev pub unless_refused : Result (Unit {0}) Refusal → Done → Result Done Refusal
unless_refused (Ok u) d = Ok d
unless_refused (Err e) d = Err e

-- a subframe call
abbrev pub subframe : Setup → State → List ℕ → Given → Result Done Refusal
subframe su st m i = let d = subframe_done su st m i in unless_refused (questioned su st (length m) i.ready i.gap i.answer i.grant) d
