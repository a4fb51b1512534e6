-- The HARQ entity (TS 36.321, 5.4.2.1): the process of a subframe, and what it is instructed to do.
use Rattle.std.specs.Prelude.{ℕ, ◌-◌, ◌/◌, ◌%◌, Bool, true, false, cond, not, ◌&&◌, ◌||◌, List, length, Some, None, Option, ◌==◌, nat_le, nat_lt, slice_index_or}
use Rattle.terms.specs.declared.answer.Outcome.{Outcome}
use Rattle.terms.specs.declared.answer.Outcome.TheVariants.{Idle, EmptyBuffer, NoPacket}
use Rattle.terms.specs.declared.setup.CellKind.{CellKind}
use Rattle.terms.specs.declared.setup.CellKind.TheVariants.{Plain, Bundled, Asynchronous}
use Rattle.terms.specs.declared.setup.Setup.{Setup}
use Rattle.terms.specs.declared.grant.Reception.{Reception}
use Rattle.terms.specs.declared.grant.Reception.TheVariants.{CRnti, TemporaryCRnti, SpsRetransmission, Configured, RandomAccessResponse}
use Rattle.terms.specs.declared.grant.GrantInForce.{GrantInForce}
use Rattle.terms.specs.declared.process.Process.{Process}
use Rattle.terms.specs.declared.state.Repetition.{Repetition}
use Rattle.terms.specs.declared.decision.Decision.{Decision}
use Rattle.terms.specs.declared.decision.Decision.TheVariants as decision
use Rattle.terms.specs.declared.decision.Work.{Work}
use Rattle.terms.specs.declared.decision.Work.TheVariants as work
use Rattle.rules.specs.Memory.{part, written}
use Rattle.rules.specs.Process.{idle, is_ack, holds_packet, renewed, adapted, repeated}

abbrev pub process_at : List Process → ℕ → Process
process_at ps k = slice_index_or ps k idle

-- the process whose repetitions run in subframe t
abbrev pub repeating : ℕ → Option Repetition → Option ℕ
repeating t None = None
repeating t (Some r) = cond (nat_lt t r.until) (Some r.process) None

-- the process of subframe t
abbrev pub process_of : CellKind → ℕ → Option GrantInForce → Option Repetition → Option ℕ
process_of Plain t g r = Some (t % 8)
process_of Bundled t g r = Some (t % 16 / 4)
process_of Asynchronous t (Some g) r = Some g.process
process_of Asynchronous t None r = repeating t r

-- the process whose answer falls in subframe t: that of t less 4, in a bundled cell only at the last subframe of a bundle
abbrev pub answering : CellKind → ℕ → Option ℕ
answering Plain t = cond (nat_le 4 t) (Some ((t - 4) % 8)) None
answering Bundled t = cond (nat_le 4 t && t % 4 == 3) (Some ((t - 4) % 16 / 4)) None
answering Asynchronous t = None

-- An absent reference counts as toggled.
abbrev pub toggled : ℕ → Option ℕ → Bool
toggled n None = true
toggled n (Some r) = not (r == n)

-- a grant wants a new transmission
abbrev pub wants_new : Reception → Process → Bool
wants_new (CRnti n) p = not (holds_packet p) || toggled n p.reference_ndi
wants_new TemporaryCRnti p = false
wants_new SpsRetransmission p = false
wants_new Configured p = true
wants_new RandomAccessResponse p = true

-- a configured grant of an interval below 10 does not displace a packet that is not acknowledged
abbrev pub spares : Setup → Reception → Process → Bool
spares su (CRnti n) p = false
spares su TemporaryCRnti p = false
spares su SpsRetransmission p = false
spares su Configured p = nat_lt su.interval 10 && (holds_packet p && not (is_ack p.harq_feedback))
spares su RandomAccessResponse p = false

-- with a grant: is a new transmission wanted, is the held packet spared, is one held
abbrev pub decided_by : GrantInForce → Bool → Bool → Bool → Decision
decided_by g true true held = decision.NonAdaptive
decided_by g true false held = decision.New g
decided_by g false spared true = decision.Adaptive g
decided_by g false spared false = decision.Rest EmptyBuffer

-- what the process of a subframe is instructed to do
abbrev pub decided : Setup → Option GrantInForce → Process → Decision
decided su (Some g) p = decided_by g (wants_new g.reception p) (spares su g.reception p) (holds_packet p)
decided su None p = cond (holds_packet p) decision.NonAdaptive (decision.Rest Idle)

-- a packet for a new transmission
pub record Fresh : Type 0 where
  pub from_msg3 : Bool
  pub packet : List ℕ

-- the length of the Msg3 packet that a grant takes: only a Random Access Response takes it
abbrev pub msg3_taken : Reception → Option ℕ → Option ℕ
msg3_taken (CRnti n) m = None
msg3_taken TemporaryCRnti m = None
msg3_taken SpsRetransmission m = None
msg3_taken Configured m = None
msg3_taken RandomAccessResponse m = m

abbrev pub offered : Option (List ℕ) → Option Fresh
offered None = None
offered (Some b) = Some (record { from_msg3 = false; packet = b })

-- taken from Msg3 by its length, or asked of the source by the granted size
abbrev pub obtained_by : Option ℕ → ℕ → List ℕ → (ℕ → Option (List ℕ)) → Option Fresh
obtained_by (Some n) size m offers = Some (record { from_msg3 = true; packet = part m 8 n })
obtained_by None size m offers = offered (offers size)

-- the packet that a new transmission obtains: length of the Msg3 packet, packet memory, what the source offers for each size
abbrev pub obtained : GrantInForce → Option ℕ → List ℕ → (ℕ → Option (List ℕ)) → Option Fresh
obtained g msg3 m offers = obtained_by (msg3_taken g.reception msg3) g.size m offers

abbrev pub asked_by : Option ℕ → ℕ → Option ℕ
asked_by (Some n) size = None
asked_by None size = Some size

-- the size that the source is asked for, if it is asked
abbrev pub asked : Decision → Option ℕ → Option ℕ
asked (decision.Rest o) msg3 = None
asked (decision.New g) msg3 = asked_by (msg3_taken g.reception msg3) g.size
asked (decision.Adaptive g) msg3 = None
asked decision.NonAdaptive msg3 = None

-- what a subframe has its process do, with the process as it stands before anything is sent
pub data Course : Type 0 where
  -- nothing is transmitted, with this outcome
  rests : Outcome → Process → Course
  -- a new transmission, with its packet and the grant
  begins : GrantInForce → Fresh → Process → Course
  -- a retransmission; the mark says that an ACK keeps it off the air
  again : Process → Bool → Course

-- where no packet is obtained, nothing is done
abbrev pub begun : Setup → GrantInForce → Process → Option Fresh → Course
begun su g p None = rests NoPacket p
begun su g p (Some f) = begins g f (renewed su g (length f.packet) f.from_msg3 p)

-- a decision carried out, up to the sending: length of the Msg3 packet, packet memory, what the source offers
abbrev pub course : Setup → Decision → Option ℕ → List ℕ → (ℕ → Option (List ℕ)) → Process → Course
course su (decision.Rest o) msg3 m offers p = rests o p
course su (decision.New g) msg3 m offers p = begun su g p (obtained g msg3 m offers)
course su (decision.Adaptive g) msg3 m offers p = again (adapted su g p) false
course su decision.NonAdaptive msg3 m offers p = again (repeated su p) (is_ack p.harq_feedback)

-- a course without the bytes of its packet
abbrev pub work_of : Course → Work
work_of (rests o p) = work.Rest o p
work_of (begins g f p) = work.New p
work_of (again p acked) = work.Again p acked

-- packet memory after a course of process k
abbrev pub memory_after : List ℕ → ℕ → Course → List ℕ
memory_after m k (rests o p) = m
memory_after m k (begins g f p) = written m k f.packet
memory_after m k (again p acked) = m
