-- The HARQ process (TS 36.321, 5.4.2.2): what each request, answer and sending makes of it.
use Rattle.std.specs.Prelude.{ℕ, ◌+◌, ◌-◌, Bool, true, false, cond, not, ◌&&◌, ◌||◌, is_some, Some, None, Option, ◌==◌, nat_le}
use Rattle.terms.specs.declared.setup.CellKind.{CellKind}
use Rattle.terms.specs.declared.setup.CellKind.TheVariants.{Plain, Bundled, Asynchronous}
use Rattle.terms.specs.declared.setup.Setup.{Setup}
use Rattle.terms.specs.declared.process.Feedback.{Feedback}
use Rattle.terms.specs.declared.process.Feedback.TheVariants.{Nack, Ack}
use Rattle.terms.specs.declared.process.Process.{Process}
use Rattle.terms.specs.declared.version.Irv.{Irv}
use Rattle.terms.specs.declared.version.RedundancyVersion.{RedundancyVersion}
use Rattle.terms.specs.declared.grant.Reception.{Reception}
use Rattle.terms.specs.declared.grant.Reception.TheVariants.{CRnti, TemporaryCRnti, SpsRetransmission, Configured, RandomAccessResponse}
use Rattle.terms.specs.declared.grant.GrantInForce.{GrantInForce}
use Rattle.terms.specs.Versions.{index_of, next_index}

-- a process at set-up
abbrev pub idle : Process
idle = record { buffer = None; from_msg3 = false; current_tx_nb = 0; harq_feedback = Nack; current_irv = record { 0 = 0 }; mcs = 0; resource = 0; reference_ndi = None; awaits_answer = false }

abbrev pub synchronous : CellKind → Bool
synchronous Plain = true
synchronous Bundled = true
synchronous Asynchronous = false

abbrev pub is_ack : Feedback → Bool
is_ack Nack = false
is_ack Ack = true

-- the HARQ buffer is not empty
abbrev pub holds_packet : Process → Bool
holds_packet p = is_some p.buffer

-- An answer. The feedback of a process that awaits one: a measurement gap counts as ACK unless the packet is from Msg3; else a given answer is taken over.
abbrev pub feedback_heard : Bool → Bool → Option Feedback → Feedback → Feedback
feedback_heard true true a f = f
feedback_heard true false a f = Ack
feedback_heard false m (Some a) f = a
feedback_heard false m None f = f

abbrev pub with_feedback : Process → Feedback → Process
with_feedback p f = record { buffer = p.buffer; from_msg3 = p.from_msg3; current_tx_nb = p.current_tx_nb; harq_feedback = f; current_irv = p.current_irv; mcs = p.mcs; resource = p.resource; reference_ndi = p.reference_ndi; awaits_answer = false }

-- in the subframe of its answers: gap, answer
abbrev pub hears : Bool → Option Feedback → Process → Process
hears gap a p = cond p.awaits_answer (with_feedback p (feedback_heard gap p.from_msg3 a p.harq_feedback)) p

-- the redundancy version of a grant: its own in an asynchronous cell, else 0 for MCS 0 to 28, and 1, 2, 3 for 29, 30, 31 (subtraction ends at 0)
abbrev pub granted_version : CellKind → GrantInForce → RedundancyVersion
granted_version Plain g = record { 0 = g.mcs - 28 }
granted_version Bundled g = record { 0 = g.mcs - 28 }
granted_version Asynchronous g = g.version

-- CURRENT_IRV at a new transmission
abbrev pub first_index : CellKind → GrantInForce → Irv
first_index Plain g = record { 0 = 0 }
first_index Bundled g = record { 0 = 0 }
first_index Asynchronous g = index_of g.version

-- a followed C-RNTI grant leaves its NDI as the reference
abbrev pub reference_set : Reception → Option ℕ → Option ℕ
reference_set (CRnti n) r = Some n
reference_set TemporaryCRnti r = r
reference_set SpsRetransmission r = r
reference_set Configured r = r
reference_set RandomAccessResponse r = r

-- A new transmission of a packet: grant, length, from Msg3?
abbrev pub renewed : Setup → GrantInForce → ℕ → Bool → Process → Process
renewed su g n m p = record {
  buffer = Some n;
  from_msg3 = m;
  current_tx_nb = 0;
  harq_feedback = Nack;
  current_irv = first_index su.kind g;
  mcs = g.mcs;
  resource = g.resource;
  reference_ndi = reference_set g.reception p.reference_ndi;
  awaits_answer = p.awaits_answer;
}

-- CURRENT_TX_NB is counted in a synchronous cell, by each retransmission, sent or not
abbrev pub counted : CellKind → ℕ → ℕ
counted Plain n = n + 1
counted Bundled n = n + 1
counted Asynchronous n = n

-- An adaptive retransmission: MCS above 28 keeps the stored one.
abbrev pub adapted : Setup → GrantInForce → Process → Process
adapted su g p = record {
  buffer = p.buffer;
  from_msg3 = p.from_msg3;
  current_tx_nb = counted su.kind p.current_tx_nb;
  harq_feedback = Nack;
  current_irv = index_of (granted_version su.kind g);
  mcs = cond (nat_le g.mcs 28) g.mcs p.mcs;
  resource = g.resource;
  reference_ndi = reference_set g.reception p.reference_ndi;
  awaits_answer = p.awaits_answer;
}

-- A non-adaptive retransmission.
abbrev pub repeated : Setup → Process → Process
repeated su p = record {
  buffer = p.buffer;
  from_msg3 = p.from_msg3;
  current_tx_nb = counted su.kind p.current_tx_nb;
  harq_feedback = p.harq_feedback;
  current_irv = p.current_irv;
  mcs = p.mcs;
  resource = p.resource;
  reference_ndi = p.reference_ndi;
  awaits_answer = p.awaits_answer;
}

-- A transmission goes on the air unless an ACK keeps it back, or a measurement gap one that is not from Msg3: acknowledged?, gap?
abbrev pub on_air : Bool → Bool → Process → Bool
on_air acked gap p = not acked && (not gap || p.from_msg3)

-- a sending advances CURRENT_IRV, and a synchronous process then awaits an answer
abbrev pub advanced : Setup → Process → Process
advanced su p = record {
  buffer = p.buffer;
  from_msg3 = p.from_msg3;
  current_tx_nb = p.current_tx_nb;
  harq_feedback = p.harq_feedback;
  current_irv = next_index p.current_irv;
  mcs = p.mcs;
  resource = p.resource;
  reference_ndi = p.reference_ndi;
  awaits_answer = synchronous su.kind || p.awaits_answer;
}

-- the maximum number of transmissions of a packet: from Msg3?
abbrev pub maximum : Setup → Bool → ℕ
maximum su true = su.max_harq_msg3_tx
maximum su false = su.max_harq_tx

-- the transmissions of a synchronous packet are used up
abbrev pub gives_up : Setup → Process → Bool
gives_up su p = synchronous su.kind && p.current_tx_nb + 1 == maximum su p.from_msg3

abbrev pub flushed : Process → Process
flushed p = record { buffer = None; from_msg3 = p.from_msg3; current_tx_nb = p.current_tx_nb; harq_feedback = p.harq_feedback; current_irv = p.current_irv; mcs = p.mcs; resource = p.resource; reference_ndi = p.reference_ndi; awaits_answer = p.awaits_answer }

-- a process after a transmission that went on the air or did not
abbrev pub transmitted : Setup → Bool → Process → Process
transmitted su sent p = cond (gives_up su p) (flushed (cond sent (advanced su p) p)) (cond sent (advanced su p) p)
