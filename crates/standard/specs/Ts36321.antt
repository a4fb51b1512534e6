-- UL grant reception, HARQ entity and HARQ process of TS 36.321 (5.4.1, 5.4.2.1, 5.4.2.2), transcribed as relations in the words of that text:
-- a constructor for each "shall" with its condition. What is left out, and where the text is read more narrowly, stands in docs/STANDARD.md.
use Rattle.std.specs.Prelude.{◌≡◌, ℕ, ◌+◌, ◌-◌, ◌*◌, ◌/◌, ◌%◌, ◌<◌, ◌≤◌, Bool, true, false, cond, List, [], ◌∷◌, Some, None, Option, ◌==◌, ◌≢◌, slice_index}
use Rattle.terms.specs.declared.setup.CellKind.{CellKind}
use Rattle.terms.specs.declared.setup.CellKind.TheVariants.{Plain, Bundled, Asynchronous}
use Rattle.terms.specs.declared.setup.Setup.{Setup}
use Rattle.terms.specs.declared.grant.Grant.{Grant}
use Rattle.terms.specs.declared.process.Feedback.{Feedback}
use Rattle.terms.specs.declared.process.Feedback.TheVariants.{Nack, Ack}
use Rattle.terms.specs.Sendings.{Sending}

-- THE TERMS

-- how an uplink grant came to the MAC entity
pub data Received : Type 0 where
  -- on PDCCH for the C-RNTI
  for_c_rnti : Received
  -- on PDCCH for the Temporary C-RNTI
  for_temporary_c_rnti : Received
  -- on PDCCH for the Semi-Persistent Scheduling C-RNTI
  for_sps_c_rnti : Received
  in_random_access_response : Received
  -- a configured uplink grant
  configured : Received

-- an uplink grant with its HARQ information
pub record UplinkGrant : Type 0 where
  pub received : Received
  pub NDI : ℕ
  pub MCS : ℕ
  pub redundancy_version : ℕ
  -- the HARQ process identifier
  pub identifier : ℕ
  pub UL_REPETITION_NUMBER : ℕ
  pub resource : ℕ
  -- bytes of the MAC PDU
  pub size : ℕ

-- a grant that came over the air
abbrev pub uplink_grant : Received → Grant → UplinkGrant
uplink_grant r g = record { received = r; NDI = g.ndi; MCS = g.mcs; redundancy_version = g.version; identifier = g.process; UL_REPETITION_NUMBER = g.repetitions; resource = g.resource; size = g.size }

-- what is stored as configured uplink grant
pub record Configured : Type 0 where
  -- the TTI in which it starts
  pub start : ℕ
  pub MCS : ℕ
  pub resource : ℕ
  pub size : ℕ

abbrev pub configured_grant : Configured → UplinkGrant
configured_grant c = record { received = configured; NDI = 0; MCS = c.MCS; redundancy_version = 0; identifier = 0; UL_REPETITION_NUMBER = 1; resource = c.resource; size = c.size }

pub record HarqProcess : Type 0 where
  -- the MAC PDU in the HARQ buffer; none: the buffer is empty
  pub buffer : Option (List ℕ)
  -- the MAC PDU was obtained from the Msg3 buffer
  pub from_msg3 : Bool
  pub CURRENT_TX_NB : ℕ
  pub HARQ_FEEDBACK : Feedback
  pub CURRENT_IRV : ℕ
  -- of the stored uplink grant
  pub MCS : ℕ
  pub resource : ℕ
  -- the TTI in which the HARQ feedback of the latest transmission is received
  pub feedback_time : Option ℕ
  -- the NDI of the previous transmission that followed a grant for the C-RNTI
  pub previous_ndi : Option ℕ
  -- how the previous uplink grant for this process came
  pub previous_grant : Option Received

-- a bundle of repetitions: its process, the TTI in which it starts, and how many transmissions it has
pub record Bundle : Type 0 where
  pub process : ℕ
  pub start : ℕ
  pub number : ℕ

-- the MAC entity, as far as its uplink HARQ goes
pub record MAC : Type 0 where
  pub process : ℕ → HarqProcess
  pub configured : Option Configured
  pub bundle : Option Bundle
  -- the MAC PDU in the Msg3 buffer
  pub Msg3 : Option (List ℕ)

-- a TTI, with what the MAC entity receives in it
pub record TTI : Type 0 where
  pub time : ℕ
  -- it lies in a measurement gap
  pub gap : Bool
  -- HARQ feedback relayed by the physical layer
  pub feedback : Option Feedback
  -- an uplink grant for this TTI
  pub grant : Option Grant
  -- what the "Multiplexing and assembly" entity has for a MAC PDU of each size
  pub assembly : ℕ → Option (List ℕ)

-- UL HARQ operation is synchronous
pub data Synchronous : CellKind → Type 0 where
  plain : Synchronous Plain
  bundled : Synchronous Bundled

-- at first: every HARQ buffer is empty, CURRENT_TX_NB is initialized to 0
abbrev pub established_process : HarqProcess
established_process = record { buffer = None; from_msg3 = false; CURRENT_TX_NB = 0; HARQ_FEEDBACK = Nack; CURRENT_IRV = 0; MCS = 0; resource = 0; feedback_time = None; previous_ndi = None; previous_grant = None }

abbrev pub established : MAC
established = record { process = λ k. established_process; configured = None; bundle = None; Msg3 = None }

-- 5.4.1 UL GRANT RECEPTION

-- 5.10.2: where semiPersistSchedIntervalUL is configured, the configured uplink grant occurs again N intervals after its start, for all N > 0
abbrev pub Occurs : Setup → ℕ → Configured → Type 0
Occurs su t c = (N : ℕ) × (0 < N) × (0 < su.interval) × (t ≡ c.start + N * su.interval)

-- an uplink grant for this TTI has been configured
pub data ConfiguredFor (su : Setup) (t : ℕ) : Option Configured → Type 0 where
  occurs : (c : Configured) → Occurs su t c → ConfiguredFor su t (Some c)

-- for the TTI t, with the configured uplink grant: what came over the air, what is delivered to the HARQ entity, the configured uplink grant then
pub data Delivers (su : Setup) (t : ℕ) : Option Configured → Option Grant → Option UplinkGrant → Option Configured → Type 0 where
  -- received on the PDCCH for the C-RNTI: deliver it
  CRntiGrant : (c : Option Configured) (g : Grant) → g.kind ≡ 0 → Delivers su t c (Some g) (Some (uplink_grant for_c_rnti g)) c
  -- received on the PDCCH for the Temporary C-RNTI: deliver it
  TemporaryCRntiGrant : (c : Option Configured) (g : Grant) → g.kind ≡ 1 → Delivers su t c (Some g) (Some (uplink_grant for_temporary_c_rnti g)) c
  -- received in a Random Access Response: deliver it
  RandomAccessResponseGrant : (c : Option Configured) (g : Grant) → g.kind ≡ 4 → Delivers su t c (Some g) (Some (uplink_grant in_random_access_response g)) c
  -- received for the SPS C-RNTI, NDI is 1: deliver it
  SpsRetransmission : (c : Option Configured) (g : Grant) → g.kind ≡ 2 → g.ndi ≡ 1 → Delivers su t c (Some g) (Some (uplink_grant for_sps_c_rnti g)) c
  -- received for the SPS C-RNTI, the PDCCH contents indicate release: clear the configured uplink grant
  SpsRelease : (c : Option Configured) (g : Grant) → g.kind ≡ 3 → Delivers su t c (Some g) None None
  -- received for the SPS C-RNTI, NDI is 0 and no release: store it as configured uplink grant, to start in this TTI and to recur; deliver it
  SpsActivation : (c : Option Configured) (g : Grant) → g.kind ≡ 2 → g.ndi ≡ 0
      → Delivers su t c (Some g) (Some (uplink_grant configured g)) (Some (record { start = t; MCS = g.mcs; resource = g.resource; size = g.size }))
  -- none received, and one has been configured for this TTI: deliver the configured uplink grant
  configured_occurs : (c : Configured) → Occurs su t c → Delivers su t (Some c) None (Some (configured_grant c)) (Some c)
  -- none received and none configured for this TTI
  no_grant : (c : Option Configured) → (ConfiguredFor su t c → ⊥) → Delivers su t c None None c

-- whether the NDI of a grant for a process counts as toggled
pub data Toggled (h : HarqProcess) (g : UplinkGrant) : Type 0 where
  -- a configured uplink grant: consider the NDI bit to have been toggled
  by_configuration : g.received ≡ configured → Toggled h g
  -- for the C-RNTI, and the previous uplink grant for the same process was received for the SPS C-RNTI, was a configured uplink grant, or came in a
  -- Random Access Response: consider the NDI to have been toggled regardless of its value
  after_sps : g.received ≡ for_c_rnti → h.previous_grant ≡ Some for_sps_c_rnti → Toggled h g
  after_configured : g.received ≡ for_c_rnti → h.previous_grant ≡ Some configured → Toggled h g
  after_random_access_response : g.received ≡ for_c_rnti → h.previous_grant ≡ Some in_random_access_response → Toggled h g
  -- compared to the value in the previous transmission of this process
  by_value : (n : ℕ) → g.received ≡ for_c_rnti → h.previous_ndi ≡ Some n → (n ≢ g.NDI) → Toggled h g
  -- there is no previous value
  at_first : g.received ≡ for_c_rnti → h.previous_ndi ≡ None → Toggled h g

-- what a grant delivered to the HARQ entity leaves to be compared with: one for the SPS C-RNTI, a configured one and one in a Random Access Response count
-- as previous grant at once, one for the C-RNTI once it brings a transmission, and one for the Temporary C-RNTI never
pub data Notes (h : HarqProcess) : Option UplinkGrant → Option Received → Type 0 where
  none : Notes h None h.previous_grant
  CRnti : (g : UplinkGrant) → g.received ≡ for_c_rnti → Notes h (Some g) h.previous_grant
  TemporaryCRnti : (g : UplinkGrant) → g.received ≡ for_temporary_c_rnti → Notes h (Some g) h.previous_grant
  SpsCRnti : (g : UplinkGrant) → g.received ≡ for_sps_c_rnti → Notes h (Some g) (Some for_sps_c_rnti)
  RandomAccessResponse : (g : UplinkGrant) → g.received ≡ in_random_access_response → Notes h (Some g) (Some in_random_access_response)
  configured_one : (g : UplinkGrant) → g.received ≡ configured → Notes h (Some g) (Some configured)

abbrev pub noted : HarqProcess → Option Received → HarqProcess
noted h r = record { buffer = h.buffer; from_msg3 = h.from_msg3; CURRENT_TX_NB = h.CURRENT_TX_NB; HARQ_FEEDBACK = h.HARQ_FEEDBACK; CURRENT_IRV = h.CURRENT_IRV; MCS = h.MCS; resource = h.resource; feedback_time = h.feedback_time; previous_ndi = h.previous_ndi; previous_grant = r }

-- 5.4.2.1 HARQ ENTITY

-- the HARQ process associated with TTI t, with the bundle under way and the grant delivered
pub data Identifies (su : Setup) (t : ℕ) (b : Option Bundle) : Option UplinkGrant → ℕ → Type 0 where
  -- synchronous: one of eight in turn
  synchronously : (g : Option UplinkGrant) → su.kind ≡ Plain → Identifies su t b g (t % 8)
  -- with TTI bundling: one of four in turn, each for a bundle of four TTIs
  with_bundling : (g : Option UplinkGrant) → su.kind ≡ Bundled → Identifies su t b g (t % 16 / 4)
  -- asynchronous: based on the received grant, except for a grant in a Random Access Response
  by_grant : (g : UplinkGrant) → su.kind ≡ Asynchronous → (g.received ≢ in_random_access_response) → Identifies su t b (Some g) g.identifier
  -- for which HARQ process identifier 0 is used
  by_random_access_response : (g : UplinkGrant) → su.kind ≡ Asynchronous → g.received ≡ in_random_access_response → Identifies su t b (Some g) 0
  -- asynchronous, with no grant: the same process for each transmission of the same bundle
  by_bundle : (r : Bundle) → su.kind ≡ Asynchronous → b ≡ Some r → r.start ≤ t → t < r.start + r.number → Identifies su t b None r.process

-- what the HARQ entity requests of the identified process
pub data Request : Type 0 where
  -- the MAC PDU, whether it was obtained from the Msg3 buffer, the uplink grant
  new_transmission : List ℕ → Bool → UplinkGrant → Request
  adaptive_retransmission : UplinkGrant → Request
  non_adaptive_retransmission : Request
  no_request : Request

-- a grant that asks for a new transmission
pub data New (h : HarqProcess) (g : UplinkGrant) : Type 0 where
  -- it was not addressed to a Temporary C-RNTI, and the NDI has been toggled
  toggled : (g.received ≢ for_temporary_c_rnti) → Toggled h g → New h g
  -- it was received on PDCCH for the C-RNTI, and the HARQ buffer is empty
  empty_buffer : g.received ≡ for_c_rnti → h.buffer ≡ None → New h g
  -- it was received in a Random Access Response
  random_access : g.received ≡ in_random_access_response → New h g

-- there is a MAC PDU in the Msg3 buffer, and the uplink grant was received in a Random Access Response
pub data FromMsg3 (Msg3 : Option (List ℕ)) (g : UplinkGrant) : List ℕ → Type 0 where
  held : (pdu : List ℕ) → g.received ≡ in_random_access_response → Msg3 ≡ Some pdu → FromMsg3 Msg3 g pdu

-- semiPersistSchedIntervalUL is shorter than 10 subframes, the grant is a configured grant, the HARQ buffer is not empty, and HARQ_FEEDBACK is NACK
pub data Kept (su : Setup) (h : HarqProcess) (g : UplinkGrant) : Type 0 where
  kept : (pdu : List ℕ) → su.interval < 10 → g.received ≡ configured → h.buffer ≡ Some pdu → h.HARQ_FEEDBACK ≡ Nack → Kept su h g

-- Msg3 buffer, what multiplexing and assembly has, identified process, grant: what is requested
pub data Requests (su : Setup) (Msg3 : Option (List ℕ)) (assembly : ℕ → Option (List ℕ)) (h : HarqProcess) : Option UplinkGrant → Request → Type 0 where
  -- new: obtain the MAC PDU from the Msg3 buffer; instruct the process to trigger a new transmission
  Msg3Transmission : (g : UplinkGrant) (pdu : List ℕ) → New h g → FromMsg3 Msg3 g pdu → Requests su Msg3 assembly h (Some g) (new_transmission pdu true g)
  -- else: instruct it to generate a non-adaptive retransmission
  kept_for_retransmission : (g : UplinkGrant) → New h g → ((pdu : List ℕ) → FromMsg3 Msg3 g pdu → ⊥) → Kept su h g → Requests su Msg3 assembly h (Some g) non_adaptive_retransmission
  -- else: obtain the MAC PDU from the "Multiplexing and assembly" entity; instruct it to trigger a new transmission
  assembled_transmission : (g : UplinkGrant) (pdu : List ℕ) → New h g → ((pdu : List ℕ) → FromMsg3 Msg3 g pdu → ⊥) → (Kept su h g → ⊥) → assembly g.size ≡ Some pdu
      → Requests su Msg3 assembly h (Some g) (new_transmission pdu false g)
  -- no MAC PDU has been obtained
  none_obtained : (g : UplinkGrant) → New h g → ((pdu : List ℕ) → FromMsg3 Msg3 g pdu → ⊥) → (Kept su h g → ⊥) → assembly g.size ≡ None → Requests su Msg3 assembly h (Some g) no_request
  -- not new: instruct it to generate an adaptive retransmission
  adaptive : (g : UplinkGrant) (pdu : List ℕ) → (New h g → ⊥) → h.buffer ≡ Some pdu → Requests su Msg3 assembly h (Some g) (adaptive_retransmission g)
  -- not new, and there is nothing to retransmit
  empty_retransmission : (g : UplinkGrant) → (New h g → ⊥) → h.buffer ≡ None → Requests su Msg3 assembly h (Some g) no_request
  -- no grant, and the HARQ buffer is not empty: instruct it to generate a non-adaptive retransmission
  non_adaptive : (pdu : List ℕ) → h.buffer ≡ Some pdu → Requests su Msg3 assembly h None non_adaptive_retransmission
  -- no grant, and the HARQ buffer is empty
  idle : h.buffer ≡ None → Requests su Msg3 assembly h None no_request

-- the bundle under way: in asynchronous operation a new transmission and an adaptive retransmission start one
pub data Bundles (su : Setup) (t k : ℕ) (b : Option Bundle) : Request → Option Bundle → Type 0 where
  new_bundle : (pdu : List ℕ) (m : Bool) (g : UplinkGrant) → su.kind ≡ Asynchronous → Bundles su t k b (new_transmission pdu m g) (Some (record { process = k; start = t; number = g.UL_REPETITION_NUMBER }))
  adaptive_bundle : (g : UplinkGrant) → su.kind ≡ Asynchronous → Bundles su t k b (adaptive_retransmission g) (Some (record { process = k; start = t; number = g.UL_REPETITION_NUMBER }))
  synchronous_new : (pdu : List ℕ) (m : Bool) (g : UplinkGrant) → Synchronous su.kind → Bundles su t k b (new_transmission pdu m g) b
  synchronous_adaptive : (g : UplinkGrant) → Synchronous su.kind → Bundles su t k b (adaptive_retransmission g) b
  within_bundle : Bundles su t k b non_adaptive_retransmission b
  no_bundle : Bundles su t k b no_request b

-- 5.4.2.2 HARQ PROCESS

-- the sequence of redundancy versions
abbrev pub sequence : List ℕ
sequence = 0 ∷ 2 ∷ 3 ∷ 1 ∷ []

-- the redundancy version that corresponds to a CURRENT_IRV value
abbrev pub version_of : ℕ → ℕ
version_of i = slice_index sequence i

-- i is the index that corresponds to a redundancy version
pub data Index (v : ℕ) : ℕ → Type 0 where
  index : (i : ℕ) → i < 4 → version_of i ≡ v → Index v i

-- the redundancy version that the MCS of a synchronous grant indicates (TS 36.213, Table 8.6.1-1)
pub data McsVersion : ℕ → ℕ → Type 0 where
  up_to_28 : (n : ℕ) → n ≤ 28 → McsVersion n 0
  at_29 : McsVersion 29 1
  at_30 : McsVersion 30 2
  at_31 : McsVersion 31 3

-- the MCS of an adaptive retransmission: as indicated, if one is provided, else the one used before
pub data McsUsed (before : ℕ) : ℕ → ℕ → Type 0 where
  provided : (n : ℕ) → n ≤ 28 → McsUsed before n n
  not_provided : (n : ℕ) → 28 < n → McsUsed before n before

-- what a transmission that follows a grant is compared with later
pub data Compared (h : HarqProcess) (g : UplinkGrant) : Option ℕ → Option Received → Type 0 where
  CRnti : g.received ≡ for_c_rnti → Compared h g (Some g.NDI) (Some for_c_rnti)
  other : (g.received ≢ for_c_rnti) → Compared h g h.previous_ndi h.previous_grant

-- the maximum number of transmissions: maxHARQ-Msg3Tx for a MAC PDU from the Msg3 buffer, else maxHARQ-Tx
abbrev pub maximum_number : Setup → HarqProcess → ℕ
maximum_number su h = cond h.from_msg3 su.max_harq_msg3_tx su.max_harq_tx

-- the HARQ feedback relayed in a TTI, at a process
pub data Hears (i : TTI) (h : HarqProcess) : Feedback → Type 0 where
  -- when the HARQ feedback is received for this TB: set HARQ_FEEDBACK to the received value
  feedback_received : (f : Feedback) → h.feedback_time ≡ Some i.time → i.gap ≡ false → i.feedback ≡ Some f → Hears i h f
  -- a measurement gap at the time of the HARQ feedback reception, and the MAC PDU was not obtained from the Msg3 buffer: set HARQ_FEEDBACK to ACK
  gap_at_feedback : h.feedback_time ≡ Some i.time → i.gap ≡ true → h.from_msg3 ≡ false → Hears i h Ack
  -- such a gap, and the MAC PDU was obtained from the Msg3 buffer
  gap_at_msg3_feedback : h.feedback_time ≡ Some i.time → i.gap ≡ true → h.from_msg3 ≡ true → Hears i h h.HARQ_FEEDBACK
  -- none came
  no_feedback : h.feedback_time ≡ Some i.time → i.gap ≡ false → i.feedback ≡ None → Hears i h h.HARQ_FEEDBACK
  -- not the time of this process's feedback
  other_time : (h.feedback_time ≢ Some i.time) → Hears i h h.HARQ_FEEDBACK

abbrev pub heard : HarqProcess → Feedback → HarqProcess
heard h f = record { buffer = h.buffer; from_msg3 = h.from_msg3; CURRENT_TX_NB = h.CURRENT_TX_NB; HARQ_FEEDBACK = f; CURRENT_IRV = h.CURRENT_IRV; MCS = h.MCS; resource = h.resource; feedback_time = h.feedback_time; previous_ndi = h.previous_ndi; previous_grant = h.previous_grant }

-- the HARQ entity requests something: the process then, and whether it generates a transmission
pub data Prepares (su : Setup) (h : HarqProcess) : Request → HarqProcess → Bool → Type 0 where
  -- new, synchronous: set CURRENT_TX_NB to 0, HARQ_FEEDBACK to NACK, CURRENT_IRV to 0; store the MAC PDU and the uplink grant; generate a transmission
  new_synchronous : (pdu : List ℕ) (m : Bool) (g : UplinkGrant) (n : Option ℕ) (r : Option Received) → Synchronous su.kind → Compared h g n r
      → Prepares su h (new_transmission pdu m g) (record { buffer = Some pdu; from_msg3 = m; CURRENT_TX_NB = 0; HARQ_FEEDBACK = Nack; CURRENT_IRV = 0; MCS = g.MCS; resource = g.resource; feedback_time = h.feedback_time; previous_ndi = n; previous_grant = r }) true
  -- new, else: set CURRENT_IRV to the index corresponding to the redundancy version provided in the HARQ information
  new_asynchronous : (pdu : List ℕ) (m : Bool) (g : UplinkGrant) (n : Option ℕ) (r : Option Received) (j : ℕ) → su.kind ≡ Asynchronous → Compared h g n r → Index g.redundancy_version j
      → Prepares su h (new_transmission pdu m g) (record { buffer = Some pdu; from_msg3 = m; CURRENT_TX_NB = h.CURRENT_TX_NB; HARQ_FEEDBACK = h.HARQ_FEEDBACK; CURRENT_IRV = j; MCS = g.MCS; resource = g.resource; feedback_time = h.feedback_time; previous_ndi = n; previous_grant = r }) true
  -- adaptive, synchronous: increment CURRENT_TX_NB by 1; store the uplink grant; set CURRENT_IRV to the index of the redundancy version, HARQ_FEEDBACK to
  -- NACK; generate a transmission
  adaptive_synchronous : (g : UplinkGrant) (n : Option ℕ) (r : Option Received) (v j s : ℕ) → Synchronous su.kind → Compared h g n r → McsVersion g.MCS v → Index v j → McsUsed h.MCS g.MCS s
      → Prepares su h (adaptive_retransmission g) (record { buffer = h.buffer; from_msg3 = h.from_msg3; CURRENT_TX_NB = h.CURRENT_TX_NB + 1; HARQ_FEEDBACK = Nack; CURRENT_IRV = j; MCS = s; resource = g.resource; feedback_time = h.feedback_time; previous_ndi = n; previous_grant = r }) true
  -- adaptive, else
  adaptive_asynchronous : (g : UplinkGrant) (n : Option ℕ) (r : Option Received) (j s : ℕ) → su.kind ≡ Asynchronous → Compared h g n r → Index g.redundancy_version j → McsUsed h.MCS g.MCS s
      → Prepares su h (adaptive_retransmission g) (record { buffer = h.buffer; from_msg3 = h.from_msg3; CURRENT_TX_NB = h.CURRENT_TX_NB; HARQ_FEEDBACK = h.HARQ_FEEDBACK; CURRENT_IRV = j; MCS = s; resource = g.resource; feedback_time = h.feedback_time; previous_ndi = n; previous_grant = r }) true
  -- non-adaptive, synchronous: increment CURRENT_TX_NB by 1; if HARQ_FEEDBACK = NACK, generate a transmission
  non_adaptive_nack : Synchronous su.kind → h.HARQ_FEEDBACK ≡ Nack
      → Prepares su h non_adaptive_retransmission (record { buffer = h.buffer; from_msg3 = h.from_msg3; CURRENT_TX_NB = h.CURRENT_TX_NB + 1; HARQ_FEEDBACK = h.HARQ_FEEDBACK; CURRENT_IRV = h.CURRENT_IRV; MCS = h.MCS; resource = h.resource; feedback_time = h.feedback_time; previous_ndi = h.previous_ndi; previous_grant = h.previous_grant }) true
  non_adaptive_ack : Synchronous su.kind → h.HARQ_FEEDBACK ≡ Ack
      → Prepares su h non_adaptive_retransmission (record { buffer = h.buffer; from_msg3 = h.from_msg3; CURRENT_TX_NB = h.CURRENT_TX_NB + 1; HARQ_FEEDBACK = h.HARQ_FEEDBACK; CURRENT_IRV = h.CURRENT_IRV; MCS = h.MCS; resource = h.resource; feedback_time = h.feedback_time; previous_ndi = h.previous_ndi; previous_grant = h.previous_grant }) false
  -- non-adaptive, asynchronous: generate a transmission
  non_adaptive_asynchronous : su.kind ≡ Asynchronous → Prepares su h non_adaptive_retransmission h true

-- the TTI of the HARQ feedback for a transmission in TTI t: four later, and for a bundle four after its last TTI, if HARQ is synchronous
pub data FeedbackFalls (t : ℕ) (before : Option ℕ) : CellKind → Option ℕ → Type 0 where
  four_later : FeedbackFalls t before Plain (Some (t + 4))
  after_last : (last : ℕ) → t ≤ last → last < t + 4 → last % 4 ≡ 3 → FeedbackFalls t before Bundled (Some (last + 4))
  not_applicable : FeedbackFalls t before Asynchronous before

-- according to the stored uplink grant, with the redundancy version of CURRENT_IRV
abbrev pub transmission : ℕ → ℕ → HarqProcess → List ℕ → Sending
transmission t k h pdu = record { subframe = t; process = k; version = record { 0 = version_of h.CURRENT_IRV }; mcs = h.MCS; resource = h.resource; packet = pdu }

-- increment CURRENT_IRV by 1, modulo 4
abbrev pub transmitted : HarqProcess → Option ℕ → HarqProcess
transmitted h f = record { buffer = h.buffer; from_msg3 = h.from_msg3; CURRENT_TX_NB = h.CURRENT_TX_NB; HARQ_FEEDBACK = h.HARQ_FEEDBACK; CURRENT_IRV = (h.CURRENT_IRV + 1) % 4; MCS = h.MCS; resource = h.resource; feedback_time = f; previous_ndi = h.previous_ndi; previous_grant = h.previous_grant }

-- to generate a transmission: kind, TTI, process number, measurement gap
pub data Generates (kind : CellKind) (t k : ℕ) (gap : Bool) (h : HarqProcess) : Option Sending → HarqProcess → Type 0 where
  -- the MAC PDU was obtained from the Msg3 buffer: instruct the physical layer
  Msg3Pdu : (pdu : List ℕ) (f : Option ℕ) → h.buffer ≡ Some pdu → h.from_msg3 ≡ true → FeedbackFalls t h.feedback_time kind f → Generates kind t k gap h (Some (transmission t k h pdu)) (transmitted h f)
  -- there is no measurement gap: instruct the physical layer
  no_gap : (pdu : List ℕ) (f : Option ℕ) → h.buffer ≡ Some pdu → gap ≡ false → FeedbackFalls t h.feedback_time kind f → Generates kind t k gap h (Some (transmission t k h pdu)) (transmitted h f)
  -- there is one, and the MAC PDU was not obtained from the Msg3 buffer
  in_gap : h.from_msg3 ≡ false → gap ≡ true → Generates kind t k gap h None h

abbrev pub emptied : HarqProcess → HarqProcess
emptied h = record { buffer = None; from_msg3 = h.from_msg3; CURRENT_TX_NB = h.CURRENT_TX_NB; HARQ_FEEDBACK = h.HARQ_FEEDBACK; CURRENT_IRV = h.CURRENT_IRV; MCS = h.MCS; resource = h.resource; feedback_time = h.feedback_time; previous_ndi = h.previous_ndi; previous_grant = h.previous_grant }

-- after the actions above
pub data Flushes (su : Setup) (h : HarqProcess) : HarqProcess → Type 0 where
  -- synchronous, and CURRENT_TX_NB = maximum number of transmissions - 1: flush the HARQ buffer
  last_transmission : Synchronous su.kind → h.CURRENT_TX_NB ≡ maximum_number su h - 1 → Flushes su h (emptied h)
  not_last : Synchronous su.kind → (h.CURRENT_TX_NB ≢ maximum_number su h - 1) → Flushes su h h
  no_maximum : su.kind ≡ Asynchronous → Flushes su h h

-- a request of process k, carried out in TTI t: what is transmitted, and the process then
pub data CarriesOut (su : Setup) (t k : ℕ) (gap : Bool) (h : HarqProcess) : Request → Option Sending → HarqProcess → Type 0 where
  nothing : CarriesOut su t k gap h no_request None h
  -- a transmission is generated
  generated : (r : Request) (h₁ h₂ h₃ : HarqProcess) (x : Option Sending) → Prepares su h r h₁ true → Generates su.kind t k gap h₁ x h₂ → Flushes su h₂ h₃ → CarriesOut su t k gap h r x h₃
  -- none is
  not_generated : (r : Request) (h₁ h₂ : HarqProcess) → Prepares su h r h₁ false → Flushes su h₁ h₂ → CarriesOut su t k gap h r None h₂

-- A TTI

-- process k is now h
abbrev pub put : ℕ → HarqProcess → (ℕ → HarqProcess) → ℕ → HarqProcess
put k h hs j = cond (j == k) h (hs j)

-- the HARQ feedback is routed to the processes
abbrev pub Routes : TTI → (ℕ → HarqProcess) → (ℕ → Feedback) → Type 0
Routes i hs fs = (k : ℕ) → Hears i (hs k) (fs k)

-- what the MAC entity has the physical layer transmit in a TTI, and the MAC entity then
pub data Performs (su : Setup) (m : MAC) (i : TTI) : Option Sending → MAC → Type 0 where
  -- a HARQ process is identified
  in_process : (fs : ℕ → Feedback) (g : Option UplinkGrant) (c : Option Configured) (k : ℕ) (p : Option Received) (r : Request) (x : Option Sending) (h : HarqProcess) (b : Option Bundle)
      → Routes i m.process fs
      → Delivers su i.time m.configured i.grant g c
      → Identifies su i.time m.bundle g k
      → Notes (heard (m.process k) (fs k)) g p
      → Requests su m.Msg3 i.assembly (noted (heard (m.process k) (fs k)) p) g r
      → CarriesOut su i.time k i.gap (noted (heard (m.process k) (fs k)) p) r x h
      → Bundles su i.time k m.bundle r b
      → Performs su m i x (record { process = put k h (λ j. heard (m.process j) (fs j)); configured = c; bundle = b; Msg3 = m.Msg3 })
  -- none is
  in_no_process : (fs : ℕ → Feedback) (g : Option UplinkGrant) (c : Option Configured)
      → Routes i m.process fs
      → Delivers su i.time m.configured i.grant g c
      → ((k : ℕ) → Identifies su i.time m.bundle g k → ⊥)
      → Performs su m i None (record { process = λ j. heard (m.process j) (fs j); configured = c; bundle = m.bundle; Msg3 = m.Msg3 })
