-- Examples of stays: that what the promise supposes is met.
use Rattle.std.specs.Prelude.{◌≡◌, ℕ, ◌≤◌, Bool, true, false, List, [], ◌∷◌, ◌++◌, replicate, Some, None, Option}
use Rattle.terms.specs.declared.setup.CellKind.{CellKind}
use Rattle.terms.specs.declared.setup.CellKind.TheVariants.{Plain, Asynchronous}
use Rattle.terms.specs.declared.setup.Setup.{Setup}
use Rattle.terms.specs.declared.grant.Grant.{Grant}
use Rattle.terms.specs.declared.process.Feedback.{Feedback}
use Rattle.terms.specs.declared.process.Feedback.TheVariants.{Ack}
use Rattle.terms.specs.Sendings.{Sending}
use Rattle.rules.specs.Worked.{c_rnti, repeated_grant}
use Rattle.runs.specs.Runs.{Call, subframe_call, deposit_call, Past, world_now, Accepted}
use Rattle.runs.specs.Stays.{Stay, sent_below, over_below}
use Rattle.runs.specs.Promise.{stays_of, surroundings_between}

-- three transmissions, no configured grants: kind of cell, first subframe
abbrev pub three_transmissions : CellKind → ℕ → Setup
three_transmissions kind start = record { kind = kind; max_harq_tx = 3; max_harq_msg3_tx = 3; interval = 0; start = start }

-- a subframe call with no gaps, over a radio of this capacity and a source whose packets have this byte throughout
abbrev pub brings : ℕ → ℕ → Option Feedback → Option Grant → Call
brings capacity byte a g = subframe_call (record { answer = a; grant = g; gaps = λ t. false; offers = λ n. Some (replicate n byte); capacity = capacity })

abbrev pub past : Setup → ℕ → ℕ → List Call → Past
past su byte count cs = record { setup = su; memory = replicate 5805 byte; count = count; calls = cs }

-- a packet of two bytes 7 is granted in subframe 0, and nothing more comes in 16 subframes
abbrev pub one_packet : Past
one_packet = past (three_transmissions Plain 0) 0 0 (brings 10 7 None (Some (c_rnti 5)) ∷ replicate 16 (brings 10 7 None None))

-- the same packet, over another packet memory and radio; another packet in process 1, which is acknowledged; and a Msg3 deposit
abbrev pub two_packets : Past
two_packets =
    past (three_transmissions Plain 0) 9 5
    ((brings 1000 7 None (Some (c_rnti 5)) ∷ deposit_call (1 ∷ []) ∷ brings 1000 8 None (Some (c_rnti 9)) ∷ replicate 3 (brings 1000 8 None None))
    ++ (brings 1000 8 (Some Ack) None ∷ replicate 11 (brings 1000 8 None None)))

-- the same packet, acknowledged in subframe 12
abbrev pub acknowledged_packet : Past
acknowledged_packet = past (three_transmissions Plain 0) 0 0 ((brings 10 7 None (Some (c_rnti 5)) ∷ replicate 11 (brings 10 7 None None)) ++ (brings 10 7 (Some Ack) None ∷ replicate 4 (brings 10 7 None None)))

-- a C-RNTI grant with NDI 0
abbrev pub toggled_grant : Grant
toggled_grant = record { kind = 0; ndi = 0; mcs = 5; version = 0; process = 0; repetitions = 1; resource = 7; size = 2 }

-- the same packet, and in subframe 8 a grant for another: the NDI is toggled
abbrev pub replaced_packet : Past
replaced_packet = past (three_transmissions Plain 0) 0 0 ((brings 10 7 None (Some (c_rnti 5)) ∷ replicate 7 (brings 10 7 None None)) ++ (brings 10 8 None (Some toggled_grant) ∷ replicate 8 (brings 10 8 None None)))

-- an asynchronous grant of three repetitions in process 3, from subframe 10 on
abbrev pub repeated_packet : Past
repeated_packet = past (three_transmissions Asynchronous 10) 0 0 (brings 10 7 None (Some repeated_grant) ∷ replicate 5 (brings 10 7 None None))

-- a grant in a Random Access Response
abbrev pub random_access_grant : Grant
random_access_grant = record { kind = 4; ndi = 0; mcs = 5; version = 0; process = 0; repetitions = 1; resource = 7; size = 9 }

-- a Msg3 deposit, and a Random Access Response grant in subframe 0
abbrev pub msg3_packet : Past
msg3_packet = past (three_transmissions Plain 0) 0 0 (deposit_call (1 ∷ 2 ∷ 3 ∷ []) ∷ brings 10 7 None (Some random_access_grant) ∷ replicate 16 (brings 10 7 None None))

-- a stay in short
pub record Outline : Type 0 where
  pub process : ℕ
  pub first : ℕ
  pub from_msg3 : Bool
  pub packet : List ℕ
  -- the subframes of its sendings, the latest first
  pub sent_in : List ℕ
  pub ended : Option ℕ

abbrev pub subframes : List Sending → List ℕ
subframes [] = []
subframes (x ∷ xs) = x.subframe ∷ subframes xs

abbrev pub outlines : List Stay → List Outline
outlines [] = []
outlines (s ∷ ss) =
    record { process = s.beginning.process; first = s.beginning.first; from_msg3 = s.beginning.from_msg3; packet = s.beginning.packet; sent_in = subframes s.sendings; ended = s.ended }
    ∷ outlines ss

-- Stays with several sendings, in a synchronous cell, from Msg3, and in an asynchronous cell; and one that another replaced.
pub record SentOften : Type 0 where
  pub accepted : Accepted one_packet.setup
  pub synchronous : outlines (stays_of one_packet) ≡ record { process = 0; first = 0; from_msg3 = false; packet = 7 ∷ 7 ∷ []; sent_in = 16 ∷ 8 ∷ 0 ∷ []; ended = Some 16 } ∷ []
  pub from_msg3 : outlines (stays_of msg3_packet) ≡ record { process = 0; first = 0; from_msg3 = true; packet = 1 ∷ 2 ∷ 3 ∷ []; sent_in = 16 ∷ 8 ∷ 0 ∷ []; ended = Some 16 } ∷ []
  pub replaced :
      outlines (stays_of replaced_packet)
      ≡ record { process = 0; first = 8; from_msg3 = false; packet = 8 ∷ 8 ∷ []; sent_in = 16 ∷ 8 ∷ []; ended = None }
      ∷ record { process = 0; first = 0; from_msg3 = false; packet = 7 ∷ 7 ∷ []; sent_in = 0 ∷ []; ended = Some 8 }
      ∷ []
  pub asynchronous_accepted : Accepted repeated_packet.setup
  pub asynchronous : outlines (stays_of repeated_packet) ≡ record { process = 3; first = 10; from_msg3 = false; packet = 7 ∷ 7 ∷ []; sent_in = 12 ∷ 11 ∷ 10 ∷ []; ended = None } ∷ []

-- Two runs have a stay in process 0 that began alike in subframe 0, and met the same below subframe t, which both clocks have passed.
pub record MetAlike (p p' : Past) (t : ℕ) (s s' : Stay) : Type 0 where
  pub accepted : Accepted p.setup
  pub setup : p'.setup ≡ p.setup
  pub passed : (t ≤ (world_now p).state.clock) × (t ≤ (world_now p').state.clock)
  pub began : s.beginning ≡ s'.beginning
  pub gap : s.gap ≡ s'.gap
  pub met : surroundings_between p 0 0 t ≡ surroundings_between p' 0 0 t

-- Runs that differ elsewhere: the stay is sent three times and over in both.
pub record AlikeThroughout : Type 0 where
  pub stay : Stay
  pub stay' : Stay
  pub other : Stay
  pub of_first : stays_of one_packet ≡ stay ∷ []
  pub of_second : stays_of two_packets ≡ other ∷ stay' ∷ []
  pub elsewhere : other.beginning.process ≡ 1
  pub met_alike : MetAlike one_packet two_packets 17 stay stay'
  pub sent_in : subframes (sent_below 17 stay.sendings) ≡ 16 ∷ 8 ∷ 0 ∷ []
  pub over : over_below 17 stay.ended ≡ true

-- Runs whose surroundings differ from subframe 12 on: the stay is sent twice before that in both, and once more in the first alone.
pub record AlikeUntil12 : Type 0 where
  pub stay : Stay
  pub stay' : Stay
  pub of_first : stays_of one_packet ≡ stay ∷ []
  pub of_second : stays_of acknowledged_packet ≡ stay' ∷ []
  pub met_alike : MetAlike one_packet acknowledged_packet 12 stay stay'
  pub sent_in : subframes (sent_below 12 stay.sendings) ≡ 8 ∷ 0 ∷ []
  pub going_on : over_below 12 stay.ended ≡ false
  pub then_first : subframes stay.sendings ≡ 16 ∷ 8 ∷ 0 ∷ []
  pub then_second : subframes stay'.sendings ≡ 8 ∷ 0 ∷ []

abbrev pub Examples : Type 0
Examples = SentOften × AlikeThroughout × AlikeUntil12
