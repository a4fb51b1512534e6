-- Worked runs: what comes to a cell from set-up on, and what must follow.
use Rattle.std.specs.Prelude.{◌≡◌, ℕ, ◌+◌, ◌-◌, ◌%◌, Bool, true, false, List, [], ◌∷◌, ◌++◌, replicate, Some, None, Ok, Err, Option, Result, nat_lt, slice_index}
use Rattle.terms.specs.declared.answer.Refusal.{Refusal}
use Rattle.terms.specs.declared.setup.Setup.{Setup}
use Rattle.terms.specs.declared.grant.Grant.{Grant}
use Rattle.terms.specs.declared.process.Feedback.{Feedback}
use Rattle.terms.specs.declared.process.Feedback.TheVariants.{Ack}
use Rattle.terms.specs.declared.state.State.{State}
use Rattle.terms.specs.Numbers.{outcome_number, refusal_number}
use Rattle.terms.specs.Sendings.{Sending}
use Rattle.rules.specs.Setup.{set_up, fresh_state}
use Rattle.rules.specs.Subframe.{Done, one_if, subframe}
use Rattle.rules.specs.Msg3.{Left, deposit, withdrawal}

-- what a subframe call brings
pub record Coming : Type 0 where
  pub answer : Option Feedback
  pub grant : Option Grant

-- what was sent: version, MCS, and the subframe in which its packet was filled in
pub record Aired : Type 0 where
  pub version : ℕ
  pub mcs : ℕ
  pub filled : ℕ

-- what followed, in a subframe
pub data Row : Type 0 where
  -- subframe, outcome, version, given up, what was sent
  replied : ℕ → ℕ → ℕ → ℕ → Option Aired → Row
  -- subframe, number of the refusal
  refused : ℕ → ℕ → Row
  -- a deposit or a withdrawal was accepted: subframe
  filed : ℕ → Row

abbrev pub aired : Option Sending → Option Aired
aired None = None
aired (Some x) = Some (record { version = x.version.0; mcs = x.mcs; filled = slice_index x.packet 0 })

abbrev pub row : ℕ → Result Done Refusal → Row
row t (Ok d) = replied t (outcome_number d.reply.outcome) d.reply.version.0 (one_if d.reply.given_up) (aired d.sending)
row t (Err e) = refused t (refusal_number e)

abbrev pub state_after : State → Result Done Refusal → State
state_after st (Ok d) = d.state
state_after st (Err e) = st

abbrev pub memory_left : List ℕ → Result Done Refusal → List ℕ
memory_left m (Ok d) = d.memory
memory_left m (Err e) = m

-- a call: a subframe, with whether the radio can take one more, a Msg3 deposit or a withdrawal
pub data Move : Type 0 where
  comes : Bool → Coming → Move
  deposits : List ℕ → Move
  withdraws : Move

abbrev pub msg3_row : ℕ → Result Left Refusal → Row
msg3_row t (Ok l) = filed t
msg3_row t (Err e) = refused t (refusal_number e)

abbrev pub msg3_state : State → Result Left Refusal → State
msg3_state st (Ok l) = l.state
msg3_state st (Err e) = st

abbrev pub msg3_memory : List ℕ → Result Left Refusal → List ℕ
msg3_memory m (Ok l) = l.memory
msg3_memory m (Err e) = m

-- what follows from some calls; packets wait for every size, and each byte of one that is filled in at t is t
abbrev pub moved : Setup → (ℕ → Bool) → State → List ℕ → List Move → List Row
moved su gaps st m [] = []
moved su gaps st m (comes ready c ∷ cs) =
    let d = subframe su st m (record { ready = ready; gap = gaps st.clock; answer = c.answer; grant = c.grant; offers = λ n. Some (replicate n st.clock) }) in
    row st.clock d ∷ moved su gaps (state_after st d) (memory_left m d) cs
moved su gaps st m (deposits b ∷ cs) =
    let l = deposit st m b in
    msg3_row st.clock l ∷ moved su gaps (msg3_state st l) (msg3_memory m l) cs
moved su gaps st m (withdraws ∷ cs) =
    let l = withdrawal st m in
    msg3_row st.clock l ∷ moved su gaps (msg3_state st l) (msg3_memory m l) cs

abbrev pub moves : Result Setup Refusal → (ℕ → Bool) → List Move → List Row
moves (Ok su) gaps cs = moved su gaps (fresh_state su.start) (replicate 5805 0) cs
moves (Err e) gaps cs = refused 0 (refusal_number e) ∷ []

abbrev pub nothing : Coming
nothing = record { answer = None; grant = None }

abbrev pub quiet : ℕ → List Coming
quiet n = replicate n nothing

abbrev pub granted : Grant → Coming
granted g = record { answer = None; grant = Some g }

abbrev pub acknowledged : Coming
acknowledged = record { answer = Some Ack; grant = None }

-- subframes over a radio that can take one more
abbrev pub come : List Coming → List Move
come [] = []
come (c ∷ cs) = comes true c ∷ come cs

abbrev pub played : Result Setup Refusal → (ℕ → Bool) → List Coming → List Row
played su gaps cs = moves su gaps (come cs)

abbrev pub no_gaps : ℕ → Bool
no_gaps t = false

-- period 40, offset 4
abbrev pub gaps_at_4 : ℕ → Bool
gaps_at_4 t = nat_lt ((t + 40 - 4) % 40) 6

abbrev pub plain : ℕ → Result Setup Refusal
plain interval = set_up 0 3 3 interval 0

-- a C-RNTI grant with NDI 1: MCS
abbrev pub c_rnti : ℕ → Grant
c_rnti mcs = record { kind = 0; ndi = 1; mcs = mcs; version = 0; process = 0; repetitions = 1; resource = 7; size = 2 }

abbrev pub activation : Grant
activation = record { kind = 2; ndi = 0; mcs = 5; version = 0; process = 0; repetitions = 1; resource = 7; size = 2 }

-- process 3, version 2, 3 repetitions
abbrev pub repeated_grant : Grant
repeated_grant = record { kind = 0; ndi = 1; mcs = 5; version = 2; process = 3; repetitions = 3; resource = 7; size = 2 }

-- what follows: subframe, version, subframe in which the packet was filled in; always with MCS 5
abbrev pub sent : ℕ → ℕ → ℕ → Row
sent t v f = replied t 3 v 0 (Some (record { version = v; mcs = 5; filled = f }))

-- the same, and the packet is given up
abbrev pub sent_last : ℕ → ℕ → ℕ → Row
sent_last t v f = replied t 3 v 1 (Some (record { version = v; mcs = 5; filled = f }))

-- nothing is sent: subframe, outcome
abbrev pub unsent : ℕ → ℕ → Row
unsent t o = replied t o 0 0 None

abbrev pub unsent_last : ℕ → ℕ → Row
unsent_last t o = replied t o 0 1 None

-- seven idle subframes from t on
abbrev pub idle_7 : ℕ → List Row
idle_7 t = unsent t 0 ∷ unsent (t + 1) 0 ∷ unsent (t + 2) 0 ∷ unsent (t + 3) 0 ∷ unsent (t + 4) 0 ∷ unsent (t + 5) 0 ∷ unsent (t + 6) 0 ∷ []

abbrev pub idle_12 : ℕ → List Row
idle_12 t = idle_7 t ++ (unsent (t + 7) 0 ∷ unsent (t + 8) 0 ∷ unsent (t + 9) 0 ∷ unsent (t + 10) 0 ∷ unsent (t + 11) 0 ∷ [])

-- a new packet is sent three times and given up
abbrev pub SentThreeTimes : Type 0
SentThreeTimes =
    played (plain 0) no_gaps (granted (c_rnti 5) ∷ quiet 24)
    ≡ (sent 0 0 0 ∷ idle_7 1) ++ ((sent 8 2 0 ∷ idle_7 9) ++ ((sent_last 16 3 0 ∷ idle_7 17) ++ (unsent 24 0 ∷ [])))

-- an ACK keeps it off the air, and it is given up all the same
abbrev pub AcknowledgedAt4 : Type 0
AcknowledgedAt4 =
    played (plain 0) no_gaps ((granted (c_rnti 5) ∷ quiet 3) ++ (acknowledged ∷ quiet 12))
    ≡ (sent 0 0 0 ∷ idle_7 1) ++ ((unsent 8 5 ∷ idle_7 9) ++ (unsent_last 16 5 ∷ []))

-- a retransmission asked for after the ACK, in version 2, with the stored MCS
abbrev pub AdaptedAfterAck : Type 0
AdaptedAfterAck =
    played (plain 0) no_gaps ((granted (c_rnti 5) ∷ quiet 3) ++ ((acknowledged ∷ quiet 3) ++ (granted (c_rnti 30) ∷ quiet 8)))
    ≡ (sent 0 0 0 ∷ idle_7 1) ++ ((sent 8 2 0 ∷ idle_7 9) ++ (sent_last 16 3 0 ∷ []))

-- a gap in the subframe of the answer counts as an ACK
abbrev pub GapCountsAsAck : Type 0
GapCountsAsAck =
    played (plain 0) gaps_at_4 (granted (c_rnti 5) ∷ quiet 16)
    ≡ (sent 0 0 0 ∷ idle_7 1) ++ ((unsent 8 5 ∷ idle_7 9) ++ (unsent_last 16 5 ∷ []))

-- a retransmission in a gap is not sent, and keeps its version
abbrev pub GapKeepsVersion : Type 0
GapKeepsVersion =
    played (plain 0) gaps_at_4 ((granted (c_rnti 5) ∷ quiet 7) ++ (granted (c_rnti 5) ∷ quiet 8))
    ≡ (sent 0 0 0 ∷ idle_7 1) ++ ((unsent 8 4 ∷ idle_7 9) ++ (sent_last 16 0 0 ∷ []))

-- bundles of four, six transmissions in all
abbrev pub InBundles : Type 0
InBundles =
    played (set_up 1 6 3 0 0) no_gaps (granted (c_rnti 5) ∷ quiet 18)
    ≡ (sent 0 0 0 ∷ sent 1 2 0 ∷ sent 2 3 0 ∷ sent 3 1 0 ∷ idle_12 4) ++ (sent 16 0 0 ∷ sent_last 17 2 0 ∷ unsent 18 0 ∷ [])

-- three repetitions of an asynchronous grant, which no other grant interrupts
abbrev pub RepetitionsRun : Type 0
RepetitionsRun =
    played (set_up 2 3 3 0 10) no_gaps (granted repeated_grant ∷ nothing ∷ granted repeated_grant ∷ nothing ∷ granted repeated_grant ∷ [])
    ≡ sent 10 2 10 ∷ sent 11 3 10 ∷ refused 12 10 ∷ sent 12 1 10 ∷ sent 13 2 10 ∷ []

-- a configured grant of interval 8 sends the same packet again, and a new one after an ACK
abbrev pub ConfiguredGrantRecurs : Type 0
ConfiguredGrantRecurs =
    (played (plain 8) no_gaps (granted activation ∷ quiet 8) ≡ (sent 0 0 0 ∷ idle_7 1) ++ (sent 8 2 0 ∷ []))
    × (played (plain 8) no_gaps ((granted activation ∷ quiet 3) ++ (acknowledged ∷ quiet 4)) ≡ (sent 0 0 0 ∷ idle_7 1) ++ (sent 8 0 8 ∷ []))

-- a grant of another kind
abbrev pub of_kind : ℕ → Grant
of_kind kind = record { kind = kind; ndi = 0; mcs = 5; version = 0; process = 0; repetitions = 1; resource = 7; size = 2 }

-- a configured grant of interval 10 displaces a packet that is not acknowledged.
abbrev pub DisplacedAt10 : Type 0
DisplacedAt10 =
    played (plain 10) no_gaps (granted activation ∷ nothing ∷ granted (c_rnti 5) ∷ quiet 8)
    ≡ sent 0 0 0 ∷ unsent 1 0 ∷ sent 2 0 2 ∷ unsent 3 0 ∷ unsent 4 0 ∷ unsent 5 0 ∷ unsent 6 0 ∷ unsent 7 0 ∷ sent 8 2 0 ∷ unsent 9 0 ∷ sent 10 0 10 ∷ []

-- a release: the grant does not recur
abbrev pub Released : Type 0
Released =
    played (plain 8) no_gaps ((granted activation ∷ quiet 3) ++ (acknowledged ∷ nothing ∷ nothing ∷ granted (of_kind 3) ∷ nothing ∷ []))
    ≡ (sent 0 0 0 ∷ idle_7 1) ++ (unsent 8 5 ∷ [])

-- the answer to a bundle falls in the last subframe of the next one, and in no other
abbrev pub BundleAnswered : Type 0
BundleAnswered =
    played (set_up 1 6 3 0 0) no_gaps ((granted (c_rnti 5) ∷ quiet 5) ++ (acknowledged ∷ nothing ∷ acknowledged ∷ quiet 8) ++ (nothing ∷ []))
    ≡ (sent 0 0 0 ∷ sent 1 2 0 ∷ sent 2 3 0 ∷ sent 3 1 0 ∷ unsent 4 0 ∷ unsent 5 0 ∷ refused 6 8 ∷ unsent 6 0 ∷ unsent 7 0 ∷ unsent 8 0 ∷ unsent 9 0 ∷ [])
    ++ (unsent 10 0 ∷ unsent 11 0 ∷ unsent 12 0 ∷ unsent 13 0 ∷ unsent 14 0 ∷ unsent 15 0 ∷ unsent 16 5 ∷ [])

-- a Temporary C-RNTI grant: nothing is held, and then a retransmission in version 0
abbrev pub Temporary : Type 0
Temporary =
    played (plain 0) no_gaps (granted (of_kind 1) ∷ granted (c_rnti 5) ∷ quiet 7 ++ (granted (of_kind 1) ∷ []))
    ≡ unsent 0 1 ∷ sent 1 0 1 ∷ unsent 2 0 ∷ unsent 3 0 ∷ unsent 4 0 ∷ unsent 5 0 ∷ unsent 6 0 ∷ unsent 7 0 ∷ unsent 8 0 ∷ sent 9 0 1 ∷ []

-- the Msg3 buffer: one packet at a time, sent twice by its own maximum, in a gap too, and as often as it is asked for
abbrev pub FromMsg3 : Type 0
FromMsg3 =
    moves (set_up 0 3 2 0 0) gaps_at_4
    (withdraws ∷ deposits (9 ∷ []) ∷ deposits (8 ∷ []) ∷ comes true (granted (of_kind 4)) ∷ replicate 4 (comes true nothing)
    ++ (comes true (granted (of_kind 4)) ∷ replicate 7 (comes true nothing) ++ (withdraws ∷ comes true (granted (of_kind 4)) ∷ [])))
    ≡ refused 0 15 ∷ filed 0 ∷ refused 0 14 ∷ sent 0 0 9 ∷ unsent 1 0 ∷ unsent 2 0 ∷ unsent 3 0 ∷ unsent 4 0 ∷ sent 5 0 9 ∷ unsent 6 0 ∷ unsent 7 0 ∷ sent_last 8 2 9 ∷ unsent 9 0
    ∷ unsent 10 0 ∷ unsent 11 0 ∷ unsent 12 0 ∷ filed 13 ∷ sent 13 0 13 ∷ []

-- the first no is told: the radio is full, an answer is not due, the grant is wrong; and the clock has ended, before the radio is full
abbrev pub FirstNoTold : Type 0
FirstNoTold =
    (moves (plain 0) no_gaps
    (comes false (record { answer = Some Ack; grant = Some (c_rnti 32) }) ∷ comes true (record { answer = Some Ack; grant = Some (c_rnti 32) }) ∷ comes true (granted (c_rnti 32))
    ∷ comes true (granted (c_rnti 29)) ∷ comes true nothing ∷ [])
    ≡ refused 0 7 ∷ refused 0 8 ∷ refused 0 9 ∷ refused 0 12 ∷ unsent 0 0 ∷ [])
    × (moves (set_up 0 3 3 0 281474976710655) no_gaps (comes true nothing ∷ comes false nothing ∷ []) ≡ unsent 281474976710655 0 ∷ refused 281474976710656 6 ∷ [])

-- the table of worked runs
abbrev pub WorkedRuns : Type 0
WorkedRuns = SentThreeTimes × AcknowledgedAt4 × AdaptedAfterAck × GapCountsAsAck × GapKeepsVersion × InBundles × RepetitionsRun × ConfiguredGrantRecurs × DisplacedAt10 × Released × BundleAnswered × Temporary × FromMsg3 × FirstNoTold
