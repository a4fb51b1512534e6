-- The promise: what holds of every past of a cell whose set-up was accepted.
use Rattle.std.specs.Prelude.{◌≡◌, ℕ, ◌+◌, ◌≤◌, Bool, true, false, cond, List, length, Some}
use Rattle.std.specs.List.{AllByRecursion}
use Rattle.terms.specs.declared.setup.Setup.{Setup}
use Rattle.terms.specs.Sendings.{Sending}
use Rattle.rules.specs.Process.{synchronous}
use Rattle.rules.specs.Subframe.{Beginning}
use Rattle.runs.specs.Runs.{World, Call, Past, world_now, happened, Accepted, past_with}
use Rattle.runs.specs.Stays.{Met, Stay, stays, surroundings, met_between, sent_below, over_below, repetitions, passing_of_run, passing_of_stays, sendings_of_stays, sendings_of_run, starts_of_run}

abbrev pub stays_of : Past → List Stay
stays_of p = stays (happened p)

-- The radio took what the rules sent, and nothing else, and the tally tells the same. What happened is, by definition, what the rules make of the calls.
pub record Exact (p : Past) : Type 0 where
  pub taken : (world_now p).count ≡ p.count + sendings_of_run (happened p)
  pub sendings : (world_now p).state.tally.sendings ≡ sendings_of_run (happened p)
  pub packets : (world_now p).state.tally.packets ≡ starts_of_run (happened p)

-- Nothing is sent beside the stays, nothing twice, and nothing is left out of the figures.
pub record Counted (p : Past) : Type 0 where
  -- the radio's count grew by the sendings of all stays
  pub count : (world_now p).count ≡ p.count + sendings_of_stays (stays_of p)
  -- each sending of the run belongs to exactly one stay: whatever is asked of sendings, as many of the run have it as of the stays
  pub once : (f : Sending → Bool) → passing_of_stays f (stays_of p) ≡ passing_of_run f (happened p)
  -- the tally has the number of sendings and of stays
  pub tally_sendings : (world_now p).state.tally.sendings ≡ sendings_of_stays (stays_of p)
  pub tally_packets : (world_now p).state.tally.packets ≡ length (stays_of p)

-- a sending of a stay's packet in its process
abbrev pub Carries : Beginning → Sending → Type 0
Carries b x = (x.packet ≡ b.packet) × (x.process ≡ b.process)

-- A stay keeps its packet, and is not sent too often.
pub record Kept (su : Setup) (s : Stay) : Type 0 where
  pub packet_length : (1 ≤ length s.beginning.packet) × (length s.beginning.packet ≤ 645)
  -- every sending carries the packet as it was at the beginning
  pub carried : AllByRecursion (Carries s.beginning) s.sendings
  -- a packet from Msg3 has the bytes of the last deposit
  pub from_deposit : s.beginning.from_msg3 ≡ true → s.deposited ≡ Some s.beginning.packet
  -- in a synchronous cell at most maxHARQ-Tx sendings, or maxHARQ-Msg3Tx of a packet from Msg3
  pub synchronous_limit : synchronous su.kind ≡ true → length s.sendings ≤ cond s.beginning.from_msg3 su.max_harq_msg3_tx su.max_harq_tx
  -- in an asynchronous cell at most as many as its grants had repetitions
  pub asynchronous_limit : synchronous su.kind ≡ false → length s.sendings ≤ repetitions s

-- the surroundings of process k strictly between two subframes of a run: process, subframe, subframe
abbrev pub surroundings_between : Past → ℕ → ℕ → ℕ → List Met
surroundings_between p k first t = met_between first t (surroundings k (happened p))

-- Two stays go on alike below subframe t.
pub record Alike (s s' : Stay) (t : ℕ) : Type 0 where
  pub sent : sent_below t s.sendings ≡ sent_below t s'.sendings
  -- both are over, or neither
  pub over : over_below t s.ended ≡ over_below t s'.ended

-- A stay depends on nothing but its beginning and the surroundings of its process. Two stays of two runs began alike: in the same process and subframe,
-- by the same grant, with the same packet, both from Msg3 or neither, both in a gap or neither. If their process then met the same below subframe t,
-- they went on alike below t, whatever else differed between the runs. That they end alike is concluded: the surroundings are those of the process,
-- whatever it held. What comes from t on need not agree, and t may be any subframe.
abbrev pub Independent : Past → Past → Stay → Stay → Type 0
Independent p p' s s' =
    s.beginning ≡ s'.beginning
    → s.gap ≡ s'.gap
    → (t : ℕ)
    → surroundings_between p s.beginning.process s.beginning.first t ≡ surroundings_between p' s.beginning.process s.beginning.first t
    → Alike s s' t

abbrev pub AllKept : Past → Type 0
AllKept p = AllByRecursion (Kept p.setup) (stays_of p)

-- with the stays of every other past of the same set-up
abbrev pub AllAlike : Past → Type 0
AllAlike p = (p' : Past) → p'.setup ≡ p.setup → AllByRecursion (λ (s : Stay). AllByRecursion (Independent p p' s) (stays_of p')) (stays_of p)

-- The promise of a past.
pub record Promise (p : Past) : Type 0 where
  pub exact : Exact p
  pub counted : Counted p
  pub kept : AllKept p
  pub alike : AllAlike p

-- the laws one by one
abbrev pub RunsExact : Type 0
RunsExact = (p : Past) → Accepted p.setup → Exact p

abbrev pub StaysCounted : Type 0
StaysCounted = (p : Past) → Accepted p.setup → Counted p

abbrev pub StaysKept : Type 0
StaysKept = (p : Past) → Accepted p.setup → AllKept p

abbrev pub StaysAlike : Type 0
StaysAlike = (p : Past) → Accepted p.setup → AllAlike p

-- all of them
abbrev pub PromiseHolds : Type 0
PromiseHolds = (p : Past) → Accepted p.setup → Promise p

-- A call that finds one world and leaves another keeps the promise: each past that leads to the world found leads, with the call added, to the world left,
-- and the promise holds of it.
abbrev pub KeepsPromise : Setup → World → Call → World → Type 0
KeepsPromise su w c w' = (p : Past) → p.setup ≡ su → world_now p ≡ w → (world_now (past_with p c) ≡ w') × Promise (past_with p c)
