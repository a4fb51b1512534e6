-- A cell sends what TS 36.321 has the MAC entity transmit: in every run, in every subframe, and nothing else.
use Rattle.std.specs.Prelude.{◌≡◌, ℕ, List, [], ◌∷◌, ◌++◌, Some, None, Ok, Err, Option, Result}
use Rattle.terms.specs.declared.answer.Refusal.{Refusal}
use Rattle.terms.specs.declared.setup.Setup.{Setup}
use Rattle.terms.specs.Sendings.{Sending}
use Rattle.rules.specs.Subframe.{Done, subframe}
use Rattle.runs.specs.Runs.{World, Brought, Call, subframe_call, deposit_call, withdrawal_call, fitting, given, Step, called, step, Past, set_up_world, world_now, Accepted}
use Rattle.standard.specs.Ts36321.{MAC, TTI, established, Performs}

-- what comes to a MAC entity
pub data Happening : Type 0 where
  a_tti : TTI → Happening
  -- the random access procedure puts a MAC PDU into the Msg3 buffer, or takes it out
  Msg3Filled : List ℕ → Happening
  Msg3Emptied : Happening

-- the TTI of a subframe call
abbrev pub TtiOf : World → Brought → TTI
TtiOf w b = record { time = w.state.clock; gap = b.gaps w.state.clock; feedback = b.answer; grant = b.grant; assembly = fitting b.offers }

abbrev pub happening : World → Call → Happening
happening w (subframe_call b) = a_tti (TtiOf w b)
happening w (deposit_call b) = Msg3Filled b
happening w withdrawal_call = Msg3Emptied

-- a refused call is no TTI, and brings nothing
abbrev pub if_accepted : Result Step Refusal → Happening → List Happening
if_accepted (Ok s) h = h ∷ []
if_accepted (Err e) h = []

-- what the calls of a run bring, the earliest first
abbrev pub happenings : Setup → World → List Call → List Happening
happenings su w [] = []
happenings su w (c ∷ cs) = if_accepted (called su w c) (happening w c) ++ happenings su (step su w c).world cs

-- what the radio was told in the TTI of an accepted subframe call, if anything
abbrev pub told_in : Result Done Refusal → List (Option Sending)
told_in (Ok d) = d.sending ∷ []
told_in (Err e) = []

abbrev pub sent_by : Setup → World → Call → List (Option Sending)
sent_by su w (subframe_call b) = told_in (subframe su w.state w.memory (given w b))
sent_by su w (deposit_call b) = []
sent_by su w withdrawal_call = []

-- what the cell sent in each TTI of a run, the earliest first
abbrev pub sent : Setup → World → List Call → List (Option Sending)
sent su w [] = []
sent su w (c ∷ cs) = sent_by su w c ++ sent su (step su w c).world cs

abbrev pub mac_with_msg3 : MAC → Option (List ℕ) → MAC
mac_with_msg3 m pdu = record { process = m.process; configured = m.configured; bundle = m.bundle; Msg3 = pdu }

-- what the MAC entity has the physical layer transmit in each TTI of what happens, and the MAC entity then
pub data Goes (su : Setup) : MAC → List Happening → List (Option Sending) → MAC → Type 0 where
  at_rest : (m : MAC) → Goes su m [] [] m
  through_tti : (m m₁ m₂ : MAC) (i : TTI) (x : Option Sending) (hs : List Happening) (xs : List (Option Sending)) → Performs su m i x m₁ → Goes su m₁ hs xs m₂ → Goes su m (a_tti i ∷ hs) (x ∷ xs) m₂
  with_msg3_filled : (m m₂ : MAC) (pdu : List ℕ) (hs : List Happening) (xs : List (Option Sending)) → Goes su (mac_with_msg3 m (Some pdu)) hs xs m₂ → Goes su m (Msg3Filled pdu ∷ hs) xs m₂
  with_msg3_emptied : (m m₂ : MAC) (hs : List Happening) (xs : List (Option Sending)) → Goes su (mac_with_msg3 m None) hs xs m₂ → Goes su m (Msg3Emptied ∷ hs) xs m₂

-- what the past of a cell brought, and what the cell sent in it
abbrev pub brought_by : Past → List Happening
brought_by p = happenings p.setup (set_up_world p) p.calls

abbrev pub sent_in : Past → List (Option Sending)
sent_in p = sent p.setup (set_up_world p) p.calls

-- the relations let the run go as it went, and in no other way
pub record ByTheStandard (p : Past) : Type 0 where
  pub possible : (m : MAC) × Goes p.setup established (brought_by p) (sent_in p) m
  pub only : (xs : List (Option Sending)) (m : MAC) → Goes p.setup established (brought_by p) xs m → xs ≡ sent_in p

-- every past of a cell whose set-up was accepted
abbrev pub MeetsTheStandard : Type 0
MeetsTheStandard = (p : Past) → Accepted p.setup → ByTheStandard p

-- a MAC entity that what happened in a past leads to
abbrev pub Reaches : Past → MAC → Type 0
Reaches p m = (xs : List (Option Sending)) × Goes p.setup established (brought_by p) xs m

-- the relations have the MAC entity transmit this in a TTI; None: nothing
abbrev pub HasItSend : Setup → MAC → TTI → Option Sending → Type 0
HasItSend su m i x = (m' : MAC) × Performs su m i x m'

-- An accepted subframe call, where `Told x` says that the radio was told x. Whatever past leads to the world that the call finds, a MAC entity comes to be by
-- the relations, and each such MAC entity is to transmit exactly what the radio was told.
abbrev pub SendsByTheStandard : Setup → World → Brought → (Option Sending → Type 0) → Type 0
SendsByTheStandard su w b Told =
    (p : Past) → p.setup ≡ su → world_now p ≡ w
    → ((m : MAC) × Reaches p m) × ((m : MAC) → Reaches p m → (x : Option Sending) → (HasItSend su m (TtiOf w b) x → Told x) × (Told x → HasItSend su m (TtiOf w b) x))
