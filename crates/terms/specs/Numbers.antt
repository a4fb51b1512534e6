-- The number of each answer, and of each kind of cell and of grant; and what an answer is called.
use Rattle.std.specs.Prelude.{ℕ, cond, List, ◌++◌, Some, None, codes, decimal, Option, ◌==◌}
use Rattle.terms.specs.declared.grant.GrantKind.{GrantKind}
use Rattle.terms.specs.declared.grant.GrantKind.TheVariants.{CRnti, TemporaryCRnti, SpsCRnti, SpsRelease, RandomAccessResponse}
use Rattle.terms.specs.declared.setup.CellKind.{CellKind}
use Rattle.terms.specs.declared.setup.CellKind.TheVariants.{Plain, Bundled, Asynchronous}
use Rattle.terms.specs.declared.answer.Outcome.{Outcome}
use Rattle.terms.specs.declared.answer.Outcome.TheVariants.{Idle, EmptyBuffer, NoPacket, Sent, Gap, Acknowledged}
use Rattle.terms.specs.declared.answer.Refusal.{Refusal}
use Rattle.terms.specs.declared.answer.Refusal.TheVariants as refusal

abbrev pub cell_kind_of : ℕ → Option CellKind
cell_kind_of n = cond (n == 0) (Some Plain) (cond (n == 1) (Some Bundled) (cond (n == 2) (Some Asynchronous) None))

-- the number of a kind of grant
abbrev pub grant_kind_number : GrantKind → ℕ
grant_kind_number CRnti = 0
grant_kind_number TemporaryCRnti = 1
grant_kind_number SpsCRnti = 2
grant_kind_number SpsRelease = 3
grant_kind_number RandomAccessResponse = 4

abbrev pub outcome_number : Outcome → ℕ
outcome_number Idle = 0
outcome_number EmptyBuffer = 1
outcome_number NoPacket = 2
outcome_number Sent = 3
outcome_number Gap = 4
outcome_number Acknowledged = 5

abbrev pub refusal_number : Refusal → ℕ
refusal_number refusal.CellKind = 1
refusal_number refusal.Maximum = 2
refusal_number refusal.Interval = 3
refusal_number refusal.Start = 4
refusal_number refusal.PacketMemory = 5
refusal_number refusal.ClockEnded = 6
refusal_number refusal.RadioFull = 7
refusal_number refusal.NoAnswerDue = 8
refusal_number refusal.GrantFields = 9
refusal_number refusal.RepetitionRuns = 10
refusal_number refusal.OffBundle = 11
refusal_number refusal.NewTransmissionMcs = 12
refusal_number refusal.PacketLength = 13
refusal_number refusal.Msg3Held = 14
refusal_number refusal.Msg3Empty = 15
refusal_number refusal.NotHexadecimal = 16
refusal_number refusal.NotFrame = 17
refusal_number refusal.SiteList = 18
refusal_number refusal.GapPattern = 19

-- what an outcome is called
abbrev pub outcome_words : Outcome → List ℕ
outcome_words Idle = codes "idle"
outcome_words EmptyBuffer = codes "empty buffer"
outcome_words NoPacket = codes "no packet"
outcome_words Sent = codes "sent"
outcome_words Gap = codes "gap"
outcome_words Acknowledged = codes "acknowledged"

-- what a refusal is called
abbrev pub refusal_words : Refusal → List ℕ
refusal_words e = codes "refused with " ++ decimal (refusal_number e)
