-- The questions of a subframe call.
use Rattle.std.specs.Prelude.{ℕ, ◌%◌, ◌^◌, Bool, true, false, not, ◌&&◌, ◌||◌, List, [], ◌∷◌, is_some, Some, None, Option, Result, ◌==◌, nat_le, nat_lt}
use Rattle.terms.specs.declared.answer.Refusal.{Refusal}
use Rattle.terms.specs.declared.answer.Refusal.TheVariants as refusal
use Rattle.terms.specs.declared.setup.CellKind.{CellKind}
use Rattle.terms.specs.declared.setup.CellKind.TheVariants.{Plain, Bundled, Asynchronous}
use Rattle.terms.specs.declared.setup.Setup.{Setup}
use Rattle.terms.specs.declared.grant.Grant.{Grant}
use Rattle.terms.specs.declared.grant.GrantInForce.{GrantInForce}
use Rattle.terms.specs.declared.process.Feedback.{Feedback}
use Rattle.terms.specs.declared.process.Process.{Process}
use Rattle.terms.specs.declared.state.State.{State}
use Rattle.rules.specs.Setup.{first_no, within}
use Rattle.rules.specs.Process.{synchronous}
use Rattle.rules.specs.Reception.{over_the_air, referred}
use Rattle.rules.specs.Entity.{process_at, repeating, process_of, answering, wants_new}

abbrev pub awaits : List Process → Option ℕ → Bool
awaits ps None = false
awaits ps (Some k) = (process_at ps k).awaits_answer

-- an answer is due: in a synchronous cell, in no gap, to a process that awaits one
abbrev pub answer_due : Setup → State → Bool → Option Feedback → Bool
answer_due su st gap None = true
answer_due su st gap (Some f) = synchronous su.kind && (not gap && awaits st.processes (answering su.kind st.clock))

abbrev pub is_bundled : CellKind → Bool
is_bundled Plain = false
is_bundled Bundled = true
is_bundled Asynchronous = false

-- kinds 2 and 3 go with an interval, kinds 1 and 4 with a cell that is not bundled
abbrev pub kind_allowed : Setup → Grant → Bool
kind_allowed su g =
    (g.kind == 0)
    || (((g.kind == 2 || g.kind == 3) && nat_lt 0 su.interval)
    || ((g.kind == 1 || g.kind == 4) && not (is_bundled su.kind)))

abbrev pub fields_by_kind : CellKind → Grant → Bool
fields_by_kind Plain g = nat_le g.mcs 31 && (g.version == 0 && (g.process == 0 && g.repetitions == 1))
fields_by_kind Bundled g = nat_le g.mcs 31 && (g.version == 0 && (g.process == 0 && g.repetitions == 1))
fields_by_kind Asynchronous g =
    nat_le g.mcs 28
    && (nat_le g.version 3
    && (nat_le g.process 7
    && ((g.process == 0 || not (g.kind == 1 || g.kind == 4)) && within 1 32 g.repetitions)))

abbrev pub fields_hold : Setup → Grant → Bool
fields_hold su g = kind_allowed su g && (nat_le g.ndi 1 && (within 1 645 g.size && fields_by_kind su.kind g))

-- a new transmission is wanted of a process by a grant in force
abbrev pub new_wanted : List Process → Option GrantInForce → Option ℕ → Bool
new_wanted ps None k = false
new_wanted ps (Some g) None = false
new_wanted ps (Some g) (Some k) = wants_new g.reception (referred (Some g) (process_at ps k))

-- a grant over the air wants a new transmission
abbrev pub grant_wants_new : Setup → State → Grant → Bool
grant_wants_new su st g = new_wanted st.processes (over_the_air g) (process_of su.kind st.clock (over_the_air g) st.repetition)

abbrev pub grant_questions : Setup → State → Option Grant → List (Bool × Refusal)
grant_questions su st None = []
grant_questions su st (Some g) =
    (fields_hold su g, refusal.GrantFields)
    ∷ (not (is_some (repeating st.clock st.repetition)), refusal.RepetitionRuns)
    ∷ (not (is_bundled su.kind) || (st.clock % 4 == 0), refusal.OffBundle)
    ∷ (not (grant_wants_new su st g) || nat_le g.mcs 28, refusal.NewTransmissionMcs)
    ∷ []

abbrev pub asked_of_grant : Setup → State → Option Grant → Result (Unit {0}) Refusal
asked_of_grant su st g = first_no (grant_questions su st g)

-- length of packet memory, can the radio take one more, is the subframe a gap, answer, grant
abbrev pub subframe_questions : Setup → State → ℕ → Bool → Bool → Option Feedback → Option Grant → List (Bool × Refusal)
subframe_questions su st n ready gap a g =
    ((n == 5805), refusal.PacketMemory)
    ∷ (nat_lt st.clock (2 ^ 48), refusal.ClockEnded)
    ∷ (ready, refusal.RadioFull)
    ∷ (answer_due su st gap a, refusal.NoAnswerDue)
    ∷ grant_questions su st g

abbrev pub questioned : Setup → State → ℕ → Bool → Bool → Option Feedback → Option Grant → Result (Unit {0}) Refusal
questioned su st n ready gap a g = first_no (subframe_questions su st n ready gap a g)
