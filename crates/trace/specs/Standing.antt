-- Where a trace stands, and what a line does there.
use Rattle.std.specs.Prelude.{ℕ, ◌^◌, List, replicate, None, Ok, Err, Option, Result}
use Rattle.terms.specs.declared.answer.Refusal.{Refusal}
use Rattle.terms.specs.declared.answer.Refusal.TheVariants.{NotFrame}
use Rattle.terms.specs.declared.answer.Reply.{Reply}
use Rattle.terms.specs.declared.setup.Setup.{Setup}
use Rattle.terms.specs.declared.state.State.{State}
use Rattle.terms.specs.declared.grant.Grant.{Grant}
use Rattle.terms.specs.declared.process.Feedback.{Feedback}
use Rattle.ports.specs.Radio.{Radioed}
use Rattle.rules.specs.Setup.{set_up, fresh_state}
use Rattle.below.specs.Book.{left_offers, left_used}
use Rattle.below.specs.Pattern.{gaps_of, pattern_set_up}
use Rattle.cell.specs.Calls.{After, after_subframe, Filed, after_deposit, after_withdrawal}
use Rattle.hexadecimal.specs.Hex.{decoded}
use Rattle.frames.specs.declared.frame.SetupFrame.{SetupFrame}
use Rattle.frames.specs.Frames.{Plain, setup, subframe, deposit, withdrawal, packet}
use Rattle.trace.specs.declared.session.Accepted.{Accepted}
use Rattle.trace.specs.declared.session.Accepted.TheVariants.{Replied, Deposited, Withdrawn, Packet}

-- a cell that was set up, its pattern of measurement gaps, its packet memory, the mailbox, and what is left of the book
pub record Standing : Type 0 where
  pub setup : Setup
  pub state : State
  pub period : ℕ
  pub offset : ℕ
  pub memory : List ℕ
  pub radio : Radioed
  pub left : List ℕ

-- an answer, and where the trace stands after it
pub record Answered : Type 0 where
  pub answer : Result Accepted Refusal
  pub standing : Standing

-- what a set-up frame sets up: set-up, gap period, gap offset
pub record Equipment : Type 0 where
  pub setup : Setup
  pub period : ℕ
  pub offset : ℕ

-- a set-up frame: the questions of the cell, and then those of the pattern
abbrev pub admitted_by : Result Setup Refusal → Result (ℕ × ℕ) Refusal → Result Equipment Refusal
admitted_by (Err e) p = Err e
admitted_by (Ok su) (Err e) = Err e
admitted_by (Ok su) (Ok p) = Ok (record { setup = su; period = p.0; offset = p.1 })

abbrev pub admitted : SetupFrame → Result Equipment Refusal
admitted f = admitted_by (set_up f.kind f.max_harq_tx f.max_harq_msg3_tx f.interval f.start) (pattern_set_up f.period f.offset)

-- a line before a set-up was accepted: only a set-up frame is a frame there
abbrev pub equipped : Result Plain Refusal → Result Equipment Refusal
equipped (Err e) = Err e
equipped (Ok (setup f)) = admitted f
equipped (Ok (subframe a g)) = Err NotFrame
equipped (Ok (deposit d)) = Err NotFrame
equipped (Ok withdrawal) = Err NotFrame
equipped (Ok (packet d)) = Err NotFrame

-- where a trace stands once a set-up was accepted, with the records of its book
abbrev pub at_first : Equipment → List ℕ → Standing
at_first q records = record {
  setup = q.setup;
  state = fresh_state q.setup.start;
  period = q.period;
  offset = q.offset;
  memory = replicate 5805 0;
  radio = record { count = 0; latest = None; capacity = 2 ^ 48 };
  left = records;
}

abbrev pub refused : Refusal → Standing → Answered
refused e s = record { answer = Err e; standing = s }

abbrev pub replied : Result Reply Refusal → Result Accepted Refusal
replied (Ok r) = Ok (Replied r)
replied (Err e) = Err e

abbrev pub after_answer : Standing → After (List ℕ) (Result Reply Refusal) → Answered
after_answer s x = record {
  answer = replied x.answer;
  standing = record { setup = s.setup; state = x.state; period = s.period; offset = s.offset; memory = x.memory; radio = x.radio; left = x.source };
}

-- a subframe frame: the call over the mailbox, the book and the pattern
abbrev pub called : Standing → Option Feedback → Option Grant → Answered
called s a g =
    after_answer s (after_subframe left_offers (λ l n. left_used l) s.setup s.state s.memory s.radio s.left (gaps_of s.period s.offset s.state.clock) a g)

-- a deposit or withdrawal frame: what it answers where it is accepted
abbrev pub filed : Accepted → Result (Unit {0}) Refusal → Result Accepted Refusal
filed a (Ok u) = Ok a
filed a (Err e) = Err e

abbrev pub after_filing : Standing → Accepted → Filed → Answered
after_filing s a x = record {
  answer = filed a x.answer;
  standing = record { setup = s.setup; state = x.state; period = s.period; offset = s.offset; memory = x.memory; radio = s.radio; left = s.left };
}

-- what a line is answered, by what it was read as; a second set-up is no frame
abbrev pub answered : Standing → Result Plain Refusal → Answered
answered s (Err e) = refused e s
answered s (Ok (setup f)) = refused NotFrame s
answered s (Ok (subframe a g)) = called s a g
answered s (Ok (deposit d)) = after_filing s Deposited (after_deposit s.state s.memory (decoded d))
answered s (Ok withdrawal) = after_filing s Withdrawn (after_withdrawal s.state s.memory)
answered s (Ok (packet d)) = record { answer = Ok Packet; standing = s }
