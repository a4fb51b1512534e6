use Rattle.std.proofs.Common.{◌≡◌, ◌++◌, length, vec_items}
use Rattle.frames.specs.Lines.{lines_of}
use Rattle.trace.specs.Answers.{answers}
use Rattle.trace.specs.Sessions.{answers_to}
use Rattle.trace.proofs.answer.answer_all.Given as goal

abbrev pub invariant-loop-line : goal.invariant-loop-line
invariant-loop-line l = vec_items l.out ++ answers_to l.trace (lines_of l.line-iterator.rest.now) ≡ answers l.input

abbrev pub decreases-loop-line : goal.decreases-loop-line
decreases-loop-line l = length l.line-iterator.rest.now
