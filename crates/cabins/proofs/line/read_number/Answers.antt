use Rattle.std.proofs.Common.{arith, rules}
use Rattle.cabins.proofs.Walking.{number_more, number_all}
use Rattle.cabins.proofs.line.read_number.Goals as goal

pub returns-then-not-is_ascii_digit : goal.returns-then-not-is_ascii_digit
returns-then-not-is_ascii_digit c = let e = number_more c.loop-digit.number c.args.word.now c.loop-digit.digit-index (omega arith) in search rules

pub loop-digit-preserved : goal.loop-digit-preserved
loop-digit-preserved c = let e = number_more c.loop-digit.number c.args.word.now c.loop-digit.digit-index (omega arith) in search rules

pub returns : goal.returns
returns c = let e = number_all c.loop-digit.number c.args.word.now c.loop-digit.digit-index (omega arith) in search rules
