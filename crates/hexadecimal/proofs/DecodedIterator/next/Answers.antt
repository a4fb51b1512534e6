use Rattle.std.proofs.Common.{length, ap, arith, rules}
use Rattle.hexadecimal.proofs.Coding.{decoded_more, decoded_none}
use Rattle.hexadecimal.proofs.DecodedIterator.next.Goals as goal

pub returns-in_err-high : goal.returns-in_err-high
returns-in_err-high c = let e = decoded_none c.args.self.now.text.now (omega (arith, c.in_err-high.ensures.cases)) in search rules

pub returns : goal.returns
returns c =
    let h = c.in_ok-high.ensures.cases in
    let e = decoded_more c.args.self.now.text.now c.in_ok-high.field-0-0.now c.in_ok-high.rest.now h.0 h.1 (omega (arith, h.2)) in
    let n = ap length e in
    record { steps = search rules; goes = record { on = λ _. (tt, tt, omega (arith, n)); keeps = tt; rests = λ _. tt } }
