use Rattle.std.proofs.Common.{◌≡◌, length, arith, rules}
use Rattle.std.proofs.lemmas.List.{length_push}
use Rattle.std.proofs.lemmas.List.FromFn.{length-enumerate_from}
use Rattle.std.proofs.lemmas.Iterator.Consumers.{YieldsList-from_first, YieldsList-from_enumerate, YieldsList-turn, YieldsList-end}
use Rattle.hexadecimal.specs.Hex.{decoded}
use Rattle.frames.proofs.Reading.{filled_more, filled_all}
use Rattle.frames.proofs.read.bytes_of.Goals as goal

pub loop-k-preserved : goal.loop-k-preserved
loop-k-preserved g c =
    let d = decoded c.args.line.now in
    let y = c.loop-k.yielded in
    let t = YieldsList-turn (YieldsList-from_enumerate (YieldsList-from_first (λ x. x) (λ s. decoded s.text.now) d cc) cc) y c.loop-k.k-iterator c.loop-k.yielded_by c.next.result c.next.new.self (c.in-Some.k, c.in-Some.byte) c.in-Some.is c.next.ensures.steps in
    let n = length-enumerate_from 0 d in
    record {
      long = search (rules, c.loop-k.invariant.long);
      same = λ j i. filled_more c.loop-k.bytes d (length y) c.in-Some.k c.in-Some.byte c.loop-k.invariant.same c.loop-k.invariant.long (omega arith) t.1 j (omega (arith, length_push y (c.in-Some.k, c.in-Some.byte)));
    }

pub returns : goal.returns
returns g c =
    let d = decoded c.args.line.now in
    let b = c.loop-k.bytes in
    let t = YieldsList-end (YieldsList-from_enumerate (YieldsList-from_first (λ x. x) (λ s. decoded s.text.now) d cc) cc) c.loop-k.yielded c.loop-k.k-iterator c.loop-k.yielded_by c.next.result c.next.new.self c.in-None.is c.next.ensures.steps in
    let n = length-enumerate_from 0 d in
    let e : b ≡ d = filled_all b d (length c.loop-k.yielded) c.loop-k.invariant.same c.loop-k.invariant.long (omega arith) in
    search rules
