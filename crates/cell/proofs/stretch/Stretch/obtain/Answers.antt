use Rattle.std.proofs.Common.{arith}
use Rattle.cell.proofs.Writing.{msg3_sized, msg3_packet}
use Rattle.cell.proofs.stretch.Stretch.obtain.Goals as goal

pub returns-in-Some-clause-sized : goal.returns-in-Some-clause-sized
returns-in-Some-clause-sized g c = msg3_sized c.args.g c.args.msg3 c.args.memory.now (g.S.Source.offers c.args.source.now) c.in-Some.length c.in-Some.ensures c.requires.bound (omega arith)

pub returns-in-Some-clause-packet : goal.returns-in-Some-clause-packet
returns-in-Some-clause-packet g c = msg3_packet c.args.g c.args.msg3 c.args.memory.now (g.S.Source.offers c.args.source.now) c.in-Some.length c.in-Some.ensures c.requires.bound (omega arith)
