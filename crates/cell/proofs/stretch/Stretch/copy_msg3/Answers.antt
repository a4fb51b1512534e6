use Rattle.std.proofs.Common.{arith}
use Rattle.cell.proofs.Writing.{copied}
use Rattle.cell.proofs.stretch.Stretch.copy_msg3.Goals as goal

pub returns : goal.returns
returns c = copied c.args.memory.now c.copy_within.new.self _ _ _ c.args.self.number c.args.n c.start-at.ensures c.start.ensures c.from.ensures (omega arith) c.copy_within.ensures.after
