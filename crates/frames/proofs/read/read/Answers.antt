use Rattle.std.proofs.Common.{rules}
use Rattle.frames.proofs.Rounds.{line_written}
use Rattle.frames.proofs.read.read.Goals as goal

pub returns : goal.returns
returns c = record { value = search rules; line = line_written c.args.line.now c.frame_of.result c.frame_of.ensures }
