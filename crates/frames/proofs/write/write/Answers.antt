use Rattle.std.proofs.Common.{rules}
use Rattle.frames.specs.Frames.{plain}
use Rattle.frames.proofs.Rounds.{front_reads, no_line_fits}
use Rattle.frames.proofs.write.write.Goals as goal

pub returns : goal.returns
returns c = record {
  value = search rules;
  after = search rules;
  back = front_reads (plain c.args.frame) c.args.stretch.now c.put.new.stretch c.put.result c.put.ensures.fits c.put.ensures.value c.put.ensures.after;
  refuses = no_line_fits (plain c.args.frame) c.args.stretch.now c.put.result c.put.ensures.value;
}
