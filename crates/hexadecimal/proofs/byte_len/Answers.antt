use Rattle.std.proofs.Common.{rules}
use Rattle.hexadecimal.proofs.Coding.{length_decoded}
use Rattle.hexadecimal.proofs.byte_len.Goals as goal

pub returns : goal.returns
returns c = let e = length_decoded c.args.text.now in search rules
