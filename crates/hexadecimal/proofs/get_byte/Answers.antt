use Rattle.std.proofs.Common.{arith, rules}
use Rattle.std.proofs.lemmas.Option.{slice_get_past}
use Rattle.hexadecimal.specs.Hex.{decoded}
use Rattle.hexadecimal.proofs.Coding.{decoded_at}
use Rattle.hexadecimal.proofs.get_byte.Goals as goal

pub returns-then-k-byte_len : goal.returns-then-k-byte_len
returns-then-k-byte_len c = let e = decoded_at c.args.text.now c.args.k (omega arith) in search rules

pub returns-else-k-byte_len : goal.returns-else-k-byte_len
returns-else-k-byte_len c = let e = slice_get_past (decoded c.args.text.now) c.args.k (omega arith) in search rules
