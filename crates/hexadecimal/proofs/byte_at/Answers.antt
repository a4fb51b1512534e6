use Rattle.std.proofs.Common.{ap, ◌∙◌}
use Rattle.std.specs.Option.{unwrap_or}
use Rattle.std.proofs.lemmas.Option.{unwrap_or-slice_get}
use Rattle.hexadecimal.specs.Hex.{decoded}
use Rattle.hexadecimal.proofs.byte_at.Goals as goal

pub returns : goal.returns
returns c = c.unwrap_or.ensures ∙ ap (λ o. unwrap_or o 0) c.get_byte.ensures ∙ unwrap_or-slice_get (decoded c.args.text.now) c.args.k 0
