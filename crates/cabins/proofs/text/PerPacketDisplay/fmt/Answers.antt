use Rattle.std.proofs.Common.{◌/◌, ◌%◌, ◌∷◌, ◌++◌, decimal, codes, rules}
use Rattle.std.specs.Fmt.{styled_decimal}
use Rattle.std.proofs.Output.{has_written_of_eq}
use Rattle.cabins.proofs.Decimals.{figure_told}
use Rattle.cabins.proofs.text.PerPacketDisplay.fmt.Goals as goal

pub returns-clause-writes : goal.returns-clause-writes
returns-clause-writes g c = λ plain ok.
    let f = c.args.self.now.0 in
    let e = figure_told f in
    has_written_of_eq _ _ (decimal (f / 100) ++ (46 ∷ (styled_decimal c.laid_out.result (f % 100) ++ codes " sendings per packet"))) _ _ (rw c.laid_out.ensures (search rules)) (c.write.ensures.writes plain ok)
