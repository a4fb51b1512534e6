use Rattle.std.proofs.Common.{◌≡◌, drop}
use Rattle.cabins.specs.Entries.{number_on}
use Rattle.cabins.proofs.line.read_number.Given as goal

abbrev pub invariant-loop-digit : goal.invariant-loop-digit
invariant-loop-digit l = number_on 0 l.word ≡ number_on l.number (drop l.digit-index l.word)
