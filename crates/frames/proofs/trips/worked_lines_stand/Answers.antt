use Rattle.std.proofs.Common.{refl}
use Rattle.hexadecimal.specs.Hex.{all_digits, decoded, encoded}
use Rattle.frames.proofs.trips.worked_lines_stand.Goals as goal

pub returns : goal.returns
unfolding all_digits decoded encoded
returns c = record { setup_line = refl; grant_line = refl; bare_lines = (refl, refl); packet_lines = (refl, refl, refl); refused_lines = (refl, refl, refl, refl, refl) }
