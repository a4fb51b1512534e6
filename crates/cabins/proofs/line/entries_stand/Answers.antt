use Rattle.cabins.proofs.Reading.{entries_read_back}
use Rattle.cabins.proofs.line.entries_stand.Goals as goal

pub returns : goal.returns
returns c = entries_read_back
