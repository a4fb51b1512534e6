use Rattle.frames.proofs.Rounds.{written_reads, read_writes, refused_unread, one_spelling}
use Rattle.frames.proofs.trips.trips_stand.Goals as goal

pub returns : goal.returns
returns c = record { written = written_reads; read = read_writes; refused = refused_unread; spelling = one_spelling }
