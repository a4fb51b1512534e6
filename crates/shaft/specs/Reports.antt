-- What a line of the report shows.
use Rattle.std.specs.Prelude.{Bool, true, false, None, Option}
use Rattle.terms.specs.Sendings.{Sending}
use Rattle.terms.specs.declared.answer.Outcome.{Outcome}
use Rattle.terms.specs.declared.answer.Outcome.TheVariants.{Idle, EmptyBuffer, NoPacket, Sent, Gap, Acknowledged}

-- something was asked for
abbrev pub tells_of : Outcome → Bool
tells_of Idle = false
tells_of EmptyBuffer = true
tells_of NoPacket = true
tells_of Sent = true
tells_of Gap = true
tells_of Acknowledged = true

-- what was sent in a subframe, by its outcome and the latest sending
abbrev pub sent_of : Outcome → Option Sending → Option Sending
sent_of Idle latest = None
sent_of EmptyBuffer latest = None
sent_of NoPacket latest = None
sent_of Sent latest = latest
sent_of Gap latest = None
sent_of Acknowledged latest = None
