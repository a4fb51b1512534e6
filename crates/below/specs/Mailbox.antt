-- The meaning of a mailbox.
use Rattle.std.specs.Prelude.{◌^◌, cond, length, take, Some, None, Option}
use Rattle.terms.specs.Sendings.{Sending, is_packet}
use Rattle.ports.specs.Radio.{Radioed}
use Rattle.below.specs.declared.mailbox.Mailbox.{Mailbox}
use Rattle.below.specs.declared.mailbox.kept.Kept.{Kept}

-- what is kept, as a sending, if anything is
abbrev pub kept_sending : Option Kept → Option Sending
kept_sending None = None
kept_sending (Some k) = Some (record { subframe = k.subframe; process = k.process; version = k.version; mcs = k.mcs; resource = k.resource; packet = take k.size k.packet })

-- what is kept of a sending: the sending, if its bytes are a packet
abbrev pub kept_of : Sending → Option Sending
kept_of x = cond (is_packet (length x.packet)) (Some x) None

-- a mailbox takes 2 ^ 48 instructions in all
abbrev pub mailbox_radioed : Mailbox → Radioed
mailbox_radioed m = record { count = m.count; latest = kept_sending m.latest; capacity = 2 ^ 48 }
