-- What a subframe does to packet memory.
use Rattle.std.specs.Prelude.{ℕ, List, length, Some, None, Option}
use Rattle.terms.specs.declared.decision.NewPacket.{NewPacket}
use Rattle.rules.specs.Memory.{written}
use Rattle.rules.specs.Entity.{Fresh}

-- a packet for a new transmission, without its bytes
abbrev pub new_packet : Option Fresh → Option NewPacket
new_packet None = None
new_packet (Some f) = Some (record { length = length f.packet; from_msg3 = f.from_msg3 })

-- packet memory once a packet, if there is one, is written to the front of stretch k
abbrev pub with_packet : List ℕ → ℕ → Option (List ℕ) → List ℕ
with_packet m k None = m
with_packet m k (Some b) = written m k b

abbrev pub with_fresh : List ℕ → ℕ → Option Fresh → List ℕ
with_fresh m k None = m
with_fresh m k (Some f) = written m k f.packet
