-- A sending: an instruction as the radio took it, with the bytes of its packet.
use Rattle.std.specs.Prelude.{ℕ, Bool, ◌&&◌, List, Some, None, Option, nat_le}
use Rattle.terms.specs.declared.instruction.Instruction.{Instruction}
use Rattle.terms.specs.declared.version.RedundancyVersion.{RedundancyVersion}

pub record Sending : Type 0 where
  pub subframe : ℕ
  pub process : ℕ
  pub version : RedundancyVersion
  pub mcs : ℕ
  pub resource : ℕ
  pub packet : List ℕ

abbrev pub sending_of : Instruction → Sending
sending_of i = record { subframe = i.subframe; process = i.process; version = i.version; mcs = i.mcs; resource = i.resource; packet = i.packet.now }

-- an instruction as a sending, if there is one
abbrev pub told_of : Option Instruction → Option Sending
told_of None = None
told_of (Some i) = Some (sending_of i)

-- a packet has 1 to 645 bytes
abbrev pub is_packet : ℕ → Bool
is_packet n = nat_le 1 n && nat_le n 645
