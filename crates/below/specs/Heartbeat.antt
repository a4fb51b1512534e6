-- The meaning of a heartbeat.
use Rattle.std.specs.Prelude.{ℕ, ◌/◌, ◌%◌, cond, ◌&&◌, List, [], ◌∷◌, Some, None, Option, nat_le}
use Rattle.below.specs.Stretch.{padded}
use Rattle.below.specs.declared.heartbeat.Heartbeat.{Heartbeat}

-- a unit number in four bytes, the highest first
abbrev pub unit_bytes : ℕ → List ℕ
unit_bytes u = (u / 16777216 % 256) ∷ (u / 65536 % 256) ∷ (u / 256 % 256) ∷ (u % 256) ∷ []

-- the four bytes, if they wait for a size: from 4 bytes up to 645
abbrev pub unit_waiting : ℕ → ℕ → Option (List ℕ)
unit_waiting u size = cond (nat_le 4 size && nat_le size 645) (Some (unit_bytes u)) None

-- what a unit offers for a size: its number and zeros, from 4 bytes up to 645
abbrev pub unit_offers : ℕ → ℕ → Option (List ℕ)
unit_offers u size = cond (nat_le 4 size && nat_le size 645) (Some (padded (unit_bytes u) size)) None

-- what a heartbeat offers for a size
abbrev pub heartbeat_offers : Heartbeat → ℕ → Option (List ℕ)
heartbeat_offers h = unit_offers h.unit

-- a heartbeat once its packet of a size was used: it stays, so that it offers the same again
abbrev pub heartbeat_used : Heartbeat → ℕ → Heartbeat
heartbeat_used h size = h
