-- A packet in a stretch of bytes.
use Rattle.std.specs.Prelude.{ℕ, ◌-◌, List, ◌++◌, length, replicate}

-- a packet with zeros after it, up to a size
abbrev pub padded : List ℕ → ℕ → List ℕ
padded p size = p ++ replicate (size - length p) 0
