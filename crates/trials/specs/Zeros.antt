-- The meaning of a source of zeros.
use Rattle.std.specs.Prelude.{ℕ, cond, ◌&&◌, List, replicate, Some, None, Option, nat_le}

-- zeros for every size from 1 up to a bound
abbrev pub zeros_offers : ℕ → ℕ → Option (List ℕ)
zeros_offers most size = cond (nat_le 1 size && nat_le size most) (Some (replicate size 0)) None
