-- The meaning of two sources that are piled.
use Rattle.std.specs.Prelude.{ℕ, cond, List, is_some, Option}
use Rattle.below.specs.declared.piled.Piled.{Piled}

-- what a pile offers for a size: what the first source does, and where that has none, what the second does
abbrev pub pile_offers : {First Second : Type 0} → (First → ℕ → Option (List ℕ)) → (Second → ℕ → Option (List ℕ)) → Piled First Second → ℕ → Option (List ℕ)
pile_offers first second p size = cond (is_some (first p.first size)) (first p.first size) (second p.second size)

-- a pile once its packet of a size was used: the source that offered it was used, and the other stays
abbrev pub pile_used : {First Second : Type 0} → (First → ℕ → Option (List ℕ)) → (First → ℕ → First) → (Second → ℕ → Second) → Piled First Second → ℕ → Piled First Second
pile_used offers first second p size = cond (is_some (offers p.first size)) (record { first = first p.first size; second = p.second }) (record { first = p.first; second = second p.second size })
