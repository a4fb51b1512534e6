-- What each source offers for a size has that size, which is 1 to 645.
use Rattle.std.specs.Prelude.{ℕ, Bool, true, false, cond, List, is_some, Option}
use Rattle.std.proofs.Common.{length-append, length-drop, length-take, rules}
use lib.ListN.{length-replicate}
use Rattle.ports.specs.Source.{FitsSize}
use Rattle.below.specs.Book.{left_offers}
use Rattle.below.specs.Heartbeat.{unit_offers}
use Rattle.below.specs.Piled.{pile_offers}
use Rattle.below.specs.declared.piled.Piled.{Piled}

-- the bytes left of a book
pub left_fits : (l : List ℕ) (n : ℕ) → FitsSize n (left_offers l n)
left_fits l n = search (rules, length-append, length-replicate, length-take, length-drop)

-- a unit
pub unit_fits : (u n : ℕ) → FitsSize n (unit_offers u n)
unit_fits u n = search (rules, length-append, length-replicate)

-- two sources of which each fits
pub pile_fits : {First Second : Type 0} (first : First → ℕ → Option (List ℕ)) (second : Second → ℕ → Option (List ℕ)) (p : Piled First Second) (n : ℕ)
    → FitsSize n (first p.first n) → FitsSize n (second p.second n) → FitsSize n (pile_offers first second p n)
pile_fits first second p n f s = one (is_some (first p.first n))
  where
    one : (w : Bool) → FitsSize n (cond w (first p.first n) (second p.second n))
    one true = f
    one false = s
