-- The meaning of a source.
use Rattle.std.specs.Prelude.{◌≡◌, ℕ, ◌≤◌, cond, List, length, is_some, Some, None, Option}

-- a packet that waits for a size has that size, which is 1 to 645
abbrev pub FitsSize : ℕ → Option (List ℕ) → Type 0
FitsSize n None = Unit {0}
FitsSize n (Some p) = (1 ≤ n) × (n ≤ 645) × (length p ≡ n)

-- a source after it was asked for a size, if it was asked: what it offers, what use makes of it
abbrev pub source_after : {S : Type 0} → (S → ℕ → Option (List ℕ)) → (S → ℕ → S) → S → Option ℕ → S
source_after offers used s None = s
source_after offers used s (Some n) = cond (is_some (offers s n)) (used s n) s

-- what a source offers for the size that it is asked for, if it is asked, fits
abbrev pub FitsAsked : (ℕ → Option (List ℕ)) → Option ℕ → Type 0
FitsAsked offers None = Unit {0}
FitsAsked offers (Some n) = FitsSize n (offers n)
