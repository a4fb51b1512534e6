-- The meaning of a pattern of measurement gaps.
use Rattle.std.specs.Prelude.{ℕ, ◌+◌, ◌-◌, ◌%◌, Bool, cond, not, ◌&&◌, ◌||◌, Ok, Err, Result, ◌==◌, nat_lt}
use Rattle.terms.specs.declared.answer.Refusal.{Refusal}
use Rattle.terms.specs.declared.answer.Refusal.TheVariants.{GapPattern}
use Rattle.below.specs.declared.pattern.Pattern.{Pattern}

-- whether subframe t lies in a gap, by period and offset: a gap is 6 subframes long, and period 0 has none
abbrev pub gaps_of : ℕ → ℕ → ℕ → Bool
gaps_of period offset t = not (period == 0) && nat_lt ((t + period - offset) % period) 6

-- the gaps of a pattern
abbrev pub pattern_covers : Pattern → ℕ → Bool
pattern_covers p = gaps_of p.period p.offset

-- no gaps, or a period of 40 or 80 with an offset below it
abbrev pub is_pattern : ℕ → ℕ → Bool
is_pattern period offset = (period == 0 && offset == 0) || ((period == 40 || period == 80) && nat_lt offset period)

-- what becomes of two numbers: a pattern's, or refused
abbrev pub pattern_set_up : ℕ → ℕ → Result (ℕ × ℕ) Refusal
pattern_set_up period offset = cond (is_pattern period offset) (Ok (period, offset)) (Err GapPattern)

-- a pattern by its numbers
abbrev pub pattern_parts : Result Pattern Refusal → Result (ℕ × ℕ) Refusal
pattern_parts (Ok p) = Ok (p.period, p.offset)
pattern_parts (Err e) = Err e
