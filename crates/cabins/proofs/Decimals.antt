-- The two decimals of a figure.
use Rattle.std.proofs.Common.{◌≡◌, ℕ, ◌-◌, ◌/◌, ◌%◌, ◌^◌, ◌<◌, ◌≤◌, Bool, true, false, ltb, [], ◌∷◌, ◌++◌, decimal, codes, refl, arith}
use borrow.Author.Tests.{ltb-true, ltb-false}
use Rattle.std.specs.Fmt.{padded_integral, styled_decimal, format_spec, char_count}
use Rattle.std.proofs.lemmas.Fmt.{decimal_digit, decimal_step}
use Rattle.std.proofs.lemmas.List.{append_assoc}
use Rattle.cabins.specs.Texts.{per_packet}

two_decimals : (n : ℕ) → n < 100 → padded_integral (format_spec 32 0 4 2 (2 ^ 64 - 1)) false [] (decimal n) ≡ decimal (n / 10) ++ decimal (n % 10)
unfolding padded_integral char_count
two_decimals n small = go (ltb n 10) refl
  where
    go : (b : Bool) → ltb n 10 ≡ b → padded_integral (format_spec 32 0 4 2 (2 ^ 64 - 1)) false [] (decimal n) ≡ decimal (n / 10) ++ decimal (n % 10)
    go true e =
        let one : n < 10 = omega (arith, ltb-true) in
        let high : n / 10 ≡ 0 = omega arith in
        let low : n % 10 ≡ n = omega arith in
        rw (high, low, decimal_digit n one, decimal_digit 0 (omega arith))
    go false e =
        let two : 10 ≤ n = omega (arith, ltb-false) in
        rw (decimal_step n two (omega arith), decimal_digit (n / 10) (omega arith), decimal_digit (n % 10) (omega arith))

-- a figure with its hundredths in two places
pub figure_told : (f : ℕ) → decimal (f / 100) ++ (46 ∷ (styled_decimal (format_spec 32 0 4 2 (2 ^ 64 - 1)) (f % 100) ++ codes " sendings per packet")) ≡ per_packet f
figure_told f =
    let tenths : f % 100 / 10 ≡ f / 10 % 10 = omega arith in
    let hundredths : f % 100 % 10 ≡ f % 10 = omega arith in
    rw (two_decimals (f % 100) (omega arith), tenths, hundredths, append_assoc)
