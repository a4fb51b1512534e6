-- Bytes in hexadecimal and back, text to bytes and back.
use Rattle.std.proofs.Common.{◌≡◌, ℕ, ◌+◌, ◌*◌, ◌/◌, ◌%◌, ◌<◌, true, ◌&&◌, eqb, List, [], ◌∷◌, length, refl, ap, ◌∙◌, arith}
use Rattle.std.proofs.lemmas.Bool.{and_parts, and_from, eqb-true, eq-eqb}
use Rattle.hexadecimal.specs.Hex.{is_digit, digit_of, letter_of, all_digits, decoded, encoded, Bytes, EncodedDecodes, DecodedEncodes, EncodedWhole, DecodedBytes}
use Rattle.hexadecimal.proofs.Coding.{length_encoded}

-- a digit, its value and its digit again
letter_digit : (c : ℕ) → is_digit c ≡ true → letter_of (digit_of c) ≡ c
letter_digit c h = grind arith

digit_letter : (n : ℕ) → n < 16 → digit_of (letter_of n) ≡ n
digit_letter n h = grind arith

is_letter : (n : ℕ) → n < 16 → is_digit (letter_of n) ≡ true
is_letter n h = grind arith

digit_bound : (c : ℕ) → digit_of c < 16
digit_bound c = grind arith

pub decoded_bytes : DecodedBytes
unfolding decoded
decoded_bytes [] = tt
decoded_bytes (c ∷ []) = tt
decoded_bytes (c ∷ d ∷ cs) = (omega (arith, digit_bound c, digit_bound d), decoded_bytes cs)

encoded_pairs : (l : List ℕ) → length l % 2 ≡ 0 → all_digits l ≡ true → encoded (decoded l) ≡ l
unfolding decoded encoded all_digits
encoded_pairs [] e h = refl
encoded_pairs (c ∷ []) e h = absurd (omega arith)
encoded_pairs (c ∷ d ∷ cs) e h =
    let bc = digit_bound c in
    let bd = digit_bound d in
    let q : (digit_of c * 16 + digit_of d) / 16 ≡ digit_of c = omega arith in
    let r : (digit_of c * 16 + digit_of d) % 16 ≡ digit_of d = omega arith in
    let hc = and_parts (is_digit c) (is_digit d && all_digits cs) h in
    let hd = and_parts (is_digit d) (all_digits cs) hc.1 in
    ap (λ n. letter_of n ∷ letter_of ((digit_of c * 16 + digit_of d) % 16) ∷ encoded (decoded cs)) q
    ∙ ap (λ n. letter_of (digit_of c) ∷ letter_of n ∷ encoded (decoded cs)) r
    ∙ ap (λ n. n ∷ letter_of (digit_of d) ∷ encoded (decoded cs)) (letter_digit c hc.0)
    ∙ ap (λ n. c ∷ n ∷ encoded (decoded cs)) (letter_digit d hd.0)
    ∙ ap (λ n. c ∷ d ∷ n) (encoded_pairs cs (omega arith) hd.1)

pub decoded_encodes : DecodedEncodes
decoded_encodes l h = let w = and_parts (eqb (length l % 2) 0) (all_digits l) h in encoded_pairs l (eqb-true (length l % 2) 0 w.0) w.1

pub encoded_decodes : EncodedDecodes
unfolding decoded encoded
encoded_decodes [] h = refl
encoded_decodes (x ∷ xs) h =
    let q = digit_letter (x / 16) (omega (arith, h.0)) in
    let r = digit_letter (x % 16) (omega arith) in
    ap (λ n. (n * 16 + digit_of (letter_of (x % 16))) ∷ decoded (encoded xs)) q
    ∙ ap (λ n. (x / 16 * 16 + n) ∷ decoded (encoded xs)) r
    ∙ ap (λ n. n ∷ decoded (encoded xs)) (omega arith)
    ∙ ap (λ t. x ∷ t) (encoded_decodes xs h.1)

encoded_digits : (b : List ℕ) → Bytes b → all_digits (encoded b) ≡ true
unfolding encoded all_digits
encoded_digits [] h = refl
encoded_digits (x ∷ xs) h =
    and_from (is_digit (letter_of (x / 16))) (is_digit (letter_of (x % 16)) && all_digits (encoded xs)) (is_letter (x / 16) (omega (arith, h.0)))
    (and_from (is_digit (letter_of (x % 16))) (all_digits (encoded xs)) (is_letter (x % 16) (omega arith)) (encoded_digits xs h.1))

pub encoded_whole : EncodedWhole
encoded_whole b h = and_from (eqb (length (encoded b) % 2) 0) (all_digits (encoded b)) (eq-eqb (length (encoded b) % 2) 0 (omega (arith, length_encoded b))) (encoded_digits b h)
