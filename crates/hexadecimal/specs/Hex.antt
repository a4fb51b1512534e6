-- Lower-case hexadecimal text and the bytes that it stands for.
use Rattle.std.specs.Prelude.{◌≡◌, ℕ, ◌+◌, ◌-◌, ◌*◌, ◌/◌, ◌%◌, ◌<◌, Bool, true, cond, ◌&&◌, ◌||◌, List, [], ◌∷◌, ◌++◌, length, take, drop, Some, None, Option, ◌==◌, nat_le, nat_lt}

-- whether a character is one of 0 to 9 and a to f
abbrev pub is_digit : ℕ → Bool
is_digit c = (nat_le 48 c && nat_le c 57) || (nat_le 97 c && nat_le c 102)

-- the value of a digit, and 0 for any other character
abbrev pub digit_of : ℕ → ℕ
digit_of c = cond (nat_le 48 c && nat_le c 57) (c - 48) (cond (nat_le 97 c && nat_le c 102) (c - 87) 0)

-- the digit of a value below 16
abbrev pub letter_of : ℕ → ℕ
letter_of n = cond (nat_lt n 10) (n + 48) (n + 87)

-- the two digits of a byte
abbrev pub digits_of : ℕ → List ℕ
digits_of b = letter_of (b / 16) ∷ letter_of (b % 16) ∷ []

unfoldable pub all_digits : List ℕ → Bool
all_digits [] = true
all_digits (c ∷ cs) = is_digit c && all_digits cs

-- whole bytes in hexadecimal
abbrev pub whole : List ℕ → Bool
whole l = length l % 2 == 0 && all_digits l

-- the bytes of a text, two digits to a byte; an odd last digit stands for none
unfoldable pub decoded : List ℕ → List ℕ
decoded [] = []
decoded (c ∷ []) = []
decoded (c ∷ d ∷ cs) = (digit_of c * 16 + digit_of d) ∷ decoded cs

-- the text of some bytes
unfoldable pub encoded : List ℕ → List ℕ
encoded [] = []
encoded (b ∷ bs) = digits_of b ++ encoded bs

-- what is held is what was held before, and then a first part of what is new
abbrev pub Partly : List ℕ → List ℕ → List ℕ → Type 0
Partly old new held = (n : ℕ) × (held ≡ old ++ take n new)

-- whether a stretch has room for a text
abbrev pub has_room : List ℕ → List ℕ → Bool
has_room o t = nat_le (length t) (length o)

-- the length of a text that a stretch has room for
abbrev pub laid_length : List ℕ → List ℕ → Option ℕ
laid_length o t = cond (has_room o t) (Some (length t)) None

-- a stretch once a text was written to its front: the text and the old rest; without room for it, the stretch as it was
abbrev pub laid : List ℕ → List ℕ → List ℕ
laid o t = cond (has_room o t) (t ++ drop (length t) o) o

-- each is a byte
abbrev pub Bytes : List ℕ → Type 0
Bytes [] = Unit {0}
Bytes (b ∷ bs) = (b < 256) × Bytes bs

-- the text of bytes stands for these bytes
abbrev pub EncodedDecodes : Type 0
EncodedDecodes = (b : List ℕ) → Bytes b → decoded (encoded b) ≡ b

-- whole text is the text of the bytes that it stands for
abbrev pub DecodedEncodes : Type 0
DecodedEncodes = (l : List ℕ) → whole l ≡ true → encoded (decoded l) ≡ l

-- the text of bytes is whole, and what a text stands for is bytes
abbrev pub EncodedWhole : Type 0
EncodedWhole = (b : List ℕ) → Bytes b → whole (encoded b) ≡ true

abbrev pub DecodedBytes : Type 0
DecodedBytes = (l : List ℕ) → Bytes (decoded l)
