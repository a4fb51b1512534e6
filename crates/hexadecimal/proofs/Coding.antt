-- Text and bytes: lengths, places, and the steps of the loops.
use Rattle.std.proofs.Common.{◌≡◌, ℕ, zero, suc, ◌+◌, ◌-◌, ◌*◌, ◌/◌, ◌%◌, ◌<◌, ◌≤◌, ◌&&◌, List, [], ◌∷◌, ◌++◌, length, get_or, take, drop, Some, slice_get, sym, refl, ap, ◌∙◌, arith}
use borrow.Rule.Slice.PartMut.{put_mid}
use Rattle.std.specs.List.{list_all}
use Rattle.std.proofs.lemmas.List.Recursion.{same_from_clauses}
use Rattle.std.proofs.lemmas.List.{take_all, take_more, length-take-le, take_at, drop_at, drop-drop, append_assoc}
use Rattle.hexadecimal.specs.Hex.{is_digit, digit_of, letter_of, digits_of, all_digits, decoded, encoded, Partly}

pub length_decoded : (l : List ℕ) → length (decoded l) ≡ length l / 2
unfolding decoded
length_decoded [] = refl
length_decoded (c ∷ []) = refl
length_decoded (c ∷ d ∷ cs) = let e = length_decoded cs in omega arith

-- the byte at a place, and none past the end
pub decoded_at : (l : List ℕ) (k : ℕ) → k < length (decoded l) → slice_get (decoded l) k ≡ Some (digit_of (get_or l (2 * k) 0) * 16 + digit_of (get_or l (2 * k + 1) 0))
unfolding decoded
decoded_at [] k h = absurd (omega arith)
decoded_at (c ∷ []) k h = absurd (omega arith)
decoded_at (c ∷ d ∷ cs) zero h = refl
decoded_at (c ∷ d ∷ cs) (suc k) h =
    let e : 2 * suc k ≡ suc (suc (2 * k)) = omega arith in
    let f : 2 * suc k + 1 ≡ suc (suc (2 * k + 1)) = omega arith in
    rw (f, e) (decoded_at cs k (omega arith))

-- the byte of the first two digits, and those of the rest
pub decoded_more : (l a b : List ℕ) → a ≡ take 2 l → b ≡ drop 2 l → 2 ≤ length l → decoded l ≡ (digit_of (get_or a 0 0) * 16 + digit_of (get_or a 1 0)) ∷ decoded b
unfolding decoded
decoded_more [] a b e f h = absurd (omega arith)
decoded_more (c ∷ []) a b e f h = absurd (omega arith)
decoded_more (c ∷ d ∷ cs) a b e f h = rw (e, f) refl

pub decoded_none : (l : List ℕ) → length l < 2 → decoded l ≡ []
unfolding decoded
decoded_none [] h = refl
decoded_none (c ∷ []) h = refl
decoded_none (c ∷ d ∷ cs) h = absurd (omega arith)

pub all_digits_is : (l : List ℕ) → all_digits l ≡ list_all is_digit l
unfolding all_digits
all_digits_is l = same_from_clauses all_digits (list_all is_digit) (λ c b. is_digit c && b) refl (λ _ _. refl) (λ _ _. refl) l

pub length_encoded : (b : List ℕ) → length (encoded b) ≡ 2 * length b
unfolding encoded
length_encoded [] = refl
length_encoded (x ∷ xs) = let e = length_encoded xs in omega arith

-- a list after what was held, with one item more of it taken
pub push_more : (v v' d : List ℕ) (k x : ℕ) → k < length d → x ≡ get_or d k 0 → v' ≡ (v ++ take k d) ++ x ∷ [] → v' ≡ v ++ take (k + 1) d
push_more v v' d k x h e f = f ∙ append_assoc v (take k d) (x ∷ []) ∙ ap (λ t. v ++ t) (ap (λ y. take k d ++ y ∷ []) e ∙ sym (take_more d k 0 h))

-- a list after what was held, once all of it is taken
pub push_all : (v v' d : List ℕ) (n : ℕ) → length d ≤ n → v' ≡ v ++ take n d → v' ≡ v ++ d
push_all v v' d n h e = e ∙ ap (λ t. v ++ t) (take_all n d h)

-- the digits of one byte more
pub take_digits : (b : List ℕ) (i : ℕ) → i < length b → take (2 * (i + 1)) (encoded b) ≡ take (2 * i) (encoded b) ++ digits_of (get_or b i 0)
unfolding encoded
take_digits [] i h = absurd (omega arith)
take_digits (x ∷ xs) zero h = refl
take_digits (x ∷ xs) (suc i) h =
    let e : 2 * (suc i + 1) ≡ suc (suc (2 * (i + 1))) = omega arith in
    let f : 2 * suc i ≡ suc (suc (2 * i)) = omega arith in
    rw (e, f) (ap (λ t. digits_of x ++ t) (take_digits xs i (omega arith)))

-- the two digits of the byte at a place
pub get_or_encoded : (b : List ℕ) (k : ℕ) → k < length b → (get_or (encoded b) (2 * k) 0 ≡ letter_of (get_or b k 0 / 16)) × (get_or (encoded b) (2 * k + 1) 0 ≡ letter_of (get_or b k 0 % 16))
unfolding encoded
get_or_encoded [] k h = absurd (omega arith)
get_or_encoded (x ∷ xs) zero h = (refl, refl)
get_or_encoded (x ∷ xs) (suc k) h =
    let e : 2 * suc k ≡ suc (suc (2 * k)) = omega arith in
    let f : 2 * suc k + 1 ≡ suc (suc (2 * k + 1)) = omega arith in
    rw (f, e) (get_or_encoded xs k (omega arith))

pub digits_pushed : (v v' b d : List ℕ) (i : ℕ) → i < length b → d ≡ digits_of (get_or b i 0) → v' ≡ (v ++ take (2 * i) (encoded b)) ++ d → v' ≡ v ++ take (2 * (i + 1)) (encoded b)
digits_pushed v v' b d i h e f = f ∙ append_assoc v (take (2 * i) (encoded b)) d ∙ ap (λ t. v ++ t) (ap (λ y. take (2 * i) (encoded b) ++ y) e ∙ sym (take_digits b i h))

-- the digits of one byte more at the front of a stretch
pub lay_digits : (b o s d : List ℕ) (i : ℕ) → i < length b → 2 * length b ≤ length o → s ≡ take (2 * i) (encoded b) ++ drop (2 * i) o → d ≡ digits_of (get_or b i 0) → put_mid (2 * i) (2 * i + 2 - 2 * i) s d ≡ take (2 * (i + 1)) (encoded b) ++ drop (2 * (i + 1)) o
lay_digits b o s d i h l e f =
    let t = take (2 * i) (encoded b) in
    let n : length t ≡ 2 * i = length-take-le (2 * i) (encoded b) (omega (arith, length_encoded b)) in
    let k : 2 * i + 2 - 2 * i ≡ 2 = omega arith in
    let a : take (2 * i) s ≡ t = ap (take (2 * i)) e ∙ take_at t (drop (2 * i) o) (2 * i) n in
    let c : drop (2 * i) s ≡ drop (2 * i) o = ap (drop (2 * i)) e ∙ drop_at t (drop (2 * i) o) (2 * i) n in
    let m : 2 * i + 2 ≡ 2 * (i + 1) = omega arith in
    let g : drop 2 (drop (2 * i) o) ≡ drop (2 * (i + 1)) o = drop-drop 2 (2 * i) o ∙ ap (λ x. drop x o) m in
    rw (k, a, c, g, f, take_digits b i h) (sym (append_assoc t (digits_of (get_or b i 0)) (drop (2 * (i + 1)) o)))

-- the first part y of what is new was appended, and r is left of it
pub partly : (o v d y r : List ℕ) → v ≡ o ++ y → y ++ r ≡ d → Partly o d v
partly o v d y r e f = (length y, e ∙ ap (λ t. o ++ t) (sym (take_at y r (length y) refl) ∙ ap (take (length y)) f))
