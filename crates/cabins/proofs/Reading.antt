-- What is written of a cabin is read again.
use Rattle.std.proofs.Common.{◌≡◌, ℕ, suc, ◌+◌, ◌-◌, ◌*◌, ◌/◌, ◌%◌, ◌^◌, ◌<◌, ◌≤◌, min, Bool, true, false, cond, not, ◌&&◌, eqb, List, [], ◌∷◌, ◌++◌, length, take, drop, Some, None, decimal, refl, ap, ◌∙◌, div-add-mod', arith, rules}
use Rattle.std.proofs.lemmas.Bool.{false≢true}
use Rattle.std.proofs.lemmas.List.Recursion.{and_push}
use Rattle.std.proofs.Math.Seq.{take-append_seam, drop-append-add}
use Rattle.std.proofs.lemmas.Fmt.{decimal_by_steps, decimal_nonempty}
use Rattle.frames.specs.Lines.{length_to}
use Rattle.cabins.specs.Entries.{word_length, word_of, after_word, is_digit, next_value, number_on, number_of, tally_with, free_of_spaces, entry, EntriesReadBack}

-- the word before a space, and what stands after it
length_before : (a b : List ℕ) → free_of_spaces a ≡ true → word_length (a ++ 32 ∷ b) ≡ length a
unfolding length_to free_of_spaces
length_before [] b f = refl
length_before (x ∷ xs) b f = go (length_before xs b) (eqb x 32) f
  where
    go : (free_of_spaces xs ≡ true → word_length (xs ++ 32 ∷ b) ≡ length xs) → (t : Bool) → not t && free_of_spaces xs ≡ true → cond t 0 (suc (word_length (xs ++ 32 ∷ b))) ≡ suc (length xs)
    go again true g = absurd (false≢true g)
    go again false g = ap suc (again g)

word_before : (a b : List ℕ) → free_of_spaces a ≡ true → word_of (a ++ 32 ∷ b) ≡ a
word_before a b f = ap (λ n. take n (a ++ 32 ∷ b)) (length_before a b f) ∙ take-append_seam a (32 ∷ b)

after_before : (a b : List ℕ) → free_of_spaces a ≡ true → after_word (a ++ 32 ∷ b) ≡ b
after_before a b f = ap (λ n. drop n (a ++ 32 ∷ b)) (let s : suc (word_length (a ++ 32 ∷ b)) ≡ length a + 1 = omega (arith, length_before a b f) in s) ∙ drop-append-add a (32 ∷ b) 1

-- one digit more at the end
number_push : (m : ℕ) (ds : List ℕ) (c k : ℕ) → number_on m ds ≡ Some k → is_digit c ≡ true → number_on m (ds ++ c ∷ []) ≡ Some (next_value k c)
unfolding number_on
number_push m [] c k e d = ap (λ b. cond b (Some (next_value m c)) None) d ∙ (let s : m ≡ k = cc in ap (λ n. Some (next_value n c)) s)
number_push m (x ∷ xs) c k e d = go (λ g. number_push (next_value m x) xs c k g d) (is_digit x) e
  where
    go : (number_on (next_value m x) xs ≡ Some k → number_on (next_value m x) (xs ++ c ∷ []) ≡ Some (next_value k c)) → (t : Bool) → cond t (number_on (next_value m x) xs) None ≡ Some k → cond t (number_on (next_value m x) (xs ++ c ∷ [])) None ≡ Some (next_value k c)
    go again true g = again g
    go again false g = absurd (let y : ◌≡◌ {A = ℕ} 0 1 = cc in omega arith)

free_push : (ds : List ℕ) (c : ℕ) → free_of_spaces ds ≡ true → is_digit c ≡ true → free_of_spaces (ds ++ c ∷ []) ≡ true
unfolding free_of_spaces
free_push ds c f d = let e = and_push free_of_spaces (λ x. not (eqb x 32)) refl (λ _ _. refl) ds c in search rules

-- the digits of a number have no space, and are read as the number
abbrev Reads : ℕ → List ℕ → Type 0
Reads n ds = (number_on 0 ds ≡ Some (min n 18446744073709551615)) × (free_of_spaces ds ≡ true)

digit_is : (n : ℕ) → n < 10 → is_digit (48 + n) ≡ true
digit_is n h = search rules

one_digit : (n : ℕ) → n < 10 → Reads n ((48 + n) ∷ [])
unfolding number_on free_of_spaces
one_digit n h =
    let d = digit_is n h in
    let v : next_value 0 (48 + n) ≡ min n 18446744073709551615 = ap (λ x. min x 18446744073709551615) (let s : 0 * 10 + (48 + n - 48) ≡ n = omega arith in s) in
    (ap (λ b. cond b (Some (next_value 0 (48 + n))) None) d ∙ ap Some v, free_push [] (48 + n) refl d)

more_digits : (n : ℕ) (ds : List ℕ) → 10 ≤ n → Reads (n / 10) ds → Reads n (ds ++ ((48 + n % 10) ∷ []))
more_digits n ds h r =
    let d = digit_is (n % 10) (omega arith) in
    let s = div-add-mod' n 10 in
    let v : next_value (min (n / 10) 18446744073709551615) (48 + n % 10) ≡ min n 18446744073709551615 = search rules in
    (number_push 0 ds (48 + n % 10) (min (n / 10) 18446744073709551615) r.0 d ∙ ap Some v, free_push ds (48 + n % 10) r.1 d)

decimal_read : (n : ℕ) → n < 2 ^ 64 → Reads n (decimal n)
decimal_read n h = decimal_by_steps Reads one_digit more_digits n h

number_read : (n : ℕ) → n < 2 ^ 64 → number_of (decimal n) ≡ Some n
number_read n h =
    let some : eqb (length (decimal n)) 0 ≡ false = let p = decimal_nonempty n h in search rules in
    let small : min n 18446744073709551615 ≡ n = omega arith in
    ap (λ b. cond b None (number_on 0 (decimal n))) some ∙ (decimal_read n h).0 ∙ ap Some small

pub entries_read_back : EntriesReadBack
entries_read_back name p s filled free hp hs =
    let rest = decimal p ++ 32 ∷ decimal s in
    let some : eqb (length name) 0 ≡ false = search rules in
    let w = word_before name rest free in
    let a = after_before name rest free in
    let free-p = (decimal_read p hp).1 in
    let packets : number_of (word_of (after_word (entry name p s))) ≡ Some p = ap (λ t. number_of (word_of t)) a ∙ ap number_of (word_before (decimal p) (decimal s) free-p) ∙ number_read p hp in
    let sendings : number_of (after_word (after_word (entry name p s))) ≡ Some s = ap (λ t. number_of (after_word t)) a ∙ ap number_of (after_before (decimal p) (decimal s) free-p) ∙ number_read s hs in (
      w,
      ap (λ t. cond (eqb (length t) 0) None (tally_with (number_of (word_of (after_word (entry name p s)))) (number_of (after_word (after_word (entry name p s)))))) w
          ∙ ap (λ b. cond b None (tally_with (number_of (word_of (after_word (entry name p s)))) (number_of (after_word (after_word (entry name p s)))))) some
          ∙ ap (λ x. tally_with x (number_of (after_word (after_word (entry name p s))))) packets ∙ ap (tally_with (Some p)) sendings,
    )
