-- Bytes in hexadecimal and then digits, at the front of a stretch.
use Rattle.std.proofs.Common.{◌≡◌, ℕ, ◌+◌, ◌-◌, ◌≤◌, Bool, true, false, cond, List, ◌++◌, length, take, drop, Some, None, sym, refl, ap, ◌∙◌, arith}
use borrow.Rule.Slice.PartMut.{put_mid}
use Rattle.std.proofs.lemmas.List.{append_assoc, length-append, length-take-le, take-append-drop, take_at, drop_at, drop-drop, drop-append-le}
use Rattle.std.proofs.lemmas.Bool.{le-leb, lt-leb, leb-true, leb-false, cond-true, cond-false}
use Rattle.hexadecimal.specs.Hex.{encoded, has_room, laid_length, laid}
use Rattle.frames.specs.Written.{spelled}

no_length : (g : Bool) (n : ℕ) → None ≡ cond g (Some n) None → g ≡ false
no_length false n h = refl
no_length true n h = cc

the_length : (g : Bool) (n e : ℕ) → Some e ≡ cond g (Some n) None → (g ≡ true) × (e ≡ n)
the_length true n e h = (refl, cc)
the_length false n e h = cc

-- a stretch too short for the digits alone
pub no_room_for_digits : (o b d : List ℕ) → (length d ≤ length o → ⊥) → has_room o (spelled b d) ≡ false
no_room_for_digits o b d h = lt-leb (length (spelled b d)) (length o) (omega (arith, length-append (encoded b) d))

-- a stretch whose part before the digits is too short for the bytes
pub no_room_for_bytes : (o b d : List ℕ) (room : ℕ) → length d ≤ length o → room ≡ length o - length d → None ≡ laid_length (take room o) (encoded b) → has_room o (spelled b d) ≡ false
no_room_for_bytes o b d room l r h =
    let s = leb-false (length (encoded b)) (length (take room o)) (no_length (has_room (take room o) (encoded b)) (length (encoded b)) h) in
    lt-leb (length (spelled b d)) (length o) (omega (arith, length-append (encoded b) d, length-take-le room o (omega arith)))

-- such a part stays as it was
pub stays : (o p b : List ℕ) (room : ℕ) → None ≡ laid_length (take room o) (encoded b) → p ≡ laid (take room o) (encoded b) → p ++ drop room o ≡ o
stays o p b room h e =
    let f = no_length (has_room (take room o) (encoded b)) (length (encoded b)) h in
    ap (λ t. t ++ drop room o) (e ∙ cond-false (has_room (take room o) (encoded b)) (encoded b ++ drop (length (encoded b)) (take room o)) (take room o) f) ∙ take-append-drop room o

-- bytes and digits that there is room for
pub record Spelled (o p q b d : List ℕ) (room end : ℕ) : Type 0 where
  pub room_for : has_room o (spelled b d) ≡ true
  pub length_is : end + length d ≡ length (spelled b d)
  pub after : put_mid end (end + length d - end) (p ++ drop room o) q ≡ spelled b d ++ drop (length (spelled b d)) o

pub spells : (o p q b d : List ℕ) (room end : ℕ) → length d ≤ length o → room ≡ length o - length d → Some end ≡ laid_length (take room o) (encoded b) → p ≡ laid (take room o) (encoded b) → q ≡ d
    → Spelled o p q b d room end
spells o p q b d room end l r h e s =
    let g = the_length (has_room (take room o) (encoded b)) (length (encoded b)) end h in
    let le : length (encoded b) ≡ end = sym g.1 in
    let lr : length (take room o) ≡ room = length-take-le room o (omega arith) in
    let fits : length (encoded b) ≤ length (take room o) = leb-true (length (encoded b)) (length (take room o)) g.0 in
    let n : length (spelled b d) ≡ end + length d = length-append (encoded b) d ∙ ap (λ x. x + length d) le in
    let k : end + length d - end ≡ length d = omega arith in
    let rest : drop end (take room o) ++ drop room o ≡ drop end o = sym (drop-append-le end (take room o) (drop room o) (omega arith)) ∙ ap (drop end) (take-append-drop room o) in
    let w : p ++ drop room o ≡ encoded b ++ drop end o =
    ap (λ t. t ++ drop room o) (e ∙ cond-true (has_room (take room o) (encoded b)) (encoded b ++ drop (length (encoded b)) (take room o)) (take room o) g.0 ∙ ap (λ x. encoded b ++ drop x (take room o)) le)
    ∙ append_assoc (encoded b) (drop end (take room o)) (drop room o)
    ∙ ap (λ t. encoded b ++ t) rest in
    let a : take end (encoded b ++ drop end o) ≡ encoded b = take_at (encoded b) (drop end o) end le in
    let c : drop end (encoded b ++ drop end o) ≡ drop end o = drop_at (encoded b) (drop end o) end le in
    let f : drop (length d) (drop end o) ≡ drop (end + length d) o = drop-drop (length d) end o in
    record {
      room_for = le-leb (length (spelled b d)) (length o) (omega arith);
      length_is = sym n;
      after = rw (n, k, w, s, a, c, f, append_assoc);
    }
