-- Slots in the bytes of a tape: what a write to one leaves.
use Rattle.std.proofs.Common.{◌≡◌, ℕ, ◌+◌, ◌-◌, ◌*◌, ◌/◌, ◌<◌, ◌≤◌, zero, suc, Bool, true, false, cond, leb, ltb, List, ◌++◌, length, get_or, take, drop, None, refl, ap, ◌∙◌, arith, length-append, length-drop, take-append-drop, length-take, rules}
use borrow.Rule.Slice.PartMut.{put_mid}
use Rattle.std.specs.Simd.{first_chunks}
use Rattle.std.proofs.lemmas.List.{take_at, drop_at, drop-drop, drop-append-le, take-append-le, drop-take, take-take}
use Rattle.terms.specs.Sendings.{Sending, is_packet}
use Rattle.slot.specs.Slots.{slot_of, decoded, takes_slot, after_encoding}
use Rattle.slot.proofs.Coding.{length_slot, decoded_slot}
use Rattle.below.specs.Tape.{slot_at, with_slot, written_at, TapeKeeps}

-- chunk k of some bytes
chunk_at : (n m k : ℕ) (b d : List ℕ) → k < m → get_or (first_chunks n m b) k d ≡ take n (drop (n * k) b)
chunk_at n zero k b d h = absurd (omega arith)
chunk_at n (suc m) zero b d h = let e : 0 ≡ n * 0 = omega arith in ap (λ i. take n (drop i b)) e
chunk_at n (suc m) (suc k) b d h = chunk_at n m k (drop n b) d (omega arith) ∙ ap (take n) (drop-drop (n * k) n b ∙ ap (λ i. drop i b) (omega arith))

-- the whole chunk k is slot k
pub chunk_slot : (b : List ℕ) (k : ℕ) (s d : List ℕ) → k < length b / 661 → s ≡ get_or (first_chunks 661 (length b / 661) b) k d → s ≡ slot_at b k
unfolding slot_at
chunk_slot b k s d h e = e ∙ chunk_at 661 (length b / 661) k b d h

-- a write to the part of slot k replaces the slot
pub put_slot : (b s : List ℕ) (k n : ℕ) → n ≡ 661 → put_mid (661 * k) n b s ≡ with_slot b k s
unfolding with_slot
put_slot b s k n e = ap (λ t. take (661 * k) b ++ (s ++ t)) (drop-drop n (661 * k) b ∙ ap (λ m. drop (661 * k + m) b) e)

-- a slot written over itself leaves all as it is
pub put_same : (b s : List ℕ) (a n : ℕ) → s ≡ take n (drop a b) → put_mid a n b s ≡ b
put_same b s a n e = ap (λ t. take a b ++ t) (ap (λ t. t ++ drop n (drop a b)) e ∙ take-append-drop n (drop a b)) ∙ take-append-drop a b

-- slot k of the bytes with slot k replaced
pub slot_with : (b s : List ℕ) (k : ℕ) → k < length b / 661 → length s ≡ 661 → slot_at (with_slot b k s) k ≡ s
unfolding slot_at with_slot
slot_with b s k h l =
    let n : length (take (661 * k) b) ≡ 661 * k = rw length-take (omega arith) in
    let d : drop (661 * k) (take (661 * k) b ++ (s ++ drop (661 * k + 661) b)) ≡ s ++ drop (661 * k + 661) b = drop_at (take (661 * k) b) (s ++ drop (661 * k + 661) b) (661 * k) n in
    rw d (take_at s (drop (661 * k + 661) b) 661 l)

-- nothing stands in a slot past the last whole one
pub past_slots : (b : List ℕ) (k : ℕ) → length b / 661 ≤ k → decoded (slot_at b k) ≡ None
unfolding decoded slot_at
past_slots b k h =
    let n : length (take 661 (drop (661 * k) b)) < 661 = simp (length-take, length-drop) (omega arith) in
    let f : leb 661 (length (take 661 (drop (661 * k) b))) ≡ false = search rules in
    rw f

-- a sending that was to be written to the part of slot k
pub put_encoded : (b s : List ℕ) (k n : ℕ) (x : Sending) → n ≡ 661 → k < length b / 661 → s ≡ after_encoding (take n (drop (661 * k) b)) x → put_mid (661 * k) n b s ≡ written_at b k x
put_encoded b s k n x en h es = go (is_packet (length x.packet)) (es ∙ ap (λ t. cond t (slot_of x) (take n (drop (661 * k) b))) takes)
  where
    whole : length (take n (drop (661 * k) b)) ≡ 661
    whole = simp (length-take, length-drop) (omega arith)

    takes : takes_slot (take n (drop (661 * k) b)) x ≡ is_packet (length x.packet)
    takes = rw whole refl

    go : (t : Bool) → s ≡ cond t (slot_of x) (take n (drop (661 * k) b)) → put_mid (661 * k) n b s ≡ cond t (with_slot b k (slot_of x)) b
    go true e = put_slot b s k n en ∙ ap (with_slot b k) e
    go false e = put_same b s (661 * k) n e

-- a slot before slot n of the bytes with slot n replaced
slot_before : (b s : List ℕ) (n k : ℕ) → n < length b / 661 → k < n → slot_at (with_slot b n s) k ≡ slot_at b k
unfolding slot_at with_slot
slot_before b s n k h l =
    let front : length (take (661 * n) b) ≡ 661 * n = rw length-take (omega arith) in
    let behind : List ℕ = s ++ drop (661 * n + 661) b in
    let room : 661 ≤ length (drop (661 * k) (take (661 * n) b)) = rw (length-drop, front) (omega arith) in
    let apart : 661 * n ≡ 661 * k + (661 * n - 661 * k) = omega arith in
    ap (take 661) (drop-append-le (661 * k) (take (661 * n) b) behind (omega arith)) ∙ take-append-le 661 (drop (661 * k) (take (661 * n) b)) behind room
    ∙ ap (λ m. take 661 (drop (661 * k) (take m b))) apart
    ∙ ap (take 661) (drop-take (661 * k) (661 * n - 661 * k) b)
    ∙ take-take 661 (661 * n - 661 * k) (drop (661 * k) b) (omega arith)

length_with : (b s : List ℕ) (n : ℕ) → n < length b / 661 → length s ≡ 661 → length (with_slot b n s) ≡ length b
unfolding with_slot
length_with b s n h l = simp (length-append, length-take, length-drop) (omega arith)

pub keeps : TapeKeeps
keeps b n x f a =
    let room : n < length b / 661 = search rules in
    let s : length (slot_of x) ≡ 661 = length_slot x f.packet in
    let here : ltb n (n + 1) ≡ true = search rules in (
      rw (a, here) (ap decoded (slot_with b (slot_of x) n room s) ∙ decoded_slot x f),
      λ k l. let there : ltb k (n + 1) ≡ true = search rules in
          let before : ltb k n ≡ true = search rules in
          rw (a, there, before) (ap decoded (slot_before b (slot_of x) n k room l)),
      rw a (length_with b (slot_of x) n room s),
    )
