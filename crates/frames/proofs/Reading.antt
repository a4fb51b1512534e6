-- The frame of a line, by its first byte.
use Rattle.std.proofs.Common.{◌≡◌, ℕ, ◌+◌, ◌<◌, ◌≤◌, true, leb, ◌&&◌, ◌⊎◌, List, [], ◌∷◌, length, get_or, drop, set, Some, None, Err, slice_get, refl, ap, ◌∙◌, inl, inr, arith}
use Rattle.std.specs.List.{enumerate_from}
use Rattle.std.proofs.lemmas.List.{get_or_default, same_lists}
use Rattle.std.proofs.lemmas.List.Edits.{fill_by_more}
use Rattle.std.proofs.lemmas.List.FromFn.{get_or-enumerate_from}
use Rattle.std.proofs.lemmas.Bool.{and_from, le-leb, cond-true}
use Rattle.std.proofs.lemmas.Bool.Decides.{nat_tests}
use Rattle.terms.specs.declared.answer.Refusal.TheVariants.{NotHexadecimal, NotFrame}
use Rattle.hexadecimal.specs.Hex.{whole, decoded}
use Rattle.frames.specs.declared.frame.Code.{Code}
use Rattle.frames.specs.declared.frame.Code.TheVariants.{Setup, Subframe, Deposit, Withdrawal, Packet}
use Rattle.frames.specs.Frames.{answer_of, granted_in, subframe_frame, framed, reads}
use Rattle.frames.specs.Codes.{code_number, framed_as}

-- the frame of a code
pub coded : (c : Code) (b d : List ℕ) → get_or b 0 0 ≡ code_number c → framed b d ≡ framed_as c b d
coded Setup b d h = rw h refl
coded Subframe b d h = rw h refl
coded Deposit b d h = rw h refl
coded Withdrawal b d h = rw h refl
coded Packet b d h = rw h refl

pub uncoded : (b d : List ℕ) → (get_or b 0 0 ≡ 0) ⊎ (5 < get_or b 0 0) → framed b d ≡ Err NotFrame
uncoded b d (inl h) = rw h refl
uncoded b d (inr h) = grind (arith, nat_tests)

-- a line without a byte
pub unread : (l : List ℕ) → whole l ≡ true → slice_get (decoded l) 0 ≡ None → reads l ≡ Err NotHexadecimal
unfolding decoded
unread [] w h = refl
unread (c ∷ []) w h = cc
unread (c ∷ d ∷ cs) w h = cc

-- a line with a first byte n
pub record FirstByte (l : List ℕ) (n : ℕ) : Type 0 where
  pub long : 2 ≤ length l
  pub is : get_or (decoded l) 0 0 ≡ n
  pub reads_as : reads l ≡ framed (decoded l) (drop 2 l)

pub first_byte : (l : List ℕ) (n : ℕ) → whole l ≡ true → slice_get (decoded l) 0 ≡ Some n → FirstByte l n
unfolding decoded
first_byte [] n w h = cc
first_byte (c ∷ []) n w h = cc
first_byte (c ∷ d ∷ cs) n w h =
    let l = c ∷ d ∷ cs in
    record {
      long = omega arith;
      is = cc;
      reads_as = cond-true (leb 1 (length l) && whole l) (framed (decoded l) (drop 2 l)) (Err NotHexadecimal) (and_from (leb 1 (length l)) (whole l) (le-leb 1 (length l) (omega arith)) w);
    }

-- a subframe without an answer byte
pub unanswered : (b : List ℕ) → slice_get b 1 ≡ None → subframe_frame (answer_of (get_or b 1 0)) (granted_in b) ≡ Err NotFrame
unanswered [] h = refl
unanswered (x ∷ []) h = refl
unanswered (x ∷ y ∷ ys) h = cc

-- the item of a turn over the bytes with their places, and the array that it is put into
pub filled_more : (a d : List ℕ) (n k x : ℕ) → ((j : ℕ) → j < n → get_or a j 0 ≡ get_or d j 0) → length a ≡ length d → n < length d → (k, x) ≡ get_or (enumerate_from 0 d) n (k, x) → (j : ℕ) → j < n + 1 → get_or (set a k x) j 0 ≡ get_or d j 0
filled_more a d n k x h l b e j i =
    let f = e ∙ get_or-enumerate_from 0 d n (k, x) b in
    let p : k ≡ n = omega (arith, ap (λ y. y.0) f) in
    let q : x ≡ get_or d n 0 = ap (λ y. y.1) f ∙ get_or_default d n x 0 b in
    rw (p, q) (fill_by_more (λ m. get_or d m 0) a n 0 (omega arith) h j i)

pub filled_all : (a d : List ℕ) (n : ℕ) → ((j : ℕ) → j < n → get_or a j 0 ≡ get_or d j 0) → length a ≡ length d → length d ≤ n → a ≡ d
filled_all a d n h l m = same_lists a d l (λ k e i. get_or_default a k e 0 i ∙ h k (omega arith) ∙ get_or_default d k 0 e (omega arith))
