-- The round trips of reading and writing.
use Rattle.std.proofs.Common.{◌≡◌, ℕ, zero, suc, ◌+◌, ◌*◌, ◌/◌, ◌%◌, ◌<◌, ◌≤◌, Bool, true, false, cond, ◌&&◌, eqb, leb, ◌⊎◌, List, [], ◌∷◌, ◌++◌, length, get_or, take, drop, IfOk, IfErr, Some, None, Ok, Err, Option, Result, sym, refl, ap, ◌∙◌, subst, inl, inr, arith}
use Rattle.std.proofs.lemmas.List.{append-nil, drop_more, drop_all, take_at, nil_from_length}
use Rattle.std.proofs.lemmas.Bool.{and_parts, and_from, eqb-true, leb-true, leb-false, eq-eqb, le-leb, cond-true, cond_both, cases_Bool}
use Rattle.terms.specs.declared.answer.Refusal.{Refusal}
use Rattle.terms.specs.declared.answer.Refusal.TheVariants.{NotHexadecimal, NotFrame}
use Rattle.terms.specs.declared.grant.Grant.{Grant}
use Rattle.terms.specs.declared.process.Feedback.{Feedback}
use Rattle.terms.specs.declared.process.Feedback.TheVariants.{Ack, Nack}
use Rattle.hexadecimal.specs.Hex.{is_digit, digit_of, all_digits, whole, decoded, encoded, Bytes, has_room}
use Rattle.hexadecimal.proofs.Coding.{length_decoded, length_encoded}
use Rattle.hexadecimal.proofs.Rounds.{encoded_decodes, decoded_encodes, encoded_whole, decoded_bytes}
use Rattle.frames.specs.declared.frame.SetupFrame.{SetupFrame}
use Rattle.frames.specs.declared.frame.Frame.{Frame}
use Rattle.frames.specs.Frames.{Plain, plain, plainly, setup, subframe, deposit, withdrawal, packet, two_at, two_bytes, eight_at, eight_bytes, setup_of, grant_of, answer_of, granted_in, setup_in, setup_frame, subframe_frame, framed, reads}
use Rattle.frames.specs.Written.{spelled, setup_bytes, answer_byte, grant_bytes, subframe_bytes, is_packet, line_of, written, after_writing}
use Rattle.frames.specs.Trips.{SetupFits, GrantFits, FrameFits, WrittenReads, ReadWrites, RefusedUnread, OneSpelling, NoLineFits}

-- bytes to a number, and to bytes again
two_trip : (a b : ℕ) → a < 256 → b < 256 → two_bytes (a * 256 + b) ≡ a ∷ b ∷ []
two_trip a b ha hb =
    let p : (a * 256 + b) / 256 % 256 ≡ a = omega arith in
    let q : (a * 256 + b) % 256 ≡ b = omega arith in
    cc

eight_trip : (a b c d e f g h : ℕ) → a < 256 → b < 256 → c < 256 → d < 256 → e < 256 → f < 256 → g < 256 → h < 256
    → eight_bytes (a * 72057594037927936 + b * 281474976710656 + c * 1099511627776 + d * 4294967296 + e * 16777216 + f * 65536 + g * 256 + h) ≡ a ∷ b ∷ c ∷ d ∷ e ∷ f ∷ g ∷ h ∷ []
eight_trip a b c d e f g h ha hb hc hd he hf hg hh =
    let n : ℕ = a * 72057594037927936 + b * 281474976710656 + c * 1099511627776 + d * 4294967296 + e * 16777216 + f * 65536 + g * 256 + h in
    let pa : n / 72057594037927936 % 256 ≡ a = omega arith in
    let pb : n / 281474976710656 % 256 ≡ b = omega arith in
    let pc : n / 1099511627776 % 256 ≡ c = omega arith in
    let pd : n / 4294967296 % 256 ≡ d = omega arith in
    let pe : n / 16777216 % 256 ≡ e = omega arith in
    let pf : n / 65536 % 256 ≡ f = omega arith in
    let pg : n / 256 % 256 ≡ g = omega arith in
    let ph : n % 256 ≡ h = omega arith in
    cc

-- a number to bytes, and to a number again
two_back : (n : ℕ) → n < 65536 → n / 256 % 256 * 256 + n % 256 ≡ n
two_back n h = omega arith

eight_back : (n : ℕ) → n < 18446744073709551616
    → n / 72057594037927936 % 256 * 72057594037927936 + n / 281474976710656 % 256 * 281474976710656 + n / 1099511627776 % 256 * 1099511627776 + n / 4294967296 % 256 * 4294967296 + n / 16777216 % 256 * 16777216 + n / 65536 % 256 * 65536 + n / 256 % 256 * 256 + n % 256 ≡ n
eight_back n h = omega arith

-- n items of a list from the one at k
listed : ℕ → ℕ → List ℕ → List ℕ
listed zero k b = []
listed (suc n) k b = get_or b k 0 ∷ listed n (k + 1) b

listed_is : (n k : ℕ) (b : List ℕ) → length b ≡ n + k → listed n k b ≡ drop k b
unfolding listed
listed_is zero k b h = sym (drop_all k b (omega arith))
listed_is (suc n) k b h = ap (λ t. get_or b k 0 ∷ t) (listed_is n (k + 1) b (omega arith)) ∙ sym (drop_more b k 0 (omega arith))

byte_below : (b : List ℕ) (k : ℕ) → Bytes b → get_or b k 0 < 256
byte_below [] k h = omega arith
byte_below (x ∷ xs) zero h = h.0
byte_below (x ∷ xs) (suc k) h = byte_below xs k h.1

-- the bytes of the fields that were read from bytes
setup_trip : (b : List ℕ) → length b ≡ 16 → Bytes b → get_or b 0 0 ≡ 1 → setup_bytes (setup_of b) ≡ b
unfolding setup_bytes listed
setup_trip b n h e =
    let i = two_trip (get_or b 4 0) (get_or b 5 0) (byte_below b 4 h) (byte_below b 5 h) in
    let s = eight_trip (get_or b 6 0) (get_or b 7 0) (get_or b 8 0) (get_or b 9 0) (get_or b 10 0) (get_or b 11 0) (get_or b 12 0) (get_or b 13 0) (byte_below b 6 h) (byte_below b 7 h) (byte_below b 8 h) (byte_below b 9 h) (byte_below b 10 h) (byte_below b 11 h) (byte_below b 12 h) (byte_below b 13 h) in
    ap (λ t. 1 ∷ get_or b 1 0 ∷ get_or b 2 0 ∷ get_or b 3 0 ∷ (t ++ (eight_bytes (eight_at b 6) ++ get_or b 14 0 ∷ get_or b 15 0 ∷ []))) i
    ∙ ap (λ t. 1 ∷ get_or b 1 0 ∷ get_or b 2 0 ∷ get_or b 3 0 ∷ get_or b 4 0 ∷ get_or b 5 0 ∷ (t ++ get_or b 14 0 ∷ get_or b 15 0 ∷ [])) s
    ∙ ap (λ x. x ∷ listed 15 1 b) (sym e)
    ∙ listed_is 16 0 b n

grant_trip : (b : List ℕ) → length b ≡ 12 → Bytes b → get_or b 0 0 ≡ 2 → 2 ∷ get_or b 1 0 ∷ grant_bytes (grant_of b) ≡ b
unfolding grant_bytes listed
grant_trip b n h e =
    let r = two_trip (get_or b 8 0) (get_or b 9 0) (byte_below b 8 h) (byte_below b 9 h) in
    let s = two_trip (get_or b 10 0) (get_or b 11 0) (byte_below b 10 h) (byte_below b 11 h) in
    ap (λ t. 2 ∷ get_or b 1 0 ∷ get_or b 2 0 ∷ get_or b 3 0 ∷ get_or b 4 0 ∷ get_or b 5 0 ∷ get_or b 6 0 ∷ get_or b 7 0 ∷ (t ++ two_bytes (two_at b 10))) r
    ∙ ap (λ t. 2 ∷ get_or b 1 0 ∷ get_or b 2 0 ∷ get_or b 3 0 ∷ get_or b 4 0 ∷ get_or b 5 0 ∷ get_or b 6 0 ∷ get_or b 7 0 ∷ get_or b 8 0 ∷ get_or b 9 0 ∷ t) s
    ∙ ap (λ x. x ∷ listed 11 1 b) (sym e)
    ∙ listed_is 12 0 b n

bare_trip : (b : List ℕ) → length b ≡ 2 → get_or b 0 0 ≡ 2 → 2 ∷ get_or b 1 0 ∷ [] ≡ b
unfolding listed
bare_trip b n e = ap (λ x. x ∷ get_or b 1 0 ∷ []) (sym e) ∙ listed_is 2 0 b n

-- tests that led to an Ok
no_ok : {X Y : Type 0} (e : Refusal) (p : X) → ◌≡◌ {A = Result X Refusal} (Err e) (Ok p) → Y
no_ok e p h = cc

passed : {X : Type 0} (g : Bool) (x : Result X Refusal) (e : Refusal) (p : X) → cond g x (Err e) ≡ Ok p → (g ≡ true) × (x ≡ Ok p)
passed true x e p h = (refl, h)
passed false x e p h = no_ok e p h

either : {X : Type 0} (g : Bool) (x y : Result X Refusal) (p : X) → cond g x y ≡ Ok p → ((g ≡ true) × (x ≡ Ok p)) ⊎ (y ≡ Ok p)
either true x y p h = inl (refl, h)
either false x y p h = inr h

ok_is : {X : Type 0} (x y : X) → ◌≡◌ {A = Result X Refusal} (Ok x) (Ok y) → x ≡ y
ok_is x y h = cc

-- the frame p is written as the bytes b
abbrev AsBytes : List ℕ → Plain → Type 0
AsBytes b p = line_of p ≡ Ok (spelled b [])

setup_writes : (b : List ℕ) (p : Plain) → Bytes b → get_or b 0 0 ≡ 1 → (g : Bool) → eqb (length b) 16 ≡ g → setup_frame (cond g (Ok (setup_of b)) (Err NotFrame)) ≡ Ok p → AsBytes b p
setup_writes b p hb e true n h = subst (AsBytes b) (ok_is (setup (setup_of b)) p h) (ap (λ x. Ok (spelled x [])) (setup_trip b (eqb-true (length b) 16 n) hb e))
setup_writes b p hb e false n h = no_ok NotFrame p h

answer_trip : (n : ℕ) (a : Option Feedback) → answer_of n ≡ Ok a → answer_byte a ≡ n
answer_trip n a h =
    elim (either (eqb n 0) (Ok None) (cond (eqb n 1) (Ok (Some Ack)) (cond (eqb n 2) (Ok (Some Nack)) (Err NotFrame))) a h) [
      | inl x ↦ ap answer_byte (sym (ok_is None a x.1)) ∙ sym (eqb-true n 0 x.0)
      | inr h1 ↦ elim (either (eqb n 1) (Ok (Some Ack)) (cond (eqb n 2) (Ok (Some Nack)) (Err NotFrame)) a h1) [
        | inl x ↦ ap answer_byte (sym (ok_is (Some Ack) a x.1)) ∙ sym (eqb-true n 1 x.0)
        | inr h2 ↦ (let x = passed (eqb n 2) (Ok (Some Nack)) NotFrame a h2 in ap answer_byte (sym (ok_is (Some Nack) a x.1)) ∙ sym (eqb-true n 2 x.0))
      ]
    ]

-- a subframe with this answer, by how many bytes there are
granted_writes : (b : List ℕ) (a : Option Feedback) (g : Option Grant) → Bytes b → get_or b 0 0 ≡ 2 → answer_byte a ≡ get_or b 1 0 → granted_in b ≡ Ok g → subframe_bytes a g ≡ b
granted_writes b a g hb e k h =
    elim (either (eqb (length b) 2) (Ok None) (cond (eqb (length b) 12) (Ok (Some (grant_of b))) (Err NotFrame)) g h) [
      | inl x ↦ ap (subframe_bytes a) (sym (ok_is None g x.1)) ∙ ap (λ y. 2 ∷ y ∷ []) k ∙ bare_trip b (eqb-true (length b) 2 x.0) e
      | inr h1 ↦ (let x = passed (eqb (length b) 12) (Ok (Some (grant_of b))) NotFrame g h1 in
          ap (subframe_bytes a) (sym (ok_is (Some (grant_of b)) g x.1)) ∙ ap (λ y. 2 ∷ y ∷ grant_bytes (grant_of b)) k ∙ grant_trip b (eqb-true (length b) 12 x.0) hb e)
    ]

subframe_writes : (b : List ℕ) (p : Plain) → Bytes b → get_or b 0 0 ≡ 2 → (a : Result (Option Feedback) Refusal) (g : Result (Option Grant) Refusal) → answer_of (get_or b 1 0) ≡ a → granted_in b ≡ g
    → subframe_frame a g ≡ Ok p → AsBytes b p
subframe_writes b p hb e (Ok a) (Ok g) ea eg h = subst (AsBytes b) (ok_is (subframe a g) p h) (ap (λ x. Ok (spelled x [])) (granted_writes b a g hb e (answer_trip (get_or b 1 0) a ea) eg))
subframe_writes b p hb e (Ok a) (Err x) ea eg h = no_ok x p h
subframe_writes b p hb e (Err x) g ea eg h = no_ok x p h

-- a line that begins with the digits c and d is whole bytes, and its first byte is x
code_digits : (c d : ℕ) → is_digit c ≡ true → is_digit d ≡ true → encoded ((digit_of c * 16 + digit_of d) ∷ []) ≡ c ∷ d ∷ []
unfolding decoded all_digits
code_digits c d hc hd = decoded_encodes (c ∷ d ∷ []) (and_from (is_digit c) (is_digit d && true) hc (and_from (is_digit d) true hd refl))

-- what frame a whole line l of code x and digits cs is, written again
abbrev WrittenAs : List ℕ → Plain → Type 0
WrittenAs l p = line_of p ≡ Ok l

bytes_written : (l : List ℕ) (p : Plain) → encoded (decoded l) ≡ l → AsBytes (decoded l) p → WrittenAs l p
bytes_written l p e k = k ∙ ap (λ t. Ok t) (append-nil (encoded (decoded l)) ∙ e)

deposit_writes : (x : ℕ) (l cs : List ℕ) (p : Plain) → x ≡ 3 → encoded (x ∷ []) ++ cs ≡ l → whole cs ≡ true → deposit cs ≡ p → WrittenAs l p
deposit_writes x l cs p e k w h =
    subst (WrittenAs l) h (cond-true (whole cs) (Ok (spelled (3 ∷ []) cs)) (Err NotFrame) w ∙ ap (λ y. Ok (spelled (y ∷ []) cs)) (sym e) ∙ ap (λ t. Ok t) k)

withdrawal_writes : (x : ℕ) (l cs : List ℕ) (p : Plain) → x ≡ 4 → encoded (x ∷ []) ++ cs ≡ l → cs ≡ [] → withdrawal ≡ p → WrittenAs l p
withdrawal_writes x l cs p e k n h = subst (WrittenAs l) h (ap (λ y. Ok (spelled (y ∷ []) [])) (sym e) ∙ ap (λ t. Ok (encoded (x ∷ []) ++ t)) (sym n) ∙ ap (λ t. Ok t) k)

packet_writes : (x : ℕ) (l cs : List ℕ) (p : Plain) → x ≡ 5 → encoded (x ∷ []) ++ cs ≡ l → is_packet cs ≡ true → packet cs ≡ p → WrittenAs l p
packet_writes x l cs p e k w h =
    subst (WrittenAs l) h (cond-true (is_packet cs) (Ok (spelled (5 ∷ []) cs)) (Err NotFrame) w ∙ ap (λ y. Ok (spelled (y ∷ []) cs)) (sym e) ∙ ap (λ t. Ok t) k)

line_writes : (c d : ℕ) (cs : List ℕ) (p : Plain) → reads (c ∷ d ∷ cs) ≡ Ok p → WrittenAs (c ∷ d ∷ cs) p
unfolding decoded all_digits
line_writes c d cs p h =
    let l : List ℕ = c ∷ d ∷ cs in
    let x : ℕ = digit_of c * 16 + digit_of d in
    let w = passed (leb 1 (length l) && whole l) (framed (decoded l) cs) NotHexadecimal p h in
    let v = and_parts (leb 1 (length l)) (whole l) w.0 in
    let u = and_parts (eqb (length l % 2) 0) (all_digits l) v.1 in
    let even : length l % 2 ≡ 0 = eqb-true (length l % 2) 0 u.0 in
    let dc = and_parts (is_digit c) (is_digit d && all_digits cs) u.1 in
    let dd = and_parts (is_digit d) (all_digits cs) dc.1 in
    let e : encoded (decoded l) ≡ l = decoded_encodes l v.1 in
    let hb : Bytes (decoded l) = decoded_bytes l in
    let k : encoded (x ∷ []) ++ cs ≡ l = ap (λ t. t ++ cs) (code_digits c d dc.0 dd.0) in
    let wh : whole cs ≡ true = and_from (eqb (length cs % 2) 0) (all_digits cs) (eq-eqb (length cs % 2) 0 (omega arith)) dd.1 in
    let n : length (decoded cs) ≡ length cs / 2 = length_decoded cs in
    elim (either (eqb x 1) (setup_frame (setup_in (decoded l))) _ p w.1) [
      | inl a ↦ bytes_written l p e (setup_writes (decoded l) p hb (eqb-true x 1 a.0) (eqb (length (decoded l)) 16) refl a.1)
      | inr h2 ↦ elim (either (eqb x 2) (subframe_frame (answer_of (get_or (decoded l) 1 0)) (granted_in (decoded l))) _ p h2) [
        | inl a ↦ bytes_written l p e (subframe_writes (decoded l) p hb (eqb-true x 2 a.0) (answer_of (get_or (decoded l) 1 0)) (granted_in (decoded l)) refl refl a.1)
        | inr h3 ↦ elim (either (eqb x 3) (Ok (deposit cs)) _ p h3) [
          | inl a ↦ deposit_writes x l cs p (eqb-true x 3 a.0) k wh (ok_is (deposit cs) p a.1)
          | inr h4 ↦ elim (either (eqb x 4) (cond (eqb (length (decoded l)) 1) (Ok withdrawal) (Err NotFrame)) _ p h4) [
            | inl a ↦ (let b = passed (eqb (length (decoded l)) 1) (Ok withdrawal) NotFrame p a.1 in
                let one : length (decoded l) ≡ 1 = eqb-true (length (decoded l)) 1 b.0 in
                withdrawal_writes x l cs p (eqb-true x 4 a.0) k (nil_from_length cs (omega arith)) (ok_is withdrawal p b.1))
            | inr h5 ↦ (let a = passed (eqb x 5) (cond (leb 2 (length (decoded l)) && leb (length (decoded l)) 646) (Ok (packet cs)) (Err NotFrame)) NotFrame p h5 in
                let b = passed (leb 2 (length (decoded l)) && leb (length (decoded l)) 646) (Ok (packet cs)) NotFrame p a.1 in
                let m = and_parts (leb 2 (length (decoded l))) (leb (length (decoded l)) 646) b.0 in
                let low : 2 ≤ length (decoded l) = leb-true 2 (length (decoded l)) m.0 in
                let high : length (decoded l) ≤ 646 = leb-true (length (decoded l)) 646 m.1 in
                let s : is_packet cs ≡ true = and_from (whole cs) (leb 1 (length (decoded cs)) && leb (length (decoded cs)) 645) wh (and_from (leb 1 (length (decoded cs))) (leb (length (decoded cs)) 645) (le-leb 1 (length (decoded cs)) (omega arith)) (le-leb (length (decoded cs)) 645 (omega arith))) in
                packet_writes x l cs p (eqb-true x 5 a.0) k s (ok_is (packet cs) p b.1))
          ]
        ]
      ]
    ]

pub read_writes : ReadWrites
read_writes [] p h = no_ok NotHexadecimal p h
read_writes (c ∷ []) p h = no_ok NotHexadecimal p h
read_writes (c ∷ d ∷ cs) p h = line_writes c d cs p h

-- the line of bytes alone
reads_bytes : (b : List ℕ) → Bytes b → 1 ≤ length b → reads (spelled b []) ≡ framed b (drop 2 (encoded b))
reads_bytes b h n =
    let m : length (encoded b) ≡ 2 * length b = length_encoded b in
    let g : leb 1 (length (encoded b)) && whole (encoded b) ≡ true = and_from (leb 1 (length (encoded b))) (whole (encoded b)) (le-leb 1 (length (encoded b)) (omega arith)) (encoded_whole b h) in
    ap reads (append-nil (encoded b))
    ∙ cond-true (leb 1 (length (encoded b)) && whole (encoded b)) (framed (decoded (encoded b)) (drop 2 (encoded b))) (Err NotHexadecimal) g
    ∙ ap (λ x. framed x (drop 2 (encoded b))) (encoded_decodes b h)

setup_are_bytes : (s : SetupFrame) → SetupFits s → Bytes (setup_bytes s)
unfolding setup_bytes
setup_are_bytes s h =
    (omega arith, (h.kind, (h.max_harq_tx, (h.max_harq_msg3_tx, (omega arith, (omega arith, (omega arith, (omega arith, (omega arith, (omega arith, (omega arith, (omega arith, (omega arith, (omega arith, (h.period, (h.offset, tt))))))))))))))))

make_setup : ℕ → ℕ → ℕ → ℕ → ℕ → ℕ → ℕ → SetupFrame
make_setup a b c d e f g = record { kind = a; max_harq_tx = b; max_harq_msg3_tx = c; interval = d; start = e; period = f; offset = g }

setup_reads : (s : SetupFrame) (d : List ℕ) → SetupFits s → framed (setup_bytes s) d ≡ Ok (setup s)
unfolding setup_bytes make_setup
setup_reads s d h =
    ap (λ i. Ok (setup (make_setup s.kind s.max_harq_tx s.max_harq_msg3_tx i (eight_at (setup_bytes s) 6) s.period s.offset))) (two_back s.interval h.interval)
    ∙ ap (λ t. Ok (setup (make_setup s.kind s.max_harq_tx s.max_harq_msg3_tx s.interval t s.period s.offset))) (eight_back s.start h.start)

answer_is_byte : (a : Option Feedback) → answer_byte a < 256
answer_is_byte None = omega arith
answer_is_byte (Some Ack) = omega arith
answer_is_byte (Some Nack) = omega arith

granted_are_bytes : (a : Option Feedback) (g : Grant) → GrantFits g → Bytes (subframe_bytes a (Some g))
unfolding grant_bytes
granted_are_bytes a g h =
    (omega arith, (answer_is_byte a, (h.kind, (h.ndi, (h.mcs, (h.version, (h.process, (h.repetitions, (omega arith, (omega arith, (omega arith, (omega arith, tt))))))))))))

bare_reads : (a : Option Feedback) (d : List ℕ) → framed (subframe_bytes a None) d ≡ Ok (subframe a None)
bare_reads None d = refl
bare_reads (Some Ack) d = refl
bare_reads (Some Nack) d = refl

make_grant : ℕ → ℕ → ℕ → ℕ → ℕ → ℕ → ℕ → ℕ → Grant
make_grant a b c d e f g h = record { kind = a; ndi = b; mcs = c; version = d; process = e; repetitions = f; resource = g; size = h }

grant_back : (x y : ℕ) (g : Grant) → GrantFits g → grant_of (x ∷ y ∷ grant_bytes g) ≡ g
unfolding grant_bytes make_grant
grant_back x y g h =
    ap (λ r. make_grant g.kind g.ndi g.mcs g.version g.process g.repetitions r (two_at (two_bytes g.size) 0)) (two_back g.resource h.resource)
    ∙ ap (λ s. make_grant g.kind g.ndi g.mcs g.version g.process g.repetitions g.resource s) (two_back g.size h.size)

granted_reads : (a : Option Feedback) (g : Grant) (d : List ℕ) → GrantFits g → framed (subframe_bytes a (Some g)) d ≡ Ok (subframe a (Some g))
unfolding grant_bytes
granted_reads None g d h = ap (λ x. Ok (subframe None (Some x))) (grant_back 2 0 g h)
granted_reads (Some Ack) g d h = ap (λ x. Ok (subframe (Some Ack) (Some x))) (grant_back 2 1 g h)
granted_reads (Some Nack) g d h = ap (λ x. Ok (subframe (Some Nack) (Some x))) (grant_back 2 2 g h)

-- two digits before whole bytes
reads_code : (c e : ℕ) (d : List ℕ) → is_digit c ≡ true → is_digit e ≡ true → whole d ≡ true → reads (c ∷ e ∷ d) ≡ framed ((digit_of c * 16 + digit_of e) ∷ decoded d) d
unfolding decoded all_digits
reads_code c e d hc he h =
    let w = and_parts (eqb (length d % 2) 0) (all_digits d) h in
    let even : length d % 2 ≡ 0 = eqb-true (length d % 2) 0 w.0 in
    cond-true (leb 1 (length (c ∷ e ∷ d)) && whole (c ∷ e ∷ d)) (framed (decoded (c ∷ e ∷ d)) d) (Err NotHexadecimal)
    (and_from (leb 1 (length (c ∷ e ∷ d))) (whole (c ∷ e ∷ d)) (le-leb 1 (length (c ∷ e ∷ d)) (omega arith))
    (and_from (eqb (length (c ∷ e ∷ d) % 2) 0) (all_digits (c ∷ e ∷ d)) (eq-eqb (length (c ∷ e ∷ d) % 2) 0 (omega arith))
    (and_from (is_digit c) (is_digit e && all_digits d) hc (and_from (is_digit e) (all_digits d) he w.1))))

packet_reads : (d : List ℕ) → is_packet d ≡ true → reads (spelled (5 ∷ []) d) ≡ Ok (packet d)
unfolding encoded
packet_reads d h =
    let w = and_parts (whole d) (leb 1 (length (decoded d)) && leb (length (decoded d)) 645) h in
    let m = and_parts (leb 1 (length (decoded d))) (leb (length (decoded d)) 645) w.1 in
    let low : 1 ≤ length (decoded d) = leb-true 1 (length (decoded d)) m.0 in
    let high : length (decoded d) ≤ 645 = leb-true (length (decoded d)) 645 m.1 in
    reads_code 48 53 d refl refl w.0
    ∙ cond-true (leb 2 (length (5 ∷ decoded d)) && leb (length (5 ∷ decoded d)) 646) (Ok (packet d)) (Err NotFrame)
    (and_from (leb 2 (length (5 ∷ decoded d))) (leb (length (5 ∷ decoded d)) 646) (le-leb 2 (length (5 ∷ decoded d)) (omega arith)) (le-leb (length (5 ∷ decoded d)) 646 (omega arith)))

-- the line of a frame, if it has one, reads as the frame
pub line_reads : (p : Plain) → FrameFits p → IfOk (line_of p) (λ l. reads l ≡ Ok p)
unfolding encoded setup_bytes all_digits decoded
line_reads (setup s) h = reads_bytes (setup_bytes s) (setup_are_bytes s h) (omega arith) ∙ setup_reads s (drop 2 (encoded (setup_bytes s))) h
line_reads (subframe a None) h = reads_bytes (subframe_bytes a None) (omega arith, (answer_is_byte a, tt)) (omega arith) ∙ bare_reads a (drop 2 (encoded (subframe_bytes a None)))
line_reads (subframe a (Some g)) h = reads_bytes (subframe_bytes a (Some g)) (granted_are_bytes a g h) (omega arith) ∙ granted_reads a g (drop 2 (encoded (subframe_bytes a (Some g)))) h
line_reads (deposit d) h = cond_both (whole d) (Ok (spelled (3 ∷ []) d)) (Err NotFrame) (λ r. IfOk r (λ l. reads l ≡ Ok (deposit d))) (λ w. reads_code 48 51 d refl refl w) (λ w. tt)
line_reads withdrawal h = reads_code 48 52 [] refl refl refl
line_reads (packet d) h = cond_both (is_packet d) (Ok (spelled (5 ∷ []) d)) (Err NotFrame) (λ r. IfOk r (λ l. reads l ≡ Ok (packet d))) (λ w. packet_reads d w) (λ w. tt)

pub written_reads : WrittenReads
written_reads p l f h = subst (λ r. IfOk r (λ x. reads x ≡ Ok p)) h (line_reads p f)

-- a frame has a line, or is refused with 17
lined : (p : Plain) → ((l : List ℕ) × (line_of p ≡ Ok l)) ⊎ (line_of p ≡ Err NotFrame)
lined (setup s) = inl (spelled (setup_bytes s) [], refl)
lined (subframe a g) = inl (spelled (subframe_bytes a g) [], refl)
lined (deposit d) = cond_both (whole d) (Ok (spelled (3 ∷ []) d)) (Err NotFrame) (λ r. ((l : List ℕ) × (r ≡ Ok l)) ⊎ (r ≡ Err NotFrame)) (λ w. inl (spelled (3 ∷ []) d, refl)) (λ w. inr refl)
lined withdrawal = inl (spelled (4 ∷ []) [], refl)
lined (packet d) = cond_both (is_packet d) (Ok (spelled (5 ∷ []) d)) (Err NotFrame) (λ r. ((l : List ℕ) × (r ≡ Ok l)) ⊎ (r ≡ Err NotFrame)) (λ w. inl (spelled (5 ∷ []) d, refl)) (λ w. inr refl)

pub refused_unread : RefusedUnread
refused_unread p f =
    (λ e l h. no_ok NotFrame l (sym e ∙ read_writes l p h), λ u. elim (lined p) [ inl x ↦ absurd (u x.0 (written_reads p x.0 f x.1)) | inr e ↦ e ])

pub one_spelling : OneSpelling
one_spelling l m p h k = ok_is l m (sym (read_writes l p h) ∙ read_writes m p k)

-- no line that reads as a refused frame has room in the stretch
pub no_line_fits : (p : Plain) (o : List ℕ) (r : Result ℕ Refusal) → r ≡ written o (line_of p) → IfErr r (λ _. NoLineFits o p)
no_line_fits p o (Ok n) v = tt
no_line_fits p o (Err e) v = λ l h.
    elim (cases_Bool (has_room o l)) [
      | inl w ↦ no_ok e (length l) (v ∙ ap (written o) (read_writes l p h) ∙ cond-true (has_room o l) (Ok (length l)) (Err NotFrame) w)
      | inr w ↦ leb-false (length l) (length o) w
    ]

-- what stands at the front of a stretch after writing
front_by : (p : Plain) (o o' : List ℕ) (r : Result ℕ Refusal) (x : Result (List ℕ) Refusal) → IfOk x (λ l. reads l ≡ Ok p) → r ≡ written o x → o' ≡ after_writing o x → IfOk r (λ n. reads (take n o') ≡ Ok p)
front_by p o o' (Err e) x h v a = tt
front_by p o o' (Ok n) (Err e) h v a = no_ok e n (sym v)
front_by p o o' (Ok n) (Ok l) h v a =
    let w = passed (has_room o l) (Ok (length l)) NotFrame n (sym v) in
    let f : o' ≡ l ++ drop (length l) o = a ∙ cond-true (has_room o l) (l ++ drop (length l) o) o w.0 in
    ap (λ t. reads (take n t)) f ∙ ap reads (take_at l (drop (length l) o) n (ok_is (length l) n w.1)) ∙ h

pub front_reads : (p : Plain) (o o' : List ℕ) (r : Result ℕ Refusal) → FrameFits p → r ≡ written o (line_of p) → o' ≡ after_writing o (line_of p) → IfOk r (λ n. reads (take n o') ≡ Ok p)
front_reads p o o' r f v a = front_by p o o' r (line_of p) (line_reads p f) v a

-- a frame that was read is written as the line
pub line_written : (l : List ℕ) (r : Result Frame Refusal) → plainly r ≡ reads l → IfOk r (λ f. line_of (plain f) ≡ Ok l)
line_written l (Err e) h = tt
line_written l (Ok f) h = read_writes l (plain f) (sym h)
