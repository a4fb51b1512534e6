-- A slot has 661 bytes, and gives back its sending.
use Rattle.std.proofs.Common.{◌≡◌, ℕ, ◌+◌, ◌-◌, ◌*◌, ◌/◌, ◌%◌, ◌^◌, ◌<◌, ◌≤◌, true, leb, List, [], ◌++◌, length, take, drop, replicate, Some, slice_index, sym, refl, ap, ◌∙◌, append_assoc, append-nil, arith, length-append, rules}
use borrow.Rule.Slice.PartMut.{put_mid}
use lib.ListN.{length-replicate}
use Rattle.std.proofs.lemmas.List.{take_at, drop_at, drop-replicate, get_or-take, get_or-drop, drop-drop}
use Rattle.terms.specs.Sendings.{Sending, is_packet}
use Rattle.terms.specs.declared.version.RedundancyVersion.{RedundancyVersion}
use Rattle.slot.specs.Slots.{heading, slot_of, decoded, is_slot, said_by, two_at, first_eight, FitsSlot}

-- eight bytes and two bytes of a number make up the number
eight : (n : ℕ) → n < 2 ^ 64 → n / 72057594037927936 % 256 * 72057594037927936 + n / 281474976710656 % 256 * 281474976710656 + n / 1099511627776 % 256 * 1099511627776 + n / 4294967296 % 256 * 4294967296 + n / 16777216 % 256 * 16777216 + n / 65536 % 256 * 65536 + n / 256 % 256 * 256 + n % 256 ≡ n
eight n h = omega arith

two : (n : ℕ) → n < 65536 → n / 256 % 256 * 256 + n % 256 ≡ n
two n h = omega arith

pub length_heading : (x : Sending) → length (heading x) ≡ 16
length_heading x = refl

pub packet_bounds : (n : ℕ) → is_packet n ≡ true → (1 ≤ n) × (n ≤ 645)
packet_bounds n h = search rules

pub length_slot : (x : Sending) → is_packet (length x.packet) ≡ true → length (slot_of x) ≡ 661
unfolding slot_of
length_slot x h =
    let b : length x.packet ≤ 645 = (packet_bounds (length x.packet) h).1 in
    simp (length-append, length-replicate) (omega arith)

abbrev sending : ℕ → ℕ → RedundancyVersion → ℕ → ℕ → List ℕ → Sending
sending a b c d e f = record { subframe = a; process = b; version = c; mcs = d; resource = e; packet = f }

same : {a a' b : ℕ} {c : RedundancyVersion} {d e e' : ℕ} {f f' : List ℕ} → a ≡ a' → e ≡ e' → f ≡ f' → sending a b c d e f ≡ sending a' b c d e' f'
same p q r = cc

-- the length, and with it the packet, stand in front of whatever comes behind the slot
stated : (x : Sending) (rest : List ℕ) → length x.packet ≤ 645 → two_at (slot_of x ++ rest) 14 ≡ length x.packet
unfolding slot_of
stated x rest h = two (length x.packet) (omega arith)

kept : (x : Sending) (rest : List ℕ) → take (length x.packet) (drop 16 (slot_of x ++ rest)) ≡ x.packet
unfolding slot_of
kept x rest = rw append_assoc (take_at x.packet (replicate (645 - length x.packet) 0 ++ rest) (length x.packet) refl)

said : (x : Sending) (rest : List ℕ) → x.subframe < 2 ^ 64 → x.resource < 2 ^ 16 → length x.packet ≤ 645 → said_by (slot_of x ++ rest) ≡ x
unfolding slot_of
said x rest s r l = same (eight x.subframe s) (two x.resource r) (rw (stated x rest l) (kept x rest))

pub decoded_front : (x : Sending) (rest : List ℕ) → FitsSlot x → decoded (slot_of x ++ rest) ≡ Some x
unfolding decoded
decoded_front x rest f =
    let b = packet_bounds (length x.packet) f.packet in
    let s : said_by (slot_of x ++ rest) ≡ x = said x rest f.subframe f.resource b.1 in
    let n : length (slot_of x ++ rest) ≡ 661 + length rest = length-append (slot_of x) rest ∙ ap (λ n. n + length rest) (length_slot x f.packet) in
    let l : leb 661 (661 + length rest) ≡ true = search rules in
    let t : is_slot (slot_of x ++ rest) ≡ true = rw (n, l, stated x rest b.1) f.packet in
    rw (t, s)

pub decoded_slot : (x : Sending) → FitsSlot x → decoded (slot_of x) ≡ Some x
decoded_slot x f = ap decoded (sym (append-nil (slot_of x))) ∙ decoded_front x [] f

-- what a write of the heading and then of the packet over zeros leaves
pub written : (h h' z p p' : List ℕ) (m k : ℕ) → h' ≡ h → length h ≡ 16 → z ≡ replicate m 0 → m ≡ 661 → p' ≡ p → k ≡ length p → length p ≤ 645 → put_mid 16 k (h' ++ drop 16 z) p' ≡ h ++ (p ++ replicate (645 - length p) 0)
written h h' z p p' m k eh lh ez em ep ek l =
    let t : take 16 (h ++ drop 16 z) ≡ h = take_at h (drop 16 z) 16 lh in
    let d : drop 16 (h ++ drop 16 z) ≡ drop 16 z = drop_at h (drop 16 z) 16 lh in
    let r : drop k (drop 16 z) ≡ replicate (645 - length p) 0 = rw (ez, em, ek, drop-replicate {X = ℕ} 16 661 0, drop-replicate {X = ℕ} (length p) 645 0) in
    rw (eh, ep, t, d, r)

-- the parts of some bytes: the eight first, then four, two, two, and the rest
pub record Parts (b s f r n t : List ℕ) : Type 0 where
  pub subframe : s ≡ take 8 b
  pub fields : f ≡ take 4 (drop 8 b)
  pub resource : r ≡ take 2 (drop 4 (drop 8 b))
  pub size : n ≡ take 2 (drop 2 (drop 4 (drop 8 b)))
  pub rest : t ≡ drop 2 (drop 2 (drop 4 (drop 8 b)))

pub stated_parts : (b s f r n t : List ℕ) → Parts b s f r n t → two_at n 0 ≡ two_at b 14
stated_parts b s f r n t p = rw p.size (simp drop-drop (search (rules, get_or-take, get_or-drop)))

-- what the parts say, the bytes say
pub said_parts : (b s f r n t : List ℕ) → Parts b s f r n t → sending (first_eight s) (slice_index f 0) (record { 0 = slice_index f 1 }) (slice_index f 2) (two_at r 0) (take (two_at n 0) t) ≡ said_by b
said_parts b s f r n t p = rw (p.subframe, p.fields, p.resource, p.size, p.rest) (simp drop-drop (search (rules, get_or-take, get_or-drop)))
