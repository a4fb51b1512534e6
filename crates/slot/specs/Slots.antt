-- The slot of a sending, in 661 bytes: subframe (8), process, version, MCS, a zero (1 each), resource, length (2 each), the packet, then zeros.
-- Numbers have their highest byte first.
use Rattle.std.specs.Prelude.{◌≡◌, ℕ, ◌+◌, ◌-◌, ◌*◌, ◌/◌, ◌%◌, ◌^◌, ◌<◌, Bool, true, cond, ◌&&◌, List, [], ◌∷◌, ◌++◌, length, take, drop, replicate, Some, None, Option, ◌==◌, nat_le, slice_index}
use Rattle.terms.specs.Sendings.{Sending, is_packet}

-- the 16 bytes before the packet; the length is taken modulo 2 ^ 16, which alters that of no packet
abbrev pub heading : Sending → List ℕ
heading x =
    (x.subframe / 72057594037927936 % 256) ∷ (x.subframe / 281474976710656 % 256) ∷ (x.subframe / 1099511627776 % 256) ∷ (x.subframe / 4294967296 % 256)
    ∷ (x.subframe / 16777216 % 256) ∷ (x.subframe / 65536 % 256) ∷ (x.subframe / 256 % 256) ∷ (x.subframe % 256)
    ∷ x.process ∷ x.version.0 ∷ x.mcs ∷ 0 ∷ (x.resource / 256 % 256) ∷ (x.resource % 256) ∷ (length x.packet / 256 % 256) ∷ (length x.packet % 256) ∷ []

-- a slot without the zeros beyond the packet
unfoldable pub up_to_packet : Sending → List ℕ
up_to_packet x = heading x ++ x.packet

-- a whole slot
unfoldable pub slot_of : Sending → List ℕ
slot_of x = heading x ++ (x.packet ++ replicate (645 - length x.packet) 0)

-- a number of two bytes at a place
abbrev pub two_at : List ℕ → ℕ → ℕ
two_at b k = slice_index b k * 256 + slice_index b (k + 1)

-- a number of eight bytes at the front
abbrev pub first_eight : List ℕ → ℕ
first_eight b =
    slice_index b 0 * 72057594037927936 + slice_index b 1 * 281474976710656 + slice_index b 2 * 1099511627776 + slice_index b 3 * 4294967296
    + slice_index b 4 * 16777216 + slice_index b 5 * 65536 + slice_index b 6 * 256 + slice_index b 7

-- bytes in front of which a slot can stand: there are enough of them, and the length that they state is a packet's
abbrev pub is_slot : List ℕ → Bool
is_slot b = nat_le 661 (length b) && is_packet (two_at b 14)

-- what a slot says, whatever its zeros hold
abbrev pub said_by : List ℕ → Sending
said_by b = record { subframe = first_eight b; process = slice_index b 8; version = record { 0 = slice_index b 9 }; mcs = slice_index b 10; resource = two_at b 12; packet = take (two_at b 14) (drop 16 b) }

-- what the slot in front of some bytes says, if one can stand there
unfoldable pub decoded : List ℕ → Option Sending
decoded b = cond (is_slot b) (Some (said_by b)) None

-- a stretch takes the slot of a sending: it has the length of a slot, and the bytes to send are a packet
abbrev pub takes_slot : List ℕ → Sending → Bool
takes_slot s x = length s == 661 && is_packet (length x.packet)

-- a stretch after a sending was to be written to it
abbrev pub after_encoding : List ℕ → Sending → List ℕ
after_encoding s x = cond (takes_slot s x) (slot_of x) s

-- a sending that a slot can hold: subframe and resource fit their bytes, and its packet is one
pub record FitsSlot (x : Sending) : Type 0 where
  pub subframe : x.subframe < 2 ^ 64
  pub resource : x.resource < 2 ^ 16
  pub packet : is_packet (length x.packet) ≡ true

-- the slot of a sending that fits has 661 bytes, and decodes to that sending, whatever stands behind it
abbrev pub SlotsGiveBack : Type 0
SlotsGiveBack = (x : Sending) → FitsSlot x → (length (slot_of x) ≡ 661) × (decoded (slot_of x) ≡ Some x) × ((rest : List ℕ) → decoded (slot_of x ++ rest) ≡ Some x)

-- one slot byte by byte, with another byte in each field
abbrev pub WorkedSlot : Type 0
WorkedSlot =
    slot_of (record { subframe = 72623859790382856; process = 9; version = record { 0 = 10 }; mcs = 11; resource = 3085; packet = 161 ∷ 178 ∷ [] })
    ≡ 1 ∷ 2 ∷ 3 ∷ 4 ∷ 5 ∷ 6 ∷ 7 ∷ 8 ∷ 9 ∷ 10 ∷ 11 ∷ 0 ∷ 12 ∷ 13 ∷ 0 ∷ 2 ∷ 161 ∷ 178 ∷ replicate 643 0
