-- The meaning of a tape, read off its bytes.
use Rattle.std.specs.Prelude.{◌≡◌, ℕ, ◌+◌, ◌-◌, ◌*◌, ◌/◌, ◌<◌, true, cond, List, ◌++◌, length, take, drop, Some, None, Option, ◌==◌, nat_lt}
use Rattle.terms.specs.Sendings.{Sending, is_packet}
use Rattle.ports.specs.Radio.{Radioed, accepts}
use Rattle.slot.specs.Slots.{slot_of, decoded, FitsSlot}
use Rattle.below.specs.declared.tape.Tape.{Tape}

-- the bytes of slot k
unfoldable pub slot_at : List ℕ → ℕ → List ℕ
slot_at b k = take 661 (drop (661 * k) b)

-- what slot k says, if it is one of the first n
abbrev pub said_in : List ℕ → ℕ → ℕ → Option Sending
said_in b n k = cond (nat_lt k n) (decoded (slot_at b k)) None

-- what the last of n slots says
abbrev pub last_said : List ℕ → ℕ → Option Sending
last_said b n = cond (n == 0) None (decoded (slot_at b (n - 1)))

-- bytes of which n slots are filled, as a radio
abbrev pub bytes_radioed : List ℕ → ℕ → Radioed
bytes_radioed b n = record { count = n; latest = last_said b n; capacity = length b / 661 }

abbrev pub tape_radioed : Tape → Radioed
tape_radioed t = bytes_radioed t.bytes.now t.taken

-- bytes with slot k replaced: what stands before and behind it stays
unfoldable pub with_slot : List ℕ → ℕ → List ℕ → List ℕ
with_slot b k s = take (661 * k) b ++ (s ++ drop (661 * k + 661) b)

-- bytes after a sending was to be written over slot k
abbrev pub written_at : List ℕ → ℕ → Sending → List ℕ
written_at b k x = cond (is_packet (length x.packet)) (with_slot b k (slot_of x)) b

-- the bytes of a tape after a sending was to be taken: its slot comes next, or all stays
abbrev pub bytes_after : List ℕ → ℕ → Sending → List ℕ
bytes_after b n x = cond (accepts (bytes_radioed b n) x) (with_slot b n (slot_of x)) b

-- a sending that is taken stands in the next slot, each slot before it says what it said, and there are as many bytes as before
abbrev pub TapeKeeps : Type 0
TapeKeeps =
    (b : List ℕ) (n : ℕ) (x : Sending) → FitsSlot x → accepts (bytes_radioed b n) x ≡ true
    → (said_in (bytes_after b n x) (n + 1) n ≡ Some x)
    × ((k : ℕ) → k < n → said_in (bytes_after b n x) (n + 1) k ≡ said_in b n k)
    × (length (bytes_after b n x) ≡ length b)
