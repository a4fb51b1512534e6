-- The packet lines of a trace as records, one after the other.
use Rattle.std.specs.Prelude.{ℕ, List, [], ◌++◌, length, Ok, Err, Result}
use Rattle.std.specs.List.{flat_map}
use Rattle.terms.specs.declared.answer.Refusal.{Refusal}
use Rattle.hexadecimal.specs.Hex.{decoded}
use Rattle.frames.specs.Frames.{Plain, setup, subframe, deposit, withdrawal, packet, two_bytes, reads}
use Rattle.frames.specs.Lines.{lines_of}

-- the record of a packet: its length, and its bytes
abbrev pub record_in : List ℕ → List ℕ
record_in b = two_bytes (length b) ++ b

-- the record of a packet frame, and nothing of any other line
abbrev pub kept : Result Plain Refusal → List ℕ
kept (Ok (setup s)) = []
kept (Ok (subframe a g)) = []
kept (Ok (deposit d)) = []
kept (Ok withdrawal) = []
kept (Ok (packet d)) = record_in (decoded d)
kept (Err e) = []

abbrev pub record_of : List ℕ → List ℕ
record_of l = kept (reads l)

-- the book of a text
unfoldable pub book_of : List ℕ → List ℕ
book_of t = flat_map record_of (lines_of t)
