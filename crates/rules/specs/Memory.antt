-- Packet memory: nine stretches of 645 bytes, those of processes 0 to 7 and, as the ninth, that of the Msg3 buffer.
use Rattle.std.specs.Prelude.{ℕ, ◌+◌, ◌*◌, List, ◌++◌, length, take, drop}

-- the first n bytes of stretch k
abbrev pub part : List ℕ → ℕ → ℕ → List ℕ
part m k n = take n (drop (645 * k) m)

-- packet memory once bytes are written to the front of stretch k
abbrev pub written : List ℕ → ℕ → List ℕ → List ℕ
written m k b = take (645 * k) m ++ (b ++ drop (645 * k + length b) m)
