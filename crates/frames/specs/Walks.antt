-- A walk over the lines of a text.
use Rattle.std.specs.Prelude.{◌≡◌, ℕ, ◌<◌, List, length, IfSome, Option}
use Rattle.std.specs.Borrow.{Bor}
use Rattle.std.specs.Iterator.{YieldsFirstRef}
use Rattle.frames.specs.Lines.{lines_of, after_first}
use Rattle.frames.specs.declared.lines.Lines.{Lines}

-- the lines that are still to come
abbrev pub lines_left : Lines → List (List ℕ)
lines_left w = lines_of w.rest.now

-- one step of a walk: the first line that is left, if one is, and then the text after it is left
abbrev pub GivesLine : Lines → Option (Bor (List ℕ)) → Lines → Type 0
GivesLine w line v = YieldsFirstRef lines_left w line v × (v.rest.now ≡ after_first w.rest.now) × IfSome line (λ _. length v.rest.now < length w.rest.now)
