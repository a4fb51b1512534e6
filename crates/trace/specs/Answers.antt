-- The text of the answers to a trace.
use Rattle.std.specs.Prelude.{◌≡◌, ℕ, List, [], ◌∷◌, ◌++◌, Some, None, Ok, Err, Option, Result}
use Rattle.frames.specs.Frames.{reads}
use Rattle.frames.specs.Lines.{lines_of}
use Rattle.frames.specs.Books.{book_of}
use Rattle.terms.specs.declared.answer.Refusal.{Refusal}
use Rattle.trace.specs.Standing.{Standing, Answered, Equipment, equipped, at_first, answered}
use Rattle.trace.specs.Texts.{answer_text, refusal_text, setup_text}

-- the text of an answer, with the latest instruction after it
abbrev pub text_of : Answered → List ℕ
text_of a = answer_text a.answer a.standing.radio.latest

-- the answers to some lines, each where the one before it left the trace
unfoldable pub answers_from : Standing → List (List ℕ) → List ℕ
answers_from s [] = []
answers_from s (l ∷ ls) = text_of (answered s (reads l)) ++ answers_from (answered s (reads l)).standing ls

-- a line before a set-up was accepted: it sets up, and the other lines go on from there, or it is refused, and the other lines are answered as given
abbrev pub answers_by : Result Equipment Refusal → List ℕ → List ℕ → List (List ℕ) → List ℕ
answers_by (Ok q) records later ls = setup_text ++ answers_from (at_first q records) ls
answers_by (Err e) records later ls = refusal_text e ++ later

-- the answers before a set-up was accepted: the records of the book, the lines
unfoldable pub answers_before : List ℕ → List (List ℕ) → List ℕ
answers_before records [] = []
answers_before records (l ∷ ls) = answers_by (equipped (reads l)) records (answers_before records ls) ls

-- the answers to a trace, whose packet lines are in the book from the beginning
abbrev pub answers : List ℕ → List ℕ
answers t = answers_before (book_of t) (lines_of t)

-- a line before the set-up was answered, by what it sets up: the trace stands as at set-up, or where it stood
abbrev pub Begun : Result Equipment Refusal → List ℕ → Option Standing → Option Standing → List ℕ → List ℕ → Type 0
Begun (Ok q) records new old v v' = (new ≡ Some (at_first q records)) × (v' ≡ v ++ setup_text)
Begun (Err e) records new old v v' = (new ≡ old) × (v' ≡ v ++ refusal_text e)

-- the answers still to come where a trace stands, or stands nowhere yet
abbrev pub answers_on : List ℕ → Option Standing → List (List ℕ) → List ℕ
answers_on records None ls = answers_before records ls
answers_on records (Some s) ls = answers_from s ls
