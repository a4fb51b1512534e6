-- A heartbeat under a book, by what it offers and what use makes of it.
use Rattle.std.specs.Prelude.{ℕ, List, Option}
use Rattle.below.specs.Book.{book_offers, book_used}
use Rattle.below.specs.Heartbeat.{heartbeat_offers, heartbeat_used}
use Rattle.below.specs.Piled.{pile_offers, pile_used}
use Rattle.below.specs.declared.book.Book.{Book}
use Rattle.below.specs.declared.heartbeat.Heartbeat.{Heartbeat}
use Rattle.below.specs.declared.piled.Piled.{Piled}

abbrev pub shaft_offers : Piled Book Heartbeat → ℕ → Option (List ℕ)
shaft_offers = pile_offers book_offers heartbeat_offers

abbrev pub shaft_used : Piled Book Heartbeat → ℕ → Piled Book Heartbeat
shaft_used = pile_used book_offers book_used heartbeat_used
