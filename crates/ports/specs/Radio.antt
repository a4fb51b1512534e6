-- The meaning of a radio.
use Rattle.std.specs.Prelude.{ℕ, ◌+◌, Bool, cond, ◌&&◌, length, Some, None, Option, nat_lt}
use Rattle.terms.specs.Sendings.{Sending, is_packet}

pub record Radioed : Type 0 where
  -- how many instructions were taken
  pub count : ℕ
  -- the latest of them
  pub latest : Option Sending
  -- how many can be taken in all
  pub capacity : ℕ

abbrev pub has_room : Radioed → Bool
has_room r = nat_lt r.count r.capacity

abbrev pub accepts : Radioed → Sending → Bool
accepts r x = has_room r && is_packet (length x.packet)

-- a radio that took one more
abbrev pub took : Radioed → Sending → Radioed
took r x = record { count = r.count + 1; latest = Some x; capacity = r.capacity }

abbrev pub after_take : Radioed → Sending → Radioed
after_take r x = cond (accepts r x) (took r x) r

-- a radio that took what it was told, if it was told anything
abbrev pub told : Radioed → Option Sending → Radioed
told r None = r
told r (Some x) = took r x
