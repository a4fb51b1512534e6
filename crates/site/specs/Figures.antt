-- The figure of a tally.
use Rattle.std.specs.Prelude.{◌≡◌, ℕ, ◌+◌, ◌*◌, ◌/◌, ◌<◌, ◌≤◌, Bool, cond, ◌&&◌, Ok, Err, Result, ◌==◌, nat_le}
use Rattle.terms.specs.declared.answer.Refusal.{Refusal}
use Rattle.terms.specs.declared.answer.Refusal.TheVariants.{SiteList}
use Rattle.terms.specs.declared.tally.Tally.{Tally}

-- f sendings were made for each hundred packets, and not f + 1
pub record IsFigure (packets sendings f : ℕ) : Type 0 where
  pub without_packets : packets ≡ 0 → f ≡ 0
  pub reached : 0 < packets → f * packets ≤ 100 * sendings
  pub largest : 0 < packets → 100 * sendings < (f + 1) * packets

-- the figure of two counts
abbrev pub figure_of : ℕ → ℕ → ℕ
figure_of packets sendings = cond (packets == 0) 0 (100 * sendings / packets)

-- two counts have one figure, and it is the one of the definition
abbrev pub FiguresPinned : Type 0
FiguresPinned = (packets sendings f : ℕ) → (IsFigure packets sendings f → f ≡ figure_of packets sendings) × IsFigure packets sendings (figure_of packets sendings)

-- a tally with its own figure
abbrev pub figured : Tally → Tally
figured t = record { packets = t.packets; sendings = t.sendings; figure = figure_of t.packets t.sendings }

-- a tally of nothing, which a list is taken to have past its end
abbrev pub no_tally : Tally
no_tally = record { packets = 0; sendings = 0; figure = 0 }

-- each count is at most 2^40
abbrev pub counts_hold : Tally → Bool
counts_hold t = nat_le t.packets 1099511627776 && nat_le t.sendings 1099511627776

-- what is answered about one cabin
abbrev pub cabin_answer : Tally → Result ℕ Refusal
cabin_answer t = cond (counts_hold t) (Ok (figure_of t.packets t.sendings)) (Err SiteList)
