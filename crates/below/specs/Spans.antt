-- The meaning of a span list.
use Rattle.std.specs.Prelude.{◌≡◌, ℕ, ◌<◌, ◌≤◌, Bool, false, ◌&&◌, ◌||◌, List, [], ◌∷◌, length, nat_le, nat_lt, slice_index_or}
use Rattle.below.specs.declared.spans.Span.{Span}

-- whether t lies in a span: from its first subframe up to before its second
abbrev pub span_covers : Span → ℕ → Bool
span_covers s t = nat_le s.from t && nat_lt t s.to

-- whether t lies in some span of a list
unfoldable pub spans_cover : List Span → ℕ → Bool
spans_cover [] t = false
spans_cover (s ∷ rest) t = span_covers s t || spans_cover rest t

-- the k-th span of a list
abbrev pub span_at : List Span → ℕ → Span
span_at l k = slice_index_or l k (record { from = 0; to = 0 })

-- t lies in one of the spans
abbrev pub CoveredBySome : List Span → ℕ → Type 0
CoveredBySome l t = (k : ℕ) × ((k < length l) × (((span_at l k).from ≤ t) × (t < (span_at l k).to)))

-- t lies in none of the spans
abbrev pub CoveredByNone : List Span → ℕ → Type 0
CoveredByNone l t = (k : ℕ) → k < length l → span_covers (span_at l k) t ≡ false
