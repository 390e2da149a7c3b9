-- Spans of bytes, each from its first byte up to its end, as a pair of places.
use Rattle.std.specs.Prelude.{ℕ, ◌-◌, ◌≤◌, List, map}
use Rattle.std.specs.List.{concat}
use Rattle.arrow_memory.specs.Sliced.{sliced}

-- the bytes of a span
abbrev pub span_bytes : List ℕ → ℕ × ℕ → List ℕ
span_bytes bytes span = sliced bytes span.0 (span.1 - span.0)

-- those of all spans, one behind the other
abbrev pub spanned : List ℕ → List (ℕ × ℕ) → List ℕ
spanned bytes spans = concat (map (span_bytes bytes) spans)

-- a span lies within so many bytes
abbrev pub IsSpanWithin : ℕ → ℕ × ℕ → Type 0
IsSpanWithin count span = (span.0 ≤ span.1) × (span.1 ≤ count)
