-- Bytes of spans, one span at a time.
use Rattle.arrow_take.proofs.Common.{arith, ◌≡◌, ◌≤◌, ◌∙◌, ℕ, List, [], ◌∷◌, ◌++◌, ap, map, All, concat, append-nil, map-append, concat-append, IsSpanWithin, span_bytes, spanned}

-- one span more
pub spanned_more : (bytes : List ℕ) (spans new : List (ℕ × ℕ)) (span : ℕ × ℕ) → new ≡ spans ++ span ∷ [] → spanned bytes new ≡ spanned bytes spans ++ span_bytes bytes span
spanned_more bytes spans new span is =
    ap (spanned bytes) is ∙ (ap concat (map-append (span_bytes bytes) spans (span ∷ [])) ∙ (concat-append (map (span_bytes bytes) spans) (span_bytes bytes span ∷ []) ∙ ap (λ bs. spanned bytes spans ++ bs) (append-nil (span_bytes bytes span))))

-- spans lie within more bytes, too
pub spans_fit : (m n : ℕ) (spans : List (ℕ × ℕ)) → m ≤ n → All (IsSpanWithin m) spans → All (IsSpanWithin n) spans
spans_fit m n spans more within = λ k d has.
    let span = within k d has in
    (span.0, omega (arith, span.1, more))
