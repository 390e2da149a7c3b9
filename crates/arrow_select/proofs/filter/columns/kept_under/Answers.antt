use Rattle.arrow_select.proofs.KeptFields.{kept_of}
use Rattle.arrow_select.proofs.filter.columns.kept_under.Goals as goal

pub returns-in_ok-kept-in-Primitive-clause-ok : goal.returns-in_ok-kept-in-Primitive-clause-ok
returns-in_ok-kept-in-Primitive-clause-ok c =
    rw c.in-Primitive.is (kept_of _ _ _ _ (rw c.in-Primitive.is at c.data_type.ensures.kind) (λ is. cc) c.in_ok-kept-in-Primitive.ensures.array_type c.in_ok-kept-in-Primitive.ensures.rows c.in_ok-kept-in-Primitive.ensures.fits)

pub returns-in_ok-kept-in-Boolean-clause-ok : goal.returns-in_ok-kept-in-Boolean-clause-ok
returns-in_ok-kept-in-Boolean-clause-ok c =
    rw c.in-Boolean.is (kept_of _ _ _ _ (rw c.in-Boolean.is at c.data_type.ensures.kind) (λ is. cc) c.in_ok-kept-in-Boolean.ensures.array_type c.in_ok-kept-in-Boolean.ensures.rows c.in_ok-kept-in-Boolean.ensures.fits)

pub returns-in_ok-kept-in-Utf8-clause-ok : goal.returns-in_ok-kept-in-Utf8-clause-ok
returns-in_ok-kept-in-Utf8-clause-ok c =
    rw c.in-Utf8.is (kept_of _ _ _ _ (rw c.in-Utf8.is at c.data_type.ensures.kind) (λ is. cc) c.in_ok-kept-in-Utf8.ensures.array_type c.in_ok-kept-in-Utf8.ensures.rows c.in_ok-kept-in-Utf8.ensures.fits)

pub returns-in_ok-kept-in-LargeUtf8-clause-ok : goal.returns-in_ok-kept-in-LargeUtf8-clause-ok
returns-in_ok-kept-in-LargeUtf8-clause-ok c =
    rw c.in-LargeUtf8.is (kept_of _ _ _ _ (rw c.in-LargeUtf8.is at c.data_type.ensures.kind) (λ is. cc) c.in_ok-kept-in-LargeUtf8.ensures.array_type c.in_ok-kept-in-LargeUtf8.ensures.rows c.in_ok-kept-in-LargeUtf8.ensures.fits)

pub returns-in_ok-kept-in-Binary-clause-ok : goal.returns-in_ok-kept-in-Binary-clause-ok
returns-in_ok-kept-in-Binary-clause-ok c =
    rw c.in-Binary.is (kept_of _ _ _ _ (rw c.in-Binary.is at c.data_type.ensures.kind) (λ is. cc) c.in_ok-kept-in-Binary.ensures.array_type c.in_ok-kept-in-Binary.ensures.rows c.in_ok-kept-in-Binary.ensures.fits)

pub returns-in_ok-kept-in-LargeBinary-clause-ok : goal.returns-in_ok-kept-in-LargeBinary-clause-ok
returns-in_ok-kept-in-LargeBinary-clause-ok c =
    rw c.in-LargeBinary.is (kept_of _ _ _ _ (rw c.in-LargeBinary.is at c.data_type.ensures.kind) (λ is. cc) c.in_ok-kept-in-LargeBinary.ensures.array_type c.in_ok-kept-in-LargeBinary.ensures.rows c.in_ok-kept-in-LargeBinary.ensures.fits)
