use Rattle.arrow_take.proofs.Common.{Err, ap, passed_on}
use Rattle.arrow_take.proofs.take.any.take_one.Goals as goal

pub returns-in_err-take-in-Utf8-clause-overflow : goal.returns-in_err-take-in-Utf8-clause-overflow
returns-in_err-take-in-Utf8-clause-overflow g c overflows =
    rw c.in-Utf8.is (c.in_err-take-in-Utf8.ensures.overflow (ap Err (passed_on c.from_residual-in_err-take-in-Utf8.result _ _ c.from_residual-in_err-take-in-Utf8.ensures.1 overflows)))

pub returns-in_err-take-in-LargeUtf8-clause-overflow : goal.returns-in_err-take-in-LargeUtf8-clause-overflow
returns-in_err-take-in-LargeUtf8-clause-overflow g c overflows =
    rw c.in-LargeUtf8.is (c.in_err-take-in-LargeUtf8.ensures.overflow (ap Err (passed_on c.from_residual-in_err-take-in-LargeUtf8.result _ _ c.from_residual-in_err-take-in-LargeUtf8.ensures.1 overflows)))

pub returns-in_err-take-in-Binary-clause-overflow : goal.returns-in_err-take-in-Binary-clause-overflow
returns-in_err-take-in-Binary-clause-overflow g c overflows =
    rw c.in-Binary.is (c.in_err-take-in-Binary.ensures.overflow (ap Err (passed_on c.from_residual-in_err-take-in-Binary.result _ _ c.from_residual-in_err-take-in-Binary.ensures.1 overflows)))

pub returns-in_err-take-in-LargeBinary-clause-overflow : goal.returns-in_err-take-in-LargeBinary-clause-overflow
returns-in_err-take-in-LargeBinary-clause-overflow g c overflows =
    rw c.in-LargeBinary.is (c.in_err-take-in-LargeBinary.ensures.overflow (ap Err (passed_on c.from_residual-in_err-take-in-LargeBinary.result _ _ c.from_residual-in_err-take-in-LargeBinary.ensures.1 overflows)))

pub returns-in_err-take-in-List-clause-overflow : goal.returns-in_err-take-in-List-clause-overflow
returns-in_err-take-in-List-clause-overflow g c overflows =
    rw c.in-List.is (c.in_err-take-in-List.ensures.answer.overflow (ap Err (passed_on c.from_residual-in_err-take-in-List.result _ _ c.from_residual-in_err-take-in-List.ensures.1 overflows)))

pub returns-in_err-take-in-FixedSizeList-clause-overflow : goal.returns-in_err-take-in-FixedSizeList-clause-overflow
returns-in_err-take-in-FixedSizeList-clause-overflow g c overflows =
    rw c.in-FixedSizeList.is (c.in_err-take-in-FixedSizeList.ensures.answer.overflow (ap Err (passed_on c.from_residual-in_err-take-in-FixedSizeList.result _ _ c.from_residual-in_err-take-in-FixedSizeList.ensures.1 overflows)))

pub returns-in_err-take-in-FixedSizeBinary-clause-overflow : goal.returns-in_err-take-in-FixedSizeBinary-clause-overflow
returns-in_err-take-in-FixedSizeBinary-clause-overflow g c overflows =
    rw c.in-FixedSizeBinary.is (c.in_err-take-in-FixedSizeBinary.ensures.answer.overflow (ap Err (passed_on c.from_residual-in_err-take-in-FixedSizeBinary.result _ _ c.from_residual-in_err-take-in-FixedSizeBinary.ensures.1 overflows)))

pub returns-in_err-take-in-Map-clause-overflow : goal.returns-in_err-take-in-Map-clause-overflow
returns-in_err-take-in-Map-clause-overflow g c overflows =
    rw c.in-Map.is (c.in_err-take-in-Map.ensures.answer.overflow (ap Err (passed_on c.from_residual-in_err-take-in-Map.result _ _ c.from_residual-in_err-take-in-Map.ensures.1 overflows)))
