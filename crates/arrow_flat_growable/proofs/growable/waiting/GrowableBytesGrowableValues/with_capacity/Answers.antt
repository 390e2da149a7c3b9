use Rattle.arrow_flat_growable.proofs.Common.{◌∙◌, arith, ap, sym, map, row_bytes, total}
use Rattle.arrow_flat_growable.proofs.WaitingLemmas.{binds_shared, bytes_of_arrays, none_waiting}
use Rattle.arrow_flat_growable.proofs.growable.waiting.GrowableBytesGrowableValues.with_capacity.Goals as goal

pub invariant_of-result : goal.invariant_of-result
invariant_of-result g c =
    let bound = c.in_ok-empty.ensures.bytes ∙ (ap (λ v. v.0) c.in_ok-bytes.ensures.ok ∙ c.in_ok-bytes_of.ensures.ok) in
    none_waiting (map (λ x. x.values) c.in_ok-shared.field-0.items) c.in_ok-empty.field-0.0 (row_bytes c.in_ok-empty.field-0.1) c.new.result.items 0 _ (bound ∙ bytes_of_arrays (λ x. x.values) c.args.arrays.now c.in_ok-shared.field-0.items c.in_ok-shared.ensures.ok) c.new.ensures.items (ap total (sym c.in_ok-empty.ensures.ok)) (omega arith)

pub returns-clause-bound : goal.returns-clause-bound
returns-clause-bound g c =
    binds_shared (λ x. x.values) c.args.arrays.now c.in_ok-shared.field-0.items c.in_ok-shared.ensures.ok
