use Rattle.std.proofs.Common.{◌∙◌, ◌*◌, Some, ap, refl, replicate}
use Rattle.arrow_types.specs.TypeOf.{type_of}
use Rattle.arrow_flat.specs.FixedRows.{fixed_size_in}
use Rattle.arrow_flat.proofs.FixedLemmas.{length-fixed_slots, some_bytes}
use Rattle.arrow_arrays.proofs.FitNullLemmas.{null_bytes_fit, zero_rows_fit, bytes_of_zeros}
use Rattle.arrow_arrays.proofs.NullLemmas.{flat_rows_null, no_flat_fault}
use Rattle.arrow_arrays.proofs.ShapeLemmas.{shape_of}
use Rattle.arrow_new.proofs.new.flat.null_fixed_bytes.Goals as goal

pub returns-in_default-clause-overflow : goal.returns-in_default-clause-overflow
returns-in_default-clause-overflow c =
    λ is fits. c.in_default.ensures (rw c.row_size.ensures (null_bytes_fit (type_of c.args.data_type) c.args.length fits))

pub unreachable-requires : goal.unreachable-requires
unreachable-requires c =
    let t = type_of c.args.data_type in
    let count = c.in-Some.ensures.1 ∙ ap (λ s. c.args.length * s) c.row_size.ensures in
    let zeros = c.in_ok-values.ensures.ok ∙ ap (λ n. replicate n 0) count in
    let fits = zero_rows_fit c.args.length (fixed_size_in t) c.in_ok-values.values c.in_ok-validity.validity (some_bytes t c.requires.0 c.requires.1) zeros c.in_ok-validity.ensures.ok in
    no_flat_fault _ _ _ _ c.in_default-try_new.field-0 c.requires fits tt tt c.in_default-try_new.ensures.fault

pub returns-clause-ok : goal.returns-clause-ok
returns-clause-ok c =
    let t = type_of c.args.data_type in
    let count = c.in-Some.ensures.1 ∙ ap (λ s. c.args.length * s) c.row_size.ensures in
    let rows = bytes_of_zeros c.args.length (fixed_size_in t) c.in_ok-values.values (some_bytes t c.requires.0 c.requires.1) (c.in_ok-values.ensures.ok ∙ ap (λ n. replicate n 0) count) in
    rw c.in-Ok.ensures.ok (refl, flat_rows_null t _ _ c.args.length (ap shape_of c.requires.1) (ap Some c.in_ok-validity.ensures.ok) (length-fixed_slots _ ∙ rows))
