use Rattle.std.proofs.Common.{◌∙◌, length, ap, refl, sym}
use Rattle.arrow_types.specs.TypeOf.{type_of}
use Rattle.arrow_types.specs.declared.datatypes.physical_type.PhysicalType.TheVariants as physical
use Rattle.arrow_flat.specs.Faults.{IsCarriedAs}
use Rattle.arrow_arrays.specs.Any.{any_array_rows}
use Rattle.arrow_arrays.specs.AnyKeys.{key_rows, key_type_of}
use Rattle.arrow_arrays.proofs.NullLemmas.{no_fault}
use Rattle.arrow_arrays.proofs.NullPartsLemmas.{keyed_rows_null, null_keys_name}
use Rattle.arrow_arrays.proofs.ShapeLemmas.{shape_of}
use Rattle.arrow_new.proofs.new.nested.null_dictionaries.Goals as goal

pub unreachable-requires : goal.unreachable-requires
unreachable-requires c =
    let keys = c.in_ok-keys.keys in
    let within = null_keys_name (length (any_array_rows c.args.values.value)) (key_rows keys) c.args.length c.in_ok-keys.ensures.rows in
    let kind : IsCarriedAs (physical.Dictionary (key_type_of keys)) (type_of c.args.data_type) = (c.requires.kind.0, c.requires.kind.1 ∙ ap (λ k. physical.Dictionary k) (sym c.in_ok-keys.ensures.same)) in
    no_fault _ _ _ _ _ _ c.in_default.field-0 kind c.requires.values tt tt tt within c.in_default.ensures.fault

pub returns-clause-ok : goal.returns-clause-ok
returns-clause-ok c =
    rw c.in-Ok.ensures.ok (refl, keyed_rows_null (type_of c.args.data_type) (key_rows c.in_ok-keys.keys) _ c.args.length (ap shape_of c.requires.kind.1) c.in_ok-keys.ensures.rows)
