use Rattle.std.proofs.Common.{◌∙◌, ap, sym}
use Rattle.arrow_types.specs.TypeOf.{type_of}
use Rattle.arrow_arrays.proofs.NullLemmas.{slots_null}
use Rattle.arrow_arrays.proofs.ShapeLemmas.{shape_of}
use Rattle.arrow_new.proofs.new.flat.null_rows.Goals as goal

pub returns-in_ok-null_bytes-in-Utf8-clause-ok : goal.returns-in_ok-null_bytes-in-Utf8-clause-ok
returns-in_ok-null_bytes-in-Utf8-clause-ok c =
    let rows = c.in_ok-null_bytes-in-Utf8.ensures in
    (rows.same, rows.rows ∙ slots_null (type_of c.args.data_type) c.args.length (ap shape_of (sym c.to_physical_type.ensures ∙ c.in-Utf8.is)))

pub returns-in_ok-null_bytes-in-LargeUtf8-clause-ok : goal.returns-in_ok-null_bytes-in-LargeUtf8-clause-ok
returns-in_ok-null_bytes-in-LargeUtf8-clause-ok c =
    let rows = c.in_ok-null_bytes-in-LargeUtf8.ensures in
    (rows.same, rows.rows ∙ slots_null (type_of c.args.data_type) c.args.length (ap shape_of (sym c.to_physical_type.ensures ∙ c.in-LargeUtf8.is)))

pub returns-in_ok-null_bytes-in-Binary-clause-ok : goal.returns-in_ok-null_bytes-in-Binary-clause-ok
returns-in_ok-null_bytes-in-Binary-clause-ok c =
    let rows = c.in_ok-null_bytes-in-Binary.ensures in
    (rows.same, rows.rows ∙ slots_null (type_of c.args.data_type) c.args.length (ap shape_of (sym c.to_physical_type.ensures ∙ c.in-Binary.is)))

pub returns-in_ok-null_bytes-in-LargeBinary-clause-ok : goal.returns-in_ok-null_bytes-in-LargeBinary-clause-ok
returns-in_ok-null_bytes-in-LargeBinary-clause-ok c =
    let rows = c.in_ok-null_bytes-in-LargeBinary.ensures in
    (rows.same, rows.rows ∙ slots_null (type_of c.args.data_type) c.args.length (ap shape_of (sym c.to_physical_type.ensures ∙ c.in-LargeBinary.is)))
