use Rattle.arrow_growable.proofs.Common.{ap, ◌∙◌, type_of, shape_of, form_of, grown_arrays}
use Rattle.arrow_growable.proofs.ColumnLemmas.{struct_child_types}
use Rattle.arrow_growable.proofs.FinishLemmas.{child_type_is, fields_fit, fields_made, lists_made, one_child, sized_fit, sized_made}
use Rattle.arrow_growable.proofs.growable.finish.finish.Goals as goal

-- lists of any form have one child

pub first_boxed-requires : goal.first_boxed-requires
first_boxed-requires c =
    one_child (type_of c.args.data_type) _ c.requires.types (ap shape_of (c.requires.kind.1 ∙ ap grown_arrays c.in-Small.is))

pub first_boxed-requires-in-Large : goal.first_boxed-requires-in-Large
first_boxed-requires-in-Large c =
    one_child (type_of c.args.data_type) _ c.requires.types (ap shape_of (c.requires.kind.1 ∙ ap grown_arrays c.in-Large.is))

pub first_boxed-requires-in-Map : goal.first_boxed-requires-in-Map
first_boxed-requires-in-Map c =
    one_child (type_of c.args.data_type) _ c.requires.types (ap shape_of (c.requires.kind.1 ∙ ap grown_arrays c.in-Map.is))

pub first_boxed-requires-in-FixedSize : goal.first_boxed-requires-in-FixedSize
first_boxed-requires-in-FixedSize c =
    one_child (type_of c.args.data_type) _ c.requires.types (ap shape_of (c.requires.kind.1 ∙ ap grown_arrays c.in-FixedSize.is))

pub list_array-requires-clause-child : goal.list_array-requires-clause-child
list_array-requires-clause-child c =
    child_type_is (type_of c.args.data_type) _ c.requires.types (ap shape_of (c.requires.kind.1 ∙ ap grown_arrays c.in-Small.is)) _ c.in_ok-first_boxed-in-Small.ensures.ok

pub list_array-requires-in-Large-clause-child : goal.list_array-requires-in-Large-clause-child
list_array-requires-in-Large-clause-child c =
    child_type_is (type_of c.args.data_type) _ c.requires.types (ap shape_of (c.requires.kind.1 ∙ ap grown_arrays c.in-Large.is)) _ c.in_ok-first_boxed-in-Large.ensures.ok

pub map_array-requires-clause-child : goal.map_array-requires-clause-child
map_array-requires-clause-child c =
    child_type_is (type_of c.args.data_type) _ c.requires.types (ap shape_of (c.requires.kind.1 ∙ ap grown_arrays c.in-Map.is)) _ c.in_ok-first_boxed-in-Map.ensures.ok

pub fixed_size_list_array-requires-clause-child : goal.fixed_size_list_array-requires-clause-child
fixed_size_list_array-requires-clause-child c =
    child_type_is (type_of c.args.data_type) _ c.requires.types (ap shape_of (c.requires.kind.1 ∙ ap grown_arrays c.in-FixedSize.is)) _ c.in_ok-first_boxed-in-FixedSize.ensures.ok

-- the parts of a fixed-size list and of a struct

pub fixed_size_list_array-requires-clause-fits : goal.fixed_size_list_array-requires-clause-fits
fixed_size_list_array-requires-clause-fits c =
    sized_fit (type_of c.args.data_type) _ _ _ _ c.args.validity _ c.in-FixedSize.is c.requires.kind c.requires.form c.in_ok-first_boxed-in-FixedSize.ensures.ok c.requires.whole c.in_ok-validity.ensures.ok.fits

pub struct_array-requires-clause-children : goal.struct_array-requires-clause-children
struct_array-requires-clause-children c =
    c.requires.types ∙ struct_child_types (type_of c.args.data_type) (ap shape_of (c.requires.kind.1 ∙ ap grown_arrays c.in-Fields.is))

pub struct_array-requires-clause-fits : goal.struct_array-requires-clause-fits
struct_array-requires-clause-fits c =
    fields_fit (type_of c.args.data_type) _ _ c.args.validity _ c.in-Fields.is c.requires.kind c.requires.types c.requires.whole c.in_ok-validity.ensures.ok.fits

-- the rows

pub returns-in_ok-first_boxed-in-Small-clause-ok : goal.returns-in_ok-first_boxed-in-Small-clause-ok
returns-in_ok-first_boxed-in-Small-clause-ok c =
    (c.list_array.ensures.same_type, c.list_array.ensures.rows ∙ lists_made _ _ _ _ _ _ _ (ap form_of c.in-Small.is) c.in_ok-into_buffer-in-Small.ensures.ok c.in_ok-first_boxed-in-Small.ensures.ok c.requires.whole c.in_ok-validity.ensures.ok.rows)

pub returns-in_ok-first_boxed-in-Large-clause-ok : goal.returns-in_ok-first_boxed-in-Large-clause-ok
returns-in_ok-first_boxed-in-Large-clause-ok c =
    (c.list_array-in-Large.ensures.same_type, c.list_array-in-Large.ensures.rows ∙ lists_made _ _ _ _ _ _ _ (ap form_of c.in-Large.is) c.in_ok-into_buffer-in-Large.ensures.ok c.in_ok-first_boxed-in-Large.ensures.ok c.requires.whole c.in_ok-validity.ensures.ok.rows)

pub returns-in_ok-first_boxed-in-Map-clause-ok : goal.returns-in_ok-first_boxed-in-Map-clause-ok
returns-in_ok-first_boxed-in-Map-clause-ok c =
    (c.map_array.ensures.same_type, c.map_array.ensures.rows ∙ lists_made _ _ _ _ _ _ _ (ap form_of c.in-Map.is) c.in_ok-offsets-in-Map.ensures.ok c.in_ok-first_boxed-in-Map.ensures.ok c.requires.whole c.in_ok-validity.ensures.ok.rows)

pub returns-in_ok-first_boxed-in-FixedSize-clause-ok :
    goal.returns-in_ok-first_boxed-in-FixedSize-clause-ok
returns-in_ok-first_boxed-in-FixedSize-clause-ok c =
    (c.fixed_size_list_array.ensures.same_type, c.fixed_size_list_array.ensures.rows ∙ sized_made (type_of c.args.data_type) _ _ _ _ _ _ c.in-FixedSize.is c.requires.kind c.requires.form c.in_ok-first_boxed-in-FixedSize.ensures.ok c.requires.whole c.in_ok-validity.ensures.ok.rows)

pub returns-in-Fields-clause-ok : goal.returns-in-Fields-clause-ok
returns-in-Fields-clause-ok c =
    (c.struct_array.ensures.same_type, c.struct_array.ensures.rows ∙ fields_made (type_of c.args.data_type) _ _ _ _ c.in-Fields.is c.requires.kind c.requires.types c.requires.whole c.in_ok-validity.ensures.ok.rows)
