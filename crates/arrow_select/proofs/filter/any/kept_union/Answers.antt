use Rattle.arrow_select.proofs.Common.{◌∙◌, ap, sym, option_copied, physical_type_of, IsCarriedAs, mode_by, type_of_unions, no_rows}
use Rattle.arrow_types.specs.declared.datatypes.physical_type.PhysicalType.TheVariants as physical
use Rattle.arrow_select.proofs.filter.any.kept_union.Goals as goal

pub filter_sparse-requires : goal.filter_sparse-requires
filter_sparse-requires c =
    let p = c.args.array.now in
    let kind : IsCarriedAs physical.Union p.arrow_type = (c.data_type.ensures.carried, type_of_unions (physical_type_of p.arrow_type) c.data_type.ensures.kind) in
    let none = no_rows p.child_rows (sym (ap option_copied c.in-None.is) ∙ c.offsets.ensures.same) in
    record {
      sparse = record {
        kind = kind;
        mode = c.offsets.ensures.mode ∙ ap mode_by none;
        child_rows = none;
        fields = c.fields.ensures.fields;
        some = c.fields.ensures.some;
        spans = c.fields.ensures.spans;
        known = c.types.ensures.known;
      };
      lengths = c.requires.lengths ∙ (sym c.len.ensures.rows ∙ c.len.ensures.types);
      count = c.requires.count;
    }
