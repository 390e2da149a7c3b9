use Rattle.arrow_select.proofs.Common.{◌≡◌, ◌<◌, ◌^◌, ◌∙◌, arith, ap, length, map, rules, subst, sym, IfSome, option_copied, option_map, map-map, PhysicalType, physical_type_of, select, type_of, length-select, null_slot-no_union, layout_of, type_of_layout, IsStruct, struct_rows, field_types, length-struct_rows, type_of_structs, KeptColumns, at_set, mask_in, column_long}
use Rattle.arrow_types.specs.declared.datatypes.physical_type.PhysicalType.TheVariants as physical
use Rattle.arrow_select.proofs.KeptFields.{struct_kept, struct_kept_columns, struct_kept_fits}
use Rattle.arrow_select.proofs.filter.structure.filter_struct.Goals as goal

no_both : {p : PhysicalType} → p ≡ physical.Struct → p ≡ physical.Union → ⊥
no_both one other = cc

pub kept_columns-requires-clause-lengths : goal.kept_columns-requires-clause-lengths
kept_columns-requires-clause-lengths c k d within =
    let p = c.args.array.now in
    let mask = mask_in c.args.selection in
    let columns = c.values-columns.result.now in
    let kind = type_of_structs (physical_type_of p.arrow_type) c.data_type-data_type.ensures.kind in
    let held : IsStruct p = record { kind = (c.data_type-data_type.ensures.carried, kind); children = c.values-columns.ensures.fields; some = c.values-columns.ensures.some; fits = (c.values-columns.ensures.lengths, c.validity.ensures.fits) } in
    column_long p columns held c.values-columns.ensures.same k d within ∙ (sym (length-struct_rows p held) ∙ sym c.requires.lengths)

pub new-requires : goal.new-requires
new-requires c =
    let p = c.args.array.now in
    let mask = mask_in c.args.selection in
    let columns = c.values-columns.result.now in
    let kind = type_of_structs (physical_type_of p.arrow_type) c.data_type-data_type.ensures.kind in
    let held : IsStruct p = record { kind = (c.data_type-data_type.ensures.carried, kind); children = c.values-columns.ensures.fields; some = c.values-columns.ensures.some; fits = (c.values-columns.ensures.lengths, c.validity.ensures.fits) } in
    let none = null_slot-no_union p.arrow_type (λ is. no_both kind is) in
    let arrays = c.in-Some.fields.items in
    let kept = subst (λ v. KeptColumns mask v columns arrays) c.validity.ensures.same (subst (λ o. IfSome o (λ fields. KeptColumns mask (option_copied c.validity.result) columns fields.items)) c.in-Some.is c.in_ok-fields.ensures.ok) in
    let is = c.in_ok-validity.ensures.ok ∙ ap (option_map (at_set mask)) c.validity-2.ensures.same in
    let same : type_of c.in_ok-clone.field-0 ≡ p.arrow_type = search rules in
    let typed : map type_of_layout (map layout_of arrays) ≡ field_types p.arrow_type = map-map type_of_layout layout_of arrays ∙ (kept.types ∙ (sym (map-map type_of_layout layout_of columns) ∙ (ap (map type_of_layout) c.values-columns.ensures.same ∙ held.children))) in
    let fits = struct_kept_columns p columns held c.values-columns.ensures.same none mask c.requires.lengths arrays kept c.in_ok-validity.validity is in
    (rw same held.kind, rw same typed, fits)

pub returns-clause-ok : goal.returns-clause-ok
returns-clause-ok c =
    let p = c.args.array.now in
    let mask = mask_in c.args.selection in
    let columns = c.values-columns.result.now in
    let kind = type_of_structs (physical_type_of p.arrow_type) c.data_type-data_type.ensures.kind in
    let held : IsStruct p = record { kind = (c.data_type-data_type.ensures.carried, kind); children = c.values-columns.ensures.fields; some = c.values-columns.ensures.some; fits = (c.values-columns.ensures.lengths, c.validity.ensures.fits) } in
    let none = null_slot-no_union p.arrow_type (λ is. no_both kind is) in
    let arrays = c.in-Some.fields.items in
    let kept = subst (λ v. KeptColumns mask v columns arrays) c.validity.ensures.same (subst (λ o. IfSome o (λ fields. KeptColumns mask (option_copied c.validity.result) columns fields.items)) c.in-Some.is c.in_ok-fields.ensures.ok) in
    let is = c.in_ok-validity.ensures.ok ∙ ap (option_map (at_set mask)) c.validity-2.ensures.same in
    let same : type_of c.in_ok-clone.field-0 ≡ p.arrow_type = search rules in
    let few : length (select mask (struct_rows p)) < 2 ^ 64 = omega (arith, length-select mask (struct_rows p) c.requires.lengths, c.requires.count, c.ranges.count.fits) in
    record {
      array_type = ap (λ q. q.arrow_type) c.new.ensures ∙ same;
      rows = ap struct_rows c.new.ensures ∙ struct_kept p columns held c.values-columns.ensures.same none mask c.requires.lengths arrays kept c.in_ok-validity.validity is;
      fits = struct_kept_fits p columns held c.values-columns.ensures.same none mask c.requires.lengths arrays kept few;
    }
