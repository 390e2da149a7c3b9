use Rattle.arrow_take.proofs.Common.{◌≡◌, ◌+◌, ◌<◌, ◌∙◌, [], ◌∷◌, Err, arith, ap, length, map, refl, rules, subst, sym, option_map, All, length-append, length-map, take_all, All-more, All-same, slice_get_read, PhysicalType, Dense, IsTypeId, Fits, physical_type_of, gather, type_of, null_slot-no_union, rows_by, passed_on, any_array_rows, any_array_type, layout_of, AreKeys, depth, depth_of_all, to_layouts, type_of_layout, struct_rows, field_types, mode_in, HoldsUnion, child_rows_of, union_rows, depth_at, type_of_structs, union_type, type_of_unions, MarksTaken, taken_rows, valid_index, HasPart, HaveParts, ArePlaces, HasOffsets, HasUnionParts, SomeRankPasses, map-map, makes_next, ℕ}
use Rattle.arrow_types.specs.declared.datatypes.physical_type.PhysicalType.TheVariants as physical
use Rattle.arrow_take.proofs.AnswerLemmas.{passes_on}
use Rattle.arrow_take.proofs.DenseRows.{ranks_pass}
use Rattle.arrow_take.proofs.IndexLemmas.{length-gather}
use Rattle.arrow_take.proofs.MadeUnions.{MakesUnion, PartsOf}
use Rattle.arrow_take.proofs.SparseRows.{parts_next}
use Rattle.arrow_take.proofs.TakenFields.{TakesFields, columns_inside, fields_pass, struct_fits, struct_taken, taken_columns_fit}
use Rattle.arrow_take.proofs.TakenUnions.{ids_counted, part_passes, parts_pass, union_made}
use Rattle.arrow_take.proofs.TakenVariants.{TakesUnion, known_rows}
use Rattle.arrow_take.proofs.take.+take.Given as given
use Rattle.arrow_take.proofs.take.+take.Goals as goal
use Rattle.arrow_take.proofs.take.+take.Goals.{structure::take-After-values, union::take_parts-In_ok-data_type, union::take_parts-In_ok-types}

no_both : {p : PhysicalType} → p ≡ physical.Struct → p ≡ physical.Union → ⊥
no_both one other = cc

pub take-returns-in_err-take-in-Struct-clause-overflow :
    goal.take-returns-in_err-take-in-Struct-clause-overflow
take-returns-in_err-take-in-Struct-clause-overflow g t c overflows =
    rw c.in-Struct.is (c.in_err-take-in-Struct.ensures.overflow (ap Err (passed_on c.from_residual.result _ _ c.from_residual.ensures.1 overflows)))

pub take-returns-in_ok-take-in-Struct-clause-rows :
    goal.take-returns-in_ok-take-in-Struct-clause-rows
take-returns-in_ok-take-in-Struct-clause-rows g t c = rw c.in-Struct.is c.in_ok-take-in-Struct.ensures.rows

pub take-returns-in_err-take-in-Union-clause-overflow :
    goal.take-returns-in_err-take-in-Union-clause-overflow
take-returns-in_err-take-in-Union-clause-overflow g t c overflows =
    let p = c.in-Union.values in
    let indices = rows_by (map g.I.NativeType.slot) c.args.indices.now in
    let over = c.in_err-take-in-Union.ensures.answer.overflow (ap Err (passed_on c.from_residual-in_err-take-in-Union.result _ _ c.from_residual-in_err-take-in-Union.ensures.1 overflows)) in
    rw c.in-Union.is (subst (λ u. Fits u (gather (union_rows p) indices u) → ⊥) (sym (union_type p)) over)

pub take-returns-in_ok-take-in-Union-clause-array_type :
    goal.take-returns-in_ok-take-in-Union-clause-array_type
take-returns-in_ok-take-in-Union-clause-array_type g t c =
    rw c.in-Union.is (union_type c.in_ok-take-in-Union.field-0 ∙ (c.in_ok-take-in-Union.ensures.answer.ok.array_type ∙ sym (union_type c.in-Union.values)))

pub take-returns-in_ok-take-in-Union-clause-rows : goal.take-returns-in_ok-take-in-Union-clause-rows
take-returns-in_ok-take-in-Union-clause-rows g t c =
    let p = c.in-Union.values in
    let indices = rows_by (map g.I.NativeType.slot) c.args.indices.now in
    rw c.in-Union.is (c.in_ok-take-in-Union.ensures.answer.ok.rows ∙ ap (λ u. gather (union_rows p) indices u) (sym (union_type p)))

pub take-returns-in_ok-take-in-Union-clause-fits : goal.take-returns-in_ok-take-in-Union-clause-fits
take-returns-in_ok-take-in-Union-clause-fits g t c =
    let x = c.in_ok-take-in-Union.field-0 in
    let given = c.in_ok-take-in-Union.ensures.answer.ok in
    subst (λ u. Fits u (union_rows x)) (sym (union_type x ∙ given.array_type)) (subst (Fits c.in-Union.values.arrow_type) (sym given.rows) given.fits)

pub structure::take_fields-take-requires : goal.structure::take_fields-take-requires
structure::take_fields-take-requires g t c κs within =
    let indices = rows_by (map g.I.NativeType.slot) c.args.indices.now in
    let i = c.loop-field.field-index in
    let item = c.field-item.result in
    let inside = subst (λ a. AreKeys (length (any_array_rows a)) indices) (sym c.field-item.is) (c.requires.inside i item c.loop-field-test.true) in
    (omega (arith, c.decreases, ap (λ a. depth (layout_of a)) c.field-item.is, depth_at layout_of c.args.fields.now i item c.loop-field-test.true), (within, inside))

pub structure::take_fields-returns-in_err-take-clause-overflow :
    goal.structure::take_fields-returns-in_err-take-clause-overflow
structure::take_fields-returns-in_err-take-clause-overflow g t c overflows =
    let over = c.in_err-take.ensures.overflow (ap Err (passed_on c.from_residual-in_err-take.result _ _ c.from_residual-in_err-take.ensures.1 overflows)) in
    (c.loop-field.field-index, c.field-item.result, slice_get_read c.args.fields.now (length c.args.fields.now) c.loop-field.field-index c.field-item.result refl c.loop-field-test.true c.field-item.is, over)

pub structure::take_fields-loop-field-preserved : goal.structure::take_fields-loop-field-preserved
structure::take_fields-loop-field-preserved g t c =
    let indices = rows_by (map g.I.NativeType.slot) c.args.indices.now in
    let fields = c.args.fields.now in
    let i = c.loop-field.field-index in
    let item = c.field-item.result in
    let x = c.in_ok-take.field-0 in
    let fit = subst (Fits (any_array_type item)) c.in_ok-take.ensures.rows (subst (λ u. Fits u (any_array_rows x)) c.in_ok-take.ensures.array_type c.in_ok-take.ensures.fits) in
    let P = λ (a : _). Fits (any_array_type a) (taken_rows indices a) in
    record {
      types = ap (map any_array_type) c.in_ok-push.ensures.items ∙ makes_next any_array_type any_array_type c.loop-field.taken.items fields x item i c.loop-field-test.true c.field-item.is c.in_ok-take.ensures.array_type c.loop-field.invariant.types;
      rows = ap (map any_array_rows) c.in_ok-push.ensures.items ∙ makes_next any_array_rows (taken_rows indices) c.loop-field.taken.items fields x item i c.loop-field-test.true c.field-item.is c.in_ok-take.ensures.rows c.loop-field.invariant.rows;
      fits = All-more P fields i item c.loop-field-test.true c.loop-field.invariant.fits (subst P c.field-item.is fit);
    }

pub structure::take_fields-returns-clause-fits : goal.structure::take_fields-returns-clause-fits
structure::take_fields-returns-clause-fits g t c =
    let indices = rows_by (map g.I.NativeType.slot) c.args.indices.now in
    All-same (λ a. Fits (any_array_type a) (taken_rows indices a)) c.args.fields.now _ (sym (take_all c.loop-field.field-index c.args.fields.now (omega (arith, c.loop-field-test.false)))) c.loop-field.invariant.fits

-- what is known of a struct, once there are the indices of its columns and its validity
known : (g : given.Over) (t : ℕ) (c : structure::take-After-values g t) → TakesFields c.args.values.now c.values.result.now (rows_by (map g.I.NativeType.slot) c.args.indices.now) (rows_by (map g.I.NativeType.slot) c.in_ok-valid.valid) c.in_ok-validity.validity
known g t c =
    let p = c.args.values.now in
    let indices = rows_by (map g.I.NativeType.slot) c.args.indices.now in
    let kind = type_of_structs (physical_type_of p.arrow_type) c.data_type.ensures.kind in
    record {
      held = record { kind = (c.data_type.ensures.carried, kind); children = c.values.ensures.fields; some = c.values.ensures.some; fits = (c.values.ensures.lengths, c.validity.ensures.fits) };
      children = c.values.ensures.same;
      none = null_slot-no_union p.arrow_type (λ is. no_both kind is);
      keys = c.requires.inside;
      valid_are = c.in_ok-valid.ensures.ok ∙ ap (λ v. map (valid_index v) indices) c.validity-2.ensures.same;
      marks = subst (λ v. MarksTaken v indices c.in_ok-validity.validity) c.validity.ensures.same c.in_ok-validity.ensures.ok;
    }

pub structure::take-take_fields-requires : goal.structure::take-take_fields-requires
structure::take-take_fields-requires g t c κs within =
    let inside = columns_inside (known g t (goal.at.structure::take-take_fields-requires g t c).After-values) in
    (omega (arith, c.decreases, ap (λ ls. depth_of_all (to_layouts ls)) c.values.ensures.same), (within, inside))

pub structure::take-returns-in_err-fields-clause-overflow :
    goal.structure::take-returns-in_err-fields-clause-overflow
structure::take-returns-in_err-fields-clause-overflow g t c overflows =
    let some = c.in_err-fields.ensures.overflow (ap Err (passed_on c.from_residual-in_err-fields.result _ _ c.from_residual-in_err-fields.ensures.1 overflows)) in
    fields_pass (known g t (goal.at.structure::take-returns-in_err-fields-clause-overflow g t c).After-values) some

pub structure::take-new-requires : goal.structure::take-new-requires
structure::take-new-requires g t c =
    let takes = known g t (goal.at.structure::take-new-requires g t c).After-values in
    let same : type_of c.in_ok-data_type.data_type ≡ c.args.values.now.arrow_type = search rules in
    let types : map type_of_layout (map layout_of c.in_ok-fields.fields.items) ≡ field_types c.args.values.now.arrow_type = map-map type_of_layout layout_of c.in_ok-fields.fields.items ∙ (c.in_ok-fields.ensures.types ∙ (sym (map-map type_of_layout layout_of c.values.result.now) ∙ (ap (map type_of_layout) takes.children ∙ takes.held.children))) in
    (rw same takes.held.kind, rw same types, taken_columns_fit takes c.in_ok-fields.fields.items c.in_ok-fields.ensures.rows)

pub structure::take-returns-clause-rows : goal.structure::take-returns-clause-rows
structure::take-returns-clause-rows g t c =
    let takes = known g t (goal.at.structure::take-returns-clause-rows g t c).After-values in
    ap struct_rows c.new.ensures ∙ struct_taken takes c.in_ok-fields.fields.items c.in_ok-fields.ensures.rows

pub structure::take-returns-clause-fits : goal.structure::take-returns-clause-fits
structure::take-returns-clause-fits g t c =
    let p = c.args.values.now in
    let same : c.new.result.arrow_type ≡ p.arrow_type = search rules in
    let fit = struct_fits (known g t (goal.at.structure::take-returns-clause-fits g t c).After-values) (omega (arith, c.len.ensures.rows)) c.in_ok-fields.ensures.fits in
    subst (λ u. Fits u (struct_rows c.new.result)) (sym same) (subst (Fits p.arrow_type) (sym (structure::take-returns-clause-rows g t c)) fit)

-- unions

pub union::take-take_parts-requires : goal.union::take-take_parts-requires
union::take-take_parts-requires g t c κs within =
    let p = c.args.values.now in
    let held : HasUnionParts p = record {
      kind = (c.data_type.ensures.carried, type_of_unions (physical_type_of p.arrow_type) c.data_type.ensures.kind);
      mode = c.offsets.ensures.mode;
      fields = c.fields.ensures.fields;
      some = c.fields.ensures.some;
      spans = c.fields.ensures.spans;
      long = sym c.len.ensures.rows ∙ c.len.ensures.types;
      known = c.types.ensures.known;
    } in
    (omega (arith, c.decreases), (within, (held, (c.if-can_name.ensures refl, subst (λ n. AreKeys n (rows_by (map g.I.NativeType.slot) c.args.indices.now)) held.long c.requires.inside))))

pub union::take_field-take-requires : goal.union::take_field-take-requires
union::take_field-take-requires g t c κs within =
    let names = c.in_ok-child.ensures.ok in
    (omega (arith, c.decreases, names.less_deep), (within, names.inside))

pub union::take_field-returns-in_err-taken-clause-overflow :
    goal.union::take_field-returns-in_err-taken-clause-overflow
union::take_field-returns-in_err-taken-clause-overflow g t c overflows =
    let over = c.in_err-taken.ensures.overflow (ap Err (passed_on c.from_residual-in_err-taken.result _ _ c.from_residual-in_err-taken.ensures.1 overflows)) in
    part_passes c.in_ok-child.ensures.ok over

pub union::take_field-returns-clause-part : goal.union::take_field-returns-clause-part
union::take_field-returns-clause-part g t c =
    let given = c.in_ok-taken.ensures in
    let names = c.in_ok-child.ensures.ok in
    record { array_type = given.array_type ∙ names.array_type; rows = given.rows ∙ names.rows; fits = given.fits }

pub union::take_fields-loop-f-init : goal.union::take_fields-loop-f-init
union::take_fields-loop-f-init g t c =
    let none = ap length c.in_ok-fields.ensures.items in
    record { count = none; parts = λ f d within. absurd (omega (arith, within, none)) }

pub union::take_fields-take_field-requires : goal.union::take_fields-take_field-requires
union::take_fields-take_field-requires g t c κs within =
    let fields = c.fields-count.result.now in
    let field : c.loop-f.f < length c.args.values.now.children = omega (arith, c.loop-f-test.true, length-map fields layout_of, ap length c.fields-count.ensures.same) in
    (omega (arith, c.decreases), (within, (c.requires.union, (c.requires.inside, (c.requires.types, (c.requires.places, field))))))

pub union::take_fields-returns-in_err-take_field-clause-overflow :
    goal.union::take_fields-returns-in_err-take_field-clause-overflow
union::take_fields-returns-in_err-take_field-clause-overflow g t c overflows =
    let p = c.args.values.now in
    let fields = c.fields-count.result.now in
    let over = c.in_err-take_field.ensures.overflow (ap Err (passed_on c.from_residual-in_err-take_field.result _ _ c.from_residual-in_err-take_field.ensures.1 overflows)) in
    (c.loop-f.f, omega (arith, c.loop-f-test.true, length-map fields layout_of, ap length c.fields-count.ensures.same, ap length c.fields-count.ensures.fields, length-map p.children type_of_layout), over)

pub union::take_fields-loop-f-preserved : goal.union::take_fields-loop-f-preserved
union::take_fields-loop-f-preserved g t c =
    let p = c.args.values.now in
    let indices = rows_by (map g.I.NativeType.slot) c.args.indices.now in
    let made = gather (union_rows p) indices p.arrow_type in
    let done = c.loop-f.fields.items in
    let x = c.in_ok-take_field.field-0 in
    let so_far = c.loop-f.invariant in
    record {
      count = ap length c.in_ok-push.ensures.items ∙ (length-append done (x ∷ []) ∙ ap (λ n. n + 1) so_far.count);
      parts = subst (HaveParts p.arrow_type made) (sym c.in_ok-push.ensures.items) (parts_next p.arrow_type made done x so_far.parts (subst (λ k. HasPart p.arrow_type made k x) (sym so_far.count) c.in_ok-take_field.ensures.part));
    }

pub union::take_fields-returns-clause-count : goal.union::take_fields-returns-clause-count
union::take_fields-returns-clause-count g t c =
    let p = c.args.values.now in
    let fields = c.fields-count.result.now in
    omega (arith, c.loop-f.invariant.count, c.loop-f-test.false, length-map fields layout_of, ap length c.fields-count.ensures.same, ap length c.fields-count.ensures.fields, length-map p.children type_of_layout)

-- what is known of a union, once there are the type ids of the rows
takes : (g : given.Over) (t : ℕ) (c : union::take_parts-In_ok-types g t) → TakesUnion c.args.values.now (rows_by (map g.I.NativeType.slot) c.args.indices.now) c.in_ok-types.types.items
takes g t c =
    record { held = c.requires.union; keys = c.requires.inside; types_are = c.in_ok-types.ensures.ok }

pub union::take_parts-take_offsets-requires : goal.union::take_parts-take_offsets-requires
union::take_parts-take_offsets-requires g t c =
    record { ids = subst (All IsTypeId) (sym c.deref.ensures.value) (ids_counted (takes g t (goal.at.union::take_parts-take_offsets-requires g t c).In_ok-types)) }

pub union::take_parts-take_fields-requires : goal.union::take_parts-take_fields-requires
union::take_parts-take_fields-requires g t c κs within =
    let slot = g.I.NativeType.slot in
    let are = subst (λ o. ArePlaces c.args.values.now (rows_by (map slot) c.args.indices.now) (option_map (rows_by (map slot)) o)) (sym c.as_ref.ensures.value) c.in_ok-places.ensures.ok in
    (omega (arith, c.decreases), (within, (c.requires.union, (c.requires.inside, (c.deref-2.ensures.value ∙ c.in_ok-types.ensures.ok, are)))))

pub union::take_parts-returns-in_err-offsets : goal.union::take_parts-returns-in_err-offsets
union::take_parts-returns-in_err-offsets g t c =
    let known = known_rows (takes g t (goal.at.union::take_parts-returns-in_err-offsets g t c).In_ok-types) in
    let over = subst (λ ids. (mode_in c.args.values.now.arrow_type ≡ Dense) × SomeRankPasses ids) c.deref.ensures.value in
    record { answer = passes_on _ _ _ _ _ _ c.from_residual-in_err-offsets.ensures.1 (λ same. (let passes = over (c.in_err-offsets.ensures.overflow (ap Err same)) in ranks_pass known passes.0 passes.1)) c.in_err-offsets.ensures.others }

pub union::take_parts-returns-in_err-fields : goal.union::take_parts-returns-in_err-fields
union::take_parts-returns-in_err-fields g t c =
    let known = known_rows (takes g t (goal.at.union::take_parts-returns-in_err-fields g t c).In_ok-types) in
    record { answer = passes_on _ _ _ _ _ _ c.from_residual-in_err-fields.ensures.1 (λ same. parts_pass known (c.in_err-fields.ensures.overflow (ap Err same))) c.in_err-fields.ensures.others }

-- the union that is made
made : (g : given.Over) (t : ℕ) (c : union::take_parts-In_ok-data_type g t) → MakesUnion c.args.values.now.arrow_type (gather (union_rows c.args.values.now) (rows_by (map g.I.NativeType.slot) c.args.indices.now) c.args.values.now.arrow_type) c.in_ok-types-2.types c.in_ok-offsets.offsets c.in_ok-fields.fields.items
made g t c =
    let p = c.args.values.now in
    let indices = rows_by (map g.I.NativeType.slot) c.args.indices.now in
    let takes : TakesUnion p indices c.in_ok-types-2.types = record { held = c.requires.union; keys = c.requires.inside; types_are = c.in_ok-types-2.ensures.ok ∙ c.in_ok-types.ensures.ok } in
    let parts : PartsOf p.arrow_type (gather (union_rows p) indices p.arrow_type) c.in_ok-types-2.types c.in_ok-fields.fields.items = record { known = known_rows takes; count = c.in_ok-fields.ensures.count; have = c.in_ok-fields.ensures.parts } in
    let offsets = subst (λ zs. HasOffsets (mode_in p.arrow_type) zs c.in_ok-offsets.offsets) (c.deref.ensures.value ∙ sym c.in_ok-types-2.ensures.ok) c.in_ok-offsets.ensures.ok in
    union_made parts (omega (arith, c.len.ensures.rows, length-gather (union_rows p) indices p.arrow_type)) (mode_in p.arrow_type) c.in_ok-offsets.offsets refl offsets

pub union::take_parts-new-requires : goal.union::take_parts-new-requires
union::take_parts-new-requires g t c =
    let same : type_of c.in_ok-data_type.data_type ≡ c.args.values.now.arrow_type = search rules in
    subst (λ u. HoldsUnion u c.in_ok-types-2.types (map layout_of c.in_ok-fields.fields.items) c.in_ok-offsets.offsets) (sym same) (made g t (goal.at.union::take_parts-new-requires g t c).In_ok-data_type).holds

pub union::take_parts-returns : goal.union::take_parts-returns
union::take_parts-returns g t c =
    let same : type_of c.in_ok-data_type.data_type ≡ c.args.values.now.arrow_type = search rules in
    let makes = made g t (goal.at.union::take_parts-returns g t c).In_ok-data_type in
    let rows = ap union_rows c.new.ensures ∙ ((λ i. union_rows (record { arrow_type = same i; types = c.in_ok-types-2.types; child_rows = child_rows_of c.in_ok-offsets.offsets; start = 0; children = map layout_of c.in_ok-fields.fields.items })) ∙ makes.rows) in
    record { answer = record { ok = record { array_type = ap (λ q. q.arrow_type) c.new.ensures ∙ same; rows = rows; fits = makes.fits }; overflow = λ is. cc; others = tt } }
