use Rattle.arrow_choice.proofs.Common.{arith, ◌≡◌, ◌++◌, ◌∙◌, Err, [], ◌∷◌, ap, length, map, rules, subst, sym, option_copied, length-map, map-append, All-append, All-cons, All-nil, PhysicalType, Fits, physical_type_of, Boolean, type_of, null_slot-no_union, boolean_rows, passed_on, any_array_rows, any_array_type, layout_of, depth, depth_of_all, to_layouts, type_of_layout, IsStruct, struct_rows, depth_at, struct_types, type_of_structs, MarksChosen, makes_next, All, ℕ, types_of_layouts, HoldsStruct}
use Rattle.arrow_types.specs.declared.datatypes.physical_type.PhysicalType.TheVariants as physical
use Rattle.arrow_choice.proofs.ChoiceLemmas.{unfit}
use Rattle.arrow_choice.proofs.ChosenFields.{ArePair, ChoosesStructs, fields_chosen, fields_fit, fields_hold, fields_refused, left_long, pair_more, pair_refused, pair_types, right_long}
use Rattle.arrow_choice.proofs.if_then_else.+choose.Goals as goal
use Rattle.arrow_choice.proofs.if_then_else.+choose.Goals.{structure::chosen_fields-After-index-right-i, structure::chosen_structs-After-with_validity-among}

no_both : {p : PhysicalType} → p ≡ physical.Struct → p ≡ physical.Union → ⊥
no_both one other = cc

pub chosen_rows-returns-in_err-chosen_structs-in-Struct-Struct-clause-overflow : goal.chosen_rows-returns-in_err-chosen_structs-in-Struct-Struct-clause-overflow
chosen_rows-returns-in_err-chosen_structs-in-Struct-Struct-clause-overflow t c overflows =
    rw (c.in-Struct-Struct.is-0, c.in-Struct-Struct.is-1) (c.in_err-chosen_structs-in-Struct-Struct.ensures.overflow (ap Err (passed_on c.from_residual-in_err-chosen_structs-in-Struct-Struct.result _ _ c.from_residual-in_err-chosen_structs-in-Struct-Struct.ensures.1 overflows)))

pub chosen_rows-returns-in_err-chosen_byte_rows-in-Utf8-Utf8-clause-overflow : goal.chosen_rows-returns-in_err-chosen_byte_rows-in-Utf8-Utf8-clause-overflow
chosen_rows-returns-in_err-chosen_byte_rows-in-Utf8-Utf8-clause-overflow t c overflows =
    unfit (boolean_rows c.args.predicate.now) _ _ _ _ c.in-Utf8-Utf8.is-0 c.in-Utf8-Utf8.is-1 (c.in_err-chosen_byte_rows-in-Utf8-Utf8.ensures.overflow (ap Err (passed_on c.from_residual-in_err-chosen_byte_rows-in-Utf8-Utf8.result _ _ c.from_residual-in_err-chosen_byte_rows-in-Utf8-Utf8.ensures.1 overflows)))

pub chosen_rows-returns-in_err-chosen_byte_rows-in-LargeUtf8-LargeUtf8-clause-overflow : goal.chosen_rows-returns-in_err-chosen_byte_rows-in-LargeUtf8-LargeUtf8-clause-overflow
chosen_rows-returns-in_err-chosen_byte_rows-in-LargeUtf8-LargeUtf8-clause-overflow t c overflows =
    unfit (boolean_rows c.args.predicate.now) _ _ _ _ c.in-LargeUtf8-LargeUtf8.is-0 c.in-LargeUtf8-LargeUtf8.is-1 (c.in_err-chosen_byte_rows-in-LargeUtf8-LargeUtf8.ensures.overflow (ap Err (passed_on c.from_residual-in_err-chosen_byte_rows-in-LargeUtf8-LargeUtf8.result _ _ c.from_residual-in_err-chosen_byte_rows-in-LargeUtf8-LargeUtf8.ensures.1 overflows)))

pub chosen_rows-returns-in_err-chosen_byte_rows-in-Binary-Binary-clause-overflow : goal.chosen_rows-returns-in_err-chosen_byte_rows-in-Binary-Binary-clause-overflow
chosen_rows-returns-in_err-chosen_byte_rows-in-Binary-Binary-clause-overflow t c overflows =
    unfit (boolean_rows c.args.predicate.now) _ _ _ _ c.in-Binary-Binary.is-0 c.in-Binary-Binary.is-1 (c.in_err-chosen_byte_rows-in-Binary-Binary.ensures.overflow (ap Err (passed_on c.from_residual-in_err-chosen_byte_rows-in-Binary-Binary.result _ _ c.from_residual-in_err-chosen_byte_rows-in-Binary-Binary.ensures.1 overflows)))

pub chosen_rows-returns-in_err-chosen_byte_rows-in-LargeBinary-LargeBinary-clause-overflow : goal.chosen_rows-returns-in_err-chosen_byte_rows-in-LargeBinary-LargeBinary-clause-overflow
chosen_rows-returns-in_err-chosen_byte_rows-in-LargeBinary-LargeBinary-clause-overflow t c overflows =
    unfit (boolean_rows c.args.predicate.now) _ _ _ _ c.in-LargeBinary-LargeBinary.is-0 c.in-LargeBinary-LargeBinary.is-1 (c.in_err-chosen_byte_rows-in-LargeBinary-LargeBinary.ensures.overflow (ap Err (passed_on c.from_residual-in_err-chosen_byte_rows-in-LargeBinary-LargeBinary.result _ _ c.from_residual-in_err-chosen_byte_rows-in-LargeBinary-LargeBinary.ensures.1 overflows)))

-- the two columns that come next
pair : (t : ℕ) (c : structure::chosen_fields-After-index-right-i t) → ArePair c.args.left.now c.args.right.now c.loop-i.i c.index-left-i.result c.index-right-i.result
pair t c =
    record { within = c.loop-i-test.true; behind = omega (arith, c.loop-i-test.true, c.if-prove.false); left = c.index-left-i.is; right = c.index-right-i.is }

pub structure::chosen_fields-chosen_rows-requires : goal.structure::chosen_fields-chosen_rows-requires
structure::chosen_fields-chosen_rows-requires t c =
    let both = pair t (goal.at.structure::chosen_fields-chosen_rows-requires t c).After-index-right-i in
    let long = ap (λ a. length (any_array_rows a)) both.left ∙ c.requires.left c.loop-i.i c.index-left-i.result both.within in
    let long_too = ap (λ a. length (any_array_rows a)) both.right ∙ c.requires.right c.loop-i.i c.index-right-i.result both.behind in
    (omega (arith, c.decreases, ap (λ a. depth (layout_of a)) both.left, depth_at layout_of c.args.left.now c.loop-i.i c.index-left-i.result both.within), (pair_types both c.requires.one_type, (long, long_too)))

pub structure::chosen_fields-returns-in_err-chosen_rows-clause-overflow : goal.structure::chosen_fields-returns-in_err-chosen_rows-clause-overflow
structure::chosen_fields-returns-in_err-chosen_rows-clause-overflow t c overflows =
    let both = pair t (goal.at.structure::chosen_fields-returns-in_err-chosen_rows-clause-overflow t c).After-index-right-i in
    pair_refused both (boolean_rows c.args.predicate.now) (c.in_err-chosen_rows.ensures.overflow (ap Err (passed_on c.from_residual-in_err-chosen_rows.result _ _ c.from_residual-in_err-chosen_rows.ensures.1 overflows)))

pub structure::chosen_fields-loop-i-preserved : goal.structure::chosen_fields-loop-i-preserved
structure::chosen_fields-loop-i-preserved t c =
    let both = pair t (goal.at.structure::chosen_fields-loop-i-preserved t c).After-index-right-i in
    let x = c.in_ok-chosen_rows.field-0 in
    let done = c.loop-i.all.items in
    let P = λ (a : _). Fits (any_array_type a) (any_array_rows a) in
    let next = (λ j. c.loop-i.invariant.rows j ++ c.in_ok-chosen_rows.ensures.rows j ∷ []) ∙ sym (pair_more both (boolean_rows c.args.predicate.now) (omega (arith, c.if-prove.false))) in
    record {
      types = ap (map any_array_type) c.in_ok-push.ensures.items ∙ makes_next any_array_type any_array_type done c.args.left.now x c.index-left-i.result c.loop-i.i both.within both.left c.in_ok-chosen_rows.ensures.array_type c.loop-i.invariant.types;
      rows = ap (map any_array_rows) c.in_ok-push.ensures.items ∙ (map-append any_array_rows done (x ∷ []) ∙ next);
      fits = subst (All P) (sym c.in_ok-push.ensures.items) (All-append P done (x ∷ []) c.loop-i.invariant.fits (All-cons P x [] c.in_ok-chosen_rows.ensures.fits (All-nil P)));
    }

-- the structs, and what is chosen of them
chosen_of : (t : ℕ) (c : structure::chosen_structs-After-with_validity-among t) → ChoosesStructs c.args.predicate.now c.args.lhs.now c.args.rhs.now c.values-left.result.now c.values-right.result.now c.in_ok-validity.validity (boolean_rows c.with_validity-among.result)
chosen_of t c =
    let p = c.args.predicate.now in
    let l = c.args.lhs.now in
    let r = c.args.rhs.now in
    let ls = c.values-left.result.now in
    let rs = c.values-right.result.now in
    let v = c.in_ok-validity.validity in
    let kind = type_of_structs (physical_type_of l.arrow_type) c.data_type-data_type.ensures.kind in
    let held : IsStruct l = record { kind = (c.data_type-data_type.ensures.carried, kind); children = c.values-left.ensures.fields; some = c.values-left.ensures.some; fits = (c.values-left.ensures.lengths, c.validity.ensures.fits) } in
    let held_too : IsStruct r = record { kind = rw c.requires.one_type held.kind; children = c.values-right.ensures.fields; some = c.values-right.ensures.some; fits = (c.values-right.ensures.lengths, c.validity-2.ensures.fits) } in
    record {
      held_left = held;
      held_right = held_too;
      left = c.values-left.ensures.same;
      right = c.values-right.ensures.same;
      types = sym (types_of_layouts rs) ∙ (ap (map type_of_layout) c.values-right.ensures.same ∙ (struct_types r l held_too held c.requires.one_type ∙ (ap (map type_of_layout) (sym c.values-left.ensures.same) ∙ types_of_layouts ls)));
      lengths = c.requires.lengths;
      fits = c.in_ok-validity.ensures.predicate;
      none = null_slot-no_union l.arrow_type (λ is. no_both kind is);
      marks = subst (λ w. MarksChosen p l.validity w v) c.validity-2.ensures.same (subst (λ w. MarksChosen p w (option_copied c.validity-2.result) v) c.validity.ensures.same c.in_ok-validity.ensures.ok);
      among = search rules;
    }

pub structure::chosen_structs-chosen_fields-requires : goal.structure::chosen_structs-chosen_fields-requires
structure::chosen_structs-chosen_fields-requires t c =
    let s = chosen_of t (goal.at.structure::chosen_structs-chosen_fields-requires t c).After-with_validity-among in
    (omega (arith, c.decreases, ap (λ cs. depth_of_all (to_layouts cs)) c.values-left.ensures.same), (s.types, (left_long s, right_long s)))

pub structure::chosen_structs-returns-in_err-fields-clause-overflow : goal.structure::chosen_structs-returns-in_err-fields-clause-overflow
structure::chosen_structs-returns-in_err-fields-clause-overflow t c overflows =
    let s = chosen_of t (goal.at.structure::chosen_structs-returns-in_err-fields-clause-overflow t c).After-with_validity-among in
    fields_refused s (c.in_err-fields.ensures.overflow (ap Err (passed_on c.from_residual-in_err-fields.result _ _ c.from_residual-in_err-fields.ensures.1 overflows)))

pub structure::chosen_structs-new-requires : goal.structure::chosen_structs-new-requires
structure::chosen_structs-new-requires t c =
    let s = chosen_of t (goal.at.structure::chosen_structs-new-requires t c).After-with_validity-among in
    let same : type_of c.in_ok-clone-3.field-0 ≡ c.args.lhs.now.arrow_type = search rules in
    subst (λ u. HoldsStruct u (map layout_of c.in_ok-fields.fields.items) c.in_ok-validity.validity) (sym same) (fields_hold s c.in_ok-fields.fields.items c.in_ok-fields.ensures.types c.in_ok-fields.ensures.rows)

pub structure::chosen_structs-returns-clause-rows : goal.structure::chosen_structs-returns-clause-rows
structure::chosen_structs-returns-clause-rows t c =
    let s = chosen_of t (goal.at.structure::chosen_structs-returns-clause-rows t c).After-with_validity-among in
    ap struct_rows c.new.ensures ∙ fields_chosen s c.in_ok-fields.fields.items c.in_ok-fields.ensures.types c.in_ok-fields.ensures.rows

pub structure::chosen_structs-returns-clause-fits : goal.structure::chosen_structs-returns-clause-fits
structure::chosen_structs-returns-clause-fits t c =
    let s = chosen_of t (goal.at.structure::chosen_structs-returns-clause-fits t c).After-with_validity-among in
    let l = c.args.lhs.now in
    let same : c.new.result.arrow_type ≡ l.arrow_type = search rules in
    let fit = fields_fit s c.in_ok-fields.fields.items c.in_ok-fields.ensures.types c.in_ok-fields.ensures.rows c.in_ok-fields.ensures.fits (omega (arith, c.len.ensures.values, c.len.type_inv, length-map c.args.predicate.now.values Boolean)) in
    subst (λ u. Fits u (struct_rows c.new.result)) (sym same) (subst (Fits l.arrow_type) (sym (structure::chosen_structs-returns-clause-rows t c)) fit)
