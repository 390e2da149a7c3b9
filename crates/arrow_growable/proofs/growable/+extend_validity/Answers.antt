use Rattle.arrow_growable.proofs.Common.{arith, ◌≡◌, ◌+◌, ◌*◌, ◌<◌, ◌≤◌, ◌^◌, ◌++◌, ℕ, inl, false, drop, length, map, replicate, take, Some, Err, refl, ap, sym, subst, ◌∙◌, length-map, length-replicate, All-map, Fits, null_slot, type_of, deepest, type_depth, all_changed, written, Grown, FitsItself, FitsWith, null_rows_of, too_many, on_ok, passed_on, grown_of, bound_layouts, AreBoundAs, IsWell, SomeCannotHoldNulls, grown_by_nulls, nested_rows, deepest_child, deepest_of_fields, IsSoundForm, form_of, grown_arrays, GrowsVariants, nth_grown, offsets_in, variant_rows, IsGrownNested, rows_of_all, Bor, List, AnyGrowable, union_layout}
use Rattle.arrow_growable.proofs.EvenLemmas.{no_grown}
use Rattle.arrow_growable.proofs.GrownLemmas.{counts, nulls_refused, slots_refused, LiesSo}
use Rattle.arrow_growable.proofs.LoopLemmas.{as_many_items, bound_after, holds_next, AtChild, child_changed, is_as, less_deep, some_is}
use Rattle.arrow_growable.proofs.StepLemmas.{Step, all_well, bits_counted, failed_parts, fits_step, holds_of, spans_lie, step_nulls, bound_by}
use Rattle.arrow_growable.proofs.UnionBoundLemmas.{bound_next, null_rows_are, nulls_cannot, some_children}
use Rattle.arrow_growable.proofs.UnionChildLemmas.{grown_well, nth_read, nulls_well, on_both, on_four, set_well, given_back}
use Rattle.arrow_growable.proofs.UnionGrowLemmas.{grows_run}
use Rattle.arrow_growable.proofs.UnionStructLemmas.{failed_union, grown_fits, grown_union, held_counted, GrowsUnion}
use Rattle.arrow_growable.proofs.growable.+extend_validity.Goals as goal
use Rattle.arrow_growable.proofs.growable.+extend_validity.Goals.{nested::GrowableNestedGrowable::extend_validity-After-self-4-1, children::extend_all_nulls-In-loop-child, union::GrowableUnionGrowable::extend_validity-After-self-4-1}

-- all children

-- the child whose turn it is
child_now : (t : ℕ) (c : children::extend_all_nulls-In-loop-child t) → AtChild (grown_by_nulls c.args.count) c.loop-child.child-items c.args.children.now c.loop-child.child-index
child_now t c =
    let i = c.loop-child.invariant in
    record { types = λ g. refl; sources = λ g. refl; same = i.0.0; within = omega (arith, c.loop-child-test.true, i.0.0); rest = i.0.1; changed = i.1 }

pub children::extend_all_nulls-extend_nulls-requires : goal.children::extend_all_nulls-extend_nulls-requires
children::extend_all_nulls-extend_nulls-requires t c =
    let at = child_now t (goal.at.children::extend_all_nulls-extend_nulls-requires t c).In-loop-child in
    (omega (arith, c.decreases, less_deep at c.child-item.result), is_as at IsWell c.child-item.result c.requires.well)

pub children::extend_all_nulls-returns-in_err-extend_nulls-clause-kept : goal.children::extend_all_nulls-returns-in_err-extend_nulls-clause-kept
children::extend_all_nulls-returns-in_err-extend_nulls-clause-kept t c =
    bound_after (child_now t (goal.at.children::extend_all_nulls-returns-in_err-extend_nulls-clause-kept t c).In-loop-child) c.extend_nulls.new.child c.child-item.result c.in_err-extend_nulls.ensures.kept

pub children::extend_all_nulls-returns-in_err-extend_nulls-clause-overflow : goal.children::extend_all_nulls-returns-in_err-extend_nulls-clause-overflow
children::extend_all_nulls-returns-in_err-extend_nulls-clause-overflow t c overflows =
    let at = child_now t (goal.at.children::extend_all_nulls-returns-in_err-extend_nulls-clause-overflow t c).In-loop-child in
    let refused = c.in_err-extend_nulls.ensures.overflow (ap Err (passed_on c.from_residual.result _ _ c.from_residual.ensures.1 overflows)) in
    some_is at (λ g. FitsWith g (null_rows_of g c.args.count) → ⊥) c.child-item.result refused

pub children::extend_all_nulls-loop-child-preserved : goal.children::extend_all_nulls-loop-child-preserved
children::extend_all_nulls-loop-child-preserved t c =
    let at = child_now t (goal.at.children::extend_all_nulls-loop-child-preserved t c).In-loop-child in
    let x = c.extend_nulls.new.child in
    let made = c.in_ok-extend_nulls.ensures.ok in
    let next = child_changed at x c.child-item.result made.grown in
    (next.0, next.1, holds_next (λ y. FitsItself (grown_of y)) c.loop-child.child-items c.loop-child.child-index x (omega (arith, c.loop-child-test.true, c.loop-child.invariant.0.0)) c.loop-child.invariant.2 made.fits)

pub children::extend_all_nulls-returns-clause-ok : goal.children::extend_all_nulls-returns-clause-ok
children::extend_all_nulls-returns-clause-ok t c =
    let i = c.loop-child.invariant in
    all_changed grown_of _ c.loop-child.child-items c.args.children.now i.0.0 (λ k d before. i.1 k d (omega (arith, before, c.loop-child-test.false, i.0.0)))

pub children::extend_all_nulls-returns-clause-fits : goal.children::extend_all_nulls-returns-clause-fits
children::extend_all_nulls-returns-clause-fits t c =
    let i = c.loop-child.invariant in
    All-map FitsItself grown_of c.loop-child.child-items (λ k d within. i.2 k d (omega (arith, within, c.loop-child-test.false)))

pub children::extend_all_nulls-returns-clause-kept : goal.children::extend_all_nulls-returns-clause-kept
children::extend_all_nulls-returns-clause-kept t c =
    bound_by (grown_by_nulls c.args.count) _ _ (λ g. refl) (λ g. refl) (children::extend_all_nulls-returns-clause-ok t c)

-- the growable

pub nested::GrowableNestedGrowable::extend_validity-returns-in_default-clause-overflow : goal.nested::GrowableNestedGrowable::extend_validity-returns-in_default-clause-overflow
nested::GrowableNestedGrowable::extend_validity-returns-in_default-clause-overflow t c same fits =
    let u = type_of c.self.inside.data_type in
    let n = c.args.additional in
    let fit = subst (λ h. FitsWith h (null_rows_of h n)) (sym c.self.view_is) fits in
    too_many u _ _ c.self.inside.len n fit (counts _ _ _ _ _ (c.self.invariant.holds c.if-self.false)) (length-replicate n (null_slot u)) (omega (arith, c.in_default.ensures))

pub nested::GrowableNestedGrowable::extend_validity-returns-in_default-checked_mul-clause-overflow : goal.nested::GrowableNestedGrowable::extend_validity-returns-in_default-checked_mul-clause-overflow
nested::GrowableNestedGrowable::extend_validity-returns-in_default-checked_mul-clause-overflow t c same fits =
    let holds = holds_of c.self.inside.spans _ _ _ _ _ c.self.inside.has_failed c.self.invariant c.if-self.false c.null_slots.ensures.sound in
    let n = c.args.additional in
    let fit = subst (λ h. FitsWith h (null_rows_of h n)) (sym c.self.view_is) fits in
    let many = subst (λ w. 2 ^ 64 ≤ n * w) c.null_slots.ensures.count (omega (arith, c.in_default-checked_mul.ensures)) in
    slots_refused _ _ _ _ _ _ n holds c.ranges.additional.fits many fit

pub nested::GrowableNestedGrowable::extend_validity-returns-in_err-extend_nulls-clause-overflow : goal.nested::GrowableNestedGrowable::extend_validity-returns-in_err-extend_nulls-clause-overflow
nested::GrowableNestedGrowable::extend_validity-returns-in_err-extend_nulls-clause-overflow t c overflows fits =
    let passes = c.in_err-extend_nulls.ensures.overflow (ap Err (passed_on c.from_residual.result _ _ c.from_residual.ensures.1 overflows)) in
    let counted = bits_counted _ _ _ _ (type_of c.self.inside.data_type) (c.self.invariant.holds c.if-self.false) in
    omega (arith, passes, counted, c.in-Some.ensures)

pub nested::GrowableNestedGrowable::extend_validity-invariant_of-self-in_err-extend_nulls-2 : goal.nested::GrowableNestedGrowable::extend_validity-invariant_of-self-in_err-extend_nulls-2
nested::GrowableNestedGrowable::extend_validity-invariant_of-self-in_err-extend_nulls-2 t c =
    failed_parts _ _ _ _ _ _ _ _ _ _ _ _ c.self.invariant c.in_err-extend_nulls-2.ensures.arrays c.in_err-extend_nulls-2.ensures.form (record { same_types = refl; same_sources = refl })

pub nested::GrowableNestedGrowable::extend_validity-extend_all_nulls-requires : goal.nested::GrowableNestedGrowable::extend_validity-extend_all_nulls-requires
nested::GrowableNestedGrowable::extend_validity-extend_all_nulls-requires t c =
    let u = type_of c.self.inside.data_type in
    let outer = ap (λ (g : Grown). type_depth g.arrow_type) c.self.view_is in
    let inner = ap (λ xs. deepest (map (λ g. g.arrow_type) (map grown_of xs))) c.deref_mut.ensures.value ∙ ap deepest c.self.invariant.types in
    let well = all_well _ _ _ _ _ (c.self.invariant.holds c.if-self.false) in
    (omega (arith, inner, deepest_child u, outer, c.decreases), rw c.deref_mut.ensures.value well)

pub nested::GrowableNestedGrowable::extend_validity-invariant_of-self-in_err-extend_all_nulls : goal.nested::GrowableNestedGrowable::extend_validity-invariant_of-self-in_err-extend_all_nulls
nested::GrowableNestedGrowable::extend_validity-invariant_of-self-in_err-extend_all_nulls t c =
    let kept = subst (λ xs. AreBoundAs (map grown_of xs) (map grown_of c.extend_all_nulls.new.children)) c.deref_mut.ensures.value c.in_err-extend_all_nulls.ensures.kept in
    let back = written c.extend_all_nulls.new.children c.self.inside.children.items c.self.inside.children.len (as_many_items c.deref_mut.result.now c.extend_all_nulls.new.children c.in_err-extend_all_nulls.ensures.kept ∙ c.deref_mut.ensures.len) in
    rw back (failed_parts _ _ _ _ _ _ _ _ _ _ _ _ c.self.invariant c.in_ok-extend_nulls-2.ensures.arrays c.in_ok-extend_nulls-2.ensures.form kept)

pub nested::GrowableNestedGrowable::extend_validity-returns-in_err-extend_all_nulls-clause-overflow : goal.nested::GrowableNestedGrowable::extend_validity-returns-in_err-extend_all_nulls-clause-overflow
nested::GrowableNestedGrowable::extend_validity-returns-in_err-extend_all_nulls-clause-overflow t c overflows fits =
    let holds = holds_of c.self.inside.spans _ _ _ _ _ c.self.inside.has_failed c.self.invariant c.if-self.false c.null_slots.ensures.sound in
    let n = c.args.additional in
    let fit = subst (λ h. FitsWith h (null_rows_of h n)) (sym c.self.view_is) fits in
    let slots : c.in-Some-checked_mul.slots ≡ n * c.null_slots.result = omega (arith, c.in-Some-checked_mul.ensures) in
    let refused = c.in_err-extend_all_nulls.ensures.overflow (ap Err (passed_on c.from_residual-in_err-extend_all_nulls.result _ _ c.from_residual-in_err-extend_all_nulls.ensures.1 overflows)) in
    let here = subst {A = ℕ × List AnyGrowable} (λ q. SomeCannotHoldNulls q.0 (map grown_of q.1)) (λ j. ((slots ∙ ap (λ w. n * w) c.null_slots.ensures.count) j, c.deref_mut.ensures.value j)) refused in
    nulls_refused _ _ _ _ _ _ n holds here.0 no_grown here.1 (here.2 no_grown) fit

-- the parts after the null rows are appended
grown : (t : ℕ) (c : nested::GrowableNestedGrowable::extend_validity-After-self-4-1 t) → Step (grown_arrays c.self.inside.spans) (form_of c.self.inside.spans) (form_of c.extend_nulls-2.new.self) (map grown_of c.self.inside.children.items) (map grown_of c.extend_all_nulls.new.children) c.self.inside.validity c.extend_nulls.new.self c.in-Some.total (bound_layouts c.self.inside.arrays) (type_of c.self.inside.data_type) (replicate c.args.additional (null_slot (type_of c.self.inside.data_type)))
grown t c =
    let inside = c.self.inside in
    let n = c.args.additional in
    let slots : c.in-Some-checked_mul.slots ≡ n * c.null_slots.result = omega (arith, c.in-Some-checked_mul.ensures) in
    let news = subst (λ xs. map grown_of c.extend_all_nulls.new.children ≡ map (grown_by_nulls c.in-Some-checked_mul.slots) (map grown_of xs)) c.deref_mut.ensures.value c.in_ok-extend_all_nulls.ensures.ok in
    step_nulls inside.spans (map grown_of inside.children.items) inside.validity inside.len (bound_layouts inside.arrays) (type_of inside.data_type) inside.has_failed n c.self.invariant c.if-self.false c.null_slots.ensures.sound (form_of c.extend_nulls-2.new.self) (map grown_of c.extend_all_nulls.new.children) c.extend_nulls.new.self c.in-Some.total c.in-Some-checked_mul.slots (slots ∙ ap (λ w. n * w) c.null_slots.ensures.count) c.in_ok-extend_nulls-2.ensures.ok news c.in_ok-extend_nulls.ensures.ok (omega (arith, c.in-Some.ensures)) c.in_ok-extend_all_nulls.ensures.fits

children_back : (t : ℕ) (c : nested::GrowableNestedGrowable::extend_validity-After-self-4-1 t) → take c.self.inside.children.len (c.extend_all_nulls.new.children ++ drop (length c.extend_all_nulls.new.children) c.self.inside.children.items) ≡ c.extend_all_nulls.new.children
children_back t c =
    written c.extend_all_nulls.new.children c.self.inside.children.items c.self.inside.children.len (as_many_items c.deref_mut.result.now c.extend_all_nulls.new.children c.in_ok-extend_all_nulls.ensures.kept ∙ c.deref_mut.ensures.len)

pub nested::GrowableNestedGrowable::extend_validity-invariant_of-self-2 : goal.nested::GrowableNestedGrowable::extend_validity-invariant_of-self-2
nested::GrowableNestedGrowable::extend_validity-invariant_of-self-2 t c =
    rw (children_back t c) (subst (λ a. IsGrownNested a (form_of c.extend_nulls-2.new.self) (map grown_of c.extend_all_nulls.new.children) c.extend_nulls.new.self c.in-Some.total (bound_layouts c.self.inside.arrays) (type_of c.self.inside.data_type) false) (sym c.in_ok-extend_nulls-2.ensures.arrays) (grown t c).parts)

pub nested::GrowableNestedGrowable::extend_validity-returns-clause-ok : goal.nested::GrowableNestedGrowable::extend_validity-returns-clause-ok
nested::GrowableNestedGrowable::extend_validity-returns-clause-ok t c =
    let u = type_of c.self.inside.data_type in
    let count : c.in-Some.total ≡ c.self.inside.len + length (replicate c.args.additional (null_slot u)) = omega (arith, c.in-Some.ensures, length-replicate c.args.additional (null_slot u)) in
    let all = ap (λ xs. nested_rows (form_of c.extend_nulls-2.new.self) c.extend_nulls.new.self (rows_of_all (map grown_of xs))) (children_back t c) ∙ (grown t c).rows in
    rw (← c.self.view_is) (λ j. record { arrow_type = u; sources = Some (bound_layouts c.self.inside.arrays); rows = all j; count = count j; failed = false })

pub nested::GrowableNestedGrowable::extend_validity-returns-clause-fits : goal.nested::GrowableNestedGrowable::extend_validity-returns-clause-fits
nested::GrowableNestedGrowable::extend_validity-returns-clause-fits t c =
    let sound = subst (λ a. IsSoundForm a (form_of c.extend_nulls-2.new.self)) c.in_ok-extend_nulls-2.ensures.arrays c.null_slots-new.ensures.sound in
    let all = ap (λ xs. nested_rows (form_of c.extend_nulls-2.new.self) c.extend_nulls.new.self (rows_of_all (map grown_of xs))) (children_back t c) in
    subst (Fits (type_of c.self.inside.data_type)) (sym all) (fits_step _ _ _ _ _ _ _ _ _ _ _ (grown t c) (subst (LiesSo (grown_arrays c.self.inside.spans)) (sym c.in_ok-extend_nulls-2.ensures.form) (spans_lie c.self.inside.spans)) sound (omega (arith, c.in-Some.ensures)))

-- unions

pub variants::extend_first_nulls-returns-clause-well : goal.variants::extend_first_nulls-returns-clause-well
variants::extend_first_nulls-returns-clause-well t c =
    on_ok c.extend_nulls.result c.extend_nulls.ensures.ok (λ grown. set_well c.args.children.now 0 c.extend_nulls.new.child c.requires.well (grown_well grown))

pub variants::extend_first_nulls-returns-clause-overflow : goal.variants::extend_first_nulls-returns-clause-overflow
variants::extend_first_nulls-returns-clause-overflow t c overflows =
    let first = nth_read c.args.children.now 0 c.index-children-0-2.result c.requires.some in
    inl (subst (λ g. FitsWith g (null_rows_of g c.args.count) → ⊥) (sym first) (c.extend_nulls.ensures.overflow overflows))

pub variants::extend_null_variant-returns-in-None-clause-well : goal.variants::extend_null_variant-returns-in-None-clause-well
variants::extend_null_variant-returns-in-None-clause-well t c =
    on_both c.extend_all_nulls.result c.extend_all_nulls.ensures.ok c.extend_all_nulls.ensures.fits (λ are fits. nulls_well c.args.count (map grown_of c.args.children.now) (map grown_of c.extend_all_nulls.new.children) are fits)

pub variants::extend_null_variant-returns-in-Some-clause-overflow : goal.variants::extend_null_variant-returns-in-Some-clause-overflow
variants::extend_null_variant-returns-in-Some-clause-overflow t c overflows =
    rw c.in-Some.is (c.extend_first_nulls.ensures.overflow overflows)

pub variants::extend_null_variants-extend_null_variant-requires : goal.variants::extend_null_variants-extend_null_variant-requires
variants::extend_null_variants-extend_null_variant-requires t c =
    let gs = map grown_of c.args.children.now in
    let some : 0 < length gs = some_children (type_of c.args.data_type.now) (offsets_in c.args.offsets.now) gs c.requires.over in
    (omega (arith, c.decreases), (omega (arith, some, length-map c.args.children.now grown_of), (c.requires.holds.well, c.requires.holds.few 0 some)))

pub variants::extend_null_variants-returns-clause-ok : goal.variants::extend_null_variants-returns-clause-ok
variants::extend_null_variants-returns-clause-ok t c =
    let u = type_of c.args.data_type.now in
    let gs = map grown_of c.args.children.now in
    let n = c.args.count in
    let some : 0 < length gs = some_children u (offsets_in c.args.offsets.now) gs c.requires.over in
    let call = c.extend_null_variant.ensures in
    let more = null_rows_of (nth_grown gs 0) n in
    on_four c.extend_null_variant.result call.ok call.places call.well call.few (λ news places well few. subst (GrowsVariants u c.args.types.now.items (offsets_in c.args.offsets.now) gs c.append_first_id.new.types.items (offsets_in c.extend_null_variant.new.offsets) (map grown_of c.extend_null_variant.new.children)) (null_rows_are u (offsets_in c.args.offsets.now) gs n c.requires.over some) (grows_run u c.args.types.now.items (offsets_in c.args.offsets.now) gs c.requires.over c.requires.holds 0 n more some (length-replicate n (null_slot (nth_grown gs 0).arrow_type)) (map grown_of c.extend_null_variant.new.children) c.append_first_id.new.types.items (offsets_in c.extend_null_variant.new.offsets) news c.in_ok-append_first_id.ensures.ok places well few))

pub variants::extend_null_variants-returns-clause-overflow : goal.variants::extend_null_variants-returns-clause-overflow
variants::extend_null_variants-returns-clause-overflow t c overflows =
    let u = type_of c.args.data_type.now in
    let gs = map grown_of c.args.children.now in
    let some : 0 < length gs = some_children u (offsets_in c.args.offsets.now) gs c.requires.over in
    nulls_cannot u c.args.types.now.items (offsets_in c.args.offsets.now) gs c.args.count c.requires.over c.requires.holds some (c.extend_null_variant.ensures.overflow overflows)

pub union::GrowableUnionGrowable::extend_validity-returns-in_default-clause-overflow : goal.union::GrowableUnionGrowable::extend_validity-returns-in_default-clause-overflow
union::GrowableUnionGrowable::extend_validity-returns-in_default-clause-overflow t c same fits =
    let u = type_of c.self.inside.data_type in
    let n = c.args.additional in
    let fit = subst (λ h. FitsWith h (null_rows_of h n)) (sym c.self.view_is) fits in
    too_many u _ _ c.self.inside.len n fit (held_counted _ _ _ _ _ _ _ c.self.invariant c.if-self.false) (length-replicate n (null_slot u)) (omega (arith, c.in_default.ensures))

pub union::GrowableUnionGrowable::extend_validity-extend_null_variants-requires : goal.union::GrowableUnionGrowable::extend_validity-extend_null_variants-requires
union::GrowableUnionGrowable::extend_validity-extend_null_variants-requires t c =
    let parts = c.self.invariant in
    let outer = ap (λ (g : Grown). type_depth g.arrow_type) c.self.view_is in
    let inner = ap (λ xs. deepest (map (λ g. g.arrow_type) (map grown_of xs))) c.deref_mut.ensures.value ∙ ap deepest parts.bound.over.types in
    (omega (arith, inner, deepest_of_fields (type_of c.self.inside.data_type), outer, c.decreases), (omega (arith, c.in-Some.ensures, parts.counted c.if-self.false), (rw c.deref_mut.ensures.value parts.bound.over, rw c.deref_mut.ensures.value (parts.holds c.if-self.false))))

pub union::GrowableUnionGrowable::extend_validity-invariant_of-self-in_err-extend_null_variants : goal.union::GrowableUnionGrowable::extend_validity-invariant_of-self-in_err-extend_null_variants
union::GrowableUnionGrowable::extend_validity-invariant_of-self-in_err-extend_null_variants t c =
    let call = c.in_err-extend_null_variants.ensures in
    let kept = subst (λ xs. AreBoundAs (map grown_of xs) (map grown_of c.extend_null_variants.new.children)) c.deref_mut.ensures.value call.kept in
    let bound = bound_next _ _ _ _ _ _ c.self.invariant.bound kept call.mode in
    rw (given_back c.extend_null_variants.new.children c.self.inside.children.items c.deref_mut.result.now c.self.inside.children.len _ c.deref_mut.ensures.value c.deref_mut.ensures.len c.self.invariant.bound.over.types bound.over.types) (failed_union _ _ _ _ _ _ bound)

-- the parts after the null rows are appended, with the children that are given back
grown_variants : (t : ℕ) (c : union::GrowableUnionGrowable::extend_validity-After-self-4-1 t) → GrowsUnion (map (λ (r : Bor _). union_layout r.now) c.self.inside.arrays.items) (type_of c.self.inside.data_type) c.self.inside.types.items (offsets_in c.self.inside.offsets) (map grown_of c.self.inside.children.items) c.self.inside.len c.self.inside.has_failed c.extend_null_variants.new.types.items (offsets_in c.extend_null_variants.new.offsets) (map grown_of c.extend_null_variants.new.children) (replicate c.args.additional (null_slot (type_of c.self.inside.data_type))) c.in-Some.total
grown_variants t c =
    let nulls = replicate c.args.additional (null_slot (type_of c.self.inside.data_type)) in
    let call = c.in_ok-extend_null_variants.ensures in
    let kept = subst (λ xs. AreBoundAs (map grown_of xs) (map grown_of c.extend_null_variants.new.children)) c.deref_mut.ensures.value call.kept in
    let grows = subst (λ xs. GrowsVariants (type_of c.self.inside.data_type) c.self.inside.types.items (offsets_in c.self.inside.offsets) (map grown_of xs) c.extend_null_variants.new.types.items (offsets_in c.extend_null_variants.new.offsets) (map grown_of c.extend_null_variants.new.children) nulls) c.deref_mut.ensures.value call.ok in
    record { parts = c.self.invariant; well = c.if-self.false; bound = bound_next _ _ _ _ _ _ c.self.invariant.bound kept call.mode; grows = grows; count = omega (arith, c.in-Some.ensures, length-replicate c.args.additional (null_slot (type_of c.self.inside.data_type))) }

variants_back : (t : ℕ) (c : union::GrowableUnionGrowable::extend_validity-After-self-4-1 t) → take c.self.inside.children.len (c.extend_null_variants.new.children ++ drop (length c.extend_null_variants.new.children) c.self.inside.children.items) ≡ c.extend_null_variants.new.children
variants_back t c =
    given_back c.extend_null_variants.new.children c.self.inside.children.items c.deref_mut.result.now c.self.inside.children.len _ c.deref_mut.ensures.value c.deref_mut.ensures.len c.self.invariant.bound.over.types (grown_variants t c).bound.over.types

pub union::GrowableUnionGrowable::extend_validity-invariant_of-self-2 : goal.union::GrowableUnionGrowable::extend_validity-invariant_of-self-2
union::GrowableUnionGrowable::extend_validity-invariant_of-self-2 t c =
    rw (variants_back t c) (grown_union _ _ _ _ _ _ _ _ _ _ _ _ (grown_variants t c))

pub union::GrowableUnionGrowable::extend_validity-returns-clause-fits : goal.union::GrowableUnionGrowable::extend_validity-returns-clause-fits
union::GrowableUnionGrowable::extend_validity-returns-clause-fits t c =
    let u = type_of c.self.inside.data_type in
    let all = ap (λ xs. variant_rows u c.extend_null_variants.new.types.items (offsets_in c.extend_null_variants.new.offsets) (map grown_of xs)) (variants_back t c) in
    subst (Fits u) (sym all) (grown_fits _ _ _ _ _ _ _ _ _ _ _ _ (grown_variants t c) (omega (arith, c.in-Some.ensures)))
