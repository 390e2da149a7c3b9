use Rattle.arrow_growable.proofs.Common.{arith, rules, ◌≡◌, length, map, refl, ap, sym, subst, ◌∙◌, length-map, take_all, type_of, any_array_rows, any_array_type, layout_of, deepest, type_depth, child_rows_of, all_changed, written, Grown, HoldsRows, grown_of, AreBoundAs, IsWell, emptied_of, deepest_child, deepest_of_fields, form_of, grown_arrays, no_offsets, offsets_in, AreWhole, rows_of_all, ℕ}
use Rattle.arrow_growable.proofs.ChildLemmas.{only_memory}
use Rattle.arrow_growable.proofs.LoopLemmas.{as_many_items, bound_after, taken_next, AtChild, child_changed, is_as, less_deep}
use Rattle.arrow_growable.proofs.StepLemmas.{all_well, emptied_same, failed_parts, parts_left, spans_lie, whole_of, bound_by}
use Rattle.arrow_growable.proofs.UnionBoundLemmas.{bound_next}
use Rattle.arrow_growable.proofs.UnionFinishLemmas.{holds_array, rows_in_array}
use Rattle.arrow_growable.proofs.UnionStructLemmas.{failed_union, left_union, none_mode}
use Rattle.arrow_growable.proofs.growable.+as_box.Goals.{children::box_children-In-loop-child}
use Rattle.arrow_growable.proofs.growable.+as_box.Goals as goal

-- all children

pub children::box_children-loop-child-init : goal.children::box_children-loop-child-init
children::box_children-loop-child-init t c =
    ((refl, λ k d within. refl), λ k d within. absurd (omega (arith, within)), ap (map any_array_type) c.in_ok-arrays.ensures.items, ap (map any_array_rows) c.in_ok-arrays.ensures.items)

-- the child whose turn it is
child_now : (t : ℕ) (c : children::box_children-In-loop-child t) → AtChild emptied_of c.loop-child.child-items c.args.children.now c.loop-child.child-index
child_now t c =
    let i = c.loop-child.invariant in
    record { types = λ g. refl; sources = λ g. refl; same = i.0.0; within = c.loop-child-test.true; rest = i.0.1; changed = i.1 }

pub children::box_children-as_box-requires : goal.children::box_children-as_box-requires
children::box_children-as_box-requires t c =
    omega (arith, c.decreases, less_deep (child_now t (goal.at.children::box_children-as_box-requires t c).In-loop-child) c.child-item.result)

pub children::box_children-returns-in_err-as_box-clause-kept : goal.children::box_children-returns-in_err-as_box-clause-kept
children::box_children-returns-in_err-as_box-clause-kept t c =
    let failed = c.in_err-as_box.ensures.err in
    bound_after (child_now t (goal.at.children::box_children-returns-in_err-as_box-clause-kept t c).In-loop-child) c.as_box.new.self c.child-item.result (record { same_type = failed.same_type; same_sources = failed.same_sources })

pub children::box_children-returns-in_err-as_box-clause-err : goal.children::box_children-returns-in_err-as_box-clause-err
children::box_children-returns-in_err-as_box-clause-err t c =
    let well = is_as (child_now t (goal.at.children::box_children-returns-in_err-as_box-clause-err t c).In-loop-child) IsWell c.child-item.result c.requires.well in
    only_memory c.from_residual-in_err-as_box.result _ _ c.from_residual-in_err-as_box.ensures.1 c.in_err-as_box.ensures.others c.in_err-as_box.ensures.failed well.well

pub children::box_children-returns-in_err-push-clause-kept : goal.children::box_children-returns-in_err-push-clause-kept
children::box_children-returns-in_err-push-clause-kept t c =
    let left = c.in_ok-as_box.ensures.left in
    bound_after (child_now t (goal.at.children::box_children-returns-in_err-push-clause-kept t c).In-loop-child) c.as_box.new.self c.child-item.result (record { same_type = ap (λ g. g.arrow_type) left; same_sources = ap (λ g. g.sources) left })

pub children::box_children-loop-child-preserved : goal.children::box_children-loop-child-preserved
children::box_children-loop-child-preserved t c =
    let was = c.args.children.now in
    let k = c.loop-child.child-index in
    let e = c.child-item.result in
    let i = c.loop-child.invariant in
    let next = child_changed (child_now t (goal.at.children::box_children-loop-child-preserved t c).In-loop-child) c.as_box.new.self e c.in_ok-as_box.ensures.left in
    let array = c.in_ok-as_box.field-0 in
    let made = subst (λ y. HoldsRows (grown_of y) array) (i.0.1 k e (omega arith)) c.in_ok-as_box.ensures.ok in
    (next.0, next.1, rw c.in_ok-push.ensures.items (taken_next (λ (g : Grown). g.arrow_type) any_array_type was c.loop-child.arrays.items array k e c.loop-child-test.true made.0 i.2), rw c.in_ok-push.ensures.items (taken_next (λ (g : Grown). g.rows) any_array_rows was c.loop-child.arrays.items array k e c.loop-child-test.true made.1 i.3))

pub children::box_children-returns-clause-types : goal.children::box_children-returns-clause-types
children::box_children-returns-clause-types t c =
    let was = c.args.children.now in
    c.loop-child.invariant.2 ∙ ap (map (λ (g : Grown). g.arrow_type)) (take_all c.loop-child.child-index (map grown_of was) (omega (arith, c.loop-child-test.false, length-map was grown_of)))

pub children::box_children-returns-clause-rows : goal.children::box_children-returns-clause-rows
children::box_children-returns-clause-rows t c =
    let was = c.args.children.now in
    c.loop-child.invariant.3 ∙ ap (map (λ (g : Grown). g.rows)) (take_all c.loop-child.child-index (map grown_of was) (omega (arith, c.loop-child-test.false, length-map was grown_of)))

pub children::box_children-returns-clause-left : goal.children::box_children-returns-clause-left
children::box_children-returns-clause-left t c =
    let i = c.loop-child.invariant in
    all_changed grown_of emptied_of c.loop-child.child-items c.args.children.now i.0.0 (λ k d before. i.1 k d (omega (arith, before, c.loop-child-test.false)))

pub children::box_children-returns-clause-kept : goal.children::box_children-returns-clause-kept
children::box_children-returns-clause-kept t c =
    bound_by emptied_of _ _ (λ g. refl) (λ g. refl) (children::box_children-returns-clause-left t c)

-- the growable

pub nested::GrowableNestedGrowable::as_box-box_children-requires : goal.nested::GrowableNestedGrowable::as_box-box_children-requires
nested::GrowableNestedGrowable::as_box-box_children-requires t c =
    let u = type_of c.self.inside.data_type in
    let outer = ap (λ (g : Grown). type_depth g.arrow_type) c.self.view_is in
    let inner = ap (λ xs. deepest (map (λ g. g.arrow_type) (map grown_of xs))) c.deref_mut.ensures.value ∙ ap deepest c.self.invariant.types in
    let well = all_well _ _ _ _ _ (c.self.invariant.holds c.if-self.false) in
    (omega (arith, inner, deepest_child u, outer, c.decreases), rw c.deref_mut.ensures.value well)

pub nested::GrowableNestedGrowable::as_box-invariant_of-self-in_err-values : goal.nested::GrowableNestedGrowable::as_box-invariant_of-self-in_err-values
nested::GrowableNestedGrowable::as_box-invariant_of-self-in_err-values t c =
    let kept = subst (λ xs. AreBoundAs (map grown_of xs) (map grown_of c.box_children.new.children)) c.deref_mut.ensures.value c.in_err-values.ensures.kept in
    let back = written c.box_children.new.children c.self.inside.children.items c.self.inside.children.len (as_many_items c.deref_mut.result.now c.box_children.new.children c.in_err-values.ensures.kept ∙ c.deref_mut.ensures.len) in
    rw back (failed_parts _ _ _ _ _ _ _ _ _ _ _ _ c.self.invariant refl refl kept)

pub nested::GrowableNestedGrowable::as_box-finish-requires-clause-whole : goal.nested::GrowableNestedGrowable::as_box-finish-requires-clause-whole
nested::GrowableNestedGrowable::as_box-finish-requires-clause-whole t c =
    let inside = c.self.inside in
    let rows = c.in_ok-values.ensures.rows ∙ ap (λ xs. rows_of_all (map grown_of xs)) c.deref_mut.ensures.value in
    let whole = whole_of _ _ _ _ _ (c.self.invariant.holds c.if-self.false) in
    rw (c.replace-spans.ensures.value, c.replace-validity.ensures.value) (subst (AreWhole (form_of inside.spans) (length inside.validity)) (sym rows) whole)

pub nested::GrowableNestedGrowable::as_box-invariant_of-self-in_err-array : goal.nested::GrowableNestedGrowable::as_box-invariant_of-self-in_err-array
nested::GrowableNestedGrowable::as_box-invariant_of-self-in_err-array t c =
    let kept = subst (λ xs. AreBoundAs (map grown_of xs) (map grown_of c.box_children.new.children)) c.deref_mut.ensures.value c.in_ok-values.ensures.kept in
    let back = written c.box_children.new.children c.self.inside.children.items c.self.inside.children.len (as_many_items c.deref_mut.result.now c.box_children.new.children c.in_ok-values.ensures.kept ∙ c.deref_mut.ensures.len) in
    let arrays = ap grown_arrays c.replace-spans.ensures.after ∙ c.in_ok-spans.ensures.arrays in
    let form = ap form_of c.replace-spans.ensures.after ∙ c.in_ok-spans.ensures.ok in
    rw back (failed_parts _ _ _ _ _ _ _ _ _ _ _ _ c.self.invariant arrays (emptied_same _ _ form) kept)

pub nested::GrowableNestedGrowable::as_box-invariant_of-self-2 : goal.nested::GrowableNestedGrowable::as_box-invariant_of-self-2
nested::GrowableNestedGrowable::as_box-invariant_of-self-2 t c =
    let back = written c.box_children.new.children c.self.inside.children.items c.self.inside.children.len (as_many_items c.deref_mut.result.now c.box_children.new.children c.in_ok-values.ensures.kept ∙ c.deref_mut.ensures.len) in
    let arrays = ap grown_arrays c.replace-spans.ensures.after ∙ c.in_ok-spans.ensures.arrays in
    let form = ap form_of c.replace-spans.ensures.after ∙ c.in_ok-spans.ensures.ok in
    let left = subst (λ xs. map grown_of c.box_children.new.children ≡ map emptied_of (map grown_of xs)) c.deref_mut.ensures.value c.in_ok-values.ensures.left in
    rw back (parts_left _ _ _ _ _ _ _ _ _ _ _ _ c.self.invariant (spans_lie c.self.inside.spans) arrays form left (c.replace-validity.ensures.after ∙ c.in_ok-validity.ensures.ok))

-- unions

pub union::GrowableUnion::take_array-box_children-requires : goal.union::GrowableUnion::take_array-box_children-requires
union::GrowableUnion::take_array-box_children-requires t c =
    let u = type_of c.self.inside.data_type in
    let parts = c.self.invariant in
    let outer = ap (λ (g : Grown). type_depth g.arrow_type) c.self.view_is in
    let inner = ap (λ xs. deepest (map (λ g. g.arrow_type) (map grown_of xs))) c.deref_mut.ensures.value ∙ ap deepest parts.bound.over.types in
    (omega (arith, inner, deepest_of_fields u, outer, c.decreases), rw c.deref_mut.ensures.value (parts.holds c.if-self.false).well)

pub union::GrowableUnion::take_array-invariant_of-self : goal.union::GrowableUnion::take_array-invariant_of-self
union::GrowableUnion::take_array-invariant_of-self t c =
    let kept = subst (λ xs. AreBoundAs (map grown_of xs) (map grown_of c.box_children.new.children)) c.deref_mut.ensures.value c.in_err-values.ensures.kept in
    let back = written c.box_children.new.children c.self.inside.children.items c.self.inside.children.len (as_many_items c.deref_mut.result.now c.box_children.new.children c.in_err-values.ensures.kept ∙ c.deref_mut.ensures.len) in
    rw back (failed_union _ _ _ _ _ _ (bound_next _ _ _ _ _ _ c.self.invariant.bound kept refl))

pub union::GrowableUnion::take_array-union_array-requires : goal.union::GrowableUnion::take_array-union_array-requires
union::GrowableUnion::take_array-union_array-requires t c =
    let inside = c.self.inside in
    let u = type_of inside.data_type in
    let types = c.in_ok-values.ensures.types ∙ ap (λ xs. map (λ (g : Grown). g.arrow_type) (map grown_of xs)) c.deref_mut.ensures.value in
    let rows = c.in_ok-values.ensures.rows ∙ ap (λ xs. map (λ (g : Grown). g.rows) (map grown_of xs)) c.deref_mut.ensures.value in
    rw (c.replace-types.ensures.value, c.replace-offsets.ensures.value) (holds_array u inside.types.items (offsets_in inside.offsets) (map grown_of inside.children.items) c.in_ok-values.values.items c.self.invariant.bound.over (c.self.invariant.holds c.if-self.false) types rows)

pub union::GrowableUnion::take_array-invariant_of-self-in_err-array : goal.union::GrowableUnion::take_array-invariant_of-self-in_err-array
union::GrowableUnion::take_array-invariant_of-self-in_err-array t c =
    let kept = subst (λ xs. AreBoundAs (map grown_of xs) (map grown_of c.box_children.new.children)) c.deref_mut.ensures.value c.in_ok-values.ensures.kept in
    let back = written c.box_children.new.children c.self.inside.children.items c.self.inside.children.len (as_many_items c.deref_mut.result.now c.box_children.new.children c.in_ok-values.ensures.kept ∙ c.deref_mut.ensures.len) in
    let none = ap offsets_in c.replace-offsets.ensures.after ∙ (c.without_offsets-fresh.ensures ∙ ap no_offsets c.mode.ensures) in
    rw back (failed_union _ _ _ _ _ _ (bound_next _ _ _ _ _ _ c.self.invariant.bound kept (none_mode _ _ _ _ c.self.invariant.bound.over none)))

pub union::GrowableUnion::take_array-invariant_of-self-2 : goal.union::GrowableUnion::take_array-invariant_of-self-2
union::GrowableUnion::take_array-invariant_of-self-2 t c =
    let back = written c.box_children.new.children c.self.inside.children.items c.self.inside.children.len (as_many_items c.deref_mut.result.now c.box_children.new.children c.in_ok-values.ensures.kept ∙ c.deref_mut.ensures.len) in
    let none = ap offsets_in c.replace-offsets.ensures.after ∙ (c.without_offsets-fresh.ensures ∙ ap no_offsets c.mode.ensures) in
    let left = subst (λ xs. map grown_of c.box_children.new.children ≡ map emptied_of (map grown_of xs)) c.deref_mut.ensures.value c.in_ok-values.ensures.left in
    rw back (left_union _ _ _ _ _ _ _ c.self.invariant.bound left (search rules) none)

pub union::GrowableUnion::take_array-returns-clause-ok : goal.union::GrowableUnion::take_array-returns-clause-ok
union::GrowableUnion::take_array-returns-clause-ok t c =
    let inside = c.self.inside in
    let u = type_of inside.data_type in
    let types = c.in_ok-values.ensures.types ∙ ap (λ xs. map (λ (g : Grown). g.arrow_type) (map grown_of xs)) c.deref_mut.ensures.value in
    let rows = c.in_ok-values.ensures.rows ∙ ap (λ xs. map (λ (g : Grown). g.rows) (map grown_of xs)) c.deref_mut.ensures.value in
    let made = c.in_ok-array.ensures.ok ∙ (λ j. record { arrow_type = u; types = (c.replace-types.ensures.value j).items; child_rows = child_rows_of (offsets_in (c.replace-offsets.ensures.value j)); start = 0; children = map layout_of c.in_ok-values.values.items }) in
    rw (← c.self.view_is) (rows_in_array u inside.types.items (offsets_in inside.offsets) (map grown_of inside.children.items) c.in_ok-values.values.items c.self.invariant.bound.over (c.self.invariant.holds c.if-self.false) types rows c.in_ok-array.array made)
