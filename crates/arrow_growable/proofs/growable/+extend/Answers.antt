use Rattle.arrow_growable.proofs.Common.{rules, arith, ◌≡◌, ◌+◌, ◌<◌, ◌≤◌, ◌++◌, ℕ, Bool, false, Bor, List, Option, drop, length, map, take, Some, None, Err, inl, refl, ap, sym, subst, ◌∙◌, IfSome, option_copied, length-map, All-map, Fits, null_slot, type_of, sliced, length-sliced, bits_of_slice, ArrowType, Layout, rows, type_of_layout, union_layout, AnyGrowable, deepest, type_depth, all_changed, written, Grown, CannotHold, FitsItself, NamesRows, appended, named_rows, source_at, source_is, too_many, on_ok, passed_on, run_long, grown_of, bound_layouts, AreBoundAs, BindsRows, CannotGrow, GrownBy, IsWell, LiesIn, SameBound, SomeCannotGrow, bound_rows, grown_by, spread, nested_rows, deepest_child, deepest_of_fields, IsSoundForm, PassesGreatest, form_of, form_with, grown_arrays, GrowsVariants, HoldsVariants, IsBoundUnion, nth_grown, offsets_in, source_type, variant_rows, with_rows, IsGrownNested, rows_of_all, span_count, span_nulls, span_place}
use Rattle.arrow_growable.proofs.ChildLemmas.{grows_more, lies_bare, lies_in_all, names_more, names_there, nulls_refused, part_refused, run_refused, named}
use Rattle.arrow_growable.proofs.GrownLemmas.{counts, offsets_refused, LiesSo}
use Rattle.arrow_growable.proofs.LoopLemmas.{as_many_items, bound_after, deepest_at, holds_next, AtChild, child_changed, is_as, less_deep, some_is}
use Rattle.arrow_growable.proofs.SpreadLemmas.{spread_all}
use Rattle.arrow_growable.proofs.StepLemmas.{Step, all_well, binds_all, bits_counted, children_cannot, failed_parts, fits_step, names_of, rises_in, spans_lie, spread_part, step, NamesPart, bound_by}
use Rattle.arrow_growable.proofs.UnionChildLemmas.{binds_names, nth_read, on_both, place_is, same_after, set_bound, set_rows, set_well, given_back}
use Rattle.arrow_growable.proofs.UnionBoundLemmas.{binds_fields, bound_next}
use Rattle.arrow_growable.proofs.UnionGrowLemmas.{with_others_here}
use Rattle.arrow_growable.proofs.UnionLoopLemmas.{among, run_binds, run_more, run_stops, union_type, NamesRun}
use Rattle.arrow_growable.proofs.UnionStructLemmas.{failed_union, grown_fits, grown_union, held_counted, GrowsUnion}
use Rattle.arrow_growable.proofs.growable.+extend.Goals as goal
use Rattle.arrow_growable.proofs.growable.+extend.Goals.{nested::GrowableNestedGrowable::extend-After-self-4-1, children::extend_children-In-loop-child, nested::GrowableNestedGrowable::extend-After-null_slots-old, union::GrowableUnionGrowable::extend-After-self-4-1, variants::extend_variants-After-run_of-field, variants::extend_sparse-In_ok-extend_others}

-- one child

pub children::extend_child-returns-in-None-clause-ok : goal.children::extend_child-returns-in-None-clause-ok
children::extend_child-returns-in-None-clause-ok t c =
    let g = grown_of c.args.child.now in
    let spans = c.args.rows.now in
    let all = spread_all (span_nulls spans) (null_slot g.arrow_type) (span_place spans) (bound_rows g c.args.index) (span_count spans) (rises_in spans g c.args.index c.requires.sound c.requires.bound) c.args.len c.args.start c.requires.part in
    rw c.in-None.is (on_ok c.extend_run.result c.extend_run.ensures.ok (λ grown. subst (GrownBy g (grown_of c.extend_run.new.child)) (sym all) grown))

pub children::extend_child-returns-in-None-clause-overflow : goal.children::extend_child-returns-in-None-clause-overflow
children::extend_child-returns-in-None-clause-overflow t c overflows =
    let g = grown_of c.args.child.now in
    let spans = c.args.rows.now in
    let all = spread_all (span_nulls spans) (null_slot g.arrow_type) (span_place spans) (bound_rows g c.args.index) (span_count spans) (rises_in spans g c.args.index c.requires.sound c.requires.bound) c.args.len c.args.start c.requires.part in
    rw c.in-None.is (subst (CannotGrow g c.args.index (LiesIn (bits_of_slice None c.args.start c.args.len) (span_place spans) c.args.start)) (sym all) (names_more g c.args.index _ _ _ (λ j within. lies_in_all c.args.len (span_place spans) c.args.start j within) (c.extend_run.ensures.overflow overflows)))

pub children::extend_child-returns-in-Some-clause-overflow : goal.children::extend_child-returns-in-Some-clause-overflow
children::extend_child-returns-in-Some-clause-overflow t c overflows =
    rw c.in-Some.is (c.extend_nullable.ensures.overflow overflows)

pub children::extend_nullable-returns-then-have_none_beneath-clause-ok : goal.children::extend_nullable-returns-then-have_none_beneath-clause-ok
children::extend_nullable-returns-then-have_none_beneath-clause-ok t c =
    let g = grown_of c.args.child.now in
    let spans = c.args.rows.now in
    let part = spread_part spans g c.args.index c.args.start c.args.len c.args.validity.now c.requires.sound c.requires.bound c.requires.part (search rules) (c.have_none_beneath.ensures.slots c.if-have_none_beneath.true) (c.have_none_beneath.ensures.rows c.if-have_none_beneath.true) in
    on_ok c.extend_run.result c.extend_run.ensures.ok (λ grown. subst (GrownBy g (grown_of c.extend_run.new.child)) (sym part) grown)

pub children::extend_nullable-returns-then-have_none_beneath-clause-overflow : goal.children::extend_nullable-returns-then-have_none_beneath-clause-overflow
children::extend_nullable-returns-then-have_none_beneath-clause-overflow t c overflows =
    let g = grown_of c.args.child.now in
    let spans = c.args.rows.now in
    let valid = c.args.validity.now in
    let bare = c.have_none_beneath.ensures.rows c.if-have_none_beneath.true in
    let part = spread_part spans g c.args.index c.args.start c.args.len valid c.requires.sound c.requires.bound c.requires.part (search rules) (c.have_none_beneath.ensures.slots c.if-have_none_beneath.true) bare in
    let many = length-sliced valid c.args.start c.args.len (search rules) in
    subst (CannotGrow g c.args.index (LiesIn (sliced valid c.args.start c.args.len) (span_place spans) c.args.start)) (sym part) (names_more g c.args.index _ _ _ (λ j within. lies_bare (sliced valid c.args.start c.args.len) (span_place spans) c.args.start j bare (within.0, omega (arith, within.1, ap (λ k. span_place spans (c.args.start + k)) many))) (c.extend_run.ensures.overflow overflows))

-- all children

-- the child whose turn it is
child_now : (t : ℕ) (c : children::extend_children-In-loop-child t) → AtChild (grown_by (span_nulls c.args.rows.now) (bits_of_slice (option_copied c.args.validity) c.args.start c.args.len) (span_place c.args.rows.now) c.args.index c.args.start) c.loop-child.child-items c.args.children.now c.loop-child.child-index
child_now t c =
    let i = c.loop-child.invariant in
    record { types = λ g. refl; sources = λ g. refl; same = i.0.0; within = omega (arith, c.loop-child-test.true, i.0.0); rest = i.0.1; changed = i.1 }

pub children::extend_children-extend_child-requires : goal.children::extend_children-extend_child-requires
children::extend_children-extend_child-requires t c =
    let at = child_now t (goal.at.children::extend_children-extend_child-requires t c).In-loop-child in
    let spans = c.args.rows.now in
    let e = c.child-item.result in
    (omega (arith, c.decreases, less_deep at e), (c.requires.sound, (c.requires.part, (c.requires.covered, (is_as at (λ g. BindsRows g c.args.index (span_place spans (span_count spans))) e c.requires.bound, is_as at IsWell e c.requires.well)))))

pub children::extend_children-returns-in_err-extend_child-clause-kept : goal.children::extend_children-returns-in_err-extend_child-clause-kept
children::extend_children-returns-in_err-extend_child-clause-kept t c =
    bound_after (child_now t (goal.at.children::extend_children-returns-in_err-extend_child-clause-kept t c).In-loop-child) c.extend_child.new.child c.child-item.result c.in_err-extend_child.ensures.kept

pub children::extend_children-returns-in_err-extend_child-clause-overflow : goal.children::extend_children-returns-in_err-extend_child-clause-overflow
children::extend_children-returns-in_err-extend_child-clause-overflow t c overflows =
    let at = child_now t (goal.at.children::extend_children-returns-in_err-extend_child-clause-overflow t c).In-loop-child in
    let spans = c.args.rows.now in
    let bits = bits_of_slice (option_copied c.args.validity) c.args.start c.args.len in
    let refused = c.in_err-extend_child.ensures.overflow (ap Err (passed_on c.from_residual.result _ _ c.from_residual.ensures.1 overflows)) in
    some_is at (λ g. CannotGrow g c.args.index (LiesIn bits (span_place spans) c.args.start) (spread (span_nulls spans) (null_slot g.arrow_type) bits (span_place spans) (bound_rows g c.args.index) c.args.start)) c.child-item.result refused

pub children::extend_children-loop-child-preserved : goal.children::extend_children-loop-child-preserved
children::extend_children-loop-child-preserved t c =
    let at = child_now t (goal.at.children::extend_children-loop-child-preserved t c).In-loop-child in
    let x = c.extend_child.new.child in
    let made = c.in_ok-extend_child.ensures.ok in
    let next = child_changed at x c.child-item.result made.grown in
    (next.0, next.1, holds_next (λ y. FitsItself (grown_of y)) c.loop-child.child-items c.loop-child.child-index x (omega (arith, c.loop-child-test.true, c.loop-child.invariant.0.0)) c.loop-child.invariant.2 made.fits)

pub children::extend_children-returns-clause-ok : goal.children::extend_children-returns-clause-ok
children::extend_children-returns-clause-ok t c =
    let i = c.loop-child.invariant in
    all_changed grown_of _ c.loop-child.child-items c.args.children.now i.0.0 (λ k d before. i.1 k d (omega (arith, before, c.loop-child-test.false, i.0.0)))

pub children::extend_children-returns-clause-fits : goal.children::extend_children-returns-clause-fits
children::extend_children-returns-clause-fits t c =
    let i = c.loop-child.invariant in
    All-map FitsItself grown_of c.loop-child.child-items (λ k d within. i.2 k d (omega (arith, within, c.loop-child-test.false)))

pub children::extend_children-returns-clause-kept : goal.children::extend_children-returns-clause-kept
children::extend_children-returns-clause-kept t c =
    bound_by (grown_by (span_nulls c.args.rows.now) (bits_of_slice (option_copied c.args.validity) c.args.start c.args.len) (span_place c.args.rows.now) c.args.index c.args.start) _ _ (λ g. refl) (λ g. refl) (children::extend_children-returns-clause-ok t c)

-- runs of a child

pub children::extend_run-extend-requires : goal.children::extend_run-extend-requires
children::extend_run-extend-requires t c =
    let g = grown_of c.args.child.now in
    let spans = c.args.rows.now in
    let last = (rises_in spans g c.args.index c.requires.sound c.requires.bound).up (c.args.start + c.args.len) (span_count spans) c.requires.part (omega arith) in
    (omega (arith, c.decreases), names_there g c.args.index (span_place spans (span_count spans)) c.requires.bound c.range-first.result.0 c.range-first.result.1 c.range-first.ensures.rises (omega (arith, c.range-first.ensures.end, last)))

pub children::extend_run-returns-clause-overflow : goal.children::extend_run-returns-clause-overflow
children::extend_run-returns-clause-overflow t c overflows =
    part_refused (grown_of c.args.child.now) c.args.index _ c.requires.bound c.range-first.result.0 c.range-first.result.1 _ _ c.range-first.ensures.start c.range-first.ensures.end c.range-first.ensures.rises (c.extend.ensures.overflow overflows)

pub children::extend_runs-returns-in_err-extend_nulls-clause-overflow : goal.children::extend_runs-returns-in_err-extend_nulls-clause-overflow
children::extend_runs-returns-in_err-extend_nulls-clause-overflow t c overflows =
    let g = grown_of c.args.child.now in
    let spans = c.args.rows.now in
    let refused = c.in_err-extend_nulls.ensures.overflow (ap Err (passed_on c.from_residual.result _ _ c.from_residual.ensures.1 overflows)) in
    nulls_refused g (grown_of c.loop-row.child) c.args.index (span_nulls spans) (span_count spans) (span_place spans) (sliced c.args.validity.now c.args.start c.args.len) c.loop-row.left c.next_set-nulls.new.self c.args.start c.loop-row.row c.next_set-nulls.result.0 c.next_set-nulls.result.1 c.nulls_of.result (rises_in spans g c.args.index c.requires.sound c.requires.bound) c.loop-row.invariant.1 c.next_set-nulls.ensures.bits (omega (arith, c.loop-row.invariant.0, c.requires.part)) c.nulls_of.ensures refused

pub children::extend_runs-returns-in_err-extend_run-clause-overflow : goal.children::extend_runs-returns-in_err-extend_run-clause-overflow
children::extend_runs-returns-in_err-extend_run-clause-overflow t c overflows =
    let g = grown_of c.args.child.now in
    let spans = c.args.rows.now in
    let refused = c.in_err-extend_run.ensures.overflow (ap Err (passed_on c.from_residual-in_err-extend_run.result _ _ c.from_residual-in_err-extend_run.ensures.1 overflows)) in
    run_refused g (grown_of c.loop-row.child) c.args.index (span_nulls spans) (span_count spans) (span_place spans) (sliced c.args.validity.now c.args.start c.args.len) c.loop-row.left c.next_set-nulls.new.self c.args.start c.loop-row.row c.next_set-nulls.result.0 c.next_set-nulls.result.1 c.nulls_of.result (rises_in spans g c.args.index c.requires.sound c.requires.bound) c.loop-row.invariant.1 c.next_set-nulls.ensures.bits (omega (arith, c.loop-row.invariant.0, c.requires.part)) c.nulls_of.ensures (grown_of c.extend_nulls.new.child) c.in_ok-extend_nulls.ensures.kept c.in_ok-extend_nulls.ensures.ok refused

pub children::extend_runs-loop-row-preserved : goal.children::extend_runs-loop-row-preserved
children::extend_runs-loop-row-preserved t c =
    let g = grown_of c.args.child.now in
    let spans = c.args.rows.now in
    let nulls = c.next_set-nulls.result.0 in
    let count = c.next_set-nulls.result.1 in
    let long = run_long nulls count c.loop-row.left c.next_set-nulls.new.self c.next_set-nulls.ensures.bits in
    (omega (arith, c.loop-row.invariant.0, long), grows_more g (grown_of c.loop-row.child) c.args.index (span_nulls spans) (span_count spans) (span_place spans) (sliced c.args.validity.now c.args.start c.args.len) c.loop-row.left c.next_set-nulls.new.self c.args.start c.loop-row.row nulls count c.nulls_of.result (rises_in spans g c.args.index c.requires.sound c.requires.bound) c.loop-row.invariant.1 c.next_set-nulls.ensures.bits (omega (arith, c.loop-row.invariant.0, c.requires.part)) c.nulls_of.ensures (grown_of c.extend_nulls.new.child) c.in_ok-extend_nulls.ensures.kept c.in_ok-extend_nulls.ensures.ok (grown_of c.extend_run.new.child) c.in_ok-extend_run.ensures.kept c.in_ok-extend_run.ensures.ok)

-- the growable

pub nested::GrowableNestedGrowable::extend-returns-in_default-clause-overflow : goal.nested::GrowableNestedGrowable::extend-returns-in_default-clause-overflow
nested::GrowableNestedGrowable::extend-returns-in_default-clause-overflow t c same =
    let there = subst (λ h. NamesRows h c.args.index c.args.start c.args.len) (sym c.self.view_is) c.requires in
    let counted = counts _ _ _ _ _ (c.self.invariant.holds c.if-self.false) in
    let many = length-sliced (rows (source_at (bound_layouts c.self.inside.arrays) c.args.index)) c.args.start c.args.len there.1 in
    subst (λ h. CannotHold h c.args.index c.args.start c.args.len) c.self.view_is (inl (λ fits. too_many (type_of c.self.inside.data_type) _ _ c.self.inside.len c.args.len fits counted many (omega (arith, c.in_default.ensures))))

pub nested::GrowableNestedGrowable::extend-returns-in_err-extend_from-clause-overflow : goal.nested::GrowableNestedGrowable::extend-returns-in_err-extend_from-clause-overflow
nested::GrowableNestedGrowable::extend-returns-in_err-extend_from-clause-overflow t c overflows =
    let passes = c.in_err-extend_from.ensures.overflow (ap Err (passed_on c.from_residual.result _ _ c.from_residual.ensures.1 overflows)) in
    let counted = bits_counted _ _ _ _ (type_of c.self.inside.data_type) (c.self.invariant.holds c.if-self.false) in
    absurd (omega (arith, passes, counted, c.in-Some.ensures))

pub nested::GrowableNestedGrowable::extend-invariant_of-self-in_err-extend : goal.nested::GrowableNestedGrowable::extend-invariant_of-self-in_err-extend
nested::GrowableNestedGrowable::extend-invariant_of-self-in_err-extend t c =
    failed_parts _ _ _ _ _ _ _ _ _ _ _ _ c.self.invariant c.in_err-extend.ensures.arrays c.in_err-extend.ensures.form (record { same_types = refl; same_sources = refl })

-- the rows that are named
named_part : (t : ℕ) (c : nested::GrowableNestedGrowable::extend-After-null_slots-old t) → NamesPart c.self.inside.spans (map grown_of c.self.inside.children.items) c.self.inside.validity c.self.inside.len (bound_layouts c.self.inside.arrays) (type_of c.self.inside.data_type) c.self.inside.has_failed c.spans-rows.result c.args.index c.args.start c.args.len
named_part t c =
    let there = subst (λ h. NamesRows h c.args.index c.args.start c.args.len) (sym c.self.view_is) c.requires in
    record { parts = c.self.invariant; well = c.if-self.false; sound = c.null_slots-old.ensures.sound; there = there; lies = c.spans-rows.ensures }

pub nested::GrowableNestedGrowable::extend-returns-in_err-extend-clause-overflow : goal.nested::GrowableNestedGrowable::extend-returns-in_err-extend-clause-overflow
nested::GrowableNestedGrowable::extend-returns-in_err-extend-clause-overflow t c overflows =
    let part = named_part t (goal.at.nested::GrowableNestedGrowable::extend-returns-in_err-extend-clause-overflow t c).After-null_slots-old in
    let passes = c.in_err-extend.ensures.overflow (ap Err (passed_on c.from_residual-in_err-extend.result _ _ c.from_residual-in_err-extend.ensures.1 overflows)) in
    let here = subst {A = Option (List Bool) × List ℕ} (λ q. PassesGreatest (grown_arrays c.self.inside.spans) (form_of c.self.inside.spans) (bits_of_slice q.0 c.args.start c.args.len) q.1 c.args.start) (λ j. (c.validity-validity.ensures j, c.spans-rows.ensures.offsets j)) passes in
    subst (λ h. CannotHold h c.args.index c.args.start c.args.len) c.self.view_is (inl (offsets_refused _ _ _ _ _ _ _ _ _ _ (names_of _ _ _ _ _ _ _ _ _ _ _ part) here))

pub nested::GrowableNestedGrowable::extend-extend_children-requires : goal.nested::GrowableNestedGrowable::extend-extend_children-requires
nested::GrowableNestedGrowable::extend-extend_children-requires t c =
    let part = named_part t (goal.at.nested::GrowableNestedGrowable::extend-extend_children-requires t c).After-null_slots-old in
    let outer = ap (λ (g : Grown). type_depth g.arrow_type) c.self.view_is in
    let inner = ap (λ xs. deepest (map (λ g. g.arrow_type) (map grown_of xs))) c.deref_mut.ensures.value ∙ ap deepest c.self.invariant.types in
    let covered : IfSome c.validity-validity.result (λ bits. c.args.start + c.args.len ≤ length bits.now) = search rules in
    let binds = binds_all _ _ _ _ _ _ _ _ _ _ _ part in
    let well = all_well _ _ _ _ _ (c.self.invariant.holds c.if-self.false) in
    (omega (arith, inner, deepest_child (type_of c.self.inside.data_type), outer, c.decreases), (c.spans-rows.ensures.sound, (omega (arith, c.spans-rows.ensures.count, part.there.1), (covered, (rw c.deref_mut.ensures.value binds, rw c.deref_mut.ensures.value well)))))

pub nested::GrowableNestedGrowable::extend-invariant_of-self-in_err-extend_children : goal.nested::GrowableNestedGrowable::extend-invariant_of-self-in_err-extend_children
nested::GrowableNestedGrowable::extend-invariant_of-self-in_err-extend_children t c =
    let kept = subst (λ xs. AreBoundAs (map grown_of xs) (map grown_of c.extend_children.new.children)) c.deref_mut.ensures.value c.in_err-extend_children.ensures.kept in
    let back = written c.extend_children.new.children c.self.inside.children.items c.self.inside.children.len (as_many_items c.deref_mut.result.now c.extend_children.new.children c.in_err-extend_children.ensures.kept ∙ c.deref_mut.ensures.len) in
    rw back (failed_parts _ _ _ _ _ _ _ _ _ _ _ _ c.self.invariant c.in_ok-extend.ensures.arrays c.in_ok-extend.ensures.form kept)

pub nested::GrowableNestedGrowable::extend-returns-in_err-extend_children-clause-overflow : goal.nested::GrowableNestedGrowable::extend-returns-in_err-extend_children-clause-overflow
nested::GrowableNestedGrowable::extend-returns-in_err-extend_children-clause-overflow t c overflows =
    let part = named_part t (goal.at.nested::GrowableNestedGrowable::extend-returns-in_err-extend_children-clause-overflow t c).After-null_slots-old in
    let refused = c.in_err-extend_children.ensures.overflow (ap Err (passed_on c.from_residual-in_err-extend_children.result _ _ c.from_residual-in_err-extend_children.ensures.1 overflows)) in
    let here = subst {A = ((ℕ × Option (List Bool)) × (ℕ → ℕ)) × List Grown} (λ q. SomeCannotGrow q.0.0.0 (bits_of_slice q.0.0.1 c.args.start c.args.len) q.0.1 c.args.index c.args.start q.1) (λ j. (((c.spans-rows.ensures.nulls j, c.validity-validity.ensures j), c.spans-rows.ensures.place j), map grown_of (c.deref_mut.ensures.value j))) refused in
    subst (λ h. CannotHold h c.args.index c.args.start c.args.len) c.self.view_is (children_cannot _ _ _ _ _ _ _ _ _ _ _ part here c.self.inside.has_failed)

-- the parts after the rows are appended
grown : (t : ℕ) (c : nested::GrowableNestedGrowable::extend-After-self-4-1 t) → Step (grown_arrays c.self.inside.spans) (form_of c.self.inside.spans) (form_of c.extend.new.self) (map grown_of c.self.inside.children.items) (map grown_of c.extend_children.new.children) c.self.inside.validity c.extend_from.new.self c.in-Some.total (bound_layouts c.self.inside.arrays) (type_of c.self.inside.data_type) (sliced (rows (source_at (bound_layouts c.self.inside.arrays) c.args.index)) c.args.start c.args.len)
grown t c =
    let form = c.in_ok-extend.ensures.ok ∙ (λ j. form_with (form_of c.self.inside.spans) (bits_of_slice (c.validity-validity.ensures j) c.args.start c.args.len) (c.spans-rows.ensures.offsets j) c.args.start) in
    let bits = c.in_ok-extend_from.ensures.ok ∙ ap (λ v. c.self.inside.validity ++ bits_of_slice v c.args.start c.args.len) c.validity-validity.ensures in
    let news = c.in_ok-extend_children.ensures.ok ∙ (λ j. map (grown_by (c.spans-rows.ensures.nulls j) (bits_of_slice (c.validity-validity.ensures j) c.args.start c.args.len) (c.spans-rows.ensures.place j) c.args.index c.args.start) (map grown_of (c.deref_mut.ensures.value j))) in
    step _ _ _ _ _ _ _ _ _ _ _ (named_part t (goal.at.nested::GrowableNestedGrowable::extend-returns-clause-ok t c).After-null_slots-old) (form_of c.extend.new.self) (map grown_of c.extend_children.new.children) c.extend_from.new.self c.in-Some.total form news bits (omega (arith, c.in-Some.ensures)) c.in_ok-extend_children.ensures.fits

children_back : (t : ℕ) (c : nested::GrowableNestedGrowable::extend-After-self-4-1 t) → take c.self.inside.children.len (c.extend_children.new.children ++ drop (length c.extend_children.new.children) c.self.inside.children.items) ≡ c.extend_children.new.children
children_back t c =
    written c.extend_children.new.children c.self.inside.children.items c.self.inside.children.len (as_many_items c.deref_mut.result.now c.extend_children.new.children c.in_ok-extend_children.ensures.kept ∙ c.deref_mut.ensures.len)

pub nested::GrowableNestedGrowable::extend-invariant_of-self-2 : goal.nested::GrowableNestedGrowable::extend-invariant_of-self-2
nested::GrowableNestedGrowable::extend-invariant_of-self-2 t c =
    rw (children_back t c) (subst (λ a. IsGrownNested a (form_of c.extend.new.self) (map grown_of c.extend_children.new.children) c.extend_from.new.self c.in-Some.total (bound_layouts c.self.inside.arrays) (type_of c.self.inside.data_type) false) (sym c.in_ok-extend.ensures.arrays) (grown t c).parts)

pub nested::GrowableNestedGrowable::extend-returns-clause-ok : goal.nested::GrowableNestedGrowable::extend-returns-clause-ok
nested::GrowableNestedGrowable::extend-returns-clause-ok t c =
    let s = grown t c in
    let layouts = bound_layouts c.self.inside.arrays in
    let there = subst (λ h. NamesRows h c.args.index c.args.start c.args.len) (sym c.self.view_is) c.requires in
    let many = length-sliced (rows (source_at layouts c.args.index)) c.args.start c.args.len there.1 in
    let count : c.in-Some.total ≡ c.self.inside.len + length (sliced (rows (source_at layouts c.args.index)) c.args.start c.args.len) = omega (arith, c.in-Some.ensures, many) in
    let all = ap (λ xs. nested_rows (form_of c.extend.new.self) c.extend_from.new.self (rows_of_all (map grown_of xs))) (children_back t c) ∙ s.rows in
    rw (← c.self.view_is) (λ j. record { arrow_type = type_of c.self.inside.data_type; sources = Some layouts; rows = all j; count = count j; failed = false })

pub nested::GrowableNestedGrowable::extend-returns-clause-fits : goal.nested::GrowableNestedGrowable::extend-returns-clause-fits
nested::GrowableNestedGrowable::extend-returns-clause-fits t c =
    let sound = subst (λ a. IsSoundForm a (form_of c.extend.new.self)) c.in_ok-extend.ensures.arrays c.null_slots-new.ensures.sound in
    let all = ap (λ xs. nested_rows (form_of c.extend.new.self) c.extend_from.new.self (rows_of_all (map grown_of xs))) (children_back t c) in
    subst (Fits (type_of c.self.inside.data_type)) (sym all) (fits_step _ _ _ _ _ _ _ _ _ _ _ (grown t c) (subst (LiesSo (grown_arrays c.self.inside.spans)) (sym c.in_ok-extend.ensures.form) (spans_lie c.self.inside.spans)) sound (omega (arith, c.in-Some.ensures)))

-- unions

pub variants::extend_chosen-extend-requires : goal.variants::extend_chosen-extend-requires
variants::extend_chosen-extend-requires t c =
    let xs = c.args.children.now in
    let f = c.args.field in
    let e = c.index-children-field.result in
    (omega (arith, c.decreases, deepest_at xs f e c.requires.field), subst (λ g. NamesRows g c.args.index c.args.child_row c.args.count) (nth_read xs f e c.requires.field) (binds_names _ c.args.index c.args.child_row c.args.count c.requires.bound))

pub variants::extend_chosen-returns-clause-ok : goal.variants::extend_chosen-returns-clause-ok
variants::extend_chosen-returns-clause-ok t c =
    let xs = c.args.children.now in
    let f = c.args.field in
    let g = nth_grown (map grown_of xs) f in
    let read = nth_read xs f c.index-children-field.result c.requires.field in
    let named = ap (λ h. named_rows h c.args.index c.args.child_row c.args.count) (sym read) ∙ named g c.args.index (c.args.child_row + c.args.count) c.requires.bound c.args.child_row c.args.count in
    on_ok c.extend.result c.extend.ensures.ok (λ grown. set_rows xs f c.extend.new.self _ c.requires.field (grown ∙ (λ j. appended (sym read j) (named j))))

pub variants::extend_chosen-returns-clause-well : goal.variants::extend_chosen-returns-clause-well
variants::extend_chosen-returns-clause-well t c =
    on_both c.extend.result c.extend.ensures.ok c.extend.ensures.fits (λ grown fits. set_well c.args.children.now c.args.field c.extend.new.self c.requires.well (record { well = ap (λ g. g.failed) grown; fits = fits }))

pub variants::extend_chosen-returns-clause-kept : goal.variants::extend_chosen-returns-clause-kept
variants::extend_chosen-returns-clause-kept t c =
    let xs = c.args.children.now in
    let read = nth_read xs c.args.field c.index-children-field.result c.requires.field in
    set_bound xs c.args.field c.extend.new.self (subst (λ g. SameBound g (grown_of c.extend.new.self)) (sym read) (same_after c.extend.result _ _ _ c.extend.ensures.ok c.extend.ensures.err))

pub variants::extend_chosen-returns-clause-overflow : goal.variants::extend_chosen-returns-clause-overflow
variants::extend_chosen-returns-clause-overflow t c overflows =
    let read = nth_read c.args.children.now c.args.field c.index-children-field.result c.requires.field in
    subst (λ g. CannotHold g c.args.index c.args.child_row c.args.count) (sym read) (c.extend.ensures.overflow overflows)

pub variants::extend_sparse-extend_others-requires : goal.variants::extend_sparse-extend_others-requires
variants::extend_sparse-extend_others-requires t c = record { field = c.requires.field; well = c.requires.well }

-- once the others have grown, the child of the field is as it was
chosen_same : (t : ℕ) (c : variants::extend_sparse-In_ok-extend_others t) → nth_grown (map grown_of c.extend_others.new.children) c.args.field ≡ nth_grown (map grown_of c.args.children.now) c.args.field
chosen_same t c =
    ap (λ gs. nth_grown gs c.args.field) c.in_ok-extend_others.ensures.ok ∙ with_others_here c.args.field c.args.count (map grown_of c.args.children.now) (omega (arith, c.requires.field, length-map c.args.children.now grown_of))

pub variants::extend_sparse-extend_chosen-requires : goal.variants::extend_sparse-extend_chosen-requires
variants::extend_sparse-extend_chosen-requires t c =
    let others = c.in_ok-extend_others.ensures in
    let same = chosen_same t (goal.at.variants::extend_sparse-extend_chosen-requires t c).In_ok-extend_others in
    let many = as_many_items c.args.children.now c.extend_others.new.children others.kept in
    (omega (arith, c.decreases, ap deepest others.kept.same_types), (omega (arith, c.requires.field, many), (subst (λ g. BindsRows g c.args.index (c.args.child_row + c.args.count)) (sym same) c.requires.bound, others.well)))

pub variants::extend_dense-append_places-requires : goal.variants::extend_dense-append_places-requires
variants::extend_dense-append_places-requires t c =
    let place = place_is c.args.children.now c.args.field c.len-place.result c.index-children-field.result c.requires.field c.requires.well c.len-place.ensures.count c.len-place.ensures.rows in
    omega (arith, place, c.requires.few)

pub variants::extend_variants-extend_by_fields-requires-clause-bound : goal.variants::extend_variants-extend_by_fields-requires-clause-bound
variants::extend_variants-extend_by_fields-requires-clause-bound t c =
    let array = c.index-arrays-index.result in
    let layouts = map (λ (r : Bor _). union_layout r.now) c.args.arrays.now in
    let source = source_is (λ (r : Bor _). union_layout r.now) c.args.arrays.now c.args.index array c.requires.index c.index-arrays-index.is in
    let bounded : c.args.index < length layouts = omega (arith, c.requires.index, length-map c.args.arrays.now (λ (r : Bor _). union_layout r.now)) in
    binds_fields layouts c.args.index array.now bounded source (source_type layouts c.args.index) (offsets_in c.args.offsets.now) (map grown_of c.args.children.now) (sym (union_type array.now) ∙ ap type_of_layout (sym source)) (c.if-go_by_fields.ensures.sparse refl) c.requires.bound

pub variants::extend_variants-returns-then-go_by_fields-clause-bound : goal.variants::extend_variants-returns-then-go_by_fields-clause-bound
variants::extend_variants-returns-then-go_by_fields-clause-bound t c =
    bound_next _ _ _ _ _ _ c.requires.bound c.extend_by_fields.ensures.kept refl

-- the run that comes next
next_run : (t : ℕ) (c : variants::extend_variants-After-run_of-field t) → NamesRun (map (λ (r : Bor _). union_layout r.now) c.args.arrays.now) c.args.index c.index-arrays-index.result.now (offsets_in c.loop-row.offsets) (map grown_of c.loop-row.children) c.loop-row.row c.run_of-field.result.0 c.run_of-field.result.1 c.run_of-field.result.2
next_run t c =
    let source = source_is (λ (r : Bor _). union_layout r.now) c.args.arrays.now c.args.index c.index-arrays-index.result c.requires.index c.index-arrays-index.is in
    record { bounded = omega (arith, c.requires.index, length-map c.args.arrays.now (λ (r : Bor _). union_layout r.now)); source = source; bound = c.loop-row.invariant.2; run = c.run_of-field.ensures.run }

pub variants::extend_variants-loop-row-preserved : goal.variants::extend_variants-loop-row-preserved
variants::extend_variants-loop-row-preserved t c =
    let inv = c.loop-row.invariant in
    let call = c.in_ok-extend_variant.ensures in
    let more = run_more _ _ _ _ _ _ _ _ _ (next_run t (goal.at.variants::extend_variants-loop-row-preserved t c).After-run_of-field) c.loop-row.types.items c.args.types.now.items (offsets_in c.args.offsets.now) (map grown_of c.args.children.now) c.args.start inv.3 inv.0 c.append_ids.new.types.items (offsets_in c.extend_variant.new.offsets) (map grown_of c.extend_variant.new.children) c.in_ok-append_ids.ensures.ok call.ok call.places call.well call.few in
    (omega (arith, inv.0), c.run_of-field.ensures.part, bound_next _ _ _ _ _ _ inv.2 call.kept call.mode, more)

pub variants::extend_variants-extend_variant-requires : goal.variants::extend_variants-extend_variant-requires
variants::extend_variants-extend_variant-requires t c =
    let run = next_run t (goal.at.variants::extend_variants-extend_variant-requires t c).After-run_of-field in
    let inv = c.loop-row.invariant in
    let within : c.run_of-field.result.0 < length (map grown_of c.loop-row.children) = among _ _ _ _ _ _ _ _ _ run in
    let types = ap deepest (inv.2.over.types ∙ sym c.requires.bound.over.types) in
    (omega (arith, c.decreases, types), (omega (arith, within, length-map c.loop-row.children grown_of), (run_binds _ _ _ _ _ _ _ _ _ run, (inv.3.holds.well, inv.3.holds.few c.run_of-field.result.0 within))))

pub union::GrowableUnionGrowable::extend-extend_variants-requires : goal.union::GrowableUnionGrowable::extend-extend_variants-requires
union::GrowableUnionGrowable::extend-extend_variants-requires t c =
    let there = subst (λ h. NamesRows h c.args.index c.args.start c.args.len) (sym c.self.view_is) c.requires in
    let parts = c.self.invariant in
    let lent = ap (map (λ (r : Bor _). union_layout r.now)) c.deref.ensures.value in
    let type_is = ap (λ ls. source_type ls c.args.index) lent ∙ parts.bound.one_type c.args.index _ there.0 in
    let outer = ap (λ (g : Grown). type_depth g.arrow_type) c.self.view_is in
    let inner = ap (λ xs. deepest (map (λ g. g.arrow_type) (map grown_of xs))) c.deref_mut.ensures.value ∙ ap deepest parts.bound.over.types in
    let bound = subst {A = (List Layout × ArrowType) × List AnyGrowable} (λ q. IsBoundUnion q.0.0 q.0.1 (offsets_in c.self.inside.offsets) (map grown_of q.1)) (λ j. ((sym lent j, sym type_is j), sym c.deref_mut.ensures.value j)) parts.bound in
    let holds = subst {A = ArrowType × List AnyGrowable} (λ q. HoldsVariants q.0 c.self.inside.types.items (offsets_in c.self.inside.offsets) (map grown_of q.1)) (λ j. (sym type_is j, sym c.deref_mut.ensures.value j)) (parts.holds c.if-self.false) in
    (omega (arith, inner, deepest_of_fields (type_of c.self.inside.data_type), outer, c.decreases), (omega (arith, there.0, ap length lent, length-map c.deref.result.now (λ (r : Bor _). union_layout r.now)), (subst (λ ls. c.args.start + c.args.len ≤ length (rows (source_at ls c.args.index))) (sym lent) there.1, (bound, holds))))

pub union::GrowableUnionGrowable::extend-invariant_of-self-in_err-extend_variants : goal.union::GrowableUnionGrowable::extend-invariant_of-self-in_err-extend_variants
union::GrowableUnionGrowable::extend-invariant_of-self-in_err-extend_variants t c =
    let there = subst (λ h. NamesRows h c.args.index c.args.start c.args.len) (sym c.self.view_is) c.requires in
    let lent = ap (map (λ (r : Bor _). union_layout r.now)) c.deref.ensures.value in
    let type_is = ap (λ ls. source_type ls c.args.index) lent ∙ c.self.invariant.bound.one_type c.args.index _ there.0 in
    let bound : IsBoundUnion (map (λ (r : Bor _). union_layout r.now) c.self.inside.arrays.items) (type_of c.self.inside.data_type) (offsets_in c.extend_variants.new.offsets) (map grown_of c.extend_variants.new.children) = subst {A = List Layout × ArrowType} (λ q. IsBoundUnion q.0 q.1 (offsets_in c.extend_variants.new.offsets) (map grown_of c.extend_variants.new.children)) (λ j. (lent j, type_is j)) c.in_err-extend_variants.ensures.bound in
    rw (given_back c.extend_variants.new.children c.self.inside.children.items c.deref_mut.result.now c.self.inside.children.len _ c.deref_mut.ensures.value c.deref_mut.ensures.len c.self.invariant.bound.over.types bound.over.types) (failed_union _ _ _ _ _ _ bound)

-- the parts after the rows are appended, with the children that are given back
grown_variants : (t : ℕ) (c : union::GrowableUnionGrowable::extend-After-self-4-1 t) → GrowsUnion (map (λ (r : Bor _). union_layout r.now) c.self.inside.arrays.items) (type_of c.self.inside.data_type) c.self.inside.types.items (offsets_in c.self.inside.offsets) (map grown_of c.self.inside.children.items) c.self.inside.len c.self.inside.has_failed c.extend_variants.new.types.items (offsets_in c.extend_variants.new.offsets) (map grown_of c.extend_variants.new.children) (sliced (rows (source_at (map (λ (r : Bor _). union_layout r.now) c.self.inside.arrays.items) c.args.index)) c.args.start c.args.len) c.in-Some.total
grown_variants t c =
    let there = subst (λ h. NamesRows h c.args.index c.args.start c.args.len) (sym c.self.view_is) c.requires in
    let lent = ap (map (λ (r : Bor _). union_layout r.now)) c.deref.ensures.value in
    let type_is = ap (λ ls. source_type ls c.args.index) lent ∙ c.self.invariant.bound.one_type c.args.index _ there.0 in
    let call = c.in_ok-extend_variants.ensures in
    let bound = subst {A = List Layout × ArrowType} (λ q. IsBoundUnion q.0 q.1 (offsets_in c.extend_variants.new.offsets) (map grown_of c.extend_variants.new.children)) (λ j. (lent j, type_is j)) call.bound in
    let grows = subst {A = (List Layout × ArrowType) × List AnyGrowable} (λ q. GrowsVariants q.0.1 c.self.inside.types.items (offsets_in c.self.inside.offsets) (map grown_of q.1) c.extend_variants.new.types.items (offsets_in c.extend_variants.new.offsets) (map grown_of c.extend_variants.new.children) (sliced (rows (source_at q.0.0 c.args.index)) c.args.start c.args.len)) (λ j. ((lent j, type_is j), c.deref_mut.ensures.value j)) call.ok in
    let many = length-sliced (rows (source_at (map (λ (r : Bor _). union_layout r.now) c.self.inside.arrays.items) c.args.index)) c.args.start c.args.len there.1 in
    record { parts = c.self.invariant; well = c.if-self.false; bound = bound; grows = grows; count = omega (arith, c.in-Some.ensures, many) }

variants_back : (t : ℕ) (c : union::GrowableUnionGrowable::extend-After-self-4-1 t) → take c.self.inside.children.len (c.extend_variants.new.children ++ drop (length c.extend_variants.new.children) c.self.inside.children.items) ≡ c.extend_variants.new.children
variants_back t c =
    given_back c.extend_variants.new.children c.self.inside.children.items c.deref_mut.result.now c.self.inside.children.len _ c.deref_mut.ensures.value c.deref_mut.ensures.len c.self.invariant.bound.over.types (grown_variants t c).bound.over.types

pub union::GrowableUnionGrowable::extend-invariant_of-self-2 : goal.union::GrowableUnionGrowable::extend-invariant_of-self-2
union::GrowableUnionGrowable::extend-invariant_of-self-2 t c =
    rw (variants_back t c) (grown_union _ _ _ _ _ _ _ _ _ _ _ _ (grown_variants t c))

pub union::GrowableUnionGrowable::extend-returns-clause-ok : goal.union::GrowableUnionGrowable::extend-returns-clause-ok
union::GrowableUnionGrowable::extend-returns-clause-ok t c =
    let grown = grown_variants t c in
    let u = type_of c.self.inside.data_type in
    let all = ap (λ xs. variant_rows u c.extend_variants.new.types.items (offsets_in c.extend_variants.new.offsets) (map grown_of xs)) (variants_back t c) ∙ grown.grows.rows in
    rw (← c.self.view_is) (λ j. record { arrow_type = u; sources = Some (map (λ (r : Bor _). union_layout r.now) c.self.inside.arrays.items); rows = all j; count = grown.count j; failed = false })

pub union::GrowableUnionGrowable::extend-returns-clause-fits : goal.union::GrowableUnionGrowable::extend-returns-clause-fits
union::GrowableUnionGrowable::extend-returns-clause-fits t c =
    let u = type_of c.self.inside.data_type in
    let all = ap (λ xs. variant_rows u c.extend_variants.new.types.items (offsets_in c.extend_variants.new.offsets) (map grown_of xs)) (variants_back t c) in
    subst (Fits u) (sym all) (grown_fits _ _ _ _ _ _ _ _ _ _ _ _ (grown_variants t c) (omega (arith, c.in-Some.ensures)))

pub variants::extend_sparse-returns-clause-ok : goal.variants::extend_sparse-returns-clause-ok
variants::extend_sparse-returns-clause-ok t c =
    let same = chosen_same t (goal.at.variants::extend_sparse-returns-clause-ok t c).In_ok-extend_others in
    on_ok c.extend_chosen.result c.extend_chosen.ensures.ok (λ is. is ∙ (λ j. with_rows c.args.field (sliced (bound_rows (same j) c.args.index) c.args.child_row c.args.count) (c.in_ok-extend_others.ensures.ok j)))

pub variants::extend_sparse-returns-clause-overflow : goal.variants::extend_sparse-returns-clause-overflow
variants::extend_sparse-returns-clause-overflow t c overflows =
    let same = chosen_same t (goal.at.variants::extend_sparse-returns-clause-overflow t c).In_ok-extend_others in
    inl (subst (λ g. CannotHold g c.args.index c.args.child_row c.args.count) same (c.extend_chosen.ensures.overflow overflows))

pub variants::extend_variants-returns-in_err-extend_variant-clause-bound : goal.variants::extend_variants-returns-in_err-extend_variant-clause-bound
variants::extend_variants-returns-in_err-extend_variant-clause-bound t c =
    let call = c.in_err-extend_variant.ensures in
    bound_next _ _ _ _ _ _ c.loop-row.invariant.2 call.kept call.mode

pub variants::extend_variants-returns-in_err-extend_variant-clause-overflow : goal.variants::extend_variants-returns-in_err-extend_variant-clause-overflow
variants::extend_variants-returns-in_err-extend_variant-clause-overflow t c overflows =
    let run = next_run t (goal.at.variants::extend_variants-returns-in_err-extend_variant-clause-overflow t c).After-run_of-field in
    let inv = c.loop-row.invariant in
    let refused = c.in_err-extend_variant.ensures.overflow (ap Err (passed_on c.from_residual-in_err-extend_variant.result _ _ c.from_residual-in_err-extend_variant.ensures.1 overflows)) in
    let to = c.run_of-field.ensures.part in
    let long = ap (λ l. length (rows l)) run.source in
    run_stops _ _ _ _ _ _ _ _ _ run c.loop-row.types.items c.args.types.now.items (offsets_in c.args.offsets.now) (map grown_of c.args.children.now) c.args.start inv.3 inv.0 c.args.len to (omega (arith, to, c.requires.part, long, c.len.ensures.rows, c.len.ensures.types)) refused

pub union::GrowableUnionGrowable::extend-returns-in_default-clause-overflow : goal.union::GrowableUnionGrowable::extend-returns-in_default-clause-overflow
union::GrowableUnionGrowable::extend-returns-in_default-clause-overflow t c same =
    let there = subst (λ h. NamesRows h c.args.index c.args.start c.args.len) (sym c.self.view_is) c.requires in
    let counted = held_counted _ _ _ _ _ _ _ c.self.invariant c.if-self.false in
    let many = length-sliced (rows (source_at (map (λ (r : Bor _). union_layout r.now) c.self.inside.arrays.items) c.args.index)) c.args.start c.args.len there.1 in
    subst (λ h. CannotHold h c.args.index c.args.start c.args.len) c.self.view_is (inl (λ fits. too_many (type_of c.self.inside.data_type) _ _ c.self.inside.len c.args.len fits counted many (omega (arith, c.in_default.ensures))))
