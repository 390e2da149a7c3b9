use Rattle.arrow_growable.proofs.Common.{arith, ◌≡◌, ◌+◌, ◌-◌, ◌<◌, ◌∙◌, Err, List, ap, drop, get_or, length, map, of_z, subst, sym, take, to_z, w8, ints, to_z-of_z, get_or-set_other, length-map, length-set, mask, Slot, id_at, sliced, field_ids, union_rows, FitsWith, Grown, passed_on, IsFlat, grown_of, BindsRows, GrownBy, IsWell, SameBound, bound_rows, have_id}
use Rattle.arrow_growable.proofs.UnionChildLemmas.{nth_read, set_bound}
use Rattle.arrow_growable.proofs.UnionFieldLemmas.{field_next, AtField, field_named, own_long}
use Rattle.arrow_growable.proofs.growable.fields.extend_fields.Goals as goal
use Rattle.arrow_growable.proofs.growable.fields.extend_fields.Goals.{After-index-children-f}

-- the child of the field whose turn it is, and which of the rows are its own
at_field : (c : After-index-children-f) → AtField c.args.array.now c.args.index (map grown_of c.args.children.now) c.loop-f.children c.loop-f.f c.index-children-f.result c.args.start c.args.len c.in_ok-own.own
at_field c =
    let p = c.args.array.now in
    let i = c.loop-f.invariant in
    let within : c.loop-f.f < length c.loop-f.children = omega (arith, c.loop-f-test.true, i.0) in
    let read = nth_read c.loop-f.children c.loop-f.f c.index-children-f.result within in
    let id : to_z w8 (of_z w8 c.id_of_field.result) ≡ id_at (field_ids p.arrow_type) c.loop-f.f = to_z-of_z w8 c.id_of_field.result (omega (arith, ints, c.id_of_field.type_inv)) ∙ (c.id_of_field.ensures ∙ ap (λ t. id_at (field_ids t) c.loop-f.f) c.data_type.ensures.same) in
    let many : c.args.start + c.args.len - c.args.start ≡ c.args.len = omega arith in
    let ids : c.as_slice.result.now ≡ p.types = c.as_slice.ensures ∙ c.types.ensures.same in
    let own = c.in_ok-own.ensures.ok ∙ (λ j. have_id (id j) (take (many j) (drop c.args.start (ids j)))) in
    record { sparse = c.requires.sparse; part = c.requires.part; bound = c.requires.bound; within = within; inside = omega (arith, within, i.0, length-map c.args.children.now grown_of); read = read; was = sym (i.2.others c.loop-f.f (omega arith)) ∙ read; own_is = own }

pub extend_flat-requires-clause-bound : goal.extend_flat-requires-clause-bound
extend_flat-requires-clause-bound c =
    let at = at_field (goal.at.extend_flat-requires-clause-bound c).After-index-children-f in
    let binds = c.requires.bound.binds c.loop-f.f at.inside in
    let many = own_long _ _ _ _ _ _ _ _ _ at in
    subst (λ g. BindsRows g c.args.index (c.start.result + c.args.start + length c.in_ok-own.own)) at.was (record { layouts = binds.layouts; sources = binds.sources; bound = binds.bound; within = omega (arith, binds.within, c.start.ensures, many, c.requires.part) })

pub extend_flat-requires-clause-well : goal.extend_flat-requires-clause-well
extend_flat-requires-clause-well c =
    let at = at_field (goal.at.extend_flat-requires-clause-well c).After-index-children-f in
    subst IsWell at.read (c.loop-f.invariant.2.well c.loop-f.f _ (omega (arith, at.within, length-map c.loop-f.children grown_of)))

pub returns-in_err-extend_flat-clause-kept : goal.returns-in_err-extend_flat-clause-kept
returns-in_err-extend_flat-clause-kept c =
    let at = at_field (goal.at.returns-in_err-extend_flat-clause-kept c).After-index-children-f in
    let kept = c.loop-f.invariant.2.kept in
    let bound = set_bound c.loop-f.children c.loop-f.f c.extend_flat.new.child (subst (λ g. SameBound g (grown_of c.extend_flat.new.child)) (sym at.read) c.in_err-extend_flat.ensures.kept) in
    record { same_types = bound.same_types ∙ kept.same_types; same_sources = bound.same_sources ∙ kept.same_sources }

pub returns-in_err-extend_flat-clause-overflow : goal.returns-in_err-extend_flat-clause-overflow
returns-in_err-extend_flat-clause-overflow c overflows =
    let at = at_field (goal.at.returns-in_err-extend_flat-clause-overflow c).After-index-children-f in
    let part = field_named _ _ _ _ _ _ _ _ _ at (c.start.result + c.args.start) (omega (arith, c.start.ensures)) c.extend_flat.ensures.null in
    let refused = c.in_err-extend_flat.ensures.overflow (ap Err (passed_on c.from_residual-in_err-extend_flat.result _ _ c.from_residual-in_err-extend_flat.ensures.1 overflows)) in
    (c.loop-f.f, at.inside, λ fits. refused (subst {A = Grown × List Slot} (λ q. FitsWith q.0 q.1) (λ j. (at.was j, sym part j)) fits))

pub loop-f-preserved : goal.loop-f-preserved
loop-f-preserved c =
    let at = at_field (goal.at.loop-f-preserved c).After-index-children-f in
    let part = field_named _ _ _ _ _ _ _ _ _ at (c.start.result + c.args.start) (omega (arith, c.start.ensures)) c.extend_flat.ensures.null in
    let xs = c.loop-f.children in
    let k = c.loop-f.f in
    let i = c.loop-f.invariant in
    let x = c.extend_flat.new.child in
    let made = c.in_ok-extend_flat.ensures in
    let some = mask c.in_ok-own.own (sliced (bound_rows (grown_of (get_or xs k c.index-children-f.result)) c.args.index) (c.start.result + c.args.start) (length c.in_ok-own.own)) in
    let grows = subst (λ g. GrownBy g (grown_of x) some) (sym at.read) made.ok in
    let next = field_next c.args.array.now.arrow_type (sliced (union_rows c.args.array.now) c.args.start c.args.len) (map grown_of c.args.children.now) xs k x some at.within i.2 grows part (subst (λ g. SameBound g (grown_of x)) (sym at.read) made.kept) in
    (length-set xs k x ∙ i.0, λ j d from among. subst IsFlat (sym (get_or-set_other xs k j x d (λ same. omega (arith, from, same)))) (i.1 j d (omega (arith, from)) (omega (arith, among, length-set xs k x))), next)
