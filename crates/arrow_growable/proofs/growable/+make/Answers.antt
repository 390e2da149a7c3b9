use Rattle.arrow_growable.proofs.Common.{arith, rules, ◌≡◌, ◌<◌, Bor, Err, Global, List, [], Vec, get_or, length, map, ap, sym, subst, ◌∙◌, get_or_default, length-map, take_all, physical_type_of, IfOk-weaker, joined, layout_of, layouts_in, Unjoined, child_of, keyed_layout, Layout, rows, passed_on, AnyArray, deepest, type_depth, field_types, union_layout, AreOfOneType, bound_to, first_type, first_is, bound_layouts, child_type, child_types, child_less_deep, deepest_of_fields, CanBind, HaveFieldTypes, SomeColumnUnjoined, union_children, nth_child, form_of, CannotJoin, All, map-map, ℕ, grown_of}
use Rattle.arrow_growable.proofs.UnionMakeLemmas.{child_list, children_many, column_depth, column_read, columns_alone, columns_bind, columns_types, grown_types, LentColumn}
use Rattle.arrow_growable.proofs.KindLemmas.{others_flat}
use Rattle.arrow_growable.proofs.UnjoinedLemmas.{cannot_join, child_unjoined, field_unjoined, only_memory, values_are, values_unjoined}
use Rattle.arrow_growable.proofs.MakeLemmas.{all_children, made_next, one_type_of, first_type_of, taken_more}
use Rattle.arrow_growable.proofs.growable.+make.Goals as goal
use Rattle.arrow_growable.proofs.growable.+make.Goals.{make::make_each-After-deref}

pub nested::make_children-make_growable-requires : goal.nested::make_children-make_growable-requires
nested::make_children-make_growable-requires t c =
    let layouts = bound_layouts c.args.arrays.now in
    let f = c.loop-f.f in
    let u = first_type layouts in
    let column : map (λ (a : Bor _). layout_of a.now) c.deref.result.now ≡ map (nth_child f) layouts = ap (map (λ (a : Bor _). layout_of a.now)) c.deref.ensures.value ∙ c.in_ok-column.ensures.ok in
    let within : f < length (child_types u) = omega (arith, c.loop-f-test.true, c.width-width.ensures) in
    let some : 0 < length (map (nth_child f) layouts) = omega (arith, c.requires.some, length-map layouts (nth_child f)) in
    let first = first_type_of (child_type u f) (map (nth_child f) layouts) some c.in_ok-column.ensures.types in
    let type_is = ap first_type column ∙ first in
    (omega (arith, ap type_depth type_is, child_less_deep u f within, c.decreases), (omega (arith, some, ap length column, length-map c.deref.result.now (λ (a : Bor _). layout_of a.now)), subst AreOfOneType (sym column) (one_type_of (child_type u f) (map (nth_child f) layouts) some c.in_ok-column.ensures.types)))

pub nested::make_children-loop-f-preserved : goal.nested::make_children-loop-f-preserved
nested::make_children-loop-f-preserved t c =
    let layouts = bound_layouts c.args.arrays.now in
    let f = c.loop-f.f in
    let u = first_type layouts in
    let column : map (λ (a : Bor _). layout_of a.now) c.deref.result.now ≡ map (nth_child f) layouts = ap (map (λ (a : Bor _). layout_of a.now)) c.deref.ensures.value ∙ c.in_ok-column.ensures.ok in
    let within : f < length (child_types u) = omega (arith, c.loop-f-test.true, c.width-width.ensures) in
    let some : 0 < length (map (nth_child f) layouts) = omega (arith, c.requires.some, length-map layouts (nth_child f)) in
    let first = first_type_of (child_type u f) (map (nth_child f) layouts) some c.in_ok-column.ensures.types in
    let made = c.in_ok-make_growable.ensures.ok ∙ ap bound_to column in
    rw c.in_ok-push.ensures.items (made_next layouts c.loop-f.children.items c.in_ok-make_growable.field-0 f within made first c.loop-f.invariant)

pub nested::make_children-returns-clause-ok : goal.nested::make_children-returns-clause-ok
nested::make_children-returns-clause-ok t c =
    all_children (bound_layouts c.args.arrays.now) c.loop-f.children.items c.loop-f.f (omega (arith, c.loop-f-test.false, c.width-width.ensures)) c.loop-f.invariant.0

pub nested::make_children-returns-clause-types : goal.nested::make_children-returns-clause-types
nested::make_children-returns-clause-types t c =
    let u = first_type (bound_layouts c.args.arrays.now) in
    c.loop-f.invariant.1 ∙ take_all c.loop-f.f (child_types u) (omega (arith, c.loop-f-test.false, c.width-width.ensures))

-- arrays without children, and dictionaries

pub make::make_growable-make_flat-requires : goal.make::make_growable-make_flat-requires
make::make_growable-make_flat-requires t c =
    let first = first_is (λ (a : Bor _). layout_of a.now) c.args.arrays.now c.index-arrays-0.result c.requires.some c.index-arrays-0.is in
    let kind = c.to_physical_type.ensures ∙ ap physical_type_of (c.data_type.ensures.same ∙ sym first) in
    let d = c.in_default in
    record { some = c.requires.some; one_type = c.requires.one_type; kind = sym kind; flat = others_flat c.to_physical_type.result d.not-List d.not-FixedSizeList d.not-LargeList d.not-Struct d.not-Map d.not-Union d.not-Dictionary }

pub dictionary::join_values-join_arrays-requires : goal.dictionary::join_values-join_arrays-requires
dictionary::join_values-join_arrays-requires t c =
    let arrays = c.args.arrays.now in
    let column = ap (map (λ (a : Bor _). layout_of a.now)) c.deref.ensures.value ∙ c.in_ok-values.ensures.ok in
    let values = values_are (λ (r : Bor _). r.now) arrays _ c.index-arrays-0.result column c.requires.some c.index-arrays-0.is c.data_type.ensures.carried c.data_type.ensures.kind c.in_ok-values.ensures.types c.requires.one_type in
    (omega (arith, ap type_depth values.first, values.less_deep, c.decreases), (omega (arith, values.some, length-map c.deref.result.now (λ (a : Bor _). layout_of a.now)), values.one_type))

pub dictionary::join_values-returns-clause-child : goal.dictionary::join_values-returns-clause-child
dictionary::join_values-returns-clause-child t c =
    let arrays = c.args.arrays.now in
    let column = ap (map (λ (a : Bor _). layout_of a.now)) c.deref.ensures.value ∙ c.in_ok-values.ensures.ok in
    let values = values_are (λ (r : Bor _). r.now) arrays _ c.index-arrays-0.result column c.requires.some c.index-arrays-0.is c.data_type.ensures.carried c.data_type.ensures.kind c.in_ok-values.ensures.types c.requires.one_type in
    IfOk-weaker c.join_arrays.result _ _ (λ all same. same ∙ values.first) c.join_arrays.ensures.array_type

pub dictionary::join_values-returns-clause-joined : goal.dictionary::join_values-returns-clause-joined
dictionary::join_values-returns-clause-joined t c =
    let layouts = map (λ (r : Bor _). keyed_layout r.now) c.args.arrays.now in
    let column = ap (map (λ (a : Bor _). layout_of a.now)) c.deref.ensures.value ∙ c.in_ok-values.ensures.ok in
    IfOk-weaker c.join_arrays.result _ _ (λ all same. same ∙ (ap (λ ls. joined (map rows ls)) column ∙ ap joined (map-map rows child_of layouts))) c.join_arrays.ensures.rows

pub dictionary::join_values-returns-clause-overflow : goal.dictionary::join_values-returns-clause-overflow
dictionary::join_values-returns-clause-overflow t c overflows =
    let column = ap (map (λ (a : Bor _). layout_of a.now)) c.deref.ensures.value ∙ c.in_ok-values.ensures.ok in
    values_unjoined (λ (r : Bor _). r.now) c.args.arrays.now (subst CannotJoin column (c.join_arrays.ensures.overflow overflows)) c.requires.some

pub join::join_arrays-returns-clause-overflow : goal.join::join_arrays-returns-clause-overflow
join::join_arrays-returns-clause-overflow t c overflows =
    cannot_join (layouts_in c.args.arrays.now) (c.all_rows.ensures.overflow overflows)

-- dictionaries inside that can't be joined

pub nested::GrowableNested::new-returns-in_err-children : goal.nested::GrowableNested::new-returns-in_err-children
nested::GrowableNested::new-returns-in_err-children t c =
    record {
      ok = search rules;
      overflow = λ overflows.
          let refused = c.in_err-children.ensures.overflow (ap Err (passed_on c.from_residual-in_err-children.result _ _ c.from_residual-in_err-children.ensures.1 overflows)) in
          child_unjoined (form_of c.in_ok-spans.spans) (bound_layouts c.args.arrays) refused.0 c.in_ok-spans.ensures.ok.form refused.1;
      alone = search rules;
      others = search rules;
    }

-- unions

abbrev layouts_by : Vec (Bor AnyArray) Global → List Layout
layouts_by column = map (λ (a : Bor AnyArray). layout_of a.now) column.items

-- the column whose turn it is
column_lent : (t : ℕ) (c : make::make_each-After-deref t) → LentColumn (map layouts_by c.args.columns.now) c.loop-column.column-index (map (λ (a : Bor _). layout_of a.now) c.deref.result.now)
column_lent t c =
    let lent = ap (map (λ (a : Bor _). layout_of a.now)) c.deref.ensures.value ∙ column_read layouts_by c.args.columns.now c.loop-column.column-index c.column-item.result [] c.loop-column-test.true c.column-item.is in
    record { within = omega (arith, c.loop-column-test.true, length-map c.args.columns.now layouts_by); lent = lent }

pub make::make_each-make_growable-requires : goal.make::make_each-make_growable-requires
make::make_each-make_growable-requires t c =
    let at = column_lent t (goal.at.make::make_each-make_growable-requires t c).After-deref in
    let binds = c.requires c.loop-column.column-index [] at.within in
    (omega (arith, ap (λ ls. type_depth (first_type ls)) at.lent, column_depth (map layouts_by c.args.columns.now) c.loop-column.column-index [] at.within, c.decreases), (omega (arith, binds.some, ap length at.lent, length-map c.deref.result.now (λ (a : Bor _). layout_of a.now)), subst AreOfOneType (sym at.lent) binds.one_type))

pub make::make_each-loop-column-preserved : goal.make::make_each-loop-column-preserved
make::make_each-loop-column-preserved t c =
    let at = column_lent t (goal.at.make::make_each-loop-column-preserved t c).After-deref in
    let columns = map layouts_by c.args.columns.now in
    let item = get_or columns c.loop-column.column-index [] in
    rw c.in_ok-push.ensures.items (taken_more grown_of bound_to c.loop-column.growables.items columns c.in_ok-make_growable.field-0 item c.loop-column.column-index at.within (get_or_default columns c.loop-column.column-index [] item at.within) (c.in_ok-make_growable.ensures.ok ∙ ap bound_to at.lent) c.loop-column.invariant)

pub make::make_each-returns-in_err-make_growable-clause-overflow :
    goal.make::make_each-returns-in_err-make_growable-clause-overflow
make::make_each-returns-in_err-make_growable-clause-overflow t c overflows =
    let at = column_lent t (goal.at.make::make_each-returns-in_err-make_growable-clause-overflow t c).After-deref in
    let refused = c.in_err-make_growable.ensures.overflow (ap Err (passed_on c.from_residual-in_err-make_growable.result _ _ c.from_residual-in_err-make_growable.ensures.1 overflows)) in
    (c.loop-column.column-index, at.within, λ d. subst Unjoined (at.lent ∙ get_or_default (map layouts_by c.args.columns.now) c.loop-column.column-index [] d at.within) refused)

pub make::make_each-returns-in_err-make_growable-clause-alone :
    goal.make::make_each-returns-in_err-make_growable-clause-alone
make::make_each-returns-in_err-make_growable-clause-alone t c alone =
    let at = column_lent t (goal.at.make::make_each-returns-in_err-make_growable-clause-alone t c).After-deref in
    only_memory c.from_residual-in_err-make_growable.result _ c.from_residual-in_err-make_growable.ensures.1 (c.in_err-make_growable.ensures.alone (omega (arith, alone c.loop-column.column-index [] at.within, ap length at.lent)))

pub union::GrowableUnion::new-make_each-requires : goal.union::GrowableUnion::new-make_each-requires
union::GrowableUnion::new-make_each-requires t c =
    let layouts = map (λ (r : Bor _). union_layout r.now) c.args.arrays.items in
    let lent = ap (map (λ (r : Bor _). union_layout r.now)) c.deref.ensures.value in
    let columns : map layouts_by c.deref-2.result.now ≡ union_children layouts = ap (map layouts_by) c.deref-2.ensures.value ∙ (c.in_ok-columns.ensures.ok ∙ ap union_children lent) in
    let types = subst HaveFieldTypes lent c.in_ok-columns.ensures.types in
    let some : 0 < length layouts = omega (arith, c.requires.some, length-map c.args.arrays.items (λ (r : Bor _). union_layout r.now)) in
    (omega (arith, ap (λ cs. deepest (map first_type cs)) columns, ap deepest (columns_types layouts some types), deepest_of_fields (first_type layouts), c.decreases), subst (All CanBind) (sym columns) (columns_bind layouts some types))

pub union::GrowableUnion::new-over-requires : goal.union::GrowableUnion::new-over-requires
union::GrowableUnion::new-over-requires t c =
    let layouts = map (λ (r : Bor _). union_layout r.now) c.args.arrays.items in
    let lent = ap (map (λ (r : Bor _). union_layout r.now)) c.deref.ensures.value in
    let columns : map layouts_by c.deref-2.result.now ≡ union_children layouts = ap (map layouts_by) c.deref-2.ensures.value ∙ (c.in_ok-columns.ensures.ok ∙ ap union_children lent) in
    let types = subst HaveFieldTypes lent c.in_ok-columns.ensures.types in
    let some : 0 < length layouts = omega (arith, c.requires.some, length-map c.args.arrays.items (λ (r : Bor _). union_layout r.now)) in
    let made = c.in_ok-children.ensures.ok ∙ ap (map bound_to) columns in
    record { some = c.requires.some; one_type = c.requires.one_type; children = made; types = grown_types (union_children layouts) _ made ∙ columns_types layouts some types }

pub union::GrowableUnion::new-returns-in_err-children : goal.union::GrowableUnion::new-returns-in_err-children
union::GrowableUnion::new-returns-in_err-children t c =
    let layouts = map (λ (r : Bor _). union_layout r.now) c.args.arrays.items in
    let lent = ap (map (λ (r : Bor _). union_layout r.now)) c.deref.ensures.value in
    let columns : map layouts_by c.deref-2.result.now ≡ union_children layouts = ap (map layouts_by) c.deref-2.ensures.value ∙ (c.in_ok-columns.ensures.ok ∙ ap union_children lent) in
    record {
      ok = search rules;
      overflow = λ overflows.
          let refused = subst SomeColumnUnjoined columns (c.in_err-children.ensures.overflow (ap Err (passed_on c.from_residual-in_err-children.result _ _ c.from_residual-in_err-children.ensures.1 overflows))) in
          let within : refused.0 < length (field_types (first_type layouts)) = omega (arith, refused.1, children_many layouts) in
          field_unjoined (λ (r : Bor _). r.now) c.args.arrays.items refused.0 (subst Unjoined (child_list layouts refused.0 within []) (refused.2 []));
      alone = λ one. only_memory c.from_residual-in_err-children.result _ c.from_residual-in_err-children.ensures.1 (c.in_err-children.ensures.alone (subst (All (λ column. length column ≡ 1)) (sym columns) (columns_alone layouts one)));
      others = search rules;
    }
