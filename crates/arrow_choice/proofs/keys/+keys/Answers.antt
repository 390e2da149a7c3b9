use Rattle.arrow_choice.proofs.Common.{arith, ap, sym, subst, ◌∙◌, layout_of, depth, depth_of_all, to_layouts, type_of_layout, depth_at, shape_of, shape_of_lists, type_of_fixed_size_lists, type_of_maps, HasNoDictionary, HasNoKeys, union_type}
use Rattle.arrow_choice.proofs.KeyLemmas.{children_have_none, flat_has_none, items_have_none, union_has_none}
use Rattle.arrow_choice.proofs.keys.+keys.Goals as goal

pub show_no_keys-show_no_keys-requires : goal.show_no_keys-show_no_keys-requires
show_no_keys-show_no_keys-requires t c =
    omega (arith, ap depth c.values.ensures.same, ap (λ a. depth (layout_of a)) c.in-List.is, c.decreases)

pub show_no_keys-show_no_keys-requires-in-FixedSizeList : goal.show_no_keys-show_no_keys-requires-in-FixedSizeList
show_no_keys-show_no_keys-requires-in-FixedSizeList t c =
    omega (arith, ap depth c.values-in-FixedSizeList.ensures.same, ap (λ a. depth (layout_of a)) c.in-FixedSizeList.is, c.decreases)

pub show_no_keys-show_no_keys-requires-in-Map : goal.show_no_keys-show_no_keys-requires-in-Map
show_no_keys-show_no_keys-requires-in-Map t c =
    omega (arith, ap depth c.field.ensures.same, ap (λ a. depth (layout_of a)) c.in-Map.is, c.decreases)

pub show_no_keys-show_no_keys_in-requires : goal.show_no_keys-show_no_keys_in-requires
show_no_keys-show_no_keys_in-requires t c =
    omega (arith, ap (λ ls. depth_of_all (to_layouts ls)) c.values-in-Struct.ensures.same, ap (λ a. depth (layout_of a)) c.in-Struct.is, c.decreases)

pub show_no_keys-returns-in-List : goal.show_no_keys-returns-in-List
show_no_keys-returns-in-List t c =
    rw c.in-List.is (λ none. let child = ap type_of_layout c.values.ensures.same ∙ c.values.ensures.items in subst HasNoKeys c.values.ensures.same (c.show_no_keys.ensures (subst HasNoDictionary (sym child) (items_have_none c.in-List.lists.arrow_type none (shape_of_lists _ c.data_type-in-List.ensures.kind)))))

pub show_no_keys-returns-in-FixedSizeList : goal.show_no_keys-returns-in-FixedSizeList
show_no_keys-returns-in-FixedSizeList t c =
    rw c.in-FixedSizeList.is (λ none. let v = c.values-in-FixedSizeList.ensures in subst HasNoKeys v.same (c.show_no_keys-in-FixedSizeList.ensures (subst HasNoDictionary (sym (ap type_of_layout v.same ∙ v.items)) (items_have_none c.in-FixedSizeList.lists.arrow_type none (ap shape_of (type_of_fixed_size_lists _ c.data_type-in-FixedSizeList.ensures.kind))))))

pub show_no_keys-returns-in-Map : goal.show_no_keys-returns-in-Map
show_no_keys-returns-in-Map t c =
    rw c.in-Map.is (λ none. let v = c.field.ensures in subst HasNoKeys v.same (c.show_no_keys-in-Map.ensures (subst HasNoDictionary (sym (ap type_of_layout v.same ∙ v.items)) (items_have_none c.in-Map.maps.arrow_type none (ap shape_of (type_of_maps _ c.data_type-in-Map.ensures.kind))))))

pub show_no_keys-returns-in-Struct : goal.show_no_keys-returns-in-Struct
show_no_keys-returns-in-Struct t c =
    rw c.in-Struct.is (λ none. let v = c.values-in-Struct.ensures in children_have_none c.in-Struct.structs.arrow_type _ _ none v.same v.fields c.show_no_keys_in.ensures)

pub show_no_keys-returns-in-Union : goal.show_no_keys-returns-in-Union
show_no_keys-returns-in-Union t c =
    rw c.in-Union.is (λ none. let v = c.fields.ensures in union_has_none c.in-Union.unions (children_have_none c.in-Union.unions.arrow_type _ _ (subst HasNoDictionary (union_type c.in-Union.unions) none) v.same v.fields c.show_no_keys_in-in-Union.ensures))

pub show_no_keys-returns-in_default : goal.show_no_keys-returns-in_default
show_no_keys-returns-in_default t c none =
    flat_has_none c.args.array.now none c.data_type.ensures.kind c.in_default.not-List c.in_default.not-FixedSizeList c.in_default.not-Map c.in_default.not-Struct c.in_default.not-Union

pub show_no_keys_in-show_no_keys-requires : goal.show_no_keys_in-show_no_keys-requires
show_no_keys_in-show_no_keys-requires t c =
    omega (arith, c.decreases, ap (λ a. depth (layout_of a)) c.child-item.is, depth_at layout_of c.args.children.now c.loop-child.child-index c.child-item.result c.loop-child-test.true)
