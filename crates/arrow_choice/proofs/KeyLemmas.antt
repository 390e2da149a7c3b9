-- Arrays that hold no dictionary: no row of theirs is crowded, and none are to be joined.
use Rattle.arrow_choice.proofs.Common.{All, arith, ◌≡◌, ◌+◌, ℕ, ℤ, inl, inr, suc, List, [], ◌∷◌, ◌++◌, Option, Some, None, map, refl, ap, sym, subst, ◌∙◌, slice_index, All-cons, PhysicalType, ArrowType, ArrowFields, PlainType, plain, list, struct, union, dictionary, extension, field, no_fields, small, more_fields, from_fields, type_in, null, physical_type_of, plain_physical_type, Slot, kind_in, kind_of, layout_of, any_array_type, dictionary_kind, CrowdedAmong, CrowdedRow, CrowdedPart, CrowdedVariant, Unjoined, UnjoinedBy, UnjoinedPart, child_at, child_of, Layout, Layouts, flat, listed, fixed, fielded, sparse, dense, keyed, no_layouts, more_layouts, to_layouts, field_ids, type_of_layout, field_types, item_type, UnionParts, union_layout, union_layout_by, list_shape, plain_shape, shape_in, types_of_layouts, AnyArray, FixedSizeList, Struct, Union, Map, Dictionary, AreOfOneType, first_type, CannotJoin, DoNotFit, CannotChoose, ChosenDoNotFit, HasNoDictionary, HasNoKeys, HaveNoDictionary, HaveNoKeys, get_or, length, ◌<◌, get_or-map, length-map, All-map}
use Rattle.arrow_types.specs.declared.datatypes.physical_type.PhysicalType.TheVariants as physical
use Rattle.arrow_arrays.specs.declared.array.any.AnyArray.TheVariants.{List as ListOf}

mutual
  uncrowded : (before : List Layout) (l : Layout) (i : ℕ) → HasNoKeys l → CrowdedRow before l i → ⊥
  uncrowded before (flat t xs) i none crowded = crowded
  uncrowded before (listed t v offsets c) i none crowded = uncrowded (map child_of before) c crowded.1.0 none crowded.1.3
  uncrowded before (fixed t v s c) i none crowded = uncrowded (map child_of before) c crowded.1.0 none crowded.1.3
  uncrowded before (fielded t v cs) i none crowded = uncrowded_part before cs 0 i none crowded.1
  uncrowded before (sparse t ids start cs) i none crowded = uncrowded_variant before (field_ids t) cs 0 crowded.0 (start + i) none crowded.2
  uncrowded before (dense t ids child_rows cs) i none crowded = uncrowded_variant before (field_ids t) cs 0 crowded.0 (slice_index child_rows i) none crowded.2
  uncrowded before (keyed t keys c) i none crowded = none

  uncrowded_part : (before : List Layout) (ls : Layouts) (f i : ℕ) → HaveNoKeys ls → CrowdedPart before ls f i → ⊥
  uncrowded_part before no_layouts f i none crowded = crowded
  uncrowded_part before (more_layouts l ls) f i none (inl here) = uncrowded (map (child_at f) before) l i none.0 here
  uncrowded_part before (more_layouts l ls) f i none (inr rest) = uncrowded_part before ls (suc f) i none.1 rest

  uncrowded_variant : (before : List Layout) (ids : Option (List ℤ)) (ls : Layouts) (f : ℕ) (id : ℤ) (j : ℕ) → HaveNoKeys ls → CrowdedVariant before ids ls f id j → ⊥
  uncrowded_variant before ids no_layouts f id j none crowded = crowded
  uncrowded_variant before ids (more_layouts l ls) f id j none (inl here) = uncrowded (map (child_at f) before) l j none.0 here.1
  uncrowded_variant before ids (more_layouts l ls) f id j none (inr rest) = uncrowded_variant before ids ls (suc f) id j none.1 rest

-- of several of these none is behind others, and their dictionaries can be joined, since there are none
pub none_among : (before layouts : List Layout) → All HasNoKeys layouts → CrowdedAmong before layouts → ⊥
none_among before [] none crowded = crowded
none_among before (l ∷ ls) none (inl here) = uncrowded before l here.0 (none 0 l (omega arith)) here.2
none_among before (l ∷ ls) none (inr rest) =
    none_among (before ++ l ∷ []) ls (λ k d within. none (suc k) d (omega (arith, within))) rest

mutual
  joined_by : (l : Layout) (all : List Layout) → HasNoKeys l → UnjoinedBy l all → ⊥
  joined_by (flat t xs) all none unjoined = unjoined
  joined_by (listed t v offsets c) all none unjoined = joined_by c (map child_of all) none unjoined
  joined_by (fixed t v s c) all none unjoined = joined_by c (map child_of all) none unjoined
  joined_by (fielded t v cs) all none unjoined = joined_part cs 0 all none unjoined
  joined_by (sparse t ids start cs) all none unjoined = joined_part cs 0 all none unjoined
  joined_by (dense t ids child_rows cs) all none unjoined = joined_part cs 0 all none unjoined
  joined_by (keyed t keys c) all none unjoined = none

  joined_part : (ls : Layouts) (f : ℕ) (all : List Layout) → HaveNoKeys ls → UnjoinedPart ls f all → ⊥
  joined_part no_layouts f all none unjoined = unjoined
  joined_part (more_layouts l ls) f all none (inl here) = joined_by l (map (child_at f) all) none.0 here
  joined_part (more_layouts l ls) f all none (inr rest) = joined_part ls (suc f) all none.1 rest

none_unjoined : (layouts : List Layout) → All HasNoKeys layouts → Unjoined layouts → ⊥
none_unjoined [] none unjoined = unjoined
none_unjoined (l ∷ ls) none unjoined = joined_by l (l ∷ ls) (none 0 l (omega arith)) unjoined

-- so they can't stand one behind the other only where the rows do not fit
pub only_rows : (layouts : List Layout) → All HasNoKeys layouts → CannotJoin layouts → DoNotFit layouts
only_rows layouts none (inl over) = over
only_rows layouts none (inr (inl crowded)) = absurd (none_among [] layouts none crowded)
only_rows layouts none (inr (inr unjoined)) = absurd (none_unjoined layouts none unjoined)

-- and of two of these the rows that a predicate chooses are refused only where they do not fit
only_chosen : (ps : List Slot) (l r : Layout) → HasNoKeys l → HasNoKeys r → CannotChoose ps l r → ChosenDoNotFit ps l r
only_chosen ps l r left right (inl over) = over
only_chosen ps l r left right (inr (inl crowded)) = absurd (uncrowded (l ∷ []) r crowded.0 right crowded.2)
only_chosen ps l r left right (inr (inr unjoined)) = absurd (joined_by l (l ∷ r ∷ []) left unjoined)

-- each of several layouts holds none
pub all_have_none : (ls : List Layout) → All HasNoKeys ls → HaveNoKeys (to_layouts ls)
all_have_none [] all = tt
all_have_none (l ∷ ls) all =
    (all 0 l (omega arith), all_have_none ls (λ k d within. all (suc k) d (omega (arith, within))))

-- types that hold none

-- the physical types that are no dictionaries
abbrev NoDictionary : PhysicalType → Type 0
NoDictionary (physical.Dictionary keys) = ⊥
NoDictionary _ = Unit {0}

plain_is_none : (p : PlainType) → NoDictionary (plain_physical_type p)
plain_is_none null = tt
plain_is_none _ = tt

is_none : (t : ArrowType) → HasNoDictionary t → NoDictionary (physical_type_of t)
is_none (plain p) none = plain_is_none p
is_none (list small f) none = tt
is_none (dictionary keys ordered t) none = none
is_none (extension name metadata t) none = is_none t none
is_none t none = tt

other_kind : (p : PhysicalType) → NoDictionary p → kind_in p ≡ dictionary_kind → ⊥
other_kind (physical.Dictionary keys) none is = none
other_kind _ none is = cc

-- an array without children, as each is but for lists of any form, maps, structs, unions and dictionaries
pub flat_has_none : (array : AnyArray) → HasNoDictionary (any_array_type array) → kind_in (physical_type_of (any_array_type array)) ≡ kind_of array → ((p : _) → array ≡ ListOf p → ⊥) → ((p : _) → array ≡ FixedSizeList p → ⊥) → ((p : _) → array ≡ Map p → ⊥) → ((p : _) → array ≡ Struct p → ⊥) → ((p : _) → array ≡ Union p → ⊥) → HasNoKeys (layout_of array)
flat_has_none (ListOf p) none kind no_list no_fixed no_map no_struct no_union = absurd (no_list p refl)
flat_has_none (FixedSizeList p) none kind no_list no_fixed no_map no_struct no_union = absurd (no_fixed p refl)
flat_has_none (Struct p) none kind no_list no_fixed no_map no_struct no_union = absurd (no_struct p refl)
flat_has_none (Union p) none kind no_list no_fixed no_map no_struct no_union = absurd (no_union p refl)
flat_has_none (Map p) none kind no_list no_fixed no_map no_struct no_union = absurd (no_map p refl)
flat_has_none (Dictionary p) none kind no_list no_fixed no_map no_struct no_union =
    absurd (other_kind (physical_type_of (any_array_type (Dictionary p))) (is_none (any_array_type (Dictionary p)) none) kind)
flat_has_none array none kind no_list no_fixed no_map no_struct no_union = tt

-- the items of a list whose type holds none hold none
pub items_have_none : (t : ArrowType) → HasNoDictionary t → shape_in t ≡ list_shape → HasNoDictionary (item_type t)
items_have_none (plain p) none shape = cc (plain_shape p)
items_have_none (list form (field name t nullable)) none shape = none
items_have_none (extension name metadata t) none shape = items_have_none t none shape
items_have_none t none shape = cc

each_has_none : (fs : ArrowFields) → HaveNoDictionary fs → All HasNoDictionary (map type_in (from_fields fs))
each_has_none no_fields none = λ k d within. absurd (omega (arith, within))
each_has_none (more_fields (field name t nullable) fs) none =
    All-cons HasNoDictionary t (map type_in (from_fields fs)) none.0 (each_has_none fs none.1)

-- and so do the fields of a struct or a union
pub fields_have_none : (t : ArrowType) → HasNoDictionary t → All HasNoDictionary (field_types t)
fields_have_none (struct fs) none = each_has_none fs none
fields_have_none (union mode ids fs) none = each_has_none fs none
fields_have_none (extension name metadata t) none = fields_have_none t none
fields_have_none t none = λ k d within. absurd (omega (arith, within))

-- children of such fields, each of which holds none if its type does
pub children_have_none : (t : ArrowType) (arrays : List AnyArray) (children : List Layout) → HasNoDictionary t → map layout_of arrays ≡ children → map type_of_layout children ≡ field_types t → All (λ child. HasNoDictionary (any_array_type child) → HasNoKeys (layout_of child)) arrays → HaveNoKeys (to_layouts children)
children_have_none t arrays children none same fields each =
    let types : map any_array_type arrays ≡ field_types t = sym (types_of_layouts arrays) ∙ (ap (map type_of_layout) same ∙ fields) in
    let each_none = λ (k : ℕ) (d : AnyArray) (within : k < length arrays). subst HasNoDictionary (ap (λ ts. get_or ts k (any_array_type d)) (sym types) ∙ get_or-map any_array_type arrays k d (any_array_type d) within) (fields_have_none t none k (any_array_type d) (omega (arith, within, ap length types, length-map arrays any_array_type))) in
    all_have_none children (subst (All HasNoKeys) same (All-map HasNoKeys layout_of arrays (λ k d within. each k d within (each_none k d within))))

union_by : (t : ArrowType) (types : List ℤ) (child_rows : Option (List ℕ)) (start : ℕ) (children : List Layout) → HaveNoKeys (to_layouts children) → HasNoKeys (union_layout_by t types child_rows start children)
union_by t types None start children none = none
union_by t types (Some child_rows) start children none = none

-- a union of such children
pub union_has_none : (p : UnionParts) → HaveNoKeys (to_layouts p.children) → HasNoKeys (union_layout p)
union_has_none p none = union_by p.arrow_type p.types p.child_rows p.start p.children none

all_of_type : {A : Type 0} (f : A → AnyArray) (t : ArrowType) (arrays : List A) → HasNoDictionary t → All (λ x. HasNoDictionary (any_array_type (f x)) → HasNoKeys (layout_of (f x))) arrays → All (λ l. type_of_layout l ≡ t) (map (λ x. layout_of (f x)) arrays) → All HasNoKeys (map (λ x. layout_of (f x)) arrays)
all_of_type f t arrays none each types =
    All-map HasNoKeys (λ x. layout_of (f x)) arrays (λ k d within.
    let here = types k (layout_of (f d)) (omega (arith, within, length-map arrays (λ x. layout_of (f x)))) in
    each k d within (subst HasNoDictionary (sym here ∙ ap type_of_layout (get_or-map (λ x. layout_of (f x)) arrays k d (layout_of (f d)) within)) none))

-- arrays of one type that hold none, if their type does, can't stand one behind the other only where the rows do not fit
pub rows_alone : {A : Type 0} (f : A → AnyArray) (arrays : List A) → All (λ x. HasNoDictionary (any_array_type (f x)) → HasNoKeys (layout_of (f x))) arrays → AreOfOneType (map (λ x. layout_of (f x)) arrays) → CannotJoin (map (λ x. layout_of (f x)) arrays) → HasNoDictionary (first_type (map (λ x. layout_of (f x)) arrays)) → DoNotFit (map (λ x. layout_of (f x)) arrays)
rows_alone f arrays each types refused none =
    only_rows (map (λ x. layout_of (f x)) arrays) (all_of_type f _ arrays none each types) refused

-- of two of them the rows that a predicate chooses are refused only where they do not fit
pub chosen_alone : {A : Type 0} (f : A → AnyArray) (ps : List Slot) (a b : A) → All (λ x. HasNoDictionary (any_array_type (f x)) → HasNoKeys (layout_of (f x))) (a ∷ b ∷ []) → any_array_type (f a) ≡ any_array_type (f b) → CannotChoose ps (layout_of (f a)) (layout_of (f b)) → HasNoDictionary (any_array_type (f a)) → ChosenDoNotFit ps (layout_of (f a)) (layout_of (f b))
chosen_alone f ps a b each same refused none =
    only_chosen ps (layout_of (f a)) (layout_of (f b)) (each 0 a (omega arith) none) (each 1 b (omega arith) (subst HasNoDictionary same none)) refused
