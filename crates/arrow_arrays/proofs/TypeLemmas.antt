-- What nested data types say of their fields.
use Rattle.std.proofs.Common.{◌≡◌, ℕ, zero, suc, ◌+◌, ◌<◌, ◌≤◌, ℤ, pos, Bool, true, false, not, true≢false, ◌↔◌, IsTrue, Option, Some, None, List, [], ◌∷◌, length, map, take, get_or, refl, ap, sym, ◌∙◌, subst, arith, ◌⊎◌, inl, inr, Vec, Global, w32, of_z, to_z}
use borrow.Author.Count.{below_more}
use mir.Val.{SFits}
use Rattle.std.proofs.lemmas.Int.{to_z-of_z}
use Rattle.std.proofs.lemmas.List.{length-map, get_or-map, take_all, take_more_same}
use Rattle.arrow_types.specs.declared.datatypes.DataType.{DataType, Struct, Union}
use Rattle.arrow_types.specs.declared.datatypes.Field.{Field}
use Rattle.arrow_types.specs.declared.datatypes.UnionMode.{UnionMode}
use Rattle.arrow_types.specs.declared.datatypes.physical_type.PhysicalType.{PhysicalType}
use Rattle.arrow_types.specs.declared.datatypes.physical_type.PhysicalType.TheVariants as physical
use Rattle.arrow_types.specs.ArrowType.{ArrowType, ArrowFields, PlainType, plain, field, list, struct, union, extension, null, small, fixed_size, no_fields, more_fields, type_in, from_fields}
use Rattle.arrow_types.specs.Carried.{AreTypeIds, HasField, IsCarried}
use Rattle.arrow_types.specs.Physical.{physical_type_of, plain_physical_type}
use Rattle.arrow_types.specs.Slot.{id_at}
use Rattle.arrow_types.specs.SameTree.{same_by}
use Rattle.arrow_types.specs.StoredType.{type_code}
use Rattle.arrow_types.specs.TypeOf.{type_of, field_of, fields_of, ids_of}
use Rattle.arrow_types.proofs.TypeLemmas.{type_of-Struct, type_of-Union}
use Rattle.arrow_flat.specs.Faults.{IsCarriedAs}
use Rattle.arrow_flat.proofs.PartsLemmas.{types_decide}
use Rattle.arrow_arrays.specs.Any.{layout_of, any_array_type}
use Rattle.arrow_arrays.specs.declared.array.any.AnyArray.{AnyArray}
use Rattle.arrow_arrays.specs.FixedListParts.{IsFixedList, HoldsFixedList}
use Rattle.arrow_arrays.specs.Layout.{Layout, type_of_layout, field_ids}
use Rattle.arrow_arrays.specs.StructParts.{IsStruct, HoldsStruct}
use Rattle.arrow_arrays.specs.TypeParts.{field_types, list_size}
use Rattle.arrow_arrays.specs.UnionParts.{FindsField}

-- the types of fields, one by one
types_of_fields : (fs : List Field) → map (λ f. type_in (field_of f)) fs ≡ map type_in (from_fields (fields_of fs))
types_of_fields [] = refl
types_of_fields (f ∷ fs) = ap (λ ts. type_in (field_of f) ∷ ts) (types_of_fields fs)

-- those of a struct or a union
pub types_listed : (t : DataType) (fs : Vec Field Global) → (t ≡ Struct fs) ⊎ ((ids : Option (Vec ℤ Global)) × (mode : UnionMode) × (t ≡ Union fs ids mode)) → map (λ f. type_in (field_of f)) fs.items ≡ field_types (type_of t)
types_listed t fs (inl is) =
    types_of_fields fs.items ∙ sym (ap field_types (ap type_of is ∙ type_of-Struct fs))
types_listed t fs (inr is) =
    types_of_fields fs.items ∙ sym (ap field_types (ap type_of is.2 ∙ type_of-Union fs is.0 is.1))

-- the types of arrays, one by one
pub types_of_layouts : (xs : List AnyArray) → map type_of_layout (map layout_of xs) ≡ map any_array_type xs
types_of_layouts [] = refl
types_of_layouts (x ∷ xs) = ap (λ ts. any_array_type x ∷ ts) (types_of_layouts xs)

-- a carried union has a field, and type ids as the format has them
abbrev HasIds : ArrowType → Type 0
HasIds t = (0 < length (field_types t)) × AreTypeIds (field_ids t) (length (field_types t))

some_field : (fs : ArrowFields) → HasField fs → 0 < length (from_fields fs)
some_field no_fields has = absurd has
some_field (more_fields f fs) has = omega arith

-- no type without children lies as one with children
abbrev is_nested : PhysicalType → Bool
is_nested physical.List = true
is_nested physical.LargeList = true
is_nested physical.FixedSizeList = true
is_nested physical.Struct = true
is_nested physical.Union = true
is_nested physical.Map = true
is_nested _ = false

not_nested : (p : PlainType) → is_nested (plain_physical_type p) ≡ false
not_nested null = refl
not_nested p = refl

no_plain : (p : PlainType) (physical_type : PhysicalType) → is_nested physical_type ≡ true → plain_physical_type p ≡ physical_type → ⊥
no_plain p physical_type nested is = true≢false (sym nested ∙ (ap is_nested (sym is) ∙ not_nested p))

-- a carried fixed-size list has an item a row at least
pub some_items : (t : ArrowType) → IsCarried t → physical_type_of t ≡ physical.FixedSizeList → 0 < list_size t
some_items (plain p) carried kind = absurd (no_plain p physical.FixedSizeList refl kind)
some_items (list (fixed_size size) (field name t nullable)) carried kind = carried.0
some_items (extension name metadata t) carried kind = some_items t carried kind
some_items t carried kind = cc

-- what the test of a fixed-size list's parts finds is what an array asks of them
pub fixed_holds : (t : ArrowType) (child : Layout) (validity : Option (List Bool)) → HoldsFixedList t child validity → IsFixedList (record { arrow_type = t; validity = validity; size = list_size t; child = child })
fixed_holds t child validity holds =
    record {
      kind = holds.0;
      child = holds.1;
      size = refl;
      some = some_items t holds.0.0 holds.0.1;
      fits = holds.2;
      counted = holds.3;
    }

-- a carried struct has a field
struct_field : (t : ArrowType) → IsCarried t → physical_type_of t ≡ physical.Struct → 0 < length (field_types t)
struct_field (plain p) carried kind = absurd (no_plain p physical.Struct refl kind)
struct_field (struct fs) carried kind =
    omega (arith, some_field fs carried.0, length-map (from_fields fs) type_in)
struct_field (extension name metadata t) carried kind = struct_field t carried kind
struct_field (list small f) carried kind = cc
struct_field t carried kind = cc

pub struct_has_field : (t : ArrowType) → IsCarriedAs physical.Struct t → 0 < length (field_types t)
struct_has_field t kind = struct_field t kind.0 kind.1

-- what the test of a struct's parts finds is what an array asks of them
pub struct_holds : (t : ArrowType) (children : List Layout) (validity : Option (List Bool)) → HoldsStruct t children validity → IsStruct (record { arrow_type = t; validity = validity; children = children })
struct_holds t children validity holds =
    record {
      kind = holds.0;
      children = holds.1;
      some = omega (arith, struct_has_field t holds.0, ap length holds.1, length-map children type_of_layout);
      fits = holds.2;
    }

has_ids : (t : ArrowType) → IsCarried t → physical_type_of t ≡ physical.Union → HasIds t
has_ids (plain p) carried kind = absurd (no_plain p physical.Union refl kind)
has_ids (union mode ids fs) carried kind =
    let long = length-map (from_fields fs) type_in in
    rw long (some_field fs carried.1.0, carried.0)
has_ids (extension name metadata t) carried kind = has_ids t carried kind
has_ids (list small f) carried kind = cc
has_ids t carried kind = cc

pub union_has_field : (t : ArrowType) → IsCarriedAs physical.Union t → 0 < length (field_types t)
union_has_field t kind = (has_ids t kind.0 kind.1).0

-- what is stored of a union's type
union_of : (t : DataType) (fs : Vec Field Global) (ids : Option (Vec ℤ Global)) (mode : UnionMode) → t ≡ Union fs ids mode → (field_ids (type_of t) ≡ ids_of ids) × (length (field_types (type_of t)) ≡ length fs.items)
union_of t fs ids mode is =
    let seen : type_of t ≡ union mode (ids_of ids) (fields_of fs.items) = ap type_of is ∙ type_of-Union fs ids mode in
    (ap field_ids seen, ap (λ s. length (field_types s)) seen ∙ (ap length (sym (types_of_fields fs.items)) ∙ length-map fs.items (λ f. type_in (field_of f))))

-- the position that an id is, where no ids are given
pub finds_below : (t : DataType) (fs : Vec Field Global) (ids : Option (Vec ℤ Global)) (mode : UnionMode) (count : ℕ) (id : ℤ) (position : Option ℕ) → t ≡ Union fs ids mode → ids ≡ None → count ≡ length fs.items → FindsField None count id position → FindsField (field_ids (type_of t)) (length (field_types (type_of t))) id position
finds_below t fs ids mode count id position is none counted found =
    let seen = union_of t fs ids mode is in
    rw (seen.0, none, seen.1, ← counted) found

-- and the position of an id among those that are given
pub finds_given : (t : DataType) (fs : Vec Field Global) (ids : Option (Vec ℤ Global)) (mode : UnionMode) (given : Vec ℤ Global) (listed : List ℤ) (id : ℤ) (position : Option ℕ) → IsCarriedAs physical.Union (type_of t) → t ≡ Union fs ids mode → ids ≡ Some given → listed ≡ given.items → FindsField (Some listed) (length listed) id position → FindsField (field_ids (type_of t)) (length (field_types (type_of t))) id position
finds_given t fs ids mode given listed id position kind is some read found =
    let count = length (field_types (type_of t)) in
    let ids_are : field_ids (type_of t) ≡ Some listed = (union_of t fs ids mode is).0 ∙ (ap ids_of some ∙ ap Some (sym read)) in
    let ids_fit : AreTypeIds (Some listed) count = subst (λ x. AreTypeIds x count) ids_are (has_ids (type_of t) kind.0 kind.1).1 in
    rw (ids_are, ← ids_fit.0) found

-- given ids are those of a list
pub id_of_list : (ids : List ℤ) (f : ℕ) → f < length ids → id_at (Some ids) f ≡ get_or ids f (pos 0)
id_of_list [] f within = absurd (omega (arith, within))
id_of_list (id ∷ ids) zero within = refl
id_of_list (id ∷ ids) (suc f) within = id_of_list ids f (omega (arith, within))

-- the first position of an id
pub position_found : (ids : List ℤ) (i : ℕ) (id : ℤ) → i < length ids → get_or ids i (pos 0) ≡ id → ((e : ℕ) → e < i → id_at (Some ids) e ≡ id → ⊥) → FindsField (Some ids) (length ids) id (Some i)
position_found ids i id within is first = (within, id_of_list ids i within ∙ is, first)

pub position_next : (ids : List ℤ) (i : ℕ) (id : ℤ) → i < length ids → (get_or ids i (pos 0) ≡ id → ⊥) → ((e : ℕ) → e < i → id_at (Some ids) e ≡ id → ⊥) → (e : ℕ) → e < i + 1 → id_at (Some ids) e ≡ id → ⊥
position_next ids i id within other first =
    below_more (λ e. id_at (Some ids) e ≡ id → ⊥) i first (λ is. other (sym (id_of_list ids i within) ∙ is))

-- numbers that are stored alike are the same
pub same_stored : (a b : ℤ) → SFits w32 a → SFits w32 b → of_z w32 a ≡ of_z w32 b → a ≡ b
same_stored a b fits other_fits same = sym (to_z-of_z w32 a fits) ∙ (ap (to_z w32) same ∙ to_z-of_z w32 b other_fits)

-- two lists are seen as one, as far as position i
read_at : {A C : Type 0} (f : A → C) (xs : List A) (i : ℕ) (x : A) (d : C) → i < length xs → x ≡ get_or xs i x → get_or (map f xs) i d ≡ f x
read_at f xs i x d within read = get_or-map f xs i x d within ∙ ap f (sym read)

pub maps_next : {A B C : Type 0} (f : A → C) (g : B → C) (xs : List A) (ys : List B) (i : ℕ) (x : A) (y : B) → i < length xs → i < length ys → x ≡ get_or xs i x → y ≡ get_or ys i y → f x ≡ g y → take i (map f xs) ≡ take i (map g ys) → take (i + 1) (map f xs) ≡ take (i + 1) (map g ys)
maps_next f g xs ys i x y here there read other_read same so_far =
    take_more_same (map f xs) (map g ys) i (f x) (omega (arith, here, length-map xs f)) (omega (arith, there, length-map ys g)) so_far (read_at f xs i x (f x) here read ∙ (same ∙ sym (read_at g ys i y (f x) there other_read)))

pub maps_at : {A B C : Type 0} (f : A → C) (g : B → C) (xs : List A) (ys : List B) (i : ℕ) (x : A) (y : B) → i < length xs → i < length ys → x ≡ get_or xs i x → y ≡ get_or ys i y → map f xs ≡ map g ys → f x ≡ g y
maps_at f g xs ys i x y here there read other_read same =
    sym (read_at f xs i x (f x) here read) ∙ (ap (λ zs. get_or zs i (f x)) same ∙ read_at g ys i y (f x) there other_read)

pub maps_all : {A B C : Type 0} (f : A → C) (g : B → C) (xs : List A) (ys : List B) (n : ℕ) → length xs ≤ n → length ys ≤ n → take n (map f xs) ≡ take n (map g ys) → map f xs ≡ map g ys
maps_all f g xs ys n here there same =
    sym (take_all n (map f xs) (omega (arith, here, length-map xs f))) ∙ (same ∙ take_all n (map g ys) (omega (arith, there, length-map ys g)))

-- a test that says whether two types differ
not_true : (b : Bool) → not b ≡ true → b ≡ false
not_true true told = cc
not_true false told = refl

not_false : (b : Bool) → not b ≡ false → b ≡ true
not_false true told = refl
not_false false told = cc

pub types_differ : (s t other_s other_t : ArrowType) (r : Bool) → r ≡ not (same_by type_code s t) → s ≡ other_s → t ≡ other_t → r ≡ true → other_s ≡ other_t → ⊥
types_differ s t other_s other_t r told left right differ same =
    let equal = same_by type_code s t in
    let unequal : equal ≡ false = not_true equal (sym told ∙ differ) in
    true≢false (sym ((types_decide s t other_s other_t equal refl left right).1 same) ∙ unequal)

pub types_agree : (s t other_s other_t : ArrowType) (r : Bool) → r ≡ not (same_by type_code s t) → s ≡ other_s → t ≡ other_t → r ≡ false → other_s ≡ other_t
types_agree s t other_s other_t r told left right agree =
    let equal = same_by type_code s t in
    (types_decide s t other_s other_t equal refl left right).0 (not_false equal (sym told ∙ agree))

-- a test of the types of children, by the fields of their type
pub children_decide : (xs : List AnyArray) (fs : List Field) (ts : List ArrowType) (r : Bool) → IsTrue r ↔ (map any_array_type xs ≡ map (λ f. type_in (field_of f)) fs) → map (λ f. type_in (field_of f)) fs ≡ ts → IsTrue r ↔ (map type_of_layout (map layout_of xs) ≡ ts)
children_decide xs fs ts r told types =
    (λ h. types_of_layouts xs ∙ (told.0 h ∙ types), λ same. told.1 (sym (types_of_layouts xs) ∙ (same ∙ sym types)))

pub refuted : {P : Type 0} (r : Bool) → IsTrue r ↔ P → r ≡ false → P → ⊥
refuted r told no_answer holds = true≢false (sym (told.1 holds) ∙ no_answer)

-- the type ids of a carried union, of which none comes twice
