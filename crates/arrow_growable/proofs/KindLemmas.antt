-- Which arrays a physical type has: kinds, shapes, and those without children.
use Rattle.arrow_growable.proofs.Common.{◌≡◌, refl, sym, subst, PhysicalType, IntegerType, PlainType, null, plain_physical_type, Kind, dictionary_kind, fixed_size_list_kind, kind_in, list_kind, map_kind, struct_kind, dictionary_shape, list_shape, shape_of, IsFlatType, IsListType, IsNestedType}
use Rattle.arrow_types.specs.declared.datatypes.physical_type.PhysicalType.TheVariants as physical

-- a type without children is none of lists
pub no_plain : (p : PlainType) → IsListType (plain_physical_type p) → ⊥
no_plain null is = is
no_plain _ is = is

-- the kinds of arrays with children that can grow
abbrev pub IsNestedKind : Kind → Type 0
IsNestedKind list_kind = Unit {0}
IsNestedKind fixed_size_list_kind = Unit {0}
IsNestedKind map_kind = Unit {0}
IsNestedKind struct_kind = Unit {0}
IsNestedKind _ = ⊥

nested_kind : (p : PhysicalType) → IsNestedKind (kind_in p) → IsNestedType p
nested_kind physical.List is = tt
nested_kind physical.LargeList is = tt
nested_kind physical.FixedSizeList is = tt
nested_kind physical.Map is = tt
nested_kind physical.Struct is = tt
nested_kind _ is = is

pub nested_of : {k : Kind} (p : PhysicalType) → kind_in p ≡ k → IsNestedKind k → IsNestedType p
nested_of p is nested = nested_kind p (subst IsNestedKind (sym is) nested)

-- the physical types of these kinds
pub type_of_maps : (p : PhysicalType) → kind_in p ≡ map_kind → p ≡ physical.Map
type_of_maps physical.Map is = refl
type_of_maps _ is = cc

pub type_of_fixed_size_lists : (p : PhysicalType) → kind_in p ≡ fixed_size_list_kind → p ≡ physical.FixedSizeList
type_of_fixed_size_lists physical.FixedSizeList is = refl
type_of_fixed_size_lists _ is = cc

pub type_of_structs : (p : PhysicalType) → kind_in p ≡ struct_kind → p ≡ physical.Struct
type_of_structs physical.Struct is = refl
type_of_structs _ is = cc

pub shape_of_lists : (p : PhysicalType) → kind_in p ≡ list_kind → shape_of p ≡ list_shape
shape_of_lists physical.List is = refl
shape_of_lists physical.LargeList is = refl
shape_of_lists _ is = cc

-- those that are none of these have no children
pub others_flat : (p : PhysicalType) → (p ≡ physical.List → ⊥) → (p ≡ physical.FixedSizeList → ⊥) → (p ≡ physical.LargeList → ⊥) → (p ≡ physical.Struct → ⊥) → (p ≡ physical.Map → ⊥) → (p ≡ physical.Union → ⊥) → ((k : IntegerType) → p ≡ physical.Dictionary k → ⊥) → IsFlatType p
others_flat physical.List l f g s m u d = l refl
others_flat physical.FixedSizeList l f g s m u d = f refl
others_flat physical.LargeList l f g s m u d = g refl
others_flat physical.Struct l f g s m u d = s refl
others_flat physical.Map l f g s m u d = m refl
others_flat physical.Union l f g s m u d = u refl
others_flat (physical.Dictionary k) l f g s m u d = d k refl
others_flat p l f g s m u d = tt

-- and that of dictionaries
pub shape_of_dictionaries : (p : PhysicalType) → kind_in p ≡ dictionary_kind → shape_of p ≡ dictionary_shape
shape_of_dictionaries (physical.Dictionary k) is = refl
shape_of_dictionaries _ is = cc
