-- The children of a union are less deep than it.
use Rattle.std.specs.Prelude.{ℕ, ℤ, ◌≡◌, ◌≤◌, max, suc, Option, Some, None, List, map, refl}
use denote.Param.Weighed.{most}
use Rattle.arrow_types.specs.ArrowType.{ArrowType}
use Rattle.arrow_arrays.specs.declared.array.any.AnyArray.{AnyArray}
use Rattle.arrow_arrays.specs.declared.array.dictionary.DictionaryArray.TheDeep.{deep-AnyArray}
use Rattle.arrow_arrays.specs.Layout.{Layout, depth, depth_of_all, to_layouts}
use Rattle.arrow_arrays.specs.Any.{layout_of}
use Rattle.arrow_arrays.specs.Falls.{children_fall}
use Rattle.arrow_arrays.specs.UnionParts.{union_layout_by}

pub depth_of_union : (t : ArrowType) (types : List ℤ) (child_rows : Option (List ℕ)) (start : ℕ) (children : List Layout) → depth (union_layout_by t types child_rows start children) ≡ suc (depth_of_all (to_layouts children))
depth_of_union t types None start children = refl
depth_of_union t types (Some child_rows) start children = refl

pub variants_fall : (xs : List AnyArray) (t : ArrowType) (types : List ℤ) (child_rows : Option (List ℕ)) (start : ℕ) → max (most deep-AnyArray xs) 0 ≤ depth (union_layout_by t types child_rows start (map layout_of xs))
variants_fall xs t types child_rows start =
    rw (depth_of_union t types child_rows start (map layout_of xs)) (children_fall xs)
