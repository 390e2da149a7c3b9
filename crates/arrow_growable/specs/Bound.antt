-- The arrays that are bound to a growable with children, as contracts see them: all of one kind.
use Rattle.std.specs.Prelude.{List, map}
use Rattle.arrow_arrays.specs.FixedListParts.{fixed_list_layout}
use Rattle.arrow_arrays.specs.Layout.{Layout}
use Rattle.arrow_arrays.specs.ListParts.{list_layout}
use Rattle.arrow_arrays.specs.StructParts.{struct_layout}
use Rattle.arrow_growable.specs.declared.growable.bound.BoundNested.{BoundNested}
use Rattle.arrow_growable.specs.declared.growable.bound.BoundNested.TheVariants.{Lists, FixedSizeLists, Maps, Structs}

abbrev pub bound_layouts : BoundNested → List Layout
bound_layouts (Lists arrays) = map (λ r. list_layout r.now) arrays.items
bound_layouts (FixedSizeLists arrays) = map (λ r. fixed_list_layout r.now) arrays.items
bound_layouts (Maps arrays) = map (λ r. list_layout r.now) arrays.items
bound_layouts (Structs arrays) = map (λ r. struct_layout r.now) arrays.items
