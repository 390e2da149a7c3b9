-- An array with children that is bound to a growable: where its rows lie in its children.
use Rattle.std.specs.Prelude.{ℕ, ◌≡◌, ◌+◌, ◌*◌, ◌-◌, ◌<◌, ◌≤◌, Bool, Option, None, List, [], ◌∷◌, length, map, slice_index, slice_index_or}
use Rattle.std.specs.List.{All}
use Rattle.arrow_types.specs.ArrowType.{plain, null}
use Rattle.arrow_memory.specs.Offsets.{IsOffsets, last_of}
use Rattle.arrow_flat.specs.Parts.{FitsRows}
use Rattle.arrow_arrays.specs.Layout.{Layout, flat, listed, fixed, fielded, from_layouts, rows, type_of_layout}
use Rattle.arrow_arrays.specs.TypeParts.{list_size}
use Rattle.arrow_growable.specs.Form.{Form, by_offsets, by_size, by_fields, child_types}

-- the children
abbrev pub children_in : Layout → List Layout
children_in (listed t v offsets c) = c ∷ []
children_in (fixed t v s c) = c ∷ []
children_in (fielded t v cs) = from_layouts cs
children_in _ = []

abbrev pub no_child : Layout
no_child = flat (plain null) []

-- child f
abbrev pub nth_child : ℕ → Layout → Layout
nth_child f l = slice_index_or (children_in l) f no_child

abbrev pub validity_in : Layout → Option (List Bool)
validity_in (listed t v offsets c) = v
validity_in (fixed t v s c) = v
validity_in (fielded t v cs) = v
validity_in _ = None

-- the offsets of a list or a map
abbrev pub offsets_in : Layout → List ℕ
offsets_in (listed t v offsets c) = offsets
offsets_in _ = []

-- where row i begins in each child
abbrev pub place_in : Layout → ℕ → ℕ
place_in (listed t v offsets c) = slice_index offsets
place_in (fixed t v s c) = λ i. i * s
place_in _ = λ i. i

-- how many null slots a null row has in each child
abbrev pub nulls_in : Layout → ℕ
nulls_in (fixed t v s c) = s
nulls_in (fielded t v cs) = 1
nulls_in _ = 0

-- its rows lie in children as those of a form do
abbrev pub IsOfForm : Form → Layout → Type 0
IsOfForm (by_offsets os) (listed t v offsets c) = Unit {0}
IsOfForm (by_size s) (fixed t v size c) = Unit {0}
IsOfForm by_fields (fielded t v cs) = Unit {0}
IsOfForm _ _ = ⊥

-- what each array says of its parts: offsets that lie inside the child, or rows of the type's size or of each child without rest, and a validity with a bit for each row
abbrev pub IsWhole : Layout → Type 0
IsWhole (listed t v offsets c) =
    IsOffsets offsets × (last_of offsets ≤ length (rows c)) × FitsRows v (length offsets - 1) × (length (rows (listed t v offsets c)) + 1 ≡ length offsets)
IsWhole (fixed t v s c) =
    (s ≡ list_size t) × (0 < s) × (length (rows (fixed t v s c)) * s ≡ length (rows c)) × FitsRows v (length (rows (fixed t v s c)))
IsWhole (fielded t v cs) =
    (0 < length (from_layouts cs)) × All (λ l. length (rows l) ≡ length (rows (fielded t v cs))) (from_layouts cs) × FitsRows v (length (rows (fielded t v cs)))
IsWhole _ = ⊥

-- and of its children: one of each type that the data type says
pub record IsSource (l : Layout) : Type 0 where
  pub whole : IsWhole l
  pub types : map type_of_layout (children_in l) ≡ child_types (type_of_layout l)
