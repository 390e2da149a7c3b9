-- The layout of a slice: a part of the rows, of which nothing is copied.
use Rattle.std.specs.Prelude.{ℕ, ◌+◌, ◌*◌, Bool, Option, List, option_map}
use Rattle.arrow_memory.specs.Sliced.{sliced}
use Rattle.arrow_arrays.specs.Layout.{Layout, Layouts, flat, listed, fixed, fielded, sparse, dense, keyed, no_layouts, more_layouts}

-- the bits of a part
abbrev pub validity_of_slice : Option (List Bool) → ℕ → ℕ → Option (List Bool)
validity_of_slice v offset len = option_map (λ bits. sliced bits offset len) v

-- A list keeps its child, and a sparse union its children, which it reads from a later start; a fixed-size list keeps the items of its rows, and a struct a part of each child
abbrev mutual
  pub slice_of : Layout → ℕ → ℕ → Layout
  slice_of (flat t xs) offset len = flat t (sliced xs offset len)
  slice_of (listed t v offsets c) offset len = listed t (validity_of_slice v offset len) (sliced offsets offset (len + 1)) c
  slice_of (fixed t v s c) offset len = fixed t (validity_of_slice v offset len) s (slice_of c (offset * s) (len * s))
  slice_of (fielded t v cs) offset len = fielded t (validity_of_slice v offset len) (slices_of cs offset len)
  slice_of (sparse t ids start cs) offset len = sparse t (sliced ids offset len) (start + offset) cs
  slice_of (dense t ids child_rows cs) offset len = dense t (sliced ids offset len) (sliced child_rows offset len) cs
  slice_of (keyed t keys c) offset len = keyed t (sliced keys offset len) c

  -- of each
  pub slices_of : Layouts → ℕ → ℕ → Layouts
  slices_of no_layouts offset len = no_layouts
  slices_of (more_layouts l ls) offset len = more_layouts (slice_of l offset len) (slices_of ls offset len)
