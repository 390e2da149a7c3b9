-- Runs of rows of one field in an array of unions that is bound.
use Rattle.std.specs.Prelude.{ℕ, ◌≡◌, ◌+◌, ◌<◌, ◌≤◌, length, replicate}
use Rattle.std.specs.List.{range_with_len}
use Rattle.arrow_types.specs.Slot.{id_at}
use Rattle.arrow_memory.specs.Sliced.{sliced}
use Rattle.arrow_arrays.specs.Layout.{field_ids}
use Rattle.arrow_arrays.specs.TypeParts.{field_types}
use Rattle.arrow_arrays.specs.UnionParts.{UnionParts, child_rows_by, rows_of_field}

-- there is a child for each field, and n rows from a row on are rows of field f, one behind the other from row j of its child on
pub record IsRun (p : UnionParts) (row f j n : ℕ) : Type 0 where
  pub width : length p.children ≡ length (field_types p.arrow_type)
  pub field : f < length p.children
  pub types : sliced p.types row n ≡ replicate n (id_at (field_ids p.arrow_type) f)
  pub places : sliced (child_rows_by p.child_rows p.start (length p.types)) row n ≡ range_with_len j n
  pub inside : j + n ≤ length (rows_of_field p.children f)
