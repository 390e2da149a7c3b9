-- Rows of sparse unions that come behind others field by field ("Sparse Union").
use Rattle.std.specs.Prelude.{ℕ, ◌≡◌, ◌+◌, ◌<◌, ◌≤◌, List, length}
use Rattle.std.specs.List.{All}
use Rattle.arrow_types.specs.ArrowType.{ArrowType}
use Rattle.arrow_types.specs.Slot.{Slot}
use Rattle.arrow_arrays.specs.UnionParts.{UnionParts, rows_of_field}
use Rattle.arrow_flat_growable.specs.Grown.{FitsWith, Grown, appended}
use Rattle.arrow_growable.specs.Child.{AreBoundAs, BindsRows, IsWell, bound_rows}
use Rattle.arrow_growable.specs.GrownUnion.{nth_grown}
use Rattle.arrow_growable.specs.Variants.{field_part, variant_type}

-- children to which those of an array of sparse unions are bound as array i
pub record BindsFields (p : UnionParts) (i : ℕ) (gs : List Grown) : Type 0 where
  pub width : length gs ≡ length p.children
  pub types : (f : ℕ) → f < length gs → (nth_grown gs f).arrow_type ≡ variant_type p.arrow_type f
  pub binds : (f : ℕ) → f < length gs → BindsRows (nth_grown gs f) i (p.start + length p.types)
  pub rows : (f : ℕ) → f < length gs → bound_rows (nth_grown gs f) i ≡ rows_of_field p.children f

-- children of which those before the k-th have grown by what rows hold of their field
pub record GrownFields (t : ArrowType) (more : List Slot) (gs news : List Grown) (k : ℕ) : Type 0 where
  pub width : length news ≡ length gs
  pub grown : (f : ℕ) → f < k → f < length gs → nth_grown news f ≡ appended (nth_grown gs f) (field_part t f more)
  pub others : (f : ℕ) → k ≤ f → nth_grown news f ≡ nth_grown gs f
  pub well : All IsWell news
  pub kept : AreBoundAs gs news

-- some child can't hold what rows hold of its field
abbrev pub SomeFieldRefused : ArrowType → List Slot → List Grown → Type 0
SomeFieldRefused t more gs = (f : ℕ) × (f < length gs) × (FitsWith (nth_grown gs f) (field_part t f more) → ⊥)
