-- Arrays of the null type under construction.
use Rattle.std.specs.Prelude.{ℕ, ◌≡◌, ◌+◌, ◌≤◌, ◌^◌, false, List, Option, None, replicate}
use Rattle.arrow_types.specs.declared.datatypes.physical_type.PhysicalType.TheVariants as physical
use Rattle.arrow_types.specs.Slot.{Null}
use Rattle.arrow_flat.specs.Faults.{IsCarriedAs}
use Rattle.arrow_flat.specs.NullParts.{NullParts, null_rows}
use Rattle.arrow_arrays.specs.Layout.{Layout, flat}
use Rattle.arrow_flat_growable.specs.Grown.{Grown}

-- it binds no array, and its rows are nulls, as many as it counts
pub record IsGrownNull (g : Grown) : Type 0 where
  pub kind : IsCarriedAs physical.Null g.arrow_type
  pub unbound : g.sources ≡ None
  pub nulls : g.rows ≡ replicate g.count Null

-- it has not failed, and its rows with so many more are more than a usize counts
abbrev pub CannotCount : Grown → ℕ → Type 0
CannotCount g n = (g.failed ≡ false) × (2 ^ 64 ≤ g.count + n)

-- an array of the null type as contracts of arrays of any type see it
abbrev pub null_layout : NullParts → Layout
null_layout p = flat p.arrow_type (null_rows p)

-- the same over other arrays
abbrev pub with_sources : Grown → Option (List Layout) → Grown
with_sources g sources =
    record { arrow_type = g.arrow_type; sources = sources; rows = g.rows; count = g.count; failed = g.failed }
