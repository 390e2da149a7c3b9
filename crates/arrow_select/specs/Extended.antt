-- What a growable becomes by rows that a mask keeps, in ranges, and what it is where one of these is refused.
use Rattle.std.specs.Prelude.{◌≡◌, ◌↔◌, ◌+◌, ◌<◌, ℕ, Bool, true, Option, Some, None, List, ◌∷◌, ◌++◌, count_by, flat_map, length, replicate}
use Rattle.arrow_types.specs.declared.error.Error.{Error}
use Rattle.arrow_types.specs.declared.error.Error.TheVariants.{Failed, Overflow}
use Rattle.arrow_types.specs.Rows.{select}
use Rattle.arrow_types.specs.Slot.{Slot, Null}
use Rattle.arrow_arrays.specs.Layout.{Layout, rows}
use Rattle.arrow_flat_growable.specs.Grown.{CannotHold, Grown, HasFailed, rows_among, source_at}
use Rattle.arrow_select.specs.Ranges.{IsRangesOf}

-- array i is bound, and has so many rows. Where none is bound, each index names nulls, as many as are wanted
abbrev pub HasRowsAt : Option (List Layout) → ℕ → ℕ → Type 0
HasRowsAt None i n = Unit {0}
HasRowsAt (Some layouts) i n = (i < length layouts) × (length (rows (source_at layouts i)) ≡ n)

abbrev pub BindsAt : Grown → ℕ → List Bool → Type 0
BindsAt g i mask = HasRowsAt g.sources i (length mask)

-- the rows of bound array i at which a mask is true, and as many nulls where none is bound
abbrev pub kept_among : Option (List Layout) → ℕ → List Bool → List Slot
kept_among None i mask = replicate (count_by (λ is_kept. is_kept) mask) Null
kept_among (Some layouts) i mask = select mask (rows (source_at layouts i))

-- those of ranges of it
abbrev pub ranged_among : Option (List Layout) → ℕ → List (ℕ × ℕ) → List Slot
ranged_among sources i = flat_map (λ r. rows_among sources i r.0 r.1)

-- a growable with more rows behind, which has failed where it had
abbrev pub extended : Grown → List Slot → Grown
extended g more =
    record { arrow_type = g.arrow_type; sources = g.sources; rows = g.rows ++ more; count = g.count + length more; failed = g.failed }

abbrev pub with_kept : Grown → ℕ → List Bool → Grown
with_kept g i mask = extended g (kept_among g.sources i mask)

abbrev pub with_ranges : Grown → ℕ → List (ℕ × ℕ) → Grown
with_ranges g i ranges = extended g (ranged_among g.sources i ranges)

-- a range of a mask was refused: those before it have been appended and are counted, and the growable has failed. It had failed before where `Failed` is the answer
pub record RefusesRange (mask : List Bool) (i : ℕ) (old new : Grown) (e : Error) : Type 0 where
  pub before : List (ℕ × ℕ)
  pub refused : ℕ × ℕ
  pub behind : List (ℕ × ℕ)
  pub ranges : IsRangesOf (before ++ refused ∷ behind) mask
  pub fails : HasFailed (with_ranges old i before) new
  pub overflows : e ≡ Overflow → CannotHold (with_ranges old i before) i refused.0 refused.1
  pub had_failed : (e ≡ Failed) ↔ (old.failed ≡ true)
