-- What two validities make of a comparison of what is stored ("Validity bitmaps").
use Rattle.std.specs.Prelude.{Bool, Option, List, length, map, slice_index_or}
use Rattle.std.specs.List.{range_with_len}
use Rattle.arrow_types.specs.Rows.{valid_at}
use Rattle.arrow_types.specs.Slot.{Slot, Null}

-- what each row of a comparison gives with whether that row of both sides is valid
abbrev pub finished : (Slot → Bool → Bool → Slot) → List Slot → Option (List Bool) → Option (List Bool) → List Slot
finished give rows v w =
    map (λ i. give (slice_index_or rows i Null) (valid_at v i) (valid_at w i)) (range_with_len 0 (length rows))
