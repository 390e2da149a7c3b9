-- Arrays of dictionaries under construction: the values of all bound arrays, joined, and keys that name them ("Dictionary-encoded Layout").
use Rattle.std.specs.Prelude.{ℕ, ◌≡◌, ◌<◌, ◌+◌, ◌≤◌, Bool, false, Option, Some, None, List, length, map, slice_index, take}
use Rattle.std.specs.List.{All}
use Rattle.arrow_types.specs.declared.datatypes.IntegerType.{IntegerType}
use Rattle.arrow_types.specs.declared.datatypes.physical_type.PhysicalType.TheVariants as physical
use Rattle.arrow_types.specs.ArrowType.{ArrowType}
use Rattle.arrow_types.specs.Rows.{joined, mask}
use Rattle.arrow_types.specs.Slot.{Slot}
use Rattle.arrow_flat.specs.DictionaryScalar.{values_in}
use Rattle.arrow_flat.specs.Faults.{IsCarriedAs}
use Rattle.arrow_arrays.specs.Crowded.{CrowdedRow, child_of, values_before}
use Rattle.arrow_arrays.specs.KeyedParts.{AreKeys, keys_in}
use Rattle.arrow_arrays.specs.Layout.{Layout, keyed_item, rows, type_of_layout}
use Rattle.arrow_flat_growable.specs.Grown.{source_at}

-- the values of all dictionaries, one dictionary behind the other
abbrev pub joined_values : List Layout → List Slot
joined_values layouts = joined (map (λ l. rows (child_of l)) layouts)

-- the rows, by the values, a bit for each row and the keys that are stored
abbrev pub dictionary_rows : List Slot → List Bool → List Slot → List Slot
dictionary_rows values bits slots = map (keyed_item values) (keys_in (mask bits slots))

-- where the values of each array begin
pub record StartsAt (starts : List ℕ) (layouts : List Layout) : Type 0 where
  pub count : length starts ≡ length layouts
  pub each : (i : ℕ) → i < length layouts → slice_index starts i ≡ values_before (take i layouts)

-- the bits and keys of one that has not failed: as many as it counts, and each key that is valid names a value
pub record HoldsKeys (bits : List Bool) (slots : List Slot) (len count : ℕ) : Type 0 where
  pub covered : length bits ≡ len
  pub counted : length slots ≡ len
  pub within : AreKeys count (mask bits slots)

-- the parts of a growable: a carried type with such keys, that of all arrays, and their values joined
pub record IsGrownDictionary (key_type : IntegerType) (starts : List ℕ) (values : Layout) (bits : List Bool) (slots : List Slot) (len : ℕ) (layouts : List Layout) (t : ArrowType) (failed : Bool) : Type 0 where
  pub kind : IsCarriedAs (physical.Dictionary key_type) t
  pub one_type : All (λ l. type_of_layout l ≡ t) layouts
  pub child : type_of_layout values ≡ values_in t
  pub joined : rows values ≡ joined_values layouts
  pub begun : StartsAt starts layouts
  pub holds : failed ≡ false → HoldsKeys bits slots len (length (rows values))

-- none of these rows is crowded behind the arrays before its own: each key that is valid, grown by the values before its own, is at most the greatest of its type
abbrev pub AreUncrowded : Option (List Layout) → ℕ → ℕ → ℕ → Type 0
AreUncrowded None i start len = Unit {0}
AreUncrowded (Some layouts) i start len =
    (j : ℕ) → start ≤ j → j < start + len → CrowdedRow (take i layouts) (source_at layouts i) j → ⊥
