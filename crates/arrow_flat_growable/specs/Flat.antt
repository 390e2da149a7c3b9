-- A flat array under construction.
use Rattle.std.specs.Borrow.{Bor}
use Rattle.std.specs.Prelude.{ℕ, ◌≡◌, ◌<◌, Bool, false, Option, List, length, slice_index_or}
use Rattle.std.specs.List.{All}
use Rattle.arrow_types.specs.ArrowType.{ArrowType}
use Rattle.arrow_types.specs.Carried.{IsCarried}
use Rattle.arrow_types.specs.Fits.{Fits}
use Rattle.arrow_types.specs.Rows.{masked}
use Rattle.arrow_types.specs.Slot.{Slot}
use Rattle.arrow_arrays.specs.Layout.{Layout, flat, type_of_layout}

-- an array without children as contracts of arrays of any type see it: its type, and its rows by what is stored and its validity
abbrev pub flat_layout : {A : Type 0} → (A → ArrowType) → (A → Option (List Bool)) → (A → List Slot) → A → Layout
flat_layout type_in bits_in stored_in array = flat (type_in array) (masked (bits_in array) (stored_in array))

-- a bit for each row that is stored, and nothing that counts beneath nulls
pub record Covers (spares : List Bool → List Slot → Type 0) (bits : List Bool) (stored : List Slot) : Type 0 where
  pub covered : length bits ≡ length stored
  pub spared : spares bits stored

-- each of some arrays is bound under its place
abbrev pub BindsAll : {A : Type 0} → (ℕ → A → Type 0) → List (Bor A) → Type 0
BindsAll binds arrays = (i : ℕ) (r : Bor _) → i < length arrays → r ≡ slice_index_or arrays i r → binds i r.now

-- arrays that are bound stay so
abbrev pub KeepsBound : {A : Type 0} → (ℕ → A → Type 0) → (ℕ → A → Type 0) → Type 0
KeepsBound old new = (i : ℕ) (array : _) → old i array → new i array

-- the parts of a growable: a carried type, that of all arrays, which are bound, whose rows are stored so, and, where it has not failed, as many bits and rows as it counts, which fit
pub record IsGrownFlat {G : Type 0} (slots : G → List Slot) (are_of : G → ArrowType → Type 0) (spares : List Bool → List Slot → Type 0) {A : Type 0} (binds : ℕ → A → Type 0) (values : G) (bits : List Bool) (len : ℕ) (arrays : List (Bor A)) (layouts : List Layout) (t : ArrowType) (failed : Bool) : Type 0 where
  pub carried : IsCarried t
  pub one_type : All (λ l. type_of_layout l ≡ t) layouts
  pub kind : are_of values t
  pub bound : BindsAll binds arrays
  pub counted : failed ≡ false → length bits ≡ len
  pub covers : failed ≡ false → Covers spares bits (slots values)
  pub fits : failed ≡ false → Fits t (slots values)
