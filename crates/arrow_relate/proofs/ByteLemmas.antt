-- Relations of rows of bytes that are lent as slices.
use Rattle.std.proofs.Common.{◌≡◌, ℕ, ◌<◌, ℤ, pos, Bool, Some, List, length, map, get_or, slice_index, unsigned_abs, ap, sym, subst, ◌∙◌}
use Rattle.std.specs.Prelude.{option_map, slice_get}
use Rattle.std.proofs.lemmas.List.{length-map}
use Rattle.std.proofs.lemmas.Option.{slice_get-map}
use Rattle.arrow_types.specs.Slot.{Slot, Boolean}
use Rattle.arrow_memory.proofs.OffsetLemmas.{as_seen, number_at}
use Rattle.arrow_flat.specs.ByteRows.{ByteParts, AreByteRows}
use Rattle.arrow_flat.specs.RowByRow.{row_by_row}
use Rattle.arrow_relate.specs.LentRows.{AreLentRows, lent_parts}
use Rattle.arrow_relate.proofs.RowLemmas.{read-row_by_row}

-- ---- rows that are lent

-- stored offsets are seen as those that they store
pub lent_seen : {A : Type 0} (number : A → ℤ) (p : ByteParts) (offsets : List A) (bytes : List ℕ) → map number offsets ≡ map pos p.offsets → bytes ≡ p.bytes → lent_parts number offsets bytes ≡ p
lent_seen number p offsets bytes stored same i = record { offsets = as_seen (map number offsets) p.offsets stored i; bytes = same i }

-- and they hold the rows
pub lent_held : {A : Type 0} (number : A → ℤ) (Allows : List ℕ → Type 0) (p : ByteParts) (offsets : List A) (bytes : List ℕ) → map number offsets ≡ map pos p.offsets → bytes ≡ p.bytes → AreByteRows Allows p → AreLentRows number Allows offsets bytes
lent_held number Allows p offsets bytes stored same held =
    record {
      natural = stored ∙ ap (map pos) (sym (as_seen (map number offsets) p.offsets stored));
      rows = subst (AreByteRows Allows) (sym (lent_seen number p offsets bytes stored same)) held;
    }

-- as many as they store
pub lent_long : {A : Type 0} (number : A → ℤ) (offsets : List A) (bytes : List ℕ) → length (lent_parts number offsets bytes).offsets ≡ length offsets
lent_long number offsets bytes = length-map (map number offsets) unsigned_abs ∙ length-map offsets number

-- an offset that is read, seen as one of some parts
pub lent_offset : {A : Type 0} (number : A → ℤ) (Allows : List ℕ → Type 0) (offsets : List A) (bytes : List ℕ) (p : ByteParts) (i : ℕ) (x : A) → AreLentRows number Allows offsets bytes → lent_parts number offsets bytes ≡ p → i < length p.offsets → x ≡ get_or offsets i x → number x ≡ pos (slice_index p.offsets i)
lent_offset number Allows offsets bytes p i x held seen within read =
    let same = ap (λ p. p.offsets) seen in
    number_at number offsets p.offsets i x (held.natural ∙ ap (map pos) same) within read

-- ---- rows of both sides

slot_at : (slot : List ℕ → Slot) (xs : List (List ℕ)) (i : ℕ) (x : List ℕ) → slice_get xs i ≡ Some x → slice_get (map slot xs) i ≡ Some (slot x)
slot_at slot xs i x read = slice_get-map slot xs i ∙ ap (option_map slot) read

-- what a row of both sides gives
pub given_at : (slot : List ℕ → Slot) (give : Slot → Slot → Slot) (xs ys : List (List ℕ)) (i : ℕ) (x y : List ℕ) (bit : Bool) → slice_get xs i ≡ Some x → slice_get ys i ≡ Some y → Boolean bit ≡ give (slot x) (slot y) → slice_get (row_by_row give (map slot xs) (map slot ys)) i ≡ Some (Boolean bit)
given_at slot give xs ys i x y bit left right is =
    read-row_by_row give (map slot xs) (map slot ys) i (slot x) (slot y) (slot_at slot xs i x left) (slot_at slot ys i y right) ∙ ap Some (sym is)

-- what a row gives
pub given_of : (slot : List ℕ → Slot) (give : Slot → Slot) (xs : List (List ℕ)) (i : ℕ) (x : List ℕ) (bit : Bool) → slice_get xs i ≡ Some x → Boolean bit ≡ give (slot x) → slice_get (map give (map slot xs)) i ≡ Some (Boolean bit)
given_of slot give xs i x bit read is =
    slice_get-map give (map slot xs) i ∙ (ap (option_map give) (slot_at slot xs i x read) ∙ ap Some (sym is))
