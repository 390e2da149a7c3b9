-- What each pair of members of two lists gives, one pair at a time.
use Rattle.std.proofs.Common.{◌≡◌, ◌∙◌, ℕ, suc, get_or, ◌<◌, Bool, true, false, Some, List, [], ◌∷◌, if◌then◌else◌, length, map, replicate, arith, ap, sym, refl}
use Rattle.std.specs.Prelude.{Result, IfOk, slice_get}
use Rattle.std.specs.Bool.{beq}
use Rattle.std.specs.Cmp.{booleans_Decides}
use Rattle.std.specs.Ordering.{bool_cmp}
use Rattle.std.proofs.lemmas.List.{get_or-map, length-map}
use Rattle.std.proofs.lemmas.Option.{slice_get-get_or}
use Rattle.std.proofs.lemmas.Simd.{map-map, splat_is_map}
use Rattle.arrow_types.specs.Relation.{Relation, bool_order, related}
use Rattle.arrow_types.specs.Slot.{Slot, Boolean}
use Rattle.arrow_flat.specs.RowByRow.{row_by_row}
use Rattle.arrow_flat.proofs.RowLemmas.{length-row_by_row}
use Rattle.arrow_memory.specs.Bits.{paired}
use Rattle.arrow_memory.specs.Gathered.{AnswersBits}
use Rattle.arrow_relate.proofs.WordLemmas.{answered_rows}

pub read-row_by_row : {A B C : Type 0} (give : A → B → C) (xs : List A) (ys : List B) (i : ℕ) (x : A) (y : B) → slice_get xs i ≡ Some x → slice_get ys i ≡ Some y → slice_get (row_by_row give xs ys) i ≡ Some (give x y)
read-row_by_row give (a ∷ xs) (b ∷ ys) (suc i) x y left right = read-row_by_row give xs ys i x y left right
read-row_by_row give xs ys i x y left right = cc

-- what a function makes of a member
pub read_slot : {T : Type 0} (slot : T → Slot) (xs : List T) (row : ℕ) (x d : T) → row < length xs → x ≡ get_or xs row d → slice_get (map slot xs) row ≡ Some (slot x)
read_slot slot xs row x d within is =
    slice_get-get_or (map slot xs) row (slot d) (omega (arith, within, length-map xs slot)) ∙ ap Some (get_or-map slot xs row d (slot d) within ∙ ap slot (sym is))

-- a relation of the values of two lists
pub read_related : {T : Type 0} (op : Relation) (slot : T → Slot) (xs ys : List T) (row : ℕ) (x y : T) (bit : Bool) → length xs ≡ length ys → row < length xs → x ≡ get_or xs row x → y ≡ get_or ys row y → Boolean bit ≡ related op (slot x) (slot y) → slice_get (row_by_row (related op) (map slot xs) (map slot ys)) row ≡ Some (Boolean bit)
read_related op slot xs ys row x y bit same within left right is =
    read-row_by_row (related op) (map slot xs) (map slot ys) row (slot x) (slot y) (read_slot slot xs row x x within left) (read_slot slot ys row y y (omega (arith, within, same)) right) ∙ ap Some (sym is)

-- what a function makes of the slot of a value
pub read_mapped : {T : Type 0} (by : Slot → Slot) (slot : T → Slot) (xs : List T) (row : ℕ) (x : T) (bit : Bool) → row < length xs → x ≡ get_or xs row x → Boolean bit ≡ by (slot x) → slice_get (map by (map slot xs)) row ≡ Some (Boolean bit)
read_mapped by slot xs row x bit within left is =
    ap (λ rows. slice_get rows row) (map-map by slot xs) ∙ (read_slot (λ x. by (slot x)) xs row x x within left ∙ ap Some (sym is))

-- bits that were answered of their rows
pub related_rows : {T E : Type 0} (r : Result (List Bool) E) (answered : ℕ → Bool → Type 0) (op : Relation) (slot : T → Slot) (xs ys : List T) → length xs ≡ length ys → ((row : ℕ) (bit : Bool) → row < length xs → answered row bit → slice_get (row_by_row (related op) (map slot xs) (map slot ys)) row ≡ Some (Boolean bit)) → IfOk r (λ bits. AnswersBits answered (length xs) bits) → IfOk r (λ bits. map Boolean bits ≡ row_by_row (related op) (map slot xs) (map slot ys))
related_rows r answered op slot xs ys same each all =
    let rows = row_by_row (related op) (map slot xs) (map slot ys) in
    let long : length rows ≡ length xs = length-row_by_row (related op) (map slot xs) (map slot ys) (omega (arith, same, length-map xs slot, length-map ys slot)) ∙ length-map xs slot in
    answered_rows r answered (length xs) rows long each all

-- one list and a member that is the same for each
pub row_by_row-replicate : {A B C : Type 0} (give : A → B → C) (xs : List A) (y : B) → row_by_row give xs (replicate (length xs) y) ≡ map (λ x. give x y) xs
row_by_row-replicate give [] y = refl
row_by_row-replicate give (x ∷ xs) y = ap (λ zs. give x y ∷ zs) (row_by_row-replicate give xs y)

-- what a function makes of each
pub map-row_by_row : {A B C D : Type 0} (f : C → D) (give : A → B → C) (xs : List A) (ys : List B) → map f (row_by_row give xs ys) ≡ row_by_row (λ x y. f (give x y)) xs ys
map-row_by_row f give (x ∷ xs) (y ∷ ys) = ap (λ zs. f (give x y) ∷ zs) (map-row_by_row f give xs ys)
map-row_by_row f give xs ys = refl

-- what pairs of truth values give, as bits and as rows
pub rows_of_pairs : (give : Bool → Bool → Bool) (by : Slot → Slot → Slot) → ((x y : Bool) → Boolean (give x y) ≡ by (Boolean x) (Boolean y)) → (xs ys : List Bool) → map Boolean (paired give xs ys) ≡ row_by_row by (map Boolean xs) (map Boolean ys)
rows_of_pairs give by each (x ∷ xs) (y ∷ ys) = (λ i. each x y i ∷ rows_of_pairs give by each xs ys i)
rows_of_pairs give by each xs ys = refl

-- the order of two truth values, as std has it
pub order_of_bits : (x y : Bool) → bool_cmp x y ≡ bool_order x y
order_of_bits true true = refl
order_of_bits false false = refl
order_of_bits x y = refl

-- the same of each truth value and another one, from what it gives of each of the two
pub rows_of_bits : (by : Slot → Slot) (unset set : Bool) → Boolean unset ≡ by (Boolean false) → Boolean set ≡ by (Boolean true) → (xs : List Bool) → map Boolean (map (λ bit. if bit then set else unset) xs) ≡ map by (map Boolean xs)
rows_of_bits by unset set low high [] = refl
rows_of_bits by unset set low high (true ∷ xs) = (λ i. high i ∷ rows_of_bits by unset set low high xs i)
rows_of_bits by unset set low high (false ∷ xs) = (λ i. low i ∷ rows_of_bits by unset set low high xs i)

-- bits that stay as they are, and bits that are all alike
pub kept_bits : (unset set : Bool) → beq unset set ≡ false → set ≡ true → (xs : List Bool) → xs ≡ map (λ bit. if bit then set else unset) xs
kept_bits false true differ is [] = refl
kept_bits false true differ is (true ∷ xs) = ap (λ rest. true ∷ rest) (kept_bits false true differ is xs)
kept_bits false true differ is (false ∷ xs) = ap (λ rest. false ∷ rest) (kept_bits false true differ is xs)
kept_bits unset set differ is xs = cc

pub equal_bits : (unset set : Bool) → beq unset set ≡ true → (xs : List Bool) → replicate (length xs) set ≡ map (λ bit. if bit then set else unset) xs
equal_bits unset set same xs =
    let each : (bit : Bool) → set ≡ (if bit then set else unset) = elim [ true ↦ refl | false ↦ sym ((booleans_Decides unset set).0 same) ] in
    splat_is_map xs (length xs) set refl ∙ (λ i. map (λ bit. each bit i) xs)
