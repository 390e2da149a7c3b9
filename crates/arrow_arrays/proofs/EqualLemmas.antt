-- Rows that are the same: of lists by the spans that they name, of structs by their columns, of unions by field and row.
use Rattle.std.proofs.Common.{◌≡◌, ℕ, zero, suc, ◌+◌, ◌<◌, ◌≤◌, ℤ, Bool, Option, Some, None, List, [], ◌∷◌, length, map, take, get_or, refl, ap, sym, subst, ◌∙◌, arith, inl, inr}
use Rattle.std.specs.Prelude.{pos, replicate, IfSome, ◌⊎◌, ◌↔◌}
use Rattle.std.specs.Bool.{Decides}
use Rattle.std.specs.List.{All}
use Rattle.std.proofs.Math.Nat.{eq-or-lt_of_le}
use Rattle.std.proofs.lemmas.List.{length-map, length-replicate}
use Rattle.arrow_types.specs.Fits.{items_in}
use Rattle.arrow_types.specs.Slot.{Slot, Null, Parts, Variant, to_slots, from_slots, id_at}
use Rattle.arrow_types.proofs.SlotLemmas.{from_slots-to_slots}
use Rattle.arrow_memory.specs.Sliced.{sliced}
use Rattle.arrow_memory.proofs.SlicedLemmas.{length-sliced}
use Rattle.arrow_flat.specs.NullParts.{NullParts}
use Rattle.arrow_flat.proofs.PartsLemmas.{nulls-sliced}
use Rattle.arrow_arrays.specs.Any.{layout_of, any_array_type, any_array_rows}
use Rattle.arrow_arrays.specs.declared.array.any.AnyArray.{AnyArray}
use Rattle.arrow_arrays.specs.declared.array.any.AnyArray.TheVariants.{Null as Nulls}
use Rattle.arrow_arrays.specs.Layout.{Layout, items_row, rows}
use Rattle.arrow_arrays.specs.Spans.{span_row, AreSameSpans}
use Rattle.arrow_arrays.specs.StructParts.{row_of}
use Rattle.arrow_arrays.specs.UnionParts.{FindsField, rows_of_field}
use Rattle.arrow_arrays.proofs.TypeLemmas.{maps_at, maps_next, maps_all}
use Rattle.arrow_arrays.proofs.UnionLemmas.{field_rows}

-- one row as a part
pub one_row : {A : Type 0} (xs : List A) (i : ℕ) (d : A) → i < length xs → sliced xs i 1 ≡ get_or xs i d ∷ []
one_row [] i d within = absurd (omega (arith, within))
one_row (x ∷ xs) zero d within = refl
one_row (x ∷ xs) (suc i) d within = one_row xs i d (omega (arith, within))

one_same : {A : Type 0} (x y d : A) → x ∷ [] ≡ y ∷ [] → x ≡ y
one_same x y d same = ap (λ zs. get_or zs 0 d) same

-- a part of one row is the same where the row is
pub one_decides : (xs ys : List Slot) (i j : ℕ) (r : Bool) → i < length xs → j < length ys → Decides r (sliced xs i 1 ≡ sliced ys j 1) → Decides r (get_or xs i Null ≡ get_or ys j Null)
one_decides xs ys i j r here there told = (
  λ e. one_same _ _ Null (sym (one_row xs i Null here) ∙ (told.0 e ∙ one_row ys j Null there)),
  λ same. told.1 (one_row xs i Null here ∙ (ap (λ s. s ∷ []) same ∙ sym (one_row ys j Null there))),
)

-- rows of items are the same where the items are
items_same : (xs ys : List Slot) → items_row xs ≡ items_row ys → xs ≡ ys
items_same xs ys same =
    sym (from_slots-to_slots xs) ∙ (ap items_in same ∙ from_slots-to_slots ys)

pub spans_decide : (xs ys : List Slot) (a b : Option (ℕ × ℕ)) (r : Bool) (s t : Slot) → s ≡ span_row xs a → t ≡ span_row ys b → Decides r (AreSameSpans xs a ys b) → Decides r (s ≡ t)
spans_decide xs ys None None r s t here there told = (λ e. here ∙ sym there, λ same. told.1 tt)
spans_decide xs ys None (Some q) r s t here there told =
    (λ e. absurd (told.0 e), λ same. absurd (cc (sym here ∙ (same ∙ there))))
spans_decide xs ys (Some p) None r s t here there told =
    (λ e. absurd (told.0 e), λ same. absurd (cc (sym here ∙ (same ∙ there))))
spans_decide xs ys (Some p) (Some q) r s t here there told = (
  λ e. here ∙ (ap items_row (told.0 e) ∙ sym there),
  λ same. told.1 (items_same _ _ (sym here ∙ (same ∙ there))),
)

-- row i of each array
abbrev pub column_rows : ℕ → List AnyArray → List Slot
column_rows i xs = map (λ x. get_or (rows (layout_of x)) i Null) xs

columns : (i : ℕ) (xs : List AnyArray) → map (λ l. get_or (rows l) i Null) (map layout_of xs) ≡ column_rows i xs
columns i [] = refl
columns i (x ∷ xs) = ap (λ ss. get_or (rows (layout_of x)) i Null ∷ ss) (columns i xs)

row_of_columns : (i : ℕ) (xs : List AnyArray) → row_of i (map layout_of xs) ≡ Parts (to_slots (column_rows i xs))
row_of_columns i xs = ap (λ ss. Parts (to_slots ss)) (columns i xs)

abbrev slots_in : Slot → List Slot
slots_in (Parts ss) = from_slots ss
slots_in _ = []

-- rows of structs are the same where all columns have the same row
pub parts_decide : (i j : ℕ) (xs ys : List AnyArray) → (row_of i (map layout_of xs) ≡ row_of j (map layout_of ys)) ↔ (column_rows i xs ≡ column_rows j ys)
parts_decide i j xs ys = (
  λ same. sym (from_slots-to_slots (column_rows i xs)) ∙ (ap slots_in (sym (row_of_columns i xs) ∙ (same ∙ row_of_columns j ys)) ∙ from_slots-to_slots (column_rows j ys)),
  λ same. row_of_columns i xs ∙ (ap (λ ss. Parts (to_slots ss)) same ∙ sym (row_of_columns j ys)),
)

-- so they are where the columns so far are all
pub all_columns : (i j k : ℕ) (xs ys : List AnyArray) → length xs ≤ k → length xs ≡ length ys → take k (column_rows i xs) ≡ take k (column_rows j ys) → row_of i (map layout_of xs) ≡ row_of j (map layout_of ys)
all_columns i j k xs ys last lengths same =
    (parts_decide i j xs ys).1 (maps_all (λ z. get_or (rows (layout_of z)) i Null) (λ z. get_or (rows (layout_of z)) j Null) xs ys k last (omega (arith, last, lengths)) same)

-- one column more
pub columns_next : (i j k : ℕ) (xs ys : List AnyArray) (x y : AnyArray) → k < length xs → k < length ys → x ≡ get_or xs k x → y ≡ get_or ys k y → take k (column_rows i xs) ≡ take k (column_rows j ys) → get_or (rows (layout_of x)) i Null ≡ get_or (rows (layout_of y)) j Null → take (k + 1) (column_rows i xs) ≡ take (k + 1) (column_rows j ys)
columns_next i j k xs ys x y here there left right same row =
    maps_next (λ z. get_or (rows (layout_of z)) i Null) (λ z. get_or (rows (layout_of z)) j Null) xs ys k x y here there left right row same

-- the same rows have the same columns
pub column_of_row : (i j k : ℕ) (xs ys : List AnyArray) (x y : AnyArray) → k < length xs → k < length ys → x ≡ get_or xs k x → y ≡ get_or ys k y → row_of i (map layout_of xs) ≡ row_of j (map layout_of ys) → get_or (rows (layout_of x)) i Null ≡ get_or (rows (layout_of y)) j Null
column_of_row i j k xs ys x y here there left right same =
    maps_at (λ z. get_or (rows (layout_of z)) i Null) (λ z. get_or (rows (layout_of z)) j Null) xs ys k x y here there left right ((parts_decide i j xs ys).0 same)

-- what holds of each array holds of one
pub each_at : (P : Layout → Type 0) (xs : List AnyArray) (k : ℕ) (x : AnyArray) → k < length xs → x ≡ get_or xs k x → All P (map layout_of xs) → P (layout_of x)
each_at P [] k x within read all = absurd (omega (arith, within))
each_at P (y ∷ xs) zero x within read all = subst (λ z. P (layout_of z)) (sym read) (all 0 (layout_of y) (omega arith))
each_at P (y ∷ xs) (suc k) x within read all =
    each_at P xs k x (omega (arith, within)) read (λ j d among. all (suc j) d (omega (arith, among)))

-- no more arrays of one type than of the other
pub as_many : (xs ys : List AnyArray) → map any_array_type xs ≡ map any_array_type ys → length xs ≡ length ys
as_many xs ys same =
    omega (arith, ap length same, length-map xs any_array_type, length-map ys any_array_type)

-- one id is one field's
at_most : (ids : Option (List ℤ)) (m n : ℕ) (id : ℤ) (f g : ℕ) → FindsField ids m id (Some f) → FindsField ids n id (Some g) → (f ≡ g) ⊎ (f < g) → f ≡ g
at_most ids m n id f g found other (inl same) = same
at_most ids m n id f g found other (inr before) = absurd (other.2 f before found.1)

one_more : (f g : ℕ) → (f ≤ g) ⊎ (g ≤ f) → (suc f ≤ suc g) ⊎ (suc g ≤ suc f)
one_more f g (inl before) = inl (omega (arith, before))
one_more f g (inr behind) = inr (omega (arith, behind))

ordered : (f g : ℕ) → (f ≤ g) ⊎ (g ≤ f)
ordered zero g = inl (omega arith)
ordered (suc f) zero = inr (omega arith)
ordered (suc f) (suc g) = one_more f g (ordered f g)

either_way : (ids : Option (List ℤ)) (m n : ℕ) (id : ℤ) (f g : ℕ) → FindsField ids m id (Some f) → FindsField ids n id (Some g) → (f ≤ g) ⊎ (g ≤ f) → f ≡ g
either_way ids m n id f g found other (inl before) = at_most ids m n id f g found other (eq-or-lt_of_le before)
either_way ids m n id f g found other (inr behind) =
    sym (at_most ids n m id g f other found (eq-or-lt_of_le behind))

pub one_field : (ids others : Option (List ℤ)) (m n : ℕ) (id other_id : ℤ) (f g : ℕ) → ids ≡ others → id ≡ other_id → FindsField ids m id (Some f) → FindsField others n other_id (Some g) → f ≡ g
one_field ids others m n id other_id f g one same found other =
    either_way ids m n id f g found (subst (λ z. FindsField ids n z (Some g)) (sym same) (subst (λ os. FindsField os n other_id (Some g)) (sym one) other)) (ordered f g)

-- and one field has one id
pub one_id : (ids others : Option (List ℤ)) (m n : ℕ) (id other_id : ℤ) (f g : ℕ) → ids ≡ others → f ≡ g → FindsField ids m id (Some f) → FindsField others n other_id (Some g) → id ≡ other_id
one_id ids others m n id other_id f g one same found other =
    sym found.1 ∙ ((λ j. id_at (one j) (same j)) ∙ other.1)

-- rows of unions are the same where ids and rows are
abbrev variant_in : Slot → Slot
variant_in (Variant id s) = s
variant_in s = s

abbrev id_in : Slot → ℤ
id_in (Variant id s) = id
id_in s = pos 0

pub variants_decide : (a b : ℤ) (x y s t : Slot) (r : Bool) → s ≡ Variant a x → t ≡ Variant b y → a ≡ b → Decides r (x ≡ y) → Decides r (s ≡ t)
variants_decide a b x y s t r here there ids told = (
  λ e. here ∙ ((λ j. Variant (ids j) (told.0 e j)) ∙ sym there),
  λ same. told.1 (ap variant_in (sym here ∙ (same ∙ there))),
)

pub same_ids : (a b : ℤ) (x y s t : Slot) → s ≡ Variant a x → t ≡ Variant b y → s ≡ t → a ≡ b
same_ids a b x y s t here there same = ap id_in (sym here ∙ (same ∙ there))

-- spans of other lengths are not the same
part_lengths : (xs ys : List Slot) (start len other_start other_len : ℕ) → start + len ≤ length xs → other_start + other_len ≤ length ys → sliced xs start len ≡ sliced ys other_start other_len → len ≡ other_len
part_lengths xs ys start len other_start other_len here there same =
    sym (length-sliced xs start len here) ∙ (ap length same ∙ length-sliced ys other_start other_len there)

pub span_lengths : (xs ys : List Slot) (a b : Option (ℕ × ℕ)) (start len other_start other_len : ℕ) → a ≡ Some (start, len) → b ≡ Some (other_start, other_len) → IfSome a (λ s. s.0 + s.1 ≤ length xs) → IfSome b (λ s. s.0 + s.1 ≤ length ys) → AreSameSpans xs a ys b → len ≡ other_len
span_lengths xs ys None b start len other_start other_len left right here there same = absurd (cc left)
span_lengths xs ys (Some p) None start len other_start other_len left right here there same = absurd (cc right)
span_lengths xs ys (Some p) (Some q) start len other_start other_len left right here there same =
    let a : p.1 ≡ len = cc left in
    let b : q.1 ≡ other_len = cc right in
    sym a ∙ (part_lengths xs ys p.0 p.1 q.0 q.1 here there same ∙ b)

-- rows of the null type
pub null_range : (x : AnyArray) (p : NullParts) (start len : ℕ) → x ≡ Nulls p → start + len ≤ length (any_array_rows x) → sliced (any_array_rows x) start len ≡ replicate len Null
null_range x p start len is within =
    let count : start + len ≤ p.count = omega (arith, subst (λ a. start + len ≤ length (any_array_rows a)) is within, length-replicate p.count Null) in
    rw is (nulls-sliced p.count start len count)

-- the rows of a field that is read
pub rows_read : (children : List Layout) (xs : List AnyArray) (f g : ℕ) (x : AnyArray) → map layout_of xs ≡ children → f ≡ g → f < length children → x ≡ get_or xs g x → rows_of_field children f ≡ any_array_rows x
rows_read children xs f g x seen same within read =
    let there : g < length xs = omega (arith, within, same, ap length seen, length-map xs layout_of) in
    ap (λ cs. rows_of_field cs f) (sym seen) ∙ (ap (rows_of_field (map layout_of xs)) same ∙ field_rows xs g x there read)
