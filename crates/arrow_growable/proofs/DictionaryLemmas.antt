-- Rows of dictionaries behind others: keys that grow by the values before their own name the same values.
use Rattle.arrow_growable.proofs.Common.{arith, Bor, ◌≡◌, ◌+◌, ◌-◌, ◌<◌, ◌≤◌, ◌^◌, ◌⊎◌, inl, inr, ℕ, zero, suc, pos, Bool, true, false, not, List, [], ◌∷◌, ◌++◌, Option, Some, None, length, map, take, drop, get_or, replicate, refl, ap, sym, subst, ◌∙◌, length-append, IfSome, option_copied, slice_get, eq-or-lt_of_le, lt_of_not-le, get_or-append_seam, take-suc, drop-replicate, get_or_append_left, get_or-append-add, get_or-drop, get_or-take, length-map, length-replicate, map-append, take-replicate, get_or_default_zero, All-append, All-drop, All-take, sum_by-append, sum_by-cons, IntegerType, ArrowType, plain, list, dictionary, extension, null, Fits, greatest_number, physical_type_of, is_null, mask, Slot, Null, Number, Dict, length-mask, sliced, map_sliced, length-sliced, IsValue, MarksNulls, bits_of_slice, CrowdedRow, child_of, greatest_key, values_before, AreKeys, IsKey, KeyedParts, key_in, keyed_layout, keyed_rows, keys_in, key_read, dictionary_shape, list_shaped, plain_shape, shape_in, Layout, flat, keyed_item, rows, type_of_layout, AreCrowded, source_at, KeyFits, SomePasses, grown_key, zero_key, appended_rows, source_is, AreUncrowded, HoldsKeys, IsGrownDictionary, dictionary_rows, joined_values, if◌then◌else◌, All, All-head, All-tail, All-cons}
use Rattle.arrow_types.specs.declared.datatypes.physical_type.PhysicalType.TheVariants as physical
use Rattle.arrow_flat_growable.specs.Keys.{PassesGreatest}

abbrev is_valid : Slot → Bool
is_valid s = not (is_null s)

-- one key

-- it names the same value, by as many as stand before
item_named : (values xs : List Slot) (by : ℕ) (s : Slot) → ((k : ℕ) → k < length xs → get_or values (k + by) Null ≡ get_or xs k Null) → IsKey (length xs) s → keyed_item values (key_in (if is_valid s then grown_key by s else Null)) ≡ keyed_item xs (key_in s)
item_named values xs by Null same key = refl
item_named values xs by (Number (pos n)) same key = ap Dict (same n key)
item_named values xs by s same key = absurd key

-- and is one of all
item_within : (count here by : ℕ) (s : Slot) → here + by ≤ count → IsKey here s → IsKey count (if is_valid s then grown_key by s else Null)
item_within count here by Null room key = tt
item_within count here by (Number (pos n)) room key = omega (arith, room, key)
item_within count here by s room key = absurd key

-- its row is null where it is
item_valid : (count : ℕ) (xs : List Slot) (s : Slot) → IsKey count s → is_valid (keyed_item xs (key_in s)) ≡ is_valid s
item_valid count xs Null key = refl
item_valid count xs (Number (pos n)) key = refl
item_valid count xs s key = absurd key

-- all keys

named : (values xs ks : List Slot) (by : ℕ) → ((k : ℕ) → k < length xs → get_or values (k + by) Null ≡ get_or xs k Null) → AreKeys (length xs) ks → dictionary_rows values (map is_valid ks) (map (grown_key by) ks) ≡ map (keyed_item xs) (keys_in ks)
named values xs [] by same held = refl
named values xs (s ∷ ks) by same held =
    let here = item_named values xs by s same (All-head (IsKey (length xs)) s ks held) in
    let rest = named values xs ks by same (All-tail (IsKey (length xs)) s ks held) in
    λ i. here i ∷ rest i

within : (count here by : ℕ) (ks : List Slot) → here + by ≤ count → AreKeys here ks → AreKeys count (mask (map is_valid ks) (map (grown_key by) ks))
within count here by [] room held = λ k d below. absurd (omega (arith, below))
within count here by (s ∷ ks) room held =
    All-cons (IsKey count) _ _ (item_within count here by s room (All-head (IsKey here) s ks held)) (within count here by ks room (All-tail (IsKey here) s ks held))

valid-keyed : (count : ℕ) (xs ks : List Slot) → AreKeys count ks → map is_valid (map (keyed_item xs) (keys_in ks)) ≡ map is_valid ks
valid-keyed count xs [] held = refl
valid-keyed count xs (s ∷ ks) held =
    let here = item_valid count xs s (All-head (IsKey count) s ks held) in
    let rest = valid-keyed count xs ks (All-tail (IsKey count) s ks held) in
    λ i. here i ∷ rest i

all_valid : (xs : List Slot) → All IsValue xs → map is_valid xs ≡ replicate (length xs) true
all_valid [] held = refl
all_valid (s ∷ xs) held =
    let rest = all_valid xs (All-tail IsValue s xs held) in
    λ i. not (All-head IsValue s xs held i) ∷ rest i

-- the bits of a slice, by its keys
pub bits_marked : (v : Option (List Bool)) (xs ks : List Slot) (start len : ℕ) → AreKeys (length xs) ks → MarksNulls v (map (keyed_item xs) (keys_in ks)) → start + len ≤ length ks → bits_of_slice v start len ≡ map is_valid (sliced ks start len)
bits_marked None xs ks start len held marks part =
    let items = map (keyed_item xs) (keys_in ks) in
    let long : length items ≡ length ks = length-map (keys_in ks) (keyed_item xs) ∙ length-map ks key_in in
    let all : map is_valid ks ≡ replicate (length ks) true = sym (valid-keyed (length xs) xs ks held) ∙ (all_valid items marks ∙ ap (λ n. replicate n true) long) in
    sym (map_sliced is_valid ks start len ∙ (ap (λ bits. sliced bits start len) all ∙ (ap (take len) (drop-replicate start (length ks) true) ∙ take-replicate len _ true (omega (arith, part)))))
bits_marked (Some bits) xs ks start len held marks part =
    ap (λ bs. sliced bs start len) (marks ∙ valid-keyed (length xs) xs ks held) ∙ sym (map_sliced is_valid ks start len)

-- where the values of an array stand among all

pub values_at : (layouts : List Layout) (i : ℕ) → i < length layouts → (k : ℕ) → k < length (rows (child_of (source_at layouts i))) → get_or (joined_values layouts) (k + values_before (take i layouts)) Null ≡ get_or (rows (child_of (source_at layouts i))) k Null
values_at [] i bound k inside = absurd (omega (arith, bound))
values_at (l ∷ layouts) zero bound k inside =
    let at : k + 0 ≡ k = omega arith in
    ap (λ n. get_or (joined_values (l ∷ layouts)) n Null) at ∙ get_or_append_left (rows (child_of l)) (joined_values layouts) Null k inside
values_at (l ∷ layouts) (suc i) bound k inside =
    let xs = rows (child_of l) in
    let before : values_before (l ∷ take i layouts) ≡ length xs + values_before (take i layouts) = sum_by-cons (λ m. length (rows (child_of m))) l (take i layouts) in
    let at : k + values_before (l ∷ take i layouts) ≡ length xs + (k + values_before (take i layouts)) = omega (arith, before) in
    ap (λ n. get_or (joined_values (l ∷ layouts)) n Null) at ∙ (get_or-append-add xs (joined_values layouts) (k + values_before (take i layouts)) Null ∙ values_at layouts i (omega (arith, bound)) k inside)

pub values_room : (layouts : List Layout) (i : ℕ) → i < length layouts → length (rows (child_of (source_at layouts i))) + values_before (take i layouts) ≤ length (joined_values layouts)
values_room [] i bound = absurd (omega (arith, bound))
values_room (l ∷ layouts) zero bound =
    omega (arith, length-append (rows (child_of l)) (joined_values layouts))
values_room (l ∷ layouts) (suc i) bound =
    let xs = rows (child_of l) in
    let before : values_before (l ∷ take i layouts) ≡ length xs + values_before (take i layouts) = sum_by-cons (λ m. length (rows (child_of m))) l (take i layouts) in
    omega (arith, before, values_room layouts i (omega (arith, bound)), length-append xs (joined_values layouts))

-- rows behind others

-- keys that grew, behind those so far
pub record Behind (values xs : List Slot) (bits : List Bool) (slots ks : List Slot) (by start len : ℕ) : Type 0 where
  pub same : length bits ≡ length slots
  pub at : (k : ℕ) → k < length xs → get_or values (k + by) Null ≡ get_or xs k Null
  pub room : length xs + by ≤ length values
  pub keys : AreKeys (length xs) ks
  pub part : start + len ≤ length ks

module _ (values xs : List Slot) (bits : List Bool) (slots ks : List Slot) (by start len : ℕ) (b : Behind values xs bits slots ks by start len) where
  abbrev more : List Slot
  more = sliced ks start len

  more_keys : AreKeys (length xs) more
  more_keys = All-take (IsKey (length xs)) len _ (All-drop (IsKey (length xs)) start ks b.keys)

  pub rows_behind : dictionary_rows values (bits ++ map is_valid more) (slots ++ map (grown_key by) more) ≡ dictionary_rows values bits slots ++ sliced (map (keyed_item xs) (keys_in ks)) start len
  rows_behind =
      let split = appended_rows bits (map is_valid more) slots (map (grown_key by) more) _ b.same refl in
      let both = map-append key_in (mask bits slots) (mask (map is_valid more) (map (grown_key by) more)) in
      let all = map-append (keyed_item values) (keys_in (mask bits slots)) (keys_in (mask (map is_valid more) (map (grown_key by) more))) in
      ap (λ ys. map (keyed_item values) (keys_in ys)) split ∙ (ap (map (keyed_item values)) both ∙ (all ∙ ap (λ ys. dictionary_rows values bits slots ++ ys) (named values xs more by b.at more_keys ∙ (ap (map (keyed_item xs)) (map_sliced key_in ks start len) ∙ map_sliced (keyed_item xs) (keys_in ks) start len))))

  pub keys_behind : AreKeys (length values) (mask bits slots) → AreKeys (length values) (mask (bits ++ map is_valid more) (slots ++ map (grown_key by) more))
  keys_behind held =
      let split = appended_rows bits (map is_valid more) slots (map (grown_key by) more) _ b.same refl in
      subst (AreKeys (length values)) (sym split) (All-append (IsKey (length values)) _ _ held (within (length values) (length xs) by more b.room more_keys))

-- the rows of a bound array behind those so far

-- the array at an index, and where its values begin among all
pub record Names (layouts : List Layout) (values : List Slot) (index by : ℕ) (p : KeyedParts) (ks : List Slot) : Type 0 where
  pub joined : values ≡ joined_values layouts
  pub bound : index < length layouts
  pub source : source_at layouts index ≡ keyed_layout p
  pub begins : by ≡ values_before (take index layouts)
  pub keys : AreKeys (length (rows p.child)) ks
  pub seen : keys_in ks ≡ p.keys

module _ (layouts : List Layout) (values : List Slot) (index by : ℕ) (p : KeyedParts) (ks : List Slot) (names : Names layouts values index by p ks) where
  same_child : rows (child_of (source_at layouts index)) ≡ rows p.child
  same_child = ap (λ l. rows (child_of l)) names.source

  at_value : (k : ℕ) → k < length (rows p.child) → get_or values (k + by) Null ≡ get_or (rows p.child) k Null
  at_value k inside =
      let here = values_at layouts index names.bound k (omega (arith, inside, ap length same_child)) in
      (λ i. get_or (names.joined i) (k + names.begins i) Null) ∙ (here ∙ ap (λ xs. get_or xs k Null) same_child)

  room_for : length (rows p.child) + by ≤ length values
  room_for =
      omega (arith, values_room layouts index names.bound, ap length same_child, ap length names.joined, names.begins)

  named_row : rows (source_at layouts index) ≡ map (keyed_item (rows p.child)) (keys_in ks)
  named_row = ap rows names.source ∙ ap (map (keyed_item (rows p.child))) (sym names.seen)

  pub rows_long : length (rows (source_at layouts index)) ≡ length ks
  rows_long = ap length named_row ∙ (length-map (keys_in ks) (keyed_item (rows p.child)) ∙ length-map ks key_in)

  module _ (v : Option (List Bool)) (bits : List Bool) (slots : List Slot) (start len : ℕ) (same : length bits ≡ length slots) (marks : MarksNulls v (keyed_rows p)) (part : start + len ≤ length (rows (source_at layouts index))) where
    behind : Behind values (rows p.child) bits slots ks by start len
    behind =
        record { same = same; at = at_value; room = room_for; keys = names.keys; part = omega (arith, part, rows_long) }

    marked : bits_of_slice v start len ≡ map is_valid (sliced ks start len)
    marked =
        bits_marked v (rows p.child) ks start len names.keys (subst (λ keys. MarksNulls v (map (keyed_item (rows p.child)) keys)) (sym names.seen) marks) (omega (arith, part, rows_long))

    pub rows_named : dictionary_rows values (bits ++ bits_of_slice v start len) (slots ++ map (grown_key by) (sliced ks start len)) ≡ dictionary_rows values bits slots ++ sliced (rows (source_at layouts index)) start len
    rows_named =
        ap (λ more. dictionary_rows values (bits ++ more) (slots ++ map (grown_key by) (sliced ks start len))) marked ∙ (rows_behind values (rows p.child) bits slots ks by start len behind ∙ ap (λ xs. dictionary_rows values bits slots ++ sliced xs start len) (sym named_row))

    pub holds_named : (old new : ℕ) → new ≡ old + len → HoldsKeys bits slots old (length values) → HoldsKeys (bits ++ bits_of_slice v start len) (slots ++ map (grown_key by) (sliced ks start len)) new (length values)
    holds_named old new more held =
        let many : length (sliced ks start len) ≡ len = length-sliced ks start len (omega (arith, part, rows_long)) in
        let bits_many : length (bits_of_slice v start len) ≡ len = ap length marked ∙ (length-map (sliced ks start len) is_valid ∙ many) in
        let slots_many : length (map (grown_key by) (sliced ks start len)) ≡ len = length-map (sliced ks start len) (grown_key by) ∙ many in
        record {
          covered = omega (arith, length-append bits (bits_of_slice v start len), bits_many, held.covered, more);
          counted = omega (arith, length-append slots (map (grown_key by) (sliced ks start len)), slots_many, held.counted, more);
          within = subst (λ more_bits. AreKeys (length values) (mask (bits ++ more_bits) (slots ++ map (grown_key by) (sliced ks start len)))) (sym marked) (keys_behind values (rows p.child) bits slots ks by start len behind held.within);
        }

-- keys that do not fit are crowded

some_same : {A : Type 0} {x y : A} → Some x ≡ Some y → x ≡ y
some_same same = cc

passing_key : (greatest by : ℕ) (s : Slot) → PassesGreatest greatest by s → (k : ℕ) × (key_in s ≡ Some k) × (0 < by) × (greatest < k + by)
passing_key greatest by (Number (pos k)) passes = (k, refl, passes.0, passes.1)
passing_key greatest by _ passes = absurd passes

fitting_key : (greatest by k : ℕ) (s : Slot) → KeyFits greatest by s → key_in s ≡ Some k → k + by ≤ greatest
fitting_key greatest by k (Number (pos n)) fits is =
    let same : n ≡ k = cc in
    omega (arith, fits, same)
fitting_key greatest by k _ fits is = absurd (cc)

key_at : (ks : List Slot) (j : ℕ) → j < length ks → slice_get (keys_in ks) j ≡ Some (key_in (get_or ks j Null))
key_at ks j within = key_read ks j (key_in (get_or ks j Null)) within refl

-- the greatest key of a dictionary's type
pub greatest_of : (t : ArrowType) (key_type : IntegerType) → physical_type_of t ≡ physical.Dictionary key_type → greatest_key t ≡ greatest_number key_type
greatest_of (plain p) key_type kind = cc (plain_shape p)
greatest_of (list form f) key_type kind = cc (list_shaped form)
greatest_of (dictionary keys ordered t) key_type kind = ap greatest_number (cc)
greatest_of (extension name metadata t) key_type kind = greatest_of t key_type kind
greatest_of t key_type kind = cc

module _ (layouts : List Layout) (values : List Slot) (index by : ℕ) (p : KeyedParts) (ks : List Slot) (names : Names layouts values index by p ks) (greatest : ℕ) (is : greatest_key p.arrow_type ≡ greatest) where
  behind_first : 0 < by → 0 < index
  behind_first grew =
      lt_of_not-le (λ (first : index ≤ 0). (let none : index ≡ 0 = omega (arith, first) in absurd (omega (arith, grew, names.begins, ap (λ i. values_before (take i layouts)) none))))

  pub passes_crowded : (start len : ℕ) → start + len ≤ length ks → SomePasses greatest by ks start len → AreCrowded (Some layouts) index start len
  passes_crowded start len part some =
      let j = some.0 in
      let key = passing_key greatest by (get_or ks j Null) some.3 in
      let within : j < length ks = omega (arith, some.2, part) in
      let read : slice_get p.keys j ≡ Some (Some key.0) = ap (λ keys. slice_get keys j) (sym names.seen) ∙ (key_at ks j within ∙ ap Some key.1) in
      let row : CrowdedRow (take index layouts) (keyed_layout p) j = (key.0, read, omega (arith, key.3, is, names.begins)) in
      (behind_first key.2, (j, some.1, some.2, subst (λ l. CrowdedRow (take index layouts) l j) (sym names.source) row))

  pub fits_uncrowded : (start len : ℕ) → start + len ≤ length ks → All (KeyFits greatest by) (sliced ks start len) → AreUncrowded (Some layouts) index start len
  fits_uncrowded start len part fits j from before crowded =
      let row : CrowdedRow (take index layouts) (keyed_layout p) j = subst (λ l. CrowdedRow (take index layouts) l j) names.source crowded in
      let k = row.0 in
      let within : j < length ks = omega (arith, before, part) in
      let key : key_in (get_or ks j Null) ≡ Some k = some_same (sym (key_at ks j within) ∙ (ap (λ keys. slice_get keys j) names.seen ∙ row.1)) in
      let place : get_or (sliced ks start len) (j - start) Null ≡ get_or ks j Null = get_or-take len (drop start ks) (j - start) Null (omega (arith, from, before)) ∙ (get_or-drop start ks (j - start) Null ∙ ap (λ i. get_or ks i Null) (omega (arith, from))) in
      let many : length (sliced ks start len) ≡ len = length-sliced ks start len part in
      let small = fitting_key greatest by k (get_or ks j Null) (subst (KeyFits greatest by) place (fits (j - start) Null (omega (arith, from, before, many)))) key in
      absurd (omega (arith, small, row.2, is, names.begins))

-- what a bound array is, by the parts of a growable

same_key_type : (a b : IntegerType) → physical.Dictionary a ≡ physical.Dictionary b → a ≡ b
same_key_type a b same = cc

-- a validity that marks the nulls of rows covers them
pub marks_cover : (r : Option (Bor (List Bool))) (xs : List Slot) (k : ℕ) → MarksNulls (option_copied r) xs → k ≤ length xs → IfSome r (λ bits. k ≤ length bits.now)
marks_cover None xs k marks within = tt
marks_cover (Some bits) xs k marks within =
    omega (arith, within, ap length marks, length-map xs is_valid)

module _ {A : Type 0} (f : A → KeyedParts) (arrays : List A) (x : A) (key_type : IntegerType) (starts : List ℕ) (values : Layout) (bits : List Bool) (slots : List Slot) (len : ℕ) (t : ArrowType) (failed : Bool) (index : ℕ) (held : IsGrownDictionary key_type starts values bits slots len (map (λ a. keyed_layout (f a)) arrays) t failed) (bound : index < length (map (λ a. keyed_layout (f a)) arrays)) (is : x ≡ get_or arrays index x) where
  pub in_arrays : index < length arrays
  in_arrays = omega (arith, bound, length-map arrays (λ a. keyed_layout (f a)))

  pub source : source_at (map (λ a. keyed_layout (f a)) arrays) index ≡ keyed_layout (f x)
  source = source_is (λ a. keyed_layout (f a)) arrays index x in_arrays is

  pub type_named : (f x).arrow_type ≡ t
  type_named =
      subst (λ l. type_of_layout l ≡ t) source (held.one_type index (flat (plain null) []) bound)

  pub same_keys : (named : IntegerType) → physical_type_of (f x).arrow_type ≡ physical.Dictionary named → key_type ≡ named
  same_keys named width =
      same_key_type key_type named (sym held.kind.1 ∙ (ap physical_type_of (sym type_named) ∙ width))

  pub greatest_named : greatest_key (f x).arrow_type ≡ greatest_number key_type
  greatest_named =
      greatest_of (f x).arrow_type key_type (ap physical_type_of type_named ∙ held.kind.1)

  pub names_from : (by : ℕ) (ks : List Slot) → by ≡ get_or starts index by → AreKeys (length (rows (f x).child)) ks → keys_in ks ≡ (f x).keys → Names (map (λ a. keyed_layout (f a)) arrays) (rows values) index by (f x) ks
  names_from by ks read keys seen =
      record { joined = held.joined; bound = bound; source = source; begins = read ∙ (get_or_default_zero starts index by (omega (arith, bound, held.begun.count)) ∙ held.begun.each index bound); keys = keys; seen = seen }

-- the count of the rows

pub rows_counted : (values : List Slot) (bits : List Bool) (slots : List Slot) (len count : ℕ) → HoldsKeys bits slots len count → len ≡ length (dictionary_rows values bits slots)
rows_counted values bits slots len count held =
    sym (length-map (keys_in (mask bits slots)) (keyed_item values) ∙ (length-map (mask bits slots) key_in ∙ (length-mask bits slots (held.covered ∙ sym held.counted) ∙ held.counted)))

-- rows that can be counted fit
pub counted_fit : (t : ArrowType) (xs : List Slot) → shape_in t ≡ dictionary_shape → length xs < 2 ^ 64 → Fits t xs
counted_fit (plain p) xs shape small = cc (plain_shape p)
counted_fit (list form f) xs shape small = cc (list_shaped form)
counted_fit (dictionary keys ordered t) xs shape small = small
counted_fit (extension name metadata t) xs shape small = counted_fit t xs shape small
counted_fit t xs shape _ = cc

-- null rows behind others

nulls_named : (values : List Slot) (n : ℕ) → dictionary_rows values (replicate n false) (replicate n zero_key) ≡ replicate n Null
nulls_named values zero = refl
nulls_named values (suc n) = λ i. Null ∷ nulls_named values n i

no_keys : (count n : ℕ) → AreKeys count (mask (replicate n false) (replicate n zero_key))
no_keys count zero = λ k d inside. absurd (omega (arith, inside))
no_keys count (suc n) = All-cons (IsKey count) Null _ tt (no_keys count n)

pub nulls_behind : (values : List Slot) (bits : List Bool) (slots : List Slot) (n : ℕ) → length bits ≡ length slots → dictionary_rows values (bits ++ replicate n false) (slots ++ replicate n zero_key) ≡ dictionary_rows values bits slots ++ replicate n Null
nulls_behind values bits slots n same =
    let split = appended_rows bits (replicate n false) slots (replicate n zero_key) _ same refl in
    let both = map-append key_in (mask bits slots) (mask (replicate n false) (replicate n zero_key)) in
    let all = map-append (keyed_item values) (keys_in (mask bits slots)) (keys_in (mask (replicate n false) (replicate n zero_key))) in
    ap (λ ys. map (keyed_item values) (keys_in ys)) split ∙ (ap (map (keyed_item values)) both ∙ (all ∙ ap (λ ys. dictionary_rows values bits slots ++ ys) (nulls_named values n)))

pub holds_nulls : (bits : List Bool) (slots : List Slot) (old new n count : ℕ) → new ≡ old + n → HoldsKeys bits slots old count → HoldsKeys (bits ++ replicate n false) (slots ++ replicate n zero_key) new count
holds_nulls bits slots old new n count more held =
    let split = appended_rows bits (replicate n false) slots (replicate n zero_key) _ (held.covered ∙ sym held.counted) refl in
    record {
      covered = omega (arith, length-append bits (replicate n false), length-replicate n false, held.covered, more);
      counted = omega (arith, length-append slots (replicate n zero_key), length-replicate n zero_key, held.counted, more);
      within = subst (AreKeys count) (sym split) (All-append (IsKey count) _ _ held.within (no_keys count n));
    }

-- where the values of one more array begin

before_next : (layouts : List Layout) (i : ℕ) → i < length layouts → values_before (take (suc i) layouts) ≡ values_before (take i layouts) + length (rows (child_of (source_at layouts i)))
before_next layouts i within =
    let l = source_at layouts i in
    let count = λ (m : Layout). length (rows (child_of m)) in
    ap values_before (take-suc layouts i (flat (plain null) []) within) ∙ (sum_by-append count (take i layouts) (l ∷ []) ∙ ap (λ n. values_before (take i layouts) + n) (sum_by-cons count l [] ∙ omega arith))

start_at : (layouts : List Layout) (starts : List ℕ) (start i j : ℕ) → length starts ≡ i → ((k : ℕ) → k < i → get_or starts k 0 ≡ values_before (take k layouts)) → start ≡ values_before (take i layouts) → (j ≡ i) ⊎ (j < i) → get_or (starts ++ start ∷ []) j 0 ≡ values_before (take j layouts)
start_at layouts starts start i j long begun at (inl same) =
    ap (λ k. get_or (starts ++ start ∷ []) k 0) (same ∙ sym long) ∙ (get_or-append_seam starts start [] 0 ∙ (at ∙ ap (λ k. values_before (take k layouts)) (sym same)))
start_at layouts starts start i j long begun at (inr less) =
    get_or_append_left starts (start ∷ []) 0 j (omega (arith, less, long)) ∙ begun j less

pub starts_more : (layouts : List Layout) (starts : List ℕ) (start next i n : ℕ) → i < length layouts → n ≡ length (rows (child_of (source_at layouts i))) → next ≡ start + n → (length starts ≡ i) × ((j : ℕ) → j < i → get_or starts j 0 ≡ values_before (take j layouts)) × (start ≡ values_before (take i layouts)) → (length (starts ++ start ∷ []) ≡ i + 1) × ((j : ℕ) → j < i + 1 → get_or (starts ++ start ∷ []) j 0 ≡ values_before (take j layouts)) × (next ≡ values_before (take (i + 1) layouts))
starts_more layouts starts start next i n within many more held =
    let one : suc i ≡ i + 1 = omega arith in
    (omega (arith, length-append starts (start ∷ []), held.0), λ j less. start_at layouts starts start i j held.0 held.1 held.2 (eq-or-lt_of_le (omega (arith, less))), omega (arith, more, held.2, many, before_next layouts i within, ap (λ k. values_before (take k layouts)) one))
