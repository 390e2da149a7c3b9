-- Unions: their rows, which field each lies in, and what a slice keeps.
use Rattle.std.proofs.Common.{◌≡◌, ℕ, zero, suc, ◌+◌, ◌^◌, ◌<◌, ◌≤◌, ◌≤ℤ◌, ◌<ℤ◌, ◌↔◌, IsTrue, ℤ, pos, negsuc, Bool, true, false, Option, Some, None, List, [], ◌∷◌, length, map, take, get_or, refl, ap, sym, subst, ◌∙◌, arith, w8, w32, of_z, to_z}
use mir.Val.{SFits}
use Rattle.std.specs.Prelude.{count_by, if◌then◌else◌, option_map, slice_get, slice_index_or}
use Rattle.std.specs.Ordering.{int_eq}
use Rattle.std.specs.List.{All, range_with_len, zip}
use Rattle.std.proofs.lemmas.Bool.Decides.{Decides-int_eq}
use Rattle.std.proofs.lemmas.Int.{ints, to_z-of_z}
use Rattle.std.proofs.lemmas.List.{length-map, get_or-map, take_all}
use Rattle.std.proofs.lemmas.List.Elements.{All-map, All-take, All-drop, All-more, All-head, All-tail, All-from_get_or}
use Rattle.std.proofs.lemmas.List.FromFn.{length-range_with_len, get_or-range_with_len}
use Rattle.std.proofs.lemmas.Option.{get_or_from_slice_get, slice_get-get_or}
use Rattle.std.proofs.lemmas.Slice.Zip.{length-zip, get_or-zip}
use Rattle.arrow_types.specs.ArrowType.{ArrowType, plain, null}
use Rattle.arrow_types.specs.declared.datatypes.UnionMode.{UnionMode}
use Rattle.arrow_types.specs.declared.datatypes.UnionMode.TheVariants.{Dense, Sparse}
use Rattle.arrow_types.specs.Relation.{is_null}
use Rattle.arrow_types.specs.Slot.{Slot, Null, Variant, id_at}
use Rattle.arrow_memory.specs.Sliced.{sliced}
use Rattle.arrow_memory.proofs.OffsetLemmas.{map_sliced}
use Rattle.arrow_memory.proofs.SlicedLemmas.{length-sliced}
use Rattle.arrow_flat.specs.Parts.{IsValue}
use Rattle.arrow_flat.proofs.PartsLemmas.{null_count-masked}
use Rattle.arrow_arrays.specs.Any.{layout_of, any_array_type, any_array_rows}
use Rattle.arrow_arrays.specs.declared.array.any.AnyArray.{AnyArray}
use Rattle.arrow_arrays.specs.Layout.{Layout, flat, rows, type_of_layout, field_ids, column_of_id, variant_at, union_items}
use Rattle.arrow_arrays.specs.TypeParts.{field_types, mode_in}
use Rattle.arrow_arrays.specs.StructParts.{HaveRows}
use Rattle.arrow_arrays.specs.UnionParts.{HoldsUnion, FitsMode, FitsOffsets, UnionParts, IsUnion, IsKnown, IsInside, ArePlaced, SpansRows, FindsField, child_row_of, child_rows_of, child_rows_by, mode_by, rows_of_field, rows_of_id, row_in, start_of_part, union_layout_by, union_rows, union_slice}
use Rattle.arrow_arrays.proofs.StructLemmas.{columns_of-to_layouts}
use Rattle.arrow_arrays.proofs.TypeLemmas.{union_has_field}
use Rattle.arrow_arrays.proofs.PartLemmas.{zip-sliced, range-sliced, union_items-sliced}

-- the rows, by type ids and child_rows
rows_by_child_rows : (t : ArrowType) (types : List ℤ) (child_rows : Option (List ℕ)) (start : ℕ) (children : List Layout) → rows (union_layout_by t types child_rows start children) ≡ union_items (field_ids t) (map rows children) types (child_rows_by child_rows start (length types))
rows_by_child_rows t types None start children =
    ap (λ cs. union_items (field_ids t) cs types (range_with_len start (length types))) (columns_of-to_layouts children)
rows_by_child_rows t types (Some child_rows) start children =
    ap (λ cs. union_items (field_ids t) cs types child_rows) (columns_of-to_layouts children)

union_rows_are : (p : UnionParts) → union_rows p ≡ union_items (field_ids p.arrow_type) (map rows p.children) p.types (child_rows_by p.child_rows p.start (length p.types))
union_rows_are p = rows_by_child_rows p.arrow_type p.types p.child_rows p.start p.children

-- a child row for each row
length-child_rows : (child_rows : Option (List ℕ)) (start count : ℕ) (children : List Layout) → SpansRows child_rows start count children → length (child_rows_by child_rows start count) ≡ count
length-child_rows None start count children spans = length-range_with_len start count
length-child_rows (Some child_rows) start count children spans = spans.0

child_rows_fit : {offsets : Option (List ℤ)} (p : UnionParts) → IsUnion offsets p → length (child_rows_by p.child_rows p.start (length p.types)) ≡ length p.types
child_rows_fit p union = length-child_rows p.child_rows p.start (length p.types) p.children union.spans

-- as many rows as type ids
length-union_items : (ids : Option (List ℤ)) (columns : List (List Slot)) (types : List ℤ) (child_rows : List ℕ) → length child_rows ≡ length types → length (union_items ids columns types child_rows) ≡ length types
length-union_items ids columns types child_rows fit =
    length-map (zip types child_rows) (λ row. variant_at ids columns row.0 row.1) ∙ omega (arith, fit, length-zip types child_rows)

pub length-union_rows : {offsets : Option (List ℤ)} (p : UnionParts) → IsUnion offsets p → length (union_rows p) ≡ length p.types
length-union_rows p union =
    ap length (union_rows_are p) ∙ length-union_items _ _ p.types _ (child_rows_fit p union)

-- no row of a union is null
pub union_values : (p : UnionParts) → All IsValue (union_rows p)
union_values p =
    subst (All IsValue) (sym (union_rows_are p)) (All-map IsValue _ _ (λ k d within. refl))

pub null_count-union : (p : UnionParts) → count_by is_null (union_rows p) ≡ 0
null_count-union p = null_count-masked None (union_rows p) (union_values p) tt

pub not_told : (b : Bool) → (b ≡ true → ⊥) → b ≡ false
not_told true denied = absurd (denied refl)
not_told false denied = refl

-- the column of an id, by the first field that has it
pub column_at : (ids : Option (List ℤ)) (b : ℕ) (id : ℤ) (columns : List (List Slot)) (f g : ℕ) → g ≡ b + f → f < length columns → id_at ids g ≡ id → ((e : ℕ) → b ≤ e → e < g → id_at ids e ≡ id → ⊥) → column_of_id ids b id columns ≡ get_or columns f []
column_at ids b id [] f g at within has first = absurd (omega (arith, within))
column_at ids b id (c ∷ cs) zero g at within has first =
    let here : g ≡ b = omega (arith, at) in
    let told : int_eq (id_at ids b) id ≡ true = (Decides-int_eq (id_at ids b) id).1 (subst (λ e. id_at ids e ≡ id) here has) in
    rw told refl
column_at ids b id (c ∷ cs) (suc f) g at within has first =
    let other = first b (omega arith) (omega (arith, at)) in
    let told : int_eq (id_at ids b) id ≡ false = not_told (int_eq (id_at ids b) id) (λ e. other ((Decides-int_eq (id_at ids b) id).0 e)) in
    rw told (column_at ids (suc b) id cs f g (omega (arith, at)) (omega (arith, within)) has (λ e from below. first e (omega (arith, from)) below))

pub column_found : (ids : Option (List ℤ)) (id : ℤ) (children : List Layout) (f : ℕ) → FindsField ids (length children) id (Some f) → column_of_id ids 0 id (map rows children) ≡ rows_of_field children f
column_found ids id children f found =
    column_at ids 0 id (map rows children) f f (omega arith) (omega (arith, found.0, length-map children rows)) found.1 (λ e from below. found.2 e below)

-- one row: that of the field that is found
row_at : (ids : Option (List ℤ)) (columns : List (List Slot)) (types : List ℤ) (child_rows : List ℕ) (i : ℕ) → i < length types → i < length child_rows → get_or (union_items ids columns types child_rows) i Null ≡ variant_at ids columns (get_or types i (pos 0)) (get_or child_rows i 0)
row_at ids columns types child_rows i typed placed =
    let pair = get_or-zip types child_rows i (pos 0, 0) typed placed in
    get_or-map (λ row. variant_at ids columns row.0 row.1) (zip types child_rows) i (pos 0, 0) Null (omega (arith, typed, placed, length-zip types child_rows)) ∙ ap (λ row. variant_at ids columns row.0 row.1) pair

pub row_is : {offsets : Option (List ℤ)} (p : UnionParts) (i f child_row : ℕ) → IsUnion offsets p → i < length p.types → FindsField (field_ids p.arrow_type) (length p.children) (slice_index_or p.types i (pos 0)) (Some f) → slice_get (child_rows_by p.child_rows p.start (length p.types)) i ≡ Some child_row → get_or (union_rows p) i Null ≡ Variant (slice_index_or p.types i (pos 0)) (row_in p.children f child_row)
row_is p i f child_row union within found read =
    let id = slice_index_or p.types i (pos 0) in
    let column = column_found (field_ids p.arrow_type) id p.children f found in
    let at = get_or_from_slice_get (child_rows_by p.child_rows p.start (length p.types)) i child_row 0 read in
    ap (λ xs. get_or xs i Null) (union_rows_are p) ∙ (row_at (field_ids p.arrow_type) (map rows p.children) p.types _ i within (omega (arith, within, child_rows_fit p union)) ∙ (λ j. Variant id (get_or (column j) (at j) Null)))

-- which lies inside its child
pub row_within : {offsets : Option (List ℤ)} (p : UnionParts) (i f child_row : ℕ) → IsUnion offsets p → i < length p.types → FindsField (field_ids p.arrow_type) (length p.children) (slice_index_or p.types i (pos 0)) (Some f) → slice_get (child_rows_by p.child_rows p.start (length p.types)) i ≡ Some child_row → child_row < length (rows_of_field p.children f)
row_within p i f child_row union within found read =
    let ids = field_ids p.arrow_type in
    let child_rows = child_rows_by p.child_rows p.start (length p.types) in
    let fit = child_rows_fit p union in
    let placed : i < length child_rows = omega (arith, within, fit) in
    let column = column_found ids (slice_index_or p.types i (pos 0)) p.children f found in
    let at = get_or_from_slice_get child_rows i child_row 0 read in
    let inside = subst (λ row. row.1 < rows_of_id ids p.children row.0) (get_or-zip p.types child_rows i (pos 0, 0) within placed) (union.placed i (pos 0, 0) (omega (arith, within, placed, length-zip p.types child_rows))) in
    rw (← column, ← at) inside

-- a slice
child_rows_of_part : (child_rows : Option (List ℕ)) (start count offset len : ℕ) → offset + len ≤ count → child_rows_by (option_map (λ ns. sliced ns offset len) child_rows) (start_of_part child_rows start offset) len ≡ sliced (child_rows_by child_rows start count) offset len
child_rows_of_part None start count offset len within = sym (range-sliced start count offset len within)
child_rows_of_part (Some child_rows) start count offset len within = refl

part_within : {offsets : Option (List ℤ)} (p : UnionParts) (offset len : ℕ) → IsUnion offsets p → offset + len ≤ length (union_rows p) → offset + len ≤ length p.types
part_within p offset len union within = omega (arith, within, length-union_rows p union)

pub union_part_rows : {offsets : Option (List ℤ)} (p : UnionParts) (offset len : ℕ) → IsUnion offsets p → offset + len ≤ length (union_rows p) → union_rows (union_slice p offset len) ≡ sliced (union_rows p) offset len
union_part_rows p offset len union within =
    let among = part_within p offset len union within in
    let ids = field_ids p.arrow_type in
    let columns = map rows p.children in
    let count = length-sliced p.types offset len among in
    let child_rows = child_rows_of_part p.child_rows p.start (length p.types) offset len among in
    union_rows_are (union_slice p offset len) ∙ (ap (λ n. union_items ids columns (sliced p.types offset len) (child_rows_by (option_map (λ ns. sliced ns offset len) p.child_rows) (start_of_part p.child_rows p.start offset) n)) count ∙ (ap (union_items ids columns (sliced p.types offset len)) child_rows ∙ (union_items-sliced ids columns p.types _ offset len ∙ ap (λ xs. sliced xs offset len) (sym (union_rows_are p)))))

mode_of_part : (child_rows : Option (List ℕ)) (offset len : ℕ) → mode_by (option_map (λ ns. sliced ns offset len) child_rows) ≡ mode_by child_rows
mode_of_part None offset len = refl
mode_of_part (Some child_rows) offset len = refl

seen_of_part : (child_rows : Option (List ℕ)) (offset len : ℕ) → option_map (λ zs. sliced zs offset len) (option_map (map pos) child_rows) ≡ option_map (map pos) (option_map (λ ns. sliced ns offset len) child_rows)
seen_of_part None offset len = refl
seen_of_part (Some child_rows) offset len = ap Some (sym (map_sliced pos child_rows offset len))

spans_of_part : (child_rows : Option (List ℕ)) (start count offset len : ℕ) (children : List Layout) → SpansRows child_rows start count children → offset + len ≤ count → SpansRows (option_map (λ ns. sliced ns offset len) child_rows) (start_of_part child_rows start offset) len children
spans_of_part None start count offset len children spans within = λ k d inside. omega (arith, within, spans k d inside)
spans_of_part (Some child_rows) start count offset len children spans within = (length-sliced child_rows offset len (omega (arith, within, spans.0)), spans.1)

start_below : (child_rows : Option (List ℕ)) (start count offset len : ℕ) (n : ℕ) → start + count < n → offset + len ≤ count → start_of_part child_rows start offset + len < n
start_below None start count offset len n fits within = omega (arith, fits, within)
start_below (Some child_rows) start count offset len n fits within = omega (arith, fits, within)

-- and it is a union again
pub union_part_is : {offsets : Option (List ℤ)} (p : UnionParts) (offset len : ℕ) → IsUnion offsets p → offset + len ≤ length (union_rows p) → IsUnion (option_map (λ zs. sliced zs offset len) offsets) (union_slice p offset len)
union_part_is p offset len union within =
    let among = part_within p offset len union within in
    let count = length-sliced p.types offset len among in
    let child_rows = child_rows_of_part p.child_rows p.start (length p.types) offset len among in
    let pairs = zip-sliced p.types (child_rows_by p.child_rows p.start (length p.types)) offset len in
    let known = IsKnown (field_ids p.arrow_type) (length p.children) in
    let inside = λ (row : ℤ × ℕ). row.1 < rows_of_id (field_ids p.arrow_type) p.children row.0 in
    record {
      kind = union.kind;
      mode = union.mode ∙ sym (mode_of_part p.child_rows offset len);
      children = union.children;
      some = union.some;
      seen = ap (option_map (λ zs. sliced zs offset len)) union.seen ∙ seen_of_part p.child_rows offset len;
      spans = rw count (spans_of_part p.child_rows p.start (length p.types) offset len p.children union.spans among);
      known = All-take known len _ (All-drop known offset p.types union.known);
      fits = rw count (start_below p.child_rows p.start (length p.types) offset len (2 ^ 64) union.fits among);
      placed = rw (count, child_rows, pairs) (All-take inside len _ (All-drop inside offset _ union.placed));
    }

-- the parts of an array, by what it stores
abbrev pub stored : ArrowType → List ℤ → Option (List ℤ) → ℕ → List Layout → UnionParts
stored t types offsets start children =
    record { arrow_type = t; types = types; child_rows = child_rows_of offsets; start = start; children = children }

child_rows_of-sliced : (offsets : Option (List ℤ)) (offset len : ℕ) → child_rows_of (option_map (λ zs. sliced zs offset len) offsets) ≡ option_map (λ ns. sliced ns offset len) (child_rows_of offsets)
child_rows_of-sliced None offset len = refl
child_rows_of-sliced (Some zs) offset len = ap Some (map_sliced child_row_of zs offset len)

-- what is stored is a part of an array, has that part of its rows, and is an array
pub record KeepsPart (p : UnionParts) (offset len : ℕ) (offsets : Option (List ℤ)) (q : UnionParts) : Type 0 where
  pub part : q ≡ union_slice p offset len
  pub rows : union_rows q ≡ sliced (union_rows p) offset len
  pub union : IsUnion offsets q

pub types_within : {offsets : Option (List ℤ)} (p q : UnionParts) (offset len : ℕ) → IsUnion offsets p → p ≡ q → offset + len ≤ length (union_rows q) → offset + len ≤ length p.types
types_within p q offset len union seen within =
    part_within p offset len union (subst (λ r. offset + len ≤ length (union_rows r)) (sym seen) within)

keeps_part : (t : ArrowType) (types : List ℤ) (offsets : Option (List ℤ)) (start : ℕ) (children : List Layout) (p : UnionParts) (offset len : ℕ) → stored t types offsets start children ≡ p → IsUnion offsets (stored t types offsets start children) → offset + len ≤ length (union_rows p) → (new_types : List ℤ) (new_offsets : Option (List ℤ)) (new_start : ℕ) → new_types ≡ sliced types offset len → new_offsets ≡ option_map (λ zs. sliced zs offset len) offsets → new_start ≡ start_of_part (child_rows_of offsets) start offset → KeepsPart p offset len new_offsets (stored t new_types new_offsets new_start children)
keeps_part t types offsets start children p offset len seen union within new_types new_offsets new_start types_are offsets_are start_is =
    let union_p : IsUnion offsets p = subst (IsUnion offsets) seen union in
    let child_rows_are : child_rows_of new_offsets ≡ option_map (λ ns. sliced ns offset len) (child_rows_of offsets) = ap child_rows_of offsets_are ∙ child_rows_of-sliced offsets offset len in
    let same : stored t new_types new_offsets new_start children ≡ union_slice (stored t types offsets start children) offset len = λ j. record { arrow_type = t; types = types_are j; child_rows = child_rows_are j; start = start_is j; children = children } in
    let part = same ∙ ap (λ r. union_slice r offset len) seen in
    record {
      part = part;
      rows = ap union_rows part ∙ union_part_rows p offset len union_p within;
      union = subst (λ os. IsUnion os (stored t new_types new_offsets new_start children)) (sym offsets_are) (subst (IsUnion (option_map (λ zs. sliced zs offset len) offsets)) (sym part) (union_part_is p offset len union_p within));
    }

-- in a sparse union the rows begin later
pub keeps_part_sparse : (t : ArrowType) (types : List ℤ) (offsets : Option (List ℤ)) (start : ℕ) (children : List Layout) (p : UnionParts) (offset len : ℕ) → stored t types offsets start children ≡ p → IsUnion offsets (stored t types offsets start children) → offset + len ≤ length (union_rows p) → (new_types : List ℤ) → offsets ≡ None → new_types ≡ sliced types offset len → KeepsPart p offset len offsets (stored t new_types offsets (start + offset) children)
keeps_part_sparse t types offsets start children p offset len seen union within new_types none types_are =
    let cut = λ (os : Option (List ℤ)). option_map (λ zs. sliced zs offset len) os in
    let offsets_are : offsets ≡ cut offsets = none ∙ sym (ap cut none) in
    let start_is : start + offset ≡ start_of_part (child_rows_of offsets) start offset = sym (ap (λ os. start_of_part (child_rows_of os) start offset) none) in
    keeps_part t types offsets start children p offset len seen union within new_types offsets (start + offset) types_are offsets_are start_is

-- in a dense one the offsets do
pub keeps_part_dense : (t : ArrowType) (types : List ℤ) (offsets : Option (List ℤ)) (start : ℕ) (children : List Layout) (p : UnionParts) (offset len : ℕ) → stored t types offsets start children ≡ p → IsUnion offsets (stored t types offsets start children) → offset + len ≤ length (union_rows p) → (new_types zs new_zs : List ℤ) → offsets ≡ Some zs → new_types ≡ sliced types offset len → new_zs ≡ sliced zs offset len → KeepsPart p offset len (Some new_zs) (stored t new_types (Some new_zs) start children)
keeps_part_dense t types offsets start children p offset len seen union within new_types zs new_zs some types_are zs_are =
    let cut = λ (os : Option (List ℤ)). option_map (λ ns. sliced ns offset len) os in
    let offsets_are : Some new_zs ≡ cut offsets = ap Some zs_are ∙ sym (ap cut some) in
    let start_is : start ≡ start_of_part (child_rows_of offsets) start offset = sym (ap (λ os. start_of_part (child_rows_of os) start offset) some) in
    keeps_part t types offsets start children p offset len seen union within new_types (Some new_zs) start types_are offsets_are start_is

length-offsets : (offsets : Option (List ℤ)) (zs : List ℤ) (child_rows : Option (List ℕ)) (start count : ℕ) (children : List Layout) → offsets ≡ option_map (map pos) child_rows → SpansRows child_rows start count children → offsets ≡ Some zs → length zs ≡ count
length-offsets offsets zs None start count children seen spans some = cc
length-offsets offsets zs (Some child_rows) start count children seen spans some =
    let same : zs ≡ map pos child_rows = cc in
    ap length same ∙ (length-map child_rows pos ∙ spans.0)

-- as many offsets as rows
pub offsets_fit : {offsets : Option (List ℤ)} (p : UnionParts) (zs : List ℤ) → IsUnion offsets p → offsets ≡ Some zs → length zs ≡ length p.types
offsets_fit {offsets} p zs union some =
    length-offsets offsets zs p.child_rows p.start (length p.types) p.children union.seen union.spans some

-- a child for each field
count_fields : {offsets : Option (List ℤ)} (p : UnionParts) → IsUnion offsets p → length (field_types p.arrow_type) ≡ length p.children
count_fields p union = sym (ap length union.children) ∙ length-map p.children type_of_layout

-- the field of each row is found
pub finds_some : {offsets : Option (List ℤ)} (p : UnionParts) (i f : ℕ) (id : ℤ) → IsUnion offsets p → id ≡ slice_index_or p.types i (pos 0) → FindsField (field_ids p.arrow_type) (length (field_types p.arrow_type)) id (Some f) → FindsField (field_ids p.arrow_type) (length p.children) (slice_index_or p.types i (pos 0)) (Some f)
finds_some p i f id union is found = rw (← is, ← count_fields p union) found

pub finds_none : {offsets : Option (List ℤ)} (p : UnionParts) (i : ℕ) (id : ℤ) → IsUnion offsets p → i < length p.types → id ≡ slice_index_or p.types i (pos 0) → FindsField (field_ids p.arrow_type) (length (field_types p.arrow_type)) id None → ⊥
finds_none p i id union within is none =
    none (subst (λ z. IsKnown (field_ids p.arrow_type) (length (field_types p.arrow_type)) z) (sym is) (subst (λ n. IsKnown (field_ids p.arrow_type) n (slice_index_or p.types i (pos 0))) (sym (count_fields p union)) (union.known i (pos 0) within)))

-- the row of its child that each row is
pub child_row_sparse : (offsets : Option (List ℤ)) (start count i : ℕ) → offsets ≡ None → i < count → slice_get (child_rows_by (child_rows_of offsets) start count) i ≡ Some (start + i)
child_row_sparse offsets start count i none within =
    rw none (slice_get-get_or (range_with_len start count) i 0 (omega (arith, within, length-range_with_len start count)) ∙ ap Some (get_or-range_with_len start count i 0 within))

pub child_row_dense : (offsets : Option (List ℤ)) (zs : List ℤ) (start count i n : ℕ) → offsets ≡ Some zs → i < length zs → pos n ≡ get_or zs i (pos 0) → slice_get (child_rows_by (child_rows_of offsets) start count) i ≡ Some n
child_row_dense offsets zs start count i n some within is =
    rw some (slice_get-get_or (map child_row_of zs) i 0 (omega (arith, within, length-map zs child_row_of)) ∙ ap Some (get_or-map child_row_of zs i (pos 0) 0 within ∙ ap child_row_of (sym is)))

natural_offset : (offsets : Option (List ℤ)) (child_rows : Option (List ℕ)) (zs : List ℤ) (i : ℕ) → offsets ≡ option_map (map pos) child_rows → offsets ≡ Some zs → i < length zs → pos 0 ≤ℤ get_or zs i (pos 0)
natural_offset offsets None zs i seen some within = cc
natural_offset offsets (Some ns) zs i seen some within =
    let same : zs ≡ map pos ns = cc in
    let long : i < length ns = omega (arith, within, ap length same, length-map ns pos) in
    rw (same, get_or-map pos ns i 0 (pos 0) long) (omega (arith, ints))

-- no offset is negative
pub offset_natural : {offsets : Option (List ℤ)} (p : UnionParts) (zs : List ℤ) (i : ℕ) → IsUnion offsets p → offsets ≡ Some zs → i < length p.types → pos 0 ≤ℤ get_or zs i (pos 0)
offset_natural {offsets} p zs i union some within =
    natural_offset offsets p.child_rows zs i union.seen some (omega (arith, within, offsets_fit p zs union some))

-- the rows of a field, by its array
pub field_rows : (xs : List AnyArray) (f : ℕ) (x : AnyArray) → f < length xs → x ≡ get_or xs f x → rows_of_field (map layout_of xs) f ≡ any_array_rows x
field_rows xs f x within read =
    get_or-map rows (map layout_of xs) f (layout_of x) [] (omega (arith, within, length-map xs layout_of)) ∙ ap rows (get_or-map layout_of xs f x (layout_of x) within ∙ ap layout_of (sym read))

pub count_children : (xs : List AnyArray) (ts : List ArrowType) → map any_array_type xs ≡ ts → length ts ≡ length (map layout_of xs)
count_children xs ts types = sym (ap length types) ∙ (length-map xs any_array_type ∙ sym (length-map xs layout_of))

-- an offset inside the child of a field that is found
pub inside_where : (ids : Option (List ℤ)) (children : List Layout) (id offset : ℤ) (f n : ℕ) (r : Bool) → FindsField ids (length children) id (Some f) → n ≡ length (rows_of_field children f) → IsTrue r ↔ ((pos 0 ≤ℤ offset) × (offset <ℤ pos n)) → IsTrue r ↔ IsInside ids children id offset
inside_where ids children id (pos k) f n r found counted told =
    let column = ap length (column_found ids id children f found) in (
      λ h known. omega (arith, ints, (told.0 h).1, column, counted),
      λ inside.
          let below = inside (f, found.0, found.1) in
          told.1 (omega (arith, ints), omega (arith, ints, below, column, counted)),
    )
inside_where ids children id (negsuc k) f n r found counted told =
    (λ h known. absurd (omega (arith, ints, (told.0 h).0)), λ inside. absurd (inside (f, found.0, found.1)))

-- what a loop has found of all rows so far, and of one more
pub all_next : {A : Type 0} (P : A → Type 0) (xs : List A) (i : ℕ) (d : A) (x : A) → i < length xs → x ≡ get_or xs i d → P x → All P (take i xs) → All P (take (i + 1) xs)
all_next P xs i d x within is here so_far = All-more P xs i d within so_far (subst P is here)

pub all_at : {A : Type 0} (P : A → Type 0) (xs : List A) (i : ℕ) (d : A) (x : A) → i < length xs → x ≡ get_or xs i d → All P xs → P x
all_at P xs i d x within is all = subst P (sym is) (all i d within)

pub all_found : {A : Type 0} (P : A → Type 0) (xs : List A) (n : ℕ) → length xs ≤ n → All P (take n xs) → All P xs
all_found P xs n whole found = subst (All P) (take_all n xs whole) found

-- the column of a known id is that of a field
column_step : (told : Bool) (c rest : List Slot) (cs : List (List Slot)) → (h : ℕ) × (h < length cs) × (rest ≡ get_or cs h []) → (g : ℕ) × (g < suc (length cs)) × ((if told then c else rest) ≡ get_or (c ∷ cs) g [])
column_step true c rest cs found = (0, omega arith, refl)
column_step false c rest cs found = (suc found.0, omega (arith, found.1), found.2)

column_known : (ids : Option (List ℤ)) (b : ℕ) (id : ℤ) (columns : List (List Slot)) (f g : ℕ) → g ≡ b + f → f < length columns → id_at ids g ≡ id → (h : ℕ) × (h < length columns) × (column_of_id ids b id columns ≡ get_or columns h [])
column_known ids b id [] f g at within has = absurd (omega (arith, within))
column_known ids b id (c ∷ cs) zero g at within has =
    let here : g ≡ b = omega (arith, at) in
    let told : int_eq (id_at ids b) id ≡ true = (Decides-int_eq (id_at ids b) id).1 (subst (λ e. id_at ids e ≡ id) here has) in
    (0, omega arith, rw told refl)
column_known ids b id (c ∷ cs) (suc f) g at within has =
    column_step (int_eq (id_at ids b) id) c (column_of_id ids (suc b) id cs) cs (column_known ids (suc b) id cs f g (omega (arith, at)) (omega (arith, within)) has)

-- parts that a test finds to hold are those of an array
mode_fits : (mode : UnionMode) (types : List ℤ) (offsets : Option (List ℤ)) (children : List Layout) → FitsMode mode types offsets children → mode ≡ mode_by (child_rows_of offsets)
mode_fits Sparse types None children fits = refl
mode_fits Sparse types (Some zs) children fits = absurd fits
mode_fits Dense types None children fits = absurd fits
mode_fits Dense types (Some zs) children fits = refl

spans_fit : (mode : UnionMode) (types : List ℤ) (offsets : Option (List ℤ)) (children : List Layout) → FitsMode mode types offsets children → SpansRows (child_rows_of offsets) 0 (length types) children
spans_fit Sparse types None children fits = λ k d within. omega (arith, fits k d within)
spans_fit Sparse types (Some zs) children fits = absurd fits
spans_fit Dense types None children fits = absurd fits
spans_fit Dense types (Some zs) children fits = (length-map zs child_row_of ∙ fits, refl)

naturals : (ids : Option (List ℤ)) (children : List Layout) (types zs : List ℤ) → length zs ≡ length types → All (λ row. IsInside ids children row.0 row.1) (zip types zs) → All (IsKnown ids (length children)) types → zs ≡ map pos (map child_row_of zs)
naturals ids children types [] fits inside known = refl
naturals ids children [] (z ∷ zs) fits inside known = absurd (omega (arith, fits))
naturals ids children (id ∷ types) (pos n ∷ zs) fits inside known =
    ap (λ ys. pos n ∷ ys) (naturals ids children types zs (omega (arith, fits)) (All-tail (λ row. IsInside ids children row.0 row.1) (id, pos n) (zip types zs) inside) (All-tail (IsKnown ids (length children)) id types known))
naturals ids children (id ∷ types) (negsuc n ∷ zs) fits inside known =
    absurd (All-head (λ row. IsInside ids children row.0 row.1) (id, negsuc n) (zip types zs) inside (All-head (IsKnown ids (length children)) id types known))

seen_fits : (mode : UnionMode) (ids : Option (List ℤ)) (types : List ℤ) (offsets : Option (List ℤ)) (children : List Layout) → FitsMode mode types offsets children → FitsOffsets ids children types offsets → All (IsKnown ids (length children)) types → offsets ≡ option_map (map pos) (child_rows_of offsets)
seen_fits mode ids types None children fits inside known = refl
seen_fits Sparse ids types (Some zs) children fits inside known = absurd fits
seen_fits Dense ids types (Some zs) children fits inside known = ap Some (naturals ids children types zs fits inside known)

inside_child_row : (ids : Option (List ℤ)) (children : List Layout) (id z : ℤ) → IsKnown ids (length children) id → IsInside ids children id z → child_row_of z < rows_of_id ids children id
inside_child_row ids children id (pos n) known inside = inside known
inside_child_row ids children id (negsuc n) known inside = absurd (inside known)

-- the column of a known id is as long as all children
column_length : (ids : Option (List ℤ)) (children : List Layout) (id : ℤ) (n : ℕ) → HaveRows n children → IsKnown ids (length children) id → rows_of_id ids children id ≡ n
column_length ids children id n long known =
    let found = column_known ids 0 id (map rows children) known.0 known.0 (omega arith) (omega (arith, known.1, length-map children rows)) known.2 in
    let within : found.0 < length children = omega (arith, found.1, length-map children rows) in
    ap length found.2 ∙ (ap length (get_or-map rows children found.0 (flat (plain null) []) [] within) ∙ long found.0 (flat (plain null) []) within)

placed_fit : (mode : UnionMode) (ids : Option (List ℤ)) (types : List ℤ) (offsets : Option (List ℤ)) (children : List Layout) → FitsMode mode types offsets children → FitsOffsets ids children types offsets → All (IsKnown ids (length children)) types → ArePlaced ids children types (child_rows_by (child_rows_of offsets) 0 (length types))
placed_fit Sparse ids types None children fits inside known =
    let child_rows = range_with_len 0 (length types) in
    let pairs = length-zip types child_rows in
    All-from_get_or (λ row. row.1 < rows_of_id ids children row.0) (zip types child_rows) (pos 0, 0) (λ i within.
    let typed : i < length types = omega (arith, within, pairs) in
    let placed : i < length child_rows = omega (arith, typed, length-range_with_len 0 (length types)) in
    let long = column_length ids children (get_or types i (pos 0)) (length types) fits (known i (pos 0) typed) in
    let at = get_or-range_with_len 0 (length types) i 0 typed in
    rw (get_or-zip types child_rows i (pos 0, 0) typed placed) (omega (arith, long, at, typed)))
placed_fit Sparse ids types (Some zs) children fits inside known = absurd fits
placed_fit Dense ids types None children fits inside known = absurd fits
placed_fit Dense ids types (Some zs) children fits inside known =
    let child_rows = map child_row_of zs in
    let pairs = length-zip types child_rows in
    let stored_pairs = length-zip types zs in
    let longs = length-map zs child_row_of in
    All-from_get_or (λ row. row.1 < rows_of_id ids children row.0) (zip types child_rows) (pos 0, 0) (λ i within.
    let typed : i < length types = omega (arith, within, pairs) in
    let placed : i < length child_rows = omega (arith, typed, longs, fits) in
    let stored_at : i < length zs = omega (arith, typed, fits) in
    let here = subst (λ row. IsInside ids children row.0 row.1) (get_or-zip types zs i (pos 0, pos 0) typed stored_at) (inside i (pos 0, pos 0) (omega (arith, typed, stored_at, stored_pairs))) in
    rw (get_or-zip types child_rows i (pos 0, 0) typed placed, get_or-map child_row_of zs i (pos 0) 0 stored_at) (inside_child_row ids children (get_or types i (pos 0)) (get_or zs i (pos 0)) (known i (pos 0) typed) here))

pub holds_union : (t : ArrowType) (types : List ℤ) (offsets : Option (List ℤ)) (children : List Layout) → length types < 2 ^ 64 → HoldsUnion t types children offsets → IsUnion offsets (stored t types offsets 0 children)
holds_union t types offsets children below holds =
    record {
      kind = holds.0;
      mode = mode_fits (mode_in t) types offsets children holds.2;
      children = holds.1;
      some = omega (arith, union_has_field t holds.0, ap length holds.1, length-map children type_of_layout);
      seen = seen_fits (mode_in t) (field_ids t) types offsets children holds.2 holds.3 holds.4;
      spans = spans_fit (mode_in t) types offsets children holds.2;
      known = holds.4;
      fits = omega (arith, below);
      placed = placed_fit (mode_in t) (field_ids t) types offsets children holds.2 holds.3 holds.4;
    }

-- what is found, under equal names
pub same_finding : (ids : Option (List ℤ)) (count other_count : ℕ) (id other_id : ℤ) (position : Option ℕ) (f : ℕ) → id ≡ other_id → count ≡ other_count → position ≡ Some f → FindsField ids count id position → FindsField ids other_count other_id (Some f)
same_finding ids count other_count id other_id position f ids_are counts_are position_is found =
    rw (← ids_are, ← counts_are) (subst (FindsField ids count id) position_is found)

-- a type id and an offset that are read
pub pair_read : (types zs ids child_rows : List ℤ) (i : ℕ) → ids ≡ types → child_rows ≡ zs → length zs ≡ length types → i < length ids → SFits w8 (get_or ids i (pos 0)) → SFits w32 (get_or child_rows i (pos 0)) → (i < length (zip types zs)) × ((to_z w8 (of_z w8 (get_or ids i (pos 0))), to_z w32 (of_z w32 (get_or child_rows i (pos 0)))) ≡ get_or (zip types zs) i (pos 0, pos 0))
pair_read types zs ids child_rows i ids_are child_rows_are fit within id_fits child_row_fits =
    let typed : i < length types = subst (λ xs. i < length xs) ids_are within in
    let placed : i < length zs = omega (arith, typed, fit) in
    let id_is = to_z-of_z w8 (get_or ids i (pos 0)) id_fits ∙ ap (λ xs. get_or xs i (pos 0)) ids_are in
    let child_row_is = to_z-of_z w32 (get_or child_rows i (pos 0)) child_row_fits ∙ ap (λ xs. get_or xs i (pos 0)) child_rows_are in
    (omega (arith, typed, placed, length-zip types zs), (λ j. (id_is j, child_row_is j)) ∙ sym (get_or-zip types zs i (pos 0, pos 0) typed placed))

pub count_of_children : (xs : List AnyArray) (ts : List ArrowType) → map type_of_layout (map layout_of xs) ≡ ts → length ts ≡ length (map layout_of xs)
count_of_children xs ts types = sym (ap length types) ∙ length-map (map layout_of xs) type_of_layout

-- the children of parts that are seen so
pub union_children : (p q : UnionParts) → p ≡ q → p.children ≡ q.children
union_children p q seen = λ j. (seen j).children

-- children of unions of one type are of one type each
pub union_types : {offsets others : Option (List ℤ)} {p q : UnionParts} → IsUnion offsets p → IsUnion others q → p.arrow_type ≡ q.arrow_type → map type_of_layout p.children ≡ map type_of_layout q.children
union_types held other one = held.children ∙ (ap field_types one ∙ sym other.children)

-- parts that are each the same are those of an array too
pub same_parts : (t u : ArrowType) (types others : List ℤ) (offsets other_offsets : Option (List ℤ)) (start : ℕ) (children other_children : List Layout) → t ≡ u → types ≡ others → offsets ≡ other_offsets → children ≡ other_children → IsUnion other_offsets (stored u others other_offsets start other_children) → IsUnion offsets (stored t types offsets start children)
same_parts t u types others offsets other_offsets start children other_children type_is types_are offsets_are children_are union =
    rw (type_is, types_are, offsets_are, children_are) union
