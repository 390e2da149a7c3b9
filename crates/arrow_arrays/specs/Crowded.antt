-- Rows whose keys leave no room where dictionaries are joined: a key grows by the values of the dictionaries before its own ("Dictionary-encoded Layout").
use Rattle.std.specs.Prelude.{ℕ, zero, suc, ℤ, true, List, [], ◌∷◌, ◌++◌, map, length, sum_by, ◌≡◌, ◌≤◌, ◌<◌, ◌+◌, ◌*◌, ◌⊎◌, Option, Some, slice_get, slice_index}
use Rattle.arrow_types.specs.ArrowType.{ArrowType, plain, null, dictionary, extension}
use Rattle.arrow_types.specs.Fits.{Fits}
use Rattle.arrow_types.specs.Greatest.{greatest_number}
use Rattle.arrow_types.specs.Rows.{joined, valid_at}
use Rattle.arrow_types.specs.Slot.{id_at}
use Rattle.arrow_arrays.specs.Layout.{Layout, Layouts, flat, listed, fixed, fielded, sparse, dense, keyed, no_layouts, more_layouts, rows, type_of_layout, field_ids}

-- the greatest key of a dictionary's type
abbrev pub greatest_key : ArrowType → ℕ
greatest_key (dictionary keys ordered t) = greatest_number keys
greatest_key (extension name metadata t) = greatest_key t
greatest_key _ = 0

-- the one child of a list, a map or a dictionary
abbrev pub child_of : Layout → Layout
child_of (listed t v offsets c) = c
child_of (fixed t v s c) = c
child_of (keyed t keys c) = c
child_of l = l

-- the f-th of some layouts
abbrev pub nth_layout : Layouts → ℕ → Layout
nth_layout no_layouts f = flat (plain null) []
nth_layout (more_layouts l ls) zero = l
nth_layout (more_layouts l ls) (suc f) = nth_layout ls f

-- the child of a struct or a union at a field
abbrev pub child_at : ℕ → Layout → Layout
child_at f (fielded t v cs) = nth_layout cs f
child_at f (sparse t ids start cs) = nth_layout cs f
child_at f (dense t ids child_rows cs) = nth_layout cs f
child_at f l = l

-- how many values the dictionaries of some arrays have
abbrev pub values_before : List Layout → ℕ
values_before = sum_by (λ l. length (rows (child_of l)))

-- Row i of an array is crowded behind others: a valid key that it names, grown by the values of their dictionaries, passes the greatest key. Null rows name nothing
abbrev mutual
  pub CrowdedRow : List Layout → Layout → ℕ → Type 0
  CrowdedRow before (flat t xs) i = ⊥
  CrowdedRow before (keyed t keys c) i =
      (k : ℕ) × (slice_get keys i ≡ Some (Some k)) × (greatest_key t < k + values_before before)
  CrowdedRow before (listed t v offsets c) i =
      (valid_at v i ≡ true) × ((j : ℕ) × (slice_index offsets i ≤ j) × (j < slice_index offsets (suc i)) × CrowdedRow (map child_of before) c j)
  CrowdedRow before (fixed t v s c) i =
      (valid_at v i ≡ true) × ((j : ℕ) × (i * s ≤ j) × (j < suc i * s) × CrowdedRow (map child_of before) c j)
  CrowdedRow before (fielded t v cs) i = (valid_at v i ≡ true) × CrowdedPart before cs 0 i
  CrowdedRow before (sparse t ids start cs) i =
      (id : ℤ) × (slice_get ids i ≡ Some id) × CrowdedVariant before (field_ids t) cs 0 id (start + i)
  CrowdedRow before (dense t ids child_rows cs) i =
      (id : ℤ) × (slice_get ids i ≡ Some id) × CrowdedVariant before (field_ids t) cs 0 id (slice_index child_rows i)

  -- in some child, from field f on
  pub CrowdedPart : List Layout → Layouts → ℕ → ℕ → Type 0
  CrowdedPart before no_layouts f i = ⊥
  CrowdedPart before (more_layouts l ls) f i = CrowdedRow (map (child_at f) before) l i ⊎ CrowdedPart before ls (suc f) i

  -- in the child of an id, from field f on
  pub CrowdedVariant : List Layout → Option (List ℤ) → Layouts → ℕ → ℤ → ℕ → Type 0
  CrowdedVariant before ids no_layouts f id j = ⊥
  CrowdedVariant before ids (more_layouts l ls) f id j =
      ((id_at ids f ≡ id) × CrowdedRow (map (child_at f) before) l j) ⊎ CrowdedVariant before ids ls (suc f) id j

-- some row of the arrays is crowded behind those before it
abbrev pub CrowdedAmong : List Layout → List Layout → Type 0
CrowdedAmong before [] = ⊥
CrowdedAmong before (l ∷ ls) =
    ((i : ℕ) × (i < length (rows l)) × CrowdedRow before l i) ⊎ CrowdedAmong (before ++ l ∷ []) ls

-- the dictionaries of arrays of one type can't be joined whole, at any depth; the first array leads
abbrev mutual
  pub UnjoinedBy : Layout → List Layout → Type 0
  UnjoinedBy (flat t xs) all = ⊥
  UnjoinedBy (keyed t keys c) all =
      (Fits (type_of_layout c) (joined (map (λ l. rows (child_of l)) all)) → ⊥) ⊎ (CrowdedAmong [] (map child_of all) ⊎ UnjoinedBy c (map child_of all))
  UnjoinedBy (listed t v offsets c) all = UnjoinedBy c (map child_of all)
  UnjoinedBy (fixed t v s c) all = UnjoinedBy c (map child_of all)
  UnjoinedBy (fielded t v cs) all = UnjoinedPart cs 0 all
  UnjoinedBy (sparse t ids start cs) all = UnjoinedPart cs 0 all
  UnjoinedBy (dense t ids child_rows cs) all = UnjoinedPart cs 0 all

  -- of some child, from field f on
  pub UnjoinedPart : Layouts → ℕ → List Layout → Type 0
  UnjoinedPart no_layouts f all = ⊥
  UnjoinedPart (more_layouts l ls) f all = UnjoinedBy l (map (child_at f) all) ⊎ UnjoinedPart ls (suc f) all

abbrev pub Unjoined : List Layout → Type 0
Unjoined [] = ⊥
Unjoined (l ∷ ls) = UnjoinedBy l (l ∷ ls)
