-- Rows by index: the types that `can_take` lists, what `take` answers, and what private functions keep of rows by index.
use Rattle.std.specs.Prelude.{◌≡◌, ℕ, ◌+◌, ◌*◌, ◌-◌, pos, Bool, false, not, Option, None, Some, List, [], Result, map, replicate, slice_get, slice_index, slice_index_or, unwrap_or, if◌then◌else◌}
use Rattle.std.specs.List.{All, range_with_len}
use Rattle.arrow_types.specs.declared.error.Error.{Error}
use Rattle.arrow_types.specs.ArrowType.{ArrowType, ArrowFields, PlainType, plain, list, struct, union, dictionary, extension, field, no_fields, more_fields, float16, float32, float64, decimal256}
use Rattle.arrow_types.specs.Carried.{IsCarried}
use Rattle.arrow_types.specs.Fits.{Fits}
use Rattle.arrow_types.specs.Relation.{is_null}
use Rattle.arrow_types.specs.Rows.{gather, valid_at}
use Rattle.arrow_types.specs.Slot.{Slot, Null, Number}
use Rattle.arrow_memory.specs.Sliced.{sliced}
use Rattle.arrow_flat.specs.FixedRows.{FixedParts, fixed_slots}
use Rattle.arrow_flat.specs.Parts.{IsValue, Parts, rows_by}
use Rattle.arrow_arrays.specs.Any.{any_array_type, any_array_rows}
use Rattle.arrow_arrays.specs.declared.array.any.AnyArray.{AnyArray}
use Rattle.arrow_arrays.specs.KeyedParts.{AreKeys, IsKey, key_in}
use Rattle.arrow_arrays.specs.Layout.{Layout}
use Rattle.arrow_arrays.specs.FixedListParts.{FixedListParts, fixed_list_rows}
use Rattle.arrow_arrays.specs.ListParts.{ListParts, list_rows}
use Rattle.arrow_arrays.specs.UnionParts.{UnionParts, union_rows}
use Rattle.arrow_flat_growable.specs.Grown.{Grown, source_at}
use Rattle.arrow_take.specs.Answers.{Answers}
use Rattle.arrow_take.specs.Spans.{span_bytes}

-- the types of which `can_take` says so: extensions are not looked through, and decimals of 256 bits are not among them
abbrev pub IsTakenPlain : PlainType → Type 0
IsTakenPlain float16 = ⊥
IsTakenPlain float32 = ⊥
IsTakenPlain float64 = ⊥
IsTakenPlain (decimal256 precision scale) = ⊥
IsTakenPlain _ = Unit {0}

abbrev mutual
  pub IsTaken : ArrowType → Type 0
  IsTaken (plain p) = IsTakenPlain p
  IsTaken (list form f) = Unit {0}
  IsTaken (struct fs) = AreTaken fs
  IsTaken (union mode ids fs) = AreTaken fs
  IsTaken (dictionary keys ordered t) = Unit {0}
  IsTaken (extension name metadata t) = ⊥

  -- of all fields
  pub AreTaken : ArrowFields → Type 0
  AreTaken no_fields = Unit {0}
  AreTaken (more_fields (field name t nullable) fs) = IsTaken t × AreTaken fs

-- a type whose arrays have rows by index, as `can_take` says
abbrev pub CanTake : ArrowType → Type 0
CanTake t = IsCarried t × IsTaken t

-- an index that is null, whatever lies beneath, or names one of so many rows: as a key of a dictionary names a value
abbrev pub IsIndex : ℕ → Slot → Type 0
IsIndex = IsKey

abbrev pub AreIndices : ℕ → List Slot → Type 0
AreIndices = AreKeys

-- what `take` answers of arrays of a kind: the rows that the indices name, of the same type
abbrev pub AnswersTaken : {A : Type 0} → (A → ArrowType) → (A → List Slot) → Result A Error → A → List Slot → Type 0
AnswersTaken type_in rows_in result values indices =
    Answers type_in rows_in result (type_in values) (gather (rows_in values) indices (type_in values))

-- of bytes of a fixed size, of lists and maps, of fixed-size lists, and of unions
abbrev pub AnswersFixedRows : Result (Parts FixedParts) Error → Parts FixedParts → List Slot → Type 0
AnswersFixedRows = AnswersTaken (λ array. array.arrow_type) (rows_by fixed_slots)

abbrev pub AnswersLists : Result ListParts Error → ListParts → List Slot → Type 0
AnswersLists = AnswersTaken (λ array. array.arrow_type) list_rows

abbrev pub AnswersFixedLists : Result FixedListParts Error → FixedListParts → List Slot → Type 0
AnswersFixedLists = AnswersTaken (λ array. array.arrow_type) fixed_list_rows

abbrev pub AnswersUnions : Result UnionParts Error → UnionParts → List Slot → Type 0
AnswersUnions = AnswersTaken (λ array. array.arrow_type) union_rows

-- the place that an index names, and 0 where it is null
abbrev pub place_in : Slot → ℕ
place_in index = unwrap_or (key_in index) 0

-- what stands at that place
abbrev pub picked : {A : Type 0} → List A → A → Slot → A
picked xs spare index = slice_index_or xs (place_in index) spare

-- whether the bit is set that an index names; a null index names none
abbrev pub named_bit : List Bool → Slot → Bool
named_bit bits (Number (pos n)) = slice_index_or bits n false
named_bit bits _ = false

-- whether a row by index is valid: the index is, and so is the row that it names
abbrev pub is_taken_valid : Option (List Bool) → Slot → Bool
is_taken_valid None index = not (is_null index)
is_taken_valid (Some validity) index = named_bit validity index

-- the validity of rows by index: none where no row and no index is null
abbrev pub MarksTaken : Option (List Bool) → List Slot → Option (List Bool) → Type 0
MarksTaken validity indices None = (validity ≡ None) × All IsValue indices
MarksTaken validity indices (Some bits) = bits ≡ map (is_taken_valid validity) indices

-- an index whose row is valid, and else a null one
abbrev pub valid_index : Option (List Bool) → Slot → Slot
valid_index validity index = if is_taken_valid validity index then index else Null

-- where the bytes of a row lie: nowhere where it is null, or there is none
abbrev pub span_of : Option (List Bool) → List ℕ → Option ℕ → ℕ × ℕ
span_of validity offsets None = (0, 0)
span_of validity offsets (Some n) = if valid_at validity n then (slice_index offsets n, slice_index offsets (n + 1)) else (0, 0)

-- where the bytes lie of the row that an index names
abbrev pub taken_span : Option (List Bool) → List ℕ → Slot → ℕ × ℕ
taken_span validity offsets index = span_of validity offsets (key_in index)

-- how many bytes it has
abbrev pub span_length : Option (List Bool) → List ℕ → Slot → ℕ
span_length validity offsets index =
    (taken_span validity offsets index).1 - (taken_span validity offsets index).0

-- and its bytes
abbrev pub taken_bytes : Option (List Bool) → List ℕ → List ℕ → Slot → List ℕ
taken_bytes validity offsets bytes index = span_bytes bytes (taken_span validity offsets index)

-- the bytes of a row of so many, by where it is, and as many zeros where it is nowhere
abbrev pub fixed_row : ℕ → List ℕ → Option ℕ → List ℕ
fixed_row size bytes None = replicate size 0
fixed_row size bytes (Some n) = sliced bytes (n * size) size

-- the bytes of the row that an index names
abbrev pub taken_row : ℕ → List ℕ → Slot → List ℕ
taken_row size bytes index = fixed_row size bytes (key_in index)

-- the first array that is bound to a growable
abbrev pub first_bound : Grown → Layout
first_bound g = source_at (unwrap_or g.sources []) 0

-- indices that name so many rows from one on, or as many nulls
abbrev pub run_of : Option ℕ → ℕ → List Slot
run_of None len = replicate len Null
run_of (Some start) len = map (λ n. Number (pos n)) (range_with_len start len)

-- rows by index of a column, and that those of some column do not fit
abbrev pub taken_rows : List Slot → AnyArray → List Slot
taken_rows indices column = gather (any_array_rows column) indices (any_array_type column)

abbrev pub SomeDoNotFit : List Slot → List AnyArray → Type 0
SomeDoNotFit indices columns =
    (k : ℕ) × (c : AnyArray) × (slice_get columns k ≡ Some c) × (Fits (any_array_type c) (taken_rows indices c) → ⊥)
