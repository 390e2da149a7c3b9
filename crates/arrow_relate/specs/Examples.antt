-- Worked rows.
use Rattle.std.specs.Prelude.{◌≡◌, ℕ, refl, true, false, pos, None, Some, [], ◌∷◌, replicate}
use Rattle.arrow_types.specs.Logic.{finished_eq, finished_neq}
use Rattle.arrow_types.specs.Relation.{related, eq, neq, lt, gt_eq}
use Rattle.arrow_types.specs.Slot.{Null, Boolean, Number, DayTime, Text}
use Rattle.arrow_memory.specs.Sliced.{sliced}
use Rattle.arrow_memory.specs.Words.{word_of}
use Rattle.arrow_flat.specs.RowByRow.{row_by_row}
use Rattle.arrow_relate.specs.Chunked.{chunk_of}
use Rattle.arrow_relate.specs.Finished.{finished}

-- a null beside a value gives a null, whatever lies beneath it
by_relation : row_by_row (related lt) (Number (pos 1) ∷ Null ∷ Number (pos 3) ∷ []) (Number (pos 2) ∷ Number (pos 2) ∷ Number (pos 2) ∷ []) ≡ Boolean true ∷ Null ∷ Boolean false ∷ []
by_relation = refl

-- not equal is a relation of its own: of a null it is null too
by_neq : row_by_row (related neq) (Number (pos 1) ∷ Null ∷ []) (Number (pos 1) ∷ Null ∷ []) ≡ Boolean false ∷ Null ∷ []
by_neq = refl

-- false comes before true
by_truth : row_by_row (related gt_eq) (Boolean true ∷ Boolean false ∷ []) (Boolean false ∷ Boolean true ∷ []) ≡ Boolean true ∷ Boolean false ∷ []
by_truth = refl

-- intervals have equality alone
by_interval : row_by_row (related eq) (DayTime (pos 1) (pos 2) ∷ []) (DayTime (pos 1) (pos 3) ∷ []) ≡ Boolean false ∷ []
by_interval = refl

-- a beginning comes before what goes on: "a" and "ab"
by_text : related lt (Text (97 ∷ [])) (Text (97 ∷ 98 ∷ [])) ≡ Boolean true
by_text = refl

-- what is stored was compared as true, false, true and a null; both sides have a validity
equal : finished finished_eq (Boolean true ∷ Boolean false ∷ Boolean true ∷ Null ∷ []) (Some (true ∷ false ∷ false ∷ true ∷ [])) (Some (true ∷ false ∷ true ∷ true ∷ [])) ≡ Boolean true ∷ Boolean true ∷ Boolean false ∷ Null ∷ []
equal = refl

unequal : finished finished_neq (Boolean true ∷ Boolean false ∷ Boolean true ∷ Null ∷ []) (Some (true ∷ false ∷ false ∷ true ∷ [])) (Some (true ∷ false ∷ true ∷ true ∷ [])) ≡ Boolean true ∷ Boolean false ∷ Boolean true ∷ Null ∷ []
unequal = refl

-- without a validity all rows of that side are valid
equal_to_valid : finished finished_eq (Boolean true ∷ Boolean true ∷ []) (Some (true ∷ false ∷ [])) None ≡ Boolean true ∷ Boolean false ∷ []
equal_to_valid = refl

-- the second chunk of nine ones is filled with the default
last_chunk : chunk_of {A = ℕ} 0 (1 ∷ 1 ∷ 1 ∷ 1 ∷ 1 ∷ 1 ∷ 1 ∷ 1 ∷ 1 ∷ []) 1 ≡ 1 ∷ 0 ∷ 0 ∷ 0 ∷ 0 ∷ 0 ∷ 0 ∷ 0 ∷ []
last_chunk = refl

-- true, true and false as a word, and 64 copies of true
word_of_rows : word_of (sliced (true ∷ true ∷ false ∷ []) 0 64) ≡ 3
word_of_rows = refl

word_of_copies : word_of (replicate 64 true) ≡ 18446744073709551615
word_of_copies = refl
