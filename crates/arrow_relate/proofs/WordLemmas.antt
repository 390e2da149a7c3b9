-- Bits that were answered, a row or a word at a time, as rows of truth values.
use Rattle.std.proofs.Common.{◌≡◌, ◌∙◌, ℕ, get_or, ◌+◌, ◌*◌, ◌/◌, ◌%◌, ◌<◌, Bool, Some, false, List, length, map, slice_index, arith, ap, sym, zero-add}
use Rattle.std.specs.Prelude.{Result, Ok, Err, IfOk, slice_get}
use Rattle.std.proofs.lemmas.List.{get_or-map, length-map, same_lists}
use Rattle.std.proofs.lemmas.Option.{get_or_from_slice_get}
use Rattle.arrow_types.specs.Slot.{Slot, Boolean}
use Rattle.arrow_memory.specs.Gathered.{AnswersBits, AnswersWords}
use Rattle.arrow_memory.specs.Words.{is_set}
use Rattle.arrow_memory.proofs.WordLemmas.{get_or-bits_in, length-bits_in}
use Rattle.arrow_relate.specs.Words.{IsWordOf}

-- rows of truth values, one by one
rows_are : (bits : List Bool) (rows : List Slot) (len : ℕ) → length bits ≡ len → length rows ≡ len → ((row : ℕ) → row < len → slice_get rows row ≡ Some (Boolean (get_or bits row false))) → map Boolean bits ≡ rows
rows_are bits rows len count long each =
    let size = length-map bits Boolean in
    same_lists _ _ (size ∙ (count ∙ sym long)) (λ row d within.
    let below : row < len = omega (arith, within, size, count) in
    get_or-map Boolean bits row false d (omega (arith, below, count)) ∙ sym (get_or_from_slice_get rows row (Boolean (get_or bits row false)) d (each row below)))

-- bits that were answered of each row, where each answer gives its row
pub answered_rows : {E : Type 0} (r : Result (List Bool) E) (answered : ℕ → Bool → Type 0) (len : ℕ) (rows : List Slot) → length rows ≡ len → ((row : ℕ) (bit : Bool) → row < len → answered row bit → slice_get rows row ≡ Some (Boolean bit)) → IfOk r (λ bits. AnswersBits answered len bits) → IfOk r (λ bits. map Boolean bits ≡ rows)
answered_rows (Ok bits) answered len rows long each all =
    rows_are bits rows len all.count long (λ row below. each row (get_or bits row false) below (all.each row below))
answered_rows (Err e) answered len rows long each all = tt

-- a bit of words that were answered
pub answered_bit : (answered : ℕ → ℕ → Type 0) (len : ℕ) (bits : List Bool) (all : AnswersWords answered len bits) (row : ℕ) → row < len → get_or bits row false ≡ is_set all.words row
answered_bit answered len bits all row below =
    ap (λ xs. get_or xs row false) all.first ∙ (get_or-bits_in all.words 0 len row false below ∙ ap (is_set all.words) (zero-add row))

pub answered_long : (answered : ℕ → ℕ → Type 0) (len : ℕ) (bits : List Bool) → AnswersWords answered len bits → length bits ≡ len
answered_long answered len bits all = ap length all.first ∙ length-bits_in all.words 0 len

-- bits that were answered a word at a time, where each word has its rows
pub rows_of_words : {E : Type 0} (r : Result (List Bool) E) (answered : ℕ → ℕ → Type 0) (len : ℕ) (rows : List Slot) → length rows ≡ len → ((j word : ℕ) → 64 * j < length rows → answered j word → IsWordOf rows j word) → IfOk r (λ bits. AnswersWords answered len bits) → IfOk r (λ bits. map Boolean bits ≡ rows)
rows_of_words (Ok bits) answered len rows long gives all =
    rows_are bits rows len (answered_long answered len bits all) long (λ row below.
    let j = row / 64 in
    let k = row % 64 in
    let place : 64 * j + k ≡ row = omega arith in
    let word = slice_index all.words j in
    let is = gives j word (omega (arith, below, long)) (all.each j (omega (arith, below))) k (omega arith) (omega (arith, below, long)) in
    rw place at is ∙ ap (λ b. Some (Boolean b)) (sym (answered_bit answered len bits all row below)))
rows_of_words (Err e) answered len rows long gives all = tt
