-- What the laws of stored rows rest on.
use Rattle.std.specs.Prelude.{◌≡◌, ◌<◌, ℕ, Bool, true, false, not, Option, None, Some, List, length, map, slice_index_or, refl}
use Rattle.std.specs.List.{All}
use Rattle.std.proofs.Common.{ap, ◌∙◌, arith}
use Rattle.std.proofs.Math.ListN.{get_or-map}
use Rattle.std.proofs.lemmas.List.{get_or_default, length-map}
use Rattle.std.proofs.lemmas.List.Elements.{All-map}
use Rattle.arrow_types.specs.Relation.{related, eq, is_null}
use Rattle.arrow_types.specs.Rows.{valid_at}
use Rattle.arrow_types.specs.Slot.{Slot, Null, Boolean, Number, DayTime, MonthDayNano, Bytes, Text, Items, Parts, Dict, Variant}
use Rattle.arrow_flat.specs.Parts.{IsValue, MarksNulls}

-- what a relation answers about is a value
pub is_value : (s : Slot) (b : Bool) → related eq s s ≡ Boolean b → IsValue s
is_value Null b answer = cc
is_value (Boolean x) b answer = refl
is_value (Number n) b answer = refl
is_value (DayTime d m) b answer = refl
is_value (MonthDayNano m d n) b answer = refl
is_value (Bytes x) b answer = refl
is_value (Text x) b answer = refl
is_value (Items x) b answer = refl
is_value (Parts x) b answer = refl
is_value (Dict x) b answer = refl
is_value (Variant id x) b answer = refl

-- no slot of values is null where equality answers of each
pub all_values : {A : Type 0} (slot : A → Slot) (same : A → A → Bool) → ((x y : A) → related eq (slot x) (slot y) ≡ Boolean (same x y)) → (xs : List A) → All IsValue (map slot xs)
all_values slot same answers xs =
    All-map IsValue slot xs (λ k d within. is_value _ _ (answers _ _))

-- a row is valid where the bit that marks it is set
pub marked_row : (v : Option (List Bool)) (xs : List Slot) (i : ℕ) → MarksNulls v xs → i < length xs → valid_at v i ≡ not (is_null (slice_index_or xs i Null))
marked_row None xs i marks within = rw (marks i Null within) refl
marked_row (Some bits) xs i marks within =
    let valid = λ (s : Slot). not (is_null s) in
    let long = length-map xs valid in
    ap (λ marked. slice_index_or marked i true) marks ∙ (get_or_default (map valid xs) i true false (omega arith) ∙ get_or-map valid xs i Null)
