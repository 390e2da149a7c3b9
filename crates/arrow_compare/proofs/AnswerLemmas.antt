-- Answers to the values of a dictionary, taken by its keys, and answers that are null.
use Rattle.std.proofs.Common.{arith, ◌≡◌, ◌∙◌, pos, Bool, true, false, not, Option, Some, None, List, [], ◌∷◌, length, map, refl, ap, sym}
use Rattle.std.specs.Prelude.{slice_index_or, unwrap_or, option_map}
use Rattle.std.proofs.Math.Bool.{and-false, and-true, or-false, or-true}
use Rattle.std.proofs.lemmas.List.Elements.{All-tail}
use Rattle.std.proofs.lemmas.Option.{slice_get-get_or, slice_get-map}
use Rattle.arrow_types.specs.ArrowType.{ArrowType, boolean, plain}
use Rattle.arrow_types.specs.Rows.{gather, gathered, mask, masked}
use Rattle.arrow_types.specs.Slot.{Slot, Null, Boolean, Number, Dict}
use Rattle.arrow_memory.specs.Bits.{both_bits, either_bits}
use Rattle.arrow_arrays.specs.Any.{any_array_rows, layout_of}
use Rattle.arrow_arrays.specs.KeyedParts.{AreKeys, IsKey, KeyedParts, key_in, keys_in}
use Rattle.arrow_arrays.specs.Layout.{keyed_item, rows}
use Rattle.arrow_arrays.specs.declared.array.any.AnyArray.{AnyArray}
use Rattle.arrow_arrays.specs.declared.array.any.AnyArray.TheVariants.{Dictionary}
use Rattle.arrow_compare.specs.Filled.{known_or}

-- ---- by keys

-- one row: what becomes of the answer that a key names
key_answer : (f h : Slot → Slot) → ((x : Slot) → f (Dict x) ≡ h (f x)) → f Null ≡ h Null → (xs : List Slot) (key : Slot) → IsKey (length xs) key → h (gathered (map f xs) (plain boolean) key) ≡ f (keyed_item xs (key_in key))
key_answer f h named null xs (Number (pos n)) within =
    ap (λ o. h (unwrap_or o Null)) (slice_get-map f xs n ∙ ap (option_map f) (slice_get-get_or xs n Null within)) ∙ sym (named (slice_index_or xs n Null))
key_answer f h named null xs Null within = sym null
key_answer f h named null xs key within = absurd within

key_answers : (f h : Slot → Slot) → ((x : Slot) → f (Dict x) ≡ h (f x)) → f Null ≡ h Null → (xs keys : List Slot) → AreKeys (length xs) keys → map h (gather (map f xs) keys (plain boolean)) ≡ map f (map (keyed_item xs) (keys_in keys))
key_answers f h named null xs [] within = refl
key_answers f h named null xs (key ∷ keys) within =
    λ i. key_answer f h named null xs key (within 0 Null (omega arith)) i ∷ key_answers f h named null xs keys (All-tail (IsKey (length xs)) key keys within) i

-- the rows of a dictionary, where a function of each row does not see the dictionary
pub taken_by_keys : (f h : Slot → Slot) → ((x : Slot) → f (Dict x) ≡ h (f x)) → f Null ≡ h Null → (a v : AnyArray) (p : KeyedParts) (keys answers : List Slot) (t : ArrowType) → a ≡ Dictionary p → layout_of v ≡ p.child → keys_in keys ≡ p.keys → AreKeys (length (rows p.child)) keys → answers ≡ map f (any_array_rows v) → t ≡ plain boolean → map h (gather answers keys t) ≡ map f (any_array_rows a)
taken_by_keys f h named null a v p keys answers t is child seen within are one =
    let given : answers ≡ map f (rows p.child) = are ∙ ap (λ l. map f (rows l)) child in
    (λ i. map h (gather (given i) keys (one i))) ∙ (key_answers f h named null (rows p.child) keys within ∙ (ap (λ ks. map f (map (keyed_item (rows p.child)) ks)) seen ∙ ap (λ array. map f (any_array_rows array)) (sym is)))

-- ---- nulls that become one truth value

none_unknown : (spare : Bool) (xs : List Bool) → map Boolean xs ≡ map (known_or spare) (map Boolean xs)
none_unknown spare [] = refl
none_unknown spare (x ∷ xs) = λ i. Boolean x ∷ none_unknown spare xs i

unknown_false : (bits xs : List Bool) → map Boolean (both_bits xs bits) ≡ map (known_or false) (mask bits (map Boolean xs))
unknown_false [] [] = refl
unknown_false (true ∷ bits) (x ∷ xs) = λ i. Boolean (and-true x i) ∷ unknown_false bits xs i
unknown_false (false ∷ bits) (x ∷ xs) = λ i. Boolean (and-false x i) ∷ unknown_false bits xs i
unknown_false bits xs = refl

unknown_true : (bits xs : List Bool) → map Boolean (either_bits xs (map not bits)) ≡ map (known_or true) (mask bits (map Boolean xs))
unknown_true [] [] = refl
unknown_true (true ∷ bits) (x ∷ xs) = λ i. Boolean (or-false x i) ∷ unknown_true bits xs i
unknown_true (false ∷ bits) (x ∷ xs) = λ i. Boolean (or-true x i) ∷ unknown_true bits xs i
unknown_true bits xs = refl

-- the same of answers by what is stored and their validity
pub none_null : (spare : Bool) (v : Option (List Bool)) (xs : List Bool) → None ≡ v → map Boolean xs ≡ map (known_or spare) (masked v (map Boolean xs))
none_null spare v xs same = rw (← same) (none_unknown spare xs)

pub nulls_false : (v : Option (List Bool)) (bits xs : List Bool) → Some bits ≡ v → map Boolean (both_bits xs bits) ≡ map (known_or false) (masked v (map Boolean xs))
nulls_false v bits xs same = rw (← same) (unknown_false bits xs)

pub nulls_true : (v : Option (List Bool)) (bits xs : List Bool) → Some bits ≡ v → map Boolean (either_bits xs (map not bits)) ≡ map (known_or true) (masked v (map Boolean xs))
nulls_true v bits xs same = rw (← same) (unknown_true bits xs)
