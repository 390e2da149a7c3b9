-- Worked rows, computed from the definitions: if a definition changes its meaning, one of these fails.
use Rattle.std.specs.Prelude.{ℕ, pos, negsuc, Bool, true, false, None, Some, List, [], ◌∷◌, ◌^◌, map, codes, ◌≡◌, refl}
use Rattle.std.specs.Str.{chars}
use lib.Utf8.{encode}
use Rattle.arrow_types.specs.declared.datatypes.IntegerType.TheVariants.{Int8, Int32}
use Rattle.arrow_types.specs.declared.datatypes.IntervalUnit.TheVariants as interval_unit
use Rattle.arrow_types.specs.declared.datatypes.UnionMode.{UnionMode}
use Rattle.arrow_types.specs.declared.datatypes.UnionMode.TheVariants.{Sparse, Dense}
use Rattle.arrow_types.specs.declared.datatypes.physical_type.PhysicalType.TheVariants as physical
use Rattle.arrow_types.specs.declared.types.PrimitiveType.TheVariants as primitive
use Rattle.arrow_types.specs.ArrowType.{ArrowType, plain, integer, interval, utf8, small, fixed_size, list, union, dictionary, extension, field, no_fields, more_fields, logical}
use Rattle.arrow_types.specs.Fits.{all_items, child_rows, part_in, sparse_part, dense_part}
use Rattle.arrow_types.specs.Logic.{both, either, negated, kleene_both, kleene_either, finished_eq, finished_neq}
use Rattle.arrow_types.specs.Part.{bytes_of, part}
use Rattle.arrow_types.specs.Physical.{physical_type_of}
use Rattle.arrow_types.specs.Ranges.{named, named_sides, true_rows}
use Rattle.arrow_types.specs.Relation.{related, eq, neq, lt, gt_eq, through, same, nulled}
use Rattle.arrow_types.specs.Rows.{masked, mask_of, select, joined, shifted, gather, chosen}
use Rattle.arrow_types.specs.SameTree.{same_by}
use Rattle.arrow_types.specs.Slot.{Slot, Null, Boolean, Number, DayTime, Text, Bytes, Items, Parts, Dict, Variant, to_slots, id_at, null_slot}

abbrev int32 : ArrowType
int32 = plain (integer Int32)

abbrev ints : List ℕ → List Slot
ints = map (λ n. Number (pos n))

abbrev bools : List Bool → List Slot
bools = map Boolean

abbrev a_text : Slot
a_text = Text (codes "a")

abbrev two_text : Slot
two_text = Text (codes "two")

-- a row of a list or of a struct
abbrev items : List Slot → Slot
items xs = Items (to_slots xs)

abbrev parts : List Slot → Slot
parts xs = Parts (to_slots xs)

-- [1,_2,3]: what is stored beneath the null is not seen
stored_beneath : masked (Some (true ∷ false ∷ true ∷ [])) (ints (1 ∷ 2 ∷ 3 ∷ [])) ≡ Number (pos 1) ∷ Null ∷ Number (pos 3) ∷ []
stored_beneath = refl

no_bitmap : masked None (ints (1 ∷ 2 ∷ [])) ≡ ints (1 ∷ 2 ∷ [])
no_bitmap = refl

-- filter [5,6,7,8,9] by [t,f,f,t,f]
filter_rows : select (mask_of (bools (true ∷ false ∷ false ∷ true ∷ false ∷ []))) (ints (5 ∷ 6 ∷ 7 ∷ 8 ∷ 9 ∷ [])) ≡ ints (5 ∷ 8 ∷ [])
filter_rows = refl

-- filter [1,2,3] by [t,_t,f]: a null of the predicate selects nothing, also over a stored true
filter_null : select (mask_of (masked (Some (true ∷ false ∷ true ∷ [])) (bools (true ∷ true ∷ false ∷ [])))) (ints (1 ∷ 2 ∷ 3 ∷ [])) ≡ ints (1 ∷ [])
filter_null = refl

-- a null row that is selected stays null
filter_keeps_null : select (mask_of (bools (false ∷ true ∷ []))) (Number (pos 1) ∷ Null ∷ []) ≡ Null ∷ []
filter_keeps_null = refl

concatenate_rows : joined ([] ∷ (Null ∷ Number (pos 4) ∷ []) ∷ ints (1 ∷ []) ∷ []) ≡ Null ∷ Number (pos 4) ∷ Number (pos 1) ∷ []
concatenate_rows = refl

concatenate_none : joined [] ≡ []
concatenate_none = refl

-- a filter of lists: an empty list is a row, and no null
filter_lists : select (mask_of (bools (true ∷ true ∷ false ∷ []))) (items [] ∷ Null ∷ items (ints (1 ∷ [])) ∷ []) ≡ items [] ∷ Null ∷ []
filter_lists = refl

-- shift [1,_,3] by -1, 1, 0, 3 and -3
abbrev one_null_three : List Slot
one_null_three = Number (pos 1) ∷ Null ∷ Number (pos 3) ∷ []

shift_back : shifted one_null_three (negsuc 0) int32 ≡ Null ∷ Number (pos 3) ∷ Null ∷ []
shift_back = refl

shift_on : shifted one_null_three (pos 1) int32 ≡ Null ∷ Number (pos 1) ∷ Null ∷ []
shift_on = refl

shift_none : shifted one_null_three (pos 0) int32 ≡ one_null_three
shift_none = refl

shift_all : shifted one_null_three (pos 3) int32 ≡ Null ∷ Null ∷ Null ∷ []
shift_all = refl

shift_all_back : shifted one_null_three (negsuc 2) int32 ≡ Null ∷ Null ∷ Null ∷ []
shift_all_back = refl

-- take [_,"two"] by [1,_,0]
take_texts : gather (Null ∷ two_text ∷ []) (Number (pos 1) ∷ Null ∷ Number (pos 0) ∷ []) (plain utf8) ≡ two_text ∷ Null ∷ Null ∷ []
take_texts = refl

-- if_then_else by [t,_,f], and with nulls among the sides
choice_rows : chosen (Boolean true ∷ Null ∷ Boolean false ∷ []) (ints (1 ∷ 2 ∷ 3 ∷ [])) (ints (4 ∷ 5 ∷ 6 ∷ [])) int32 ≡ Number (pos 1) ∷ Null ∷ Number (pos 6) ∷ []
choice_rows = refl

choice_nulls : chosen (bools (true ∷ false ∷ true ∷ [])) (Number (pos 1) ∷ Null ∷ Null ∷ []) (Null ∷ Number (pos 5) ∷ Number (pos 6) ∷ []) int32 ≡ Number (pos 1) ∷ Number (pos 5) ∷ Null ∷ []
choice_nulls = refl

-- Kleene's and, or of [t,f,_] with nulls
kleene_and_null : map (λ s. kleene_both s Null) (Boolean true ∷ Boolean false ∷ Null ∷ []) ≡ Null ∷ Boolean false ∷ Null ∷ []
kleene_and_null = refl

kleene_or_null : map (λ s. kleene_either s Null) (Boolean true ∷ Boolean false ∷ Null ∷ []) ≡ Boolean true ∷ Null ∷ Null ∷ []
kleene_or_null = refl

-- of the plain ones a null makes a null
and_null : both Null (Boolean false) ≡ Null
and_null = refl

or_null : either (Boolean true) Null ≡ Null
or_null = refl

not_null : map negated (Boolean false ∷ Boolean true ∷ Null ∷ []) ≡ Boolean true ∷ Boolean false ∷ Null ∷ []
not_null = refl

-- numbers by value, truth values with false first, texts and bytes by unsigned bytes, intervals by equality alone
less_than_zero : related lt (Number (negsuc 0)) (Number (pos 0)) ≡ Boolean true
less_than_zero = refl

false_first : related lt (Boolean false) (Boolean true) ≡ Boolean true
false_first = refl

texts_by_bytes : related gt_eq (Text (codes "a")) (Text (codes "ab")) ≡ Boolean false
texts_by_bytes = refl

bytes_unsigned : related lt (Bytes (127 ∷ [])) (Bytes (255 ∷ [])) ≡ Boolean true
bytes_unsigned = refl

intervals_equal : related eq (DayTime (pos 1) (pos 2)) (DayTime (pos 1) (pos 2)) ≡ Boolean true
intervals_equal = refl

intervals_unordered : related lt (DayTime (pos 1) (pos 2)) (DayTime (pos 1) (pos 3)) ≡ Null
intervals_unordered = refl

null_side : related neq Null (Number (pos 1)) ≡ Null
null_side = refl

-- [_7,1] against [_8,_1]: two nulls are the same, and a value and a null are not
nulls_same : same Null Null ≡ true
unfolding same_by
nulls_same = refl

value_not_null : same (Number (pos 1)) Null ≡ false
unfolding same_by
value_not_null = refl

-- a dictionary is read through, at any depth; a key of a null value is no null row
through_twice : through (Dict (Dict a_text)) ≡ a_text
through_twice = refl

through_null : through (Dict Null) ≡ Null
through_null = refl

null_value_is_no_null : same (Dict Null) Null ≡ false
unfolding same_by
null_value_is_no_null = refl

-- nullif of [0] and [_0], and of [1] and [1]
nullif_null_right : nulled (Number (pos 0)) Null ≡ Number (pos 0)
unfolding same_by
nullif_null_right = refl

nullif_equal : nulled (Number (pos 1)) (Number (pos 1)) ≡ Null
unfolding same_by
nullif_equal = refl

nullif_null_left : nulled Null (Number (pos 1)) ≡ Null
unfolding same_by
nullif_null_left = refl

-- [t,f,t,_] with the validities [1,0,0,1] and [1,0,1,1]
finished_eq_rows : finished_eq (Boolean true) true true ∷ finished_eq (Boolean false) false false ∷ finished_eq (Boolean true) false true ∷ finished_eq Null true true ∷ [] ≡ Boolean true ∷ Boolean true ∷ Boolean false ∷ Null ∷ []
finished_eq_rows = refl

finished_neq_rows : finished_neq (Boolean true) true true ∷ finished_neq (Boolean false) false false ∷ finished_neq (Boolean true) false true ∷ finished_neq Null true true ∷ [] ≡ Boolean true ∷ Boolean false ∷ Boolean true ∷ Null ∷ []
finished_neq_rows = refl

-- a text of five characters in six bytes, and parts of it
abbrev hello : Slot
hello = Text (104 ∷ 195 ∷ 169 ∷ 108 ∷ 108 ∷ 111 ∷ [])

hello_bytes : bytes_of hello ≡ Number (pos 6)
hello_bytes = refl

hello_end : part (negsuc 1) None hello ≡ Text (codes "lo")
unfolding chars encode
hello_end = refl

hello_begin : part (negsuc 9) (Some 2) hello ≡ Text (104 ∷ 195 ∷ 169 ∷ [])
unfolding chars encode
hello_begin = refl

hello_past : part (pos (2 ^ 40)) None hello ≡ Text []
unfolding chars encode
hello_past = refl

part_of_bytes : part (negsuc 1) (Some 1) (Bytes (1 ∷ 2 ∷ 3 ∷ [])) ≡ Bytes (2 ∷ [])
part_of_bytes = refl

-- the mask [t,t,f,t,f,f,t,t,t] by three ranges, by more of them, and by both sides of [t,f,f,t]
ranges_rows : named ((0, 2) ∷ (3, 1) ∷ (6, 3) ∷ []) ≡ true_rows 0 (true ∷ true ∷ false ∷ true ∷ false ∷ false ∷ true ∷ true ∷ true ∷ [])
ranges_rows = refl

ranges_longer : named ((0, 1) ∷ (1, 1) ∷ (2, 0) ∷ (3, 1) ∷ (6, 3) ∷ []) ≡ named ((0, 2) ∷ (3, 1) ∷ (6, 3) ∷ [])
ranges_longer = refl

sides_rows : named_sides ((0, 0, 1) ∷ (1, 1, 2) ∷ (0, 3, 1) ∷ []) ≡ (0, 0) ∷ (1, 1) ∷ (1, 2) ∷ (0, 3) ∷ []
sides_rows = refl

-- a union of Int32 under the id 5 and Utf8 under the id 7
abbrev five_seven : UnionMode → ArrowType
five_seven mode =
    union mode (Some (pos 5 ∷ pos 7 ∷ [])) (more_fields (field [] int32 true) (more_fields (field [] (plain utf8) true) no_fields))

null_of_number : null_slot int32 ≡ Null
null_of_number = refl

null_of_union : null_slot (five_seven Sparse) ≡ Variant (pos 5) Null
null_of_union = refl

-- a union whose ids are not given, and whose first field is a union
null_of_nested_union : null_slot (union Dense None (more_fields (field [] (five_seven Dense) true) no_fields)) ≡ Variant (pos 0) (Variant (pos 5) Null)
null_of_nested_union = refl

null_of_extension : null_slot (extension [] None (five_seven Sparse)) ≡ Variant (pos 5) Null
null_of_extension = refl

-- a dictionary is null by its key, also where its values are a union
null_of_dictionary : null_slot (dictionary Int8 false (five_seven Sparse)) ≡ Null
null_of_dictionary = refl

-- ids with a gap: the second field has the id 7
second_id : id_at (Some (pos 5 ∷ pos 7 ∷ [])) 1 ≡ pos 7
second_id = refl

-- rows of the union, with the null slots that a shift and a null index put among them
abbrev union_rows : List Slot
union_rows = Variant (pos 5) (Number (pos 1)) ∷ Variant (pos 7) a_text ∷ []

shift_union : shifted union_rows (pos 1) (five_seven Sparse) ≡ Variant (pos 5) Null ∷ Variant (pos 5) (Number (pos 1)) ∷ []
shift_union = refl

take_union : gather union_rows (Number (pos 1) ∷ Null ∷ []) (five_seven Sparse) ≡ Variant (pos 7) a_text ∷ Variant (pos 5) Null ∷ []
take_union = refl

-- its children: a sparse one has a null slot where another field is chosen, and a dense one has its own rows alone
sparse_texts : map (sparse_part (pos 7) (plain utf8)) union_rows ≡ Null ∷ a_text ∷ []
sparse_texts = refl

dense_texts : dense_part (pos 7) union_rows ≡ a_text ∷ []
dense_texts = refl

-- an empty dictionary names no value, so its rows are null, and so is what is taken of them
take_of_empty_dictionary : gather [] (Null ∷ Null ∷ []) (dictionary Int8 false (plain utf8)) ≡ Null ∷ Null ∷ []
take_of_empty_dictionary = refl

-- the child of [[1],[],_,[2,3]], and of the fixed-size [[1,2],_]
list_child : all_items (items (ints (1 ∷ [])) ∷ items [] ∷ Null ∷ items (ints (2 ∷ 3 ∷ [])) ∷ []) ≡ ints (1 ∷ 2 ∷ 3 ∷ [])
list_child = refl

fixed_child : child_rows (fixed_size 2) int32 (items (ints (1 ∷ 2 ∷ [])) ∷ Null ∷ []) ≡ Number (pos 1) ∷ Number (pos 2) ∷ Null ∷ Null ∷ []
fixed_child = refl

-- the second column of the structs [(1,"a"),_]
struct_column : map (part_in 1 (plain utf8)) (parts (Number (pos 1) ∷ a_text ∷ []) ∷ Null ∷ []) ≡ a_text ∷ Null ∷ []
struct_column = refl

-- extensions at the top come off, and those inside stay
abbrev extended : ArrowType → ArrowType
extended = extension (codes "x") None

logical_twice : logical (extended (extended (list small (field [] (extended int32) true)))) ≡ list small (field [] (extended int32) true)
logical_twice = refl

extension_lies_as_inner : physical_type_of (extended (plain (interval interval_unit.DayTime))) ≡ physical.Primitive primitive.DaysMs
extension_lies_as_inner = refl
