-- The laws of all pairs of rows, from those of each.
use Rattle.std.proofs.Common.{arith, ◌≡◌, ◌∙◌, true, false, not, List, [], ◌∷◌, length, map, replicate, refl, sym}
use Rattle.std.specs.List.{All}
use Rattle.std.proofs.lemmas.List.Elements.{All-cons}
use Rattle.std.proofs.lemmas.Simd.{map-map, splat_is_map}
use Rattle.arrow_types.specs.ArrowType.{ArrowType}
use Rattle.arrow_types.specs.Logic.{negated}
use Rattle.arrow_types.specs.Relation.{Relation, eq, neq, lt, lt_eq, gt, gt_eq, is_null, nulled, related, through}
use Rattle.arrow_types.specs.Rows.{choice, chosen}
use Rattle.arrow_types.specs.Slot.{Slot, Null, Boolean}
use Rattle.arrow_flat.specs.RowByRow.{row_by_row}
use Rattle.arrow_relate.specs.Same.{differs, is_same}
use Rattle.arrow_relate.proofs.NullLemmas.{null_right}
use Rattle.arrow_relate.proofs.RowLemmas.{map-row_by_row}
use Rattle.arrow_relate.proofs.SameLemmas.{neq_turned}
use Rattle.arrow_compare.specs.Filled.{known_or}
use Rattle.arrow_compare.proofs.RelationLemmas.{IsComparable, equal_is_same, gt_eq_turned, lt_eq_turned, lt_swap, nulled_itself, same_null, same_swap}

-- what each pair gives is what the other call gives of it the other way round
crossed : (f g : Slot → Slot → Slot) → ((x y : Slot) → f x y ≡ g y x) → (xs ys : List Slot) → row_by_row f xs ys ≡ row_by_row g ys xs
crossed f g one [] [] = refl
crossed f g one (x ∷ xs) (y ∷ ys) = λ i. one x y i ∷ crossed f g one xs ys i
crossed f g one xs ys = refl

-- and what it makes of what the other call gives
made_of : (h : Slot → Slot) (f g : Slot → Slot → Slot) → ((x y : Slot) → f x y ≡ h (g x y)) → (xs ys : List Slot) → row_by_row f xs ys ≡ map h (row_by_row g xs ys)
made_of h f g one xs ys = (λ i. row_by_row (λ x y. one x y i) xs ys) ∙ sym (map-row_by_row h g xs ys)

-- what holds of what each pair gives
all_pairs : (P : Slot → Type 0) (f : Slot → Slot → Slot) → ((x y : Slot) → P (f x y)) → (xs ys : List Slot) → All P (row_by_row f xs ys)
all_pairs P f one (x ∷ xs) (y ∷ ys) = All-cons P (f x y) (row_by_row f xs ys) (one x y) (all_pairs P f one xs ys)
all_pairs P f one xs ys = λ k d within. absurd (omega (arith, within))

pub differs_turned : (xs ys : List Slot) → row_by_row differs xs ys ≡ map negated (row_by_row is_same xs ys)
differs_turned = made_of negated differs is_same (λ x y. refl)

pub same_no_null : (xs ys : List Slot) → All (λ s. is_null s ≡ false) (row_by_row is_same xs ys)
same_no_null = all_pairs (λ s. is_null s ≡ false) is_same (λ x y. refl)

pub differs_no_null : (xs ys : List Slot) → All (λ s. is_null s ≡ false) (row_by_row differs xs ys)
differs_no_null = all_pairs (λ s. is_null s ≡ false) differs (λ x y. refl)

pub same_crossed : (xs ys : List Slot) → row_by_row is_same xs ys ≡ row_by_row is_same ys xs
same_crossed = crossed is_same is_same (same_swap Boolean)

pub differs_crossed : (xs ys : List Slot) → row_by_row differs xs ys ≡ row_by_row differs ys xs
differs_crossed = crossed differs differs (same_swap (λ b. Boolean (not b)))

pub lt_crossed : (xs ys : List Slot) → row_by_row (related lt) xs ys ≡ row_by_row (related gt) ys xs
lt_crossed = crossed (related lt) (related gt) lt_swap

pub neq_pairs : (xs ys : List Slot) → row_by_row (related neq) xs ys ≡ map negated (row_by_row (related eq) xs ys)
neq_pairs = made_of negated (related neq) (related eq) neq_turned

pub lt_eq_pairs : (xs ys : List Slot) → row_by_row (related lt_eq) xs ys ≡ map negated (row_by_row (related gt) xs ys)
lt_eq_pairs = made_of negated (related lt_eq) (related gt) lt_eq_turned

pub gt_eq_pairs : (xs ys : List Slot) → row_by_row (related gt_eq) xs ys ≡ map negated (row_by_row (related lt) xs ys)
gt_eq_pairs = made_of negated (related gt_eq) (related lt) gt_eq_turned

-- each pair of a list with itself
pub nulled_all : (xs : List Slot) → row_by_row nulled xs xs ≡ replicate (length xs) Null
nulled_all [] = refl
nulled_all (x ∷ xs) = λ i. nulled_itself x i ∷ nulled_all xs i

-- each row and a scalar that is null
pub related_nulls : (op : Relation) (xs : List Slot) → map (λ s. related op (through s) Null) xs ≡ replicate (length xs) Null
related_nulls op xs = (λ i. map (λ s. null_right op (through s) i) xs) ∙ sym (splat_is_map xs (length xs) Null refl)

pub same_nulls : (xs : List Slot) → map (λ s. is_same (through s) Null) xs ≡ map (λ s. Boolean (is_null (through s))) xs
same_nulls xs = sym (λ i. map (λ s. same_null (through s) i) xs)

-- and one that has equality
pub same_values : (xs : List Slot) (r : Slot) → IsComparable r → map (λ s. is_same (through s) r) xs ≡ map (known_or false) (map (λ s. related eq (through s) r) xs)
same_values xs r is = sym (map-map (known_or false) (λ s. related eq (through s) r) xs ∙ (λ i. map (λ s. equal_is_same (through s) r is i) xs))

-- one choice under a predicate that is turned, and all
turned_choice : (t : ArrowType) (p l r : Slot) → choice t (negated p) l r ≡ choice t p r l
turned_choice t (Boolean true) l r = refl
turned_choice t p l r = refl

pub turned_choices : (ps ls rs : List Slot) (t : ArrowType) → chosen (map negated ps) ls rs t ≡ chosen ps rs ls t
turned_choices (p ∷ ps) [] [] t = refl
turned_choices (p ∷ ps) (l ∷ ls) (r ∷ rs) t = λ i. turned_choice t p l r i ∷ turned_choices ps ls rs t i
turned_choices ps ls rs t = refl

pub ruleset laws = (differs_turned, same_no_null, differs_no_null, same_crossed, differs_crossed, lt_crossed, neq_pairs, lt_eq_pairs, gt_eq_pairs, nulled_all, turned_choices)
