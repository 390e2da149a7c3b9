-- Relations of two rows, and whether they are the same.
use Rattle.std.proofs.Common.{◌≡◌, Bool, true, false, not, refl, ap, sym, subst, ◌∙◌}
use Rattle.std.specs.Prelude.{◌&&◌, if◌then◌else◌}
use Rattle.std.specs.declared.cmp.Ordering.{Ordering}
use Rattle.std.specs.declared.cmp.Ordering.TheVariants.{Less, Equal, Greater}
use Rattle.std.specs.Ordering.{int_cmp, ordering_reverse}
use Rattle.std.proofs.lemmas.Bool.Decides.{same_from_decides}
use Rattle.std.proofs.lemmas.Cmp.{int_cmp_total, nat_list_cmp_total}
use Rattle.arrow_types.specs.Logic.{negated}
use Rattle.arrow_types.specs.Relation.{eq, lt, lt_eq, gt, gt_eq, holds, byte_order, related, same, is_null, nulled}
use Rattle.arrow_types.specs.SameTree.{same_by-decides, same_by-equivalence}
use Rattle.arrow_types.specs.Slot.{Slot, Null, Boolean, Number, DayTime, MonthDayNano, Bytes, Text}
use Rattle.arrow_types.specs.StoredSlot.{slot_code}
use Rattle.arrow_relate.specs.Same.{is_same}
use Rattle.arrow_compare.specs.Filled.{known_or}
use Rattle.arrow_relate.proofs.SameLemmas.{equality_decides, turned}

-- ---- which side is the left one

pub same_swap : (give : Bool → Slot) (s r : Slot) → give (same s r) ≡ give (same r s)
same_swap give s r = ap give ((same_by-equivalence slot_code).symm s r)

lt_reversed : (o p : Ordering) → o ≡ ordering_reverse p → Boolean (holds lt o) ≡ Boolean (holds gt p)
lt_reversed o Less is = ap (λ o. Boolean (holds lt o)) is
lt_reversed o p is = ap (λ o. Boolean (holds lt o)) is

pub lt_swap : (s r : Slot) → related lt s r ≡ related gt r s
lt_swap (Number m) (Number n) = lt_reversed (int_cmp m n) (int_cmp n m) (int_cmp_total.antisymm m n)
lt_swap (Boolean true) (Boolean true) = refl
lt_swap (Boolean false) (Boolean false) = refl
lt_swap (Boolean a) (Boolean b) = refl
lt_swap (Text a) (Text b) = lt_reversed (byte_order a b) (byte_order b a) (nat_list_cmp_total.antisymm a b)
lt_swap (Bytes a) (Bytes b) = lt_reversed (byte_order a b) (byte_order b a) (nat_list_cmp_total.antisymm a b)
lt_swap (DayTime d m) (DayTime e n) = refl
lt_swap (MonthDayNano m d n) (MonthDayNano k e l) = refl
lt_swap s (Number n) = refl
lt_swap s r = refl

-- ---- relations that are turned

pub lt_eq_turned : (s r : Slot) → related lt_eq s r ≡ negated (related gt s r)
lt_eq_turned = turned lt_eq gt (elim [ Less ↦ refl | Equal ↦ refl | Greater ↦ refl ]) (λ b. refl)

pub gt_eq_turned : (s r : Slot) → related gt_eq s r ≡ negated (related lt s r)
gt_eq_turned = turned gt_eq lt (elim [ Less ↦ refl | Equal ↦ refl | Greater ↦ refl ]) (λ b. refl)

-- ---- rows that are one

nulled_same : (s : Slot) → (if not (is_null s) && true then Null else s) ≡ Null
nulled_same Null = refl
nulled_same s = refl

pub nulled_itself : (s : Slot) → nulled s s ≡ Null
nulled_itself s =
    ap (λ b. if not (is_null s) && b then Null else s) ((same_by-equivalence slot_code).refl s) ∙ nulled_same s

-- ---- rows that are the same

same_is : (b : Bool) (s r : Slot) → (s ≡ r → b ≡ true) → (b ≡ true → s ≡ r) → Boolean b ≡ is_same s r
same_is b s r from to = ap Boolean (same_from_decides b (same s r) (to, from) (same_by-decides slot_code s r))

pub same_null : (s : Slot) → Boolean (is_null s) ≡ is_same s Null
same_null Null = same_is true Null Null (λ e. refl) (λ e. refl)
same_null s = same_is false s Null (λ e. cc) (λ e. cc)

-- a value that has equality: it has an answer of itself
abbrev pub IsComparable : Slot → Type 0
IsComparable r = known_or false (related eq r r) ≡ related eq r r

known_same : (s r t : Slot) → related eq s r ≡ t → IsComparable r → known_or false t ≡ is_same s r
known_same s r (Boolean b) answer is =
    let decides = equality_decides s r b answer in
    same_is b s r decides.1 decides.0
known_same s r t answer is =
    same_is false s r (λ one. let itself : known_or false t ≡ t = subst (λ x. known_or false x ≡ x) (ap (λ x. related eq x r) (sym one) ∙ answer) is in cc) (λ e. cc)

pub equal_is_same : (s r : Slot) → IsComparable r → known_or false (related eq s r) ≡ is_same s r
equal_is_same s r is = known_same s r (related eq s r) refl is
