-- When two rows are the same, and what equality tells of it.
use Rattle.std.proofs.Common.{◌≡◌, ◌∙◌, ℕ, Bool, true, false, not, ◌&&◌, List, if◌then◌else◌, ap, sym, subst, refl}
use Rattle.std.specs.Bool.{Decides}
use Rattle.std.specs.Ordering.{int_cmp, int_eq, is_eq}
use Rattle.std.specs.declared.cmp.Ordering.{Ordering}
use Rattle.std.specs.declared.cmp.Ordering.TheVariants.{Less, Equal, Greater}
use Rattle.std.proofs.lemmas.Bool.Decides.{Decides-and, Decides-int_eq, Decides-like, same_from_decides}
use Rattle.std.specs.Str.{bytes_eq}
use Rattle.std.proofs.lemmas.Map.Text.{is_eq-slice_cmp}
use Rattle.std.proofs.lemmas.Slice.Eq.{bytes_eq-Decides}
use Rattle.arrow_types.specs.Logic.{finished_eq, finished_neq, negated}
use Rattle.arrow_types.specs.NumberSlots.{equal_ints}
use Rattle.arrow_types.specs.Relation.{Relation, related, eq, neq, holds, bool_order, by_equality, byte_order, same}
use Rattle.arrow_types.specs.SameTree.{same_by-decides}
use Rattle.arrow_types.specs.Slot.{Slot, Null, Boolean, Number, DayTime, MonthDayNano, Bytes, Text}
use Rattle.arrow_types.specs.StoredSlot.{slot_code}
use Rattle.arrow_flat.proofs.StoredLemmas.{truth_values_same}
use Rattle.arrow_relate.specs.Same.{differs, is_same}
use Rattle.arrow_relate.proofs.NullLemmas.{null_left, null_right}

holds_eq : (o : Ordering) → holds eq o ≡ is_eq o
holds_eq Less = refl
holds_eq Equal = refl
holds_eq Greater = refl

equal_bytes : (x y : List ℕ) → holds eq (byte_order x y) ≡ bytes_eq x y
equal_bytes x y = holds_eq (byte_order x y) ∙ is_eq-slice_cmp x y

-- the answer of a test that decides
decided : (b c : Bool) (s r : Slot) → Boolean c ≡ Boolean b → Decides c (s ≡ r) → Decides b (s ≡ r)
decided b c s r is decides = subst (λ t. Decides t (s ≡ r)) (truth_values_same c b is) decides

-- where equality answers of two rows it tells whether they are one
pub equality_decides : (s r : Slot) (b : Bool) → related eq s r ≡ Boolean b → Decides b (s ≡ r)
equality_decides (Number m) (Number n) b is =
    decided b (int_eq m n) (Number m) (Number n) (sym (equal_ints m n) ∙ is) (Decides-like (int_eq m n) (λ e. ap Number e) (λ e. cc) (Decides-int_eq m n))
equality_decides (Boolean true) (Boolean true) b is = decided b true (Boolean true) (Boolean true) is (λ e. refl, λ e. refl)
equality_decides (Boolean true) (Boolean false) b is = decided b false (Boolean true) (Boolean false) is (λ e. cc, λ e. cc)
equality_decides (Boolean false) (Boolean true) b is = decided b false (Boolean false) (Boolean true) is (λ e. cc, λ e. cc)
equality_decides (Boolean false) (Boolean false) b is = decided b true (Boolean false) (Boolean false) is (λ e. refl, λ e. refl)
equality_decides (DayTime d m) (DayTime e n) b is =
    decided b (int_eq d e && int_eq m n) (DayTime d m) (DayTime e n) is (Decides-like (int_eq d e && int_eq m n) (λ q i. DayTime (q.0 i) (q.1 i)) (λ q. (cc, cc)) (Decides-and (int_eq d e) (int_eq m n) (Decides-int_eq d e) (Decides-int_eq m n)))
equality_decides (MonthDayNano m d n) (MonthDayNano k e l) b is =
    let first = Decides-and (int_eq m k) (int_eq d e) (Decides-int_eq m k) (Decides-int_eq d e) in
    let all = Decides-and (int_eq m k && int_eq d e) (int_eq n l) first (Decides-int_eq n l) in
    decided b (int_eq m k && int_eq d e && int_eq n l) (MonthDayNano m d n) (MonthDayNano k e l) is (Decides-like (int_eq m k && int_eq d e && int_eq n l) (λ q i. MonthDayNano (q.0.0 i) (q.0.1 i) (q.1 i)) (λ q. ((cc, cc), cc)) all)
equality_decides (Text x) (Text y) b is =
    decided b (bytes_eq x y) (Text x) (Text y) (sym (ap Boolean (equal_bytes x y)) ∙ is) (Decides-like (bytes_eq x y) (λ e. ap Text e) (λ e. cc) (bytes_eq-Decides x y))
equality_decides (Bytes x) (Bytes y) b is =
    decided b (bytes_eq x y) (Bytes x) (Bytes y) (sym (ap Boolean (equal_bytes x y)) ∙ is) (Decides-like (bytes_eq x y) (λ e. ap Bytes e) (λ e. cc) (bytes_eq-Decides x y))
equality_decides s r b is = cc

-- ---- rows of two sides, each of them valid or not

-- whether they are the same, where b says whether what is stored is equal
same_is : (s r : Slot) (b : Bool) → Decides b (s ≡ r) → same s r ≡ b
same_is s r b decides = same_from_decides (same s r) b (same_by-decides slot_code s r) decides

-- what equality answers of is no null
pub finished_row : (p q : Bool) (s r : Slot) (b : Bool) → related eq s r ≡ Boolean b → finished_eq (Boolean b) p q ≡ is_same (if p then s else Null) (if q then r else Null)
finished_row true true s r b is = ap Boolean (sym (same_is s r b (equality_decides s r b is)))
finished_row true false s r b is = ap Boolean (sym (same_is s Null false (λ e. cc, λ e. cc (null_left eq r))))
finished_row false true s r b is = ap Boolean (sym (same_is Null r false (λ e. cc, λ e. cc (null_right eq s))))
finished_row false false s r b is = ap Boolean (sym (same_is Null Null true (λ e. refl, λ e. refl)))

-- ---- the same of whether they are not

-- a relation that holds exactly where another one does not
pub turned : (op other : Relation) → ((o : Ordering) → holds op o ≡ not (holds other o)) → ((b : Bool) → by_equality op b ≡ negated (by_equality other b)) → (s r : Slot) → related op s r ≡ negated (related other s r)
turned op other one alone (Number m) (Number n) = ap Boolean (one (int_cmp m n))
turned op other one alone (Boolean a) (Boolean b) = ap Boolean (one (bool_order a b))
turned op other one alone (Text a) (Text b) = ap Boolean (one (byte_order a b))
turned op other one alone (Bytes a) (Bytes b) = ap Boolean (one (byte_order a b))
turned op other one alone (DayTime d m) (DayTime e n) = alone _
turned op other one alone (MonthDayNano m d n) (MonthDayNano k e l) = alone _
turned op other one alone s r = refl

pub neq_turned : (s r : Slot) → related neq s r ≡ negated (related eq s r)
neq_turned = turned neq eq (elim [ Less ↦ refl | Equal ↦ refl | Greater ↦ refl ]) (λ b. refl)

-- what is turned to a truth value is the other one
turned_back : (x : Slot) (b : Bool) → negated x ≡ Boolean b → x ≡ Boolean (not b)
turned_back (Boolean true) false is = refl
turned_back (Boolean false) true is = refl
turned_back x b is = cc

finished_turned : (b p q : Bool) → finished_neq (Boolean b) p q ≡ negated (finished_eq (Boolean (not b)) p q)
finished_turned true true true = refl
finished_turned false true true = refl
finished_turned b true false = refl
finished_turned b false true = refl
finished_turned b false false = refl

pub finished_other : (p q : Bool) (s r : Slot) (b : Bool) → related neq s r ≡ Boolean b → finished_neq (Boolean b) p q ≡ differs (if p then s else Null) (if q then r else Null)
finished_other p q s r b is =
    finished_turned b p q ∙ ap negated (finished_row p q s r (not b) (turned_back (related eq s r) b (sym (neq_turned s r) ∙ is)))
