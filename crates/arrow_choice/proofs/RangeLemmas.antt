-- Ranges of rows, each with a side: no list of them has fewer members than there are rows that do not come right behind the row
-- before them on its side, and a walk that ends a range where the side turns has as many.
use Rattle.arrow_choice.proofs.Common.{arith, ◌≡◌, ◌+◌, ◌<◌, ◌≤◌, ℕ, zero, suc, Bool, true, false, Option, Some, None, List, [], ◌∷◌, ◌++◌, length, map, replicate, if◌then◌else◌, refl, ap, sym, subst, ◌∙◌, append_assoc, ◌==◌, ◌&&◌, slice_get, nat_tests, append-nil, length-append, length-map, map-append, IsShortest, IsShortestOfSides, named_sides, true_rows, map-id, map-map}
use Rattle.arrow_types.specs.Ranges.{named, rows_from}

-- ---- rows that have a label: a kept row 0 and a dropped one none, or a row of a predicate its side

-- those rows, each beside its label, where the first is row i
abbrev pub labelled : ℕ → List (Option ℕ) → List (ℕ × ℕ)
labelled i [] = []
labelled i (None ∷ ls) = labelled (suc i) ls
labelled i (Some s ∷ ls) = (s, i) ∷ labelled (suc i) ls

abbrev pub kept_label : Bool → Option ℕ
kept_label b = if b then Some 0 else None

-- a range without a side, as one of side 0
abbrev pub on_side : ℕ × ℕ → ℕ × ℕ × ℕ
on_side r = (0, r.0, r.1)

-- ---- the lower bound

-- whether a row comes right behind another one on its side
abbrev pub goes_on : Option (ℕ × ℕ) → ℕ × ℕ → Bool
goes_on None q = false
goes_on (Some p) q = p.0 == q.0 && suc p.1 == q.1

-- how many rows do not, where the first of them comes behind p
abbrev pub cuts : Option (ℕ × ℕ) → List (ℕ × ℕ) → ℕ
cuts p [] = 0
cuts p (q ∷ qs) = if goes_on p q then cuts (Some q) qs else suc (cuts (Some q) qs)

pub cuts_on : (s i n : ℕ) (rest : List (ℕ × ℕ)) → cuts (Some (s, i)) (map (λ row. (s, row)) (rows_from (suc i) n) ++ rest) ≡ cuts (Some (s, i + n)) rest
cuts_on s i zero rest =
    let none : i ≡ i + 0 = omega arith in
    ap (λ k. cuts (Some (s, k)) rest) none
cuts_on s i (suc n) rest =
    let at : suc i + n ≡ i + suc n = omega arith in
    let next : goes_on (Some (s, i)) (s, suc i) ≡ true = grind (arith, nat_tests) in
    let more = cuts (Some (s, suc i)) (map (λ row. (s, row)) (rows_from (suc (suc i)) n) ++ rest) in
    ap (λ b. if b then more else suc more) next ∙ (cuts_on s (suc i) n rest ∙ ap (λ k. cuts (Some (s, k)) rest) at)

one_more : (b : Bool) (n : ℕ) → (if b then n else suc n) ≤ suc n
one_more true n = omega arith
one_more false n = omega arith

-- a range adds one at most
least_range : (s i n : ℕ) (p : Option (ℕ × ℕ)) (rest : List (ℕ × ℕ)) (m : ℕ) → ((q : Option (ℕ × ℕ)) → cuts q rest ≤ m) → cuts p (map (λ row. (s, row)) (rows_from i n) ++ rest) ≤ suc m
least_range s i zero p rest m few = omega (arith, few p)
least_range s i (suc n) p rest m few =
    let more = cuts (Some (s, i)) (map (λ row. (s, row)) (rows_from (suc i) n) ++ rest) in
    omega (arith, one_more (goes_on p (s, i)) more, cuts_on s i n rest, few (Some (s, i + n)))

pub least : (p : Option (ℕ × ℕ)) (rs : List (ℕ × ℕ × ℕ)) → cuts p (named_sides rs) ≤ length rs
least p [] = omega arith
least p (r ∷ rs) = least_range r.0 r.1 r.2 p (named_sides rs) (length rs) (λ q. least q rs)

-- so ranges that are no more than this are the shortest
pub shortest : (rs : List (ℕ × ℕ × ℕ)) → length rs ≤ cuts None (named_sides rs) → IsShortestOfSides rs
shortest rs few others same = omega (arith, few, least None others, ap (cuts None) same)

-- ---- a walk over labels

-- the ranges so far name, with what is left from a row on, the rows of all labels, and are as few as they can be
pub record NamesUpTo (rs : List (ℕ × ℕ × ℕ)) (row : ℕ) (left labels : List (Option ℕ)) : Type 0 where
  pub names : named_sides rs ++ labelled row left ≡ labelled 0 labels
  pub count : length rs + cuts None (labelled row left) ≡ cuts None (labelled 0 labels)

labelled_none : (i n : ℕ) (ls : List (Option ℕ)) → labelled i (replicate n None ++ ls) ≡ labelled (i + n) ls
labelled_none i zero ls =
    let none : i ≡ i + 0 = omega arith in
    ap (λ k. labelled k ls) none
labelled_none i (suc n) ls =
    let at : suc i + n ≡ i + suc n = omega arith in
    labelled_none (suc i) n ls ∙ ap (λ k. labelled k ls) at

labelled_run : (s i n : ℕ) (ls : List (Option ℕ)) → labelled i (replicate n (Some s) ++ ls) ≡ map (λ row. (s, row)) (rows_from i n) ++ labelled (i + n) ls
labelled_run s i zero ls =
    let none : i ≡ i + 0 = omega arith in
    ap (λ k. labelled k ls) none
labelled_run s i (suc n) ls =
    let at : suc i + n ≡ i + suc n = omega arith in
    ap (λ qs. (s, i) ∷ qs) (labelled_run s (suc i) n ls ∙ ap (λ k. map (λ row. (s, row)) (rows_from (suc i) n) ++ labelled k ls) at)

-- behind a run of one label, what comes later, or has another label, begins a range of its own
later : (s i k : ℕ) (ls : List (Option ℕ)) → suc i < k → cuts (Some (s, i)) (labelled k ls) ≡ cuts None (labelled k ls)
later s i k [] h = refl
later s i k (None ∷ ls) h = later s i (suc k) ls (omega (arith, h))
later s i k (Some t ∷ ls) h =
    let one : goes_on (Some (s, i)) (t, k) ≡ false = grind (arith, nat_tests, h) in
    let more = cuts (Some (t, k)) (labelled (suc k) ls) in
    ap (λ b. if b then more else suc more) one

apart : (s i : ℕ) (ls : List (Option ℕ)) → (slice_get ls 0 ≡ Some (Some s) → ⊥) → cuts (Some (s, i)) (labelled (suc i) ls) ≡ cuts None (labelled (suc i) ls)
apart s i [] h = refl
apart s i (None ∷ ls) h = later s i (suc (suc i)) ls (omega arith)
apart s i (Some t ∷ ls) h =
    let other : s ≡ t → ⊥ = λ e. h (ap (λ k. Some (Some k)) (sym e)) in
    let one : goes_on (Some (s, i)) (t, suc i) ≡ false = grind (arith, nat_tests, other) in
    let more = cuts (Some (t, suc i)) (labelled (suc (suc i)) ls) in
    ap (λ b. if b then more else suc more) one

-- rows without a label are passed
pub names_past : (rs : List (ℕ × ℕ × ℕ)) (row n : ℕ) (left labels : List (Option ℕ)) → NamesUpTo rs row (replicate n None ++ left) labels → NamesUpTo rs (row + n) left labels
names_past rs row n left labels h =
    let past = labelled_none row n left in
    record {
      names = ap (λ qs. named_sides rs ++ qs) (sym past) ∙ h.names;
      count = ap (λ qs. length rs + cuts None qs) (sym past) ∙ h.count;
    }

named_sides-append : (xs ys : List (ℕ × ℕ × ℕ)) → named_sides (xs ++ ys) ≡ named_sides xs ++ named_sides ys
named_sides-append [] ys = refl
named_sides-append (r ∷ xs) ys =
    let here : List (ℕ × ℕ) = map (λ row. (r.0, row)) (rows_from r.1 r.2) in
    ap (λ qs. here ++ qs) (named_sides-append xs ys) ∙ sym (append_assoc here (named_sides xs) (named_sides ys))

-- a run of one label, as long as it can be, is one range
pub names_run : (rs : List (ℕ × ℕ × ℕ)) (row s n : ℕ) (left labels : List (Option ℕ)) → (slice_get left 0 ≡ Some (Some s) → ⊥) → NamesUpTo rs row (replicate (suc n) (Some s) ++ left) labels → NamesUpTo (rs ++ (s, row, suc n) ∷ []) (row + suc n) left labels
names_run rs row s n left labels ends h =
    let here : List (ℕ × ℕ) = map (λ i. (s, i)) (rows_from row (suc n)) in
    let rest = labelled (row + suc n) left in
    let all = labelled_run s row (suc n) left in
    let run : named_sides (rs ++ (s, row, suc n) ∷ []) ++ rest ≡ named_sides rs ++ (here ++ rest) = ap (λ qs. qs ++ rest) (named_sides-append rs ((s, row, suc n) ∷ []) ∙ ap (λ qs. named_sides rs ++ qs) (append-nil here)) ∙ append_assoc (named_sides rs) here rest in
    let at : suc (row + n) ≡ row + suc n = omega arith in
    let behind : cuts (Some (s, row + n)) rest ≡ cuts None rest = subst (λ k. cuts (Some (s, row + n)) (labelled k left) ≡ cuts None (labelled k left)) at (apart s (row + n) left ends) in
    record {
      names = run ∙ (ap (λ qs. named_sides rs ++ qs) (sym all) ∙ h.names);
      count = omega (arith, h.count, ap (cuts None) all, cuts_on s row n rest, behind, length-append rs ((s, row, suc n) ∷ []));
    }

-- where nothing is left all rows are named, by the shortest ranges
pub all_named : (rs : List (ℕ × ℕ × ℕ)) (row : ℕ) (labels : List (Option ℕ)) → NamesUpTo rs row [] labels → named_sides rs ≡ labelled 0 labels
all_named rs row labels h = sym (append-nil (named_sides rs)) ∙ h.names

pub all_shortest : (rs : List (ℕ × ℕ × ℕ)) (row : ℕ) (labels : List (Option ℕ)) → NamesUpTo rs row [] labels → IsShortestOfSides rs
all_shortest rs row labels h =
    shortest rs (omega (arith, h.count, ap (cuts None) (all_named rs row labels h)))

-- ---- ranges without sides

pub named_on_side : (rs : List (ℕ × ℕ)) → named_sides (map on_side rs) ≡ map (λ row. (0, row)) (named rs)
named_on_side [] = refl
named_on_side (r ∷ rs) =
    ap (λ qs. map (λ row. (0, row)) (rows_from r.0 r.1) ++ qs) (named_on_side rs) ∙ sym (map-append (λ row. (0, row)) (rows_from r.0 r.1) (named rs))

true_on_side : (i : ℕ) (mask : List Bool) → labelled i (map kept_label mask) ≡ map (λ row. (0, row)) (true_rows i mask)
true_on_side i [] = refl
true_on_side i (true ∷ mask) = ap (λ qs. (0, i) ∷ qs) (true_on_side (suc i) mask)
true_on_side i (false ∷ mask) = true_on_side (suc i) mask

-- rows of side 0 and rows without one are told by each other
same_rows : (xs ys : List ℕ) → ◌≡◌ {A = List (ℕ × ℕ)} (map (λ row. (0, row)) xs) (map (λ row. (0, row)) ys) → xs ≡ ys
same_rows xs ys same =
    let back = λ (zs : List ℕ). map-map (λ (q : ℕ × ℕ). q.1) (λ row. (0, row)) zs ∙ map-id zs in
    sym (back xs) ∙ (ap (map (λ (q : ℕ × ℕ). q.1)) same ∙ back ys)

pub plain_named : (rs : List (ℕ × ℕ)) (mask : List Bool) → named_sides (map on_side rs) ≡ labelled 0 (map kept_label mask) → named rs ≡ true_rows 0 mask
plain_named rs mask same =
    same_rows (named rs) (true_rows 0 mask) (sym (named_on_side rs) ∙ (same ∙ true_on_side 0 mask))

pub plain_shortest : (rs : List (ℕ × ℕ)) → IsShortestOfSides (map on_side rs) → IsShortest rs
plain_shortest rs h others same =
    let few = h (map on_side others) (named_on_side others ∙ (ap (map (λ row. (0, row))) same ∙ sym (named_on_side rs))) in
    omega (arith, few, length-map others on_side, length-map rs on_side)
