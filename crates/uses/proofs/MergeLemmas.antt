-- Two lists of rows that are merged, a row at a time.
use Rattle.uses.proofs.Common.{Bool, Grown, IsMerge, IsPermutation-cons, IsPermutation-middle, IsPermutation-refl, IsPermutation-trans, Layout, LeadsTo, List, MatchesOrder, MayPrecede, None, Null, Number, Option, Parts, Slot, Some, [], append-nil, append_assoc, appended, drop, drop_all, drop_more, false, flat, get_or, inl, inr, int_rows, is_null, length, map, masked, named_rows, not, slice_get, sliced, slot_of_row, suc, take_rest, true, zero, ℕ, ℤ, ◌++◌, ◌+◌, ◌-◌, ◌<◌, ◌∷◌, ◌≡◌, ◌≤◌, ◌⊎◌}

-- ---- rows that merge two lists

-- and what may stand in front of both lists may stand in front of them
pub record IsMergeOf (ls rs rows : List Slot) : Type 0 where
  pub is : IsMerge ls rs rows
  pub first : (x : Slot) → LeadsTo x ls → LeadsTo x rs → LeadsTo x rows

-- one list alone
left_alone : (ls : List Slot) → IsMergeOf ls [] ls
left_alone ls = record { is = record { same = rw (append-nil ls) (IsPermutation-refl ls); sorted = λ a b. a }; first = λ x a b. a }

right_alone : (rs : List Slot) → IsMergeOf [] rs rs
right_alone rs = record { is = record { same = IsPermutation-refl rs; sorted = λ a b. b }; first = λ x a b. b }

-- with a row more in front of one list, which may stand in front of the other
left_row : (x : Slot) (ls rs rows : List Slot) → LeadsTo x rs → IsMergeOf ls rs rows → IsMergeOf (x ∷ ls) rs (x ∷ rows)
left_row x ls rs rows leads merge =
    let same = IsPermutation-cons x (ls ++ rs) rows merge.is.same in
    record { is = record { same = same; sorted = λ a b. (merge.first x a.0 leads, merge.is.sorted a.1 b) }; first = λ z a b. a }

right_row : (y : Slot) (ls rs rows : List Slot) → LeadsTo y ls → IsMergeOf ls rs rows → IsMergeOf ls (y ∷ rs) (y ∷ rows)
right_row y ls rs rows leads merge =
    let same = IsPermutation-trans _ _ _ (IsPermutation-middle ls y rs) (IsPermutation-cons y (ls ++ rs) rows merge.is.same) in
    record { is = record { same = same; sorted = λ a b. (merge.first y leads b.0, merge.is.sorted a b.1) }; first = λ z a b. b }

-- ---- rows that are merged so far

-- whatever merges what is left of two lists goes on with them
pub record Merges (ls rs : List Slot) (i j : ℕ) (rows : List Slot) : Type 0 where
  pub on : (rest : List Slot) → IsMergeOf (drop i ls) (drop j rs) rest → IsMergeOf ls rs (rows ++ rest)

-- with a row more of either list, which may stand in front of the other's next
merges_left : (ls rs rows : List Slot) (i j : ℕ) → i < length ls → j < length rs → MayPrecede (get_or ls i Null) (get_or rs j Null) → Merges ls rs i j rows → Merges ls rs (i + 1) j (rows ++ sliced ls i 1)
merges_left ls rs rows i j here there first so_far =
    let row = drop_more ls i Null here in
    let leads : LeadsTo (get_or ls i Null) (drop j rs) = rw (drop_more rs j Null there) first in
    record { on = λ rest merge. rw (row, append_assoc) (so_far.on (get_or ls i Null ∷ rest) (rw row (left_row _ _ _ rest leads merge))) }

merges_right : (ls rs rows : List Slot) (i j : ℕ) → i < length ls → j < length rs → MayPrecede (get_or rs j Null) (get_or ls i Null) → Merges ls rs i j rows → Merges ls rs i (j + 1) (rows ++ sliced rs j 1)
merges_right ls rs rows i j here there first so_far =
    let row = drop_more rs j Null there in
    let leads : LeadsTo (get_or rs j Null) (drop i ls) = rw (drop_more ls i Null here) first in
    record { on = λ rest merge. rw (row, append_assoc) (so_far.on (get_or rs j Null ∷ rest) (rw row (right_row _ _ _ rest leads merge))) }

-- and with what is left of each, where one is used up
merges_all : (ls rs rows : List Slot) (i j : ℕ) → (length ls ≤ i) ⊎ (length rs ≤ j) → Merges ls rs i j rows → IsMerge ls rs ((rows ++ sliced ls i (length ls - i)) ++ sliced rs j (length rs - j))
merges_all ls rs rows i j past so_far =
    let last : IsMergeOf (drop i ls) (drop j rs) (drop i ls ++ drop j rs) = elim past [
      | inl none ↦ rw (drop_all i ls none) (right_alone (drop j rs))
      | inr none ↦ rw (drop_all j rs none, append-nil (drop i ls)) (left_alone (drop i ls))
    ] in
    rw (take_rest ls i, take_rest rs j, append_assoc) (so_far.on (drop i ls ++ drop j rs) last).is

-- ---- a growable over two arrays

-- their layouts
abbrev pub both : Parts (List ℤ) → Parts (List ℤ) → List Layout
both left right = flat left.arrow_type (int_rows left) ∷ flat right.arrow_type (int_rows right) ∷ []

-- it holds what is merged of them up to a row of each
pub record HoldsMerged (left right : Parts (List ℤ)) (i j : ℕ) (g : Grown) : Type 0 where
  pub type_is : g.arrow_type ≡ left.arrow_type
  pub sources : g.sources ≡ Some (both left right)
  pub merges : Merges (int_rows left) (int_rows right) i j g.rows

-- after a row of either
pub holds_left : (left right : Parts (List ℤ)) (i j : ℕ) (g new : Grown) (is_first : Bool) → i < length (int_rows left) → j < length (int_rows right) → is_first ≡ true → MatchesOrder is_first (get_or (int_rows left) i Null) (get_or (int_rows right) j Null) → new ≡ appended g (named_rows g 0 i 1) → HoldsMerged left right i j g → HoldsMerged left right (i + 1) j new
holds_left left right i j g new is_first here there told order is held =
    let merges = merges_left (int_rows left) (int_rows right) g.rows i j here there (rw told at order) held.merges in
    rw is (record { type_is = held.type_is; sources = held.sources; merges = rw held.sources merges })

pub holds_right : (left right : Parts (List ℤ)) (i j : ℕ) (g new : Grown) (is_first : Bool) → i < length (int_rows left) → j < length (int_rows right) → is_first ≡ false → MatchesOrder is_first (get_or (int_rows left) i Null) (get_or (int_rows right) j Null) → new ≡ appended g (named_rows g 1 j 1) → HoldsMerged left right i j g → HoldsMerged left right i (j + 1) new
holds_right left right i j g new is_first here there told order is held =
    let merges = merges_right (int_rows left) (int_rows right) g.rows i j here there (rw told at order) held.merges in
    rw is (record { type_is = held.type_is; sources = held.sources; merges = rw held.sources merges })

-- and after all that is left
pub holds_all : (left right : Parts (List ℤ)) (i j n m : ℕ) (g more new : Grown) → (length (int_rows left) ≤ i) ⊎ (length (int_rows right) ≤ j) → n ≡ length (int_rows left) → m ≡ length (int_rows right) → more ≡ appended g (named_rows g 0 i (n - i)) → new ≡ appended more (named_rows more 1 j (m - j)) → HoldsMerged left right i j g → IsMerge (int_rows left) (int_rows right) new.rows
holds_all left right i j n m g more new past long other first second held =
    rw (second, first, long, other, held.sources) (merges_all (int_rows left) (int_rows right) g.rows i j past held.merges)

-- ---- one row

-- a row that is valid is the number that is stored
pub number_at : (v : Option (List Bool)) (values : List ℤ) (i : ℕ) (n : ℤ) → slice_get values i ≡ Some n → not (is_null (get_or (masked v (map Number values)) i Null)) ≡ true → get_or (masked v (map Number values)) i Null ≡ Number n
number_at None values i n read valid = slot_of_row Number values i n read
number_at (Some (b ∷ bits)) (m ∷ values) (suc i) n read valid = number_at (Some bits) values i n read valid
number_at (Some (true ∷ bits)) (m ∷ values) zero n read valid = cc
number_at (Some bits) values i n read valid = cc
