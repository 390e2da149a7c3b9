-- The shortest ranges of a mask behind another one: those of both, with two that touch made one.
use Rattle.arrow_select.proofs.Common.{arith, ◌≡◌, ◌∙◌, ℕ, zero, suc, ◌+◌, ◌<◌, ◌≤◌, Bool, true, false, Some, None, List, [], ◌∷◌, ◌++◌, length, map, if◌then◌else◌, refl, ap, sym, append_assoc, ◌==◌, nat_tests, append-nil, length-append, length-map, map-append, All-cons, All-head, All-map, All-nil, All-tail, All-weaker, IsShortest, named, rows_from, true_rows, met, moved_ranges, with_range, IsRangesOf, cuts, cuts_on, goes_on, least, named_on_side, on_side, plain_shortest, shortest, All, range-add, Decides-eqb, Decides-like, same_from_decides}
use Rattle.arrow_select.proofs.RangedLemmas.{rows_range}

-- ---- the rows that are named

rows_more : (i n m : ℕ) → rows_from i (n + m) ≡ rows_from i n ++ rows_from (i + n) m
rows_more i n m =
    rows_range i (n + m) ∙ (range-add i n m ∙ (λ t. sym (rows_range i n) t ++ sym (rows_range (i + n) m) t))

named_with : (r : ℕ × ℕ) (qs : List (ℕ × ℕ)) → named (with_range r qs) ≡ rows_from r.0 r.1 ++ named qs
named_with r [] = refl
named_with r (q ∷ qs) =
    let both : (b : Bool) → (r.0 + r.1 == q.0) ≡ b → named (if b then (r.0, r.1 + q.1) ∷ qs else r ∷ q ∷ qs) ≡ rows_from r.0 r.1 ++ named (q ∷ qs) = elim [
      | true ↦ λ is.
          let at : r.0 + r.1 ≡ q.0 = grind (arith, nat_tests, is) in
          ap (λ rows. rows ++ named qs) (rows_more r.0 r.1 q.1) ∙ (append_assoc (rows_from r.0 r.1) (rows_from (r.0 + r.1) q.1) (named qs) ∙ ap (λ k. rows_from r.0 r.1 ++ (rows_from k q.1 ++ named qs)) at)
      | false ↦ λ is. refl
    ] in
    both (r.0 + r.1 == q.0) refl

named_met : (rs qs : List (ℕ × ℕ)) → named (met rs qs) ≡ named rs ++ named qs
named_met [] qs = refl
named_met (r ∷ rs) qs =
    named_with r (met rs qs) ∙ (ap (λ rows. rows_from r.0 r.1 ++ rows) (named_met rs qs) ∙ sym (append_assoc (rows_from r.0 r.1) (named rs) (named qs)))

rows_moved : (k i n : ℕ) → rows_from (k + i) n ≡ map (λ row. k + row) (rows_from i n)
rows_moved k i zero = refl
rows_moved k i (suc n) =
    let at : suc (k + i) ≡ k + suc i = omega arith in
    ap (λ rows. (k + i) ∷ rows) (ap (λ j. rows_from j n) at ∙ rows_moved k (suc i) n)

named_moved : (k : ℕ) (rs : List (ℕ × ℕ)) → named (moved_ranges k rs) ≡ map (λ row. k + row) (named rs)
named_moved k [] = refl
named_moved k (r ∷ rs) =
    (λ i. rows_moved k r.0 r.1 i ++ named_moved k rs i) ∙ sym (map-append (λ row. k + row) (rows_from r.0 r.1) (named rs))

true_moved : (k i : ℕ) (mask : List Bool) → true_rows (k + i) mask ≡ map (λ row. k + row) (true_rows i mask)
true_moved k i [] = refl
true_moved k i (true ∷ mask) =
    let at : suc (k + i) ≡ k + suc i = omega arith in
    ap (λ rows. (k + i) ∷ rows) (ap (λ j. true_rows j mask) at ∙ true_moved k (suc i) mask)
true_moved k i (false ∷ mask) =
    let at : suc (k + i) ≡ k + suc i = omega arith in
    ap (λ j. true_rows j mask) at ∙ true_moved k (suc i) mask

true_behind : (i : ℕ) (mask more : List Bool) → true_rows i (mask ++ more) ≡ true_rows i mask ++ true_rows (i + length mask) more
true_behind i [] more =
    let none : i ≡ i + 0 = omega arith in
    ap (λ j. true_rows j more) none
true_behind i (true ∷ mask) more =
    let at : suc i + length mask ≡ i + suc (length mask) = omega arith in
    ap (λ rows. i ∷ rows) (true_behind (suc i) mask more ∙ ap (λ j. true_rows (suc i) mask ++ true_rows j more) at)
true_behind i (false ∷ mask) more =
    let at : suc i + length mask ≡ i + suc (length mask) = omega arith in
    true_behind (suc i) mask more ∙ ap (λ j. true_rows (suc i) mask ++ true_rows j more) at

-- ---- how many ranges there are at least

-- rows of no side, as those of side 0
abbrev sided : List ℕ → List (ℕ × ℕ)
sided = map (λ row. (0, row))

-- a range that names a row
abbrev IsSome : ℕ × ℕ → Type 0
IsSome r = 0 < r.1

-- ranges of which none is empty, and which are as few as ranges of their rows can be
record IsTight (rs : List (ℕ × ℕ)) : Type 0 where
  each : All IsSome rs
  few : length rs ≡ cuts None (sided (named rs))

tight_none : IsTight []
tight_none = record { each = All-nil IsSome; few = refl }

-- in the shortest ranges none is empty, and those behind the first are the shortest of their rows
none_empty : (rs : List (ℕ × ℕ)) → IsShortest rs → All IsSome rs
none_empty [] h = All-nil IsSome
none_empty (r ∷ rs) h =
    let some : (n : ℕ) → r.1 ≡ n → 0 < r.1 = elim [
      | zero ↦ λ is.
          let fewer = h rs (ap (λ n. rows_from r.0 n ++ named rs) (sym is)) in
          absurd (omega (arith, fewer))
      | (suc n) ↦ λ is. omega (arith, is)
    ] in
    All-cons IsSome r rs (some r.1 refl) (none_empty rs (λ others same.
    let all = h (r ∷ others) (ap (λ rows. rows_from r.0 r.1 ++ rows) same) in
    omega (arith, all)))

-- the cuts of a range and what comes behind it
cuts_with : (i n : ℕ) (rows : List ℕ) → cuts None (sided (rows_from i (suc n) ++ rows)) ≡ suc (cuts (Some (0, i + n)) (sided rows))
cuts_with i n rows =
    ap suc (ap (cuts (Some (0, i))) (map-append (λ row. (0, row)) (rows_from (suc i) n) rows) ∙ cuts_on 0 i n (sided rows))

tight_with : (r : ℕ × ℕ) (qs : List (ℕ × ℕ)) → IsSome r → IsTight qs → IsTight (with_range r qs)
tight_with (i, zero) qs some tight = absurd (omega (arith, some))
tight_with (i, suc n) [] some tight =
    record { each = All-cons IsSome (i, suc n) [] some (All-nil IsSome); few = sym (cuts_with i n []) }
tight_with (i, suc n) ((j, zero) ∷ qs) some tight =
    absurd (omega (arith, All-head IsSome (j, zero) qs tight.each))
tight_with (i, suc n) ((j, suc m) ∷ qs) some tight =
    let c = cuts (Some (0, j)) (sided (rows_from (suc j) m ++ named qs)) in
    let held : suc (length qs) ≡ suc c = tight.few in
    let both : (b : Bool) → (i + suc n == j) ≡ b → IsTight (if b then (i, suc n + suc m) ∷ qs else (i, suc n) ∷ (j, suc m) ∷ qs) = elim [
      | true ↦ λ is.
          let at : i + suc n ≡ j = grind (arith, nat_tests, is) in
          let on : goes_on (Some (0, i + n)) (0, j) ≡ true = grind (arith, nat_tests, at) in
          let last : cuts (Some (0, i + n)) (sided (named ((j, suc m) ∷ qs))) ≡ c = ap (λ b. if b then c else suc c) on in
          let names : named ((i, suc n + suc m) ∷ qs) ≡ rows_from i (suc n) ++ named ((j, suc m) ∷ qs) = ap (λ b. named (if b then (i, suc n + suc m) ∷ qs else (i, suc n) ∷ (j, suc m) ∷ qs)) (sym is) ∙ named_with (i, suc n) ((j, suc m) ∷ qs) in
          record {
            each = All-cons IsSome (i, suc n + suc m) qs (omega arith) (All-tail IsSome (j, suc m) qs tight.each);
            few = held ∙ sym (ap (λ rows. cuts None (sided rows)) names ∙ (cuts_with i n (named ((j, suc m) ∷ qs)) ∙ ap suc last));
          }
      | false ↦ λ is.
          let off : i + suc n ≡ j → ⊥ = λ at. grind (arith, nat_tests, is, at) in
          let on : goes_on (Some (0, i + n)) (0, j) ≡ false = grind (arith, nat_tests, off) in
          let last : cuts (Some (0, i + n)) (sided (named ((j, suc m) ∷ qs))) ≡ suc c = ap (λ b. if b then c else suc c) on in
          record {
            each = All-cons IsSome (i, suc n) ((j, suc m) ∷ qs) some tight.each;
            few = ap suc held ∙ sym (cuts_with i n (named ((j, suc m) ∷ qs)) ∙ ap suc last);
          }
    ] in
    both (i + suc n == j) refl

tight_met : (rs qs : List (ℕ × ℕ)) → All IsSome rs → IsTight qs → IsTight (met rs qs)
tight_met [] qs some tight = tight
tight_met (r ∷ rs) qs some tight =
    tight_with r (met rs qs) (All-head IsSome r rs some) (tight_met rs qs (All-tail IsSome r rs some) tight)

-- the shortest ranges are as few as can be: else they were fewer with those that touch made one
shortest_tight : (rs : List (ℕ × ℕ)) → IsShortest rs → IsTight rs
shortest_tight rs h =
    let some = none_empty rs h in
    let tight = tight_met rs [] some tight_none in
    let same : named (met rs []) ≡ named rs = named_met rs [] ∙ append-nil (named rs) in
    record {
      each = some;
      few = omega (arith, h (met rs []) same, tight.few, ap (λ rows. cuts None (sided rows)) same, least None (map on_side rs), ap (cuts None) (named_on_side rs), length-map rs on_side);
    }

tight_shortest : (rs : List (ℕ × ℕ)) → IsTight rs → IsShortest rs
tight_shortest rs tight =
    plain_shortest rs (shortest (map on_side rs) (omega (arith, tight.few, ap (cuts None) (named_on_side rs), length-map rs on_side)))

-- rows further on have as many cuts
same_step : (k i j : ℕ) → goes_on (Some (0, k + i)) (0, k + j) ≡ goes_on (Some (0, i)) (0, j)
same_step k i j =
    same_from_decides (suc (k + i) == k + j) (suc i == j) (Decides-eqb (suc (k + i)) (k + j)) (Decides-like (suc i == j) (λ (at : suc i ≡ j). omega (arith, at)) (λ (at : suc (k + i) ≡ k + j). omega (arith, at)) (Decides-eqb (suc i) j))

cuts_moved : (k i : ℕ) (rows : List ℕ) → cuts (Some (0, k + i)) (sided (map (λ row. k + row) rows)) ≡ cuts (Some (0, i)) (sided rows)
cuts_moved k i [] = refl
cuts_moved k i (j ∷ rows) =
    λ t. if same_step k i j t then cuts_moved k j rows t else suc (cuts_moved k j rows t)

all_cuts_moved : (k : ℕ) (rows : List ℕ) → cuts None (sided (map (λ row. k + row) rows)) ≡ cuts None (sided rows)
all_cuts_moved k [] = refl
all_cuts_moved k (j ∷ rows) = ap suc (cuts_moved k j rows)

tight_moved : (k : ℕ) (rs : List (ℕ × ℕ)) → IsTight rs → IsTight (moved_ranges k rs)
tight_moved k rs tight =
    let long : length (moved_ranges k rs) ≡ length rs = length-map rs (λ (r : ℕ × ℕ). (k + r.0, r.1)) in
    record {
      each = All-map IsSome (λ (r : ℕ × ℕ). (k + r.0, r.1)) rs tight.each;
      few = omega (arith, tight.few, long, ap (λ rows. cuts None (sided rows)) (named_moved k rs), all_cuts_moved k (named rs));
    }

-- ---- where they end

abbrev EndsBy : ℕ → ℕ × ℕ → Type 0
EndsBy n r = r.0 + r.1 ≤ n

ends_with : (n : ℕ) (r : ℕ × ℕ) (qs : List (ℕ × ℕ)) → EndsBy n r → All (EndsBy n) qs → All (EndsBy n) (with_range r qs)
ends_with n r [] here all = All-cons (EndsBy n) r [] here all
ends_with n r (q ∷ qs) here all =
    let both : (b : Bool) → (r.0 + r.1 == q.0) ≡ b → All (EndsBy n) (if b then (r.0, r.1 + q.1) ∷ qs else r ∷ q ∷ qs) = elim [
      | true ↦ λ is.
          let at : r.0 + r.1 ≡ q.0 = grind (arith, nat_tests, is) in
          All-cons (EndsBy n) (r.0, r.1 + q.1) qs (omega (arith, at, All-head (EndsBy n) q qs all)) (All-tail (EndsBy n) q qs all)
      | false ↦ λ is. All-cons (EndsBy n) r (q ∷ qs) here all
    ] in
    both (r.0 + r.1 == q.0) refl

ends_met : (n : ℕ) (rs qs : List (ℕ × ℕ)) → All (EndsBy n) rs → All (EndsBy n) qs → All (EndsBy n) (met rs qs)
ends_met n [] qs all more = more
ends_met n (r ∷ rs) qs all more =
    ends_with n r (met rs qs) (All-head (EndsBy n) r rs all) (ends_met n rs qs (All-tail (EndsBy n) r rs all) more)

-- ---- a mask behind another one

pub ranges_behind : (rs qs : List (ℕ × ℕ)) (mask more : List Bool) → IsRangesOf rs mask → IsRangesOf qs more → IsRangesOf (met rs (moved_ranges (length mask) qs)) (mask ++ more)
ranges_behind rs qs mask more first second =
    let n = length mask in
    let none : n + 0 ≡ 0 + n = omega arith in
    let later : named (moved_ranges n qs) ≡ true_rows (0 + n) more = named_moved n qs ∙ (ap (map (λ row. n + row)) second.names ∙ (sym (true_moved n 0 more) ∙ ap (λ j. true_rows j more) none)) in
    let long = length-append mask more in
    record {
      names = named_met rs (moved_ranges n qs) ∙ ((λ i. first.names i ++ later i) ∙ sym (true_behind 0 mask more));
      shortest = tight_shortest (met rs (moved_ranges n qs)) (tight_met rs (moved_ranges n qs) (none_empty rs first.shortest) (tight_moved n qs (shortest_tight qs second.shortest)));
      within = ends_met (length (mask ++ more)) rs (moved_ranges n qs) (All-weaker (EndsBy n) (EndsBy (length (mask ++ more))) (λ r h. omega (arith, h, long)) rs first.within) (All-map (EndsBy (length (mask ++ more))) (λ (r : ℕ × ℕ). (n + r.0, r.1)) qs (All-weaker (EndsBy (length more)) (λ (r : ℕ × ℕ). EndsBy (length (mask ++ more)) (n + r.0, r.1)) (λ r h. omega (arith, h, long)) qs second.within));
    }
