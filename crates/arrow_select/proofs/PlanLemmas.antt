-- The ranges of a mask: found in a walk over its runs, and the mask that they hold.
use Rattle.arrow_select.proofs.Common.{arith, inl, inr, ◌≡◌, ◌+◌, ◌-◌, ◌<◌, ◌≤◌, ℕ, zero, suc, Bool, true, false, Option, Some, List, [], ◌∷◌, ◌++◌, length, map, replicate, drop, get_or, if◌then◌else◌, refl, ap, sym, subst, ◌∙◌, append_assoc, ◌==◌, count_by, nat_eq, slice_get, bit_at, cases_lt, nat_tests, append-nil, drop-drop, drop_all, get_or_past, map-append, replicate-append-replicate, take-append-drop, All-push, sum_by-cons, bit_at-zero, named, true_rows, AreAlike, alike_are, IsPlan, IsRangesOf, ended, mask_at, IsLowestRun, NamesUpTo, all_named, all_shortest, kept_label, names_past, names_run, on_side, plain_named, plain_shortest, All}

-- ---- the mask that ranges hold

passed : (j i n : ℕ) (mask : List Bool) → j < i → mask_at j (suc n) (true_rows i mask) ≡ false ∷ mask_at (suc j) n (true_rows i mask)
passed j i n [] h = refl
passed j i n (true ∷ mask) h =
    let other : (i == j) ≡ false = grind (arith, nat_tests, h) in
    ap (λ b. b ∷ mask_at (suc j) n (if b then true_rows (suc i) mask else i ∷ true_rows (suc i) mask)) other
passed j i n (false ∷ mask) h = passed j (suc i) n mask (omega (arith, h))

-- it is true at the rows that it was true at
pub mask_back : (i : ℕ) (mask : List Bool) → mask_at i (length mask) (true_rows i mask) ≡ mask
mask_back i [] = refl
mask_back i (true ∷ mask) =
    let same : (i == i) ≡ true = grind (arith, nat_tests) in
    ap (λ b. b ∷ mask_at (suc i) (length mask) (if b then true_rows (suc i) mask else i ∷ true_rows (suc i) mask)) same ∙ ap (λ bs. true ∷ bs) (mask_back (suc i) mask)
mask_back i (false ∷ mask) =
    passed i (suc i) (length mask) mask (omega arith) ∙ ap (λ bs. false ∷ bs) (mask_back (suc i) mask)

pub length-mask_at : (i n : ℕ) (rows : List ℕ) → length (mask_at i n rows) ≡ n
length-mask_at i zero rows = refl
length-mask_at i (suc n) [] = ap suc (length-mask_at (suc i) n [])
length-mask_at i (suc n) (row ∷ rows) =
    ap suc (length-mask_at (suc i) n (if row == i then rows else row ∷ rows))

-- and at so many
pub length-true_rows : (i : ℕ) (mask : List Bool) → length (true_rows i mask) ≡ count_by (λ b. b) mask
length-true_rows i [] = refl
length-true_rows i (true ∷ mask) =
    omega (arith, length-true_rows (suc i) mask, sum_by-cons (λ b. if b then 1 else 0) true mask)
length-true_rows i (false ∷ mask) =
    omega (arith, length-true_rows (suc i) mask, sum_by-cons (λ b. if b then 1 else 0) false mask)

-- a filter of these ranges holds the mask
pub plan_mask : (ranges : List (ℕ × ℕ)) (n : ℕ) (mask : List Bool) → n ≡ length mask → IsRangesOf ranges mask → mask_at 0 n (named ranges) ≡ mask
plan_mask ranges n mask long are = (λ i. mask_at 0 (long i) (are.names i)) ∙ mask_back 0 mask

pub plan_of : (ranges : List (ℕ × ℕ)) (count n : ℕ) (mask : List Bool) → n ≡ length mask → IsRangesOf ranges mask → count ≡ count_by (λ is_kept. is_kept) mask → IsPlan ranges count (mask_at 0 n (named ranges))
plan_of ranges count n mask long are counted =
    subst (IsPlan ranges count) (sym (plan_mask ranges n mask long are)) (record { ranges_are = are; counted = counted })

-- ---- the walk

-- bits that are all alike, from a place up to another
run_cut : (mask : List Bool) (from to n : ℕ) (bit : Bool) → n ≡ to - from → from ≤ to → to ≤ length mask → AreAlike mask from to bit → drop from mask ≡ replicate n bit ++ drop to mask
run_cut mask from to n bit count rises within alike =
    let at : from + (to - from) ≡ to = omega (arith, rises) in
    let cut = sym (take-append-drop (to - from) (drop from mask)) in
    let run = alike_are mask from to bit rises within alike in
    cut ∙ ((λ i. run i ++ drop-drop (to - from) from mask i) ∙ (λ i. replicate (sym count i) bit ++ drop (at i) mask))

labels_of : (n : ℕ) (bit : Bool) (bits : List Bool) → map kept_label (replicate n bit ++ bits) ≡ replicate n (kept_label bit) ++ map kept_label bits
labels_of zero bit bits = refl
labels_of (suc n) bit bits = ap (λ ls. kept_label bit ∷ ls) (labels_of n bit bits)

-- the labels that are left behind such a run
labels_cut : (mask : List Bool) (from to n : ℕ) (bit : Bool) → n ≡ to - from → from ≤ to → to ≤ length mask → AreAlike mask from to bit → map kept_label (drop from mask) ≡ replicate n (kept_label bit) ++ map kept_label (drop to mask)
labels_cut mask from to n bit count rises within alike =
    ap (map kept_label) (run_cut mask from to n bit count rises within alike) ∙ labels_of n bit (drop to mask)

-- where no bit is set there is no label
not_set : (mask : List Bool) (i : ℕ) → get_or mask i false ≡ false → slice_get (map kept_label (drop i mask)) 0 ≡ Some (Some 0) → ⊥
not_set [] zero unset set = cc
not_set [] (suc i) unset set = cc
not_set (true ∷ mask) zero unset set = cc
not_set (false ∷ mask) zero unset set = cc
not_set (b ∷ mask) (suc i) unset set = not_set mask i unset set

-- the ranges that are done, and the run that is under way: so many rows from the first on, with what is left of the mask behind them
pub record OpensUpTo (ranges : List (ℕ × ℕ)) (first count : ℕ) (mask : List Bool) : Type 0 where
  pub upto : NamesUpTo (map on_side ranges) first (replicate count (Some 0) ++ map kept_label (drop (first + count) mask)) (map kept_label mask)
  pub within : All (λ (r : ℕ × ℕ). r.0 + r.1 ≤ length mask) ranges
  pub inside : first + count ≤ length mask

module _ (ranges : List (ℕ × ℕ)) (first count : ℕ) (mask : List Bool) (so_far : OpensUpTo ranges first count mask) where
  -- the run goes on
  opens_on : (to n : ℕ) → n ≡ to - (first + count) → first + count ≤ to → to ≤ length mask → AreAlike mask (first + count) to true → OpensUpTo ranges first (count + n) mask
  opens_on to n more rises within alike =
      let left = map kept_label (drop to mask) in
      let at : to ≡ first + (count + n) = omega (arith, more, rises) in
      let run : replicate count (Some 0) ++ map kept_label (drop (first + count) mask) ≡ replicate (count + n) (Some 0) ++ left = ap (λ ls. replicate count (Some 0) ++ ls) (labels_cut mask (first + count) to n true more rises within alike) ∙ (sym (append_assoc (replicate count (Some 0)) (replicate n (Some 0)) left) ∙ ap (λ ls. ls ++ left) (replicate-append-replicate count n (Some 0))) in
      let whole = run ∙ ap (λ k. replicate (count + n) (Some 0) ++ map kept_label (drop k mask)) at in
      record {
        upto = subst (λ ls. NamesUpTo (map on_side ranges) first ls (map kept_label mask)) whole so_far.upto;
        within = so_far.within;
        inside = omega (arith, at, within);
      }

  -- or it has ended, and is a range
  closed : (n : ℕ) (left : List (Option ℕ)) → (slice_get left 0 ≡ Some (Some 0) → ⊥) → NamesUpTo (map on_side ranges) first (replicate n (Some 0) ++ left) (map kept_label mask) → NamesUpTo (map on_side (ranges ++ ended first n)) (first + n) left (map kept_label mask)
  closed zero left ends upto =
      let at : first ≡ first + 0 = omega arith in
      let same = ap (map on_side) (sym (append-nil ranges)) in
      subst (λ k. NamesUpTo (map on_side (ranges ++ ended first 0)) k left (map kept_label mask)) at (subst (λ rs. NamesUpTo rs first left (map kept_label mask)) same upto)
  closed (suc n) left ends upto =
      subst (λ rs. NamesUpTo rs (first + suc n) left (map kept_label mask)) (sym (map-append on_side ranges (ended first (suc n)))) (names_run (map on_side ranges) first 0 n left (map kept_label mask) ends upto)

  all_within : (n : ℕ) → first + n ≤ length mask → All (λ (r : ℕ × ℕ). r.0 + r.1 ≤ length mask) (ranges ++ ended first n)
  all_within zero inside =
      subst (All (λ (r : ℕ × ℕ). r.0 + r.1 ≤ length mask)) (sym (append-nil ranges)) so_far.within
  all_within (suc n) inside =
      All-push (λ (r : ℕ × ℕ). r.0 + r.1 ≤ length mask) ranges (first, suc n) so_far.within inside

  -- what lies behind it up to a place is passed
  opens_at : (to : ℕ) → first + count ≤ to → to ≤ length mask → AreAlike mask (first + count) to false → get_or mask (first + count) false ≡ false → OpensUpTo (ranges ++ ended first count) to 0 mask
  opens_at to rises within alike unset =
      let labels = map kept_label mask in
      let rs = map on_side (ranges ++ ended first count) in
      let gap = to - (first + count) in
      let left = labels_cut mask (first + count) to gap false refl rises within alike in
      let behind = closed count (map kept_label (drop (first + count) mask)) (not_set mask (first + count) unset) so_far.upto in
      let past = names_past rs (first + count) gap (map kept_label (drop to mask)) labels (subst (λ ls. NamesUpTo rs (first + count) ls labels) left behind) in
      let at : first + count + gap ≡ to = omega (arith, rises) in
      let here : to ≡ to + 0 = omega arith in
      record {
        upto = subst (λ k. NamesUpTo rs to (map kept_label (drop k mask)) labels) here (subst (λ k. NamesUpTo rs k (map kept_label (drop to mask)) labels) at past);
        within = all_within count so_far.inside;
        inside = omega (arith, within);
      }

-- where no bit behind it is set, all is named
pub opens_all : (ranges : List (ℕ × ℕ)) (first count : ℕ) (mask : List Bool) → OpensUpTo ranges first count mask → AreAlike mask (first + count) (length mask) false → IsRangesOf (ranges ++ ended first count) mask
opens_all ranges first count mask so_far alike =
    let unset : get_or mask (first + count) false ≡ false = elim (cases_lt (first + count) (length mask)) as (λ _. get_or mask (first + count) false ≡ false) [
      | inl inside ↦ alike (first + count) (omega arith) inside
      | inr past ↦ get_or_past mask (first + count) false past
    ] in
    let all = opens_at ranges first count mask so_far (length mask) so_far.inside (omega arith) alike unset in
    let at : drop (length mask + 0) mask ≡ [] = drop_all (length mask + 0) mask (omega arith) in
    let done = subst (λ bits. NamesUpTo (map on_side (ranges ++ ended first count)) (length mask) (map kept_label bits) (map kept_label mask)) at all.upto in
    record {
      names = plain_named (ranges ++ ended first count) mask (all_named (map on_side (ranges ++ ended first count)) (length mask) (map kept_label mask) done);
      shortest = plain_shortest (ranges ++ ended first count) (all_shortest (map on_side (ranges ++ ended first count)) (length mask) (map kept_label mask) done);
      within = all.within;
    }

-- ---- a word of the mask

-- what is left of the word at a place: no bit before a row, and those of the mask from there on
pub record LeftInWord (word base from : ℕ) (mask : List Bool) : Type 0 where
  pub gone : (k : ℕ) → base + k < from → bit_at word k ≡ 0
  pub same : (k : ℕ) → k < 64 → from ≤ base + k → (bit_at word k == 1) ≡ get_or mask (base + k) false

-- a bit of the mask that lies in the word
word_bit : (word base from : ℕ) (mask : List Bool) → LeftInWord word base from mask → (i b : ℕ) → base ≤ i → i < base + 64 → from ≤ i → bit_at word (i - base) ≡ b → get_or mask i false ≡ (b == 1)
word_bit word base from mask left i b low high behind is =
    let at : base + (i - base) ≡ i = omega (arith, low) in
    ap (λ n. get_or mask n false) (sym at) ∙ (sym (left.same (i - base) (omega (arith, low, high)) (omega (arith, behind, at))) ∙ ap (λ n. nat_eq n 1) is)

-- a walk that has come into that word: no bit is set between the run that is under way and the word
pub record WalksWord (ranges : List (ℕ × ℕ)) (first count word base : ℕ) (mask : List Bool) : Type 0 where
  pub opens : OpensUpTo ranges first count mask
  pub gap : AreAlike mask (first + count) base false
  pub below : first + count ≤ base + 64
  pub left : LeftInWord word base (first + count) mask

-- and one that has come to its end
pub record WalksUpTo (ranges : List (ℕ × ℕ)) (first count base : ℕ) (mask : List Bool) : Type 0 where
  pub opens : OpensUpTo ranges first count mask
  pub gap : AreAlike mask (first + count) base false
  pub below : first + count ≤ base

-- and out of it, where no bit is left
pub walks_out : (ranges : List (ℕ × ℕ)) (first count word base next : ℕ) (mask : List Bool) → word ≡ 0 → next ≡ base + 64 → WalksWord ranges first count word base mask → WalksUpTo ranges first count next mask
walks_out ranges first count word base next mask none at walk = record {
  opens = walk.opens;
  gap = λ i from to.
      elim (cases_lt i base) as (λ _. get_or mask i false ≡ false) [
        | inl before ↦ walk.gap i from before
        | inr after ↦ word_bit word base (first + count) mask walk.left i 0 after (omega (arith, to, at)) from (ap (λ w. bit_at w (i - base)) none ∙ bit_at-zero (i - base))
      ];
  below = omega (arith, at, walk.below);
}

pub walks_all : (ranges pushed : List (ℕ × ℕ)) (first count base : ℕ) (mask : List Bool) → length mask ≤ base → WalksUpTo ranges first count base mask → pushed ≡ ranges ++ ended first count → IsRangesOf pushed mask
walks_all ranges pushed first count base mask past walk is =
    subst (λ rs. IsRangesOf rs mask) (sym is) (opens_all ranges first count mask walk.opens (λ i from to. walk.gap i from (omega (arith, to, past))))

read_set : (mask : List Bool) (i : ℕ) → get_or mask i false ≡ true → i < length mask
read_set mask i set =
    elim (cases_lt i (length mask)) as (λ _. i < length mask) [
      | inl inside ↦ inside
      | inr past ↦
          let none : get_or mask i false ≡ false = get_or_past mask i false past in
          absurd cc
    ]

-- the lowest run of it
module _ (ranges : List (ℕ × ℕ)) (first count word base start end rest : ℕ) (mask : List Bool) (run : IsLowestRun word start end rest) (walk : WalksWord ranges first count word base mask) where
  pub row_behind : first + count ≤ base + start
  row_behind =
      elim (cases_lt (base + start) (first + count)) as (λ _. first + count ≤ base + start) [
        | inl before ↦
            absurd (omega (arith, walk.left.gone start before, run.ones start (omega arith) run.rises))
        | inr after ↦ after
      ]

  before_is : AreAlike mask (first + count) (base + start) false
  before_is = λ i from to.
      elim (cases_lt i base) as (λ _. get_or mask i false ≡ false) [
        | inl before ↦ walk.gap i from before
        | inr after ↦ word_bit word base (first + count) mask walk.left i 0 after (omega (arith, to, run.rises, run.within)) from (run.below (i - base) (omega (arith, to, after)))
      ]

  run_is : AreAlike mask (base + start) (base + end) true
  run_is = λ i from to.
      word_bit word base (first + count) mask walk.left i 1 (omega (arith, from)) (omega (arith, to, run.within)) (omega (arith, from, row_behind)) (run.ones (i - base) (omega (arith, from)) (omega (arith, to, from)))

  pub row_within : base + end ≤ length mask
  row_within =
      let last = read_set mask (base + (end - 1)) (run_is (base + (end - 1)) (omega (arith, run.rises)) (omega (arith, run.rises))) in
      omega (arith, last, run.rises)

  rest_is : (from : ℕ) → from ≡ base + end → LeftInWord rest base from mask
  rest_is from at = record {
    gone = λ k to. run.taken k (omega (arith, to, at));
    same = λ k within behind.
        ap (λ n. nat_eq n 1) (run.above k (omega (arith, behind, at))) ∙ walk.left.same k within (omega (arith, behind, at, row_behind, run.rises));
  }

  walk_from : (rs : List (ℕ × ℕ)) (first count : ℕ) → first + count ≡ base + end → OpensUpTo rs first count mask → WalksWord rs first count rest base mask
  walk_from rs first count at opens = record {
    opens = opens;
    gap = λ i from to. absurd (omega (arith, from, to, at));
    below = omega (arith, at, run.within);
    left = rest_is (first + count) at;
  }

  -- it goes on with the run that is under way
  pub walk_on : (rs : List (ℕ × ℕ)) (row n : ℕ) → base + start ≡ first + count → rs ≡ ranges → row ≡ first → n ≡ count → WalksWord rs row (n + (end - start)) rest base mask
  walk_on rs row n touches same from many =
      let alike = subst (λ from. AreAlike mask from (base + end) true) touches run_is in
      let more : end - start ≡ base + end - (first + count) = omega (arith, touches, run.rises) in
      let opens = opens_on ranges first count mask walk.opens (base + end) (end - start) more (omega (arith, touches, run.rises)) row_within alike in
      walk_from rs row (n + (end - start)) (omega (arith, touches, run.rises, from, many)) (subst (λ k. OpensUpTo rs row (k + (end - start)) mask) (sym many) (subst (λ k. OpensUpTo rs k (count + (end - start)) mask) (sym from) (subst (λ rs. OpensUpTo rs first (count + (end - start)) mask) (sym same) opens)))

  -- or it begins one of its own
  pub walk_apart : (pushed : List (ℕ × ℕ)) (row n : ℕ) → (base + start ≡ first + count → ⊥) → pushed ≡ ranges ++ ended first count → row ≡ base + start → n ≡ 0 → WalksWord pushed row (n + (end - start)) rest base mask
  walk_apart pushed row n apart is at none =
      let here = base + start in
      let within : here ≤ length mask = omega (arith, row_within, run.rises) in
      let unset = before_is (first + count) (omega arith) (omega (arith, apart, row_behind)) in
      let done = subst (λ rs. OpensUpTo rs here 0 mask) (sym is) (opens_at ranges first count mask walk.opens here row_behind within before_is unset) in
      let opens = subst (λ k. OpensUpTo pushed k n mask) (sym at) (subst (λ k. OpensUpTo pushed here k mask) (sym none) done) in
      let from : here ≡ row + n = omega (arith, at, none) in
      let alike = subst (λ from. AreAlike mask from (base + end) true) from run_is in
      walk_from pushed row (n + (end - start)) (omega (arith, run.rises, from)) (opens_on pushed row n mask opens (base + end) (end - start) (omega (arith, run.rises, from)) (omega (arith, run.rises, from)) row_within alike)
