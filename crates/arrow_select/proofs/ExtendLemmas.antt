-- Rows of a bound array by ranges, which are those by the mask, and a growable that is extended by them, range after range.
use Rattle.arrow_select.proofs.Common.{arith, ◌≡◌, ◌+◌, ◌<◌, ℕ, suc, Bool, true, Option, Some, None, List, [], ◌∷◌, ◌++◌, length, replicate, take, drop, drop-cons, get_or, Result, Err, refl, ap, sym, subst, ◌∙◌, length-append, replicate-append-replicate, take-append-drop, Error, Failed, Overflow, named, rows_from, true_rows, Null, Layout, rows, CannotHold, Grown, HasFailed, source_at, HasRowsAt, RefusesRange, extended, kept_among, ranged_among, with_kept, with_ranges, IsRangesOf, flat_map}
use Rattle.arrow_select.proofs.FilterLemmas.{select_is}
use Rattle.arrow_select.proofs.PlanLemmas.{length-true_rows}
use Rattle.arrow_select.proofs.RangedLemmas.{length-rows_from, ranged_set}

-- ---- rows by ranges

-- where no array is bound they are as many nulls
null_ranges : (ranges : List (ℕ × ℕ)) → flat_map (λ (r : ℕ × ℕ). replicate r.1 Null) ranges ≡ replicate (length (named ranges)) Null
null_ranges [] = refl
null_ranges (r ∷ ranges) =
    let long : r.1 + length (named ranges) ≡ length (named (r ∷ ranges)) = omega (arith, length-append (rows_from r.0 r.1) (named ranges), length-rows_from r.0 r.1) in
    ap (λ ys. replicate r.1 Null ++ ys) (null_ranges ranges) ∙ (replicate-append-replicate r.1 (length (named ranges)) Null ∙ ap (λ n. replicate n Null) long)

-- and of a bound array they are those by the mask
pub ranged_is_kept : (sources : Option (List Layout)) (i : ℕ) (ranges : List (ℕ × ℕ)) (mask : List Bool) → named ranges ≡ true_rows 0 mask → HasRowsAt sources i (length mask) → ranged_among sources i ranges ≡ kept_among sources i mask
ranged_is_kept None i ranges mask names bound =
    null_ranges ranges ∙ ap (λ n. replicate n Null) (ap length names ∙ length-true_rows 0 mask)
ranged_is_kept (Some layouts) i ranges mask names bound =
    ranged_set ranges mask (rows (source_at layouts i)) names (sym bound.1) ∙ sym (select_is mask (rows (source_at layouts i)))

-- ---- a growable that is extended

-- by all ranges of a mask
pub extended_all : (old now : Grown) (i : ℕ) (ranges : List (ℕ × ℕ)) (mask : List Bool) → HasRowsAt old.sources i (length mask) → IsRangesOf ranges mask → now ≡ with_ranges old i ranges → now ≡ with_kept old i mask
extended_all old now i ranges mask bound are is =
    is ∙ ap (extended old) (ranged_is_kept old.sources i ranges mask are.names bound)

pub same_error : (e f : Error) → ◌≡◌ {A = Result (Unit {0}) Error} (Err e) (Err f) → e ≡ f
same_error e f same = cc

-- where a range is refused, it and those before and behind it are the ranges of the mask
pub refuses_range : (mask : List Bool) (i : ℕ) (old now new : Grown) (ranges : List (ℕ × ℕ)) (k : ℕ) (e : Error) → IsRangesOf ranges mask → k < length ranges → now ≡ with_ranges old i (take k ranges) → HasFailed now new → (e ≡ Overflow → CannotHold now i (get_or ranges k (0, 0)).0 (get_or ranges k (0, 0)).1) → (e ≡ Failed → now.failed ≡ true) → (now.failed ≡ true → e ≡ Failed) → RefusesRange mask i old new e
refuses_range mask i old now new ranges k e are within so_far fails overflows failed_to failed_from =
    let refused = get_or ranges k (0, 0) in
    let whole : ranges ≡ take k ranges ++ refused ∷ drop (suc k) ranges = sym (take-append-drop k ranges) ∙ ap (λ rs. take k ranges ++ rs) (drop-cons ranges k (0, 0) within) in
    let same = ap (λ g. g.failed) so_far in
    record {
      before = take k ranges;
      refused = refused;
      behind = drop (suc k) ranges;
      ranges = subst (λ rs. IsRangesOf rs mask) whole are;
      fails = subst (λ g. HasFailed g new) so_far fails;
      overflows = λ is. subst (λ g. CannotHold g i refused.0 refused.1) so_far (overflows is);
      had_failed = (λ is. sym same ∙ failed_to is, λ had. failed_from (same ∙ had));
    }
