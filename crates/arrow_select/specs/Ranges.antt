-- Masks as ranges hold them.
use Rattle.std.specs.Prelude.{ℕ, zero, suc, ◌≡◌, ◌+◌, ◌≤◌, ◌==◌, Bool, false, List, [], ◌∷◌, count_by, length, if◌then◌else◌}
use Rattle.std.specs.List.{All}
use Rattle.arrow_types.specs.Ranges.{IsShortest, named, true_rows}

-- the mask of n rows from row i on that is true at rows which rise
abbrev pub mask_at : ℕ → ℕ → List ℕ → List Bool
mask_at i zero rows = []
mask_at i (suc n) [] = false ∷ mask_at (suc i) n []
mask_at i (suc n) (row ∷ rows) = (row == i) ∷ mask_at (suc i) n (if row == i then rows else row ∷ rows)

-- the shortest ranges that name the rows at which a mask is true
pub record IsRangesOf (ranges : List (ℕ × ℕ)) (mask : List Bool) : Type 0 where
  pub names : named ranges ≡ true_rows 0 mask
  pub shortest : IsShortest ranges
  pub within : All (λ r. r.0 + r.1 ≤ length mask) ranges

-- and how many rows these are
pub record IsPlan (ranges : List (ℕ × ℕ)) (count : ℕ) (mask : List Bool) : Type 0 where
  pub ranges_are : IsRangesOf ranges mask
  pub counted : count ≡ count_by (λ is_kept. is_kept) mask

-- a run that has ended, as ranges: none where it is empty
abbrev pub ended : ℕ → ℕ → List (ℕ × ℕ)
ended first zero = []
ended first (suc n) = (first, suc n) ∷ []
