-- A beginning of rows that fit a type fits it, so no work in between refuses rows that fit as a whole.
use Rattle.std.proofs.Common.{◌≡◌, ℕ, suc, ◌*◌, ◌<◌, ◌≤◌, ◌^◌, ℤ, true, false, Bool, Option, List, [], ◌∷◌, ◌++◌, length, map, sum_by, if◌then◌else◌, refl, ap, subst, arith, length-append}
use Rattle.std.proofs.Math.Nat.{mul-le-mul_left}
use Rattle.std.proofs.lemmas.Grind.{flat_map-append}
use Rattle.std.proofs.lemmas.List.{map-append}
use Rattle.std.proofs.lemmas.List.Sums.{sum_by-append}
use Rattle.std.specs.Ordering.{int_eq}
use Rattle.arrow_types.specs.declared.datatypes.UnionMode.TheVariants.{Dense, Sparse}
use Rattle.arrow_types.specs.ArrowType.{ArrowType, ArrowFields, PlainType, ListForm, plain, list, struct, union, dictionary, extension, field, no_fields, more_fields, small, fixed_size, binary, large_binary, utf8, large_utf8, fixed_size_binary}
use Rattle.arrow_types.specs.Slot.{Slot, Variant, id_at}
use Rattle.arrow_types.specs.Fits.{IsCounted, byte_count, items_in, all_items, fixed_items_in, part_in, sparse_part, dense_part, FitsPlain, FitsForm, child_rows, Fits, FitsParts, FitsSparse, FitsDense}

sum_by-beginning : (f : Slot → ℕ) (xs ys : List Slot) → sum_by f xs ≤ sum_by f (xs ++ ys)
sum_by-beginning f xs ys = omega (arith, sum_by-append f xs ys)

counted : (xs ys : List Slot) → IsCounted (xs ++ ys) → IsCounted xs
counted xs ys h = omega (arith, h, length-append xs ys)

times : (s : ℕ) (xs ys : List Slot) → s * length (xs ++ ys) < 2 ^ 64 → s * length xs < 2 ^ 64
times s xs ys h =
    let shorter : length xs ≤ length (xs ++ ys) = omega (arith, length-append xs ys) in
    omega (arith, h, mul-le-mul_left s shorter)

-- the rows of children, append by append
pub all_items-append : (xs ys : List Slot) → all_items (xs ++ ys) ≡ all_items xs ++ all_items ys
all_items-append xs ys = flat_map-append items_in xs ys

pub child_rows-append : (form : ListForm) (t : ArrowType) (xs ys : List Slot) → child_rows form t (xs ++ ys) ≡ child_rows form t xs ++ child_rows form t ys
child_rows-append (fixed_size s) t xs ys = flat_map-append (fixed_items_in s t) xs ys
child_rows-append form t xs ys = all_items-append xs ys

if-append : (b : Bool) (s : Slot) (xs ys zs : List Slot) → zs ≡ xs ++ ys → (if b then s ∷ zs else zs) ≡ (if b then s ∷ xs else xs) ++ ys
if-append true s xs ys zs e = ap (λ ws. s ∷ ws) e
if-append false s xs ys zs e = e

pub dense_part-append : (id : ℤ) (xs ys : List Slot) → dense_part id (xs ++ ys) ≡ dense_part id xs ++ dense_part id ys
dense_part-append id [] ys = refl
dense_part-append id (Variant other s ∷ xs) ys = if-append (int_eq id other) s (dense_part id xs) (dense_part id ys) (dense_part id (xs ++ ys)) (dense_part-append id xs ys)
dense_part-append id (_ ∷ xs) ys = dense_part-append id xs ys

FitsPlain-beginning : (p : PlainType) (xs ys : List Slot) → FitsPlain p (xs ++ ys) → FitsPlain p xs
FitsPlain-beginning utf8 xs ys h = omega (arith, h, sum_by-beginning byte_count xs ys)
FitsPlain-beginning binary xs ys h = omega (arith, h, sum_by-beginning byte_count xs ys)
FitsPlain-beginning large_utf8 xs ys h = omega (arith, h, sum_by-beginning byte_count xs ys)
FitsPlain-beginning large_binary xs ys h = omega (arith, h, sum_by-beginning byte_count xs ys)
FitsPlain-beginning (fixed_size_binary s) xs ys h = times s xs ys h
FitsPlain-beginning _ xs ys h = tt

fewer_items : (xs ys : List Slot) → length (all_items xs) ≤ length (all_items (xs ++ ys))
fewer_items xs ys = omega (arith, ap length (all_items-append xs ys), length-append (all_items xs) (all_items ys))

FitsForm-beginning : (form : ListForm) (xs ys : List Slot) → FitsForm form (xs ++ ys) → FitsForm form xs
FitsForm-beginning (fixed_size s) xs ys h = times s xs ys h
FitsForm-beginning form xs ys h = omega (arith, h, fewer_items xs ys)

mutual
  pub Fits-beginning : (t : ArrowType) (xs ys : List Slot) → Fits t (xs ++ ys) → Fits t xs
  Fits-beginning (plain p) xs ys h = (counted xs ys h.0, FitsPlain-beginning p xs ys h.1)
  Fits-beginning (list form (field name t nullable)) xs ys h =
      (counted xs ys h.0, FitsForm-beginning form xs ys h.1, Fits-beginning t (child_rows form t xs) (child_rows form t ys) (subst (Fits t) (child_rows-append form t xs ys) h.2))
  Fits-beginning (struct fs) xs ys h = (counted xs ys h.0, FitsParts-beginning fs 0 xs ys h.1)
  Fits-beginning (union Sparse ids fs) xs ys h = (counted xs ys h.0, FitsSparse-beginning fs ids 0 xs ys h.1)
  Fits-beginning (union Dense ids fs) xs ys h = (counted xs ys h.0, FitsDense-beginning fs ids 0 xs ys h.1)
  Fits-beginning (dictionary keys ordered t) xs ys h = counted xs ys h
  Fits-beginning (extension name metadata t) xs ys h = Fits-beginning t xs ys h

  FitsParts-beginning : (fs : ArrowFields) (i : ℕ) (xs ys : List Slot) → FitsParts fs i (xs ++ ys) → FitsParts fs i xs
  FitsParts-beginning no_fields i xs ys h = tt
  FitsParts-beginning (more_fields (field name t nullable) fs) i xs ys h =
      (Fits-beginning t (map (part_in i t) xs) (map (part_in i t) ys) (subst (Fits t) (map-append (part_in i t) xs ys) h.0), FitsParts-beginning fs (suc i) xs ys h.1)

  FitsSparse-beginning : (fs : ArrowFields) (ids : Option (List ℤ)) (i : ℕ) (xs ys : List Slot) → FitsSparse fs ids i (xs ++ ys) → FitsSparse fs ids i xs
  FitsSparse-beginning no_fields ids i xs ys h = tt
  FitsSparse-beginning (more_fields (field name t nullable) fs) ids i xs ys h =
      let id = id_at ids i in
      (Fits-beginning t (map (sparse_part id t) xs) (map (sparse_part id t) ys) (subst (Fits t) (map-append (sparse_part id t) xs ys) h.0), FitsSparse-beginning fs ids (suc i) xs ys h.1)

  FitsDense-beginning : (fs : ArrowFields) (ids : Option (List ℤ)) (i : ℕ) (xs ys : List Slot) → FitsDense fs ids i (xs ++ ys) → FitsDense fs ids i xs
  FitsDense-beginning no_fields ids i xs ys h = tt
  FitsDense-beginning (more_fields (field name t nullable) fs) ids i xs ys h =
      let id = id_at ids i in
      let parts = dense_part-append id xs ys in (
        omega (arith, h.0, ap length parts, length-append (dense_part id xs) (dense_part id ys)),
        Fits-beginning t (dense_part id xs) (dense_part id ys) (subst (Fits t) parts h.1),
        FitsDense-beginning fs ids (suc i) xs ys h.2,
      )

FitsPlain-nil : (p : PlainType) → FitsPlain p []
FitsPlain-nil utf8 = omega arith
FitsPlain-nil binary = omega arith
FitsPlain-nil large_utf8 = omega arith
FitsPlain-nil large_binary = omega arith
FitsPlain-nil (fixed_size_binary s) = omega arith
FitsPlain-nil _ = tt

FitsForm-nil : (form : ListForm) → FitsForm form []
FitsForm-nil small = omega arith
FitsForm-nil form = omega arith

child_rows-nil : (form : ListForm) (t : ArrowType) → [] ≡ child_rows form t []
child_rows-nil small t = refl
child_rows-nil form t = refl

-- no row at all fits every type
mutual
  pub Fits-nil : (t : ArrowType) → Fits t []
  Fits-nil (plain p) = (omega arith, FitsPlain-nil p)
  Fits-nil (list form (field name t nullable)) = (omega arith, FitsForm-nil form, subst (Fits t) (child_rows-nil form t) (Fits-nil t))
  Fits-nil (struct fs) = (omega arith, FitsParts-nil fs 0)
  Fits-nil (union Sparse ids fs) = (omega arith, FitsSparse-nil fs ids 0)
  Fits-nil (union Dense ids fs) = (omega arith, FitsDense-nil fs ids 0)
  Fits-nil (dictionary keys ordered t) = omega arith
  Fits-nil (extension name metadata t) = Fits-nil t

  FitsParts-nil : (fs : ArrowFields) (i : ℕ) → FitsParts fs i []
  FitsParts-nil no_fields i = tt
  FitsParts-nil (more_fields (field name t nullable) fs) i = (Fits-nil t, FitsParts-nil fs (suc i))

  FitsSparse-nil : (fs : ArrowFields) (ids : Option (List ℤ)) (i : ℕ) → FitsSparse fs ids i []
  FitsSparse-nil no_fields ids i = tt
  FitsSparse-nil (more_fields (field name t nullable) fs) ids i = (Fits-nil t, FitsSparse-nil fs ids (suc i))

  FitsDense-nil : (fs : ArrowFields) (ids : Option (List ℤ)) (i : ℕ) → FitsDense fs ids i []
  FitsDense-nil no_fields ids i = tt
  FitsDense-nil (more_fields (field name t nullable) fs) ids i = (omega arith, Fits-nil t, FitsDense-nil fs ids (suc i))
