-- Arrays of the null type under construction.
use Rattle.arrow_flat_growable.proofs.Common.{arith, ◌≡◌, ◌+◌, ◌<◌, ◌≤◌, ◌^◌, ℕ, zero, suc, Bool, false, List, [], ◌∷◌, ◌++◌, length, map, replicate, None, ap, sym, ◌∙◌, length-replicate, replicate-append-replicate, ArrowType, plain, list, extension, null, small, Fits, physical_type_of, Slot, Null, null_slot, null_slot-no_union, sliced, NullParts, nulls-sliced, rows, source_at, Grown, FitsItself, FitsWith, appended, named_rows, null_rows_of, rows_among, IsGrownNull, null_layout}
use Rattle.arrow_types.specs.declared.datatypes.physical_type.PhysicalType.TheVariants as physical
use Rattle.arrow_flat_growable.proofs.FlatLemmas.{too_many}

-- more nulls behind so many
pub more_nulls : (t : ArrowType) (n m total : ℕ) (failed : Bool) → total ≡ n + m → failed ≡ false → Prim.Path Grown (record { arrow_type = t; sources = None; rows = replicate total Null; count = total; failed = failed }) (appended (record { arrow_type = t; sources = None; rows = replicate n Null; count = n; failed = failed }) (replicate m Null))
more_nulls t n m total failed is well =
    let rows : replicate total Null ≡ replicate n Null ++ replicate m Null = ap (λ k. replicate k Null) is ∙ sym (replicate-append-replicate n m Null) in
    let count : total ≡ n + length (replicate m Null) = is ∙ ap (λ k. n + k) (sym (length-replicate m Null)) in
    λ i. record { arrow_type = t; sources = None; rows = rows i; count = count i; failed = well i }

-- so many of them fit
pub nulls_fit : (t : ArrowType) (n : ℕ) → physical_type_of t ≡ physical.Null → n < 2 ^ 64 → Fits t (replicate n Null)
nulls_fit (plain null) n kind counted = (rw (length-replicate n Null) counted, tt)
nulls_fit (extension name metadata t) n kind counted = nulls_fit t n kind counted
nulls_fit (list small f) n kind counted = absurd cc
nulls_fit t n kind counted = absurd cc

-- and a null slot of such a type is null
pub null_is_null : (t : ArrowType) → physical_type_of t ≡ physical.Null → null_slot t ≡ Null
null_is_null t kind = null_slot-no_union t (λ is. cc)

-- nulls are named, whatever is
pub named_nulls : (g : Grown) (i start len : ℕ) → IsGrownNull g → named_rows g i start len ≡ replicate len Null
named_nulls g i start len sound = ap (λ s. rows_among s i start len) sound.unbound

pub null_rows : (g : Grown) (n : ℕ) → IsGrownNull g → null_rows_of g n ≡ replicate n Null
null_rows g n sound = ap (λ s. replicate n s) (null_is_null g.arrow_type sound.kind.1)

-- more of them than can be counted do not fit
pub nulls_over : (g : Grown) (more : List Slot) (n : ℕ) → IsGrownNull g → length more ≡ n → FitsWith g more → 2 ^ 64 ≤ g.count + n → ⊥
nulls_over g more n sound many fits passes =
    too_many g.arrow_type g.rows more g.count n fits (sym (ap length sound.nulls ∙ length-replicate g.count Null)) many passes

-- as many as can be counted do
pub nulls_within : (g : Grown) → IsGrownNull g → g.count < 2 ^ 64 → FitsItself g
nulls_within g sound counted = rw sound.nulls (nulls_fit g.arrow_type g.count sound.kind.1 counted)

-- rows of bound arrays are nulls
pub nulls_among : {A : Type 0} (f : A → NullParts) (xs : List A) (i start len : ℕ) → i < length (map (λ x. null_layout (f x)) xs) → start + len ≤ length (rows (source_at (map (λ x. null_layout (f x)) xs) i)) → sliced (rows (source_at (map (λ x. null_layout (f x)) xs) i)) start len ≡ replicate len Null
nulls_among f [] i start len bound within = absurd (omega (arith, bound))
nulls_among f (x ∷ xs) zero start len bound within =
    nulls-sliced (f x).count start len (omega (arith, within, length-replicate (f x).count Null))
nulls_among f (x ∷ xs) (suc i) start len bound within = nulls_among f xs i start len (omega (arith, bound)) within
