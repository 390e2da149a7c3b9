-- The fields of a struct or a union, the first one and the others.
use Rattle.std.proofs.Common.{◌≡◌, ℕ, zero, suc, ◌-◌, ◌<◌, ◌≤◌, List, [], ◌∷◌, ◌++◌, length, map, take, drop, get_or, refl, ap, sym, ◌∙◌, subst, arith, Result, Ok, Err, IfErr, IsOkUnless}
use Rattle.std.specs.List.{All}
use Rattle.std.proofs.lemmas.List.{length-map, take_all}
use Rattle.std.proofs.lemmas.List.Elements.{All-cons}
use Rattle.arrow_types.specs.declared.datatypes.Field.{Field}
use Rattle.arrow_types.specs.declared.error.Error.{Error}
use Rattle.arrow_types.specs.declared.error.Error.TheVariants.{Overflow, OutOfMemory}
use Rattle.arrow_types.specs.ArrowType.{ArrowType, type_in}
use Rattle.arrow_types.specs.Carried.{IsCarried}
use Rattle.arrow_types.specs.TypeOf.{field_of}
use Rattle.arrow_memory.specs.Grown.{IsGrowthError}
use Rattle.arrow_arrays.specs.Nulls.{nulls_of, FitNulls, FitNullColumns, null_columns_of}
use Rattle.arrow_arrays.specs.TypeDepth.{type_depth, deepest}

-- where it does not overflow, only memory is refused
pub only_memory : {A : Type 0} (r : Result A Error) → IfErr r IsGrowthError → (r ≡ Err Overflow → ⊥) → IsOkUnless r OutOfMemory
only_memory (Ok x) growth no_overflow = tt
only_memory (Err Overflow) growth no_overflow = absurd (no_overflow refl)
only_memory (Err OutOfMemory) growth no_overflow = refl
only_memory (Err _) growth no_overflow = absurd growth

abbrev pub types_of_fields : List Field → List ArrowType
types_of_fields = map (λ f. type_in (field_of f))

-- what the types of all fields say of some of them
pub record Columns (fs : List Field) (ts : List ArrowType) : Type 0 where
  pub carried : All IsCarried (types_of_fields fs)
  pub depth : deepest (types_of_fields fs) ≤ deepest ts

abbrev pub first_of : List Field → List Field
first_of fs = take 1 fs

abbrev pub others_of : List Field → List Field
others_of fs = take (length fs - 1) (drop 1 fs)

all_others : (f : Field) (fs : List Field) → others_of (f ∷ fs) ≡ fs
all_others f fs = take_all (length (f ∷ fs) - 1) fs (omega arith)

no_more : (P : ArrowType → Type 0) → All P []
no_more P = λ k d within. absurd (omega (arith, within))

pub first_columns : (fs : List Field) (ts : List ArrowType) → types_of_fields fs ≡ ts → All IsCarried ts → Columns (first_of fs) ts
first_columns [] ts is carried = record { carried = no_more IsCarried; depth = omega arith }
first_columns (f ∷ fs) [] is carried = cc
first_columns (f ∷ fs) (t ∷ ts) is carried =
    let first : type_in (field_of f) ≡ t = cc in
    record { carried = All-cons IsCarried (type_in (field_of f)) [] (subst IsCarried (sym first) (carried 0 t (omega arith))) (no_more IsCarried); depth = omega (arith, ap type_depth first) }

pub other_columns : (fs : List Field) (ts : List ArrowType) → types_of_fields fs ≡ ts → All IsCarried ts → Columns (others_of fs) ts
other_columns [] ts is carried = record { carried = no_more IsCarried; depth = omega arith }
other_columns (f ∷ fs) [] is carried = cc
other_columns (f ∷ fs) (t ∷ ts) is carried =
    let rest : types_of_fields fs ≡ ts = cc in
    let same : types_of_fields (others_of (f ∷ fs)) ≡ ts = ap types_of_fields (all_others f fs) ∙ rest in
    record { carried = subst (All IsCarried) (sym same) (λ k d within. carried (suc k) d (omega (arith, within))); depth = omega (arith, ap deepest same) }

pub first_fits : (fs : List Field) (ts : List ArrowType) (a b : ℕ) → types_of_fields fs ≡ ts → FitNullColumns a b ts → All (FitNulls a) (types_of_fields (first_of fs))
first_fits [] ts a b is fits = no_more (FitNulls a)
first_fits (f ∷ fs) [] a b is fits = cc
first_fits (f ∷ fs) (t ∷ ts) a b is fits =
    let first : type_in (field_of f) ≡ t = cc in
    All-cons (FitNulls a) (type_in (field_of f)) [] (subst (FitNulls a) (sym first) fits.0) (no_more (FitNulls a))

pub others_fit : (fs : List Field) (ts : List ArrowType) (a b : ℕ) → types_of_fields fs ≡ ts → FitNullColumns a b ts → All (FitNulls b) (types_of_fields (others_of fs))
others_fit [] ts a b is fits = no_more (FitNulls b)
others_fit (f ∷ fs) [] a b is fits = cc
others_fit (f ∷ fs) (t ∷ ts) a b is fits =
    let rest : types_of_fields fs ≡ ts = cc in
    subst (All (FitNulls b)) (sym (ap types_of_fields (all_others f fs) ∙ rest)) fits.1

-- first and others are all
pub all_types : (fs : List Field) (ts : List ArrowType) → types_of_fields fs ≡ ts → types_of_fields (first_of fs) ++ types_of_fields (others_of fs) ≡ ts
all_types [] [] is = refl
all_types [] (t ∷ ts) is = cc
all_types (f ∷ fs) ts is = ap (λ gs. type_in (field_of f) ∷ types_of_fields gs) (all_others f fs) ∙ is

pub all_rows : (fs : List Field) (ts : List ArrowType) (a b : ℕ) → types_of_fields fs ≡ ts → map (λ t. nulls_of t a) (types_of_fields (first_of fs)) ++ map (λ t. nulls_of t b) (types_of_fields (others_of fs)) ≡ null_columns_of a b ts
all_rows [] [] a b is = refl
all_rows [] (t ∷ ts) a b is = cc
all_rows (f ∷ fs) ts a b is =
    ap (λ gs. nulls_of (type_in (field_of f)) a ∷ map (λ t. nulls_of t b) (types_of_fields gs)) (all_others f fs) ∙ ap (null_columns_of a b) is

-- one field is less deep than all
pub depth_at : (ts : List ArrowType) (k : ℕ) (d : ArrowType) → k < length ts → type_depth (get_or ts k d) < deepest ts
depth_at [] k d within = absurd (omega (arith, within))
depth_at (t ∷ ts) zero d within = omega arith
depth_at (t ∷ ts) (suc k) d within = omega (arith, depth_at ts k d (omega (arith, within)))

-- a field, read at its place
pub field_at : (fs : List Field) (k : ℕ) (f : Field) (d : ArrowType) → k < length fs → f ≡ get_or fs k f → get_or (types_of_fields fs) k d ≡ type_in (field_of f)
field_at [] k f d within is = absurd (omega (arith, within))
field_at (g ∷ fs) zero f d within is = ap (λ x. type_in (field_of x)) (sym is)
field_at (g ∷ fs) (suc k) f d within is = field_at fs k f d (omega (arith, within)) is

pub carried_at : (fs : List Field) (k : ℕ) (f : Field) → k < length fs → f ≡ get_or fs k f → All IsCarried (types_of_fields fs) → IsCarried (type_in (field_of f))
carried_at fs k f within is all =
    let t = type_in (field_of f) in
    subst IsCarried (field_at fs k f t within is) (all k t (omega (arith, within, length-map fs (λ x. type_in (field_of x)))))

pub fits_at : (fs : List Field) (k n : ℕ) (f : Field) → k < length fs → f ≡ get_or fs k f → All (FitNulls n) (types_of_fields fs) → FitNulls n (type_in (field_of f))
fits_at fs k n f within is all =
    let t = type_in (field_of f) in
    subst (FitNulls n) (field_at fs k f t within is) (all k t (omega (arith, within, length-map fs (λ x. type_in (field_of x)))))

pub less_deep : (fs : List Field) (k : ℕ) (f : Field) → k < length fs → f ≡ get_or fs k f → type_depth (type_in (field_of f)) < deepest (types_of_fields fs)
less_deep fs k f within is =
    let t = type_in (field_of f) in
    let below = depth_at (types_of_fields fs) k t (omega (arith, within, length-map fs (λ x. type_in (field_of x)))) in
    subst (λ u. type_depth u < deepest (types_of_fields fs)) (field_at fs k f t within is) below
