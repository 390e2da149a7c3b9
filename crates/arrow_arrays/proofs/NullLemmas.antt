-- Null rows: what a validity without a set bit makes of any rows, and which parts an array of them has.
use Rattle.std.proofs.Common.{◌≡◌, ℕ, zero, suc, ◌+◌, ◌-◌, ◌≤◌, Bool, false, Option, Some, List, [], ◌∷◌, ◌++◌, length, map, replicate, take, get_or, refl, ap, sym, ◌∙◌, subst, arith, add-one}
use Rattle.std.specs.List.{All}
use Rattle.std.proofs.lemmas.List.{length-map, length-replicate, take_all}
use Rattle.std.proofs.lemmas.List.Elements.{All-cons}
use Rattle.std.proofs.Math.Seq.{drop-nil}
use Rattle.arrow_types.specs.declared.error.Error.{Error}
use Rattle.arrow_types.specs.declared.error.Error.TheVariants.{OutOfSpec}
use Rattle.arrow_types.specs.declared.error.SpecPart.TheVariants.{Kind, Child, Length, Offsets, TypeId, Key, Utf8}
use Rattle.arrow_types.specs.Rows.{mask, masked}
use Rattle.arrow_types.specs.ArrowType.{ArrowType}
use Rattle.arrow_types.specs.Slot.{Slot, Null, null_slot}
use Rattle.arrow_memory.specs.Offsets.{last_of}
use Rattle.arrow_memory.specs.Sliced.{sliced}
use Rattle.arrow_flat.specs.Faults.{NamesFirst}
use Rattle.arrow_flat.specs.Parts.{FitsRows}
use Rattle.arrow_flat.specs.Pieces.{pieces, pieces_from}
use Rattle.arrow_arrays.specs.Faults.{NamesFirstNested}
use Rattle.arrow_arrays.proofs.ShapeLemmas.{Shape, flat_shape, union_shape, shape_in, null_slot-shape}

-- an error names a part that does not hold, so there is none where all hold
pub no_flat_fault : (kind length offsets text : Type 0) (e : Error) → kind → length → offsets → text → NamesFirst kind length offsets text e → ⊥
no_flat_fault kind length offsets text (OutOfSpec Kind) k l o t fault = fault k
no_flat_fault kind length offsets text (OutOfSpec Length) k l o t fault = fault.1 l
no_flat_fault kind length offsets text (OutOfSpec Offsets) k l o t fault = fault.2 o
no_flat_fault kind length offsets text (OutOfSpec Utf8) k l o t fault = fault.3 t
no_flat_fault kind length offsets text (OutOfSpec _) k l o t fault = fault
no_flat_fault kind length offsets text _ k l o t fault = fault

pub no_fault : (kind child length offsets ids keys : Type 0) (e : Error) → kind → child → length → offsets → ids → keys → NamesFirstNested kind child length offsets ids keys e → ⊥
no_fault kind child length offsets ids keys (OutOfSpec Kind) k c l o i y fault = fault k
no_fault kind child length offsets ids keys (OutOfSpec Child) k c l o i y fault = fault.1 c
no_fault kind child length offsets ids keys (OutOfSpec Length) k c l o i y fault = fault.2 l
no_fault kind child length offsets ids keys (OutOfSpec Offsets) k c l o i y fault = fault.3 o
no_fault kind child length offsets ids keys (OutOfSpec TypeId) k c l o i y fault = fault.4 i
no_fault kind child length offsets ids keys (OutOfSpec Key) k c l o i y fault = fault.5 y
no_fault kind child length offsets ids keys (OutOfSpec _) k c l o i y fault = fault
no_fault kind child length offsets ids keys _ k c l o i y fault = fault

-- copies of one element

pub map_constant : {A B : Type 0} (f : A → B) (n : ℕ) (x : A) → map f (replicate n x) ≡ replicate n (f x)
map_constant f zero x = refl
map_constant f (suc n) x = ap (λ ys. f x ∷ ys) (map_constant f n x)

pub all_constant : {A : Type 0} (P : A → Type 0) (n : ℕ) (x : A) → P x → All P (replicate n x)
all_constant P zero x holds = λ k d within. absurd (omega (arith, within))
all_constant P (suc n) x holds = All-cons P x (replicate n x) holds (all_constant P n x holds)

-- rows under a validity without a set bit

mask-none_set : (n : ℕ) (xs : List Slot) → length xs ≡ n → mask (replicate n false) xs ≡ replicate n Null
mask-none_set zero xs long = refl
mask-none_set (suc n) [] long = absurd (omega (arith, long))
mask-none_set (suc n) (x ∷ xs) long = ap (λ ys. Null ∷ ys) (mask-none_set n xs (omega (arith, long)))

pub all_null : (v : Option (List Bool)) (xs : List Slot) (n : ℕ) → v ≡ Some (replicate n false) → length xs ≡ n → masked v xs ≡ replicate n Null
all_null v xs n is long = ap (λ w. masked w xs) is ∙ mask-none_set n xs long

pub fits_nulls : (v : Option (List Bool)) (n m : ℕ) → v ≡ Some (replicate n false) → m ≡ n → FitsRows v m
fits_nulls v n m is same = subst (λ w. FitsRows w m) (sym is) (length-replicate n false ∙ sym same)

-- a list of copies that grew from nothing
pub grown_copies : {A : Type 0} (xs new : List A) (x z : A) (n m : ℕ) → xs ≡ [] → m ≡ 0 → new ≡ take n xs ++ replicate (n - m) x → x ≡ z → new ≡ replicate n z
grown_copies xs new x z n m none start is same =
    let short : length xs ≤ n = omega (arith, ap length none) in
    let whole : take n xs ≡ [] = take_all n xs short ∙ none in
    let count : n - m ≡ n = omega arith in
    is ∙ λ i. whole i ++ replicate (count i) (same i)

-- the rows of an array of any type but a union
pub rows_null : (t : ArrowType) (s : Shape) (v : Option (List Bool)) (xs : List Slot) (n : ℕ) → shape_in t ≡ s → (s ≡ union_shape → ⊥) → v ≡ Some (replicate n false) → length xs ≡ n → masked v xs ≡ replicate n (null_slot t)
rows_null t s v xs n is other unset long = all_null v xs n unset long ∙ ap (replicate n) (sym (null_slot-shape t s is other))

pub flat_rows_null : (t : ArrowType) (v : Option (List Bool)) (xs : List Slot) (n : ℕ) → shape_in t ≡ flat_shape → v ≡ Some (replicate n false) → length xs ≡ n → masked v xs ≡ replicate n (null_slot t)
flat_rows_null t v xs n is unset long = rows_null t flat_shape v xs n is (λ e. cc) unset long

pub slots_null : (t : ArrowType) (n : ℕ) → shape_in t ≡ flat_shape → replicate n Null ≡ replicate n (null_slot t)
slots_null t n is = ap (replicate n) (sym (null_slot-shape t flat_shape is (λ e. cc)))

-- as many slots as copies of what is stored
pub length-slots : {A : Type 0} (f : A → Slot) (xs : List A) (n : ℕ) (x : A) → xs ≡ replicate n x → length (map f xs) ≡ n
length-slots f xs n x is = length-map xs f ∙ (ap length is ∙ length-replicate n x)

get_or-replicate_zero : (n i : ℕ) → get_or {A = ℕ} (replicate {A = ℕ} n 0) i 0 ≡ 0
get_or-replicate_zero zero i = refl
get_or-replicate_zero (suc n) zero = refl
get_or-replicate_zero (suc n) (suc i) = get_or-replicate_zero n i

-- no row has a byte where there is none

sliced-none : (start len : ℕ) → sliced {A = ℕ} [] start len ≡ []
sliced-none start len = ap (take len) (drop-nil {A = ℕ} start) ∙ take_all len [] (omega arith)

-- where no row ends past 0
pub last_zero : (n : ℕ) → last_of (replicate n 0) ≡ 0
last_zero n = get_or-replicate_zero n (length (replicate n 0) - 1)

pieces-none : (start : ℕ) (n : ℕ) → pieces_from {A = ℕ} start (replicate n 0) [] ≡ replicate n []
pieces-none start zero = refl
pieces-none start (suc n) = λ i. sliced-none start (0 - start) i ∷ pieces-none 0 n i

pub pieces_empty : (n : ℕ) → pieces {A = ℕ} (replicate (n + 1) 0) [] ≡ replicate n []
pieces_empty n = rw (add-one n) (pieces-none 0 n)

-- rows of no byte each, under a validity without a set bit
pub zero_pieces : (Allows : List ℕ → Type 0) (offsets bytes : List ℕ) (bits : List Bool) (n : ℕ) → offsets ≡ replicate (n + 1) 0 → bytes ≡ [] → bits ≡ replicate n false → Allows [] → (length bits ≡ length offsets - 1) × (last_of offsets ≤ length bytes) × All Allows (pieces offsets bytes)
zero_pieces Allows offsets bytes bits n zeros none unset empty =
    let long : length offsets ≡ n + 1 = ap length zeros ∙ length-replicate (n + 1) 0 in
    let count : length bits ≡ n = ap length unset ∙ length-replicate n false in
    let last : last_of offsets ≡ 0 = ap last_of zeros ∙ last_zero (n + 1) in
    let rows : pieces offsets bytes ≡ replicate n [] = (λ i. pieces (zeros i) (none i)) ∙ pieces_empty n in
    (omega (arith, long, count), omega (arith, last), subst (All Allows) (sym rows) (all_constant Allows n [] empty))
