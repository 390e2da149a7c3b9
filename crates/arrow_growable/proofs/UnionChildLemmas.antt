-- The children of unions under construction: one that is changed, and what a call on it answers.
use Rattle.arrow_growable.proofs.Common.{arith, ◌≡◌, ◌+◌, ◌<◌, ℕ, zero, suc, List, [], ◌∷◌, length, map, get_or, refl, ap, sym, subst, ◌∙◌, OnOk, OnErr, set, get_or-map, length-map, All-cons, Error, ArrowType, Slot, Grown, AreThere, CountsRows, FitsItself, HasFailed, NamesRows, appended, grown_of, AreBoundAs, BindsRows, GrownBy, IsWell, SameBound, grown_by_nulls, absent, nth_grown, with_rows, AnyGrowable, Result, Ok, Err, All, take, drop, ◌++◌, written}

-- what follows from two facts on success
pub on_both : {T E P Q R : Type 0} (r : Result T E) → OnOk r P → OnOk r Q → (P → Q → R) → OnOk r R
on_both (Ok x) p q f = f p q
on_both (Err e) p q f = tt

-- and from four
pub on_four : {T E P Q R S X : Type 0} (r : Result T E) → OnOk r P → OnOk r Q → OnOk r R → OnOk r S → (P → Q → R → S → X) → OnOk r X
on_four (Ok x) p q u s f = f p q u s
on_four (Err e) p q u s f = tt

-- one that is read
pub nth_read : (xs : List AnyGrowable) (i : ℕ) (e : AnyGrowable) → i < length xs → nth_grown (map grown_of xs) i ≡ grown_of (get_or xs i e)
nth_read xs i e within = get_or-map grown_of xs i e absent within

-- and changed

pub set_rows : (xs : List AnyGrowable) (i : ℕ) (x : AnyGrowable) (more : List Slot) → i < length xs → grown_of x ≡ appended (nth_grown (map grown_of xs) i) more → map grown_of (set xs i x) ≡ with_rows i more (map grown_of xs)
set_rows [] i x more within new = absurd (omega (arith, within))
set_rows (y ∷ xs) zero x more within new = ap (λ g. g ∷ map grown_of xs) new
set_rows (y ∷ xs) (suc i) x more within new =
    ap (λ gs. grown_of y ∷ gs) (set_rows xs i x more (omega (arith, within)) new)

pub set_well : (xs : List AnyGrowable) (i : ℕ) (x : AnyGrowable) → All IsWell (map grown_of xs) → IsWell (grown_of x) → All IsWell (map grown_of (set xs i x))
set_well [] i x all new = all
set_well (y ∷ xs) zero x all new =
    All-cons IsWell (grown_of x) (map grown_of xs) new (λ k d within. all (suc k) d (omega (arith, within)))
set_well (y ∷ xs) (suc i) x all new =
    All-cons IsWell (grown_of y) (map grown_of (set xs i x)) (all 0 (grown_of y) (omega arith)) (set_well xs i x (λ k d within. all (suc k) d (omega (arith, within))) new)

pub set_bound : (xs : List AnyGrowable) (i : ℕ) (x : AnyGrowable) → SameBound (nth_grown (map grown_of xs) i) (grown_of x) → AreBoundAs (map grown_of xs) (map grown_of (set xs i x))
set_bound [] i x new = record { same_types = refl; same_sources = refl }
set_bound (y ∷ xs) zero x new =
    record { same_types = ap (λ t. t ∷ map (λ (g : Grown). g.arrow_type) (map grown_of xs)) new.same_type; same_sources = ap (λ s. s ∷ map (λ (g : Grown). g.sources) (map grown_of xs)) new.same_sources }
set_bound (y ∷ xs) (suc i) x new =
    let rest = set_bound xs i x new in
    record { same_types = ap (λ ts. (grown_of y).arrow_type ∷ ts) rest.same_types; same_sources = ap (λ ss. (grown_of y).sources ∷ ss) rest.same_sources }

-- a child has the same type and arrays after a call
pub same_after : {T : Type 0} (r : Result T Error) (old new : Grown) (more : List Slot) → OnOk r (new ≡ appended old more) → OnErr r (HasFailed old new) → SameBound old new
same_after (Ok x) old new more grown failed =
    record { same_type = ap (λ g. g.arrow_type) grown; same_sources = ap (λ g. g.sources) grown }
same_after (Err e) old new more grown failed =
    record { same_type = failed.same_type; same_sources = failed.same_sources }

pub grown_well : {old new : Grown} {more : List Slot} → GrownBy old new more → IsWell new
grown_well grown = record { well = ap (λ g. g.failed) grown.grown; fits = grown.fits }

-- so many rows that are bound are there
pub binds_names : (g : Grown) (i first len : ℕ) → BindsRows g i (first + len) → NamesRows g i first len
binds_names g i first len binds =
    subst (λ s. AreThere s i first len) (sym binds.sources) (binds.bound, binds.within)

-- a child that has not failed has as many rows as it counts
pub place_is : (xs : List AnyGrowable) (i place : ℕ) (e : AnyGrowable) → i < length xs → All IsWell (map grown_of xs) → place ≡ (grown_of (get_or xs i e)).count → CountsRows (grown_of (get_or xs i e)) → place ≡ length (nth_grown (map grown_of xs) i).rows
place_is xs i place e within well is counts =
    let read = nth_read xs i e within in
    let one : IsWell (grown_of (get_or xs i e)) = subst IsWell read (well i absent (omega (arith, within, length-map xs grown_of))) in
    is ∙ (counts one.well ∙ ap (λ g. length g.rows) (sym read))

-- all children with null slots
pub nulls_well : (n : ℕ) (gs news : List Grown) → news ≡ map (grown_by_nulls n) gs → All FitsItself news → All IsWell news
nulls_well n gs news are fits =
    λ k d within.
    let long : k < length gs = omega (arith, within, ap length are, length-map gs (grown_by_nulls n)) in
    let here : get_or news k d ≡ grown_by_nulls n (get_or gs k d) = ap (λ hs. get_or hs k d) are ∙ get_or-map (grown_by_nulls n) gs k d d long in
    record { well = ap (λ g. g.failed) here; fits = fits k d within }

-- as many children as of the same types
pub as_many_types : (xs ys : List AnyGrowable) (ts : List ArrowType) → map (λ g. g.arrow_type) (map grown_of xs) ≡ ts → map (λ g. g.arrow_type) (map grown_of ys) ≡ ts → length xs ≡ length ys
as_many_types xs ys ts first second =
    omega (arith, length-map xs grown_of, length-map ys grown_of, length-map (map grown_of xs) (λ (g : Grown). g.arrow_type), length-map (map grown_of ys) (λ (g : Grown). g.arrow_type), ap length first, ap length second)

-- children that a call had, as they are given back
pub given_back : (news items lent : List AnyGrowable) (count : ℕ) (ts : List ArrowType) → lent ≡ items → length lent ≡ count → map (λ g. g.arrow_type) (map grown_of items) ≡ ts → map (λ g. g.arrow_type) (map grown_of news) ≡ ts → take count (news ++ drop (length news) items) ≡ news
given_back news items lent count ts same long olds are =
    written news items count (as_many_types news items ts are olds ∙ (ap length (sym same) ∙ long))
