-- Arrays of any type that are bound as arrays of one kind, and growables without rows over the children of those.
use Rattle.arrow_growable.proofs.Common.{arith, ◌≡◌, ◌+◌, ◌≤◌, ◌<◌, ℕ, suc, List, [], ◌∷◌, ◌++◌, length, map, take, get_or, ap, sym, subst, ◌∙◌, take-suc, take_all, length-map, map-append, ArrowType, plain, null, Layout, type_of_layout, Grown, AreOfOneType, bound_to, first_type, source_is, range_with_len, map-range_with_len_more, grown_of, child_type, child_types, fresh_children, nth_child, AnyGrowable, All, take_at_read, slice_get_read, take-map, Kind, kind_in, physical_type_of, refl}
pub use Rattle.std.proofs.lemmas.Simd.{map-map as map_twice}

-- one more of those that are made one by one of others
pub taken_more : {A B C : Type 0} (f : A → C) (h : B → C) (done : List A) (whole : List B) (x : A) (item : B) (i : ℕ) → i < length whole → item ≡ get_or whole i item → f x ≡ h item → map f done ≡ map h (take i whole) → map f (done ++ x ∷ []) ≡ map h (take (i + 1) whole)
taken_more f h done whole x item i within is same so_far =
    let next = take_at_read whole i item (slice_get_read whole (length whole) i item refl within is) in
    map-append f done (x ∷ []) ∙ ((λ j. so_far j ++ same j ∷ []) ∙ (sym (map-append h (take i whole) (item ∷ [])) ∙ ap (map h) (sym next)))

pub bind_next : {A B : Type 0} (f : A → Layout) (h : B → Layout) (kept : List A) (x : A) (arrays : List B) (b : B) (i : ℕ) → i < length arrays → b ≡ get_or arrays i b → f x ≡ h b → map f kept ≡ take i (map h arrays) → map f (kept ++ x ∷ []) ≡ take (i + 1) (map h arrays)
bind_next f h kept x arrays b i bound read same done =
    taken_more f h kept arrays x b i bound read same (done ∙ take-map h i arrays) ∙ sym (take-map h (i + 1) arrays)

-- all of them
pub bind_all : {A B : Type 0} (f : A → Layout) (h : B → Layout) (kept : List A) (arrays : List B) (i : ℕ) → length arrays ≤ i → map f kept ≡ take i (map h arrays) → map f kept ≡ map h arrays
bind_all f h kept arrays i whole done = done ∙ take_all i (map h arrays) (omega (arith, whole, length-map arrays h))

-- each has the type of the first
pub type_at : {B : Type 0} (h : B → Layout) (arrays : List B) (b : B) (i : ℕ) → i < length arrays → b ≡ get_or arrays i b → AreOfOneType (map h arrays) → type_of_layout (h b) ≡ first_type (map h arrays)
type_at h arrays b i bound read same =
    subst (λ l. type_of_layout l ≡ first_type (map h arrays)) (source_is h arrays i b bound read) (same i _ (omega (arith, bound, length-map arrays h)))

-- so it is of the kind that the first says
pub kind_at : {B : Type 0} {k : Kind} (h : B → Layout) (arrays : List B) (b : B) (i : ℕ) → i < length arrays → b ≡ get_or arrays i b → AreOfOneType (map h arrays) → kind_in (physical_type_of (first_type (map h arrays))) ≡ k → kind_in (physical_type_of (type_of_layout (h b))) ≡ k
kind_at h arrays b i bound read same kind =
    ap (λ t. kind_in (physical_type_of t)) (type_at h arrays b i bound read same) ∙ kind

-- layouts that are all of a type
pub first_type_of : (t : ArrowType) (layouts : List Layout) → 0 < length layouts → All (λ l. type_of_layout l ≡ t) layouts → first_type layouts ≡ t
first_type_of t [] some all = absurd (omega (arith, some))
first_type_of t (l ∷ layouts) some all = all 0 l (omega arith)

pub one_type_of : (t : ArrowType) (layouts : List Layout) → 0 < length layouts → All (λ l. type_of_layout l ≡ t) layouts → AreOfOneType layouts
one_type_of t layouts some all = λ k d within. all k d within ∙ sym (first_type_of t layouts some all)

-- one child more
pub made_next : (layouts : List Layout) (done : List AnyGrowable) (x : AnyGrowable) (f : ℕ) → f < length (child_types (first_type layouts)) → grown_of x ≡ bound_to (map (nth_child f) layouts) → first_type (map (nth_child f) layouts) ≡ child_type (first_type layouts) f → (map grown_of done ≡ map (λ k. bound_to (map (nth_child k) layouts)) (range_with_len 0 f)) × (map (λ g. g.arrow_type) (map grown_of done) ≡ take f (child_types (first_type layouts))) → (map grown_of (done ++ x ∷ []) ≡ map (λ k. bound_to (map (nth_child k) layouts)) (range_with_len 0 (f + 1))) × (map (λ g. g.arrow_type) (map grown_of (done ++ x ∷ [])) ≡ take (f + 1) (child_types (first_type layouts)))
made_next layouts done x f within made first so_far =
    let ts = child_types (first_type layouts) in
    let grow : ℕ → Grown = λ k. bound_to (map (nth_child k) layouts) in
    let one : suc f ≡ f + 1 = omega arith in
    let new : map grown_of (done ++ x ∷ []) ≡ map grown_of done ++ grown_of x ∷ [] = map-append grown_of done (x ∷ []) in
    let types : map (λ (g : Grown). g.arrow_type) (map grown_of done ++ grown_of x ∷ []) ≡ map (λ g. g.arrow_type) (map grown_of done) ++ (grown_of x).arrow_type ∷ [] = map-append (λ (g : Grown). g.arrow_type) (map grown_of done) (grown_of x ∷ []) in
    let next : take (suc f) ts ≡ take f ts ++ (get_or ts f (plain null) ∷ []) = take-suc ts f (plain null) within in (
      new ∙ ((λ j. so_far.0 j ++ made j ∷ []) ∙ sym (map-range_with_len_more grow 0 f f (omega arith))),
      ap (map (λ (g : Grown). g.arrow_type)) new ∙ (types ∙ ((λ j. so_far.1 j ++ (ap (λ g. g.arrow_type) made ∙ first) j ∷ []) ∙ (sym next ∙ ap (λ k. take k ts) one))),
    )

-- all of them
pub all_children : (layouts : List Layout) (done : List AnyGrowable) (f : ℕ) → f ≡ length (child_types (first_type layouts)) → map grown_of done ≡ map (λ k. bound_to (map (nth_child k) layouts)) (range_with_len 0 f) → map grown_of done ≡ fresh_children layouts
all_children layouts done f whole so_far =
    so_far ∙ ap (λ n. map (λ k. bound_to (map (nth_child k) layouts)) (range_with_len 0 n)) whole
