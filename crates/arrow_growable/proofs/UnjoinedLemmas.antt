-- Dictionaries of a child that can't be joined: neither can those of the arrays that hold it.
use Rattle.arrow_growable.proofs.Common.{arith, ◌≡◌, ◌+◌, ◌<◌, inl, inr, ℕ, ℤ, zero, suc, Option, Some, None, List, [], ◌∷◌, ◌++◌, Result, Ok, Err, length, map, take, get_or, ap, sym, subst, ◌∙◌, append_assoc, IsErrAnd, IsOkUnless, slice_index_or, Error, OutOfMemory, append-nil, length-map, All-cons, ArrowType, IsCarried, Fits, physical_type_of, joined, values_in, dictionary_kind, kind_in, type_depth, dictionary_child, CrowdedAmong, CrowdedRow, Unjoined, UnjoinedBy, UnjoinedPart, child_at, child_of, nth_layout, KeyedParts, keyed_layout, UnionParts, union_layout, union_layout_by, Layout, Layouts, listed, fixed, fielded, no_layouts, more_layouts, from_layouts, to_layouts, rows, type_of_layout, AreOfOneType, first_type, source_at, first_is, Form, by_offsets, by_size, by_fields, CannotAppendAll, CannotJoin, IsOfForm, no_child, nth_child, All, map-map}
use Rattle.arrow_growable.proofs.CrowdLemmas.{field_child, listed_child, same_map, sized_child, nth_from}
use Rattle.arrow_growable.proofs.KindLemmas.{shape_of_dictionaries}
use Rattle.arrow_growable.proofs.MakeLemmas.{first_type_of, one_type_of}

-- a field of structs, of those from field g on
part_unjoined : (cs : Layouts) (all : List Layout) (g f h : ℕ) → h ≡ g + f → UnjoinedBy (slice_index_or (from_layouts cs) f no_child) (map (child_at h) all) → UnjoinedPart cs g all
part_unjoined no_layouts all g f h at inner = inner
part_unjoined (more_layouts l ls) all g zero h at inner =
    inl (subst (λ k. UnjoinedBy l (map (child_at k) all)) (omega (arith, at)) inner)
part_unjoined (more_layouts l ls) all g (suc f) h at inner =
    inr (part_unjoined ls all (suc g) f h (omega (arith, at)) inner)

-- by the first of them
by_first : (form : Form) (l : Layout) (all : List Layout) (f : ℕ) → All (IsOfForm form) all → IsOfForm form l → UnjoinedBy (nth_child f l) (map (nth_child f) all) → UnjoinedBy l all
by_first (by_offsets os) (listed t v offsets c) all zero each is inner =
    let same = same_map (nth_child 0) child_of all (λ k d among. listed_child os (slice_index_or all k d) (each k d among)) in
    subst (UnjoinedBy c) same inner
by_first (by_offsets os) (listed t v offsets c) all (suc f) each is inner = absurd inner
by_first (by_size s) (fixed t v size c) all zero each is inner =
    let same = same_map (nth_child 0) child_of all (λ k d among. sized_child s (slice_index_or all k d) (each k d among)) in
    subst (UnjoinedBy c) same inner
by_first (by_size s) (fixed t v size c) all (suc f) each is inner = absurd inner
by_first by_fields (fielded t v cs) all f each is inner =
    let same = same_map (nth_child f) (child_at f) all (λ k d among. field_child f (slice_index_or all k d) (each k d among)) in
    part_unjoined cs all 0 f f (omega arith) (subst (UnjoinedBy (slice_index_or (from_layouts cs) f no_child)) same inner)
by_first _ _ all f each is inner = absurd is

pub child_unjoined : (form : Form) (layouts : List Layout) (f : ℕ) → All (IsOfForm form) layouts → Unjoined (map (nth_child f) layouts) → Unjoined layouts
child_unjoined form [] f each inner = inner
child_unjoined form (l ∷ ls) f each inner =
    by_first form l (l ∷ ls) f each (each 0 l (omega arith)) inner

-- a field of unions, of those from field g on
nth_unjoined : (cs : Layouts) (all : List Layout) (g f h : ℕ) → h ≡ g + f → UnjoinedBy (nth_layout cs f) (map (child_at h) all) → UnjoinedPart cs g all
nth_unjoined cs all g f h at inner =
    part_unjoined cs all g f h at (subst (λ l. UnjoinedBy l (map (child_at h) all)) (sym (nth_from cs f)) inner)

by_union : (t : ArrowType) (types : List ℤ) (child_rows : Option (List ℕ)) (start : ℕ) (children all : List Layout) (f : ℕ) → UnjoinedBy (child_at f (union_layout_by t types child_rows start children)) (map (child_at f) all) → UnjoinedBy (union_layout_by t types child_rows start children) all
by_union t types None start children all f inner = nth_unjoined (to_layouts children) all 0 f f (omega arith) inner
by_union t types (Some child_rows) start children all f inner = nth_unjoined (to_layouts children) all 0 f f (omega arith) inner

pub field_unjoined : {A : Type 0} (g : A → UnionParts) (arrays : List A) (f : ℕ) → Unjoined (map (child_at f) (map (λ a. union_layout (g a)) arrays)) → Unjoined (map (λ a. union_layout (g a)) arrays)
field_unjoined g [] f inner = inner
field_unjoined g (a ∷ arrays) f inner =
    let p = g a in
    by_union p.arrow_type p.types p.child_rows p.start p.children (map (λ b. union_layout (g b)) (a ∷ arrays)) f inner

-- dictionaries whose values can't be joined
pub values_unjoined : {A : Type 0} (f : A → KeyedParts) (arrays : List A) → CannotJoin (map child_of (map (λ a. keyed_layout (f a)) arrays)) → 0 < length arrays → Unjoined (map (λ a. keyed_layout (f a)) arrays)
values_unjoined f [] refused some = absurd (omega (arith, some))
values_unjoined f (a ∷ arrays) refused some =
    let layouts = map (λ b. keyed_layout (f b)) (a ∷ arrays) in
    let t = type_of_layout (f a).child in
    elim refused [
      | inl over ↦ inl (subst (λ xss. Fits t (joined xss) → ⊥) (map-map rows child_of layouts) over)
      | inr others ↦ inr others
    ]

-- rows that can't be appended can't be joined
pub cannot_join : (layouts : List Layout) → CannotAppendAll layouts → CannotJoin layouts
cannot_join layouts (inl over) = inl over
cannot_join layouts (inr crowded) = inr (inl crowded)

child_types_are : {A : Type 0} (f : A → KeyedParts) (t : ArrowType) (arrays : List A) → All (λ a. type_of_layout (f a).child ≡ values_in (f a).arrow_type) arrays → All (λ l. type_of_layout l ≡ t) (map (λ a. keyed_layout (f a)) arrays) → All (λ l. type_of_layout l ≡ values_in t) (map child_of (map (λ a. keyed_layout (f a)) arrays))
child_types_are f t [] typed one = λ k d within. absurd (omega (arith, within))
child_types_are f t (a ∷ arrays) typed one =
    All-cons (λ l. type_of_layout l ≡ values_in t) (f a).child (map child_of (map (λ b. keyed_layout (f b)) arrays)) (typed 0 a (omega arith) ∙ ap values_in (one 0 (keyed_layout (f a)) (omega arith))) (child_types_are f t arrays (λ k d within. typed (suc k) d (omega (arith, within))) (λ k d within. one (suc k) d (omega (arith, within))))

-- the values of dictionaries of one type, beside one another
pub record AreValues (t : ArrowType) (values : List Layout) : Type 0 where
  pub one_type : AreOfOneType values
  pub first : first_type values ≡ values_in t
  pub some : 0 < length values
  pub less_deep : type_depth (values_in t) < type_depth t

pub values_are : {A : Type 0} (f : A → KeyedParts) (arrays : List A) (values : List Layout) (x : A) → values ≡ map child_of (map (λ a. keyed_layout (f a)) arrays) → 0 < length arrays → x ≡ get_or arrays 0 x → IsCarried (f x).arrow_type → kind_in (physical_type_of (f x).arrow_type) ≡ dictionary_kind → All (λ a. type_of_layout (f a).child ≡ values_in (f a).arrow_type) arrays → AreOfOneType (map (λ a. keyed_layout (f a)) arrays) → AreValues (first_type (map (λ a. keyed_layout (f a)) arrays)) values
values_are f arrays values x is some first carried kind typed one =
    let layouts = map (λ a. keyed_layout (f a)) arrays in
    let t = first_type layouts in
    let here : t ≡ (f x).arrow_type = first_is (λ a. keyed_layout (f a)) arrays x some first in
    let all = subst (All (λ l. type_of_layout l ≡ values_in t)) (sym is) (child_types_are f t arrays typed one) in
    let many : 0 < length values = omega (arith, some, ap length is, length-map layouts child_of, length-map arrays (λ a. keyed_layout (f a))) in
    let shape = shape_of_dictionaries (physical_type_of t) (ap (λ u. kind_in (physical_type_of u)) here ∙ kind) in
    record { one_type = one_type_of (values_in t) values many all; first = first_type_of (values_in t) values many all; some = many; less_deep = (dictionary_child t (subst IsCarried (sym here) carried) shape).1 }

-- some row of the arrays is crowded
pub crowded_among : (before layouts : List Layout) (i j : ℕ) → i < length layouts → j < length (rows (source_at layouts i)) → CrowdedRow (before ++ take i layouts) (source_at layouts i) j → CrowdedAmong before layouts
crowded_among before [] i j bound inside row = absurd (omega (arith, bound))
crowded_among before (l ∷ ls) zero j bound inside row =
    inl (j, inside, subst (λ b. CrowdedRow b l j) (append-nil before) row)
crowded_among before (l ∷ ls) (suc i) j bound inside row =
    inr (crowded_among (before ++ l ∷ []) ls i j (omega (arith, bound)) inside (subst (λ b. CrowdedRow b (source_at ls i) j) (sym (append_assoc before (l ∷ []) (take i ls))) row))

-- a call that is refused for want of memory alone
pub only_memory : {A : Type 0} (r : Result A Error) (e : Error) → IsErrAnd r (λ x. x ≡ e) → e ≡ OutOfMemory → IsOkUnless r OutOfMemory
only_memory (Ok x) e err is = absurd err
only_memory (Err x) e err is = err ∙ is
