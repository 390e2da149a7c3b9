-- A row of a child that is crowded makes its row so.
use Rattle.arrow_growable.proofs.Common.{arith, ◌≡◌, ◌+◌, ◌<◌, ◌≤◌, inl, inr, ℕ, zero, suc, Bool, true, List, [], ◌∷◌, Option, Some, None, length, map, take, drop, refl, ap, sym, subst, ◌∙◌, slice_index_or, take-map, get_or-map, get_or-take, get_or-drop, All-take, valid_at, bits_of_slice, CrowdedPart, CrowdedRow, child_at, child_of, nth_layout, Layout, Layouts, listed, fixed, fielded, no_layouts, more_layouts, from_layouts, AreCrowded, source_at, CrowdsIn, LiesIn, Form, by_offsets, by_size, by_fields, IsOfForm, children_in, no_child, nth_child, place_in, validity_in, All}

-- a row of the child that lies in rows of an array lies in one that is valid

lies_at : (bits : List Bool) (place : ℕ → ℕ) (i j : ℕ) → LiesIn bits place i j → (k : ℕ) × (k < length bits) × ((d : Bool) → slice_index_or bits k d ≡ true) × (place (i + k) ≤ j) × (j < place (suc (i + k)))
lies_at [] place i j lies = absurd lies
lies_at (b ∷ bits) place i j (inl here) =
    let first : i + 0 ≡ i = omega arith in
    let next : suc (i + 0) ≡ i + 1 = omega arith in
    (0, omega arith, λ d. here.0, omega (arith, here.1, ap place first), omega (arith, here.2, ap place next))
lies_at (b ∷ bits) place i j (inr rest) =
    let r = lies_at bits place (i + 1) j rest in
    let at : i + 1 + r.0 ≡ i + suc r.0 = omega arith in
    (suc r.0, omega (arith, r.1), r.2, omega (arith, r.3, ap place at), omega (arith, r.4, ap (λ k. place (suc k)) at))

lies_valid : (v : Option (List Bool)) (start n k : ℕ) → k < n → ((d : Bool) → slice_index_or (bits_of_slice v start n) k d ≡ true) → valid_at v (start + k) ≡ true
lies_valid None start n k inside set = refl
lies_valid (Some bits) start n k inside set =
    sym (get_or-take n (drop start bits) k true inside ∙ get_or-drop start bits k true) ∙ set true

-- children of layouts that are all of one form, as rows that are crowded name them

pub same_map : (g h : Layout → Layout) (ls : List Layout) → All (λ l. g l ≡ h l) ls → map g ls ≡ map h ls
same_map g h [] same = refl
same_map g h (l ∷ ls) same =
    λ t. same 0 l (omega arith) t ∷ same_map g h ls (λ k d within. same (suc k) d (omega (arith, within))) t

pub nth_from : (ls : Layouts) (f : ℕ) → slice_index_or (from_layouts ls) f no_child ≡ nth_layout ls f
nth_from (more_layouts l ls) (suc f) = nth_from ls f
nth_from ls f = refl

pub listed_child : (os : List ℕ) (l : Layout) → IsOfForm (by_offsets os) l → nth_child 0 l ≡ child_of l
listed_child os (listed t v offsets c) is = refl
listed_child os _ is = absurd is

pub sized_child : (s : ℕ) (l : Layout) → IsOfForm (by_size s) l → nth_child 0 l ≡ child_of l
sized_child s (fixed t v size c) is = refl
sized_child s _ is = absurd is

pub field_child : (f : ℕ) (l : Layout) → IsOfForm by_fields l → nth_child f l ≡ child_at f l
field_child f (fielded t v cs) is = nth_from cs f
field_child f _ is = absurd is

-- a field that has the row, of those from field g on
part_crowded : (before : List Layout) (cs : Layouts) (g f h i : ℕ) → h ≡ g + f → f < length (from_layouts cs) → CrowdedRow (map (child_at h) before) (slice_index_or (from_layouts cs) f no_child) i → CrowdedPart before cs g i
part_crowded before no_layouts g f h i at within inner = absurd (omega (arith, within))
part_crowded before (more_layouts l ls) g zero h i at within inner =
    inl (subst (λ k. CrowdedRow (map (child_at k) before) l i) (omega (arith, at)) inner)
part_crowded before (more_layouts l ls) g (suc f) h i at within inner =
    inr (part_crowded before ls (suc g) f h i (omega (arith, at)) (omega (arith, within)) inner)

-- the row that holds it
row_crowded : (form : Form) (before : List Layout) (l : Layout) (f i j : ℕ) → All (IsOfForm form) before → IsOfForm form l → f < length (children_in l) → valid_at (validity_in l) i ≡ true → place_in l i ≤ j → j < place_in l (suc i) → CrowdedRow (map (nth_child f) before) (nth_child f l) j → CrowdedRow before l i
row_crowded (by_offsets os) before (listed t v offsets c) zero i j all is within valid low high inner =
    let same = same_map (nth_child 0) child_of before (λ k d among. listed_child os (slice_index_or before k d) (all k d among)) in
    (valid, (j, low, high, subst (λ ls. CrowdedRow ls c j) same inner))
row_crowded (by_offsets os) before (listed t v offsets c) (suc f) i j all is within valid low high inner = absurd (omega (arith, within))
row_crowded (by_size s) before (fixed t v size c) zero i j all is within valid low high inner =
    let same = same_map (nth_child 0) child_of before (λ k d among. sized_child s (slice_index_or before k d) (all k d among)) in
    (valid, (j, low, high, subst (λ ls. CrowdedRow ls c j) same inner))
row_crowded (by_size s) before (fixed t v size c) (suc f) i j all is within valid low high inner = absurd (omega (arith, within))
row_crowded by_fields before (fielded t v cs) f i j all is within valid low high inner =
    let same = same_map (nth_child f) (child_at f) before (λ k d among. field_child f (slice_index_or before k d) (all k d among)) in
    let here : j ≡ i = omega (arith, low, high) in
    (valid, subst (CrowdedPart before cs 0) here (part_crowded before cs 0 f f j (omega arith) within (subst (λ ls. CrowdedRow ls (slice_index_or (from_layouts cs) f no_child) j) same inner)))
row_crowded _ before _ f i j all is within valid low high inner = absurd is

-- of rows that are named
pub crowded_named : (form : Form) (layouts : List Layout) (index f start n : ℕ) → All (IsOfForm form) layouts → index < length layouts → f < length (children_in (source_at layouts index)) → length (bits_of_slice (validity_in (source_at layouts index)) start n) ≡ n → CrowdsIn (Some (map (nth_child f) layouts)) index (LiesIn (bits_of_slice (validity_in (source_at layouts index)) start n) (place_in (source_at layouts index)) start) → AreCrowded (Some layouts) index start n
crowded_named form layouts index f start n all bound within long crowds =
    let l = source_at layouts index in
    let item = crowds.1 in
    let row = lies_at (bits_of_slice (validity_in l) start n) (place_in l) start item.0 item.1 in
    let before = take-map (nth_child f) index layouts in
    let child = get_or-map (nth_child f) layouts index no_child no_child bound in
    let inner = subst (λ c. CrowdedRow (map (nth_child f) (take index layouts)) c item.0) child (subst (λ ls. CrowdedRow ls (source_at (map (nth_child f) layouts) index) item.0) before item.2) in
    let valid = lies_valid (validity_in l) start n row.0 (omega (arith, row.1, long)) row.2 in
    (crowds.0, (start + row.0, omega arith, omega (arith, row.1, long), row_crowded form (take index layouts) l f (start + row.0) item.0 (All-take (IsOfForm form) index layouts all) (all index no_child bound) within valid row.3 row.4 inner))
