-- The children of arrays of unions that are bound, those of each field beside one another.
use Rattle.arrow_growable.proofs.Common.{arith, ◌≡◌, ◌+◌, ◌<◌, ◌≤◌, ◌⊎◌, inl, inr, ℕ, ℤ, zero, suc, false, Option, List, [], ◌∷◌, ◌++◌, length, map, get_or, refl, ap, sym, subst, ◌∙◌, range_with_len, get_or-map, length-map, map-append, eq-or-lt_of_le, get_or-map-range_with_len, length-map-range_with_len, map-range_with_len_more, PhysicalType, ArrowType, plain, null, IsCarriedAs, AnyArray, kind_in, layout_of, union_kind, child_at, Layout, type_of_layout, deepest, type_depth, field_types, mode_in, UnionParts, child_rows_of, mode_by, union_layout, Grown, AreOfOneType, bound_to, first_type, CanBind, HaveFieldTypes, IsBoundUnion, IsGrownUnion, absent, no_offsets, nth_grown, union_children, variant_rows, variant_type, All, same_lists, map-map, get_or_default}
use Rattle.std.proofs.Math.ListN.{get_or-map as get_or-map_default}
use Rattle.arrow_types.specs.declared.datatypes.physical_type.PhysicalType.TheVariants as physical
use Rattle.arrow_growable.proofs.MakeLemmas.{first_type_of, one_type_of}
use Rattle.arrow_growable.proofs.UnionLoopLemmas.{union_type}
use Rattle.arrow_growable.proofs.UnionFinishLemmas.{IsBare, says_none}
use Rattle.arrow_growable.proofs.UnionStructLemmas.{bare_union}
use Rattle.arrow_growable.proofs.UnionRunLemmas.{child_is, none_there}

-- the child of a field has its type
pub child_type_is : (p : UnionParts) (f : ℕ) → map type_of_layout p.children ≡ field_types p.arrow_type → type_of_layout (child_at f (union_layout p)) ≡ variant_type p.arrow_type f
child_type_is p f fields =
    ap type_of_layout (child_is p f) ∙ (sym (get_or-map_default type_of_layout p.children f none_there) ∙ ap (λ ts. get_or ts f (plain null)) fields)

-- and there is one
pub child_there : (p : UnionParts) (xs : List AnyArray) (f : ℕ) → map type_of_layout p.children ≡ field_types p.arrow_type → map layout_of xs ≡ p.children → f < length (field_types p.arrow_type) → f < length xs
child_there p xs f fields same within =
    omega (arith, within, ap length fields, length-map p.children type_of_layout, ap length same, length-map xs layout_of)

-- the children of one field

pub child_list : (layouts : List Layout) (f : ℕ) → f < length (field_types (first_type layouts)) → (d : List Layout) → get_or (union_children layouts) f d ≡ map (child_at f) layouts
child_list layouts f within d =
    get_or-map-range_with_len (λ k. map (child_at k) layouts) 0 (length (field_types (first_type layouts))) f f d within (omega arith)

pub children_many : (layouts : List Layout) → length (union_children layouts) ≡ length (field_types (first_type layouts))
children_many layouts =
    length-map-range_with_len (λ k. map (child_at k) layouts) 0 (length (field_types (first_type layouts)))

child_first : (layouts : List Layout) (f : ℕ) → 0 < length layouts → f < length (field_types (first_type layouts)) → HaveFieldTypes layouts → first_type (map (child_at f) layouts) ≡ variant_type (first_type layouts) f
child_first layouts f some within types =
    first_type_of (variant_type (first_type layouts) f) (map (child_at f) layouts) (omega (arith, some, length-map layouts (child_at f))) (types f within)

-- those of each field can be bound
pub columns_bind : (layouts : List Layout) → 0 < length layouts → HaveFieldTypes layouts → All CanBind (union_children layouts)
columns_bind layouts some types =
    λ f d inside.
    let within : f < length (field_types (first_type layouts)) = omega (arith, inside, children_many layouts) in
    let there : 0 < length (map (child_at f) layouts) = omega (arith, some, length-map layouts (child_at f)) in
    subst CanBind (sym (child_list layouts f within d)) (record {
      some = there;
      one_type = one_type_of (variant_type (first_type layouts) f) (map (child_at f) layouts) there (types f within);
    })

-- and have the types of the fields
pub columns_types : (layouts : List Layout) → 0 < length layouts → HaveFieldTypes layouts → map first_type (union_children layouts) ≡ field_types (first_type layouts)
columns_types layouts some types =
    same_lists (map first_type (union_children layouts)) (field_types (first_type layouts)) (length-map (union_children layouts) first_type ∙ children_many layouts) (λ f d inside.
    let among : f < length (union_children layouts) = omega (arith, inside, length-map (union_children layouts) first_type) in
    let within : f < length (field_types (first_type layouts)) = omega (arith, among, children_many layouts) in
    get_or-map first_type (union_children layouts) f [] d among ∙ (ap first_type (child_list layouts f within []) ∙ (child_first layouts f some within types ∙ get_or_default (field_types (first_type layouts)) f (plain null) d within)))

-- growables over them too
pub grown_types : (columns : List (List Layout)) (grown : List Grown) → grown ≡ map bound_to columns → map (λ g. g.arrow_type) grown ≡ map first_type columns
grown_types columns grown are = ap (map (λ (g : Grown). g.arrow_type)) are ∙ map-map (λ g. g.arrow_type) bound_to columns

-- one of them is less deep than the deepest
pub column_depth : (columns : List (List Layout)) (k : ℕ) (d : List Layout) → k < length columns → suc (type_depth (first_type (get_or columns k d))) ≤ deepest (map first_type columns)
column_depth [] k d within = absurd (omega (arith, within))
column_depth (c ∷ columns) zero d within = omega arith
column_depth (c ∷ columns) (suc k) d within = omega (arith, column_depth columns k d (omega (arith, within)))

-- the child of a field, by its array
pub child_read : (p : UnionParts) (xs : List AnyArray) (f : ℕ) (x : AnyArray) → map layout_of xs ≡ p.children → f < length xs → x ≡ get_or xs f x → layout_of x ≡ child_at f (union_layout p)
child_read p xs f x same within read =
    ap layout_of read ∙ (sym (get_or-map layout_of xs f x none_there within) ∙ (ap (λ ls. get_or ls f none_there) same ∙ sym (child_is p f)))

-- arrays of one type
pub same_type : (p : UnionParts) (u : ArrowType) → type_of_layout (union_layout p) ≡ u → p.arrow_type ≡ u
same_type p u is = sym (union_type p) ∙ is

-- so many fields
pub field_count : (p : UnionParts) (xs : List AnyArray) (u : ArrowType) (f : ℕ) → map type_of_layout p.children ≡ field_types p.arrow_type → map layout_of xs ≡ p.children → type_of_layout (union_layout p) ≡ u → f < length xs → f < length (field_types u)
field_count p xs u f fields same is within =
    omega (arith, within, ap (λ t. length (field_types t)) (same_type p u is), ap length fields, length-map p.children type_of_layout, ap length same, length-map xs layout_of)

pub field_total : (p : UnionParts) (xs : List AnyArray) (u : ArrowType) → map type_of_layout p.children ≡ field_types p.arrow_type → map layout_of xs ≡ p.children → type_of_layout (union_layout p) ≡ u → length xs ≡ length (field_types u)
field_total p xs u fields same is =
    omega (arith, ap (λ t. length (field_types t)) (same_type p u is), ap length fields, length-map p.children type_of_layout, ap length same, length-map xs layout_of)

-- one column more
pub more_columns : {A : Type 0} (layouts : List Layout) (h : A → List Layout) (done : List A) (x : A) (f : ℕ) → h x ≡ map (child_at f) layouts → map h done ≡ map (λ k. map (child_at k) layouts) (range_with_len 0 f) → map h (done ++ x ∷ []) ≡ map (λ k. map (child_at k) layouts) (range_with_len 0 (f + 1))
more_columns layouts h done x f made so_far =
    map-append h done (x ∷ []) ∙ ((λ j. so_far j ++ made j ∷ []) ∙ sym (map-range_with_len_more (λ k. map (child_at k) layouts) 0 f f (omega arith)))

pub typed_next : (layouts : List Layout) (f : ℕ) → ((k : ℕ) → k < f → All (λ l. type_of_layout l ≡ variant_type (first_type layouts) k) (map (child_at k) layouts)) → All (λ l. type_of_layout l ≡ variant_type (first_type layouts) f) (map (child_at f) layouts) → (k : ℕ) → k < f + 1 → All (λ l. type_of_layout l ≡ variant_type (first_type layouts) k) (map (child_at k) layouts)
typed_next layouts f before here k less =
    elim (eq-or-lt_of_le {n = k} {m = f} (omega (arith, less))) as (λ (x : (k ≡ f) ⊎ (k < f)). All (λ l. type_of_layout l ≡ variant_type (first_type layouts) k) (map (child_at k) layouts)) [ inl same ↦ subst (λ i. All (λ l. type_of_layout l ≡ variant_type (first_type layouts) i) (map (child_at i) layouts)) (sym same) here | inr other ↦ before k other ]

-- a growable over children without rows

bound_bare : (columns : List (List Layout)) → All IsBare (map bound_to columns)
bound_bare columns =
    λ k d within.
    let at : get_or (map bound_to columns) k d ≡ bound_to (get_or columns k []) = get_or-map bound_to columns k [] d (omega (arith, within, length-map columns bound_to)) in
    subst IsBare (sym at) (record { rows = refl; well = refl })

pub made_union : (layouts : List Layout) (t : ArrowType) (types : List ℤ) (offsets : Option (List ℤ)) (gs : List Grown) → t ≡ first_type layouts → IsCarriedAs physical.Union (first_type layouts) → AreOfOneType layouts → gs ≡ map bound_to (union_children layouts) → map (λ g. g.arrow_type) gs ≡ field_types (first_type layouts) → types ≡ [] → offsets ≡ no_offsets (mode_in t) → IsGrownUnion layouts t types offsets gs 0 false
made_union layouts t types offsets gs copied kind one_type are fields none offsets_are =
    let bound : IsBoundUnion layouts t offsets gs = record {
      over = record {
        kind = subst (IsCarriedAs physical.Union) (sym copied) kind;
        types = fields ∙ ap field_types (sym copied);
        mode = sym (ap (λ os. mode_by (child_rows_of os)) offsets_are ∙ (says_none (mode_in t)).mode_is);
      };
      one_type = λ k d within. one_type k d within ∙ sym copied;
      sources =
          λ f within.
          let many : length gs ≡ length (union_children layouts) = ap length are ∙ length-map (union_children layouts) bound_to in
          let inside : f < length (field_types (first_type layouts)) = omega (arith, within, many, children_many layouts) in
          let at : nth_grown gs f ≡ bound_to (map (child_at f) layouts) = ap (λ hs. nth_grown hs f) are ∙ (get_or-map bound_to (union_children layouts) f [] absent (omega (arith, within, many)) ∙ ap bound_to (child_list layouts f inside [])) in
          ap (λ g. g.sources) at;
    } in
    bare_union layouts t types offsets gs bound (subst (All IsBare) (sym are) (bound_bare (union_children layouts))) none offsets_are

pub no_variants : (t : ArrowType) (types : List ℤ) (offsets : Option (List ℤ)) (gs : List Grown) → types ≡ [] → variant_rows t types offsets gs ≡ []
no_variants t types offsets gs none = ap (λ ids. variant_rows t ids offsets gs) none

-- the physical type of unions
pub type_of_unions : (p : PhysicalType) → kind_in p ≡ union_kind → p ≡ physical.Union
type_of_unions physical.Union is = refl
type_of_unions _ is = cc

-- one column, read
pub record LentColumn (columns : List (List Layout)) (k : ℕ) (column : List Layout) : Type 0 where
  pub within : k < length columns
  pub lent : column ≡ get_or columns k []

pub column_read : {A : Type 0} (h : A → List Layout) (columns : List A) (k : ℕ) (e : A) (d : List Layout) → k < length columns → e ≡ get_or columns k e → h e ≡ get_or (map h columns) k d
column_read h columns k e d within read = ap h read ∙ sym (get_or-map h columns k e d within)

-- of one array each column is one child
pub columns_alone : (layouts : List Layout) → length layouts ≡ 1 → All (λ column. length column ≡ 1) (union_children layouts)
columns_alone layouts one =
    λ f d inside.
    let within : f < length (field_types (first_type layouts)) = omega (arith, inside, children_many layouts) in
    ap length (child_list layouts f within d) ∙ (length-map layouts (child_at f) ∙ one)
