-- The columns of a struct: their types and lengths, and rows of it by what each has of them.
use Rattle.arrow_growable.proofs.Common.{arith, ◌≡◌, ◌+◌, ◌<◌, ◌^◌, ℕ, List, [], ◌∷◌, ◌++◌, length, map, take, get_or, ap, sym, subst, ◌∙◌, slice_index_or, get_or-map, length-map, map-map, null, plain, Fits, part_in, Slot, any_array_rows, any_array_type, layout_of, rows, type_of_layout, IsStruct, StructParts, row_count, AnyArray, shape_of, child_type, child_types}
pub use Rattle.arrow_growable.proofs.FieldLemmas.{first_long, part_at}
use Rattle.arrow_growable.proofs.ColumnLemmas.{column_fits, field_column, fits_fields, struct_child_types}
use Rattle.arrow_growable.proofs.MakeLemmas.{taken_more}

-- arrays that are made one by one of others
pub makes_next : {A : Type 0} (f h : AnyArray → A) (done whole : List AnyArray) (x item : AnyArray) (i : ℕ) → i < length whole → item ≡ get_or whole i item → f x ≡ h item → map f done ≡ map h (take i whole) → map f (done ++ x ∷ []) ≡ map h (take (i + 1) whole)
makes_next f h done whole x item i within is same so_far =
    taken_more f h done whole x item i within is same so_far

-- one of them
some_member : (columns : List AnyArray) → 0 < length columns → AnyArray
some_member [] some = absurd (omega (arith, some))
some_member (c ∷ columns) some = c

module _ (p : StructParts) (columns : List AnyArray) (held : IsStruct p) (children : map layout_of columns ≡ p.children) where
  pub some_column : 0 < length columns
  some_column = omega (arith, held.some, length-map columns layout_of, ap length children)

  pub column_long : (k : ℕ) (d : AnyArray) → k < length columns → length (any_array_rows (get_or columns k d)) ≡ row_count p.children
  column_long k d within =
      let among : k < length p.children = omega (arith, within, length-map columns layout_of, ap length children) in
      let here : get_or p.children k (layout_of d) ≡ layout_of (get_or columns k d) = ap (λ ls. get_or ls k (layout_of d)) (sym children) ∙ get_or-map layout_of columns k d (layout_of d) within in
      ap (λ l. length (rows l)) (sym here) ∙ held.fits.0 k (layout_of d) among

  -- the type of each column is that of its field
  column_type : (f : ℕ) (d : AnyArray) → f < length columns → any_array_type (get_or columns f d) ≡ child_type p.arrow_type f
  column_type f d has =
      let kind = struct_child_types p.arrow_type (ap shape_of held.kind.1) in
      let types : map any_array_type columns ≡ child_types p.arrow_type = sym (map-map type_of_layout layout_of columns) ∙ (ap (map type_of_layout) children ∙ (held.children ∙ sym kind)) in
      sym (get_or-map any_array_type columns f d (plain null) has) ∙ ap (λ ts. slice_index_or ts f (plain null)) types

  as_many : length (child_types p.arrow_type) ≡ length columns
  as_many =
      ap length (struct_child_types p.arrow_type (ap shape_of held.kind.1) ∙ sym held.children) ∙ (length-map p.children type_of_layout ∙ (ap length (sym children) ∙ length-map columns layout_of))

  -- rows of structs fit where what each column has of them does
  pub columns_fit : (xs : List Slot) → length xs < 2 ^ 64 → ((f : ℕ) (d : AnyArray) → f < length columns → Fits (any_array_type (get_or columns f d)) (map (part_in f (any_array_type (get_or columns f d))) xs)) → Fits p.arrow_type xs
  columns_fit xs counted each =
      let d = some_member columns some_column in
      fits_fields p.arrow_type xs held.kind.1 counted (λ f has.
      let here : f < length columns = omega (arith, has, as_many) in
      let fits = subst (λ u. Fits u (map (part_in f u) xs)) (column_type f d here) (each f d here) in
      subst (Fits (child_type p.arrow_type f)) (sym (field_column p.arrow_type f xs held.kind.1)) fits)

  -- and what each has of them fits where they do
  pub column_of_fits : (xs : List Slot) (f : ℕ) (d : AnyArray) → f < length columns → Fits p.arrow_type xs → Fits (any_array_type (get_or columns f d)) (map (part_in f (any_array_type (get_or columns f d))) xs)
  column_of_fits xs f d has fits =
      let column = column_fits p.arrow_type f xs (omega (arith, has, as_many)) fits in
      let part = subst (Fits (child_type p.arrow_type f)) (field_column p.arrow_type f xs held.kind.1) column in
      subst (λ u. Fits u (map (part_in f u) xs)) (sym (column_type f d has)) part
