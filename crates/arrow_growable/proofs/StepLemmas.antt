-- What a growable of arrays with children and the array that is named say together, and what it is after a call.
use Rattle.arrow_growable.proofs.Common.{arith, ◌≡◌, ◌+◌, ◌-◌, ◌*◌, ◌/◌, ◌<◌, ◌≤◌, ◌^◌, inl, inr, ℕ, zero, suc, Bool, true, false, List, [], ◌∷◌, ◌++◌, None, Some, length, map, replicate, get_or, refl, ap, sym, subst, ◌∙◌, get_or-map, length-map, All-map, get_or-map-range_with_len, length-map-range_with_len, PhysicalType, ArrowType, IsCarried, Fits, physical_type_of, Slot, null_slot, sliced, length-sliced, IsCarriedAs, bits_of_slice, Layout, listed, rows, type_of_layout, Grown, AreOfOneType, AreThere, CannotHold, FitsItself, bound_to, empty_over, first_type, source_at, AreBoundAs, BindsRows, CrowdsIn, IsWell, LiesIn, NoneBeneath, Rises, SomeCannotGrow, bound_rows, emptied_of, grown_by, grown_by_nulls, spread, Form, by_fields, by_offsets, by_size, child_types, nested_rows, null_slots_by, IsFormOf, IsFresh, IsSoundForm, emptied, form_of, form_with, form_with_nulls, grown_arrays, Lies, HoldsLists, AreWhole, HoldsNested, IsGrownNested, fresh_children, rows_of_all, IsOfForm, children_in, nth_child, nulls_in, place_in, validity_in, AreSpans, span_count, span_nulls, span_place, GrowableSpans, FixedSize, Fields, Spans, All}
use Rattle.arrow_types.specs.declared.datatypes.physical_type.PhysicalType.TheVariants as physical
use Rattle.arrow_growable.specs.Source.{offsets_in}
use Rattle.arrow_growable.specs.declared.growable.grown_spans.GrowableSpans.TheVariants.{Small, Large, Map}
use Rattle.arrow_growable.specs.declared.growable.spans.Spans.TheVariants as places
use Rattle.arrow_growable.proofs.ChildLemmas.{rows_there}
use Rattle.arrow_growable.proofs.CrowdLemmas.{crowded_named}
use Rattle.arrow_growable.proofs.EvenLemmas.{no_grown}
use Rattle.arrow_growable.proofs.GrownLemmas.{AreEmpty, Grows, Holds, LiesSo, Names, child_refused, fits_rows, grows, grows_nulls, holds_nothing}
use Rattle.arrow_growable.proofs.NestedLemmas.{as_many, binds_child, bits_long, bound_child}
use Rattle.arrow_growable.proofs.SpreadLemmas.{offset_places, row_places, size_places, spread_bare}
use Rattle.arrow_growable.proofs.SourceLemmas.{emptied_twice}

-- how rows lie, whatever rows there are

unemptied : (form : Form) (l : Layout) → IsOfForm (emptied form) l → IsOfForm form l
unemptied (by_offsets os) (listed t v offsets c) is = tt
unemptied (by_offsets os) _ is = absurd is
unemptied form l is = is

size_of_form : (t : ArrowType) (form : Form) → IsFormOf t (emptied form) → IsFormOf t form
size_of_form t (by_offsets os) is = tt
size_of_form t form is = is

emptied_with : (form : Form) (bits : List Bool) (others : List ℕ) (start : ℕ) → emptied (form_with form bits others start) ≡ emptied form
emptied_with (by_offsets os) bits others start = refl
emptied_with form bits others start = refl

emptied_with_nulls : (form : Form) (n : ℕ) → emptied (form_with_nulls form n) ≡ emptied form
emptied_with_nulls (by_offsets os) n = refl
emptied_with_nulls form n = refl

pub spans_lie : (spans : GrowableSpans) → LiesSo (grown_arrays spans) (emptied (form_of spans))
spans_lie (Small offsets) = tt
spans_lie spans = tt

one_well : (os : List ℕ) (child : Grown) (bits : List Bool) (len : ℕ) (t : ArrowType) → HoldsLists os child bits len → (f : ℕ) (d : Grown) → f < 1 → IsWell (get_or (child ∷ []) f d)
one_well os child bits len t holds zero d within = holds.child
one_well os child bits len t holds (suc f) d within = absurd (omega (arith, within))

-- places of rows rise, and lie in the rows of a child that is bound
pub places_rise : (spans : Spans) → AreSpans spans → Rises (span_place spans) (span_count spans) (span_place spans (span_count spans))
places_rise (places.Small offsets) sound =
    record { up = (offset_places offsets.now sound).up; within = omega arith }
places_rise (places.Large offsets) sound =
    record { up = (offset_places offsets.now sound).up; within = omega arith }
places_rise (places.Map offsets) sound =
    record { up = (offset_places offsets.now sound).up; within = omega arith }
places_rise (places.FixedSize size items) sound =
    record { up = (size_places size (items / size) (items / size * size) (omega arith)).up; within = omega arith }
places_rise (places.Fields count) sound =
    record { up = (row_places count count (omega arith)).up; within = omega arith }

pub rises_in : (spans : Spans) (g : Grown) (index : ℕ) → AreSpans spans → BindsRows g index (span_place spans (span_count spans)) → Rises (span_place spans) (span_count spans) (length (bound_rows g index))
rises_in spans g index sound binds =
    record { up = (places_rise spans sound).up; within = rows_there g index _ binds }

-- where rows that are null have nothing of a child, all name one part of it
pub spread_part : (spans : Spans) (g : Grown) (index start n : ℕ) (valid : List Bool) → AreSpans spans → BindsRows g index (span_place spans (span_count spans)) → start + n ≤ span_count spans → start + n ≤ length valid → span_nulls spans ≡ 0 → NoneBeneath (sliced valid start n) (span_place spans) start → spread (span_nulls spans) (null_slot g.arrow_type) (sliced valid start n) (span_place spans) (bound_rows g index) start ≡ sliced (bound_rows g index) (span_place spans start) (span_place spans (start + n) - span_place spans start)
spread_part spans g index start n valid sound bound part covered no_slots bare =
    let many = length-sliced valid start n covered in
    let whole = spread_bare (span_nulls spans) (null_slot g.arrow_type) (span_place spans) (bound_rows g index) (span_count spans) (rises_in spans g index sound bound) (sliced valid start n) start (omega (arith, many, part)) no_slots bare in
    whole ∙ ap (λ k. sliced (bound_rows g index) (span_place spans start) (span_place spans (start + k) - span_place spans start)) many

-- each child of one that has not failed has not
pub all_well : (form : Form) (children : List Grown) (bits : List Bool) (len : ℕ) (t : ArrowType) → HoldsNested form children bits len t → All IsWell children
all_well (by_offsets os) (child ∷ []) bits len t holds = λ f d within. one_well os child bits len t holds f d within
all_well (by_offsets os) children bits len t holds = absurd holds
all_well form children bits len t holds = holds.well

-- and it has as many bits as it counts
pub bits_counted : (form : Form) (children : List Grown) (bits : List Bool) (len : ℕ) (t : ArrowType) → HoldsNested form children bits len t → length bits ≡ len
bits_counted (by_offsets os) [] bits len t holds = absurd holds
bits_counted (by_offsets os) (child ∷ other ∷ rest) bits len t holds = absurd holds
bits_counted form children bits len t holds = holds.counted

-- children that are bound as before
sources_kept : (children news : List Grown) (layouts : List Layout) → AreBoundAs children news → ((f : ℕ) (d : Grown) → f < length children → (get_or children f d).sources ≡ Some (map (nth_child f) layouts)) → (f : ℕ) (d : Grown) → f < length news → (get_or news f d).sources ≡ Some (map (nth_child f) layouts)
sources_kept children news layouts kept sources f d within =
    let there : f < length children = omega (arith, within, length-map news (λ (g : Grown). g.sources), length-map children (λ (g : Grown). g.sources), ap length kept.same_sources) in
    sym (get_or-map (λ (g : Grown). g.sources) news f d None within) ∙ (ap (λ ss. get_or ss f None) kept.same_sources ∙ (get_or-map (λ (g : Grown). g.sources) children f d None there ∙ sources f d there))

-- what it holds
pub holds_of : (spans : GrowableSpans) (children : List Grown) (bits : List Bool) (len : ℕ) (layouts : List Layout) (t : ArrowType) (failed : Bool) → IsGrownNested (grown_arrays spans) (form_of spans) children bits len layouts t failed → failed ≡ false → IsSoundForm (grown_arrays spans) (form_of spans) → Holds (grown_arrays spans) (form_of spans) children bits len t
holds_of spans children bits len layouts t failed parts well sound =
    record {
      lies = spans_lie spans;
      kind = parts.kind.1;
      size = size_of_form t (form_of spans) parts.size;
      sound = sound;
      types = parts.types;
      holds = parts.holds well;
    }

-- the same types and bound arrays after a call, with what it holds then
kept_parts : (arrays : PhysicalType) (form new_form : Form) (children news : List Grown) (bits new_bits : List Bool) (len total : ℕ) (layouts : List Layout) (t : ArrowType) (failed new_failed : Bool) → IsGrownNested arrays form children bits len layouts t failed → emptied new_form ≡ emptied form → AreBoundAs children news → (new_failed ≡ false → HoldsNested new_form news new_bits total t) → IsGrownNested arrays new_form news new_bits total layouts t new_failed
kept_parts arrays form new_form children news bits new_bits len total layouts t failed new_failed parts form_same kept holds =
    record {
      kind = parts.kind;
      size = subst (IsFormOf t) (sym form_same) parts.size;
      one_type = parts.one_type;
      shaped = subst (λ f. All (IsOfForm f) layouts) (sym form_same) parts.shaped;
      types = kept.same_types ∙ parts.types;
      sources = λ f d within. sources_kept children news layouts kept parts.sources f d within;
      holds = holds;
    }

-- nothing is said of that after one that refused
pub failed_parts : (arrays new_arrays : PhysicalType) (form new_form : Form) (children news : List Grown) (bits new_bits : List Bool) (len : ℕ) (layouts : List Layout) (t : ArrowType) (failed : Bool) → IsGrownNested arrays form children bits len layouts t failed → new_arrays ≡ arrays → emptied new_form ≡ emptied form → AreBoundAs children news → IsGrownNested new_arrays new_form news new_bits len layouts t true
failed_parts arrays new_arrays form new_form children news bits new_bits len layouts t failed parts same form_same kept =
    subst (λ a. IsGrownNested a new_form news new_bits len layouts t true) (sym same) (kept_parts arrays form new_form children news bits new_bits len len layouts t failed true parts form_same kept (λ well. cc))

-- what a growable is with rows behind
pub record Step (arrays : PhysicalType) (form new_form : Form) (children news : List Grown) (bits new_bits : List Bool) (total : ℕ) (layouts : List Layout) (t : ArrowType) (named : List Slot) : Type 0 where
  pub parts : IsGrownNested arrays new_form news new_bits total layouts t false
  pub rows : nested_rows new_form new_bits (rows_of_all news) ≡ nested_rows form bits (rows_of_all children) ++ named

step_of : (arrays : PhysicalType) (form new_form : Form) (children news : List Grown) (bits new_bits : List Bool) (len total : ℕ) (layouts : List Layout) (t : ArrowType) (failed : Bool) (named : List Slot) → IsGrownNested arrays form children bits len layouts t failed → emptied new_form ≡ emptied form → AreBoundAs children news → Grows form new_form children news bits new_bits total t named → Step arrays form new_form children news bits new_bits total layouts t named
step_of arrays form new_form children news bits new_bits len total layouts t failed named parts form_same kept grown =
    record { parts = kept_parts arrays form new_form children news bits new_bits len total layouts t failed false parts form_same kept (λ well. grown.holds); rows = grown.rows }

-- children that have grown are bound as before
pub bound_map : (h : Grown → Grown) (children : List Grown) → ((g : Grown) → (h g).arrow_type ≡ g.arrow_type) → ((g : Grown) → (h g).sources ≡ g.sources) → AreBoundAs children (map h children)
bound_map h [] types sources = record { same_types = refl; same_sources = refl }
bound_map h (g ∷ children) types sources =
    let rest = bound_map h children types sources in
    record { same_types = λ j. types g j ∷ rest.same_types j; same_sources = λ j. sources g j ∷ rest.same_sources j }

pub bound_by : (h : Grown → Grown) (children news : List Grown) → ((g : Grown) → (h g).arrow_type ≡ g.arrow_type) → ((g : Grown) → (h g).sources ≡ g.sources) → news ≡ map h children → AreBoundAs children news
bound_by h children news types sources are = subst (AreBoundAs children) (sym are) (bound_map h children types sources)

-- rows of a bound array that are named of a growable that has not failed
pub record NamesPart (spans : GrowableSpans) (children : List Grown) (bits : List Bool) (len : ℕ) (layouts : List Layout) (t : ArrowType) (failed : Bool) (places : Spans) (index start n : ℕ) : Type 0 where
  pub parts : IsGrownNested (grown_arrays spans) (form_of spans) children bits len layouts t failed
  pub well : failed ≡ false
  pub sound : IsSoundForm (grown_arrays spans) (form_of spans)
  pub there : AreThere (Some layouts) index start n
  pub lies : Lies places (source_at layouts index)

module _ (spans : GrowableSpans) (children : List Grown) (bits : List Bool) (len : ℕ) (layouts : List Layout) (t : ArrowType) (failed : Bool) (places : Spans) (index start n : ℕ) (named : NamesPart spans children bits len layouts t failed places index start n) where
  abbrev source : Layout
  source = source_at layouts index

  abbrev more : List Bool
  more = bits_of_slice (validity_in source) start n

  of_type : type_of_layout source ≡ t
  of_type = named.parts.one_type index _ named.there.0

  width : length (children_in source) ≡ length children
  width =
      sym (length-map (children_in source) type_of_layout) ∙ (ap length named.lies.source.types ∙ (ap (λ u. length (child_types u)) of_type ∙ sym (as_many children t named.parts.types)))

  pub names_of : Names (grown_arrays spans) (form_of spans) children bits len t source index start n
  names_of =
      record {
        grown = holds_of spans children bits len layouts t failed named.parts named.well named.sound;
        of_form = unemptied (form_of spans) source (named.parts.shaped index _ named.there.0);
        of_type = of_type;
        whole = named.lies.source.whole;
        width = width;
        inside = named.there.1;
        mates = λ f d within. bound_child layouts index named.there.0 (get_or children f d) f (named.parts.sources f d within);
      }

  -- each child is bound to that of the array
  pub binds_all : All (λ g. BindsRows g index (span_place places (span_count places))) children
  binds_all =
      λ f d within. subst (BindsRows (get_or children f d) index) (λ j. sym named.lies.place j (sym named.lies.count j)) (binds_child layouts index f (get_or children f d) named.there.0 (named.parts.sources f d within) named.lies.source.whole (omega (arith, within, width)))

  -- and what it is with them
  abbrev grow_named : Grown → Grown
  grow_named = grown_by (nulls_in source) more (place_in source) index start

  pub step : (new_form : Form) (news : List Grown) (new_bits : List Bool) (total : ℕ) → new_form ≡ form_with (form_of spans) more (offsets_in source) start → news ≡ map grow_named children → new_bits ≡ bits ++ more → total ≡ len + n → All FitsItself news → Step (grown_arrays spans) (form_of spans) new_form children news bits new_bits total layouts t (sliced (rows source) start n)
  step new_form news new_bits total form_is news_are bits_are count fits =
      let grown = grows (grown_arrays spans) (form_of spans) children bits len t source index start n names_of (subst (All FitsItself) news_are fits) in
      let all = step_of (grown_arrays spans) (form_of spans) (form_with (form_of spans) more (offsets_in source) start) children (map grow_named children) bits (bits ++ more) len (len + n) layouts t failed (sliced (rows source) start n) named.parts (emptied_with (form_of spans) more (offsets_in source) start) (bound_map grow_named children (λ g. refl) (λ g. refl)) grown in
      subst {A = (Form × List Grown) × (List Bool × ℕ)} (λ q. Step (grown_arrays spans) (form_of spans) q.0.0 children q.0.1 bits q.1.0 q.1.1 layouts t (sliced (rows source) start n)) (λ j. ((sym form_is j, sym news_are j), (sym bits_are j, sym count j))) all

  -- why it refuses rows that a child refuses
  pub children_cannot : SomeCannotGrow (nulls_in source) more (place_in source) index start children → (any_failed : Bool) → CannotHold (record { arrow_type = t; sources = Some layouts; rows = nested_rows (form_of spans) bits (rows_of_all children); count = len; failed = any_failed }) index start n
  children_cannot some any_failed =
      let f = some.0 in
      let refused = some.2 no_grown in
      elim refused.why [
        | inl over ↦ inl (child_refused (grown_arrays spans) (form_of spans) children bits len t source index start n names_of f no_grown some.1 over)
        | inr crowds ↦ inr (crowded_named (emptied (form_of spans)) layouts index f start n named.parts.shaped named.there.0 (omega (arith, some.1, width)) (bits_long source start n named.lies.source.whole named.there.1) (subst (λ s. CrowdsIn s index (LiesIn more (place_in source) start)) (named.parts.sources f no_grown some.1) crowds))
      ]

-- its rows fit then
pub fits_step : (arrays : PhysicalType) (form new_form : Form) (children news : List Grown) (bits new_bits : List Bool) (total : ℕ) (layouts : List Layout) (t : ArrowType) (named : List Slot) → Step arrays form new_form children news bits new_bits total layouts t named → LiesSo arrays (emptied new_form) → IsSoundForm arrays new_form → total < 2 ^ 64 → Fits t (nested_rows new_form new_bits (rows_of_all news))
fits_step arrays form new_form children news bits new_bits total layouts t named s lies sound few =
    fits_rows arrays new_form news new_bits total t (record {
      lies = lies;
      kind = s.parts.kind.1;
      size = size_of_form t new_form s.parts.size;
      sound = sound;
      types = s.parts.types;
      holds = s.parts.holds refl;
    }) few

-- with null rows
pub step_nulls : (spans : GrowableSpans) (children : List Grown) (bits : List Bool) (len : ℕ) (layouts : List Layout) (t : ArrowType) (failed : Bool) (n : ℕ) → IsGrownNested (grown_arrays spans) (form_of spans) children bits len layouts t failed → failed ≡ false → IsSoundForm (grown_arrays spans) (form_of spans) → (new_form : Form) (news : List Grown) (new_bits : List Bool) (total slots : ℕ) → slots ≡ n * null_slots_by (form_of spans) → new_form ≡ form_with_nulls (form_of spans) n → news ≡ map (grown_by_nulls slots) children → new_bits ≡ bits ++ replicate n false → total ≡ len + n → All FitsItself news → Step (grown_arrays spans) (form_of spans) new_form children news bits new_bits total layouts t (replicate n (null_slot t))
step_nulls spans children bits len layouts t failed n parts well sound new_form news new_bits total slots slots_are form_is news_are bits_are count fits =
    let form = form_of spans in
    let w = null_slots_by form in
    let are : news ≡ map (grown_by_nulls (n * w)) children = news_are ∙ ap (λ k. map (grown_by_nulls k) children) slots_are in
    let grown = grows_nulls (grown_arrays spans) form children bits len t n (holds_of spans children bits len layouts t failed parts well sound) (subst (All FitsItself) are fits) in
    let all = step_of (grown_arrays spans) form (form_with_nulls form n) children (map (grown_by_nulls (n * w)) children) bits (bits ++ replicate n false) len (len + n) layouts t failed (replicate n (null_slot t)) parts (emptied_with_nulls form n) (bound_map (grown_by_nulls (n * w)) children (λ g. refl) (λ g. refl)) grown in
    subst {A = (Form × List Grown) × (List Bool × ℕ)} (λ q. Step (grown_arrays spans) form q.0.0 children q.0.1 bits q.1.0 q.1.1 layouts t (replicate n (null_slot t))) (λ j. ((sym form_is j, sym are j), (sym bits_are j, sym count j))) all

-- rows of one that is handed out lie in its children
pub whole_of : (form : Form) (children : List Grown) (bits : List Bool) (len : ℕ) (t : ArrowType) → HoldsNested form children bits len t → AreWhole form (length bits) (rows_of_all children)
whole_of (by_offsets os) (child ∷ []) bits len t holds =
    (omega (arith, holds.counted, holds.covered), omega (arith, holds.grown.ends))
whole_of (by_size s) children bits len t holds =
    All-map (λ c. length c ≡ length bits * s) (λ g. g.rows) children (λ f d within. holds.whole f d within ∙ ap (λ k. k * s) (sym holds.counted))
whole_of by_fields children bits len t holds =
    All-map (λ c. length c ≡ length bits * 1) (λ g. g.rows) children (λ f d within. holds.whole f d within ∙ ap (λ k. k * 1) (sym holds.counted))
whole_of form children bits len t holds = absurd holds

pub emptied_same : (form new_form : Form) → new_form ≡ emptied form → emptied new_form ≡ emptied form
emptied_same form new_form is = ap emptied is ∙ emptied_twice form

-- children whose rows are handed out have none
emptied_are : (children : List Grown) → AreEmpty (map emptied_of children)
emptied_are children =
    λ f d within.
    let at : get_or (map emptied_of children) f d ≡ emptied_of (get_or children f d) = get_or-map emptied_of children f d d (omega (arith, within, length-map children emptied_of)) in
    subst (λ g. g ≡ empty_over g.arrow_type g.sources) (sym at) refl

-- the parts of one whose rows are handed out
pub parts_left : (arrays new_arrays : PhysicalType) (form new_form : Form) (children news : List Grown) (bits new_bits : List Bool) (len : ℕ) (layouts : List Layout) (t : ArrowType) (failed : Bool) → IsGrownNested arrays form children bits len layouts t failed → LiesSo arrays (emptied form) → new_arrays ≡ arrays → new_form ≡ emptied form → news ≡ map emptied_of children → new_bits ≡ [] → IsGrownNested new_arrays new_form news new_bits 0 layouts t false
parts_left arrays new_arrays form new_form children news bits new_bits len layouts t failed parts lies same form_is news_are none =
    let kept = bound_map emptied_of children (λ g. refl) (λ g. refl) in
    let holds = holds_nothing arrays form (map emptied_of children) t lies parts.kind.1 (kept.same_types ∙ parts.types) (emptied_are children) in
    let left = kept_parts arrays form (emptied form) children (map emptied_of children) bits new_bits len 0 layouts t failed false parts (emptied_twice form) kept (λ well. subst (λ bs. HoldsNested (emptied form) (map emptied_of children) bs 0 t) (sym none) holds) in
    subst {A = (PhysicalType × Form) × List Grown} (λ q. IsGrownNested q.0.0 q.0.1 q.1 new_bits 0 layouts t false) (λ j. ((sym same j, sym form_is j), sym news_are j)) left

-- fresh children
fresh_at : (children : List Grown) (layouts : List Layout) → children ≡ fresh_children layouts → (f : ℕ) (d : Grown) → f < length children → get_or children f d ≡ bound_to (map (nth_child f) layouts)
fresh_at children layouts are f d within =
    let count = length (child_types (first_type layouts)) in
    let grow : ℕ → Grown = λ k. bound_to (map (nth_child k) layouts) in
    let long : length children ≡ count = ap length are ∙ length-map-range_with_len grow 0 count in
    ap (λ cs. get_or cs f d) are ∙ get_or-map-range_with_len grow 0 count f f d (omega (arith, within, long)) (omega arith)

-- and of one that is made
pub parts_made : (spans : GrowableSpans) (children : List Grown) (bits : List Bool) (layouts : List Layout) (t : ArrowType) → t ≡ first_type layouts → IsCarried t → AreOfOneType layouts → IsFresh spans layouts → children ≡ fresh_children layouts → map (λ g. g.arrow_type) children ≡ child_types (first_type layouts) → bits ≡ [] → IsGrownNested (grown_arrays spans) (form_of spans) children bits 0 layouts t false
parts_made spans children bits layouts t copied carried one_type fresh are types none =
    let form = form_of spans in
    let kind : IsCarriedAs (grown_arrays spans) t = (carried, ap physical_type_of copied ∙ sym fresh.arrays) in
    let size : IsFormOf t (emptied form) = subst {A = ArrowType × Form} (λ q. IsFormOf q.0 q.1) (λ j. (sym copied j, fresh.empty j)) fresh.size in
    let items = types ∙ ap child_types (sym copied) in
    let empty : AreEmpty children = λ f d within. subst (λ g. g ≡ empty_over g.arrow_type g.sources) (sym (fresh_at children layouts are f d within)) refl in
    let holds = holds_nothing (grown_arrays spans) form children t (spans_lie spans) kind.1 items empty in
    record {
      kind = kind;
      size = size;
      one_type = λ k d within. one_type k d within ∙ sym copied;
      shaped = subst (λ f. All (IsOfForm f) layouts) fresh.empty fresh.form;
      types = items;
      sources = λ f d within. ap (λ g. g.sources) (fresh_at children layouts are f d within);
      holds = λ well. subst {A = Form × List Bool} (λ q. HoldsNested q.0 children q.1 0 t) (λ j. (sym fresh.empty j, sym none j)) holds;
    }
