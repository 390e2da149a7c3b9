-- Texts and bytes by index: where the rows end, their bytes, and when there are too many.
use Rattle.arrow_take.proofs.Common.{arith, ◌≡◌, ◌+◌, ◌-◌, ℕ, suc, ◌<◌, ◌≤◌, ◌^◌, Bool, true, false, Option, Some, None, List, [], ◌∷◌, length, map, take, get_or, slice_index, if◌then◌else◌, refl, ap, sym, subst, ◌∙◌, option_map, sum, sum_by, All, concat, length-map, All-map, map-map, sum-map, sum_by-cons, slice_get-map, Fits, byte_count, greatest_offset, physical_type_of, gather, mask, masked, valid_at, Slot, Null, IsOffsets, last_of, with_row, at_most_last, offsets_rise, length-sliced, FitsRows, pieces, holds_at, length-pieces, piece_at, AreKeys, IsKey, fits_rows, fits_stored, null_of, slots_fit, slots_pass, IsBytesType, SparesBytes, total, IsSpanWithin, span_bytes, spanned, MarksTaken, is_taken_valid, span_length, taken_bytes, taken_span, ends_from, as_concatenated, concatenated_length, ends_last, ends_next, length-ends, rows_between, Parts, ByteParts, byte_slots, rows_by, sum_by_more_le, each_key}
use Rattle.arrow_take.proofs.IndexLemmas.{Stores, fits_taken, gives_next, map-agree, mask-map, named_valid, rows_taken}

-- where the rows so far end, and one more
pub offsets_next : (f : Slot → ℕ) (rows : List Slot) (i n : ℕ) (old new : List ℕ) → i < length rows → n ≡ f (get_or rows i Null) → old ≡ 0 ∷ ends_from 0 (map f (take i rows)) → new ≡ with_row old n → new ≡ 0 ∷ ends_from 0 (map f (take (i + 1) rows))
offsets_next f rows i n old new within row so_far is =
    let more = gives_next f [] (map f (take i rows)) rows i n within row refl in
    is ∙ (ap (λ os. with_row os n) so_far ∙ (sym (ends_next 0 (map f (take i rows)) n) ∙ ap (λ ls. 0 ∷ ends_from 0 ls) more))

-- which are at most those of all
pub passes_all : (f : Slot → ℕ) (rows : List Slot) (i n greatest : ℕ) (old : List ℕ) → i < length rows → n ≡ f (get_or rows i Null) → old ≡ 0 ∷ ends_from 0 (map f (take i rows)) → greatest < last_of old + n → greatest < sum (map f rows)
passes_all f rows i n greatest old within row so_far over =
    omega (arith, over, row, ap last_of so_far, ends_last 0 (map f (take i rows)), sum-map f (take i rows), sum-map f rows, sum_by_more_le f rows i Null within)

-- the validity of rows of bytes
pub rows_fit : (slot : List ℕ → Slot) (v w : Option (List Bool)) (os ps bytes : List ℕ) → w ≡ v → ps ≡ os → FitsRows v (length (map slot (pieces os bytes))) → FitsRows w (length ps - 1)
rows_fit slot v w os ps bytes same here fits =
    rw (same, here) (subst (FitsRows v) (length-map (pieces os bytes) slot ∙ length-pieces os bytes) fits)

-- the rows that end there lie in their bytes
pub pieces_of_rows : (rows : List (List ℕ)) → pieces (0 ∷ ends_from 0 (map length rows)) (concat rows) ≡ rows
pieces_of_rows rows =
    ap (pieces (0 ∷ ends_from 0 (map length rows))) (as_concatenated rows) ∙ rows_between rows

pub concat_length : (rows : List (List ℕ)) → sum (map length rows) ≡ length (concat rows)
concat_length rows = concatenated_length rows ∙ ap length (sym (as_concatenated rows))

-- the bytes of the rows that indices name are those of their spans
pub spanned_by_index : (v : Option (List Bool)) (os bytes : List ℕ) (indices : List Slot) → spanned bytes (map (taken_span v os) indices) ≡ concat (map (taken_bytes v os bytes) indices)
spanned_by_index v os bytes indices = ap concat (map-map (span_bytes bytes) (taken_span v os) indices)

-- rows that lie in bytes, and indices that name some of them
pub record NamesBytes (os bytes : List ℕ) (indices : List Slot) : Type 0 where
  pub sound : IsOffsets os
  pub within : last_of os ≤ length bytes
  pub keys : AreKeys (length os - 1) indices

module _ {os bytes : List ℕ} {indices : List Slot} (names : NamesBytes os bytes indices) (v : Option (List Bool)) where
  -- the span of an index is empty, or that of a row
  each_span : (P : ℕ × ℕ → Type 0) → P (0, 0) → ((n : ℕ) → n < length os - 1 → P (slice_index os n, slice_index os (n + 1))) → (s : Slot) → IsKey (length os - 1) s → P (taken_span v os s)
  each_span P none row =
      each_key (length os - 1) (λ s. P (taken_span v os s)) none (λ n has. elim (valid_at v n) as (λ b. P (if b then (slice_index os n, slice_index os (n + 1)) else (0, 0))) [ true ↦ row n has | false ↦ none ])

  -- and lies within the bytes
  pub span_within : (s : Slot) → IsKey (length os - 1) s → IsSpanWithin (length bytes) (taken_span v os s)
  span_within =
      each_span (IsSpanWithin (length bytes)) (omega arith, omega arith) (λ n has. (offsets_rise os n (n + 1) names.sound (omega arith) (omega (arith, has)), omega (arith, names.within, at_most_last os (n + 1) names.sound (omega (arith, has)))))

  pub spans_within : All (IsSpanWithin (length bytes)) (map (taken_span v os) indices)
  spans_within =
      All-map (IsSpanWithin (length bytes)) (taken_span v os) indices (λ k d among. span_within (get_or indices k d) (names.keys k d among))

  -- as many bytes as the offsets say
  pub bytes_by_index : map length (map (taken_bytes v os bytes) indices) ≡ map (span_length v os) indices
  bytes_by_index =
      map-map length (taken_bytes v os bytes) indices ∙ map-agree (IsKey (length os - 1)) _ _ (λ s key. (let span = span_within s key in length-sliced bytes (taken_span v os s).0 (span_length v os s) (omega (arith, span.0, span.1)))) indices names.keys

  -- each is a row, or has no byte
  pub allowed_by_index : (Allows : List ℕ → Type 0) → Allows [] → All Allows (pieces os bytes) → All Allows (map (taken_bytes v os bytes) indices)
  allowed_by_index Allows none all =
      All-map Allows (taken_bytes v os bytes) indices (λ k d among. each_span (λ span. Allows (span_bytes bytes span)) none (λ n has. holds_at Allows (pieces os bytes) n _ all (piece_at os bytes n (omega (arith, has))) (omega (arith, has, length-pieces os bytes))) (get_or indices k d) (names.keys k d among))

  -- what is stored of a row that is valid
  stores_bytes : (slot : List ℕ → Slot) → Stores v (map slot (pieces os bytes)) (λ s. slot (taken_bytes v os bytes s))
  stores_bytes slot =
      λ n has valid.
      let bytes_are = ap (λ b. Some (slot (span_bytes bytes (if b then (slice_index os n, slice_index os (n + 1)) else (0, 0))))) (sym valid) in
      slice_get-map slot (pieces os bytes) n ∙ (ap (option_map slot) (piece_at os bytes n (omega (arith, has, length-map (pieces os bytes) slot, length-pieces os bytes))) ∙ bytes_are)

  -- a null row has no bytes
  none_by_index : FitsRows v (length os - 1) → (s : Slot) → IsKey (length os - 1) s → is_taken_valid v s ≡ false → taken_bytes v os bytes s ≡ []
  none_by_index fits =
      each_key (length os - 1) (λ s. is_taken_valid v s ≡ false → taken_bytes v os bytes s ≡ []) (λ null. refl) (λ n has null. ap (λ b. span_bytes bytes (if b then (slice_index os n, slice_index os (n + 1)) else (0, 0))) (named_valid v n (length os - 1) fits has ∙ null))

-- the bytes of slots, of which some become null that have none
same_bytes : (g : Slot → Bool) (f : Slot → Slot) (P : Slot → Type 0) → ((s : Slot) → P s → g s ≡ false → byte_count (f s) ≡ 0) → (indices : List Slot) → All P indices → sum_by byte_count (map (λ s. if g s then f s else Null) indices) ≡ sum_by byte_count (map f indices)
same_bytes g f P none [] all = refl
same_bytes g f P none (s ∷ indices) all =
    let here : (b : Bool) → g s ≡ b → byte_count (if b then f s else Null) ≡ byte_count (f s) = elim [ true ↦ λ is. refl | false ↦ λ is. sym (none s (all 0 s (omega arith)) is) ] in
    let rest = same_bytes g f P none indices (λ k d within. all (suc k) d (omega (arith, within))) in
    omega (arith, here (g s) refl, rest, sum_by-cons byte_count (if g s then f s else Null) (map (λ s. if g s then f s else Null) indices), sum_by-cons byte_count (f s) (map f indices))

-- offsets and bytes of the rows that indices name
pub record MakesBytes (v : Option (List Bool)) (os bytes : List ℕ) (indices : List Slot) (ends made : List ℕ) : Type 0 where
  pub offsets_are : ends ≡ 0 ∷ ends_from 0 (map (span_length v os) indices)
  pub bytes_are : made ≡ concat (map (taken_bytes v os bytes) indices)

-- texts or bytes, in slots of their type, whose rows indices name, and a validity by index
pub record TakesBytes (slot : List ℕ → Slot) (is_large : Bool) (p : Parts ByteParts) (indices : List Slot) (taken : Option (List Bool)) : Type 0 where
  pub counts : (bytes : List ℕ) → byte_count (slot bytes) ≡ length bytes
  pub lies : IsBytesType is_large (physical_type_of p.arrow_type)
  pub names : NamesBytes p.values.offsets p.values.bytes indices
  pub fits : FitsRows p.validity (length p.values.offsets - 1)
  pub marks : MarksTaken p.validity indices taken

module _ {slot : List ℕ → Slot} {is_large : Bool} {p : Parts ByteParts} {indices : List Slot} {taken : Option (List Bool)} (takes : TakesBytes slot is_large p indices taken) where
  abbrev v : Option (List Bool)
  v = p.validity

  abbrev os : List ℕ
  os = p.values.offsets

  -- what the indices name
  abbrev made : List (List ℕ)
  made = map (taken_bytes v os p.values.bytes) indices

  abbrev stored : Slot → Slot
  stored s = slot (taken_bytes v os p.values.bytes s)

  abbrev valid : List Bool
  valid = map (is_taken_valid v) indices

  counted : length (map slot (pieces os p.values.bytes)) ≡ length os - 1
  counted = length-map (pieces os p.values.bytes) slot ∙ length-pieces os p.values.bytes

  -- what is stored, under the validity by index
  pub bytes_taken : masked taken (map slot made) ≡ gather (rows_by (byte_slots slot) p) indices p.arrow_type
  bytes_taken =
      ap (masked taken) (map-map slot (taken_bytes v os p.values.bytes) indices) ∙ rows_taken (map slot (pieces os p.values.bytes)) p.arrow_type stored (null_of is_large p.arrow_type _ takes.lies refl) v taken indices (subst (FitsRows v) (sym counted) takes.fits) (stores_bytes takes.names v slot) (subst (λ n. AreKeys n indices) (sym counted) takes.names.keys) takes.marks

  spares : SparesBytes valid (map slot made)
  spares =
      let one = map-map slot (taken_bytes v os p.values.bytes) indices in
      ap (λ xs. sum_by byte_count (mask valid xs)) one ∙ (ap (sum_by byte_count) (mask-map (is_taken_valid v) stored indices) ∙ (same_bytes (is_taken_valid v) stored (IsKey (length os - 1)) (λ s key null. takes.counts (taken_bytes v os p.values.bytes s) ∙ ap length (none_by_index takes.names v takes.fits s key null)) indices takes.names.keys ∙ ap (sum_by byte_count) (sym one)))

  as_many : length valid ≡ length (map slot made)
  as_many =
      length-map indices (is_taken_valid v) ∙ sym (length-map made slot ∙ length-map indices (taken_bytes v os p.values.bytes))

  total_is : total made ≡ sum (map (span_length v os) indices)
  total_is = sym (sum-map length made) ∙ ap sum (bytes_by_index takes.names v)

  -- they fit where their bytes do
  fits_under : (w : Option (List Bool)) → MarksTaken v indices w → Fits p.arrow_type (map slot made) → Fits p.arrow_type (masked w (map slot made))
  fits_under None is fit = fit
  fits_under (Some bits) is fit =
      subst (λ bs. Fits p.arrow_type (mask bs (map slot made))) (sym is) (fits_rows is_large p.arrow_type _ takes.lies refl valid (map slot made) as_many fit)

  pub bytes_fit : (greatest : ℕ) → greatest ≡ greatest_offset is_large → length indices < 2 ^ 64 → sum (map (span_length v os) indices) ≤ greatest → Fits p.arrow_type (gather (rows_by (byte_slots slot) p) indices p.arrow_type)
  bytes_fit greatest is count few =
      let long = length-map indices (taken_bytes v os p.values.bytes) in
      subst (Fits p.arrow_type) bytes_taken (fits_under taken takes.marks (slots_fit slot takes.counts is_large p.arrow_type _ takes.lies refl made (length indices) greatest (sym long) count (omega (arith, few, total_is)) is))

  -- and do not where there are too many
  fit_without : (w : Option (List Bool)) → MarksTaken v indices w → Fits p.arrow_type (masked w (map slot made)) → Fits p.arrow_type (map slot made)
  fit_without None is fit = fit
  fit_without (Some bits) is fit =
      fits_stored is_large p.arrow_type _ takes.lies refl valid (map slot made) spares as_many (subst (λ bs. Fits p.arrow_type (mask bs (map slot made))) is fit)

  pub bytes_pass : (greatest : ℕ) → greatest ≡ greatest_offset is_large → greatest < sum (map (span_length v os) indices) → Fits p.arrow_type (gather (rows_by (byte_slots slot) p) indices p.arrow_type) → ⊥
  bytes_pass greatest is many fit =
      slots_pass slot takes.counts is_large p.arrow_type _ takes.lies refl made greatest (omega (arith, many, total_is)) is (fit_without taken takes.marks (subst (Fits p.arrow_type) (sym bytes_taken) fit))

  -- offsets and bytes that were made so
  module _ {offsets bytes : List ℕ} (makes : MakesBytes v os p.values.bytes indices offsets bytes) where
    -- one more offset than indices
    pub offsets_fit : FitsRows taken (length offsets - 1)
    offsets_fit =
        let long : length offsets - 1 ≡ length indices = omega (arith, ap length makes.offsets_are, length-ends 0 (map (span_length v os) indices), length-map indices (span_length v os)) in
        subst (FitsRows taken) (sym long) (fits_taken v taken indices takes.marks)

    -- the bytes end with the last row
    pub bytes_end : last_of offsets ≤ length bytes
    bytes_end =
        omega (arith, ap last_of makes.offsets_are, ends_last 0 (map (span_length v os) indices), ap length makes.bytes_are, concat_length made, ap sum (bytes_by_index takes.names v))

    -- and the rows are those by index
    pub pieces_are : pieces offsets bytes ≡ made
    pieces_are =
        (λ i. pieces (makes.offsets_are i) (makes.bytes_are i)) ∙ (ap (λ ls. pieces (0 ∷ ends_from 0 ls) (concat made)) (sym (bytes_by_index takes.names v)) ∙ pieces_of_rows made)
