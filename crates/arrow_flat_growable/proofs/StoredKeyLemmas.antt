-- Keys that are stored for an array, whatever beneath nulls, and where they come behind others.
use Rattle.arrow_flat_growable.proofs.Common.{arith, ◌≡◌, ◌+◌, ◌≤◌, ℕ, ℤ, zero, suc, pos, negsuc, Bool, true, false, Bor, Option, Some, None, List, [], ◌∷◌, ◌++◌, length, map, take, drop, get_or, replicate, refl, ap, sym, subst, ◌∙◌, AllZip, length-map, All-take, All-drop, AllZip-long, mask, masked, Slot, Null, Number, sliced, map_sliced, length-sliced, FitsRows, bits_of_slice, AreKeys, IsKey, KeyedParts, key_in, keys_in, map_constant, BindsAll, BindsKeys, StoresAt, StoresKey, StoresKeys, grown_key, zero_key, mask-part, mask-set, mask-unset}
use Rattle.arrow_flat_growable.proofs.StoreLemmas.{slots_part}

-- of a part of two lists, place by place
module _ {A B : Type 0} (R : A → B → Type 0) where
  zip_take : (n : ℕ) (xs : List A) (ys : List B) → AllZip R xs ys → AllZip R (take n xs) (take n ys)
  zip_take zero xs ys held = tt
  zip_take (suc n) [] [] held = tt
  zip_take (suc n) [] (y ∷ ys) held = absurd held
  zip_take (suc n) (x ∷ xs) [] held = absurd held
  zip_take (suc n) (x ∷ xs) (y ∷ ys) held = (held.0, zip_take n xs ys held.1)

  zip_drop : (n : ℕ) (xs : List A) (ys : List B) → AllZip R xs ys → AllZip R (drop n xs) (drop n ys)
  zip_drop zero xs ys held = held
  zip_drop (suc n) [] [] held = tt
  zip_drop (suc n) [] (y ∷ ys) held = absurd held
  zip_drop (suc n) (x ∷ xs) [] held = absurd held
  zip_drop (suc n) (x ∷ xs) (y ∷ ys) held = zip_drop n xs ys held.1

-- as many are stored as there are keys
stores_long : (stored : List Slot) (keys : List (Option ℕ)) → StoresKeys stored keys → length stored ≡ length keys
stores_long stored keys held = sym (AllZip-long StoresKey stored keys held)

-- keys of which none is null are stored as they are
module _ {K : Type 0} (slot : K → Slot) (number : K → ℤ) (is : (x : K) → slot x ≡ Number (number x)) (count : ℕ) where
  stored_key : (z : ℤ) (s : Slot) → IsKey count (Number z) → StoresKey s (key_in (Number z)) → s ≡ grown_key 0 (Number z)
  stored_key (pos n) s key held = held ∙ ap (λ k. Number (pos k)) (omega arith)
  stored_key (negsuc n) s key held = absurd key

  stored_keys : (own : List K) (stored : List Slot) → AreKeys count (map slot own) → StoresKeys stored (keys_in (map slot own)) → stored ≡ map (grown_key 0) (map slot own)
  stored_keys [] [] keys held = refl
  stored_keys [] (s ∷ stored) keys held = absurd held
  stored_keys (x ∷ own) [] keys held = absurd held
  stored_keys (x ∷ own) (s ∷ stored) keys held =
      let key : IsKey count (Number (number x)) = subst (IsKey count) (is x) (keys 0 (slot x) (omega arith)) in
      let first = stored_key (number x) s key (subst (λ r. StoresKey s (key_in r)) (is x) held.0) ∙ ap (grown_key 0) (sym (is x)) in
      let rest = stored_keys own stored (λ k d within. keys (suc k) d (omega (arith, within))) held.1 in
      λ i. first i ∷ rest i

  -- so they come behind others as a part of their source
  pub appends_stored : (by : ℕ) (v : Option (List Bool)) (own source old new : List K) (start len : ℕ) → by ≡ 0 → AreKeys count (masked v (map slot own)) → StoresKeys (map slot source) (keys_in (masked v (map slot own))) → start + len ≤ length own → bits_of_slice v start len ≡ replicate len true → new ≡ old ++ sliced source start len → map slot new ≡ map slot old ++ map (grown_key by) (sliced (masked v (map slot own)) start len)
  appends_stored by v own source old new start len none keys held within set grown =
      let rows = masked v (map slot own) in
      let part = sliced own start len in
      let valid : sliced rows start len ≡ map slot part = sym (mask-part v (map slot own) start len (omega (arith, within, length-map own slot))) ∙ (ap (λ bits. mask bits (sliced (map slot own) start len)) set ∙ (mask-set len (sliced (map slot own) start len) (length-sliced (map slot own) start len (omega (arith, within, length-map own slot))) ∙ sym (map_sliced slot own start len))) in
      let part_keys = subst (AreKeys count) valid (All-take (IsKey count) len _ (All-drop (IsKey count) start rows keys)) in
      let stored : StoresKeys (sliced (map slot source) start len) (keys_in (map slot part)) = subst (StoresKeys (sliced (map slot source) start len)) (sym (map_sliced key_in rows start len) ∙ ap keys_in valid) (zip_take StoresKey len _ _ (zip_drop StoresKey start (map slot source) (keys_in rows) held)) in
      slots_part slot old old source source new start len refl refl grown ∙ ap (λ xs. map slot old ++ xs) (stored_keys part (sliced (map slot source) start len) part_keys stored ∙ (λ i. map (grown_key (sym none i)) (sym valid i)))

-- keys that are all null are zeros
pub appends_nulls : (by : ℕ) (v : Option (List Bool)) (xs old new : List Slot) (start len : ℕ) → start + len ≤ length xs → bits_of_slice v start len ≡ replicate len false → new ≡ old ++ replicate len zero_key → new ≡ old ++ map (grown_key by) (sliced (masked v xs) start len)
appends_nulls by v xs old new start len within unset grown =
    let nulls : sliced (masked v xs) start len ≡ replicate len Null = sym (mask-part v xs start len within) ∙ (ap (λ bits. mask bits (sliced xs start len)) unset ∙ mask-unset len (sliced xs start len) (length-sliced xs start len within)) in
    grown ∙ ap (λ ys. old ++ ys) (sym (ap (map (grown_key by)) nulls ∙ map_constant (grown_key by) len Null))

-- rows store their own keys, and under bits too
store_one : (s : Slot) → StoresKey s (key_in s)
store_one (Number (pos n)) = refl
store_one _ = tt

stores_own : (rows : List Slot) → StoresKeys rows (keys_in rows)
stores_own [] = tt
stores_own (s ∷ rows) = (store_one s, stores_own rows)

stores_set : (bits : List Bool) (rows : List Slot) → length bits ≡ length rows → StoresKeys rows (keys_in (mask bits rows))
stores_set [] [] same = tt
stores_set [] (s ∷ rows) same = absurd (omega (arith, same))
stores_set (b ∷ bits) [] same = absurd (omega (arith, same))
stores_set (true ∷ bits) (s ∷ rows) same =
    (store_one s, stores_set bits rows (omega (arith, same)))
stores_set (false ∷ bits) (s ∷ rows) same = (tt, stores_set bits rows (omega (arith, same)))

pub stores_rows : (validity : Option (List Bool)) (rows : List Slot) → FitsRows validity (length rows) → StoresKeys rows (keys_in (masked validity rows))
stores_rows None rows fits = stores_own rows
stores_rows (Some bits) rows fits = stores_set bits rows fits

-- sources that store the keys of arrays, one each
abbrev pub AreStored : List (List Slot) → List (Bor KeyedParts) → Type 0
AreStored = AllZip (λ stored array. StoresKeys stored array.now.keys)

pub stored_more : (sources : List (List Slot)) (arrays : List (Bor KeyedParts)) (stored : List Slot) (array : Bor KeyedParts) → AreStored sources arrays → StoresKeys stored array.now.keys → AreStored (sources ++ stored ∷ []) (arrays ++ array ∷ [])
stored_more [] [] stored array held here = (here, tt)
stored_more [] (r ∷ arrays) stored array held here = absurd held
stored_more (s ∷ sources) [] stored array held here = absurd held
stored_more (s ∷ sources) (r ∷ arrays) stored array held here =
    (held.0, stored_more sources arrays stored array held.1 here)

pub stored_at : (sources : List (List Slot)) (arrays : List (Bor KeyedParts)) → AreStored sources arrays → BindsAll (BindsKeys sources) arrays
stored_at [] [] held i r within at = absurd (omega (arith, within))
stored_at [] (a ∷ arrays) held i r within at = absurd held
stored_at (s ∷ sources) [] held i r within at = absurd held
stored_at (s ∷ sources) (a ∷ arrays) held zero r within at =
    (omega arith, subst (λ array. StoresKeys s array.now.keys) (sym at) held.0)
stored_at (s ∷ sources) (a ∷ arrays) held (suc i) r within at =
    let rest = stored_at sources arrays held.1 i r (omega (arith, within)) at in
    (omega (arith, rest.0), rest.1)

-- a source by its slots
slots_at : {K : Type 0} (slot : K → Slot) (sources : List (List K)) (i : ℕ) → get_or (map (map slot) sources) i [] ≡ map slot (get_or sources i [])
slots_at slot [] i = refl
slots_at slot (s ∷ sources) zero = refl
slots_at slot (s ∷ sources) (suc i) = slots_at slot sources i

-- the source that stores keys
module _ {K : Type 0} (slot : K → Slot) (sources : List (List K)) (i : ℕ) (rows : List Slot) (held : StoresAt (map (map slot) sources) i (keys_in rows)) where
  pub source_stores : StoresKeys (map slot (get_or sources i [])) (keys_in rows)
  source_stores = subst (λ stored. StoresKeys stored (keys_in rows)) (slots_at slot sources i) held.1

  pub source_long : length (get_or sources i []) ≡ length rows
  source_long =
      sym (length-map (get_or sources i []) slot) ∙ (stores_long (map slot (get_or sources i [])) (keys_in rows) source_stores ∙ length-map rows key_in)
