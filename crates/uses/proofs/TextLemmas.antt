-- Rows of texts that are appended to offsets and bytes, and numbers that are read of them.
use Rattle.uses.proofs.Common.{All, All-push, Bor, Err, IsRowOf, IsUtf8, List, Null, Number, Ok, ParsesSigned, Result, [], ap, append-nil, arith, concat, concat-append, concat_is, concat_length, ends_from, ends_last, ends_next, flat_map-map, get_or, is_ok, last_of, length, length-flat_map-take, map, map_more, map_push, pieces, pieces_of_rows, pos, refl, result_unwrap_or, sym, take, take_all, texts_in, w32, with_row, if◌then◌else◌, ℕ, ℤ, ◌++◌, ◌+◌, ◌<◌, ◌∙◌, ◌∷◌, ◌≡◌, ◌≤◌}

-- offsets and bytes of texts, one behind the other
pub record AreStored (os bs : List ℕ) (texts : List (List ℕ)) : Type 0 where
  pub offsets : os ≡ 0 ∷ ends_from 0 (map length texts)
  pub bytes : bs ≡ concat texts
  pub utf8 : All IsUtf8 texts

-- one text more
pub stored_next : (os bs new_os new_bs text : List ℕ) (texts : List (Bor (List ℕ))) (i : ℕ) (d : Bor (List ℕ)) → i < length texts → text ≡ (get_or texts i d).now → IsUtf8 text → new_os ≡ with_row os (length (get_or texts i d).now) → new_bs ≡ bs ++ text → AreStored os bs (texts_in (take i texts)) → AreStored new_os new_bs (texts_in (take (i + 1) texts))
stored_next os bs new_os new_bs text texts i d within read utf8 ends bytes stored =
    let before = texts_in (take i texts) in
    rw (ends, bytes, map_more (λ (text : Bor (List ℕ)). text.now) texts i d within, ← read, stored.offsets, stored.bytes) (record {
      offsets = rw (map_push length before text) (sym (ends_next 0 (map length before) (length text)));
      bytes = rw (concat-append before (text ∷ []), append-nil text) refl;
      utf8 = All-push IsUtf8 before text stored.utf8 utf8;
    })

-- they have no more bytes than all of them and those behind
pub bytes_so_far : (os bs : List ℕ) (texts : List (Bor (List ℕ))) (i : ℕ) (d : Bor (List ℕ)) → i < length texts → AreStored os bs (texts_in (take i texts)) → last_of os + length (get_or texts i d).now ≤ length (concat (texts_in texts))
bytes_so_far os bs texts i d within stored =
    let before = texts_in (take i texts) in
    let joined = λ (xs : List (Bor (List ℕ))). concat_is (texts_in xs) ∙ flat_map-map (λ (x : List ℕ). x) (λ (text : Bor (List ℕ)). text.now) xs in
    omega (arith, ap last_of stored.offsets, ends_last 0 (map length before), concat_length before, ap length (joined (take i texts)), ap length (joined texts), length-flat_map-take (λ (text : Bor (List ℕ)). text.now) texts i d within)

-- offsets and bytes of which the rows are texts
pub record AreRows (os bs : List ℕ) (texts : List (List ℕ)) : Type 0 where
  pub rows : pieces os bs ≡ texts
  pub within : last_of os ≤ length bs
  pub utf8 : All IsUtf8 (pieces os bs)

pub stored_rows : (os bs new_os new_bs : List ℕ) (texts : List (Bor (List ℕ))) (i : ℕ) → length texts ≤ i → new_os ≡ os → new_bs ≡ bs → AreStored os bs (texts_in (take i texts)) → AreRows new_os new_bs (texts_in texts)
stored_rows os bs new_os new_bs texts i past offsets bytes stored =
    let before = texts_in (take i texts) in
    let rows : pieces os bs ≡ before = rw (stored.offsets, stored.bytes) (pieces_of_rows before) in
    rw (offsets, bytes, ← take_all i texts past) (record {
      rows = rows;
      within = omega (arith, ap last_of stored.offsets, ends_last 0 (map length before), concat_length before, ap length stored.bytes);
      utf8 = rw rows stored.utf8;
    })

-- the row of a text, by what `parse` answered
pub row_read : {E : Type 0} (text : List ℕ) (r : Result ℤ E) → ParsesSigned w32 10 text r → IsRowOf text (if is_ok r then Number (result_unwrap_or r (pos 0)) else Null)
row_read text (Ok x) parsed = record { number = λ _. ap Number parsed.1; none = λ no. absurd (no parsed.0) }
row_read text (Err e) parsed = record { number = λ yes. absurd (parsed yes); none = λ _. refl }
