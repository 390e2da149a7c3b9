-- Offsets as they are stored, and as contracts see them.
use Rattle.arrow_memory.proofs.Common.{◌≡◌, ℕ, zero, suc, ◌+◌, ◌-◌, ◌<◌, ◌≤◌, Bool, nat_eq, ℤ, pos, negsuc, ◌+ℤ◌, ◌-ℤ◌, ◌≤ℤ◌, List, [], ◌∷◌, ◌++◌, length, map, get_or, take, drop, replicate, slice_index, unsigned_abs, refl, ap, sym, subst, ◌∙◌, arith, rules, get_or-map, set, Decides, one_answer, unsigned_Decides, pointwise, pointwise_decides, same_lists, All, ints, map-append, map-replicate, take-map, drop-map, length-map, length-take, take_all, take_more, take_more_set, drop-drop, drop-set-lt, get_or-take, get_or-drop, get_or_default, RisesFrom, AreOffsets, IsOffsets, last_of, with_row, with_rows, counted_on, sliced}
use Rattle.arrow_memory.proofs.SlicedLemmas.{length-sliced}

-- stored numbers and natural numbers

rises_naturals : (low : ℤ) (zs : List ℤ) → pos 0 ≤ℤ low → RisesFrom low zs → map pos (map unsigned_abs zs) ≡ zs
rises_naturals low [] positive rises = refl
rises_naturals low (pos n ∷ zs) positive rises = ap (λ xs. pos n ∷ xs) (rises_naturals (pos n) zs (omega (arith, ints)) rises.1)
rises_naturals low (negsuc n ∷ zs) positive rises = absurd (omega (arith, ints, rises.0))

-- stored offsets are the natural numbers that contracts see
pub as_stored : (zs : List ℤ) (os : List ℕ) → AreOffsets zs → map unsigned_abs zs ≡ os → map pos os ≡ zs
as_stored zs os held seen = subst (λ xs. map pos xs ≡ zs) seen (rises_naturals (pos 0) zs (search rules) held.rises)

-- and these are offsets
pub seen_offsets : (zs : List ℤ) (os : List ℕ) → AreOffsets zs → map unsigned_abs zs ≡ os → IsOffsets os
seen_offsets zs os held seen = subst AreOffsets (sym (as_stored zs os held seen)) held

abs_naturals : (os : List ℕ) → map unsigned_abs (map pos os) ≡ os
abs_naturals [] = refl
abs_naturals (n ∷ os) = ap (λ xs. n ∷ xs) (abs_naturals os)

-- numbers stored as natural numbers are seen as these
pub as_seen : (zs : List ℤ) (os : List ℕ) → zs ≡ map pos os → map unsigned_abs zs ≡ os
as_seen zs os stored = ap (map unsigned_abs) stored ∙ abs_naturals os

-- the number of one stored value
number_of : {A : Type 0} (f : A → ℤ) (xs : List A) (os : List ℕ) (i : ℕ) (d : A) → map f xs ≡ map pos os → i < length os → f (get_or xs i d) ≡ pos (slice_index os i)
number_of f xs os i d stored within =
    let long = length-map os pos in
    sym (get_or-map f xs i d) ∙ (ap (λ zs. get_or zs i (f d)) stored ∙ (get_or_default (map pos os) i (f d) (pos 0) (omega arith) ∙ get_or-map pos os i 0))

pub number_at : {A : Type 0} (f : A → ℤ) (xs : List A) (os : List ℕ) (i : ℕ) (x : A) → map f xs ≡ map pos os → i < length os → x ≡ get_or xs i x → f x ≡ pos (slice_index os i)
number_at f xs os i x stored within read = ap f read ∙ number_of f xs os i x stored within

-- where rows lie

rises_between : (n : ℕ) (os : List ℕ) (i k : ℕ) → RisesFrom (pos n) (map pos os) → i ≤ k → k < length os → (n ≤ slice_index os k) × (slice_index os i ≤ slice_index os k)
rises_between n [] i k rises order within = absurd (omega arith)
rises_between n (m ∷ os) zero zero rises order within = (omega (arith, ints, rises.0), omega arith)
rises_between n (m ∷ os) (suc i) zero rises order within = absurd (omega arith)
rises_between n (m ∷ os) zero (suc k) rises order within =
    let next = rises_between m os k k rises.1 (omega arith) (omega arith) in
    (omega (arith, ints, rises.0, next.0), next.0)
rises_between n (m ∷ os) (suc i) (suc k) rises order within =
    let next = rises_between m os i k rises.1 (omega arith) (omega arith) in
    (omega (arith, ints, rises.0, next.0), next.1)

-- an offset is at most a later one
pub offsets_rise : (os : List ℕ) (i k : ℕ) → IsOffsets os → i ≤ k → k < length os → slice_index os i ≤ slice_index os k
offsets_rise os i k held order within = (rises_between 0 os i k held.rises order within).1

-- and at most the last one
pub at_most_last : (os : List ℕ) (i : ℕ) → IsOffsets os → i < length os → slice_index os i ≤ last_of os
at_most_last os i held within = offsets_rise os i (length os - 1) held (omega arith) (omega arith)

-- a part of them

rises_drop : (low least : ℤ) (n : ℕ) (zs : List ℤ) → least ≤ℤ low → RisesFrom low zs → RisesFrom least (drop n zs)
rises_drop low least zero [] order rises = tt
rises_drop low least zero (z ∷ zs) order rises = (omega (arith, ints, order, rises.0), rises.1)
rises_drop low least (suc n) [] order rises = tt
rises_drop low least (suc n) (z ∷ zs) order rises = rises_drop z least n zs (omega (arith, ints, order, rises.0)) rises.1

rises_take : (low : ℤ) (n : ℕ) (zs : List ℤ) → RisesFrom low zs → RisesFrom low (take n zs)
rises_take low zero zs rises = tt
rises_take low (suc n) [] rises = tt
rises_take low (suc n) (z ∷ zs) rises = (rises.0, rises_take z n zs rises.1)

pub map_sliced : {A B : Type 0} (f : A → B) (xs : List A) (o n : ℕ) → map f (sliced xs o n) ≡ sliced (map f xs) o n
map_sliced f xs o n = sym (take-map f n (drop o xs)) ∙ ap (take n) (sym (drop-map f o xs))

pub sliced_offsets : (zs : List ℤ) (o n : ℕ) → AreOffsets zs → o + n ≤ length zs → 0 < n → AreOffsets (sliced zs o n)
sliced_offsets zs o n held within some =
    record { some = omega (arith, length-sliced zs o n within); rises = rises_take (pos 0) n (drop o zs) (rises_drop (pos 0) (pos 0) o zs (search rules) held.rises) }

-- and more behind them

pub last_behind : (n m : ℕ) (os : List ℕ) → last_of (n ∷ m ∷ os) ≡ last_of (m ∷ os)
last_behind n m os =
    let last : length (n ∷ m ∷ os) - 1 ≡ suc (length (m ∷ os) - 1) = omega arith in
    ap (λ i. slice_index (n ∷ m ∷ os) i) last

rises_more : (low : ℤ) (n : ℕ) (os more : List ℕ) → RisesFrom low (map pos (n ∷ os)) → RisesFrom (pos (last_of (n ∷ os))) (map pos more) → RisesFrom low (map pos (n ∷ os ++ more))
rises_more low n [] more rises behind = (rises.0, behind)
rises_more low n (m ∷ os) more rises behind =
    (rises.0, rises_more (pos n) m os more rises.1 (subst (λ last. RisesFrom (pos last) (map pos more)) (last_behind n m os) behind))

pub offsets_more : (os more : List ℕ) → IsOffsets os → RisesFrom (pos (last_of os)) (map pos more) → IsOffsets (os ++ more)
offsets_more [] more held behind = absurd (omega (arith, held.some))
offsets_more (n ∷ os) more held behind = record { some = omega arith; rises = rises_more (pos 0) n os more held.rises behind }

-- stored values that are offsets, which contracts see as these
pub record StoredAs {A : Type 0} (f : A → ℤ) (xs : List A) (os : List ℕ) : Type 0 where
  pub held : AreOffsets (map f xs)
  pub seen : map unsigned_abs (map f xs) ≡ os

pub stored_part : {A : Type 0} (f : A → ℤ) (xs new : List A) (os : List ℕ) (o n : ℕ) → AreOffsets (map f xs) → map unsigned_abs (map f xs) ≡ os → new ≡ sliced xs o n → o + n ≤ length os → 0 < n → StoredAs f new (sliced os o n)
stored_part f xs new os o n held seen is within some =
    let part : map f new ≡ sliced (map f xs) o n = ap (map f) is ∙ map_sliced f xs o n in
    let long : length os ≡ length (map f xs) = ap length (sym seen) ∙ length-map (map f xs) unsigned_abs in
    record {
      held = subst AreOffsets (sym part) (sliced_offsets (map f xs) o n held (omega arith) some);
      seen = ap (map unsigned_abs) part ∙ (map_sliced unsigned_abs (map f xs) o n ∙ ap (λ ns. sliced ns o n) seen);
    }

-- the old offsets and more behind them
pub stored_more : {A : Type 0} (f : A → ℤ) (xs new : List A) (os more : List ℕ) → AreOffsets (map f xs) → map unsigned_abs (map f xs) ≡ os → map f new ≡ map f xs ++ map pos more → RisesFrom (pos (last_of os)) (map pos more) → StoredAs f new (os ++ more)
stored_more f xs new os more held seen is behind =
    let all : map f new ≡ map pos (os ++ more) = is ∙ (ap (λ zs. zs ++ map pos more) (sym (as_stored (map f xs) os held seen)) ∙ sym (map-append pos os more)) in
    record { held = subst AreOffsets (sym all) (offsets_more os more (seen_offsets (map f xs) os held seen) behind); seen = as_seen (map f new) (os ++ more) all }

-- a row more
pub stored_row : {A : Type 0} (f : A → ℤ) (xs new : List A) (os : List ℕ) (x : A) (len : ℕ) → AreOffsets (map f xs) → map unsigned_abs (map f xs) ≡ os → new ≡ xs ++ x ∷ [] → f x ≡ pos (last_of os + len) → StoredAs f new (with_row os len)
stored_row f xs new os x len held seen is value =
    stored_more f xs new os ((last_of os + len) ∷ []) held seen (ap (map f) is ∙ (map-append f xs (x ∷ []) ∙ ap (λ z. map f xs ++ z ∷ []) value)) (omega (arith, ints), tt)

rises_constant : (n k : ℕ) → RisesFrom (pos n) (map pos (replicate k n))
rises_constant n zero = tt
rises_constant n (suc k) = (search rules, rises_constant n k)

-- rows of no item, by a growth from m values to n
pub stored_constant : {A : Type 0} (f : A → ℤ) (xs new : List A) (os : List ℕ) (x : A) (m n k : ℕ) → AreOffsets (map f xs) → map unsigned_abs (map f xs) ≡ os → new ≡ take n xs ++ replicate (n - m) x → length xs ≡ m → n ≡ m + k → f x ≡ pos (last_of os) → StoredAs f new (os ++ replicate k (last_of os))
stored_constant f xs new os x m n k held seen is long grown value =
    let last = last_of os in
    let whole : take n xs ≡ xs = take_all n xs (omega arith) in
    let count : n - m ≡ k = omega arith in
    let constant : map f (replicate k x) ≡ map pos (replicate k last) = map-replicate f k x ∙ (ap (replicate k) value ∙ sym (map-replicate pos k last)) in
    stored_more f xs new os (replicate k last) held seen (ap (map f) (is ∙ (λ i. whole i ++ replicate (count i) x)) ∙ (map-append f xs (replicate k x) ∙ ap (λ zs. map f xs ++ zs) constant)) (rises_constant last k)

-- rows of others

rises_rows : (low : ℤ) (os : List ℕ) (start len : ℕ) → RisesFrom low (map pos os) → start < length os → RisesFrom (pos (slice_index os start)) (map pos (sliced os (start + 1) len))
rises_rows low [] start len rises within = absurd (omega arith)
rises_rows low (m ∷ os) zero len rises within = subst (RisesFrom (pos m)) (take-map pos len os) (rises_take (pos m) len (map pos os) rises.1)
rises_rows low (m ∷ os) (suc start) len rises within =
    let next : suc start + 1 ≡ suc (start + 1) = omega arith in
    rw next (rises_rows (pos m) os start len rises.1 (omega arith))

rises_counted : (place first low : ℕ) (ns : List ℕ) → first ≤ low → RisesFrom (pos low) (map pos ns) → RisesFrom (pos (place + (low - first))) (map pos (map (λ n. place + (n - first)) ns))
rises_counted place first low [] order rises = tt
rises_counted place first low (n ∷ ns) order rises =
    (omega (arith, ints, rises.0), rises_counted place first n ns (omega (arith, ints, rises.0)) rises.1)

-- rows that are counted on rise from where the first begins
counted_rise : (place : ℕ) (os : List ℕ) (start len : ℕ) → IsOffsets os → start < length os → RisesFrom (pos place) (map pos (counted_on place os start len))
counted_rise place os start len held within =
    let first = slice_index os start in
    let begins : place + (first - first) ≡ place = omega arith in
    subst (λ n. RisesFrom (pos n) (map pos (counted_on place os start len))) begins (rises_counted place first first (sliced os (start + 1) len) (omega arith) (rises_rows (pos 0) os start len held.rises within))

counted_stored : (place first low : ℕ) (ns : List ℕ) → first ≤ low → RisesFrom (pos low) (map pos ns) → map (λ z. pos place +ℤ (z -ℤ pos first)) (map pos ns) ≡ map pos (map (λ n. place + (n - first)) ns)
counted_stored place first low [] order rises = refl
counted_stored place first low (n ∷ ns) order rises =
    let up : first ≤ n = omega (arith, ints, rises.0) in
    let here : pos place +ℤ (pos n -ℤ pos first) ≡ pos (place + (n - first)) = omega (arith, ints) in
    λ i. here i ∷ counted_stored place first n ns up rises.1 i

-- rows of others behind one's own, where what was reserved before is `kept`
pub stored_rows : {A : Type 0} (f : A → ℤ) (xs kept new : List A) (os others : List ℕ) (place start len : ℕ) → AreOffsets (map f xs) → map unsigned_abs (map f xs) ≡ os → kept ≡ xs → map f new ≡ map f kept ++ map pos (counted_on place others start len) → place ≡ last_of os → IsOffsets others → start < length others → StoredAs f new (with_rows os others start len)
stored_rows f xs kept new os others place start len held seen same is at rise within =
    stored_more f xs new os (counted_on (last_of os) others start len) held seen (is ∙ (λ i. map f (same i) ++ map pos (counted_on (at i) others start len))) (counted_rise (last_of os) others start len rise within)

pub natural : (z : ℤ) → pos 0 ≤ℤ z → z ≡ pos (unsigned_abs z)
natural (pos n) positive = refl
natural (negsuc n) positive = absurd (omega (arith, ints, positive))

counts_within : (to from z : ℤ) (first n greatest : ℕ) → pos 0 ≤ℤ to → from ≡ pos first → z ≡ pos n → first ≤ n → unsigned_abs to + (n - first) ≤ greatest → (to +ℤ (z -ℤ from)) ≤ℤ pos greatest
counts_within to from z first n greatest positive begins here low fits =
    let is = natural to positive in
    omega (arith, ints, is, begins, here)

-- values that are stored offsets, and the rows from one place on
module _ {A : Type 0} (f : A → ℤ) (xs : List A) (os : List ℕ) (start len n : ℕ) (stored : map f xs ≡ map pos os) (held : IsOffsets os) (part : start + len < length os) (count : n ≡ len) (from to : A) (read : from ≡ get_or xs start from) (positive : pos 0 ≤ℤ f to) where
  begins : f from ≡ pos (slice_index os start)
  begins = number_at f xs os start from stored (omega arith) read

  -- each is counted on without passing the greatest offset
  pub rows_fit : (greatest : ℕ) → unsigned_abs (f to) + (slice_index os (start + len) - slice_index os start) ≤ greatest → All (λ x. (f from ≤ℤ f x) × ((f to +ℤ (f x -ℤ f from)) ≤ℤ pos greatest)) (sliced xs (start + 1) n)
  rows_fit greatest fits k d within =
      let long = length-take n (drop (start + 1) xs) in
      let below : k < n = omega arith in
      let place : get_or (sliced xs (start + 1) n) k d ≡ get_or xs (start + 1 + k) d = get_or-take n (drop (start + 1) xs) k d below ∙ get_or-drop (start + 1) xs k d in
      let here : f (get_or (sliced xs (start + 1) n) k d) ≡ pos (slice_index os (start + 1 + k)) = ap f place ∙ number_of f xs os (start + 1 + k) d stored (omega arith) in
      let low = offsets_rise os start (start + 1 + k) held (omega arith) (omega arith) in
      let high = offsets_rise os (start + 1 + k) (start + len) held (omega arith) part in
      (omega (arith, ints, begins, here, low), counts_within (f to) (f from) _ _ _ greatest positive begins here low (omega arith))

  -- and appended they are as contracts see them
  pub rows_counted : (old new : List A) → map f new ≡ map f old ++ map (λ z. f to +ℤ (z -ℤ f from)) (map f (sliced xs (start + 1) n)) → map f new ≡ map f old ++ map pos (counted_on (unsigned_abs (f to)) os start len)
  rows_counted old new is =
      let place = unsigned_abs (f to) in
      let first = slice_index os start in
      let ns = sliced os (start + 1) len in
      let rise : RisesFrom (pos first) (map pos ns) = rises_rows (pos 0) os start len held.rises (omega arith) in
      let stands : map (λ z. pos place +ℤ (z -ℤ pos first)) (map pos ns) ≡ map pos (counted_on place os start len) = counted_stored place first first ns (omega arith) rise in
      let rows : map f (sliced xs (start + 1) n) ≡ map pos ns = map_sliced f xs (start + 1) n ∙ ((λ i. sliced (stored i) (start + 1) (count i)) ∙ sym (map_sliced pos os (start + 1) len)) in
      let is_to = natural (f to) positive in
      let counts : map (λ z. f to +ℤ (z -ℤ f from)) (map f (sliced xs (start + 1) n)) ≡ map (λ z. pos place +ℤ (z -ℤ pos first)) (map pos ns) = λ i. map (λ z. is_to i +ℤ (z -ℤ begins i)) (rows i) in
      is ∙ ap (λ zs. map f old ++ zs) (counts ∙ stands)

-- ---- one offset after the other

-- a member that is as it was
pub same_at : {A : Type 0} (xs ys : List A) (i : ℕ) (d : A) → drop i xs ≡ drop i ys → get_or xs i d ≡ get_or ys i d
same_at xs ys i d left =
    let at : i + 0 ≡ i = omega arith in
    sym (get_or-drop i xs 0 d ∙ ap (λ k. get_or xs k d) at) ∙ (ap (λ rest. get_or rest 0 d) left ∙ (get_or-drop i ys 0 d ∙ ap (λ k. get_or ys k d) at))

pub mapped_next : {A : Type 0} (f : A → ℤ) (g : ℤ → ℤ) (old new : List A) (i : ℕ) (value d : A) → i < length new → i < length old → f value ≡ g (f (get_or old i d)) → map f (take i new) ≡ map g (map f (take i old)) → map f (take (i + 1) (set new i value)) ≡ map g (map f (take (i + 1) old))
mapped_next f g old new i value d within inside is so_far =
    let x = get_or old i d in
    let ends = map-append g (map f (take i old)) (f x ∷ []) in
    ap (map f) (take_more_set new i value within) ∙ (map-append f (take i new) (value ∷ []) ∙ ((λ t. so_far t ++ is t ∷ []) ∙ (sym ends ∙ sym (ap (λ xs. map g (map f xs)) (take_more old i d inside) ∙ ap (map g) (map-append f (take i old) (x ∷ []))))))

pub left_next : {A : Type 0} (old new : List A) (i : ℕ) (value : A) → drop i new ≡ drop i old → drop (i + 1) (set new i value) ≡ drop (i + 1) old
left_next old new i value left = drop-set-lt (i + 1) new i value (omega arith) ∙ (sym (drop-drop 1 i new) ∙ (ap (drop 1) left ∙ drop-drop 1 i old))

-- ---- equality

pos_one : (xs ys : List ℕ) → map pos xs ≡ map pos ys → xs ≡ ys
pos_one xs ys same = sym (abs_naturals xs) ∙ (ap (map unsigned_abs) same ∙ abs_naturals ys)

map_one : {A : Type 0} (f : A → ℤ) → ((x y : A) → f x ≡ f y → x ≡ y) → (xs ys : List A) → map f xs ≡ map f ys → xs ≡ ys
map_one f one xs ys same =
    same_lists xs ys (sym (length-map xs f) ∙ (ap length same ∙ length-map ys f)) (λ k d within. one _ _ (sym (get_or-map f xs k d) ∙ (ap (λ zs. get_or zs k (f d)) same ∙ get_or-map f ys k d)))

-- `==` of stored offsets holds where their numbers are the same
pub same_offsets : {A : Type 0} (f : A → ℤ) (E : A → A → Bool) → ((x y : A) → Decides (E x y) (x ≡ y)) → ((x y : A) → f x ≡ f y → x ≡ y) → (xs ys : List A) (os ps : List ℕ) → map f xs ≡ map pos os → map f ys ≡ map pos ps → Decides (pointwise E xs ys) (os ≡ ps)
same_offsets f E decides one xs ys os ps left right =
    let stored = pointwise_decides decides xs ys in
    (λ e. pos_one os ps (sym left ∙ (ap (map f) (stored.0 e) ∙ right)), λ e. stored.1 (map_one f one xs ys (left ∙ (ap (map pos) e ∙ sym right))))

-- and answers as a comparison of the numbers one by one
pub same_numbers : (result : Bool) (os ps : List ℕ) → Decides result (os ≡ ps) → result ≡ pointwise nat_eq os ps
same_numbers result os ps decides = one_answer result (pointwise nat_eq os ps) decides (pointwise_decides unsigned_Decides os ps)
