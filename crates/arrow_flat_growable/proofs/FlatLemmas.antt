-- A flat array under construction: what is stored and its bits, one part behind the other.
use Rattle.arrow_flat_growable.proofs.Common.{arith, ◌≡◌, ◌+◌, ◌≤◌, ◌<◌, ◌^◌, ℕ, Bool, false, List, [], ◌∷◌, ◌++◌, length, map, get_or, ap, sym, ◌∙◌, All, get_or-map, ArrowType, IsCarried, Fits, mask, Slot, Layout, type_of_layout, Fits-nil, length-mask, sliced, length-sliced, BindsAll, IsGrownFlat, KeepsBound, fits_count, first_type, source_at, mask-append}
use Rattle.std.specs.Borrow.{Bor}
use Rattle.std.proofs.lemmas.List.{length-append}

-- the layout of an array that is bound
pub source_is : {A : Type 0} (f : A → Layout) (arrays : List A) (i : ℕ) (x : A) → i < length arrays → x ≡ get_or arrays i x → source_at (map f arrays) i ≡ f x
source_is f arrays i x bound read = get_or-map f arrays i x _ bound ∙ ap f (sym read)

-- rows under bits, and more of both behind them
pub appended_rows : (bits more : List Bool) (stored part ys : List Slot) → length bits ≡ length stored → mask more part ≡ ys → mask (bits ++ more) (stored ++ part) ≡ mask bits stored ++ ys
appended_rows bits more stored part ys same is =
    mask-append bits more stored part same ∙ ap (λ zs. mask bits stored ++ zs) is

-- as many of both
pub appended_lengths : (bits more : List Bool) (stored part : List Slot) (n : ℕ) → length bits ≡ length stored → length more ≡ n → length part ≡ n → length (bits ++ more) ≡ length (stored ++ part)
appended_lengths bits more stored part n same bits_more part_more =
    omega (arith, same, bits_more, part_more, length-append bits more, length-append stored part)

-- arrays that are bound, and stay so
pub stay_bound : {A : Type 0} {old new : ℕ → A → Type 0} (arrays : List (Bor A)) → KeepsBound old new → BindsAll old arrays → BindsAll new arrays
stay_bound arrays keeps bound = λ i r within at. keeps i r.now (bound i r within at)

-- what is stored in one without rows
pub sound_empty : {G A : Type 0} (slots : G → List Slot) (are_of : G → ArrowType → Type 0) (spares : List Bool → List Slot → Type 0) (binds : ℕ → A → Type 0) (values : G) (bits : List Bool) (arrays : List (Bor A)) (layouts : List Layout) (t : ArrowType) → IsCarried t → All (λ l. type_of_layout l ≡ t) layouts → are_of values t → BindsAll binds arrays → slots values ≡ [] → bits ≡ [] → spares [] [] → IsGrownFlat slots are_of spares binds values bits 0 arrays layouts t false
sound_empty slots are_of spares binds values bits arrays layouts t carried one_type kind bound stored none spared =
    record { carried = carried; one_type = one_type; kind = kind; bound = bound; counted = λ sound. ap length none; covers = λ sound. record { covered = ap length none ∙ sym (ap length stored); spared = rw (none, stored) spared }; fits = λ sound. rw stored (Fits-nil t) }

-- one that has not failed counts its rows
pub counts_rows : {G A : Type 0} {slots : G → List Slot} {are_of : G → ArrowType → Type 0} {spares : List Bool → List Slot → Type 0} {binds : ℕ → A → Type 0} {values : G} {bits : List Bool} {len : ℕ} {arrays : List (Bor A)} {layouts : List Layout} {t : ArrowType} {failed : Bool} → IsGrownFlat slots are_of spares binds values bits len arrays layouts t failed → failed ≡ false → len ≡ length (mask bits (slots values))
counts_rows {slots = slots} {values = values} {bits = bits} sound well =
    sym (length-mask bits (slots values) ((sound.covers well).covered) ∙ (sym ((sound.covers well).covered) ∙ sound.counted well))

-- rows that fit are not more than can be counted
pub too_many : (t : ArrowType) (xs more : List Slot) (len n : ℕ) → Fits t (xs ++ more) → len ≡ length xs → length more ≡ n → 2 ^ 64 ≤ len + n → ⊥
too_many t xs more len n fits count many over =
    omega (arith, fits_count t (xs ++ more) fits, length-append xs more, count, many, over)

-- the type of the first of some arrays that are bound
pub first_is : {A : Type 0} (f : A → Layout) (arrays : List A) (x : A) → 0 < length arrays → x ≡ get_or arrays 0 x → first_type (map f arrays) ≡ type_of_layout (f x)
first_is f [] x some read = absurd (omega (arith, some))
first_is f (y ∷ arrays) x some read = ap (λ z. type_of_layout (f z)) (sym read)

-- rows under a mask: a row for each bit
pub length-under : (own : List Bool) (all : List Slot) (start : ℕ) → start + length own ≤ length all → length (mask own (sliced all start (length own))) ≡ length own
length-under own all start within =
    let many = length-sliced all start (length own) within in
    length-mask own (sliced all start (length own)) (sym many) ∙ many
