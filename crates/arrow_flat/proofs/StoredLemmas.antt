-- What is stored, and the slots that hold it.
use Rattle.std.proofs.Common.{◌≡◌, ◌↔◌, ℕ, Bool, true, List, [], ◌∷◌, map, refl, ap, sym, ◌∙◌}
use Rattle.std.specs.Prelude.{IsTrue}
use Rattle.std.specs.Bool.{Decides}
use Rattle.arrow_types.specs.Relation.{related, eq}
use Rattle.arrow_types.specs.Slot.{Slot, Boolean}
use Rattle.arrow_memory.specs.Sliced.{sliced}
use Rattle.arrow_memory.proofs.OffsetLemmas.{map_sliced}

-- lists are one where their images are, under a function that is one to one
pub map-same : {A : Type 0} (f : A → Slot) → ((x y : A) → f x ≡ f y → x ≡ y) → (xs ys : List A) → map f xs ≡ map f ys → xs ≡ ys
map-same f one [] [] same = refl
map-same f one [] (y ∷ ys) same = cc
map-same f one (x ∷ xs) [] same = cc
map-same f one (x ∷ xs) (y ∷ ys) same =
    let first : f x ≡ f y = cc in
    let rest : map f xs ≡ map f ys = cc in
    let one_first = one x y first in
    let one_rest = map-same f one xs ys rest in
    (λ i. one_first i ∷ one_rest i)

map-decides : {A : Type 0} (f : A → Slot) → ((x y : A) → f x ≡ f y → x ≡ y) → (xs ys : List A) (r : Bool) → Decides r (xs ≡ ys) → Decides r (map f xs ≡ map f ys)
map-decides f one xs ys r told = (λ e. ap (map f) (told.0 e), λ same. told.1 (map-same f one xs ys same))

-- and so are parts of them
pub sliced-decides : {A : Type 0} (f : A → Slot) → ((x y : A) → f x ≡ f y → x ≡ y) → (xs ys : List A) (a b n : ℕ) (r : Bool) → Decides r (sliced xs a n ≡ sliced ys b n) → Decides r (sliced (map f xs) a n ≡ sliced (map f ys) b n)
sliced-decides f one xs ys a b n r told =
    rw (← map_sliced f xs a n, ← map_sliced f ys b n) (map-decides f one (sliced xs a n) (sliced ys b n) r told)

truth : {a b : Bool} → Boolean a ≡ Boolean b → a ≡ b
truth same = cc

-- values are one where their slots are
pub slots_same : {A : Type 0} (slot : A → Slot) (same : A → A → Bool) → ((x y : A) → related eq (slot x) (slot y) ≡ Boolean (same x y)) → ((x y : A) → IsTrue (same x y) ↔ (x ≡ y)) → (x y : A) → slot x ≡ slot y → x ≡ y
slots_same slot same answers decides x y is =
    let itself : same x x ≡ true = (decides x x).1 refl in
    let other : Boolean (same x y) ≡ Boolean (same x x) = sym (answers x y) ∙ (ap (λ s. related eq (slot x) s) (sym is) ∙ answers x x) in
    (decides x y).0 (truth other ∙ itself)

pub truth_values_same : (x y : Bool) → Boolean x ≡ Boolean y → x ≡ y
truth_values_same x y same = truth same
