-- The arrays that a growable takes rows of.
use Rattle.std.proofs.Common.{arith, ◌≡◌, ◌+◌, ◌≤◌, ◌<◌, ℕ, List, Option, Some, None, length, map, get_or, ap, sym, subst}
use Rattle.std.proofs.lemmas.List.{length-map}
use Rattle.std.proofs.lemmas.List.Elements.{All-more, All-same}
use Rattle.std.proofs.lemmas.List.{take_all}
use Rattle.std.specs.List.{All}
use Rattle.std.specs.Prelude.{take}
use Rattle.arrow_types.specs.ArrowType.{ArrowType}
use Rattle.arrow_arrays.specs.Layout.{Layout, rows, type_of_layout}
use Rattle.arrow_flat_growable.specs.Grown.{Grown, AreOfOneType, AreThere, bound_to, source_at}
use Rattle.arrow_flat_growable.proofs.FlatLemmas.{source_is}
use Rattle.arrow_growable.proofs.MakeLemmas.{bind_all}
use Rattle.arrow_select.specs.Extended.{HasRowsAt}
use Rattle.cases.specs.Sources.{TakesRowsOf}

-- rows of the arrays are there
pub there : (sources : Option (List Layout)) (layouts : List Layout) (i start len : ℕ) → TakesRowsOf layouts sources → i < length layouts → start + len ≤ length (rows (source_at layouts i)) → AreThere sources i start len
there None layouts i start len from bound within = tt
there (Some sources) layouts i start len from bound within =
    subst (λ ls. AreThere (Some ls) i start len) (sym from) (bound, within)

-- the same of an array that was read at the index
pub rows_there : {B : Type 0} (h : B → Layout) (arrays : List B) (b : B) (sources : Option (List Layout)) (i start len : ℕ) → TakesRowsOf (map h arrays) sources → i < length arrays → b ≡ get_or arrays i b → start + len ≤ length (rows (h b)) → AreThere sources i start len
rows_there h arrays b sources i start len from bound read within =
    there sources (map h arrays) i start len from (omega (arith, bound, length-map arrays h)) (subst (λ l. start + len ≤ length (rows l)) (sym (source_is h arrays i b bound read)) within)

-- one more array of a type
pub typed_next : {B : Type 0} (h : B → Layout) (arrays : List B) (b : B) (i : ℕ) (t : ArrowType) → i < length arrays → b ≡ get_or arrays i b → type_of_layout (h b) ≡ t → All (λ l. type_of_layout l ≡ t) (take i (map h arrays)) → All (λ l. type_of_layout l ≡ t) (take (i + 1) (map h arrays))
typed_next h arrays b i t bound read same done =
    All-more (λ l. type_of_layout l ≡ t) (map h arrays) i _ (omega (arith, bound, length-map arrays h)) done (subst (λ l. type_of_layout l ≡ t) (sym (source_is h arrays i b bound read)) same)

-- and so all of them
pub typed_all : {B : Type 0} (h : B → Layout) (arrays : List B) (i : ℕ) (t : ArrowType) → length arrays ≤ i → All (λ l. type_of_layout l ≡ t) (take i (map h arrays)) → All (λ l. type_of_layout l ≡ t) (map h arrays)
typed_all h arrays i t whole done =
    All-same (λ l. type_of_layout l ≡ t) (map h arrays) _ (sym (take_all i (map h arrays) (omega (arith, whole, length-map arrays h)))) done

-- as many arrays are bound
pub some_bound : {A B : Type 0} (f : A → Layout) (h : B → Layout) (bound : List A) (arrays : List B) → map f bound ≡ map h arrays → 0 < length arrays → 0 < length bound
some_bound f h bound arrays same some = omega (arith, some, ap length same, length-map bound f, length-map arrays h)

-- a growable that is bound to them
pub takes_bound : (g : Grown) (layouts same : List Layout) → g ≡ bound_to layouts → layouts ≡ same → TakesRowsOf same g.sources
takes_bound g layouts same bound is = subst (λ (h : Grown). TakesRowsOf same h.sources) (sym bound) is

-- where a loop has bound all arrays, there are as many
pub all_there : {A B : Type 0} (f : A → Layout) (h : B → Layout) (bound : List A) (arrays : List B) (i : ℕ) → length arrays ≤ i → map f bound ≡ take i (map h arrays) → 0 < length arrays → 0 < length bound
all_there f h bound arrays i whole done = some_bound f h bound arrays (bind_all f h bound arrays i whole done)

-- they are of one type
pub all_of_one_type : {A B : Type 0} (f : A → Layout) (h : B → Layout) (bound : List A) (arrays : List B) (i : ℕ) → length arrays ≤ i → map f bound ≡ take i (map h arrays) → AreOfOneType (map h arrays) → AreOfOneType (map f bound)
all_of_one_type f h bound arrays i whole done = subst AreOfOneType (sym (bind_all f h bound arrays i whole done))

-- and a growable that is bound to them takes rows of the arrays
pub takes_all : {A B : Type 0} (f : A → Layout) (h : B → Layout) (bound : List A) (arrays : List B) (i : ℕ) → length arrays ≤ i → map f bound ≡ take i (map h arrays) → (g : Grown) → g ≡ bound_to (map f bound) → TakesRowsOf (map h arrays) g.sources
takes_all f h bound arrays i whole done g is =
    takes_bound g (map f bound) (map h arrays) is (bind_all f h bound arrays i whole done)

-- an array that was read at the index has so many rows
pub has_rows : {B : Type 0} (h : B → Layout) (arrays : List B) (b : B) (sources : Option (List Layout)) (i n : ℕ) → TakesRowsOf (map h arrays) sources → i < length arrays → b ≡ get_or arrays i b → length (rows (h b)) ≡ n → HasRowsAt sources i n
has_rows h arrays b None i n from bound read same = tt
has_rows h arrays b (Some sources) i n from bound read same =
    subst (λ ls. HasRowsAt (Some ls) i n) (sym from) (omega (arith, bound, length-map arrays h), subst (λ l. length (rows l) ≡ n) (sym (source_is h arrays i b bound read)) same)
