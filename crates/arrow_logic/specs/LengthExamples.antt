-- Worked rows of lengths: if a definition changes its meaning, one of these fails.
use Rattle.std.specs.Prelude.{ℕ, pos, true, false, None, Some, [], ◌∷◌, codes, map, ◌≡◌, refl}
use Rattle.arrow_types.specs.declared.datatypes.IntegerType.TheVariants.{Int32, Int64}
use Rattle.arrow_types.specs.ArrowType.{plain, integer, utf8, large_utf8}
use Rattle.arrow_types.specs.Slot.{Null, Number, Text}
use Rattle.arrow_logic.specs.Kept.{kept}
use Rattle.arrow_logic.specs.Length.{length_type, stored_length}

-- ["two",_,""]: what is stored beneath the null is 0
lengths_stored : map stored_length (Text (codes "two") ∷ Null ∷ Text [] ∷ []) ≡ Number (pos 3) ∷ Number (pos 0) ∷ Number (pos 0) ∷ []
lengths_stored = refl

-- whatever is stored beneath that null
kept_rows : kept {A = ℕ} {B = ℕ} 0 (λ n. n) (Some (true ∷ false ∷ true ∷ [])) (3 ∷ 7 ∷ 0 ∷ []) ≡ 3 ∷ 0 ∷ 0 ∷ []
kept_rows = refl

kept_all : kept {A = ℕ} {B = ℕ} 0 (λ n. n) None (3 ∷ 7 ∷ []) ≡ 3 ∷ 7 ∷ []
kept_all = refl

small_lengths : length_type (plain utf8) ≡ plain (integer Int32)
small_lengths = refl

large_lengths : length_type (plain large_utf8) ≡ plain (integer Int64)
large_lengths = refl
