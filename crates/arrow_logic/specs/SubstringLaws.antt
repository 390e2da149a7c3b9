-- What the kinds of rows prove their laws of parts by.
use Rattle.std.specs.Prelude.{◌≡◌, ℕ, zero, suc, ℤ, Bool, true, false, ◌&&◌, List, [], ◌∷◌, Option, None, Some, take, drop, length, IsUtf8, refl}
use Rattle.std.specs.Str.{chars}
use Rattle.std.proofs.Math.Utf8.{scalar, scalars}
use Rattle.std.proofs.lemmas.Str.{scalars-chars}
use Rattle.arrow_types.specs.Part.{cut, part, part_begin}
use Rattle.arrow_types.specs.Slot.{Bytes, Text}
use Rattle.arrow_logic.specs.Substring.{text_cut}

both : (x y : Bool) → (x && y) ≡ true → (x ≡ true) × (y ≡ true)
both true y all = (refl, all)
both false y all = absurd (cc)

-- a beginning of a text and what follows it are texts

scalars-take : (k : ℕ) (cs : List ℕ) → scalars cs ≡ true → scalars (take k cs) ≡ true
scalars-take zero cs all = refl
scalars-take (suc k) [] all = refl
scalars-take (suc k) (c ∷ cs) all =
    let parts = both (scalar c) (scalars cs) all in
    (λ i. parts.0 i && scalars-take k cs parts.1 i)

scalars-drop : (k : ℕ) (cs : List ℕ) → scalars cs ≡ true → scalars (drop k cs) ≡ true
scalars-drop zero cs all = all
scalars-drop (suc k) [] all = refl
scalars-drop (suc k) (c ∷ cs) all = scalars-drop k cs (both (scalar c) (scalars cs) all).1

scalars-cut : (start : ℤ) (len : Option ℕ) (cs : List ℕ) → scalars cs ≡ true → scalars (cut start len cs) ≡ true
scalars-cut start None cs all = scalars-drop (part_begin start (length cs)) cs all
scalars-cut start (Some k) cs all = scalars-take k _ (scalars-drop (part_begin start (length cs)) cs all)

-- and so is a part
pub IsUtf8-cut : (start : ℤ) (len : Option ℕ) (bytes : List ℕ) → IsUtf8 bytes → IsUtf8 (text_cut start len bytes)
IsUtf8-cut start len bytes text =
    (cut start len (chars bytes), (scalars-cut start len (chars bytes) (scalars-chars bytes text), refl))

pub part_of_text : (start : ℤ) (len : Option ℕ) (bytes : List ℕ) → part start len (Text bytes) ≡ Text (text_cut start len bytes)
part_of_text start len bytes = refl

pub part_of_bytes : (start : ℤ) (len : Option ℕ) (bytes : List ℕ) → part start len (Bytes bytes) ≡ Bytes (cut start len bytes)
part_of_bytes start len bytes = refl
