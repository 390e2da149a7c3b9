-- Parts of texts and of bytes: of which types they are asked, and where characters begin.
use Rattle.std.specs.Prelude.{ℕ, zero, suc, ℤ, Bool, true, false, List, [], ◌∷◌, ◌||◌, ◌≡◌, Option, encode_utf8_all, nat_lt, nat_le, if◌then◌else◌}
use Rattle.std.specs.Str.{chars}
use Rattle.arrow_types.specs.declared.error.ArgumentFault.TheVariants.{SubstringType}
use Rattle.arrow_types.specs.declared.error.Error.{Error}
use Rattle.arrow_types.specs.declared.error.Error.TheVariants.{InvalidArgumentError, OutOfMemory}
use Rattle.arrow_types.specs.ArrowType.{ArrowType, plain, utf8, large_utf8, binary, large_binary}
use Rattle.arrow_types.specs.Part.{cut}

-- the types of texts and of bytes of any length; an extension is none
abbrev pub HasParts : ArrowType → Type 0
HasParts (plain utf8) = Unit {0}
HasParts (plain large_utf8) = Unit {0}
HasParts (plain binary) = Unit {0}
HasParts (plain large_binary) = Unit {0}
HasParts _ = ⊥

-- the bytes of a part of a text, of which these are the bytes
abbrev pub text_cut : ℤ → Option ℕ → List ℕ → List ℕ
text_cut start len bytes = encode_utf8_all (cut start len (chars bytes))

-- a row of which each part, counted in its units, is that counted in bytes
abbrev pub IsCutByBytes : (ℤ → Option ℕ → List ℕ → List ℕ) → List ℕ → Type 0
IsCutByBytes cut_units row = (start : ℤ) (len : Option ℕ) → cut_units start len row ≡ cut start len row

-- whether a byte of a text begins a character, and does not go on with one
abbrev pub begins : ℕ → Bool
begins b = nat_lt b 128 || nat_le 192 b

-- how many bytes of a text come before its character k, counted from 0: all where there are fewer
abbrev pub skipped : ℕ → List ℕ → ℕ
skipped k [] = 0
skipped zero (b ∷ bs) = if begins b then 0 else suc (skipped zero bs)
skipped (suc k) (b ∷ bs) = suc (skipped (if begins b then k else suc k) bs)

-- some bits without the first k of those that are set
abbrev pub without : ℕ → List Bool → List Bool
without zero bits = bits
without (suc k) [] = []
without (suc k) (true ∷ bits) = false ∷ without k bits
without (suc k) (false ∷ bits) = false ∷ without (suc k) bits

-- an error that `substring` may answer
abbrev pub IsSubstringRefusal : Error → Type 0
IsSubstringRefusal (InvalidArgumentError SubstringType) = Unit {0}
IsSubstringRefusal OutOfMemory = Unit {0}
IsSubstringRefusal _ = ⊥
