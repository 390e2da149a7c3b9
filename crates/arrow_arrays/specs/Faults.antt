-- Which part of an array's parts fails first.
use Rattle.arrow_types.specs.declared.error.Error.{Error}
use Rattle.arrow_types.specs.declared.error.Error.TheVariants.{OutOfSpec}
use Rattle.arrow_types.specs.declared.error.SpecPart.TheVariants.{Kind, Child, Length, Offsets, TypeId, Key}

-- the error names the first of these that does not hold: kind of the type, types of the children, lengths, and offsets, type ids or keys
abbrev pub NamesFirstNested : Type 0 → Type 0 → Type 0 → Type 0 → Type 0 → Type 0 → Error → Type 0
NamesFirstNested kind child length offsets ids keys (OutOfSpec Kind) = kind → ⊥
NamesFirstNested kind child length offsets ids keys (OutOfSpec Child) = kind × (child → ⊥)
NamesFirstNested kind child length offsets ids keys (OutOfSpec Length) = kind × child × (length → ⊥)
NamesFirstNested kind child length offsets ids keys (OutOfSpec Offsets) = kind × child × length × (offsets → ⊥)
NamesFirstNested kind child length offsets ids keys (OutOfSpec TypeId) = kind × child × length × offsets × (ids → ⊥)
NamesFirstNested kind child length offsets ids keys (OutOfSpec Key) = kind × child × length × offsets × ids × (keys → ⊥)
NamesFirstNested kind child length offsets ids keys _ = ⊥
