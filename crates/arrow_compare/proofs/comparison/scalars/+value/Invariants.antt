use Rattle.arrow_flat.specs.AnyScalar.{meaning_of}
use Rattle.arrow_flat.specs.DictionaryScalar.{slot_depth}
use Rattle.arrow_compare.proofs.comparison.scalars.+value.Given as goal

-- the value is less deep than the dictionary's scalar that holds it
abbrev pub decreases-value_of : goal.decreases-value_of
decreases-value_of l = slot_depth (meaning_of l.scalar.now).1
