-- Lemmas for callers: what the rows of arrays are that they make themselves.
use Rattle.std.proofs.Common.{◌≡◌, Bool, List, [], ◌∷◌, map, refl, ap}
use Rattle.arrow_types.specs.Rows.{mask_of}
use Rattle.arrow_types.specs.Slot.{Boolean}

-- the mask of truth values of which none is null is their bits
pub mask_of-bits : (bits : List Bool) → mask_of (map Boolean bits) ≡ bits
mask_of-bits [] = refl
mask_of-bits (bit ∷ bits) = ap (λ mask. bit ∷ mask) (mask_of-bits bits)

-- these, for `#[tactic(auto, using(gevaindy::proofs::Callers::callers))]`
pub ruleset callers = (mask_of-bits)
