-- Bit by bit.
use Rattle.std.specs.Prelude.{Bool, List, [], ◌∷◌, ◌&&◌, ◌||◌, not}

-- the bits that each pair of bits gives
abbrev pub paired : (Bool → Bool → Bool) → List Bool → List Bool → List Bool
paired give (x ∷ xs) (y ∷ ys) = give x y ∷ paired give xs ys
paired give _ _ = []

-- both bits are set
abbrev pub both_bits : List Bool → List Bool → List Bool
both_bits = paired (λ x y. x && y)

-- one bit at least is set
abbrev pub either_bits : List Bool → List Bool → List Bool
either_bits = paired (λ x y. x || y)

-- the first bit is set, and the second is not
abbrev pub first_bits : List Bool → List Bool → List Bool
first_bits = paired (λ x y. x && not y)

-- the bits that each four bits give
abbrev pub by_fours : (Bool → Bool → Bool → Bool → Bool) → List Bool → List Bool → List Bool → List Bool → List Bool
by_fours give (x ∷ xs) (y ∷ ys) (z ∷ zs) (w ∷ ws) = give x y z w ∷ by_fours give xs ys zs ws
by_fours give _ _ _ _ = []
