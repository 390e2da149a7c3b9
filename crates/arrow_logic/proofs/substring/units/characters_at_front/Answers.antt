use Rattle.arrow_logic.proofs.Common.{refl}
use Rattle.arrow_logic.proofs.CharacterLemmas.{characters_are}
use Rattle.arrow_logic.proofs.substring.units.characters_at_front.Goals as goal

pub returns : goal.returns
returns c = characters_are c.args.from.now _ c.requires (λ k. (c.type_inv.from k).fits) refl
