use Rattle.arrow_logic.proofs.Common.{sym, map-map, negated, is_null, Boolean, any_array_rows}
use Rattle.arrow_logic.proofs.laws.valid_is_negated_null.Goals as goal

pub returns : goal.returns
returns c = sym (map-map negated (λ s. Boolean (is_null s)) (any_array_rows c.args.input.now))
