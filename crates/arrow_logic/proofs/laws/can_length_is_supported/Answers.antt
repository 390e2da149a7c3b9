use Rattle.arrow_logic.proofs.Common.{type_of}
use Rattle.arrow_logic.proofs.LayoutLemmas.{lengths_supported}
use Rattle.arrow_logic.proofs.laws.can_length_is_supported.Goals as goal

pub returns : goal.returns
returns c has = lengths_supported (type_of c.args.data_type.now) has
