use Rattle.arrow_logic.proofs.Common.{refl, physical_type_of, type_of}
use Rattle.arrow_logic.proofs.LayoutLemmas.{carried_layout}
use Rattle.arrow_logic.proofs.laws.can_nullif_is_supported.Goals as goal

pub returns : goal.returns
returns c can =
    let t = type_of c.args.lhs.now in
    (can.0, carried_layout (physical_type_of t) t refl can.1 can.2, can.1)
