use Rattle.arrow_growable.proofs.Common.{rules, ◌≡◌, ℤ, List, Option, map, subst, sym, ArrowType, type_of, layout_of, HoldsUnion}
use Rattle.arrow_growable.proofs.growable.finish.union_array.Goals as goal

pub new-requires : goal.new-requires
new-requires c =
    let copied : type_of c.in_ok-data_type.data_type ≡ type_of c.args.data_type.now = search rules in
    subst {A = ArrowType × (List ℤ × Option (List ℤ))} (λ q. HoldsUnion q.0 q.1.0 (map layout_of c.args.values.items) q.1.1) (λ j. (sym copied j, (sym c.in_ok-types.ensures.ok j, sym c.in_ok-offsets.ensures.ok j))) c.requires
