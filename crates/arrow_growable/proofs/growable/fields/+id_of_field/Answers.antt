use Rattle.arrow_growable.proofs.Common.{◌∙◌, ap, arith, of_z, sym, to_z, w8, w32, ints, to_z-of_z}
use Rattle.arrow_growable.proofs.UnionTypeLemmas.{id_told}
use Rattle.arrow_growable.proofs.growable.fields.+id_of_field.Goals as goal

pub returns-in-Some : goal.returns-in-Some
returns-in-Some t c =
    let id = c.index.result.now in
    let told = id_told c.args.data_type.now _ c.in-Union.ids c.in-Union.field-2 c.in-Some.ids c.args.f id c.requires.kind c.in-Union.is c.in-Some.is c.requires.field c.index.ensures in
    ap (λ z. to_z w8 (of_z w8 z)) (to_z-of_z w32 id (omega (arith, ints, told.1.0, told.1.1))) ∙ (to_z-of_z w8 id (omega (arith, ints, told.1.0, told.1.1)) ∙ sym told.0)
