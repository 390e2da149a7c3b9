use Rattle.arrow_select.proofs.Common.{◌<◌, ◌∙◌, arith, ap, get_or, length, sym, length-map, joined, any_array_type, types_in}
use Rattle.arrow_select.proofs.laws.concatenate_goes_by_rows.Goals as goal

pub returns : goal.returns
returns c =
    let some : 0 < length (types_in c.args.arrays.now) = omega (arith, c.requires.some, length-map c.args.arrays.now (λ array. any_array_type array.now)) in
    let t = any_array_type c.args.all.now in
    let first = c.requires.all_type 0 t some in
    let others = c.requires.other_type 0 t (omega (arith, some, ap length c.requires.types)) in
    let types = sym others ∙ (ap (λ ts. get_or ts 0 t) c.requires.types ∙ first) in
    let rows = c.requires.other_rows ∙ (ap joined c.requires.rows ∙ sym c.requires.all_rows) in
    λ i. (types i, rows i)
