use Rattle.arrow_select.proofs.Common.{◌∙◌, length-map, mask_of, selects, boolean_rows, any_array_rows, any_array_type}
use Rattle.arrow_select.proofs.LawLemmas.{selected_is_gathered}
use Rattle.arrow_select.proofs.laws.select_is_gather.Goals as goal

pub returns : goal.returns
returns c =
    let rows = selected_is_gathered (any_array_rows c.args.array.now) (mask_of (boolean_rows c.args.filter.now)) (any_array_type c.args.array.now) (length-map (boolean_rows c.args.filter.now) selects ∙ c.requires) in
    λ i. (any_array_type c.args.array.now, rows i)
