use Rattle.arrow_select.proofs.Common.{ap, length, map, sym, subst, ◌∙◌, length-map, selects, boolean_rows, layout_of, HaveRows}
use Rattle.arrow_select.proofs.ChunkLemmas.{selected_columns}
use Rattle.arrow_select.proofs.filter.filter_chunk.Goals as goal

pub new-requires : goal.new-requires
new-requires c =
    let mask = c.in_ok-mask.mask in
    let columns = map layout_of c.arrays.result.now in
    let long = ap length c.in_ok-mask.ensures.ok ∙ length-map (boolean_rows c.args.filter_values.now) selects in
    let each = subst (HaveRows (length mask)) (sym c.arrays.ensures.same) (subst (λ n. HaveRows n c.args.columns.now) (sym long) c.requires.lengths) in
    selected_columns mask columns _ each c.in_ok-kept.ensures.rows
