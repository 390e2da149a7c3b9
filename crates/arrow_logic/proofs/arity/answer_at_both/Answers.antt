use Rattle.arrow_logic.proofs.Common.{rules, zip}
use Rattle.arrow_logic.proofs.AnswerLemmas.{pair_at, pair_there, slice_get_is}
use Rattle.arrow_logic.proofs.arity.answer_at_both.Goals as goal

pub op-requires : goal.op-requires
op-requires g c =
    let here : g.row.T.Denot × g.row.D.Denot = (c.index-left-row.result, c.index-right-row.result) in
    let within = pair_there c.args.left.now c.args.right.now c.args.row c.requires.lengths c.requires.within in
    let is = pair_at c.args.left.now c.args.right.now c.args.row _ _ c.requires.lengths c.requires.within c.index-left-row.is c.index-right-row.is in
    let may = rw is at (c.requires.callable c.args.row here within) in
    search (rules, may)

pub returns : goal.returns
returns g c =
    let within = pair_there c.args.left.now c.args.right.now c.args.row c.requires.lengths c.requires.within in
    let is = pair_at c.args.left.now c.args.right.now c.args.row _ _ c.requires.lengths c.requires.within c.index-left-row.is c.index-right-row.is in
    ((c.index-left-row.result, c.index-right-row.result), slice_get_is (zip c.args.left.now c.args.right.now) c.args.row _ within is, c.op.ensures)
