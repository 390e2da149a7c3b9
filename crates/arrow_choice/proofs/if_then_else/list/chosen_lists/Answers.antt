use Rattle.arrow_choice.proofs.Common.{arith, ◌≡◌, ◌∙◌, ap, length, rules, sym, length-map, Boolean, last_of, offsets_of, rows}
use Rattle.arrow_choice.proofs.if_then_else.list.chosen_lists.Goals as goal

pub chosen_items-requires-clause-left : goal.chosen_items-requires-clause-left
chosen_items-requires-clause-left c =
    let is : c.in-Small-Small.ends ≡ c.args.lhs.now.offsets = ap offsets_of (sym c.in-Small-Small.is-0) ∙ c.offsets.ensures.same in
    let values : c.with_validity-among.result.values ≡ c.args.predicate.now.values = search rules in
    (omega (arith, ap length is, ap length values, c.len.ensures.offsets, c.len.ensures.rows, c.requires.lengths.0, c.len-2.ensures.rows, c.len-2.ensures.values, length-map c.args.predicate.now.values Boolean), omega (arith, ap last_of is, c.offsets.ensures.within, ap (λ k. length (rows k)) c.values-left.ensures.same))

pub chosen_items-requires-clause-right : goal.chosen_items-requires-clause-right
chosen_items-requires-clause-right c =
    let is : c.in-Small-Small.others ≡ c.args.rhs.now.offsets = ap offsets_of (sym c.in-Small-Small.is-1) ∙ c.offsets-2.ensures.same in
    let values : c.with_validity-among.result.values ≡ c.args.predicate.now.values = search rules in
    (omega (arith, ap length is, ap length values, c.len-3.ensures.offsets, c.len-3.ensures.rows, c.requires.lengths.1, c.len-2.ensures.rows, c.len-2.ensures.values, length-map c.args.predicate.now.values Boolean), omega (arith, ap last_of is, c.offsets-2.ensures.within, ap (λ k. length (rows k)) c.values-right.ensures.same))

pub chosen_items-requires-in-Large-Large-clause-left : goal.chosen_items-requires-in-Large-Large-clause-left
chosen_items-requires-in-Large-Large-clause-left c =
    let is : c.in-Large-Large.ends ≡ c.args.lhs.now.offsets = ap offsets_of (sym c.in-Large-Large.is-0) ∙ c.offsets.ensures.same in
    let values : c.with_validity-among.result.values ≡ c.args.predicate.now.values = search rules in
    (omega (arith, ap length is, ap length values, c.len.ensures.offsets, c.len.ensures.rows, c.requires.lengths.0, c.len-2.ensures.rows, c.len-2.ensures.values, length-map c.args.predicate.now.values Boolean), omega (arith, ap last_of is, c.offsets.ensures.within, ap (λ k. length (rows k)) c.values-left.ensures.same))

pub chosen_items-requires-in-Large-Large-clause-right : goal.chosen_items-requires-in-Large-Large-clause-right
chosen_items-requires-in-Large-Large-clause-right c =
    let is : c.in-Large-Large.others ≡ c.args.rhs.now.offsets = ap offsets_of (sym c.in-Large-Large.is-1) ∙ c.offsets-2.ensures.same in
    let values : c.with_validity-among.result.values ≡ c.args.predicate.now.values = search rules in
    (omega (arith, ap length is, ap length values, c.len-3.ensures.offsets, c.len-3.ensures.rows, c.requires.lengths.1, c.len-2.ensures.rows, c.len-2.ensures.values, length-map c.args.predicate.now.values Boolean), omega (arith, ap last_of is, c.offsets-2.ensures.within, ap (λ k. length (rows k)) c.values-right.ensures.same))
