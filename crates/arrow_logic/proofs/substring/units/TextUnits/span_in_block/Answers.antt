use Rattle.arrow_logic.proofs.Common.{◌≡◌, ◌∙◌, ◌-◌, ap, arith, refl, drop, take, length, rules, sym, SFits, w64, to_z, of_z, to_z-of_z, part_begin, sliced, text_cut, chars, take_all, length-drop, length-take-le, unsigned_abs}
use Rattle.arrow_logic.proofs.TextLemmas.{rest_front, rest_some}
use Rattle.arrow_logic.proofs.CharacterLemmas.{begin_at, end_at}
use Rattle.arrow_logic.proofs.substring.units.TextUnits.span_in_block.Goals as goal

pub returns-in-Some-clause-rises : goal.returns-in-Some-clause-rises
returns-in-Some-clause-rises c =
    let end = end_at c.args.from.now c.args.len c.characters_at_front-characters.result c.requires.block c.requires.few c.characters_at_front-characters.ensures c.requires.allowed c.unsigned_abs.result c.in-Some.count c.without_lowest-left.result c.without_lowest.result c.min-begin.result c.min-end.result c.without_lowest-left.ensures c.min-begin.ensures c.without_lowest.ensures c.min-end.ensures in
    omega (arith, end)

pub returns-in-Some-clause-part : goal.returns-in-Some-clause-part
returns-in-Some-clause-part c =
    let row = take c.args.len c.args.from.now in
    let fits : SFits w64 c.args.start = search rules in
    let start : to_z w64 (of_z w64 c.args.start) ≡ c.args.start = to_z-of_z w64 c.args.start fits in
    let begin = begin_at c.args.from.now c.args.len c.characters_at_front-characters.result c.requires.block c.requires.few c.characters_at_front-characters.ensures c.unsigned_abs.result c.without_lowest-left.result c.min-begin.result c.without_lowest-left.ensures c.min-begin.ensures in
    let end = end_at c.args.from.now c.args.len c.characters_at_front-characters.result c.requires.block c.requires.few c.characters_at_front-characters.ensures c.requires.allowed c.unsigned_abs.result c.in-Some.count c.without_lowest-left.result c.without_lowest.result c.min-begin.result c.min-end.result c.without_lowest-left.ensures c.min-begin.ensures c.without_lowest.ensures c.min-end.ensures in
    let rest = rest_front row c.requires.allowed c.args.start c.min-begin.result c.unsigned_abs.result c.requires.front (c.unsigned_abs.ensures.value ∙ ap unsigned_abs start) begin in
    ap (λ n. sliced row c.min-begin.result (n - c.min-begin.result)) end ∙ (rest_some row (drop (part_begin c.args.start (length (chars row))) (chars row)) c.min-begin.result c.in-Some.count _ rest refl ∙ ap (λ len. text_cut c.args.start len row) (sym c.in-Some.is))

pub returns-in-None-clause-part : goal.returns-in-None-clause-part
returns-in-None-clause-part c =
    let row = take c.args.len c.args.from.now in
    let fits : SFits w64 c.args.start = search rules in
    let start : to_z w64 (of_z w64 c.args.start) ≡ c.args.start = to_z-of_z w64 c.args.start fits in
    let begin = begin_at c.args.from.now c.args.len c.characters_at_front-characters.result c.requires.block c.requires.few c.characters_at_front-characters.ensures c.unsigned_abs.result c.without_lowest-left.result c.min-begin.result c.without_lowest-left.ensures c.min-begin.ensures in
    let rest = rest_front row c.requires.allowed c.args.start c.min-begin.result c.unsigned_abs.result c.requires.front (c.unsigned_abs.ensures.value ∙ ap unsigned_abs start) begin in
    let all = take_all (c.args.len - c.min-begin.result) (drop c.min-begin.result row) (omega (arith, length-drop c.min-begin.result row, length-take-le c.args.len c.args.from.now (omega (arith, c.requires.block, c.requires.few)))) in
    all ∙ (rest ∙ ap (λ len. text_cut c.args.start len row) (sym c.in-None.is))
