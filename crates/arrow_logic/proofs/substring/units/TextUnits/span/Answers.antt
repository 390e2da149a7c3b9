use Rattle.arrow_logic.proofs.Common.{◌≡◌, ◌∙◌, ◌-◌, ap, arith, drop, encode_utf8_all, length, rules, subst, sym, SFits, w64, to_z, of_z, to_z-of_z, length-drop, take_all, part_begin, skipped, text_cut, chars}
use Rattle.arrow_logic.proofs.TextLemmas.{rest_some}
use Rattle.arrow_logic.proofs.substring.units.TextUnits.span.Goals as goal

pub returns-in-Some-clause-part : goal.returns-in-Some-clause-part
returns-in-Some-clause-part c =
    let text = c.args.row.now in
    let begin = c.begin_of_part-begin.result in
    let fits : SFits w64 c.args.start = search rules in
    let start : to_z w64 (of_z w64 c.args.start) ≡ c.args.start = to_z-of_z w64 c.args.start fits in
    let rest = subst (λ z. drop begin text ≡ encode_utf8_all (drop (part_begin z (length (chars text))) (chars text))) start c.begin_of_part-begin.ensures.rest in
    let counted = c.end_of_first.ensures.place ∙ ap (skipped c.in-Some.count) (take_all (length text - begin) (drop begin text) (omega (arith, length-drop begin text))) in
    rest_some text (drop (part_begin c.args.start (length (chars text))) (chars text)) begin c.in-Some.count c.end_of_first.result rest counted ∙ ap (λ len. text_cut c.args.start len text) (sym c.in-Some.is)
