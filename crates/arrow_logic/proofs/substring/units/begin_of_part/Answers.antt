use Rattle.arrow_logic.proofs.Common.{◌≡◌, ◌∙◌, ap, pos, ◌≤ℤ◌, ◌<ℤ◌, unsigned_abs, rules, SFits, w64, to_z, of_z, to_z-of_z}
use Rattle.arrow_logic.proofs.TextLemmas.{rest_back, rest_front}
use Rattle.arrow_logic.proofs.substring.units.begin_of_part.Goals as goal

pub returns-then-start-lt0-clause-rest : goal.returns-then-start-lt0-clause-rest
returns-then-start-lt0-clause-rest c =
    let fits : SFits w64 c.args.start = search rules in
    let start : to_z w64 (of_z w64 c.args.start) ≡ c.args.start = to_z-of_z w64 c.args.start fits in
    let back : c.args.start <ℤ pos 0 = search rules in
    rest_back c.args.text.now c.requires c.args.start c.begin_of_last.result c.unsigned_abs-count.result back (c.unsigned_abs-count.ensures.value ∙ ap unsigned_abs start) c.begin_of_last.ensures.place

pub returns-else-start-lt0-clause-rest : goal.returns-else-start-lt0-clause-rest
returns-else-start-lt0-clause-rest c =
    let fits : SFits w64 c.args.start = search rules in
    let start : to_z w64 (of_z w64 c.args.start) ≡ c.args.start = to_z-of_z w64 c.args.start fits in
    let front : pos 0 ≤ℤ c.args.start = search rules in
    rest_front c.args.text.now c.requires c.args.start c.end_of_first.result c.unsigned_abs-count.result front (c.unsigned_abs-count.ensures.value ∙ ap unsigned_abs start) c.end_of_first.ensures.place
