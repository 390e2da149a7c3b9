use Rattle.arrow_logic.proofs.Common.{◌≡◌, ◌+◌, count_by, drop, subst, sym, ◌∙◌, arith, begins}
use Rattle.arrow_logic.proofs.TextLemmas.{last_begin, none_before}
use Rattle.arrow_logic.proofs.substring.units.begin_of_last.Goals as goal

pub returns-then-left-eq0-clause-place : goal.returns-then-left-eq0-clause-place
returns-then-left-eq0-clause-place c =
    last_begin c.args.text.now _ c.loop-place.place c.loop-place.left c.args.count (omega arith) c.loop-place.auto.place (sym c.begins_character.ensures ∙ c.if-begins_character.true) c.loop-place.invariant.counted (omega arith)

pub returns-clause-place : goal.returns-clause-place
returns-clause-place c =
    let done : c.loop-place.place ≡ 0 = omega arith in
    let counted = subst (λ n. count_by begins (drop n c.args.text.now) + c.loop-place.left ≡ c.args.count) done c.loop-place.invariant.counted in
    none_before c.args.text.now c.requires.text _ (omega (arith, counted, c.loop-place.invariant.some))
