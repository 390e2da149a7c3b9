use Rattle.arrow_logic.proofs.Common.{arith, ◌*◌, ◌≤◌, length, refl, boolean_rows}
use Rattle.arrow_logic.proofs.WordLemmas.{found, none_contained, none_more}
use Rattle.arrow_logic.proofs.boolean.any.Goals as goal

pub loop-j-init : goal.loop-j-init
loop-j-init c i below = absurd (omega (arith, below))

pub returns-then-true_word-ne0 : goal.returns-then-true_word-ne0
returns-then-true_word-ne0 c =
    let has = found c.true_word.result (boolean_rows c.args.array.now) (64 * c.loop-j.j) c.true_word.type_inv (omega (arith, c.if-true_word-ne0.true)) c.true_word.ensures in
    (λ e. has, λ e. refl)

pub loop-j-preserved : goal.loop-j-preserved
loop-j-preserved c =
    none_more c.true_word.result (boolean_rows c.args.array.now) c.loop-j.j c.if-true_word-ne0.false c.true_word.ensures c.loop-j.invariant

pub returns : goal.returns
returns c =
    let rows = boolean_rows c.args.array.now in
    let long : length rows ≤ 64 * c.loop-j.j = omega (arith, c.len.ensures.rows, c.div_ceil-j-end.ensures, c.loop-j-test.false) in
    (λ e. cc, λ has. absurd (none_contained rows (64 * c.loop-j.j) long c.loop-j.invariant has))
