use Rattle.std.proofs.Common.{◌≡◌, length, refl, sym, ◌∙◌, arith}
use Rattle.arrow_arrays.specs.Any.{layout_of}
use Rattle.arrow_arrays.specs.Layout.{rows}
use Rattle.arrow_arrays.proofs.EqualLemmas.{each_at}
use Rattle.arrow_arrays.proofs.StructLemmas.{rows_next, rows_all}
use Rattle.arrow_arrays.proofs.array.struct_.have_rows.Goals as goal

pub loop-array-init : goal.loop-array-init
loop-array-init c = λ k d before. absurd (omega (arith, before))

pub returns-then-len : goal.returns-then-len
returns-then-len c =
    (λ e. cc, λ have. absurd (c.if-len.true (c.len.ensures ∙ each_at (λ l. length (rows l) ≡ c.args.len) c.args.values.now c.loop-array.array-index c.array-item.result c.loop-array-test.true c.array-item.is have)))

pub loop-array-preserved : goal.loop-array-preserved
loop-array-preserved c =
    rows_next layout_of c.args.len c.args.values.now c.loop-array.array-index c.array-item.result c.loop-array.invariant c.loop-array-test.true c.array-item.is (sym c.len.ensures ∙ c.if-len.false)

pub returns : goal.returns
returns c =
    (λ e. rows_all layout_of c.args.len c.args.values.now c.loop-array.array-index (omega (arith, c.loop-array-test.false)) c.loop-array.invariant, λ have. refl)
