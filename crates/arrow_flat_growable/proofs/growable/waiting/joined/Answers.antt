use Rattle.std.proofs.Common.{ap₂}
use Rattle.arrow_flat_growable.proofs.Common.{arith, ◌≡◌, ◌-◌, ◌++◌, ◌∙◌, ap, sym, subst, length, slice_index_or, get_or_default, LieThere, Waits, part_of_bound, waiting_rows}
use Rattle.arrow_flat_growable.specs.declared.growable.waiting.Waiting.TheVariants as waiting
use Rattle.arrow_flat_growable.proofs.WaitingLemmas.{rows_joined}
use Rattle.arrow_flat_growable.proofs.growable.waiting.joined.Goals as goal

pub returns-then-end-next-clause-both : goal.returns-then-end-next-clause-both
returns-then-end-next-clause-both c arrays first second =
    let calls = c.args.waiting.now in
    let a = c.in-Of in
    let b = c.in-Of-rows in
    let k = c.in_ok-last.last in
    let read : slice_index_or calls k c.args.rows ≡ waiting.Of a.index a.start a.len = get_or_default calls k c.args.rows _ (omega (arith, c.in_ok-last.ensures)) ∙ a.is in
    let last : slice_index_or calls (length calls - 1) c.args.rows ≡ waiting.Of a.index a.start a.len = ap (λ n. slice_index_or calls n c.args.rows) (omega (arith, c.in_ok-last.ensures)) ∙ read in
    let same : b.same ≡ a.index = omega (arith, c.if-index-same.true) in
    let behind : LieThere arrays a.index b.next b.more = subst (λ i. LieThere arrays i b.next b.more) same (subst (Waits arrays) b.is second) in
    let rows = rows_joined arrays a.index a.start a.len b.next b.more c.in_ok-both.both (subst (Waits arrays) last first) behind (omega (arith, c.if-end-next.true, c.in_ok-end.ensures)) (omega (arith, c.in_ok-both.ensures)) in
    (rows.0, rows.1 ∙ ap₂ (λ xs ys. xs ++ ys) (sym (ap (waiting_rows arrays) last)) (sym (ap (waiting_rows arrays) b.is ∙ ap (λ i. part_of_bound arrays i b.next b.more) same)))
