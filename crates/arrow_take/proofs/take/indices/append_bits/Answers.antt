use Rattle.arrow_take.proofs.Common.{◌≡◌, ◌*◌, ◌/◌, ◌++◌, ◌∙◌, arith, ap, map, take, take-add, sym, option_copied, map-append, take_all, masked, sliced, named_bit}
use Rattle.arrow_take.proofs.IndexLemmas.{length-masked_slots}
use Rattle.arrow_take.proofs.take.indices.append_bits.Goals as goal

pub loop-row-preserved : goal.loop-row-preserved
loop-row-preserved g c =
    let rows = masked (option_copied c.args.validity) (map g.I.NativeType.slot c.args.stored.now) in
    let named = named_bit c.args.bits.now in
    let row = c.loop-row.row in
    let count = c.min-count.result in
    let aligned = c.loop-row.invariant.aligned c.loop-row-test.true in
    let here : 64 * (row / 64) ≡ row = omega (arith, aligned) in
    let word = c.bits_at-word.ensures ∙ ap (λ k. map named (sliced rows k count)) here in
    record {
      within = omega (arith, c.loop-row-test.true, c.min-count.ensures);
      aligned = λ left. omega (arith, c.min-count.ensures, aligned, left);
      bits = c.in_ok-push_word.ensures.ok ∙ ((λ i. c.loop-row.invariant.bits i ++ word i) ∙ (sym (map-append named (take row rows) (sliced rows row count)) ∙ ap (map named) (sym (take-add row count rows))));
    }

pub returns-clause-ok : goal.returns-clause-ok
returns-clause-ok g c =
    let rows = masked (option_copied c.args.validity) (map g.I.NativeType.slot c.args.stored.now) in
    let all = length-masked_slots g.I.NativeType.slot _ c.args.stored.now c.requires.fits in
    c.loop-row.invariant.bits ∙ ap (map (named_bit c.args.bits.now)) (take_all c.loop-row.row rows (omega (arith, all, c.loop-row-test.false)))
