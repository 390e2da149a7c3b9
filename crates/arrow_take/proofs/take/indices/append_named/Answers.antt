use Rattle.arrow_take.proofs.Common.{◌≡◌, ◌*◌, ◌/◌, ◌∙◌, arith, map, option_copied, masked}
use Rattle.arrow_take.proofs.IndexLemmas.{gives_all, gives_more, length-masked_slots}
use Rattle.arrow_take.proofs.take.indices.append_named.Goals as goal

pub loop-row-preserved : goal.loop-row-preserved
loop-row-preserved g c =
    let rows = masked (option_copied c.args.validity) (map g.I.NativeType.slot c.args.stored.now) in
    let value = g.S.ByIndex.named c.args.source.now in
    let row = c.loop-row.row in
    let count = c.min-count.result in
    let aligned = c.loop-row.invariant.aligned c.loop-row-test.true in
    let here : 64 * (row / 64) ≡ row = omega (arith, aligned) in
    record {
      within = omega (arith, c.min-count.ensures, c.loop-row.invariant.within);
      aligned = λ left. omega (arith, c.min-count.ensures, aligned, left);
      items = gives_more value c.args.taken.now.items c.loop-row.taken.items c.append_word_named.new.taken.items rows row (64 * (row / 64)) count here c.append_word_named.ensures.items c.loop-row.invariant.items;
      len = omega (arith, c.append_word_named.ensures.len, c.loop-row.invariant.len);
      capacity = c.append_word_named.ensures.capacity ∙ c.loop-row.invariant.capacity;
    }

pub returns : goal.returns
returns g c =
    let rows = masked (option_copied c.args.validity) (map g.I.NativeType.slot c.args.stored.now) in
    let all = length-masked_slots g.I.NativeType.slot _ c.args.stored.now c.requires.fits in
    gives_all (g.S.ByIndex.named c.args.source.now) c.args.taken.now.items c.loop-row.taken.items rows c.loop-row.row (omega (arith, all, c.loop-row-test.false)) c.loop-row.invariant.items
