use Rattle.arrow_take.proofs.Common.{◌≡◌, None, arith, map, rules, ◌∙◌, sym, option_copied, masked}
use Rattle.arrow_take.proofs.IndexLemmas.{length-masked_slots}
use Rattle.arrow_take.proofs.TakenRuns.{null_first, null_more}
use Rattle.arrow_take.proofs.take.runs.nulls_from.Goals as goal

pub loop-count-init : goal.loop-count-init
loop-count-init g c =
    let rows = masked (option_copied c.args.validity) (map g.I.NativeType.slot c.args.stored.now) in
    let long = length-masked_slots g.I.NativeType.slot (option_copied c.args.validity) c.args.stored.now c.requires.fits in
    record {
      some = omega arith;
      within = omega (arith, c.requires.within);
      run = null_first rows c.args.len c.requires.inside c.args.row (omega (arith, long, c.requires.within)) c.requires.first;
    }

pub loop-count-preserved : goal.loop-count-preserved
loop-count-preserved g c =
    let rows = masked (option_copied c.args.validity) (map g.I.NativeType.slot c.args.stored.now) in
    let long = length-masked_slots g.I.NativeType.slot (option_copied c.args.validity) c.args.stored.now c.requires.fits in
    let count = c.loop-count.count in
    let is : c.index_at.result ≡ None = search rules in
    record {
      some = omega arith;
      within = omega (arith, c.loop-count-test.true);
      run = null_more rows c.args.len c.requires.inside c.args.row count (omega (arith, long, c.loop-count-test.true)) (sym c.index_at.ensures ∙ is) c.loop-count.invariant.run;
    }
