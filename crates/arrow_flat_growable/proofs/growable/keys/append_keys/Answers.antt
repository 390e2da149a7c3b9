use Rattle.arrow_flat_growable.proofs.Common.{arith, ◌+◌, ◌-◌, ◌<◌, length, map, rules, subst, rows_by}
use Rattle.arrow_flat_growable.proofs.GrownKeyLemmas.{GrowsUpTo, grows_more}
use Rattle.arrow_flat_growable.proofs.growable.keys.append_keys.Goals as goal

pub loop-i-preserved : goal.loop-i-preserved
loop-i-preserved g c =
    let rows = rows_by (map g.K.NativeType.slot) c.args.others.now in
    let i = c.loop-i.i in
    let within : i < length rows = omega (arith, c.loop-i-test.true, c.requires.part) in
    let more = grows_more g.K.NativeType.slot g.K.Index.greatest c.args.by c.args.keys.now.items rows c.args.start c.loop-i.keys.items c.in_ok-grown.field-0 i (i - c.args.start) (i + 1 - c.args.start) (omega (arith, c.loop-i.invariant.0)) (omega (arith, c.loop-i.invariant.0)) within c.loop-i.invariant.1 c.in_ok-grown.ensures.ok c.in_ok-grown.ensures.fits in
    (omega (arith, c.loop-i.invariant.0), subst (λ items. GrowsUpTo g.K.NativeType.slot g.K.Index.greatest c.args.by c.args.keys.now.items items rows c.args.start (i + 1 - c.args.start)) (search rules) more)
