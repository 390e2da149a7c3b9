use Rattle.std.proofs.Common.{◌++◌, take, ◌∙◌}
use Rattle.arrow_tool.proofs.OutputProgress.{Appends-more, written-more}
use Rattle.arrow_tool.proofs.engine.write_all.Goals as goal

pub loop-rest-preserved : goal.loop-rest-preserved
loop-rest-preserved g c =
    let written = c.loop-rest.invariant.1.0 in
    let rest = c.loop-rest.rest.now in
    let n = c.in-Ok.count in
    (c.in-Ok.ensures.ok ∙ c.loop-rest.invariant.0, (written ++ take n rest, written-more c.args.bytes.now written rest n c.loop-rest.invariant.1.1, Appends-more _ _ _ written (take n rest) c.loop-rest.invariant.1.2 c.in-Ok.ensures.bytes))
