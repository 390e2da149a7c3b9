use Rattle.std.proofs.Common.{◌≡◌, ◌+◌, ◌≤◌, true, replicate, refl, ap, ◌∙◌, arith}
use Rattle.arrow_flat.specs.Parts.{bits_of_slice}
use Rattle.arrow_flat.proofs.RunLemmas.{more_values, more_nulls, run_same, runs_all}
use Rattle.arrow_flat.proofs.array.equal_runs.Goals as goal
use Rattle.arrow_flat.proofs.array.equal_runs.Goals.{else-is_valid-via-then-is_valid+else-not-equal_range, else-is_valid-via-else-is_valid}

pub returns-then-not-equal_range : goal.returns-then-not-equal_range
returns-then-not-equal_range g c =
    let n = c.run_at-is_valid.result.1 in
    let within : c.loop-i.i + n ≤ c.args.len = omega (arith, c.run_at-is_valid.ensures.within, c.loop-i-test.true) in
    let run : bits_of_slice c.args.validity.now (c.args.start + c.loop-i.i) n ≡ replicate n true = c.run_at-is_valid.ensures.run ∙ ap (replicate n) c.if-is_valid.true in
    (λ never. cc, λ same. c.if-not-equal_range.ensures.1 (run_same c.args.validity.now (g.V.Values.slots c.args.values.now) (g.V.Values.slots c.args.others.now) c.args.start c.args.other_start c.args.len c.requires.here c.requires.there c.loop-i.i n within run same))

pub loop-i-preserved : goal.loop-i-preserved
loop-i-preserved g c =
    let n = c.run_at-is_valid.result.1 in
    let xs = g.V.Values.slots c.args.values.now in
    let ys = g.V.Values.slots c.args.others.now in
    let within : c.loop-i.i + n ≤ c.args.len = omega (arith, c.run_at-is_valid.ensures.within, c.loop-i-test.true) in
    elim c.else-is_valid.branch [
      | else-is_valid-via-then-is_valid+else-not-equal_range w ↦
          (within, more_values c.args.validity.now xs ys c.args.start c.args.other_start c.args.len c.requires.here c.requires.there c.loop-i.i n within c.loop-i.invariant.1 (w.if-not-equal_range.ensures.0 refl))
      | else-is_valid-via-else-is_valid w ↦
          (within, more_nulls c.args.validity.now xs ys c.args.start c.args.other_start c.args.len c.requires.here c.requires.there c.loop-i.i n within c.loop-i.invariant.1 (c.run_at-is_valid.ensures.run ∙ ap (replicate n) w.if-is_valid.false))
    ]

pub returns : goal.returns
returns g c =
    let done : c.loop-i.i ≡ c.args.len = omega (arith, c.loop-i.invariant.0, c.loop-i-test.false) in
    let all = rw done at c.loop-i.invariant.1 in
    (λ _. runs_all c.args.validity.now (g.V.Values.slots c.args.values.now) (g.V.Values.slots c.args.others.now) c.args.start c.args.other_start c.args.len c.requires.here c.requires.there all, λ _. refl)
