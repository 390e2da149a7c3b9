use Rattle.std.proofs.Common.{◌≡◌, ◌+◌, ◌-◌, replicate, ap, sym, ◌∙◌, arith}
use Rattle.std.proofs.lemmas.Bool.Decides.{Decides-eqb}
use Rattle.arrow_memory.specs.Sliced.{sliced}
use Rattle.arrow_flat.proofs.RunLemmas.{longest_run}
use Rattle.arrow_flat.proofs.array.validity.are_set.Goals as goal

pub returns-then-is_set : goal.returns-then-is_set
returns-then-is_set c =
    let run = c.run_at-is_set.ensures in
    let end = c.run_at-is_set.result.1 in (
      λ e.
          let ends : end ≡ c.args.start + c.args.len = (Decides-eqb end (c.args.start + c.args.len)).0 e in
          let long : end - c.args.start ≡ c.args.len = omega arith in
          ap (λ k. sliced c.args.bits.now c.args.start k) (sym long) ∙ (run.run ∙ (λ t. replicate (long t) (c.if-is_set.true t))),
      λ set. (Decides-eqb end (c.args.start + c.args.len)).1 (longest_run c.args.bits.now c.run_at-is_set.result.0 c.args.start end c.args.len (omega arith) run.some run.within run.run run.longest set).1,
    )

pub returns-else-is_set : goal.returns-else-is_set
returns-else-is_set c =
    let run = c.run_at-is_set.ensures in (
      λ e. absurd (cc),
      λ set. (longest_run c.args.bits.now c.run_at-is_set.result.0 c.args.start c.run_at-is_set.result.1 c.args.len (omega arith) run.some run.within run.run run.longest set).0,
    )
