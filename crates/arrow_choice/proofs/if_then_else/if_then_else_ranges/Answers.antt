use Rattle.arrow_choice.proofs.Common.{subst, sym, boolean_rows}
use Rattle.arrow_choice.proofs.RangeLemmas.{NamesUpTo}
use Rattle.arrow_choice.proofs.SideLemmas.{names_taken, side_labels, sides_named, sides_shortest}
use Rattle.arrow_choice.proofs.if_then_else.if_then_else_ranges.Goals as goal

pub loop-truth-preserved : goal.loop-truth-preserved
loop-truth-preserved c =
    let labels = side_labels (boolean_rows c.args.predicate.now) in
    let more = names_taken c.loop-truth.ranges.items c.loop-truth.runs c.next.new.self c.in-Some.truth c.in-Some.start c.in-Some.count c.side_number.result labels c.side_number.ensures c.in-Some.ensures.run c.loop-truth.invariant in
    subst (λ rs. NamesUpTo rs c.next.new.self.0 (side_labels c.next.new.self.1) labels) (sym c.in_ok-push.ensures.items) more

pub returns-clause-named : goal.returns-clause-named
returns-clause-named c =
    sides_named c.loop-truth.ranges.items c.loop-truth.runs.0 c.loop-truth.runs.1 (boolean_rows c.args.predicate.now) c.in_default.ensures.none c.loop-truth.invariant

pub returns-clause-shortest : goal.returns-clause-shortest
returns-clause-shortest c =
    sides_shortest c.loop-truth.ranges.items c.loop-truth.runs.0 c.loop-truth.runs.1 (boolean_rows c.args.predicate.now) c.in_default.ensures.none c.loop-truth.invariant
