use Rattle.arrow_select.proofs.Common.{rules, arith, length, ap, ◌∙◌, ◌++◌}
use Rattle.arrow_select.proofs.SetLemmas.{gathered_run, run_within, set_in_run}
use Rattle.arrow_select.proofs.filter.words.append_both.Goals as goal

pub overflow_add-first : goal.overflow_add-first
overflow_add-first g c =
    record { fits = omega (arith, run_within c.in-Some.ensures (length c.args.values.now) c.requires.below, c.requires.in_word) }

pub offset_bounds-values-first : goal.offset_bounds-values-first
offset_bounds-values-first g c = omega (arith, run_within c.in-Some.ensures (length c.args.values.now) c.requires.below)

pub slice_bounds-append_run-end : goal.slice_bounds-append_run-end
slice_bounds-append_run-end g c =
    let within = run_within c.in-Some.ensures (length c.args.values.now) c.requires.below in
    search (rules, within)

pub append_run-requires : goal.append_run-requires
append_run-requires g c =
    omega (arith, c.requires.room, ap length (set_in_run c.in-Some.ensures c.args.values.now c.requires.below))

pub returns-in-Some-clause-items : goal.returns-in-Some-clause-items
returns-in-Some-clause-items g c =
    c.append_run.ensures.items ∙ ap (λ ys. c.args.out.now.items ++ ys) (set_in_run c.in-Some.ensures c.args.values.now c.requires.below)

pub run_of_bits-requires : goal.run_of_bits-requires
run_of_bits-requires g c =
    record { some = c.in-Some.ensures.some; within = run_within c.in-Some.ensures 64 c.ranges.word.fits }

pub returns-in-Some-clause-bits : goal.returns-in-Some-clause-bits
returns-in-Some-clause-bits g c =
    gathered_run c.in-Some.ensures c.args.bits c.run_of_bits.result c.ranges.word.fits c.run_of_bits.ensures
