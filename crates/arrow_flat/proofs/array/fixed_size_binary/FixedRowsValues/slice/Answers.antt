use Rattle.std.proofs.Common.{subst, arith}
use Rattle.arrow_flat.specs.FixedRows.{AreFixedRows}
use Rattle.arrow_flat.proofs.FixedLemmas.{length-fixed_slots, count_fits}
use Rattle.arrow_flat.proofs.array.fixed_size_binary.FixedRowsValues.slice.Goals as goal

pub start-start-requires : goal.start-start-requires
start-start-requires c = omega (arith, c.requires, length-fixed_slots c.args.self.now)

pub overflow_add-offset : goal.overflow_add-offset
overflow_add-offset c =
    let held = subst AreFixedRows c.self.view_is c.self.invariant in
    omega (arith, c.requires, length-fixed_slots c.args.self.now, count_fits c.args.self.now held)

pub start-end-requires : goal.start-end-requires
start-end-requires c = omega (arith, c.requires, length-fixed_slots c.args.self.now)
