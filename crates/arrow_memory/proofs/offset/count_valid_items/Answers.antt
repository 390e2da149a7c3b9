use Rattle.arrow_memory.proofs.Common.{◌+◌, ap, sym, arith, valid_items}
use Rattle.arrow_memory.proofs.ValidLemmas.{part_within, sliced-next}
use Rattle.arrow_memory.proofs.offset.count_valid_items.Goals as goal

pub overflow_add-items : goal.overflow_add-items
overflow_add-items g c =
    let bits = c.args.validity.now in
    let os = c.args.other.now in
    let end = c.args.start + c.args.len in
    let row = c.loop-row.row in
    let next = sliced-next bits row end c.get_bit.result c.loop-row-test.true c.get_bit.ensures in
    let total = ap (λ bs. valid_items bs os row) (sym next) in
    let all = part_within bits os c.args.start c.args.len c.range.ensures.sound c.requires.part c.requires.covered in
    record { fits = omega (arith, total, all, c.loop-row.invariant, c.count_items_of-items.ensures, c.range.ensures.end, c.range.type_inv) }

pub loop-row-preserved : goal.loop-row-preserved
loop-row-preserved g c =
    let bits = c.args.validity.now in
    let os = c.args.other.now in
    let end = c.args.start + c.args.len in
    let row = c.loop-row.row in
    let next = sliced-next bits row end c.get_bit.result c.loop-row-test.true c.get_bit.ensures in
    let total = ap (λ bs. valid_items bs os row) (sym next) in
    omega (arith, total, c.loop-row.invariant, c.count_items_of-items.ensures)

pub returns-clause-fits : goal.returns-clause-fits
returns-clause-fits g c =
    let all = part_within c.args.validity.now c.args.other.now c.args.start c.args.len c.range.ensures.sound c.requires.part c.requires.covered in
    omega (arith, all, c.loop-row.invariant, c.range.ensures.end, c.range.ensures.fits)
