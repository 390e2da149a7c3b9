use Rattle.std.proofs.Common.{◌≡◌, arith}
use Rattle.std.specs.Bool.{Decides}
use Rattle.arrow_flat.specs.FixedRows.{fixed_slice}
use Rattle.arrow_flat.proofs.PieceLemmas.{bytes_decide}
use Rattle.arrow_flat.proofs.FixedLemmas.{length-fixed_slots, fixed_parts_decide}
use Rattle.arrow_flat.proofs.array.fixed_size_binary.FixedRowsValues.equal_range.Goals as goal

pub joined-requires : goal.joined-requires
joined-requires c = omega (arith, c.requires.here, length-fixed_slots c.args.self.now)

pub joined-requires-2 : goal.joined-requires-2
joined-requires-2 c = omega (arith, c.requires.there, length-fixed_slots c.args.other.now)

pub returns : goal.returns
returns c =
    let p = c.args.self.now in
    let q = c.args.other.now in
    let told = bytes_decide c.joined.result.now c.joined-2.result.now c.eq.result c.eq.ensures in
    let same : Decides c.eq.result ((fixed_slice p c.args.start c.args.len).bytes ≡ (fixed_slice q c.args.other_start c.args.len).bytes) = rw (← c.joined.ensures.bytes, ← c.joined-2.ensures.bytes) told in
    fixed_parts_decide p q c.args.start c.args.other_start c.args.len c.eq.result c.joined.ensures.sound c.joined-2.ensures.sound (omega (arith, c.requires.here, length-fixed_slots p)) (omega (arith, c.requires.there, length-fixed_slots q)) same
