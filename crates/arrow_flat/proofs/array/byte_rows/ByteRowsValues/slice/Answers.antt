use Rattle.std.proofs.Common.{◌+◌, ◌≤◌, length, pos, sym, subst, arith}
use Rattle.std.proofs.lemmas.List.{length-map}
use Rattle.arrow_flat.specs.ByteRows.{ByteParts, byte_slots}
use Rattle.arrow_flat.proofs.PieceLemmas.{length-byte_slots, part_of_rows}
use Rattle.arrow_flat.proofs.array.byte_rows.ByteRowsValues.slice.Goals as goal

pub prove-unreachable-requires : goal.prove-unreachable-requires
prove-unreachable-requires g c =
    let p : ByteParts = record { offsets = c.self.inside.offsets; bytes = c.self.inside.bytes } in
    let within : c.args.offset + c.args.len ≤ length (byte_slots g.K.ByteKind.slot p) = subst (λ q. c.args.offset + c.args.len ≤ length (byte_slots g.K.ByteKind.slot q)) (sym c.self.view_is) c.requires in
    omega (arith, within, length-byte_slots g.K.ByteKind.slot p, c.len.ensures.count, c.if-prove.true, c.self.invariant.offsets.some, length-map c.self.inside.offsets pos)

pub slice-requires-clause-part : goal.slice-requires-clause-part
slice-requires-clause-part g c =
    let p : ByteParts = record { offsets = c.self.inside.offsets; bytes = c.self.inside.bytes } in
    let within : c.args.offset + c.args.len ≤ length (byte_slots g.K.ByteKind.slot p) = subst (λ q. c.args.offset + c.args.len ≤ length (byte_slots g.K.ByteKind.slot q)) (sym c.self.view_is) c.requires in
    omega (arith, within, length-byte_slots g.K.ByteKind.slot p, c.len.ensures.count, c.if-prove.false)

pub invariant_of-self : goal.invariant_of-self
invariant_of-self g c =
    let p : ByteParts = record { offsets = c.self.inside.offsets; bytes = c.self.inside.bytes } in
    let within : c.args.offset + c.args.len ≤ length (byte_slots g.K.ByteKind.slot p) = subst (λ q. c.args.offset + c.args.len ≤ length (byte_slots g.K.ByteKind.slot q)) (sym c.self.view_is) c.requires in
    rw (c.slice.ensures) (part_of_rows g.K.ByteKind.Allows p c.args.offset c.args.len c.self.invariant (omega (arith, within, length-byte_slots g.K.ByteKind.slot p, c.len.ensures.count, c.if-prove.false)))
