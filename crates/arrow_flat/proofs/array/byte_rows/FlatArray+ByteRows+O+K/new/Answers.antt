use Rattle.arrow_flat.specs.ByteRows.{ByteParts}
use Rattle.arrow_flat.proofs.PieceLemmas.{length-byte_slots}
use Rattle.arrow_flat.proofs.array.byte_rows.FlatArray+ByteRows+O+K.new.Goals as goal

pub invariant_of-result : goal.invariant_of-result
invariant_of-result g c = record { offsets = c.len.ensures.sound; within = c.requires.offsets; rows = c.requires.text }

pub invariant_of-result-2 : goal.invariant_of-result-2
invariant_of-result-2 g c =
    let p : ByteParts = record { offsets = c.args.offsets; bytes = c.args.values } in
    record {
      carried = c.requires.kind.0;
      kind = c.requires.kind.1;
      fits = rw (length-byte_slots g.K.ByteKind.slot p) c.requires.length;
    }
