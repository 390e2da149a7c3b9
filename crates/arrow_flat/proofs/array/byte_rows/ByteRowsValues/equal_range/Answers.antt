use Rattle.std.proofs.Common.{◌+◌, ◌<◌, length, refl, sym, subst, ap, ◌∙◌}
use Rattle.std.specs.List.{concat}
use Rattle.arrow_flat.specs.ByteRows.{ByteParts, byte_slice, row_bytes}
use Rattle.arrow_flat.proofs.LengthLemmas.{part_decides, part_lengths_same}
use Rattle.arrow_flat.proofs.PieceLemmas.{bytes_decide, rows_before}
use Rattle.arrow_flat.proofs.array.byte_rows.ByteRowsValues.equal_range.Goals as goal

pub are_as_long-requires-clause-here : goal.are_as_long-requires-clause-here
are_as_long-requires-clause-here g c =
    rows_before g.K.ByteKind.slot _ c.args.self.now (c.args.start + c.args.len) c.self.invariant.offsets c.self.view_is c.requires.here

pub are_as_long-requires-clause-there : goal.are_as_long-requires-clause-there
are_as_long-requires-clause-there g c =
    rows_before g.K.ByteKind.slot _ c.args.other.now (c.args.other_start + c.args.len) c.other.invariant.offsets c.other.view_is c.requires.there

pub joined-requires : goal.joined-requires
joined-requires g c =
    subst (λ r. c.args.start + c.args.len < length r.offsets) c.self.view_is (rows_before g.K.ByteKind.slot _ c.args.self.now (c.args.start + c.args.len) c.self.invariant.offsets c.self.view_is c.requires.here)

pub joined-requires-then-are_as_long : goal.joined-requires-then-are_as_long
joined-requires-then-are_as_long g c =
    subst (λ r. c.args.other_start + c.args.len < length r.offsets) c.other.view_is (rows_before g.K.ByteKind.slot _ c.args.other.now (c.args.other_start + c.args.len) c.other.invariant.offsets c.other.view_is c.requires.there)

pub returns-then-are_as_long : goal.returns-then-are_as_long
returns-then-are_as_long g c =
    let p : ByteParts = record { offsets = c.self.inside.offsets; bytes = c.self.inside.bytes } in
    let q : ByteParts = record { offsets = c.other.inside.offsets; bytes = c.other.inside.bytes } in
    let mine = c.self.invariant in
    let theirs = c.other.invariant in
    let here = rows_before g.K.ByteKind.slot p c.args.self.now (c.args.start + c.args.len) mine.offsets c.self.view_is c.requires.here in
    let there = rows_before g.K.ByteKind.slot q c.args.other.now (c.args.other_start + c.args.len) theirs.offsets c.other.view_is c.requires.there in
    let told = bytes_decide c.joined.result.now c.joined-then-are_as_long.result.now c.eq.result c.eq.ensures in
    let left = c.joined.ensures ∙ ap (λ r. concat (row_bytes (byte_slice r c.args.start c.args.len))) (sym c.self.view_is) in
    let right = c.joined-then-are_as_long.ensures ∙ ap (λ r. concat (row_bytes (byte_slice r c.args.other_start c.args.len))) (sym c.other.view_is) in
    rw (← c.self.view_is, ← c.other.view_is) (part_decides g.K.ByteKind.slot g.met.K.ByteKind.one_to_one p q c.args.start c.args.other_start c.args.len mine.offsets mine.within theirs.offsets theirs.within here there c.eq.result (c.if-are_as_long.ensures.0 refl) (λ e. sym left ∙ (told.0 e ∙ right), λ same. told.1 (left ∙ (same ∙ sym right))))

pub returns-else-are_as_long : goal.returns-else-are_as_long
returns-else-are_as_long g c =
    let p : ByteParts = record { offsets = c.self.inside.offsets; bytes = c.self.inside.bytes } in
    let q : ByteParts = record { offsets = c.other.inside.offsets; bytes = c.other.inside.bytes } in
    let mine = c.self.invariant in
    let theirs = c.other.invariant in
    let here = rows_before g.K.ByteKind.slot p c.args.self.now (c.args.start + c.args.len) mine.offsets c.self.view_is c.requires.here in
    let there = rows_before g.K.ByteKind.slot q c.args.other.now (c.args.other_start + c.args.len) theirs.offsets c.other.view_is c.requires.there in
    rw (← c.self.view_is, ← c.other.view_is) (λ e. absurd (cc), λ same. c.are_as_long.ensures.1 (part_lengths_same g.K.ByteKind.slot g.met.K.ByteKind.one_to_one p q c.args.start c.args.other_start c.args.len mine.offsets mine.within theirs.offsets theirs.within here there same))
