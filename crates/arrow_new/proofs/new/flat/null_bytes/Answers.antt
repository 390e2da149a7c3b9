use Rattle.std.proofs.Common.{◌≡◌, ◌∙◌, ◌+◌, Some, length, ap, arith}
use Rattle.std.proofs.lemmas.List.{length-replicate}
use Rattle.arrow_flat.proofs.PieceLemmas.{length-byte_slots}
use Rattle.arrow_arrays.proofs.NullLemmas.{all_null, no_flat_fault, zero_pieces}
use Rattle.arrow_new.proofs.new.flat.null_bytes.Goals as goal

pub unreachable-requires : goal.unreachable-requires
unreachable-requires g c =
    let offsets = c.in_ok-offsets.ensures.ok in
    let bytes = c.in_ok-bytes.ensures.ok in
    let bits = c.in_ok-validity.ensures.ok in
    let rows = zero_pieces g.K.ByteKind.Allows c.in_ok-offsets.offsets c.in_ok-bytes.bytes c.in_ok-validity.validity c.args.length offsets bytes bits c.requires.empty in
    no_flat_fault _ _ _ _ c.in_default.field-0 c.requires.kind rows.0 rows.1 rows.2 c.in_default.ensures.fault

pub returns-clause-rows : goal.returns-clause-rows
returns-clause-rows g c =
    let long : length c.in_ok-offsets.offsets ≡ c.args.length + 1 = ap length c.in_ok-offsets.ensures.ok ∙ length-replicate (c.args.length + 1) 0 in
    rw c.in-Ok.ensures.ok (all_null _ _ c.args.length (ap Some c.in_ok-validity.ensures.ok) (length-byte_slots g.K.ByteKind.slot _ ∙ omega (arith, long)))
