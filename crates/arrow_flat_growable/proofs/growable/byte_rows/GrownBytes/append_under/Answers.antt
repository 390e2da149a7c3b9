use Rattle.arrow_flat_growable.proofs.Common.{arith, ◌≡◌, ◌∙◌, ◌++◌, ◌+◌, ◌<◌, [], ap, get_or, subst, sym, length, OnOk, with_valid_rows, sliced, length-sliced, row_bytes, pieces, last_of_part, length-pieces, filled, total, valid_values}
use Rattle.arrow_flat_growable.proofs.PartRowLemmas.{all_of_part, part_filled, part_rows}
use Rattle.arrow_flat_growable.proofs.GrownRowLemmas.{same_grown, on_either}
use Rattle.arrow_flat_growable.proofs.ResultLemmas.{on_ok}
use Rattle.arrow_flat_growable.proofs.ValidRowLemmas.{valid_grown, valid_moved}
use Rattle.arrow_flat_growable.proofs.growable.byte_rows.GrownBytes.append_under.Given.{Over}
use Rattle.arrow_flat_growable.proofs.growable.byte_rows.GrownBytes.append_under.Goals as goal

pub part_of-requires : goal.part_of-requires
part_of-requires g c =
    omega (arith, c.requires.within, c.len-len.ensures, c.if-len-eq0.false, ap length c.parts.ensures.rows, length-pieces c.parts.result.0.now c.parts.result.1.now)

pub append_valid-requires-clause-part : goal.append_valid-requires-clause-part
append_valid-requires-clause-part g c =
    let os = c.parts.result.0.now in
    let values = c.parts.result.1.now in
    omega (arith, ap length (part_rows os values c.in_ok-part.part c.args.start c.len-len.result c.in_ok-part.ensures.ok), length-sliced (pieces os values) c.args.start c.len-len.result (omega (arith, c.requires.within, c.len-len.ensures, ap length c.parts.ensures.rows)))

pub append_valid-requires-clause-within : goal.append_valid-requires-clause-within
append_valid-requires-clause-within g c =
    let os = c.parts.result.0.now in
    let values = c.parts.result.1.now in
    let fewer = last_of_part os c.args.start c.len-len.result c.in_ok-part.ensures.sound (omega (arith, c.requires.within, c.len-len.ensures, c.if-len-eq0.false, ap length c.parts.ensures.rows, length-pieces os values)) in
    rw c.in_ok-part.ensures.ok (omega (arith, fewer, c.parts.ensures.within))

pub append_valid-requires-clause-allowed : goal.append_valid-requires-clause-allowed
append_valid-requires-clause-allowed g c =
    let os = c.parts.result.0.now in
    let values = c.parts.result.1.now in
    rw (part_rows os values c.in_ok-part.part c.args.start c.len-len.result c.in_ok-part.ensures.ok) (all_of_part g.K.ByteKind.Allows (pieces os values) c.args.start c.len-len.result c.parts.ensures.allowed)

pub has_room_for-requires : goal.has_room_for-requires
has_room_for-requires g c =
    omega (arith, c.requires.within, c.len-len.ensures, c.if-len-eq0.false, ap length c.parts.ensures.rows, length-pieces c.parts.result.0.now c.parts.result.1.now)

pub part_masked_rows-requires-clause-part : goal.part_masked_rows-requires-clause-part
part_masked_rows-requires-clause-part g c =
    omega (arith, c.requires.within, c.len-len.ensures, c.if-len-eq0.false, ap length c.parts.ensures.rows, length-pieces c.parts.result.0.now c.parts.result.1.now)

-- a few rows that were appended, with the bytes of the array
few : (g : Over) (c : goal.After-part_masked_rows g) → OnOk c.part_masked_rows.result ((c.part_masked_rows.new.offsets ≡ with_valid_rows c.self.inside.offsets c.args.bits.now c.parts.result.0.now c.args.start) × (c.part_masked_rows.new.bytes.1 ≡ c.self.inside.bytes.1 ++ valid_values c.args.bits.now c.parts.result.0.now c.parts.result.1.now c.args.start))
few g c =
    let source : get_or c.self.inside.bytes.0 c.args.index [] ≡ c.parts.result.1.now = (λ t. get_or ((c.self.view_is t).0) c.args.index []) ∙ (c.requires.bound.1 ∙ sym c.parts.ensures.bytes) in
    on_ok c.part_masked_rows.result c.part_masked_rows.ensures.ok (λ is. (is.0, is.1 ∙ ap (λ values. c.self.inside.bytes.1 ++ valid_values c.args.bits.now c.parts.result.0.now values c.args.start) source))

pub invariant_of-self : goal.invariant_of-self
invariant_of-self g c =
    let os = c.self.inside.offsets in
    let bytes = c.self.inside.bytes.1 in
    let allows = g.K.ByteKind.Allows in
    let part : c.args.start + length c.args.bits.now < length c.parts.result.0.now = omega (arith, c.requires.within, c.len-len.ensures, c.if-len-eq0.false, ap length c.parts.ensures.rows, length-pieces c.parts.result.0.now c.parts.result.1.now) in
    let sound = c.part_masked_rows.ensures.sound in
    on_either c.part_masked_rows.result (valid_grown c.parts.result.0.now c.parts.result.1.now c.part_masked_rows.ensures.rows_sound c.parts.ensures.within c.args.bits.now c.args.start part allows os bytes c.self.invariant sound g.met.K.GrowableKind.allows_empty c.parts.ensures.allowed c.part_masked_rows.new.offsets c.part_masked_rows.new.bytes.1) (same_grown allows os bytes c.self.invariant sound c.part_masked_rows.new.offsets c.part_masked_rows.new.bytes.1) (few g c) c.part_masked_rows.ensures.unchanged

pub returns-then-has_room_for-clause-ok : goal.returns-then-has_room_for-clause-ok
returns-then-has_room_for-clause-ok g c =
    let os = c.self.inside.offsets in
    let bytes = c.self.inside.bytes.1 in
    let bits = c.args.bits.now in
    let part : c.args.start + length bits < length c.parts.result.0.now = omega (arith, c.requires.within, c.len-len.ensures, c.if-len-eq0.false, ap length c.parts.ensures.rows, length-pieces c.parts.result.0.now c.parts.result.1.now) in
    let moved = valid_moved c.parts.result.0.now c.parts.result.1.now c.part_masked_rows.ensures.rows_sound c.parts.ensures.within bits c.args.start part os bytes c.part_masked_rows.ensures.sound c.self.invariant.ends in
    on_ok c.part_masked_rows.result (few g c) (λ is. (λ i. pieces (is.0 i) (is.1 i)) ∙ (moved ∙ (λ i. row_bytes ((c.self.view_is i).1) ++ filled bits (sliced (sym c.parts.ensures.rows i) c.args.start (length bits)))))

pub returns-clause-ok : goal.returns-clause-ok
returns-clause-ok g c =
    let own = c.in_ok-bits.ensures.ok in
    let whole = part_filled c.args.bits.now c.parts.result.0.now c.parts.result.1.now c.in_ok-part.part (row_bytes c.args.array.now.values) c.args.start c.len-len.result c.len-len.ensures c.in_ok-part.ensures.ok c.parts.ensures.rows c.requires.within in
    on_ok c.append_valid.result c.append_valid.ensures.ok (λ is. is ∙ ap (λ rows. row_bytes c.args.self.now.1 ++ rows) (ap (λ bits. filled (sliced bits 0 c.len-len.result) (sliced (pieces c.in_ok-part.part c.parts.result.1.now) 0 c.len-len.result)) own ∙ whole))

pub returns-clause-overflow : goal.returns-clause-overflow
returns-clause-overflow g c over =
    let own = c.in_ok-bits.ensures.ok in
    let whole = part_filled c.args.bits.now c.parts.result.0.now c.parts.result.1.now c.in_ok-part.part (row_bytes c.args.array.now.values) c.args.start c.len-len.result c.len-len.ensures c.in_ok-part.ensures.ok c.parts.ensures.rows c.requires.within in
    subst (λ rows. g.O.Index.greatest < total (row_bytes c.args.self.now.1 ++ rows)) (ap (λ bits. filled (sliced bits 0 c.len-len.result) (sliced (pieces c.in_ok-part.part c.parts.result.1.now) 0 c.len-len.result)) own ∙ whole) (c.append_valid.ensures.overflow over)
