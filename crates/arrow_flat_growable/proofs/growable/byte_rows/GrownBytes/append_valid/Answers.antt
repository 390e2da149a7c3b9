use Rattle.arrow_flat_growable.proofs.Common.{arith, ◌≡◌, ◌∙◌, ◌++◌, ◌+◌, ◌<◌, subst, length, sliced, length-sliced, row_bytes, pieces, length-pieces, filled, total}
use Rattle.arrow_flat_growable.proofs.GrownRowLemmas.{same_grown, on_either}
use Rattle.arrow_flat_growable.proofs.ResultLemmas.{on_ok}
use Rattle.arrow_flat_growable.proofs.ValidRowLemmas.{valid_grown, valid_moved, valid_total}
use Rattle.arrow_flat_growable.proofs.growable.byte_rows.GrownBytes.append_valid.Goals as goal

pub copy_valid_rows-requires-clause-part : goal.copy_valid_rows-requires-clause-part
copy_valid_rows-requires-clause-part g c =
    omega (arith, c.requires.some, c.requires.part, length-pieces c.args.rows.now c.args.values.now)

pub invariant_of-self : goal.invariant_of-self
invariant_of-self g c =
    let os = c.self.inside.offsets in
    let bytes = c.self.inside.bytes.1 in
    let others = c.args.rows.now in
    let values = c.args.values.now in
    let allows = g.K.ByteKind.Allows in
    let sound = c.copy_valid_rows.ensures.sound in
    let bits = sliced c.args.validity.now c.args.start c.args.len in
    let part : c.args.start + length bits < length others = omega (arith, c.requires.some, c.requires.part, length-pieces others values, length-sliced c.args.validity.now c.args.start c.args.len c.requires.covered) in
    on_either c.copy_valid_rows.result (valid_grown others values c.copy_valid_rows.ensures.rows_sound c.requires.within bits c.args.start part allows os bytes c.self.invariant sound g.met.K.GrowableKind.allows_empty c.requires.allowed c.copy_valid_rows.new.offsets c.copy_valid_rows.new.bytes.1) (same_grown allows os bytes c.self.invariant sound c.copy_valid_rows.new.offsets c.copy_valid_rows.new.bytes.1) c.copy_valid_rows.ensures.ok c.copy_valid_rows.ensures.unchanged

pub returns-clause-ok : goal.returns-clause-ok
returns-clause-ok g c =
    let os = c.self.inside.offsets in
    let bytes = c.self.inside.bytes.1 in
    let others = c.args.rows.now in
    let values = c.args.values.now in
    let bits = sliced c.args.validity.now c.args.start c.args.len in
    let count : length bits ≡ c.args.len = length-sliced c.args.validity.now c.args.start c.args.len c.requires.covered in
    let part : c.args.start + length bits < length others = omega (arith, c.requires.some, c.requires.part, length-pieces others values, count) in
    let moved = valid_moved others values c.copy_valid_rows.ensures.rows_sound c.requires.within bits c.args.start part os bytes c.copy_valid_rows.ensures.sound c.self.invariant.ends in
    on_ok c.copy_valid_rows.result c.copy_valid_rows.ensures.ok (λ is. (λ i. pieces (is.0 i) (is.1 i)) ∙ (moved ∙ (λ i. row_bytes ((c.self.view_is i).1) ++ filled bits (sliced (pieces others values) c.args.start (count i)))))

pub returns-clause-overflow : goal.returns-clause-overflow
returns-clause-overflow g c over =
    let os = c.self.inside.offsets in
    let bytes = c.self.inside.bytes.1 in
    let others = c.args.rows.now in
    let values = c.args.values.now in
    let bits = sliced c.args.validity.now c.args.start c.args.len in
    let count : length bits ≡ c.args.len = length-sliced c.args.validity.now c.args.start c.args.len c.requires.covered in
    let part : c.args.start + length bits < length others = omega (arith, c.requires.some, c.requires.part, length-pieces others values, count) in
    let all = valid_total others values c.copy_valid_rows.ensures.rows_sound c.requires.within bits c.args.start part g.K.ByteKind.Allows os bytes c.self.invariant c.copy_valid_rows.ensures.sound in
    let seen : pieces os bytes ++ filled bits (sliced (pieces others values) c.args.start (length bits)) ≡ row_bytes c.args.self.now.1 ++ filled bits (sliced (pieces others values) c.args.start c.args.len) = λ i. row_bytes ((c.self.view_is i).1) ++ filled bits (sliced (pieces others values) c.args.start (count i)) in
    subst (λ rows. g.O.Index.greatest < total rows) seen (omega (arith, all, c.copy_valid_rows.ensures.overflow over))
