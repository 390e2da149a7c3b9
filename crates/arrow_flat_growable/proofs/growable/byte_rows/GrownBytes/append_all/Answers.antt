use Rattle.arrow_flat_growable.proofs.Common.{arith, ◌≡◌, ◌∙◌, ◌++◌, ◌+◌, ◌<◌, ap, sym, subst, length, sliced, row_bytes, pieces, length-pieces, total}
use Rattle.arrow_flat_growable.proofs.GrownRowLemmas.{part_grown, part_moved, part_total, same_grown, on_either}
use Rattle.arrow_flat_growable.proofs.ResultLemmas.{on_ok}
use Rattle.arrow_flat_growable.proofs.growable.byte_rows.GrownBytes.append_all.Goals as goal

pub copy_rows-requires-clause-part : goal.copy_rows-requires-clause-part
copy_rows-requires-clause-part g c =
    omega (arith, c.requires.some, c.requires.part, ap length c.parts.ensures.rows, length-pieces c.parts.result.0.now c.parts.result.1.now)

pub invariant_of-self : goal.invariant_of-self
invariant_of-self g c =
    let os = c.self.inside.offsets in
    let bytes = c.self.inside.bytes.1 in
    let others = c.parts.result.0.now in
    let values = c.parts.result.1.now in
    let allows = g.K.ByteKind.Allows in
    let sound = c.copy_rows.ensures.sound in
    let part : c.args.start + c.args.len < length others = omega (arith, c.requires.some, c.requires.part, ap length c.parts.ensures.rows, length-pieces others values) in
    on_either c.copy_rows.result (part_grown allows os bytes c.self.invariant sound others values c.args.start c.args.len c.copy_rows.ensures.rows_sound part c.parts.ensures.within c.parts.ensures.allowed c.copy_rows.new.offsets c.copy_rows.new.bytes.1) (same_grown allows os bytes c.self.invariant sound c.copy_rows.new.offsets c.copy_rows.new.bytes.1) c.copy_rows.ensures.ok c.copy_rows.ensures.unchanged

pub returns-clause-ok : goal.returns-clause-ok
returns-clause-ok g c =
    let os = c.self.inside.offsets in
    let bytes = c.self.inside.bytes.1 in
    let others = c.parts.result.0.now in
    let values = c.parts.result.1.now in
    let part : c.args.start + c.args.len < length others = omega (arith, c.requires.some, c.requires.part, ap length c.parts.ensures.rows, length-pieces others values) in
    let moved = part_moved others values c.args.start c.args.len c.copy_rows.ensures.rows_sound part c.parts.ensures.within os bytes c.copy_rows.ensures.sound c.self.invariant.ends in
    on_ok c.copy_rows.result c.copy_rows.ensures.ok (λ is. (λ i. pieces (is.0 i) (is.1 i)) ∙ (moved ∙ (λ i. row_bytes ((c.self.view_is i).1) ++ sliced (sym c.parts.ensures.rows i) c.args.start c.args.len)))

pub returns-clause-overflow : goal.returns-clause-overflow
returns-clause-overflow g c over =
    let os = c.self.inside.offsets in
    let bytes = c.self.inside.bytes.1 in
    let others = c.parts.result.0.now in
    let values = c.parts.result.1.now in
    let part : c.args.start + c.args.len < length others = omega (arith, c.requires.some, c.requires.part, ap length c.parts.ensures.rows, length-pieces others values) in
    let all = part_total g.K.ByteKind.Allows os bytes c.self.invariant c.copy_rows.ensures.sound others values c.args.start c.args.len c.copy_rows.ensures.rows_sound part c.parts.ensures.within in
    let seen : pieces os bytes ++ sliced (pieces others values) c.args.start c.args.len ≡ row_bytes c.args.self.now.1 ++ sliced (row_bytes c.args.array.now.values) c.args.start c.args.len = λ i. row_bytes ((c.self.view_is i).1) ++ sliced (sym c.parts.ensures.rows i) c.args.start c.args.len in
    subst (λ rows. g.O.Index.greatest < total rows) seen (omega (arith, all, c.copy_rows.ensures.overflow over))
