use Rattle.arrow_flat_growable.proofs.Common.{◌∙◌, ◌++◌, [], replicate, refl, ap, row_bytes, pieces}
use Rattle.arrow_flat_growable.proofs.GrownRowLemmas.{empty_grown, empty_rows, same_grown, on_either}
use Rattle.arrow_flat_growable.proofs.ResultLemmas.{on_ok}
use Rattle.arrow_flat_growable.proofs.growable.byte_rows.GrownBytes.append_empty.Goals as goal

pub invariant_of-self : goal.invariant_of-self
invariant_of-self g c =
    let os = c.self.inside.offsets in
    let bytes = c.self.inside.bytes.1 in
    let allows = g.K.ByteKind.Allows in
    on_either c.extend_constant.result (λ is. empty_grown allows os bytes c.self.invariant c.len.ensures.sound g.met.K.GrowableKind.allows_empty c.extend_constant.new.self c.args.additional is) (λ same. same_grown allows os bytes c.self.invariant c.len.ensures.sound c.extend_constant.new.self bytes (same, refl)) c.extend_constant.ensures.ok c.extend_constant.ensures.unchanged

pub returns-clause-ok : goal.returns-clause-ok
returns-clause-ok g c =
    let bytes = c.self.inside.bytes.1 in
    on_ok c.extend_constant.result c.extend_constant.ensures.ok (λ is. ap (λ os. pieces os bytes) is ∙ (empty_rows c.self.inside.offsets bytes c.args.additional c.len.ensures.sound ∙ ap (λ p. row_bytes p.1 ++ replicate c.args.additional []) c.self.view_is))
