use Rattle.arrow_flat_growable.proofs.Common.{◌∙◌, ◌++◌, ap, append-nil, sliced, with_parts, valid_values}
use Rattle.arrow_flat_growable.proofs.ResultLemmas.{on_ok}
use Rattle.arrow_flat_growable.proofs.growable.byte_rows.copy_set_rows.Goals as goal

pub returns-clause-ok : goal.returns-clause-ok
returns-clause-ok g c =
    let copied = c.in_ok-copy_all.ensures.ok in
    let set = valid_values (sliced c.args.validity.now c.args.start c.args.len) c.args.rows.now c.args.values.now c.args.start in
    on_ok c.append_set_rows.result c.append_set_rows.ensures.ok (λ is. (is.0, ap (with_parts c.bytes.inside.sources.items c.append_set_rows.new.bytes.items) copied.1 ∙ (append-nil c.append_set_rows.new.bytes.items ∙ (is.1 ∙ ap (λ xs. xs ++ set) (copied.0 ∙ (ap (λ sources. with_parts sources c.bytes.inside.values.items c.bytes.inside.parts.items) c.as_slice.ensures.value ∙ ap (λ v. v.1) c.bytes.view_is))))))
