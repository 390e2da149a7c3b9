use Rattle.arrow_growable.proofs.Common.{map, subst, sym, length-map, sliced, union_rows, on_ok, grown_of, GrownFields}
use Rattle.arrow_growable.proofs.UnionFieldLemmas.{fields_refused, grows_fields}
use Rattle.arrow_growable.proofs.growable.fields.extend_by_fields.Goals as goal

pub returns-clause-ok : goal.returns-clause-ok
returns-clause-ok c =
    let p = c.args.array.now in
    let gs = map grown_of c.args.children.now in
    let more = sliced (union_rows p) c.args.start c.args.len in
    on_ok c.extend_fields.result c.extend_fields.ensures.ok (λ fields. grows_fields p c.requires.sparse c.args.start c.args.len c.requires.part c.args.types.now.items gs c.requires.over c.requires.holds c.args.index _ (map grown_of c.extend_fields.new.children) c.requires.bound c.in_ok-append_ids.ensures.ok (subst (GrownFields p.arrow_type more gs (map grown_of c.extend_fields.new.children)) (sym (length-map c.args.children.now grown_of)) fields))

pub returns-clause-overflow : goal.returns-clause-overflow
returns-clause-overflow c overflows =
    fields_refused c.args.array.now c.requires.sparse c.args.start c.args.len c.requires.part c.args.types.now.items (map grown_of c.args.children.now) c.requires.over c.requires.holds (c.extend_fields.ensures.overflow overflows)
