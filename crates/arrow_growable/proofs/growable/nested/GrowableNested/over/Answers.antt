use Rattle.arrow_growable.proofs.Common.{◌≡◌, Some, false, map, ap, sym, subst, ◌∙◌, rules, IsCarried, type_of, first_type, grown_of, bound_layouts, nested_rows, form_of, rows_of_all}
use Rattle.arrow_growable.proofs.GrownLemmas.{no_rows}
use Rattle.arrow_growable.proofs.StepLemmas.{parts_made}
use Rattle.arrow_growable.proofs.growable.nested.GrowableNested.over.Goals as goal

pub invariant_of-result : goal.invariant_of-result
invariant_of-result c =
    let layouts = bound_layouts c.args.arrays in
    let t = type_of c.in_ok-data_type.data_type in
    let copied : t ≡ first_type layouts = search rules in
    parts_made c.args.spans _ _ layouts t copied (subst IsCarried (sym copied) c.data_type.ensures.carried) c.requires.one_type c.requires.fresh c.requires.children c.requires.types c.in_ok-validity.ensures.ok

pub returns-clause-ok : goal.returns-clause-ok
returns-clause-ok c =
    let layouts = bound_layouts c.args.arrays in
    let t = type_of c.in_ok-data_type.data_type in
    let copied : t ≡ first_type layouts = search rules in
    λ j. record { arrow_type = copied j; sources = Some layouts; rows = (ap (λ bits. nested_rows (form_of c.args.spans) bits (rows_of_all (map grown_of c.args.children.items))) c.in_ok-validity.ensures.ok ∙ no_rows (form_of c.args.spans) (rows_of_all (map grown_of c.args.children.items))) j; count = 0; failed = false }
