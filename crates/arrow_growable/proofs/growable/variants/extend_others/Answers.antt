use Rattle.arrow_growable.proofs.Common.{Err, ap, on_ok, passed_on}
use Rattle.arrow_growable.proofs.UnionChildLemmas.{on_both}
use Rattle.arrow_growable.proofs.UnionOthersLemmas.{before_refused, before_well, half_bound, part_refused, part_well, whole_bound, whole_others, whole_well}
use Rattle.arrow_growable.proofs.growable.variants.extend_others.Goals as goal

pub extend_all_nulls-requires : goal.extend_all_nulls-requires
extend_all_nulls-requires c =
    record { well = before_well c.args.children.now c.args.field c.args.count c.requires.field c.requires.well }

pub returns-in_err-extend_all_nulls-clause-kept : goal.returns-in_err-extend_all_nulls-clause-kept
returns-in_err-extend_all_nulls-clause-kept c =
    half_bound c.args.children.now c.args.field c.args.count c.requires.field c.extend_all_nulls.new.children c.in_err-extend_all_nulls.ensures.kept

pub returns-in_err-extend_all_nulls-clause-overflow : goal.returns-in_err-extend_all_nulls-clause-overflow
returns-in_err-extend_all_nulls-clause-overflow c overflows =
    before_refused c.args.children.now c.args.field c.args.count c.requires.field (c.in_err-extend_all_nulls.ensures.overflow (ap Err (passed_on c.from_residual.result _ _ c.from_residual.ensures.1 overflows)))

pub extend_all_nulls-requires-2 : goal.extend_all_nulls-requires-2
extend_all_nulls-requires-2 c =
    record { well = part_well c.args.children.now c.args.field c.args.count c.requires.field c.extend_all_nulls.new.children c.in_ok-extend_all_nulls.ensures.kept c.requires.well }

pub returns-clause-ok : goal.returns-clause-ok
returns-clause-ok c =
    let first = c.in_ok-extend_all_nulls.ensures in
    on_ok c.extend_all_nulls-2.result c.extend_all_nulls-2.ensures.ok (λ last. whole_others c.args.children.now c.args.field c.args.count c.requires.field c.extend_all_nulls.new.children first.kept c.extend_all_nulls-2.new.children first.ok last)

pub returns-clause-well : goal.returns-clause-well
returns-clause-well c =
    let first = c.in_ok-extend_all_nulls.ensures in
    on_both c.extend_all_nulls-2.result c.extend_all_nulls-2.ensures.ok c.extend_all_nulls-2.ensures.fits (λ last fits. whole_well c.args.children.now c.args.field c.args.count c.requires.field c.extend_all_nulls.new.children first.kept c.extend_all_nulls-2.new.children c.requires.well first.ok first.fits last fits)

pub returns-clause-kept : goal.returns-clause-kept
returns-clause-kept c =
    whole_bound c.args.children.now c.args.field c.args.count c.requires.field c.extend_all_nulls.new.children c.in_ok-extend_all_nulls.ensures.kept c.extend_all_nulls-2.new.children c.extend_all_nulls-2.ensures.kept

pub returns-clause-overflow : goal.returns-clause-overflow
returns-clause-overflow c overflows =
    part_refused c.args.children.now c.args.field c.args.count c.requires.field c.extend_all_nulls.new.children c.in_ok-extend_all_nulls.ensures.kept (c.extend_all_nulls-2.ensures.overflow overflows)
