use Rattle.arrow_select.proofs.Common.{arith, [], ◌∷◌, sym, Overflow, layout_of, grown_of, RefusesRange}
use Rattle.arrow_select.proofs.GrownRanges.{grows_alone, holds_kept, refused_by, refuses_kept}
use Rattle.arrow_select.proofs.filter.any.append_ranges.Goals as goal

pub returns-clause-ok : goal.returns-clause-ok
returns-clause-ok c =
    holds_kept (layout_of c.args.array.now ∷ []) (grown_of c.args.growable.now) c.args.filter.now c.requires.bound c.extend_ranges.result _ c.extend_ranges.ensures.ok c.extend_ranges.ensures.fits

pub returns-clause-overflow : goal.returns-clause-overflow
returns-clause-overflow c overflows fits =
    let layouts = layout_of c.args.array.now ∷ [] in
    let old = grown_of c.args.growable.now in
    let mask = c.args.filter.now in
    let refuses = refused_by c.extend_ranges.result Overflow (RefusesRange mask 0 old _) overflows c.extend_ranges.ensures.err in
    refuses_kept layouts old mask c.requires.bound _ (omega arith, sym c.requires.lengths) refuses fits

pub returns-clause-others : goal.returns-clause-others
returns-clause-others c =
    grows_alone (layout_of c.args.array.now ∷ []) (grown_of c.args.growable.now) c.args.filter.now c.requires.bound c.extend_ranges.result _ c.extend_ranges.ensures.others c.extend_ranges.ensures.err
