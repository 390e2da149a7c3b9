use Rattle.std.proofs.Common.{arith, Bor, refl, sym, ◌∙◌}
use Rattle.arrow_arrays.specs.Any.{layout_of}
use Rattle.cases.proofs.SourceLemmas.{has_rows}
use Rattle.cases.proofs.select.growable.steps.extend_into.Goals as goal

-- the array at the index has a row for each bit of the mask
pub extend_into-requires : goal.extend_into-requires
extend_into-requires g c =
    λ _. ((refl, tt), has_rows (λ (a : Bor _). layout_of a.now) c.args.arrays.now _ _ c.args.index _ c.requires (omega arith) c.index-arrays-index.is (sym c.len.ensures ∙ (c.if-len-mask_len.false ∙ c.mask_len.ensures)))
