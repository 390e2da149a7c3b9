use Rattle.std.proofs.Common.{◌≡◌, ◌∙◌, ap, refl, sym, Bool, true, false, not, None}
use Rattle.std.specs.Prelude.{is_some}
use Rattle.arrow_flat.specs.Laws.{marked_row}
use Rattle.arrow_arrays.specs.UnionParts.{union_rows}
use Rattle.arrow_arrays.proofs.UnionLemmas.{union_values}
use Rattle.arrow_arrays.proofs.array.union.UnionArray.is_valid.Goals as goal

so : (b : Bool) → not b ≡ false → b ≡ true
so true e = refl
so false e = cc

pub returns : goal.returns
returns c =
    so c.is_none.result (sym c.is_none.ensures ∙ ap is_some c.validity.ensures) ∙ marked_row None (union_rows c.args.self.now) c.args._i (union_values c.args.self.now) c.requires
