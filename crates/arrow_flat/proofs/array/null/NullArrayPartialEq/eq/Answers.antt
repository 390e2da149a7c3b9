use Rattle.std.proofs.Common.{◌≡◌, rules, length, replicate, ap, sym, ◌∙◌}
use Rattle.std.specs.Bool.{Decides}
use Rattle.std.proofs.lemmas.Bool.Decides.{Decides-eqb}
use Rattle.std.proofs.lemmas.List.{length-replicate}
use Rattle.arrow_types.specs.Slot.{Null}
use Rattle.arrow_flat.proofs.PartsLemmas.{same_by_meaning}
use Rattle.arrow_flat.proofs.array.null.NullArrayPartialEq.eq.Goals as goal

pub returns-then-eq-clause-value : goal.returns-then-eq-clause-value
returns-then-eq-clause-value c =
    let m = c.self.inside.length in
    let n = c.other.inside.length in
    let same = Decides-eqb m n in
    let told : Decides _ (replicate m Null ≡ replicate n Null) = (λ e. ap (λ k. replicate k Null) (same.0 e), λ e. same.1 (sym (length-replicate m Null) ∙ (ap (λ xs. length xs) e ∙ length-replicate n Null))) in
    let type = c.eq.ensures.types.0 c.if-eq.true in
    rw (← c.self.view_is, ← c.other.view_is) (same_by_meaning _ _ _ (λ e. (type, told.0 e), λ both. told.1 both.1))

pub returns-else-eq-clause-value : goal.returns-else-eq-clause-value
returns-else-eq-clause-value c = same_by_meaning _ _ _ (search rules)
