-- A growable over one array that has no row yet, extended by the ranges of a mask: what it holds then, and why it refuses.
use Rattle.arrow_select.proofs.Common.{◌≡◌, ℕ, Bool, false, true, List, ◌∷◌, ◌++◌, length, Result, Ok, Err, IfErr, Some, refl, ap, sym, subst, ◌∙◌, append_assoc, OnOk, flat_map-append, Error, Failed, OutOfMemory, Overflow, Fits, Fits-beginning, Fits-nil, IsGrowthError, Layout, CannotHold, FitsItself, Grown, IsRefusal, bound_to, first_type, rows_among, HasAppended, refuses_whole, too_many_first, HasRowsAt, RefusesRange, kept_among, ranged_among, with_kept, with_ranges}
use Rattle.arrow_select.proofs.ExtendLemmas.{ranged_is_kept}

module _ (layouts : List Layout) (old : Grown) (mask : List Bool) (bound : old ≡ bound_to layouts) where
  -- it holds the rows that are kept
  pub holds_kept : (r : Result (Unit {0}) Error) (new : Grown) → OnOk r (new ≡ with_kept old 0 mask) → OnOk r (FitsItself old → FitsItself new) → OnOk r (HasAppended layouts new (kept_among (Some layouts) 0 mask))
  holds_kept (Ok x) new is fits =
      let now = is ∙ ap (λ g. with_kept g 0 mask) bound in
      let fit = fits (subst FitsItself (sym bound) (Fits-nil (first_type layouts))) in
      (now, subst FitsItself now fit)
  holds_kept (Err e) new is fits = tt

  -- where a range does not fit, the rows that are kept do not
  pub refuses_kept : (new : Grown) → HasRowsAt (Some layouts) 0 (length mask) → RefusesRange mask 0 old new Overflow → Fits (first_type layouts) (kept_among (Some layouts) 0 mask) → ⊥
  refuses_kept new has refuses fits =
      let before = refuses.before in
      let refused = refuses.refused in
      let behind = refuses.behind in
      let f = λ (r : ℕ × ℕ). rows_among (Some layouts) 0 r.0 r.1 in
      let xs = ranged_among (Some layouts) 0 before in
      let more = rows_among (Some layouts) 0 refused.0 refused.1 in
      let rest = ranged_among (Some layouts) 0 behind in
      let g = with_ranges (bound_to layouts) 0 before in
      let whole : kept_among (Some layouts) 0 mask ≡ (xs ++ more) ++ rest = sym (ranged_is_kept (Some layouts) 0 (before ++ refused ∷ behind) mask refuses.ranges.names has) ∙ (flat_map-append f before (refused ∷ behind) ∙ sym (append_assoc xs more rest)) in
      let begun = subst (Fits (first_type layouts)) (whole ∙ append_assoc xs more rest) fits in
      let held : HasAppended layouts g xs = (refl, Fits-beginning (first_type layouts) xs (more ++ rest) begun) in
      let cannot : CannotHold g 0 refused.0 refused.1 = subst (λ h. CannotHold (with_ranges h 0 before) 0 refused.0 refused.1) bound (refuses.overflows refl) in
      refuses_whole layouts g xs held more more rest (kept_among (Some layouts) 0 mask) refl (too_many_first layouts g xs held refused.0 refused.1 cannot) whole fits

  -- and it has not failed before, so that no other error comes
  growth_alone : (new : Grown) (e : Error) → IsRefusal e → RefusesRange mask 0 old new e → IsGrowthError e
  growth_alone new Overflow is refuses = tt
  growth_alone new OutOfMemory is refuses = tt
  growth_alone new Failed is refuses =
      let had : false ≡ true = ap (λ g. g.failed) (sym bound) ∙ refuses.had_failed.0 refl in
      absurd cc
  growth_alone new e is refuses = absurd is

  pub grows_alone : (r : Result (Unit {0}) Error) (new : Grown) → IfErr r IsRefusal → IfErr r (RefusesRange mask 0 old new) → IfErr r IsGrowthError
  grows_alone (Ok x) new is refuses = tt
  grows_alone (Err e) new is refuses = growth_alone new e is refuses

-- what is said of a refusal, of the error that came
pub refused_by : {A : Type 0} (r : Result A Error) (e : Error) (P : Error → Type 0) → r ≡ Err e → IfErr r P → P e
refused_by r e P is holds = subst (λ r. IfErr r P) is holds
