-- A growable over arrays that are bound to it, call by call.
use Rattle.arrow_growable.proofs.Common.{arith, ◌≡◌, ◌+◌, ℕ, ◌<◌, List, [], ◌++◌, length, map, replicate, Result, Ok, Err, Some, ap, sym, subst, ◌∙◌, inl, inr, OnOk, append-nil, take_all, Error, Fits, joined, Slot, null_slot, Fits-beginning, Fits-nil, sliced, Layout, rows, Grown, AreCrowded, CannotHold, FitsItself, FitsWith, appended, bound_to, first_type, named_rows, null_rows_of, source_at, HasAppended, CannotAppendAll}
use Rattle.arrow_growable.proofs.UnjoinedLemmas.{crowded_among}
use Rattle.arrow_growable.proofs.ChildLemmas.{appended_twice}

-- no rows at first
pub holds_none : (layouts : List Layout) (g : Grown) → g ≡ bound_to layouts → HasAppended layouts g []
holds_none layouts g is = (is, Fits-nil (first_type layouts))

module _ (layouts : List Layout) (g : Grown) (xs : List Slot) (held : HasAppended layouts g xs) where
  -- what a call appends
  pub nulls : (n : ℕ) → null_rows_of g n ≡ replicate n (null_slot (first_type layouts))
  nulls n = ap (λ h. null_rows_of h n) held.0

  pub named : (i start len : ℕ) → named_rows g i start len ≡ sliced (rows (source_at layouts i)) start len
  named i start len = ap (λ h. named_rows h i start len) held.0

  -- more rows
  pub holds_more : (new : Grown) (added more : List Slot) → added ≡ more → new ≡ appended g added → FitsItself new → HasAppended layouts new (xs ++ more)
  holds_more new added more same is fits =
      let next : new ≡ appended (bound_to layouts) (xs ++ more) = is ∙ (ap (appended g) same ∙ (ap (λ h. appended h more) held.0 ∙ appended_twice (bound_to layouts) xs more)) in
      (next, subst FitsItself next fits)

  -- the same of a call that may refuse
  pub holds_whole : (r : Result (Unit {0}) Error) (new : Grown) (added more whole : List Slot) → added ≡ more → OnOk r (new ≡ appended g added) → OnOk r (FitsItself new) → whole ≡ xs ++ more → OnOk r (HasAppended layouts new whole)
  holds_whole (Ok x) new added more whole same is fits all =
      subst (HasAppended layouts new) (sym all) (holds_more new added more same is fits)
  holds_whole (Err e) new added more whole same is fits all = tt

  -- rows that do not fit behind these do not fit in a whole that begins so
  pub refuses_whole : (added more rest whole : List Slot) → added ≡ more → (FitsWith g added → ⊥) → whole ≡ (xs ++ more) ++ rest → Fits (first_type layouts) whole → ⊥
  refuses_whole added more rest whole same over is fits =
      let begun : Fits (first_type layouts) (xs ++ more) = Fits-beginning (first_type layouts) (xs ++ more) rest (subst (Fits (first_type layouts)) is fits) in
      over (subst (FitsWith g) (sym same) (subst (λ h. FitsWith h more) (sym held.0) begun))

  -- and neither do these with them
  pub refuses_last : (added more whole : List Slot) → added ≡ more → (FitsWith g added → ⊥) → whole ≡ xs ++ more → Fits (first_type layouts) whole → ⊥
  refuses_last added more whole same over is fits =
      refuses_whole added more [] whole same over (is ∙ sym (append-nil (xs ++ more))) fits

  -- rows that are refused, and of which none is crowded, do not fit
  pub too_many_named : (i start len : ℕ) → (AreCrowded (Some layouts) i start len → ⊥) → CannotHold g i start len → FitsWith g (named_rows g i start len) → ⊥
  too_many_named i start len room refused fits =
      elim (subst (λ h. CannotHold h i start len) held.0 refused) [
        | inl over ↦ over (subst (λ h. FitsWith h (named_rows h i start len)) held.0 fits)
        | inr crowded ↦ room crowded
      ]

  -- and of the first array none is
  pub too_many_first : (start len : ℕ) → CannotHold g 0 start len → FitsWith g (named_rows g 0 start len) → ⊥
  too_many_first start len = too_many_named 0 start len (λ crowded. omega (arith, crowded.0))

-- all rows of an array that is bound
pub whole_source : (layouts : List Layout) (i n : ℕ) → n ≡ length (rows (source_at layouts i)) → sliced (rows (source_at layouts i)) 0 n ≡ rows (source_at layouts i)
whole_source layouts i n all = take_all n (rows (source_at layouts i)) (omega (arith, all))

-- of an array that is refused so
pub cannot_append : (layouts : List Layout) (g : Grown) (xs : List Slot) (held : HasAppended layouts g xs) (i n : ℕ) (rest : List Slot) → i < length layouts → n ≡ length (rows (source_at layouts i)) → CannotHold g i 0 n → joined (map rows layouts) ≡ (xs ++ rows (source_at layouts i)) ++ rest → CannotAppendAll layouts
cannot_append layouts g xs held i n rest bound all refused is =
    let more = named layouts g xs held i 0 n ∙ whole_source layouts i n all in
    elim (subst (λ h. CannotHold h i 0 n) held.0 refused) [
      | inl over ↦ inl (refuses_whole layouts g xs held _ _ rest _ more (λ fits. over (subst (λ h. FitsWith h (named_rows h i 0 n)) held.0 fits)) is)
      | inr crowded ↦ inr (crowded_among [] layouts i crowded.1.0 bound (omega (arith, crowded.1.2, all)) crowded.1.3)
    ]
