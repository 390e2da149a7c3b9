-- Answers that pass an error on, and those that a growable hands out.
use Rattle.arrow_take.proofs.Common.{◌≡◌, ◌∙◌, true, false, List, Result, Ok, Err, ap, refl, sym, subst, IfOk, IsErrAnd, Error, Failed, OutOfMemory, Overflow, ArrowType, Fits, Slot, IsGrowthError, Layout, Grown, HandsOut, first_type, passed_on, HasAppended, Answers}

module _ {A : Type 0} (type_in : A → ArrowType) (rows_in : A → List Slot) where
  -- a growth that was refused
  pub passes_on : (t : ArrowType) (slots : List Slot) (r : Result A Error) (e : Error) → IsErrAnd r (λ x. x ≡ e) → (e ≡ Overflow → Fits t slots → ⊥) → IsGrowthError e → Answers type_in rows_in r t slots
  passes_on t slots (Ok a) e is over growth = absurd is
  passes_on t slots (Err x) e is over growth =
      record { ok = tt; overflow = λ same. over (passed_on (Err x) e Overflow is same); others = subst IsGrowthError (sym is) growth }

  -- an array of what a growable holds, which has not failed
  pub hands_out : (layouts : List Layout) (g : Grown) (slots : List Slot) → HasAppended layouts g slots → (r : Result A Error) → HandsOut type_in rows_in g r → Answers type_in rows_in r (first_type layouts) slots
  hands_out layouts g slots held (Ok a) answer =
      record { ok = record { array_type = answer.ok.0 ∙ ap (λ h. h.arrow_type) held.0; rows = answer.ok.1 ∙ ap (λ h. h.rows) held.0; fits = held.1 }; overflow = λ is. cc; others = tt }
  hands_out layouts g slots held (Err OutOfMemory) answer =
      record { ok = tt; overflow = λ is. cc; others = tt }
  hands_out layouts g slots held (Err Failed) answer =
      let has_failed : false ≡ true = sym (ap (λ h. h.failed) held.0) ∙ answer.failed.0 refl in
      absurd (cc)
  hands_out layouts g slots held (Err _) answer = absurd answer.others

  pub rows_of : (t : ArrowType) (slots : List Slot) (r : Result A Error) → Answers type_in rows_in r t slots → IfOk r (λ a. rows_in a ≡ slots)
  rows_of t slots (Ok a) answer = answer.ok.rows
  rows_of t slots (Err e) answer = tt
