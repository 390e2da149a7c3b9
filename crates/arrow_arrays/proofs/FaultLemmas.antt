-- An error that is passed on.
use Rattle.std.proofs.Common.{◌≡◌, Result, Ok, Err, IfErr, sym, subst}
use Rattle.std.specs.Result.{IsErrAnd}
use Rattle.arrow_types.specs.declared.error.Error.{Error}

pub failed : {A : Type 0} (r : Result A Error) (e : Error) (P : Error → Type 0) → IsErrAnd r (λ x. x ≡ e) → P e → IfErr r P
failed (Ok x) e P is holds = absurd is
failed (Err x) e P is holds = subst P (sym is) holds
