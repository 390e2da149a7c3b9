-- Clauses on what a call answers.
use Rattle.arrow_flat_growable.proofs.Common.{◌≡◌, Result, Ok, Err, IfOk, IsErrAnd, Error}
use Rattle.std.specs.Prelude.{OnOk}

-- what follows from a fact on success
pub on_ok : {T E P Q : Type 0} (r : Result T E) → OnOk r P → (P → Q) → OnOk r Q
on_ok (Ok x) p f = f p
on_ok (Err e) p f = tt

-- and from two
pub on_both : {T E P Q R : Type 0} (r : Result T E) → OnOk r P → OnOk r Q → (P → Q → R) → OnOk r R
on_both (Ok x) p q f = f p q
on_both (Err e) p q f = tt

-- and of its value
pub if_ok : {T E : Type 0} {P Q : T → Type 0} (r : Result T E) → IfOk r P → ((x : T) → P x → Q x) → IfOk r Q
if_ok (Ok x) p f = f x p
if_ok (Err e) p f = tt

-- an error that is passed on is the one that came
pub passed_on : {A : Type 0} (r : Result A Error) (e f : Error) → IsErrAnd r (λ x. x ≡ e) → r ≡ Err f → e ≡ f
passed_on (Ok x) e f is same = absurd is
passed_on (Err x) e f is same = cc
