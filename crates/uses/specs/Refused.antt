-- Calls that refuse what they are given.
use Rattle.std.specs.Prelude.{◌≡◌, Result, Err}
use Rattle.gevaindy.specs.Errors.ArgumentFault.{ArgumentFault}
use Rattle.gevaindy.specs.Errors.Error.{Error}
use Rattle.gevaindy.specs.Errors.Error.TheVariants.{InvalidArgumentError}

-- a call that refuses an argument for a fault
abbrev pub Refuses : {A : Type 0} → Result A Error → ArgumentFault → Type 0
Refuses result fault = result ≡ Err (InvalidArgumentError fault)
