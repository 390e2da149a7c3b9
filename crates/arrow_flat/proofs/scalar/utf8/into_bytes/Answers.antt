use Rattle.std.proofs.lemmas.Str.{IsUtf8-string_bytes}
use Rattle.arrow_flat.proofs.scalar.utf8.into_bytes.Goals as goal

pub returns-in-Some-clause-text : goal.returns-in-Some-clause-text
returns-in-Some-clause-text c = rw c.into_bytes.ensures.value (IsUtf8-string_bytes c.in-Some.text)
