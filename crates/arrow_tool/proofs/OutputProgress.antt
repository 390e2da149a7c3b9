-- How far a writer has written.
use Rattle.std.proofs.Common.{◌≡◌, ℕ, ◌-◌, List, ◌++◌, length, take, drop, Option, Some, None, ap, sym, ◌∙◌, append_assoc}
use Rattle.std.proofs.lemmas.List.{take-append-drop, take_rest}
use Rattle.std.specs.Io.KnownBytes.{Appends}

pub Appends-more : (old mid new : Option (List ℕ)) (xs ys : List ℕ) → Appends old mid xs → Appends mid new ys → Appends old new (xs ++ ys)
Appends-more None mid new xs ys p q = tt
Appends-more (Some a) None new xs ys p q = absurd p
Appends-more (Some a) (Some b) None xs ys p q = absurd q
Appends-more (Some a) (Some b) (Some c) xs ys p q =
    q ∙ (ap (λ zs. zs ++ ys) p ∙ append_assoc a xs ys)

-- the first n bytes of what is left are written
pub written-more : (bytes written rest : List ℕ) (n : ℕ) → bytes ≡ written ++ rest → bytes ≡ (written ++ take n rest) ++ take (length rest - n) (drop n rest)
written-more bytes written rest n e =
    e ∙ (ap (λ zs. written ++ zs) (sym (take-append-drop n rest)) ∙ (sym (append_assoc written (take n rest) (drop n rest)) ∙ ap (λ zs. (written ++ take n rest) ++ zs) (sym (take_rest rest n))))
