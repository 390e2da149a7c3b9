-- Worked rows of parts: if a definition changes its meaning, one of these fails.
use Rattle.std.specs.Prelude.{pos, negsuc, None, Some, [], ◌∷◌, ◌≡◌, refl, codes}
use Rattle.std.specs.Str.{chars}
use lib.Utf8.{encode}
use Rattle.arrow_logic.specs.Substring.{skipped, text_cut}

-- "hé" and what comes before each of its characters
skipped_one : skipped 1 (104 ∷ 195 ∷ 169 ∷ []) ≡ 1
skipped_one = refl

skipped_two : skipped 2 (104 ∷ 195 ∷ 169 ∷ 108 ∷ []) ≡ 3
skipped_two = refl

skipped_more : skipped 5 (104 ∷ 195 ∷ 169 ∷ []) ≡ 3
skipped_more = refl

-- its last character
text_cut_back : text_cut (negsuc 0) None (104 ∷ 195 ∷ 169 ∷ []) ≡ 195 ∷ 169 ∷ []
unfolding chars encode
text_cut_back = refl

-- the second of "two"
text_cut_front : text_cut (pos 1) (Some 1) (codes "two") ≡ codes "w"
unfolding chars encode
text_cut_front = refl
