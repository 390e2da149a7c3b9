use Rattle.arrow_memory.proofs.Common.{◌≡◌, ◌∷◌, [], rules}
use Rattle.arrow_memory.proofs.WordLemmas.{low_bits_in}
use Rattle.arrow_memory.proofs.bitmap.Bitmap.from_word.Goals as goal

pub returns-clause-ok : goal.returns-clause-ok
returns-clause-ok c =
    let all : c.in_ok-words.words.items ≡ c.args.word ∷ [] = search rules in
    rw (all, low_bits_in c.args.word c.args.len c.requires) at c.from_words.ensures.ok
