use Rattle.arrow_growable.proofs.Common.{◌≡◌, ap, of_z, rules, to_z, ◌∙◌, length, to_z-of_z, length-map, w8, int_eq, have_id}
use Rattle.arrow_memory.proofs.BitLemmas.{bits_of_word}
use Rattle.arrow_memory.specs.Words.{word_of}
use Rattle.arrow_growable.proofs.growable.ids.mask_of_id.Goals as goal

pub returns-then-types-le-WORD_BITS-clause-ok : goal.returns-then-types-le-WORD_BITS-clause-ok
returns-then-types-le-WORD_BITS-clause-ok c =
    let types = c.args.types.now in
    let id : to_z w8 (of_z w8 c.args.id) ≡ c.args.id = to_z-of_z w8 c.args.id (search rules) in
    c.from_word.ensures ∙ bits_of_word (have_id c.args.id types) c.word_of_id.result (length types) (c.word_of_id.ensures ∙ ap (λ z. word_of (have_id z types)) id) (length-map types (int_eq c.args.id))
