use Rattle.arrow_logic.proofs.LawLemmas.{text_part_of_part}
use Rattle.arrow_logic.proofs.laws.part_of_part_of_text.Goals as goal

pub returns : goal.returns
returns c =
    text_part_of_part c.args.start c.args.len c.args.next_start c.args.next_len c.args.text.now c.utf8.text
