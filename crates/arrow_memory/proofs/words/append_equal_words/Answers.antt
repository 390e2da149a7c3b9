use Rattle.arrow_memory.proofs.Common.{◌≡◌, ◌+◌, ◌-◌, ◌*◌, ◌≤◌, length, replicate, rules, vec_len, take_all}
use Rattle.arrow_memory.proofs.AppendLemmas.{reads_join, reads_equal}
use Rattle.arrow_memory.proofs.words.append_equal_words.Goals as goal

pub returns-clause-appended : goal.returns-clause-appended
returns-clause-appended c =
    let words = c.args.words.now.items in
    let total = c.len.result + c.args.count in
    let within : length words ≤ total = search rules in
    let more : total - vec_len c.args.words.now ≡ c.args.count = search rules in
    let kept = take_all total words within in
    λ xs reads at.
    rw (c.in-Ok.ensures.items, kept, more) (reads_join words (replicate c.args.count c.equal_bits.result) xs (replicate (64 * c.args.count) c.args.bit) reads (reads_equal c.args.count c.equal_bits.result c.args.bit c.equal_bits.ensures) at)
