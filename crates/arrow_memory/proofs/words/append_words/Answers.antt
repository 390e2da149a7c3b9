use Rattle.arrow_memory.proofs.Common.{◌≡◌, ◌+◌, ◌-◌, ◌*◌, ◌/◌, ◌≤◌, ◌++◌, sym, ◌∙◌, drop, take, length, replicate, arith, rules, take_at, post_of, bits_in}
use Rattle.arrow_memory.proofs.AppendLemmas.{reads_bits, reads_join, reads_part, part_written}
use Rattle.arrow_memory.proofs.words.append_words.Goals as goal

pub returns-in-Ok-clause-appended : goal.returns-in-Ok-clause-appended
returns-in-Ok-clause-appended c =
    let others = c.args.others.now in
    let from = c.args.from in
    let count = c.args.count in
    let within : from / 64 + count ≤ length others = omega (arith, c.requires.part, c.if-from-eq0.true) in
    let cut : from / 64 + count - from / 64 ≡ count = omega arith in
    λ xs reads at.
    rw (c.in-Ok.ensures.items, cut) (reads_join c.args.words.now.items (take count (drop (from / 64) others)) xs (bits_in others from (64 * count)) reads (reads_part others from count c.if-from-eq0.true within) at)

pub returns-in-Ok-resize-clause-appended : goal.returns-in-Ok-resize-clause-appended
returns-in-Ok-resize-clause-appended c =
    let others = c.args.others.now in
    let from = c.args.from in
    let count = c.args.count in
    let new = c.combine_within.new.words in
    let long : length new ≡ count = search rules in
    λ xs reads at.
    let old = c.args.words.now.items in
    let seen = c.deref_mut.result.now in
    let done = c.len-done.result in
    let zeros : seen ≡ take (done + count) old ++ replicate (done + count - length old) 0 = search rules in
    let place : done ≡ length old = search rules in
    let part = take done seen ++ (new ++ post_of done (length seen - done) seen) in
    let put = take_at part (drop (length part) c.resize.new.self.items) c.resize.new.self.len (sym (search rules)) ∙ part_written done (done + count) old new seen place (omega (arith, place)) zeros in
    let joined = reads_join c.args.words.now.items new xs (bits_in others from (64 * count)) reads (reads_bits new others from count long (λ i below. c.combine_within.ensures.each i (search rules))) at in
    rw put joined
