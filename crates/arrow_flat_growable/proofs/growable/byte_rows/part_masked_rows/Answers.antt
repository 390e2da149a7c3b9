use Rattle.arrow_flat_growable.proofs.Common.{arith, ints, ◌≡◌, ◌+◌, ◌++◌, ◌<◌, ◌≤◌, [], length, ap, subst, sym, ◌∙◌, append_assoc, get_or, flat_map, last_of, with_valid_rows, low_bits, valid_items, part_values, with_parts, valid_values}
use Rattle.arrow_flat_growable.proofs.ValidRowLemmas.{valid_last}
use Rattle.arrow_flat_growable.proofs.growable.byte_rows.part_masked_rows.Goals as goal

pub overflow_sub-count : goal.overflow_sub-count
overflow_sub-count g c =
    let rows = c.args.rows.now in
    let same : low_bits c.word.result c.len-len.result ≡ c.args.bits.now = ap (low_bits c.word.result) c.len-len.ensures ∙ c.word.ensures in
    let ends : last_of c.extend_from_word.new.self ≡ last_of c.args.offsets.now + valid_items c.args.bits.now rows c.args.start = ap last_of c.in_ok-extend_from_word.ensures.ok ∙ (ap (λ bits. last_of (with_valid_rows c.args.offsets.now bits rows c.args.start)) same ∙ valid_last c.args.offsets.now c.args.bits.now rows c.args.start c.len.ensures.sound) in
    omega (arith, ints, ends, c.last.ensures, c.to_usize-before.ensures.value, c.last-2.ensures, c.to_usize.ensures.value)

pub push_valid-requires-clause-counted : goal.push_valid-requires-clause-counted
push_valid-requires-clause-counted g c =
    let rows = c.args.rows.now in
    let same : low_bits c.word.result c.len-len.result ≡ c.args.bits.now = ap (low_bits c.word.result) c.len-len.ensures ∙ c.word.ensures in
    let ends : last_of c.extend_from_word.new.self ≡ last_of c.args.offsets.now + valid_items c.args.bits.now rows c.args.start = ap last_of c.in_ok-extend_from_word.ensures.ok ∙ (ap (λ bits. last_of (with_valid_rows c.args.offsets.now bits rows c.args.start)) same ∙ valid_last c.args.offsets.now c.args.bits.now rows c.args.start c.len.ensures.sound) in
    omega (arith, ints, ends, c.last.ensures, c.to_usize-before.ensures.value, c.last-2.ensures, c.to_usize.ensures.value, ap (λ bits. valid_items bits rows c.args.start) c.word_runs.ensures)

pub returns-clause-ok : goal.returns-clause-ok
returns-clause-ok g c =
    let same : low_bits c.word.result c.len-len.result ≡ c.args.bits.now = ap (low_bits c.word.result) c.len-len.ensures ∙ c.word.ensures in
    let values = c.bytes.inside.values.items in
    let sources = c.bytes.inside.sources.items in
    let parts = c.bytes.inside.parts.items in
    let more = valid_values c.word_runs.result c.args.rows.now (get_or sources c.args.index []) c.args.start in
    let seen : (sources, with_parts sources values parts) ≡ c.args.bytes.now = c.bytes.view_is ∙ c.copy_many.ensures.same in
    let pushed = c.push_valid.ensures sources (subst (λ b. c.args.index < length b.0) (sym seen) c.requires.there) (subst (λ b. last_of c.args.rows.now ≤ length (get_or b.0 c.args.index [])) (sym seen) c.requires.within) in (
      c.in_ok-extend_from_word.ensures.ok ∙ ap (λ bits. with_valid_rows c.args.offsets.now bits c.args.rows.now c.args.start) same,
      ap (λ ys. values ++ ys) pushed.values
          ∙ (ap (λ ps. values ++ (flat_map (part_values sources) ps ++ more)) c.reserve.ensures.items
          ∙ (sym (append_assoc values (flat_map (part_values sources) parts) more)
          ∙ (λ t. (seen t).1 ++ valid_values (c.word_runs.ensures t) c.args.rows.now (get_or ((seen t).0) c.args.index []) c.args.start))),
    )
