use Rattle.arrow_memory.proofs.Common.{◌≡◌, ◌+◌, ◌-◌, ◌*◌, ◌/◌, ◌%◌, ◌^◌, ◌<◌, ◌≤◌, length, min, ap, ◌∙◌, arith, rules, bit_or, set, get_or_default_zero}
use Rattle.arrow_memory.proofs.AppendLemmas.{no_bits, one_word, behind_whole, over_end}
use Rattle.arrow_memory.proofs.words.append_word.Goals as goal
use Rattle.arrow_memory.proofs.words.append_word.Goals.{then-used-gt0, else-used-gt0}

pub returns-then-len-div_ceil-clause-appended : goal.returns-then-len-div_ceil-clause-appended
returns-then-len-div_ceil-clause-appended c =
    let place = c.args.place in
    let words = c.args.words.now.items in
    let more : place / 64 + min 1 (place % 64) < (place + c.args.count) / 64 + min 1 ((place + c.args.count) % 64) = search rules in
    λ xs ys reads long is count.
    let short : length ys ≤ 64 = omega (arith, count, c.requires.in_word) in
    elim c.if-used-gt0.branch [
      | then-used-gt0 w ↦
          let odd : 0 < place % 64 = w.if-used-gt0.true in
          let last : length words ≡ place / 64 + 1 = omega (arith, c.requires.full) in
          let shift : (64 - place % 64) % 64 ≡ 64 - place % 64 = omega arith in
          let old = w.index_mut.ensures.value ∙ get_or_default_zero words (place / 64) w.index_mut.result.now (omega arith) in
          let put = ap (λ v. v.items) w.words-is ∙ ap (λ word. set words (place / 64) (bit_or word (c.args.word * 2 ^ (place % 64) % 2 ^ 64))) old in
          rw (c.push_reserved.ensures.items, put, shift) (over_end words xs ys place c.args.word reads long is short (omega (arith, count)) last)
      | else-used-gt0 w ↦
          let even : place % 64 ≡ 0 = omega (arith, w.if-used-gt0.false) in
          let shift : c.args.word / 2 ^ ((64 - place % 64) % 64) ≡ c.args.word = rw even (omega arith) in
          rw (c.push_reserved.ensures.items, ap (λ v. v.items) w.words-is, shift) (behind_whole words xs ys place c.args.word reads long is short (omega (arith, c.requires.full)))
    ]

pub returns-else-len-div_ceil-clause-appended : goal.returns-else-len-div_ceil-clause-appended
returns-else-len-div_ceil-clause-appended c =
    let place = c.args.place in
    let words = c.args.words.now.items in
    let enough : (place + c.args.count) / 64 + min 1 ((place + c.args.count) % 64) ≤ place / 64 + min 1 (place % 64) = search rules in
    λ xs ys reads long is count.
    elim c.if-used-gt0.branch [
      | then-used-gt0 w ↦
          let odd : 0 < place % 64 = w.if-used-gt0.true in
          let within : place / 64 < length words = omega (arith, c.requires.full) in
          let old = w.index_mut.ensures.value ∙ get_or_default_zero words (place / 64) w.index_mut.result.now within in
          let put = ap (λ v. v.items) w.words-is ∙ ap (λ word. set words (place / 64) (bit_or word (c.args.word * 2 ^ (place % 64) % 2 ^ 64))) old in
          rw put (one_word words xs ys place c.args.word reads long is within (omega (arith, count)))
      | else-used-gt0 w ↦
          let even : place % 64 ≡ 0 = omega (arith, w.if-used-gt0.false) in
          rw (ap (λ v. v.items) w.words-is) (no_bits words xs ys reads (omega (arith, count)))
    ]
