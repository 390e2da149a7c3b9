use Rattle.arrow_logic.proofs.Common.{◌≡◌, ◌*◌, ◌/◌, ◌++◌, ap, length, map, option_copied, pos, subst, ◌∙◌, arith, range_with_len, take_all, Text, IsOffsets, row_bytes, FitsRows, length-byte_slots, kept, word_length}
use Rattle.arrow_logic.proofs.LengthLemmas.{length-lengths, lengths_next}
use Rattle.arrow_logic.proofs.length.lengths_under.Goals as goal

pub loop-row-preserved : goal.loop-row-preserved
loop-row-preserved g c =
    let v = c.args.texts.now.validity in
    let os = c.args.texts.now.values.offsets in
    let bytes = c.args.texts.now.values.bytes in
    let row = c.loop-row.row in
    let rows = c.min-rows.result in
    let sound = subst IsOffsets c.offsets-offsets.ensures c.len-count.ensures.sound in
    let fits = subst (FitsRows v) (length-byte_slots Text c.args.texts.now.values) c.validity.ensures.fits in
    let count = ap length c.offsets-offsets.ensures in
    let aligned = c.loop-row.invariant.aligned c.loop-row-test.true in
    let more = subst (λ xs. map g.O.NativeOrd.number c.append_lengths.new.lengths.items ≡ map g.O.NativeOrd.number c.loop-row.lengths.items ++ map (λ k. pos (word_length c.word_of_rows-word.result xs row k)) (range_with_len 0 rows)) c.offsets-offsets.ensures c.append_lengths.ensures.items in
    record {
      within = omega (arith, c.min-rows.ensures, c.loop-row.invariant.within);
      aligned = λ left. omega (arith, c.min-rows.ensures, aligned, left);
      items = lengths_next v os bytes sound c.values.ensures.within fits g.O.NativeOrd.number c.loop-row.lengths.items c.append_lengths.new.lengths.items c.word_of_rows-word.result row rows (64 * (row / 64)) (option_copied c.args.validity) c.requires (omega (arith, aligned)) (omega (arith, c.min-rows.ensures)) (omega (arith, c.min-rows.ensures, c.loop-row-test.true, c.len-count.ensures.count, count)) c.word_of_rows-word.ensures more c.loop-row.invariant.items;
      len = omega (arith, c.append_lengths.ensures.len, c.loop-row.invariant.len);
      capacity = omega (arith, c.append_lengths.ensures.capacity, c.loop-row.invariant.capacity);
    }

pub returns-clause-ok : goal.returns-clause-ok
returns-clause-ok g c =
    let v = c.args.texts.now.validity in
    let os = c.args.texts.now.values.offsets in
    let bytes = c.args.texts.now.values.bytes in
    let sound = subst IsOffsets c.offsets-offsets.ensures c.len-count.ensures.sound in
    let fits = subst (FitsRows v) (length-byte_slots Text c.args.texts.now.values) c.validity.ensures.fits in
    let all = length-lengths v os bytes sound c.values.ensures.within fits in
    c.loop-row.invariant.items ∙ ap (map pos) (take_all c.loop-row.row (kept 0 length v (row_bytes c.args.texts.now.values)) (omega (arith, all, c.loop-row-test.false, c.len-count.ensures.count, ap length c.offsets-offsets.ensures)))
