use Rattle.arrow_take.proofs.Common.{◌+◌, ◌*◌, ◌<◌, ◌∙◌, arith, ap, length, map, subst, sym, option_copied, masked, Null, IsKey, named_bit}
use Rattle.arrow_take.proofs.IndexLemmas.{length-masked_slots, row_by_bit, row_within, word_next, word_whole}
use Rattle.arrow_take.proofs.take.indices.valid_bits_at.Goals as goal

pub bit_at-requires-clause-inside : goal.bit_at-requires-clause-inside
bit_at-requires-clause-inside g c =
    let i = 64 * c.args.j + c.loop-k.k in
    let there : i < length c.args.stored.now = omega (arith, c.requires.within, c.loop-k-test.true) in
    let marks = c.valid_word-valid.ensures c.loop-k.k (omega (arith, c.requires.in_word, c.loop-k-test.true)) in
    let row = row_by_bit g.I.NativeType.slot g.I.NativeOrd.number g.met.I.NativeOrd.slot_is_number _ c.args.stored.now i c.requires.fits there c.index-stored-start.result c.valid_word-valid.result c.loop-k.k marks c.index-stored-start.is in
    subst (IsKey (length c.args.bits.now)) (sym row) (c.requires.inside i Null (row_within g.I.NativeType.slot g.I.NativeOrd.number g.met.I.NativeOrd.slot_is_number _ c.args.stored.now i c.requires.fits there))

pub loop-k-preserved : goal.loop-k-preserved
loop-k-preserved g c =
    let k = c.loop-k.k in
    let i = 64 * c.args.j + k in
    let there : i < length c.args.stored.now = omega (arith, c.requires.within, c.loop-k-test.true) in
    let marks = c.valid_word-valid.ensures k (omega (arith, c.requires.in_word, c.loop-k-test.true)) in
    let row = row_by_bit g.I.NativeType.slot g.I.NativeOrd.number g.met.I.NativeOrd.slot_is_number _ c.args.stored.now i c.requires.fits there c.index-stored-start.result c.valid_word-valid.result k marks c.index-stored-start.is in
    let within = row_within g.I.NativeType.slot g.I.NativeOrd.number g.met.I.NativeOrd.slot_is_number (option_copied c.args.validity) c.args.stored.now i c.requires.fits there in
    let next = word_next c.args.bits.now (masked (option_copied c.args.validity) (map g.I.NativeType.slot c.args.stored.now)) (64 * c.args.j) k c.loop-k.word c.bit_at.result within (omega (arith, c.loop-k-test.true, c.requires.in_word)) (c.bit_at.ensures ∙ ap (named_bit c.args.bits.now) row) c.loop-k.invariant.1 in
    (omega (arith, c.loop-k-test.true), rw c.from.ensures next)

pub returns : goal.returns
returns g c =
    let all = length-masked_slots g.I.NativeType.slot (option_copied c.args.validity) c.args.stored.now c.requires.fits in
    word_whole c.args.bits.now (masked (option_copied c.args.validity) (map g.I.NativeType.slot c.args.stored.now)) (64 * c.args.j) c.loop-k.k c.args.count c.loop-k.word (omega (arith, all, c.requires.within)) (omega (arith, c.loop-k.invariant.0, c.loop-k-test.false)) c.loop-k.invariant.1
