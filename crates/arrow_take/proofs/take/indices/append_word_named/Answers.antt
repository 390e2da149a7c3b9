use Rattle.arrow_take.proofs.Common.{◌≡◌, ◌+◌, ◌*◌, ◌<◌, ◌∙◌, arith, ap, drop, length, map, get_or, subst, sym, option_copied, get_or-drop, length-drop, masked, Null, IsKey}
use Rattle.arrow_take.proofs.IndexLemmas.{gives_next, row_by_bit, row_within}
use Rattle.arrow_take.proofs.take.indices.append_word_named.Goals as goal

pub at-requires-clause-inside : goal.at-requires-clause-inside
at-requires-clause-inside g c =
    let i = 64 * c.args.j + c.loop-k.k in
    let there : i < length c.args.stored.now = omega (arith, c.requires.within, c.loop-k-test.true) in
    let marks = c.valid_word-word.ensures c.loop-k.k (omega (arith, c.requires.in_word, c.loop-k-test.true)) in
    let row = row_by_bit g.I.NativeType.slot g.I.NativeOrd.number g.met.I.NativeOrd.slot_is_number _ c.args.stored.now i c.requires.fits there c.index-stored-start.result c.valid_word-word.result c.loop-k.k marks c.index-stored-start.is in
    subst (IsKey (g.S.ByIndex.count c.args.source.now)) (sym row) (c.requires.inside i Null (row_within g.I.NativeType.slot g.I.NativeOrd.number g.met.I.NativeOrd.slot_is_number _ c.args.stored.now i c.requires.fits there))

pub loop-k-preserved : goal.loop-k-preserved
loop-k-preserved g c =
    let rows = masked (option_copied c.args.validity) (map g.I.NativeType.slot c.args.stored.now) in
    let start = 64 * c.args.j in
    let k = c.loop-k.k in
    let value = g.S.ByIndex.named c.args.source.now in
    let there : start + k < length c.args.stored.now = omega (arith, c.requires.within, c.loop-k-test.true) in
    let within : start + k < length rows = row_within g.I.NativeType.slot g.I.NativeOrd.number g.met.I.NativeOrd.slot_is_number _ c.args.stored.now (start + k) c.requires.fits there in
    let marks = c.valid_word-word.ensures k (omega (arith, c.requires.in_word, c.loop-k-test.true)) in
    let row = row_by_bit g.I.NativeType.slot g.I.NativeOrd.number g.met.I.NativeOrd.slot_is_number _ c.args.stored.now (start + k) c.requires.fits there c.index-stored-start.result c.valid_word-word.result k marks c.index-stored-start.is in
    let below : k < length (drop start rows) = omega (arith, within, length-drop start rows) in
    let read : c.at.result ≡ value (get_or (drop start rows) k Null) = c.at.ensures ∙ ap value (row ∙ sym (get_or-drop start rows k Null)) in
    record {
      items = c.push_reserved.ensures.items ∙ gives_next value c.args.taken.now.items c.loop-k.taken.items (drop start rows) k c.at.result below read c.loop-k.invariant.items;
      len = omega (arith, c.push_reserved.ensures.len, c.loop-k.invariant.len);
      capacity = c.push_reserved.ensures.capacity ∙ c.loop-k.invariant.capacity;
    }
