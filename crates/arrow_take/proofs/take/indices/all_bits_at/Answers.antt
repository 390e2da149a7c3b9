use Rattle.arrow_take.proofs.Common.{◌≡◌, ◌+◌, ◌*◌, ◌<◌, ◌∙◌, arith, ap, get_or, length, map, subst, sym, get_or-map, length-map, Null, IsKey, named_bit}
use Rattle.arrow_take.proofs.IndexLemmas.{word_next, word_whole}
use Rattle.arrow_take.proofs.take.indices.all_bits_at.Goals as goal

pub bit_at-requires-clause-inside : goal.bit_at-requires-clause-inside
bit_at-requires-clause-inside g c =
    let slot = g.I.NativeType.slot in
    let x = c.index-stored-start.result in
    let i = 64 * c.args.j + c.loop-k.k in
    let there : i < length c.args.stored.now = omega (arith, c.requires.within, c.loop-k-test.true) in
    let row : slot x ≡ get_or (map slot c.args.stored.now) i Null = ap slot c.index-stored-start.is ∙ sym (get_or-map slot c.args.stored.now i x Null there) in
    subst (IsKey (length c.args.bits.now)) (sym row) (c.requires.inside i Null (omega (arith, there, length-map c.args.stored.now slot)))

pub loop-k-preserved : goal.loop-k-preserved
loop-k-preserved g c =
    let slot = g.I.NativeType.slot in
    let x = c.index-stored-start.result in
    let k = c.loop-k.k in
    let there : 64 * c.args.j + k < length c.args.stored.now = omega (arith, c.requires.within, c.loop-k-test.true) in
    let row : slot x ≡ get_or (map slot c.args.stored.now) (64 * c.args.j + k) Null = ap slot c.index-stored-start.is ∙ sym (get_or-map slot c.args.stored.now (64 * c.args.j + k) x Null there) in
    let next = word_next c.args.bits.now (map slot c.args.stored.now) (64 * c.args.j) k c.loop-k.word c.bit_at.result (omega (arith, there, length-map c.args.stored.now slot)) (omega (arith, c.loop-k-test.true, c.requires.in_word)) (c.bit_at.ensures ∙ ap (named_bit c.args.bits.now) row) c.loop-k.invariant.1 in
    (omega (arith, c.loop-k-test.true), rw c.from.ensures next)

pub returns : goal.returns
returns g c =
    word_whole c.args.bits.now (map g.I.NativeType.slot c.args.stored.now) (64 * c.args.j) c.loop-k.k c.args.count c.loop-k.word (omega (arith, length-map c.args.stored.now g.I.NativeType.slot, c.requires.within)) (omega (arith, c.loop-k.invariant.0, c.loop-k-test.false)) c.loop-k.invariant.1
