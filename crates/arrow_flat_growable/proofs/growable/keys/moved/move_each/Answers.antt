use Rattle.arrow_flat_growable.proofs.Common.{◌≡◌, ◌<◌, ◌≤◌, ◌∙◌, arith, ap, length, map, subst, sym, unsigned_abs, length-map, length-set, take_all, mask, Null, low_bits, left_next, same_at, IsKey, fitting_keys, grown_key}
use Rattle.arrow_flat_growable.proofs.MovedLemmas.{bit_row, length-bit_rows, moved_next}
use Rattle.arrow_flat_growable.proofs.growable.keys.moved.move_each.Goals as goal

pub moved_key-requires-clause-within : goal.moved_key-requires-clause-within
moved_key-requires-clause-within g c =
    let slot = g.K.NativeType.slot in
    let old = c.args.keys.now in
    let k = c.loop-k.k in
    let long : c.args.count ≡ length (map slot old) = omega (arith, c.requires.count, length-map old slot) in
    let read = c.index-keys-k.is ∙ same_at c.loop-k.keys old k c.index-keys-k.result c.loop-k.invariant.left in
    let row = bit_row slot c.args.half c.args.count old k c.index-keys-k.result c.requires.count c.loop-k-test.true read in
    subst (IsKey (fitting_keys g.K.Index.greatest (unsigned_abs (g.K.NativeOrd.number c.args.by)))) (sym row) (c.requires.within k Null (omega (arith, c.loop-k-test.true, length-bit_rows c.args.half c.args.count (map slot old) long)))

pub loop-k-preserved : goal.loop-k-preserved
loop-k-preserved g c =
    let slot = g.K.NativeType.slot in
    let f = grown_key (unsigned_abs (g.K.NativeOrd.number c.args.by)) in
    let old = c.args.keys.now in
    let keys = c.loop-k.keys in
    let k = c.loop-k.k in
    let rows = mask (low_bits c.args.half c.args.count) (map slot old) in
    let long : c.args.count ≡ length (map slot old) = omega (arith, c.requires.count, length-map old slot) in
    let inside : k < length rows = omega (arith, c.loop-k-test.true, length-bit_rows c.args.half c.args.count (map slot old) long) in
    let within : k < length keys = omega (arith, c.loop-k-test.true, c.loop-k.invariant.long, c.requires.count) in
    let read = c.index-keys-k.is ∙ same_at keys old k c.index-keys-k.result c.loop-k.invariant.left in
    let row = bit_row slot c.args.half c.args.count old k c.index-keys-k.result c.requires.count c.loop-k-test.true read in
    record {
      long = length-set keys k c.moved_key.result ∙ c.loop-k.invariant.long;
      done = moved_next slot f rows keys k c.moved_key.result within inside (c.moved_key.ensures ∙ ap f row) c.loop-k.invariant.done;
      left = left_next old keys k c.moved_key.result c.loop-k.invariant.left;
    }

pub returns-clause-slots : goal.returns-clause-slots
returns-clause-slots g c =
    let slot = g.K.NativeType.slot in
    let f = grown_key (unsigned_abs (g.K.NativeOrd.number c.args.by)) in
    let old = c.args.keys.now in
    let keys = c.loop-k.keys in
    let k = c.loop-k.k in
    let rows = mask (low_bits c.args.half c.args.count) (map slot old) in
    let long : c.args.count ≡ length (map slot old) = omega (arith, c.requires.count, length-map old slot) in
    let all : length keys ≤ k = omega (arith, c.loop-k-test.false, c.loop-k.invariant.long, c.requires.count) in
    let ends : length rows ≤ k = omega (arith, c.loop-k-test.false, length-bit_rows c.args.half c.args.count (map slot old) long) in
    ap (map slot) (sym (take_all k keys all)) ∙ (c.loop-k.invariant.done ∙ ap (map f) (take_all k rows ends))
