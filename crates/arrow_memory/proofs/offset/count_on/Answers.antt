use Rattle.arrow_memory.proofs.Common.{◌≡◌, pos, ◌+◌, ◌≤◌, length, map, take, drop, slice_index, unsigned_abs, ap, sym, ◌∙◌, arith, ints, sum, drop_all, length-map, length-set, take_all, take_more_set}
use Rattle.arrow_memory.proofs.LengthLemmas.{ends_done, ends_next, length_at, lengths_from, sum_from, total_next}
use Rattle.arrow_memory.proofs.OffsetLemmas.{left_next, natural}
use Rattle.arrow_memory.proofs.offset.count_on.Goals as goal

pub counted-last-requires-clause-starts : goal.counted-last-requires-clause-starts
counted-last-requires-clause-starts g c =
    let here = length_at g.O.NativeOrd.number c.loop-k.ends c.args.ends.now c.loop-k.k c.index-ends-k.result c.requires.lengths c.loop-k.invariant.left c.index-ends-k.is c.loop-k-test.true in
    omega (arith, ints, here)

pub counted-last-requires-clause-fits : goal.counted-last-requires-clause-fits
counted-last-requires-clause-fits g c =
    let number = g.O.NativeOrd.number in
    let here = length_at number c.loop-k.ends c.args.ends.now c.loop-k.k c.index-ends-k.result c.requires.lengths c.loop-k.invariant.left c.index-ends-k.is c.loop-k-test.true in
    let first = sum_from number c.args.ends.now c.loop-k.k c.loop-k-test.true in
    let last = natural (number c.loop-k.last) c.loop-k.invariant.not_negative in
    omega (arith, ints, here, first, last, c.loop-k.invariant.total, c.requires.fits)

pub loop-k-preserved : goal.loop-k-preserved
loop-k-preserved g c =
    let number = g.O.NativeOrd.number in
    let k = c.loop-k.k in
    let ends = c.loop-k.ends in
    let old = c.args.ends.now in
    let here = length_at number ends old k c.index-ends-k.result c.requires.lengths c.loop-k.invariant.left c.index-ends-k.is c.loop-k-test.true in
    let last = natural (number c.loop-k.last) c.loop-k.invariant.not_negative in
    let first = lengths_from number old k c.loop-k-test.true in
    let place = unsigned_abs (number c.loop-k.last) in
    let next = unsigned_abs (number c.counted-last.result) in
    let n = slice_index (map unsigned_abs (map number old)) k in
    let value : number c.counted-last.result ≡ pos (place + n) = omega (arith, ints, here, last, c.counted-last.ensures) in
    let counted : next ≡ place + n = ap unsigned_abs value in
    record {
      long = length-set ends k c.counted-last.result ∙ c.loop-k.invariant.long;
      not_negative = omega (arith, ints, value);
      left = left_next old ends k c.counted-last.result c.loop-k.invariant.left;
      total = total_next place next n _ _ (drop (k + 1) (map unsigned_abs (map number old))) first counted c.loop-k.invariant.total;
      ends = ends_next number (take k ends) _ c.counted-last.result place next n _ (drop (k + 1) (map unsigned_abs (map number old))) _ (take_more_set ends k c.counted-last.result (omega (arith, c.loop-k.invariant.long, c.loop-k-test.true))) (value ∙ ap pos (sym counted)) first counted c.loop-k.invariant.ends;
    }

pub returns-clause-ends : goal.returns-clause-ends
returns-clause-ends g c =
    let number = g.O.NativeOrd.number in
    let k = c.loop-k.k in
    let ends = c.loop-k.ends in
    let old = c.args.ends.now in
    let all : length ends ≤ k = omega (arith, c.loop-k.invariant.long, c.loop-k-test.false) in
    let none = drop_all k (map unsigned_abs (map number old)) (omega (arith, c.loop-k-test.false, length-map (map number old) unsigned_abs, length-map old number)) in
    ap (map number) (sym (take_all k ends all)) ∙ ends_done (map number (take k ends)) _ (unsigned_abs (number c.loop-k.last)) _ none c.loop-k.invariant.ends

pub returns-clause-last : goal.returns-clause-last
returns-clause-last g c =
    let number = g.O.NativeOrd.number in
    let old = c.args.ends.now in
    let none = ap sum (drop_all c.loop-k.k (map unsigned_abs (map number old)) (omega (arith, c.loop-k-test.false, length-map (map number old) unsigned_abs, length-map old number))) in
    omega (arith, ints, natural (number c.loop-k.last) c.loop-k.invariant.not_negative, c.loop-k.invariant.total, none)
