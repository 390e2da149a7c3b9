use Rattle.arrow_take.proofs.Common.{◌≡◌, ◌+◌, ◌<◌, ◌∙◌, arith, ap, get_or, of_z, pos, subst, sym, to_z, w8, w32, nat_abs, SFits, ints, to_z-of_z, get_or_default, length-set, IsTypeId, rank_at}
use Rattle.arrow_take.proofs.RankLemmas.{all_few, counts_next, few_next, id_placed, rank_is, ranks_next}
use Rattle.arrow_take.proofs.take.dense.rank.Goals as goal

pub loop-row-preserved : goal.loop-row-preserved
loop-row-preserved c =
    let types = c.args.types.now in
    let i = c.loop-row.row in
    let id = get_or types i (pos 0) in
    let so_far = c.loop-row.invariant in
    let carried : IsTypeId id = c.requires.ids i (pos 0) c.loop-row-test.true in
    let read : to_z w8 (of_z w8 id) ≡ id = to_z-of_z w8 id (omega (arith, ints, carried.0, carried.1)) in
    let placed = id_placed id carried in
    let j = nat_abs (to_z w8 (of_z w8 id)) in
    let small : j < 128 = omega (arith, placed.1, ap nat_abs read) in
    let typed : id ≡ pos j = placed.0 ∙ ap (λ z. pos (nat_abs z)) (sym read) in
    let count : c.index-count.result.now ≡ get_or c.loop-row.counts.items j 0 = c.index-count.ensures ∙ get_or_default c.loop-row.counts.items j c.index-count.result.now 0 (omega (arith, small, so_far.long)) in
    let rank = count ∙ rank_is types i c.loop-row-test.true c.loop-row.counts.items so_far.counts so_far.long j typed small in
    let fits = c.in-Ok.ensures in
    let offset : to_z w32 (of_z w32 c.in-Ok.offset) ≡ pos (rank_at types i) = to_z-of_z w32 c.in-Ok.offset (subst (SFits w32) (sym fits.1) fits.0) ∙ (fits.1 ∙ ap pos rank) in
    record {
      counts = counts_next types i c.loop-row-test.true c.loop-row.counts.items so_far.counts so_far.long j typed small c.index-count.result.now count;
      long = length-set c.loop-row.counts.items j (c.index-count.result.now + 1) ∙ so_far.long;
      few = few_next types i c.loop-row-test.true so_far.few (omega (arith, ints, fits.0, rank));
      items = c.push_reserved.ensures.items ∙ ranks_next types i c.loop-row-test.true c.loop-row.offsets.items (to_z w32 (of_z w32 c.in-Ok.offset)) so_far.items offset;
      len = omega (arith, c.push_reserved.ensures.len, so_far.len);
      capacity = omega (arith, c.push_reserved.ensures.capacity, so_far.capacity);
    }

pub returns-clause-few : goal.returns-clause-few
returns-clause-few c = all_few c.args.types.now c.loop-row.row (omega (arith, c.loop-row-test.false)) c.loop-row.invariant.few
