use Rattle.arrow_take.proofs.Common.{◌≡◌, ◌+◌, ◌<◌, ◌∙◌, arith, ap, get_or, length, of_z, set, sym, take, to_z, w8, bool_byte, cond, int_eq, get_or-map, length-map, length-set, have_id}
use Rattle.arrow_take.proofs.KeptLemmas.{byte_of, kept-more, kept_written, one_more}
use Rattle.arrow_take.proofs.take.dense.keep_values.Goals as goal

pub loop-row-preserved : goal.loop-row-preserved
loop-row-preserved g c =
    let types = c.args.types.now in
    let values = c.args.values.now in
    let i = c.loop-row.row in
    let x = c.index-values-row.result in
    let id = to_z w8 (of_z w8 c.args.id) in
    let b = int_eq id (get_or types i id) in
    let typed : i < length types = omega (arith, c.loop-row-test.true, c.requires.lengths) in
    let room : c.loop-row.count < length c.loop-row.own.items = omega (arith, c.loop-row-test.true, c.loop-row.invariant.within, c.loop-row.invariant.long) in
    let counted : c.from-count.result ≡ cond b 1 0 = c.from-count.ensures ∙ (ap bool_byte c.has_id.ensures ∙ byte_of b) in
    let written = kept_written b c.loop-row.own.items _ c.loop-row.count x room c.loop-row.invariant.items in
    let more = kept-more (have_id id types) values i b x (omega (arith, typed, length-map types (int_eq id))) c.loop-row-test.true (get_or-map (int_eq id) types i id b typed) (sym c.index-values-row.is) in
    record {
      items = ap (λ n. take (c.loop-row.count + n) (set c.loop-row.own.items c.loop-row.count x)) counted ∙ (written ∙ sym more);
      within = omega (arith, c.loop-row.invariant.within, counted, one_more b);
      long = length-set c.loop-row.own.items c.loop-row.count x ∙ c.loop-row.invariant.long;
    }
