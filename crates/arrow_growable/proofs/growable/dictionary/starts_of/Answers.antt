use Rattle.arrow_growable.proofs.Common.{arith, ◌<◌, Bor, length, map, ap, refl, sym, ◌∙◌, length-map, child_of, keyed_layout, rows, source_is}
use Rattle.arrow_growable.proofs.DictionaryLemmas.{starts_more, values_room}
use Rattle.arrow_growable.proofs.growable.dictionary.starts_of.Goals as goal

pub overflow_add-start : goal.overflow_add-start
overflow_add-start c =
    let arrays = c.args.arrays.now in
    let i = c.loop-array.array-index in
    let source = source_is (λ (r : Bor _). keyed_layout r.now) arrays i c.array-item.result c.loop-array-test.true c.array-item.is in
    let room = values_room (map (λ (r : Bor _). keyed_layout r.now) arrays) i (omega (arith, c.loop-array-test.true, length-map arrays (λ (r : Bor _). keyed_layout r.now))) in
    omega (arith, room, ap (λ l. length (rows (child_of l))) source, c.loop-array.invariant.2, c.requires, c.len-start.ensures, ap (λ l. length (rows l)) c.values.ensures.same)

pub loop-array-preserved : goal.loop-array-preserved
loop-array-preserved c =
    let arrays = c.args.arrays.now in
    let i = c.loop-array.array-index in
    let source = source_is (λ (r : Bor _). keyed_layout r.now) arrays i c.array-item.result c.loop-array-test.true c.array-item.is in
    let within : i < length (map (λ (r : Bor _). keyed_layout r.now) arrays) = omega (arith, c.loop-array-test.true, length-map arrays (λ (r : Bor _). keyed_layout r.now)) in
    let many = c.len-start.ensures ∙ (ap (λ l. length (rows l)) c.values.ensures.same ∙ ap (λ l. length (rows (child_of l))) (sym source)) in
    rw c.in_ok-push.ensures.items (starts_more (map (λ (r : Bor _). keyed_layout r.now) arrays) c.loop-array.starts.items c.loop-array.start _ i c.len-start.result within many refl c.loop-array.invariant)
