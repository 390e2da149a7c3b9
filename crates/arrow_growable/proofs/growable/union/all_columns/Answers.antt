use Rattle.arrow_growable.proofs.Common.{arith, Bor, map, ap, sym, ◌∙◌, range_with_len, child_at, union_layout, first_is}
use Rattle.arrow_growable.proofs.UnionMakeLemmas.{field_count, field_total, more_columns, typed_next}
use Rattle.arrow_growable.proofs.growable.union.all_columns.Goals as goal

pub column_of-requires : goal.column_of-requires
column_of-requires c =
    let first = first_is (λ (r : Bor _). union_layout r.now) c.args.arrays.now c.index-arrays-0.result c.requires.some c.index-arrays-0.is in
    record { one_type = c.requires.one_type; child = field_count c.index-arrays-0.result.now c.fields-width.result.now _ c.loop-f.f c.fields-width.ensures.fields c.fields-width.ensures.same (sym first) c.loop-f-test.true }

pub loop-f-preserved : goal.loop-f-preserved
loop-f-preserved c =
    let layouts = map (λ (r : Bor _). union_layout r.now) c.args.arrays.now in
    (rw c.in_ok-push.ensures.items (more_columns layouts _ c.loop-f.columns.items c.in_ok-column_of.field-0 c.loop-f.f c.in_ok-column_of.ensures.ok c.loop-f.invariant.0), typed_next layouts c.loop-f.f c.loop-f.invariant.1 c.in_ok-column_of.ensures.types)

pub returns-clause-ok : goal.returns-clause-ok
returns-clause-ok c =
    let layouts = map (λ (r : Bor _). union_layout r.now) c.args.arrays.now in
    let first = first_is (λ (r : Bor _). union_layout r.now) c.args.arrays.now c.index-arrays-0.result c.requires.some c.index-arrays-0.is in
    let total = field_total c.index-arrays-0.result.now c.fields-width.result.now _ c.fields-width.ensures.fields c.fields-width.ensures.same (sym first) in
    c.loop-f.invariant.0 ∙ ap (λ n. map (λ k. map (child_at k) layouts) (range_with_len 0 n)) (omega (arith, c.loop-f-test.false, total))

pub returns-clause-types : goal.returns-clause-types
returns-clause-types c f within =
    let first = first_is (λ (r : Bor _). union_layout r.now) c.args.arrays.now c.index-arrays-0.result c.requires.some c.index-arrays-0.is in
    let total = field_total c.index-arrays-0.result.now c.fields-width.result.now _ c.fields-width.ensures.fields c.fields-width.ensures.same (sym first) in
    c.loop-f.invariant.1 f (omega (arith, within, c.loop-f-test.false, total))
