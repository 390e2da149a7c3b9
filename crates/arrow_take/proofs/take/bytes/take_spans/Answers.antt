use Rattle.arrow_take.proofs.Common.{◌≡◌, ◌+◌, ◌-◌, ◌*◌, ◌/◌, ◌∷◌, ◌++◌, ◌∙◌, ℕ, [], Err, arith, ap, drop, get_or, length, map, replicate, subst, sym, take, length-drop, length-map, length-replicate, length-take, masked, Null, IsOffsets, last_of, sliced, rows_by, length-masked, passed_on, ends_from, IsSpanWithin, span_length, taken_span}
use Rattle.arrow_take.proofs.IndexLemmas.{gives_more, read_behind}
use Rattle.arrow_take.proofs.TakenBytes.{NamesBytes, offsets_next, passes_all, rows_fit, span_within}
use Rattle.arrow_take.proofs.take.bytes.take_spans.Given as given
use Rattle.arrow_take.proofs.take.bytes.take_spans.Goals as goal
use Rattle.arrow_take.proofs.take.bytes.take_spans.Goals.{After-deref}

-- where the rows so far lie, and those of a word more
spans : (g : given.Over) (c : After-deref g) → c.deref.result.now ≡ map (taken_span c.args.values.now.validity c.args.values.now.values.offsets) (take (c.loop-row.row + c.min-count.result) (rows_by (map g.I.NativeType.slot) c.args.indices.now))
spans g c =
    let row = c.loop-row.row in
    let count = c.min-count.result in
    let lent = c.as_slice-stored.ensures ∙ c.values.ensures in
    let here : 64 * (row / 64) ≡ row = omega (arith, c.loop-row.invariant.aligned c.loop-row-test.true) in
    let more = c.append_word_named.ensures.items ∙ (λ i. c.loop-row.spans.items ++ map (taken_span (c.validity-validity.ensures.same i) (c.offsets-rows.ensures i)) (sliced (masked (c.validity-nulls.ensures.same i) (map g.I.NativeType.slot (lent i))) (64 * (row / 64)) count)) in
    c.deref.ensures.value ∙ gives_more (taken_span c.args.values.now.validity c.args.values.now.values.offsets) [] c.loop-row.spans.items c.append_word_named.new.taken.items (rows_by (map g.I.NativeType.slot) c.args.indices.now) row (64 * (row / 64)) count here more c.loop-row.invariant.spans

pub append_word_named-requires-clause-holds : goal.append_word_named-requires-clause-holds
append_word_named-requires-clause-holds g c =
    rows_fit g.K.ByteKind.slot c.args.values.now.validity _ c.args.values.now.values.offsets _ c.args.values.now.values.bytes c.validity-validity.ensures.same c.offsets-rows.ensures c.validity-validity.ensures.fits

pub overflow_sub-end : goal.overflow_sub-end
overflow_sub-end g c =
    let v = c.args.values.now.validity in
    let os = c.args.values.now.values.offsets in
    let rows = rows_by (map g.I.NativeType.slot) c.args.indices.now in
    let row = c.loop-row.row in
    let k = c.loop-first.first-index in
    let span = read_behind (taken_span v os) rows c.deref.result.now row (row + c.min-count.result) k (0, 0) (spans g (goal.at.overflow_sub-end g c).After-deref) c.loop-first-test.true in
    let names : NamesBytes os (replicate (last_of os) 0) rows = record { sound = subst IsOffsets c.offsets-rows.ensures c.len.ensures.sound; within = omega (arith, length-replicate {A = ℕ} (last_of os) 0); keys = c.requires } in
    (subst (IsSpanWithin (length (replicate (last_of os) 0))) (sym span.1) (span_within names v (get_or rows (row + k) Null) (c.requires (row + k) Null span.0))).0

pub returns-in_err-try_push_usize-clause-overflow : goal.returns-in_err-try_push_usize-clause-overflow
returns-in_err-try_push_usize-clause-overflow g c overflows =
    let v = c.args.values.now.validity in
    let os = c.args.values.now.values.offsets in
    let rows = rows_by (map g.I.NativeType.slot) c.args.indices.now in
    let row = c.loop-row.row in
    let k = c.loop-first.first-index in
    let span = read_behind (taken_span v os) rows c.deref.result.now row (row + c.min-count.result) k (0, 0) (spans g (goal.at.returns-in_err-try_push_usize-clause-overflow g c).After-deref) c.loop-first-test.true in
    let over = c.in_err-try_push_usize.ensures.overflow.0 (ap Err (passed_on c.from_residual-in_err-try_push_usize.result _ _ c.from_residual-in_err-try_push_usize.ensures.1 overflows)) in
    passes_all (span_length v os) rows (row + k) _ g.O.Index.greatest c.loop-first.offsets span.0 (ap (λ s. s.1 - s.0) span.1) c.loop-first.invariant over

pub loop-first-preserved : goal.loop-first-preserved
loop-first-preserved g c =
    let v = c.args.values.now.validity in
    let os = c.args.values.now.values.offsets in
    let rows = rows_by (map g.I.NativeType.slot) c.args.indices.now in
    let row = c.loop-row.row in
    let k = c.loop-first.first-index in
    let span = read_behind (taken_span v os) rows c.deref.result.now row (row + c.min-count.result) k (0, 0) (spans g (goal.at.loop-first-preserved g c).After-deref) c.loop-first-test.true in
    let next : row + k + 1 ≡ row + (k + 1) = omega arith in
    offsets_next (span_length v os) rows (row + k) _ c.loop-first.offsets _ span.0 (ap (λ s. s.1 - s.0) span.1) c.loop-first.invariant c.in_ok-try_push_usize.ensures.ok ∙ ap (λ n. 0 ∷ ends_from 0 (map (span_length v os) (take n rows))) next

pub loop-row-preserved : goal.loop-row-preserved
loop-row-preserved g c =
    let v = c.args.values.now.validity in
    let os = c.args.values.now.values.offsets in
    let rows = rows_by (map g.I.NativeType.slot) c.args.indices.now in
    let row = c.loop-row.row in
    let count = c.min-count.result in
    let read = spans g (goal.at.loop-row-preserved g c).After-deref in
    let stored = ap length (c.as_slice-stored.ensures ∙ c.values.ensures) in
    let many = length-masked c.args.indices.now.validity (map g.I.NativeType.slot c.args.indices.now.values) c.validity-nulls.ensures.fits ∙ length-map c.args.indices.now.values g.I.NativeType.slot in
    let all : length c.deref.result.now ≡ row + count = omega (arith, ap length read, length-map (take (row + count) rows) (taken_span v os), length-take (row + count) rows, many, stored, c.min-count.ensures, c.loop-row.invariant.within) in
    let end : row + c.loop-first.first-index ≡ row + count = omega (arith, c.loop-first-test.false, c.loop-first.auto.first-index-end, length-take (length c.deref.result.now - row) (drop row c.deref.result.now), length-drop row c.deref.result.now, all) in
    record {
      within = omega (arith, c.min-count.ensures, c.loop-row.invariant.within);
      aligned = λ left. omega (arith, c.min-count.ensures, c.loop-row.invariant.aligned c.loop-row-test.true, left);
      spans = sym c.deref.ensures.value ∙ read;
      len = omega (arith, c.append_word_named.ensures.len, c.loop-row.invariant.len);
      capacity = c.append_word_named.ensures.capacity ∙ c.loop-row.invariant.capacity;
      offsets = c.loop-first.invariant ∙ ap (λ n. 0 ∷ ends_from 0 (map (span_length v os) (take n rows))) end;
    }
