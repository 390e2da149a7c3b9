use Rattle.arrow_take.proofs.Common.{◌≡◌, ◌+◌, ◌*◌, ◌<◌, ◌∙◌, ◌++◌, arith, ap, drop, get_or, length, map, replicate, sym, take, concat, length-map, masked, Null, rows_by, length-masked, key_in, fixed_row, taken_row}
use Rattle.arrow_take.proofs.TakenRows.{has_room, has_zeros, place_inside, row_written, rows_of_all, rows_of_none}
use Rattle.arrow_take.proofs.take.fixed_size_binary.copy_rows.Goals as goal

pub loop-row-init : goal.loop-row-init
loop-row-init g c =
    let rows = rows_by (map g.I.NativeType.slot) c.args.indices.now in
    rows_of_none c.args.values.now.values.size c.args.values.now.values.bytes rows c.args.taken.now (c.requires.zeros ∙ ap (λ n. replicate (length rows * n) 0) c.requires.size)

pub copy_row-requires : goal.copy_row-requires
copy_row-requires g c =
    let slot = g.I.NativeType.slot in
    let rows = rows_by (map slot) c.args.indices.now in
    let p = c.args.values.now.values in
    let lent = c.as_slice-stored.ensures ∙ c.values-2.ensures in
    let long = length-masked c.args.indices.now.validity (map slot c.args.indices.now.values) c.validity-validity.ensures.fits ∙ (length-map c.args.indices.now.values slot ∙ sym (ap length lent)) in
    let some : 0 < p.size = omega (arith, c.requires.some, c.requires.size) in
    let within : c.loop-row.row < length rows = omega (arith, long, c.loop-row-test.true) in
    let place : c.index_at.result ≡ key_in (get_or rows c.loop-row.row Null) = c.index_at.ensures ∙ (λ i. key_in (get_or (masked (c.validity-validity.ensures.same i) (map slot (lent i))) c.loop-row.row Null)) in
    let bytes = c.as_slice-bytes.ensures ∙ c.values.ensures.same in
    let key = c.requires.inside c.loop-row.row Null within in
    let inside = place_inside p some c.values.ensures.whole (get_or rows c.loop-row.row Null) key in
    let room = has_room p some c.values.ensures.whole rows c.requires.inside c.loop-row.row within c.loop-row.taken c.loop-row.invariant in
    let zeros = has_zeros p some c.values.ensures.whole rows c.requires.inside c.loop-row.row within c.loop-row.taken c.loop-row.invariant in
    rw c.requires.size (record { room = room; within = rw (place, bytes) inside; zeros = zeros })

pub loop-row-preserved : goal.loop-row-preserved
loop-row-preserved g c =
    let slot = g.I.NativeType.slot in
    let rows = rows_by (map slot) c.args.indices.now in
    let p = c.args.values.now.values in
    let lent = c.as_slice-stored.ensures ∙ c.values-2.ensures in
    let long = length-masked c.args.indices.now.validity (map slot c.args.indices.now.values) c.validity-validity.ensures.fits ∙ (length-map c.args.indices.now.values slot ∙ sym (ap length lent)) in
    let some : 0 < p.size = omega (arith, c.requires.some, c.requires.size) in
    let within : c.loop-row.row < length rows = omega (arith, long, c.loop-row-test.true) in
    let place : c.index_at.result ≡ key_in (get_or rows c.loop-row.row Null) = c.index_at.ensures ∙ (λ i. key_in (get_or (masked (c.validity-validity.ensures.same i) (map slot (lent i))) c.loop-row.row Null)) in
    let bytes = c.as_slice-bytes.ensures ∙ c.values.ensures.same in
    let named : fixed_row p.size p.bytes c.index_at.result ≡ taken_row p.size p.bytes (get_or rows c.loop-row.row Null) = ap (fixed_row p.size p.bytes) place in
    let written : c.copy_row.new.taken ≡ take (c.loop-row.row * p.size) c.loop-row.taken ++ (fixed_row p.size p.bytes c.index_at.result ++ drop (c.loop-row.row * p.size + p.size) c.loop-row.taken) = c.copy_row.ensures ∙ (λ i. take (c.loop-row.row * c.requires.size i) c.loop-row.taken ++ (fixed_row (c.requires.size i) (bytes i) c.index_at.result ++ drop (c.loop-row.row * c.requires.size i + c.requires.size i) c.loop-row.taken)) in
    row_written p some c.values.ensures.whole rows c.requires.inside c.loop-row.row within c.loop-row.taken c.loop-row.invariant _ _ named written

pub returns : goal.returns
returns g c =
    let slot = g.I.NativeType.slot in
    let rows = rows_by (map slot) c.args.indices.now in
    let p = c.args.values.now.values in
    let lent = c.as_slice-stored.ensures ∙ c.values-2.ensures in
    let long = length-masked c.args.indices.now.validity (map slot c.args.indices.now.values) c.validity-validity.ensures.fits ∙ (length-map c.args.indices.now.values slot ∙ sym (ap length lent)) in
    rows_of_all p.size p.bytes rows c.loop-row.row c.loop-row.taken (omega (arith, long, c.loop-row-test.false)) c.loop-row.invariant ∙ ap (λ n. concat (map (taken_row n p.bytes) rows)) (sym c.requires.size)
