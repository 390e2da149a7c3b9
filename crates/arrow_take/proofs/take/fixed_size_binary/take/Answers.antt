use Rattle.arrow_take.proofs.Common.{◌≡◌, ◌∙◌, ◌<◌, ◌^◌, Err, ap, arith, length, map, rules, subst, sym, concat, type_of, fixed_size_in, fixed_slots, rows_by, MarksTaken, taken_row}
use Rattle.arrow_take.proofs.AnswerLemmas.{passes_on}
use Rattle.arrow_take.proofs.TakenRows.{bytes_are_rows, fits_product, fixed_rows_fit, fixed_rows_taken, keys_of_fixed}
use Rattle.arrow_take.proofs.take.fixed_size_binary.take.Goals as goal

pub take_rows-requires : goal.take_rows-requires
take_rows-requires g c =
    record { inside = keys_of_fixed c.args.values.now (rows_by (map g.I.NativeType.slot) c.args.indices.now) c.validity.ensures.fits c.requires.inside }

pub returns-in_err-taken : goal.returns-in_err-taken
returns-in_err-taken g c =
    let p = c.args.values.now in
    let indices = rows_by (map g.I.NativeType.slot) c.args.indices.now in
    let kind = c.data_type.ensures.kind in
    record { answer = passes_on _ _ _ _ _ _ c.from_residual-in_err-taken.ensures.1 (λ same fits. c.in_err-taken.ensures.overflow (ap Err same) (fits_product p.arrow_type p.values.size kind.1 (rows_by fixed_slots p) indices fits)) c.in_err-taken.ensures.others }

pub new-requires-clause-bytes : goal.new-requires-clause-bytes
new-requires-clause-bytes g c =
    let p = c.args.values.now in
    let indices = rows_by (map g.I.NativeType.slot) c.args.indices.now in
    let keys = keys_of_fixed p indices c.validity.ensures.fits c.requires.inside in
    let same : type_of c.in_ok-data_type.data_type ≡ p.arrow_type = search rules in
    let marks = subst (λ v. MarksTaken v indices c.in_ok-validity.validity) c.validity.ensures.same c.in_ok-validity.ensures.ok in
    let are : c.in_ok-taken-2.taken ≡ concat (map (taken_row p.values.size p.values.bytes) indices) = c.in_ok-taken-2.ensures.ok ∙ c.in_ok-taken.ensures.ok in
    let fits = bytes_are_rows p.values (subst (λ n. 0 < n) c.size.ensures.same c.size.ensures.some) c.values.ensures.whole indices keys c.in_ok-taken-2.taken are (fixed_size_in p.arrow_type) c.data_type.ensures.kind.1 p.validity c.in_ok-validity.validity marks in
    rw same fits

pub returns : goal.returns
returns g c =
    let p = c.args.values.now in
    let indices = rows_by (map g.I.NativeType.slot) c.args.indices.now in
    let keys = keys_of_fixed p indices c.validity.ensures.fits c.requires.inside in
    let same : type_of c.in_ok-data_type.data_type ≡ p.arrow_type = search rules in
    let marks = subst (λ v. MarksTaken v indices c.in_ok-validity.validity) c.validity.ensures.same c.in_ok-validity.ensures.ok in
    let are : c.in_ok-taken-2.taken ≡ concat (map (taken_row p.values.size p.values.bytes) indices) = c.in_ok-taken-2.ensures.ok ∙ c.in_ok-taken.ensures.ok in
    let some = subst (λ n. 0 < n) c.size.ensures.same c.size.ensures.some in
    let kind = c.data_type.ensures.kind in
    let size = kind.1 ∙ ap fixed_size_in (sym same) in
    let rows = ap (rows_by fixed_slots) c.new.ensures ∙ fixed_rows_taken p.values some c.values.ensures.whole indices keys c.in_ok-taken-2.taken are _ size p.arrow_type kind.0 p.validity c.in_ok-validity.validity c.validity.ensures.fits marks in
    let short : length c.in_ok-taken-2.taken < 2 ^ 64 = search rules in
    let fits = fixed_rows_fit p.values some c.values.ensures.whole indices keys c.in_ok-taken-2.taken are p.arrow_type kind.0 kind.1 (rows_by fixed_slots p) (omega (arith, c.len.ensures.rows)) short in
    record { answer = record { ok = record { array_type = ap (λ q. q.arrow_type) c.new.ensures ∙ same; rows = rows; fits = fits }; overflow = λ is. cc; others = tt } }
