use Rattle.arrow_take.proofs.Common.{arith, ◌≡◌, ◌<◌, ◌&&◌, ◌∙◌, ℕ, Some, ap, get_or, length, map, rules, option_copied, int_eq, length-map, valid_at, rows_by, with_bits, taken_id, have_id}
use Rattle.arrow_take.proofs.IndexLemmas.{indices_valid}
use Rattle.arrow_take.proofs.TakenVariants.{answered_bit, own_bits}
use Rattle.arrow_take.proofs.take.union.own_indices.Goals as goal

pub returns-clause-ok : goal.returns-clause-ok
returns-clause-ok g c =
    let slot = g.I.NativeType.slot in
    let p = c.args.values.now in
    let indices = c.args.indices.now in
    let rows = rows_by (map slot) indices in
    let own = c.in_ok-own.own in
    let many : length c.args.types.now ≡ length rows = ap length c.requires.types ∙ length-map rows (taken_id p) in
    let is : c.with_validity.result ≡ with_bits indices (Some own) = search rules in
    let valid = option_copied c.validity-validity.result in
    let types = c.args.types.now in
    let each = λ (i : ℕ) (inside : i < length rows). answered_bit _ (length types) own c.in_ok-own.ensures.ok (λ row. valid_at valid row && int_eq c.args.id (get_or types row c.args.id)) (λ row bit within answered. search rules) i (omega (arith, inside, many)) in
    let marks = own_bits p c.args.id rows valid types own c.requires.inside c.validity-validity.ensures.marks c.requires.types (c.in_ok-own.ensures.ok.count ∙ many) each in
    ap (rows_by (map slot)) is ∙ indices_valid (Some (have_id c.args.id p.types)) indices.validity (Some own) (map slot indices.values) c.validity-validity.ensures.fits marks
