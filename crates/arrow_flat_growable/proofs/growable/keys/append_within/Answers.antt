use Rattle.arrow_flat_growable.proofs.Common.{arith, ◌≡◌, ◌+◌, ◌≤◌, ◌∙◌, true, false, [], get_or, length, map, replicate, ap, sym, length-map, bits_of_slice, rows_by, length-masked}
use Rattle.arrow_flat_growable.proofs.ResultLemmas.{on_ok}
use Rattle.arrow_flat_growable.proofs.StoredKeyLemmas.{appends_nulls, appends_stored, source_long, source_stores}
use Rattle.arrow_flat_growable.proofs.growable.keys.append_within.Goals as goal

pub append_part-requires-clause-part : goal.append_part-requires-clause-part
append_part-requires-clause-part g c =
    omega (arith, c.requires.part, source_long g.K.NativeType.slot c.args.keys.now.0 c.args.index (rows_by (map g.K.NativeType.slot) c.args.others.now) c.requires.bound)

pub returns-in-Some-true-clause-ok : goal.returns-in-Some-true-clause-ok
returns-in-Some-true-clause-ok g c =
    let slot = g.K.NativeType.slot in
    let p = c.args.others.now in
    let start = c.args.start in
    let len = c.args.len in
    let set : bits_of_slice p.validity start len ≡ replicate len true = ap (λ v. bits_of_slice v start len) (sym c.validity.ensures.same) ∙ (c.in-Some-true.ensures ∙ ap (replicate len) c.in-Some-true.field-0-test) in
    let within : start + len ≤ length p.values = omega (arith, c.requires.part, length-masked p.validity (map slot p.values) c.validity.ensures.fits, length-map p.values slot) in
    let stored = source_stores slot c.args.keys.now.0 c.args.index (rows_by (map slot) p) c.requires.bound in
    on_ok c.append_part.result c.append_part.ensures.ok (λ is. appends_stored slot g.K.NativeOrd.number g.met.K.NativeOrd.slot_is_number c.args.count c.args.by p.validity p.values (get_or c.args.keys.now.0 c.args.index []) c.args.keys.now.1 c.append_part.new.self.1 start len (omega (arith, c.if-by-gt0.false)) c.requires.within stored within set is)

pub returns-in-Some-false-clause-ok : goal.returns-in-Some-false-clause-ok
returns-in-Some-false-clause-ok g c =
    let slot = g.K.NativeType.slot in
    let p = c.args.others.now in
    let start = c.args.start in
    let len = c.args.len in
    let unset : bits_of_slice p.validity start len ≡ replicate len false = ap (λ v. bits_of_slice v start len) (sym c.validity.ensures.same) ∙ (c.in-Some-false.ensures ∙ ap (replicate len) c.in-Some-false.field-0-test) in
    let within : start + len ≤ length (map slot p.values) = omega (arith, c.requires.part, length-masked p.validity (map slot p.values) c.validity.ensures.fits) in
    on_ok c.append_zeros.result c.append_zeros.ensures.ok (λ is. appends_nulls c.args.by p.validity (map slot p.values) (map slot c.args.keys.now.1) (map slot c.append_zeros.new.keys.1) start len within unset is)
