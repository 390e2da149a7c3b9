use Rattle.arrow_logic.proofs.Common.{◌≡◌, ◌∙◌, ap, arith, length, map, pos, refl, subst, sym, length-map, bytes_of, masked, Number, Text, row_bytes, FitsRows, rows_by, kept, stored_length}
use Rattle.arrow_logic.proofs.KeptLemmas.{length-kept, rows-kept, stored-kept}
use Rattle.arrow_logic.proofs.LengthLemmas.{slots_of_numbers}
use Rattle.arrow_logic.proofs.length.lengths_of.Goals as goal

pub new-requires-clause-length : goal.new-requires-clause-length
new-requires-clause-length g c =
    let number = g.O.NativeOrd.number in
    let v = c.args.texts.now.validity in
    let rows = row_bytes c.args.texts.now.values in
    let all = kept 0 length v rows in
    let numbers = ap (map number) c.in_ok-lengths-2.ensures.ok ∙ c.in_ok-lengths.ensures.ok in
    let shared = c.in_ok-validity.ensures.ok ∙ c.validity.ensures.same in
    let fits = subst (FitsRows v) (length-map rows Text) c.validity.ensures.fits in
    let many : length c.in_ok-lengths-2.lengths ≡ length rows = omega (arith, ap length numbers, length-map c.in_ok-lengths-2.lengths number, length-map all pos, length-kept 0 length v rows fits) in
    subst (λ w. FitsRows w (length c.in_ok-lengths-2.lengths)) (sym shared) (subst (FitsRows v) (sym many) fits)

pub returns-clause-rows : goal.returns-clause-rows
returns-clause-rows g c =
    let slot = g.O.NativeType.slot in
    let number = g.O.NativeOrd.number in
    let v = c.args.texts.now.validity in
    let rows = row_bytes c.args.texts.now.values in
    let numbers = ap (map number) c.in_ok-lengths-2.ensures.ok ∙ c.in_ok-lengths.ensures.ok in
    let shared = c.in_ok-validity.ensures.ok ∙ c.validity.ensures.same in
    let stored = slots_of_numbers slot number g.met.O.NativeOrd.slot_is_number c.in_ok-lengths-2.lengths (kept 0 length v rows) numbers in
    ap (rows_by (map slot)) c.new.ensures ∙ ((λ t. masked (shared t) (stored t)) ∙ rows-kept 0 length (λ n. Number (pos n)) Text bytes_of (λ bytes. refl) refl v rows)

pub returns-clause-stored : goal.returns-clause-stored
returns-clause-stored g c =
    let slot = g.O.NativeType.slot in
    let number = g.O.NativeOrd.number in
    let v = c.args.texts.now.validity in
    let rows = row_bytes c.args.texts.now.values in
    let numbers = ap (map number) c.in_ok-lengths-2.ensures.ok ∙ c.in_ok-lengths.ensures.ok in
    let stored = slots_of_numbers slot number g.met.O.NativeOrd.slot_is_number c.in_ok-lengths-2.lengths (kept 0 length v rows) numbers in
    ap (λ p. map slot p.values) c.new.ensures ∙ (stored ∙ stored-kept 0 length (λ n. Number (pos n)) Text stored_length (λ bytes. refl) refl v rows)
