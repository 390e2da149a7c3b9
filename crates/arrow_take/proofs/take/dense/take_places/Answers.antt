use Rattle.arrow_take.proofs.Common.{◌≡◌, ◌<◌, ◌∙◌, ◌∷◌, [], ℕ, ℤ, Some, arith, ap, get_or, length, map, pos, subst, sym, IfSome, option_map, get_or-map, length-append, length-map, map-append, masked, Null, Number, rows_by, key_in, ArePlaces, IsPlace}
use Rattle.arrow_take.proofs.TakenPlaces.{are_places, dense_by, of_dense, place_next}
use Rattle.arrow_take.proofs.take.dense.take_places.Goals as goal

pub place_of-requires-clause-named : goal.place_of-requires-clause-named
place_of-requires-clause-named g c =
    of_dense c.args.values.now.child_rows _ (λ none. cc (c.in-Some.ensures.same ∙ ap (option_map (map pos)) none)) c.requires.named

pub loop-row-preserved : goal.loop-row-preserved
loop-row-preserved g c =
    let slot = g.I.NativeType.slot in
    let p = c.args.values.now in
    let rows = rows_by (map slot) c.args.indices.now in
    let i = c.loop-row.row in
    let lent = c.as_slice-stored.ensures ∙ c.values.ensures in
    let place : c.index_at.result ≡ key_in (get_or rows i Null) = c.index_at.ensures ∙ (λ j. key_in (get_or (masked (c.validity-validity.ensures.same j) (map slot (lent j))) i Null)) in
    let here : IfSome (key_in (get_or rows i Null)) (λ n. IsPlace p (Some n) (slot c.place_of.result)) = subst (λ o. IfSome o (λ n. IsPlace p (Some n) (slot c.place_of.result))) place c.place_of.ensures in
    let items = c.push_reserved.ensures.items in
    record {
      each = λ k within. subst (λ ys. IfSome (key_in (get_or rows k Null)) (λ n. IsPlace p (Some n) (get_or ys k Null))) (sym (ap (map slot) items ∙ map-append slot c.loop-row.places.items (c.place_of.result ∷ []))) (place_next p rows (map slot c.loop-row.places.items) (slot c.place_of.result) i (length-map c.loop-row.places.items slot ∙ c.loop-row.invariant.count) c.loop-row.invariant.each here k within);
      count = omega (arith, ap length items, length-append c.loop-row.places.items (c.place_of.result ∷ []), c.loop-row.invariant.count);
      len = omega (arith, c.push_reserved.ensures.len, c.loop-row.invariant.len);
      capacity = omega (arith, c.push_reserved.ensures.capacity, c.loop-row.invariant.capacity);
    }

pub returns-clause-ok : goal.returns-clause-ok
returns-clause-ok g c =
    let slot = g.I.NativeType.slot in
    let p = c.args.values.now in
    let v = c.args.indices.now.validity in
    let values = c.args.indices.now.values in
    let rows = rows_by (map slot) c.args.indices.now in
    let lent = c.as_slice-stored.ensures ∙ c.values.ensures in
    let many : length values ≡ c.loop-row.row = omega (arith, c.loop-row-test.false, c.loop-row.auto.row-end, ap length lent) in
    let counted = length-map values slot in
    let same : length (map slot c.loop-row.places.items) ≡ length (map slot values) = length-map c.loop-row.places.items slot ∙ (c.loop-row.invariant.count ∙ (sym many ∙ sym counted)) in
    let numbers : (i : ℕ) → i < length (map slot values) → (z : ℤ) × (get_or (map slot values) i Null ≡ Number z) = λ i within. (let x = get_or values i g.I.NativeType.zero in (g.I.NativeOrd.number x, get_or-map slot values i g.I.NativeType.zero Null (omega (arith, within, counted)) ∙ g.met.I.NativeOrd.slot_is_number x)) in
    let are = are_places p (c.offsets.ensures.mode ∙ dense_by p.child_rows (λ none. cc (c.in-Some.ensures.same ∙ ap (option_map (map pos)) none))) (length p.types) v (map slot values) (map slot c.loop-row.places.items) same c.validity-validity.ensures.fits c.requires.inside numbers (λ i within. c.loop-row.invariant.each i (omega (arith, within, counted, many))) in
    subst (λ ys. ArePlaces p rows (Some ys)) (sym c.in_ok-with_values.ensures.ok) are
