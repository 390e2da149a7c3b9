use Rattle.uses.proofs.Common.{Bor, FitsSigned, IsRowOf, List, Null, Number, [], all_zipped_more, arith, common_steps, get_or, length-map, map, map_more, map_push, mask-append, rules, to_z-of_z, w32, if◌then◌else◌, ℕ, ◌∷◌}
use Rattle.uses.proofs.TextLemmas.{row_read}
use Rattle.uses.proofs.csv.numbers.Goals as goal

pub loop-text-preserved : goal.loop-text-preserved
loop-text-preserved c =
    let none : Bor (List ℕ) = record { ref_ptr = (0, 0); now = [] } in
    let text = get_or c.args.texts.now c.loop-text.text-index none in
    let values = c.loop-text.values.items in
    let bits = c.loop-text.are_numbers.items in
    let bit = c.is_ok.result in
    let n = c.unwrap_or.result in
    let fits : FitsSigned w32 n = search rules in
    let next = map_more (λ (text : Bor (List ℕ)). text.now) c.args.texts.now c.loop-text.text-index none c.loop-text-test.true in
    let more_values = rw (to_z-of_z w32 n fits) at c.in_ok-push-2.ensures.items in
    let masked = mask-append bits (bit ∷ []) (map Number values) (Number n ∷ []) (omega (arith, c.loop-text.invariant.long, length-map values Number)) in
    let row : IsRowOf text.now (if bit then Number n else Null) = rw (c.is_ok.ensures.value, c.unwrap_or.ensures) (row_read text.now c.parse-number.result c.parse-number.ensures.value.0) in
    record {
      long = grind (arith, common_steps);
      rows = rw (next, c.in_ok-push.ensures.items, more_values, map_push Number values n, masked) (all_zipped_more IsRowOf _ _ text.now _ c.loop-text.invariant.rows row);
    }
