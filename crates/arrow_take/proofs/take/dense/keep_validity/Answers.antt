use Rattle.arrow_take.proofs.Common.{◌≡◌, ◌+◌, ◌<◌, ◌++◌, ◌∷◌, [], ◌∙◌, Bool, true, false, arith, ap, get_or, length, of_z, subst, sym, take, to_z, w8, option_copied, int_eq, append-nil, get_or-map, get_or_default, length-append, length-map, get_or_from_slice_get, FitsRows, kept, have_id}
use Rattle.arrow_take.proofs.KeptLemmas.{kept-more, one_kept}
use Rattle.arrow_take.proofs.take.dense.keep_validity.Goals as goal
use Rattle.arrow_take.proofs.take.dense.keep_validity.Goals.{then-has_id+in_ok-push, else-has_id}

-- the bits that are kept, and whether one more is
next_is : (c : goal.Joined-has_id) (b bit : Bool) → c.has_id.result ≡ b → get_or c.in-Some.bits.now c.loop-row.row bit ≡ bit → kept (take (c.loop-row.row + 1) (have_id (to_z w8 (of_z w8 c.args.id)) c.args.types.now)) (take (c.loop-row.row + 1) c.in-Some.bits.now) ≡ c.loop-row.own ++ one_kept b bit
next_is c b bit told read =
    let types = c.args.types.now in
    let id = to_z w8 (of_z w8 c.args.id) in
    let i = c.loop-row.row in
    let bits : length c.in-Some.bits.now ≡ length types = subst (λ o. FitsRows (option_copied o) (length types)) c.in-Some.is c.requires.fits in
    kept-more (have_id id types) c.in-Some.bits.now i b bit (omega (arith, c.loop-row-test.true, length-map types (int_eq id))) (omega (arith, c.loop-row-test.true, bits)) (get_or-map (int_eq id) types i id b c.loop-row-test.true ∙ (sym c.has_id.ensures ∙ told)) read ∙ ap (λ ys. ys ++ one_kept b bit) (sym c.loop-row.invariant.items)

pub loop-row-preserved : goal.loop-row-preserved
loop-row-preserved c =
    elim c.if-has_id.branch [
      | then-has_id+in_ok-push w ↦
          let bit = w.get_bit.result in
          let next = next_is c true bit w.if-has_id.true (get_or_from_slice_get c.in-Some.bits.now c.loop-row.row bit bit w.get_bit.ensures) in
          let is = w.own-is ∙ w.in_ok-push.ensures.ok in
          record { items = is ∙ sym next; count = omega (arith, ap length is, length-append c.loop-row.own (bit ∷ []), c.loop-row.invariant.count) }
      | else-has_id w ↦
          let bit = get_or c.in-Some.bits.now c.loop-row.row false in
          let long : length c.in-Some.bits.now ≡ length c.args.types.now = subst (λ o. FitsRows (option_copied o) (length c.args.types.now)) c.in-Some.is c.requires.fits in
          let inside : c.loop-row.row < length c.in-Some.bits.now = omega (arith, c.loop-row-test.true, long) in
          let next = next_is c false bit w.if-has_id.false (get_or_default c.in-Some.bits.now c.loop-row.row bit false inside) in
          record { items = w.own-is ∙ (sym (append-nil c.loop-row.own) ∙ sym next); count = omega (arith, ap length w.own-is, c.loop-row.invariant.count) }
    ]
