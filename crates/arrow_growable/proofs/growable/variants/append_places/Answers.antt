use Rattle.arrow_growable.proofs.Common.{arith, ◌+◌, ◌++◌, [], ◌∷◌, pos, w32, map, ap, sym, ◌∙◌, range_with_len, to_z_pos, map-range_with_len_more, append_assoc}
use Rattle.arrow_growable.proofs.growable.variants.append_places.Goals as goal

pub loop-i-preserved : goal.loop-i-preserved
loop-i-preserved c =
    let old = c.reserve.new.self.items in
    let same = to_z_pos w32 (c.args.place + c.loop-i.i) (omega (arith, c.if-place-count.false, c.loop-i-test.true)) in
    let done = map pos (range_with_len c.args.place c.loop-i.i) in
    c.in_ok-push.ensures.items ∙ ((λ j. c.loop-i.offsets.items ++ same j ∷ []) ∙ (ap (λ zs. zs ++ pos (c.args.place + c.loop-i.i) ∷ []) c.loop-i.invariant ∙ (append_assoc old done (pos (c.args.place + c.loop-i.i) ∷ []) ∙ ap (λ zs. old ++ zs) (sym (map-range_with_len_more pos c.args.place c.loop-i.i (c.args.place + c.loop-i.i) (omega arith))))))
