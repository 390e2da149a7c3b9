use Rattle.arrow_flat_growable.proofs.Common.{◌≡◌, ◌∙◌, Some, ap, arith, length, rules, subst, sym, masked, FitsRows, rows_by, with_bits, length-masked}
use Rattle.std.specs.Prelude.{option_copied}
use Rattle.arrow_flat_growable.proofs.MaskLemmas.{bits_under, rows_under}
use Rattle.arrow_flat_growable.proofs.under.under.Goals as goal

pub both_valid-requires : goal.both_valid-requires
both_valid-requires g c =
    let bits : length c.in-Some.bits.now ≡ length (rows_by g.V.Values.slots c.args.array.now) = subst (λ v. FitsRows (option_copied v) (length (rows_by g.V.Values.slots c.args.array.now))) c.in-Some.is c.requires in
    let count : length (g.V.Values.slots c.args.array.now.values) ≡ length c.in-Some.bits.now = omega (arith, bits, c.len.ensures.rows, c.len.ensures.values) in
    subst (λ v. FitsRows v (length c.in-Some.bits.now)) (sym c.validity.ensures.same) (subst (FitsRows c.args.array.now.validity) count c.validity.ensures.fits)

pub with_validity-requires : goal.with_validity-requires
with_validity-requires g c =
    let p = c.args.array.now in
    let bits : length c.in-Some.bits.now ≡ length (rows_by g.V.Values.slots p) = subst (λ v. FitsRows (option_copied v) (length (rows_by g.V.Values.slots p))) c.in-Some.is c.requires in
    let count : length (g.V.Values.slots p.values) ≡ length c.in-Some.bits.now = omega (arith, bits, c.len.ensures.rows, c.len.ensures.values) in
    let copied : c.in_ok-clone-in-Some.field-0 ≡ p = search rules in
    let own = subst (λ v. FitsRows v (length c.in-Some.bits.now)) (sym c.validity.ensures.same) (subst (FitsRows p.validity) count c.validity.ensures.fits) in
    ap length c.in_ok-both-in-Some.ensures.ok ∙ (bits_under (option_copied c.validity.result) c.in-Some.bits.now own ∙ (sym count ∙ ap (λ q. length (g.V.Values.slots q.values)) (sym copied)))

pub returns-in_ok-clone-in-Some-clause-rows : goal.returns-in_ok-clone-in-Some-clause-rows
returns-in_ok-clone-in-Some-clause-rows g c =
    let p = c.args.array.now in
    let copied : c.in_ok-clone-in-Some.field-0 ≡ p = search rules in
    let is = c.with_validity.ensures ∙ ap (λ q. with_bits q (Some c.in_ok-both-in-Some.both)) copied in
    let rows = ap (rows_by g.V.Values.slots) is ∙ (ap (λ bits. masked (Some bits) (g.V.Values.slots p.values)) c.in_ok-both-in-Some.ensures.ok ∙ (rows_under (option_copied c.validity.result) c.in-Some.bits.now (g.V.Values.slots p.values) ∙ ap (λ v. masked (Some c.in-Some.bits.now) (masked v (g.V.Values.slots p.values))) c.validity.ensures.same)) in
    rows ∙ ap (λ v. masked (option_copied v) (rows_by g.V.Values.slots p)) (sym c.in-Some.is)

pub returns-in_ok-clone-in-Some-clause-count : goal.returns-in_ok-clone-in-Some-clause-count
returns-in_ok-clone-in-Some-clause-count g c =
    let p = c.args.array.now in
    ap length (returns-in_ok-clone-in-Some-clause-rows g c) ∙ length-masked (option_copied c.args.validity) (rows_by g.V.Values.slots p) c.requires
