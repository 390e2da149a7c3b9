use Rattle.arrow_flat_growable.proofs.Common.{◌≡◌, ◌∙◌, ◌*◌, ◌++◌, length, replicate, arith, rules, vec_len, length-replicate, Bytes}
use Rattle.arrow_flat_growable.proofs.FixedRowsLemmas.{zeros_behind, zeros_count, fixed_rows_fit, both_counted}
use Rattle.arrow_flat_growable.proofs.StoreLemmas.{grown_to}
use Rattle.arrow_flat_growable.proofs.growable.fixed_binary.GrowableFixedRowsGrowableValues.extend_nulls.Goals as goal

pub returns-in_err-count-clause-overflow : goal.returns-in_err-count-clause-overflow
returns-in_err-count-clause-overflow c =
    λ t kind is fits.
    let both = both_counted t c.args.self.now _ c.self.inside.count c.args.additional c.self.inside.size (λ i. (c.self.view_is i).count) (length-replicate c.args.additional (Bytes (replicate c.args.self.now.size 0))) ((λ i. (c.self.view_is i).size) ∙ kind.1) fits in
    c.in_err-count.ensures.overflow both.0 both.1

grown : (c : goal.After-self-1) → c.resize.new.self.items ≡ c.self.inside.bytes.items ++ replicate (c.args.additional * c.self.inside.size) 0
grown c =
    let long : length c.self.inside.bytes.items ≡ vec_len c.self.inside.bytes = search rules in
    grown_to c.self.inside.bytes.items c.resize.new.self.items 0 c.in_ok-count.bytes (vec_len c.self.inside.bytes) (c.args.additional * c.self.inside.size) c.in_ok-resize.ensures.items long (omega (arith, c.in_ok-count.ensures.bytes, c.self.invariant.whole, long))

pub returns-clause-ok : goal.returns-clause-ok
returns-clause-ok c =
    zeros_behind c.self.inside.size c.self.inside.count c.args.additional c.in_ok-count.count c.self.inside.bytes.items c.resize.new.self.items c.args.self.now c.self.view_is c.self.invariant.whole c.in_ok-count.ensures.rows (grown c)

pub returns-clause-fits : goal.returns-clause-fits
returns-clause-fits c =
    λ t kind.
    let held = zeros_count c.self.inside.size c.self.inside.count c.args.additional c.in_ok-count.count c.self.inside.bytes.items c.resize.new.self.items c.self.invariant c.in_ok-count.ensures.rows (grown c) (omega (arith, c.in_ok-count.ensures.bytes, c.in_ok-count.ensures.counted)) in
    fixed_rows_fit _ t held kind.0 ((λ i. (c.self.view_is i).size) ∙ kind.1)
