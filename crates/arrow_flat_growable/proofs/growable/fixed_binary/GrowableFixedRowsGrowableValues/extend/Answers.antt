use Rattle.arrow_flat_growable.proofs.Common.{◌≡◌, ◌∙◌, ◌+◌, ◌*◌, ◌≤◌, length, sym, arith, length-sliced, AreFixedRows, fixed_slots}
use Rattle.arrow_flat_growable.proofs.FixedRowsLemmas.{bytes_within, part_behind, part_counts, fixed_rows_fit, both_counted}
use Rattle.arrow_flat_growable.proofs.growable.fixed_binary.GrowableFixedRowsGrowableValues.extend.Goals as goal

pub returns-in_err-count-clause-overflow : goal.returns-in_err-count-clause-overflow
returns-in_err-count-clause-overflow c =
    λ t kind is fits.
    let one : c.size-size.result ≡ c.args.self.now.size = c.size-size.ensures.same ∙ (c.data_type.ensures.kind.1 ∙ sym c.requires.kind.1) in
    let both = both_counted t c.args.self.now _ c.self.inside.count c.args.len c.size-size.result (λ i. (c.self.view_is i).count) (length-sliced (fixed_slots c.args.array.now.values) c.args.start c.args.len c.requires.within) (one ∙ kind.1) fits in
    c.in_err-count.ensures.overflow both.0 both.1

within : (c : goal.After-append_part-arg-1) → c.args.start * c.size-size.result + c.args.len * c.size-size.result ≤ length c.as_slice-bytes.result.now
within c =
    bytes_within c.args.array.now.values c.args.start c.args.len c.size-size.result c.as_slice-bytes.result.now c.size-size.ensures.same c.values.ensures.whole c.requires.within (c.as_slice-bytes.ensures ∙ c.values.ensures.same)

pub overflow_mul-start : goal.overflow_mul-start
overflow_mul-start c = omega (arith, within c, c.as_slice-bytes.type_inv.0)

pub append_part-requires : goal.append_part-requires
append_part-requires c = within c

pub invariant_of-self : goal.invariant_of-self
invariant_of-self c = rw c.in_err-append_part.ensures.unchanged c.self.invariant

-- the rows with those behind them
counts : (c : goal.After-self-1) → AreFixedRows (record { size = c.self.inside.size; count = c.in_ok-count.count; bytes = c.append_part.new.values.items })
counts c =
    let one : c.self.inside.size ≡ c.size-size.result = (λ i. (c.self.view_is i).size) ∙ (c.requires.kind.1 ∙ (sym c.data_type.ensures.kind.1 ∙ sym c.size-size.ensures.same)) in
    let part = bytes_within c.args.array.now.values c.args.start c.args.len c.size-size.result c.as_slice-bytes.result.now c.size-size.ensures.same c.values.ensures.whole c.requires.within (c.as_slice-bytes.ensures ∙ c.values.ensures.same) in
    part_counts c.self.inside.size c.self.inside.count c.args.start c.args.len c.in_ok-count.count c.size-size.result c.self.inside.bytes.items c.append_part.new.values.items c.as_slice-bytes.result.now c.self.invariant one part c.in_ok-count.ensures.rows c.in_ok-append_part.ensures.ok c.in_ok-append_part.ensures.counted

pub invariant_of-self-2 : goal.invariant_of-self-2
invariant_of-self-2 c = counts c

pub returns-clause-ok : goal.returns-clause-ok
returns-clause-ok c =
    part_behind c.self.inside.size c.self.inside.count c.args.start c.args.len c.in_ok-count.count c.size-size.result c.self.inside.bytes.items c.append_part.new.values.items c.as_slice-bytes.result.now c.args.self.now c.args.array.now.values c.self.view_is c.self.invariant.whole (c.requires.kind.1 ∙ sym c.data_type.ensures.kind.1) c.size-size.ensures.same c.requires.within c.in_ok-count.ensures.rows (c.as_slice-bytes.ensures ∙ c.values.ensures.same) c.in_ok-append_part.ensures.ok

pub returns-clause-fits : goal.returns-clause-fits
returns-clause-fits c =
    λ t kind. fixed_rows_fit _ t (counts c) kind.0 ((λ i. (c.self.view_is i).size) ∙ kind.1)
