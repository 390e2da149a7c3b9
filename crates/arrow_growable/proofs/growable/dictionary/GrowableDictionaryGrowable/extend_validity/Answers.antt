use Rattle.arrow_growable.proofs.Common.{arith, ◌≡◌, ◌+◌, ◌++◌, Bor, Some, false, length, map, replicate, ap, sym, subst, ◌∙◌, length-replicate, Null, null_slot, type_of, IsCarriedAs, any_array_rows, keyed_layout, dictionary_shape, null_slot-shape, shape_of, FitsWith, null_rows_of, BindsAll, BindsKeys, key_slots, too_many, HoldsKeys, dictionary_rows}
use Rattle.arrow_types.specs.declared.datatypes.physical_type.PhysicalType.TheVariants as physical
use Rattle.arrow_growable.proofs.DictionaryLemmas.{counted_fit, holds_nulls, nulls_behind, rows_counted}
use Rattle.arrow_growable.proofs.growable.dictionary.GrowableDictionaryGrowable.extend_validity.Goals as goal

pub returns-in_default-clause-overflow : goal.returns-in_default-clause-overflow
returns-in_default-clause-overflow c overflows =
    let before = dictionary_rows (any_array_rows c.self.inside.values) c.self.inside.validity (key_slots c.self.inside.keys) in
    let t = type_of c.self.inside.data_type in
    subst (λ h. FitsWith h (null_rows_of h c.args.additional) → ⊥) c.self.view_is (λ fits. too_many t before (replicate c.args.additional (null_slot t)) c.self.inside.len c.args.additional fits (rows_counted _ _ _ _ _ (c.self.invariant.0.holds c.if-self.false)) (length-replicate c.args.additional (null_slot t)) (omega (arith, c.in_default.ensures)))

held : (c : goal.After-self-3-1) → HoldsKeys c.extend_nulls.new.self (key_slots c.extend_nulls-2.new.self) c.in-Some.total (length (any_array_rows c.self.inside.values))
held c =
    let holds = holds_nulls c.self.inside.validity (key_slots c.self.inside.keys) c.self.inside.len c.in-Some.total c.args.additional _ (omega (arith, c.in-Some.ensures)) (c.self.invariant.0.holds c.if-self.false) in
    rw (c.in_ok-extend_nulls.ensures.ok, c.in_ok-extend_nulls-2.ensures.ok) holds

pub invariant_of-self-2 : goal.invariant_of-self-2
invariant_of-self-2 c =
    let inv = c.self.invariant.0 in
    (record { kind = subst (λ k. IsCarriedAs (physical.Dictionary k) (type_of c.self.inside.data_type)) (sym c.in_ok-extend_nulls-2.ensures.same) inv.kind; one_type = inv.one_type; child = inv.child; joined = inv.joined; begun = inv.begun; holds = λ well. held c }, subst (λ sources. BindsAll (BindsKeys sources) c.self.inside.arrays.items) (sym c.in_ok-extend_nulls-2.ensures.bound) c.self.invariant.1)

pub returns-clause-ok : goal.returns-clause-ok
returns-clause-ok c =
    let t = type_of c.self.inside.data_type in
    let values = any_array_rows c.self.inside.values in
    let was = c.self.invariant.0.holds c.if-self.false in
    let slot : null_slot t ≡ Null = null_slot-shape t dictionary_shape (ap shape_of c.self.invariant.0.kind.1) (λ same. cc) in
    let before = dictionary_rows values c.self.inside.validity (key_slots c.self.inside.keys) in
    let grown = (λ i. dictionary_rows values (c.in_ok-extend_nulls.ensures.ok i) (c.in_ok-extend_nulls-2.ensures.ok i)) ∙ (nulls_behind values c.self.inside.validity (key_slots c.self.inside.keys) c.args.additional (was.covered ∙ sym was.counted) ∙ ap (λ s. before ++ replicate c.args.additional s) (sym slot)) in
    let count : c.in-Some.total ≡ c.self.inside.len + length (replicate c.args.additional (null_slot t)) = omega (arith, c.in-Some.ensures, length-replicate c.args.additional (null_slot t)) in
    rw (← c.self.view_is) (λ i. record { arrow_type = t; sources = Some (map (λ (r : Bor _). keyed_layout r.now) c.self.inside.arrays.items); rows = grown i; count = count i; failed = false })

pub returns-clause-fits : goal.returns-clause-fits
returns-clause-fits c =
    let many = rows_counted (any_array_rows c.self.inside.values) _ _ _ _ (held c) in
    counted_fit (type_of c.self.inside.data_type) _ (ap shape_of c.self.invariant.0.kind.1) (omega (arith, many, c.in-Some.ensures))
