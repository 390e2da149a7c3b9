use Rattle.arrow_growable.proofs.Common.{arith, ◌≡◌, ◌+◌, Bor, Err, Some, false, inl, inr, length, map, ap, sym, subst, ◌∙◌, rules, length-map, option_copied, vec_len, greatest_number, IsCarriedAs, type_of, sliced, length-sliced, any_array_rows, key_rows, keyed_layout, keyed_rows, rows, shape_of, CannotHold, NamesRows, source_at, BindsAll, BindsKeys, key_slots, too_many, passed_on, AreUncrowded, HoldsKeys, dictionary_rows}
use Rattle.arrow_types.specs.declared.datatypes.physical_type.PhysicalType.TheVariants as physical
use Rattle.arrow_growable.proofs.DictionaryLemmas.{Names, counted_fit, fits_uncrowded, greatest_named, holds_named, marks_cover, names_from, passes_crowded, rows_counted, rows_long, rows_named, same_keys, source}
use Rattle.arrow_growable.proofs.growable.dictionary.GrowableDictionaryGrowable.extend.Goals as goal

pub index-array-requires : goal.index-array-requires
index-array-requires c =
    let there = subst (λ h. NamesRows h c.args.index c.args.start c.args.len) (sym c.self.view_is) c.requires in
    let long : length c.self.inside.arrays.items ≡ vec_len c.self.inside.arrays = search rules in
    omega (arith, there.0, long, length-map c.self.inside.arrays.items (λ (r : Bor _). keyed_layout r.now))

pub extend_from-requires : goal.extend_from-requires
extend_from-requires c =
    let there = subst (λ h. NamesRows h c.args.index c.args.start c.args.len) (sym c.self.view_is) c.requires in
    let at = source (λ (r : Bor _). r.now) c.self.inside.arrays.items c.index-array.result.now _ _ _ _ _ _ _ _ c.args.index c.self.invariant.0 there.0 c.index-array.ensures in
    marks_cover c.validity.result (keyed_rows c.index-array.result.now.now) (c.args.start + c.args.len) c.validity.ensures.marks (omega (arith, there.1, ap (λ l. length (rows l)) at))

pub index-requires : goal.index-requires
index-requires c =
    let there = subst (λ h. NamesRows h c.args.index c.args.start c.args.len) (sym c.self.view_is) c.requires in
    let long : length c.self.inside.starts.items ≡ vec_len c.self.inside.starts = search rules in
    omega (arith, there.0, long, c.self.invariant.0.begun.count)

pub extend_within-requires-clause-same : goal.extend_within-requires-clause-same
extend_within-requires-clause-same c =
    let there = subst (λ h. NamesRows h c.args.index c.args.start c.args.len) (sym c.self.view_is) c.requires in
    same_keys (λ (r : Bor _). r.now) c.self.inside.arrays.items c.index-array.result.now _ _ _ _ _ _ _ _ c.args.index c.self.invariant.0 there.0 c.index-array.ensures _ c.keys-keys.ensures.width

pub returns-in_default-clause-overflow : goal.returns-in_default-clause-overflow
returns-in_default-clause-overflow c overflows =
    let there = subst (λ h. NamesRows h c.args.index c.args.start c.args.len) (sym c.self.view_is) c.requires in
    let before = dictionary_rows (any_array_rows c.self.inside.values) c.self.inside.validity (key_slots c.self.inside.keys) in
    let layouts = map (λ (r : Bor _). keyed_layout r.now) c.self.inside.arrays.items in
    let named = sliced (rows (source_at layouts c.args.index)) c.args.start c.args.len in
    subst (λ h. CannotHold h c.args.index c.args.start c.args.len) c.self.view_is (inl (λ fits. too_many (type_of c.self.inside.data_type) before named c.self.inside.len c.args.len fits (rows_counted _ _ _ _ _ (c.self.invariant.0.holds c.if-self.false)) (length-sliced _ c.args.start c.args.len there.1) (omega (arith, c.in_default.ensures))))

pub returns-in_err-extend_within-clause-overflow : goal.returns-in_err-extend_within-clause-overflow
returns-in_err-extend_within-clause-overflow c overflows =
    let there = subst (λ h. NamesRows h c.args.index c.args.start c.args.len) (sym c.self.view_is) c.requires in
    let arrays = c.self.inside.arrays.items in
    let inv = c.self.invariant.0 in
    let names = names_from (λ (r : Bor _). r.now) arrays c.index-array.result.now _ _ _ _ _ _ _ _ c.args.index inv there.0 c.index-array.ensures c.index.result.now (key_rows c.keys-keys.result.now) c.index.ensures c.keys-keys.ensures.within c.keys-keys.ensures.same in
    let greatest = greatest_named (λ (r : Bor _). r.now) arrays c.index-array.result.now _ _ _ _ _ _ _ _ c.args.index inv there.0 c.index-array.ensures in
    let same = same_keys (λ (r : Bor _). r.now) arrays c.index-array.result.now _ _ _ _ _ _ _ _ c.args.index inv there.0 c.index-array.ensures _ c.keys-keys.ensures.width in
    let some = c.in_err-extend_within.ensures.overflow (ap Err (passed_on c.from_residual-in_err-extend_within.result _ _ c.from_residual-in_err-extend_within.ensures.1 overflows)) in
    subst (λ h. CannotHold h c.args.index c.args.start c.args.len) c.self.view_is (inr (passes_crowded _ _ c.args.index _ _ _ names _ (greatest ∙ ap greatest_number same) c.args.start c.args.len (omega (arith, there.1, rows_long _ _ c.args.index _ _ _ names)) some))

named : (c : goal.After-self-3-1) → Names (map (λ (r : Bor _). keyed_layout r.now) c.self.inside.arrays.items) (any_array_rows c.self.inside.values) c.args.index c.index.result.now c.index-array.result.now.now (key_rows c.keys-keys.result.now)
named c =
    let there = subst (λ h. NamesRows h c.args.index c.args.start c.args.len) (sym c.self.view_is) c.requires in
    names_from (λ (r : Bor _). r.now) c.self.inside.arrays.items c.index-array.result.now _ _ _ _ _ _ _ _ c.args.index c.self.invariant.0 there.0 c.index-array.ensures c.index.result.now (key_rows c.keys-keys.result.now) c.index.ensures c.keys-keys.ensures.within c.keys-keys.ensures.same

held : (c : goal.After-self-3-1) → HoldsKeys c.extend_from.new.self (key_slots c.extend_within.new.self) c.in-Some.total (length (any_array_rows c.self.inside.values))
held c =
    let there = subst (λ h. NamesRows h c.args.index c.args.start c.args.len) (sym c.self.view_is) c.requires in
    let was = c.self.invariant.0.holds c.if-self.false in
    let holds = holds_named _ _ c.args.index _ _ _ (named c) (option_copied c.validity.result) c.self.inside.validity (key_slots c.self.inside.keys) c.args.start c.args.len (was.covered ∙ sym was.counted) c.validity.ensures.marks there.1 c.self.inside.len c.in-Some.total (omega (arith, c.in-Some.ensures)) was in
    rw (c.in_ok-extend_from.ensures.ok, c.in_ok-extend_within.ensures.ok) holds

pub invariant_of-self-2 : goal.invariant_of-self-2
invariant_of-self-2 c =
    let inv = c.self.invariant.0 in
    (record { kind = subst (λ k. IsCarriedAs (physical.Dictionary k) (type_of c.self.inside.data_type)) (sym c.in_ok-extend_within.ensures.same) inv.kind; one_type = inv.one_type; child = inv.child; joined = inv.joined; begun = inv.begun; holds = λ well. held c }, subst (λ sources. BindsAll (BindsKeys sources) c.self.inside.arrays.items) (sym c.in_ok-extend_within.ensures.bound) c.self.invariant.1)

pub returns-clause-ok : goal.returns-clause-ok
returns-clause-ok c =
    let there = subst (λ h. NamesRows h c.args.index c.args.start c.args.len) (sym c.self.view_is) c.requires in
    let layouts = map (λ (r : Bor _). keyed_layout r.now) c.self.inside.arrays.items in
    let values = any_array_rows c.self.inside.values in
    let was = c.self.invariant.0.holds c.if-self.false in
    let grown = (λ i. dictionary_rows values (c.in_ok-extend_from.ensures.ok i) (c.in_ok-extend_within.ensures.ok i)) ∙ rows_named _ _ c.args.index _ _ _ (named c) (option_copied c.validity.result) c.self.inside.validity (key_slots c.self.inside.keys) c.args.start c.args.len (was.covered ∙ sym was.counted) c.validity.ensures.marks there.1 in
    let many = length-sliced (rows (source_at layouts c.args.index)) c.args.start c.args.len there.1 in
    let count : c.in-Some.total ≡ c.self.inside.len + length (sliced (rows (source_at layouts c.args.index)) c.args.start c.args.len) = omega (arith, c.in-Some.ensures, many) in
    rw (← c.self.view_is) (λ i. record { arrow_type = type_of c.self.inside.data_type; sources = Some layouts; rows = grown i; count = count i; failed = false })

pub returns-clause-fits : goal.returns-clause-fits
returns-clause-fits c =
    let many = rows_counted (any_array_rows c.self.inside.values) _ _ _ _ (held c) in
    counted_fit (type_of c.self.inside.data_type) _ (ap shape_of c.self.invariant.0.kind.1) (omega (arith, many, c.in-Some.ensures))

pub returns-clause-keys : goal.returns-clause-keys
returns-clause-keys c =
    let there = subst (λ h. NamesRows h c.args.index c.args.start c.args.len) (sym c.self.view_is) c.requires in
    let arrays = c.self.inside.arrays.items in
    let greatest = greatest_named (λ (r : Bor _). r.now) arrays c.index-array.result.now _ _ _ _ _ _ _ _ c.args.index c.self.invariant.0 there.0 c.index-array.ensures in
    let same = same_keys (λ (r : Bor _). r.now) arrays c.index-array.result.now _ _ _ _ _ _ _ _ c.args.index c.self.invariant.0 there.0 c.index-array.ensures _ c.keys-keys.ensures.width in
    subst (λ h. AreUncrowded h.sources c.args.index c.args.start c.args.len) c.self.view_is (fits_uncrowded _ _ c.args.index _ _ _ (named c) _ (greatest ∙ ap greatest_number same) c.args.start c.args.len (omega (arith, there.1, rows_long _ _ c.args.index _ _ _ (named c))) c.in_ok-extend_within.ensures.fits)
