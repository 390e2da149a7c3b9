use Rattle.arrow_growable.proofs.Common.{arith, ◌≡◌, ◌∙◌, ◌++◌, Bor, false, get_or, length, map, ap, sym, subst, get_or_default, IsCarried, physical_type_of, mask, type_of, values_in, any_array_rows, layout_of, AreKeys, keyed_layout, type_of_layout, BindsAll, first_type, BindsKeys, grown_key_type, key_slots, key_sources, first_is, IsGrownDictionary, All}
use Rattle.arrow_types.specs.declared.datatypes.physical_type.PhysicalType.TheVariants as physical
use Rattle.arrow_growable.proofs.MakeLemmas.{type_at}
use Rattle.arrow_growable.proofs.growable.dictionary.GrowableDictionary.over.Goals as goal

pub new-requires : goal.new-requires
new-requires c k d within =
    let arrays = c.args.arrays.now in
    let item = get_or arrays k d in
    let first = first_is (λ (r : Bor _). keyed_layout r.now) arrays c.index-arrays-0.result c.requires.some c.index-arrays-0.is in
    let same = type_at (λ (r : Bor _). keyed_layout r.now) arrays item k within (get_or_default arrays k d item within) c.requires.one_type in
    ap physical_type_of (same ∙ first) ∙ c.keys.ensures.width

pub invariant_of-result : goal.invariant_of-result
invariant_of-result c =
    let arrays = c.args.arrays.now in
    let layouts = map (λ (r : Bor _). keyed_layout r.now) arrays in
    let t = type_of c.in_ok-clone.field-0 in
    let values = c.args.values in
    let items : c.extend_from_slice.new.self.items ≡ arrays = c.in_ok-extend_from_slice.ensures.items ∙ ap (λ xs. xs ++ arrays) c.in_ok-bound.ensures.items in
    let same : t ≡ c.index-arrays-0.result.now.arrow_type = c.in_ok-clone.ensures.cases ∙ c.data_type.ensures.same in
    let first : t ≡ first_type layouts = same ∙ sym (first_is (λ (r : Bor _). keyed_layout r.now) arrays c.index-arrays-0.result c.requires.some c.index-arrays-0.is) in
    let held : IsGrownDictionary (grown_key_type c.in_ok-keys.keys) c.in_ok-starts.starts.items (layout_of values) c.in_ok-validity.validity (key_slots c.in_ok-keys.keys) 0 layouts t false = record {
      kind = (subst IsCarried (sym same) c.data_type.ensures.carried, ap physical_type_of same ∙ (c.keys.ensures.width ∙ ap physical.Dictionary (sym c.in_ok-keys.ensures.same)));
      one_type = subst (λ u. All (λ l. type_of_layout l ≡ u) layouts) (sym first) c.requires.one_type;
      child = c.requires.child ∙ ap values_in (sym first);
      joined = c.requires.joined;
      begun = c.in_ok-starts.ensures.ok;
      holds = λ well. record {
        covered = ap length c.in_ok-validity.ensures.ok;
        counted = ap length c.in_ok-keys.ensures.ok;
        within = subst (λ bits. AreKeys (length (any_array_rows values)) (mask bits (key_slots c.in_ok-keys.keys))) (sym c.in_ok-validity.ensures.ok) (λ k d below. absurd (omega (arith, below)));
      };
    } in
    (subst (λ bound. IsGrownDictionary (grown_key_type c.in_ok-keys.keys) c.in_ok-starts.starts.items (layout_of values) c.in_ok-validity.validity (key_slots c.in_ok-keys.keys) 0 (map (λ (r : Bor _). keyed_layout r.now) bound) t false) (sym items) held, subst (BindsAll (BindsKeys (key_sources c.in_ok-keys.keys))) (sym items) c.in_ok-keys.ensures.bound)
