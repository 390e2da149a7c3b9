use Rattle.arrow_select.proofs.Common.{◌≡◌, ◌<◌, ◌≤◌, ◌^◌, ◌∙◌, None, arith, ap, length, rules, subst, sym, IfSome, option_map, Fits, masked, select, type_of, length-select, last_of, any_array_rows, offsets_of, list_items, rows, type_of_layout, list_rows, IsListType, greatest_in, lists_are, KeptUnder, at_set}
use Rattle.arrow_select.proofs.ItemLemmas.{ends_long, items_end, lists_kept, lists_kept_fit, mask_long}
use Rattle.arrow_select.proofs.filter.list.list_of.Goals as goal

pub kept_under-requires-clause-lengths : goal.kept_under-requires-clause-lengths
kept_under-requires-clause-lengths c =
    let p = c.args.array.now in
    ap length c.requires.own ∙ (mask_long p.offsets c.offsets.ensures.sound c.args.mask.now (length (rows p.child)) c.requires.lengths c.offsets.ensures.within ∙ ap (λ k. length (rows k)) (sym c.values-items.ensures.same))

pub new-requires-2 : goal.new-requires-2
new-requires-2 c =
    let p = c.args.array.now in
    let mask = c.args.mask.now in
    let ends = offsets_of c.args.ends in
    let items = c.in-Some.items in
    let kept = subst (λ o. IfSome o (KeptUnder c.args.own.now None c.values-items.result.now)) c.in-Some.is c.in_ok-items.ensures.ok in
    let are = kept.rows ∙ (λ i. select (c.requires.own i) (rows (c.values-items.ensures.same i))) in
    let is = c.in_ok-validity.ensures.ok ∙ ap (option_map (at_set mask)) c.validity.ensures.same in
    let same : type_of c.in_ok-data_type.data_type ≡ p.arrow_type = search rules in
    let boxed : c.in_ok-new.field-0.value ≡ items = search rules in
    let typed = kept.array_type ∙ (ap type_of_layout c.values-items.ensures.same ∙ c.values-items.ensures.items) in
    let long = ends_long p c.offsets.ensures.sound c.offsets.ensures.within mask c.requires.lengths ends (any_array_rows items) c.requires.ends are c.in_ok-validity.validity is c.validity.ensures.fits in
    let end = items_end p c.offsets.ensures.sound c.offsets.ensures.within mask c.requires.lengths ends (any_array_rows items) c.requires.ends are c.in_ok-validity.validity is in
    let within : last_of ends ≤ length (any_array_rows items) = omega (arith, end) in
    (rw same (c.data_type.ensures.carried, c.requires.width), rw (same, boxed) typed, long, rw boxed within)

pub returns-clause-ok : goal.returns-clause-ok
returns-clause-ok c =
    let p = c.args.array.now in
    let mask = c.args.mask.now in
    let ends = offsets_of c.args.ends in
    let items = c.in-Some.items in
    let kept = subst (λ o. IfSome o (KeptUnder c.args.own.now None c.values-items.result.now)) c.in-Some.is c.in_ok-items.ensures.ok in
    let are = kept.rows ∙ (λ i. select (c.requires.own i) (rows (c.values-items.ensures.same i))) in
    let is = c.in_ok-validity.ensures.ok ∙ ap (option_map (at_set mask)) c.validity.ensures.same in
    let same : type_of c.in_ok-data_type.data_type ≡ p.arrow_type = search rules in
    let boxed : c.in_ok-new.field-0.value ≡ items = search rules in
    let typed = kept.array_type ∙ (ap type_of_layout c.values-items.ensures.same ∙ c.values-items.ensures.items) in
    let lists = subst IsListType (sym c.requires.width) (lists_are c.args.ends) in
    let few = subst (λ k. last_of ends ≤ greatest_in k) (sym c.requires.width) c.requires.few in
    let many : length mask < 2 ^ 64 = omega (arith, c.len.ensures, c.len.type_inv) in
    let one : length mask ≡ length (list_rows p) = omega (arith, c.len-2.ensures.rows, c.len-2.ensures.offsets, c.requires.lengths) in
    let counted : length (select mask (list_rows p)) < 2 ^ 64 = omega (arith, length-select mask (list_rows p) one, c.requires.count, c.ranges.count.fits) in
    record {
      array_type = ap (λ q. q.arrow_type) c.new-2.ensures ∙ same;
      rows = ap list_rows c.new-2.ensures ∙ (ap (λ x. masked c.in_ok-validity.validity (list_items ends (any_array_rows x))) boxed ∙ lists_kept p c.offsets.ensures.sound c.offsets.ensures.within mask c.requires.lengths ends (any_array_rows items) c.requires.ends are c.in_ok-validity.validity is);
      fits = lists_kept_fit p c.offsets.ensures.sound c.offsets.ensures.within mask c.requires.lengths ends (any_array_rows items) c.requires.ends are c.in_ok-validity.validity is lists many counted few (subst (λ u. Fits u (any_array_rows items)) typed kept.fits);
    }
