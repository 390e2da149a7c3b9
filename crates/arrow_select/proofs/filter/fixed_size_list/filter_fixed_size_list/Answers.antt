use Rattle.arrow_select.proofs.Common.{◌≡◌, ◌*◌, ◌/◌, ◌<◌, ◌^◌, ◌∙◌, arith, ap, length, replicate, rules, subst, sym, IfSome, option_copied, option_map, mul-div_cancel, Fits, physical_type_of, masked, select, Null, null_slot, type_of, length-select, FitsRows, any_array_rows, FitsItems, fixed_list_rows, fixed_items, rows, type_of_layout, list_size, type_of_fixed_size_lists, KeptUnder, at_set, kept_rows_under, mask_in, flat_map}
use Rattle.arrow_select.proofs.FixedItemLemmas.{HasLists, each_fits, each_long, fixed_few, fixed_fit, fixed_holds, fixed_kept}
use Rattle.arrow_select.proofs.filter.fixed_size_list.filter_fixed_size_list.Goals.{After-count_set}
use Rattle.arrow_select.proofs.filter.fixed_size_list.filter_fixed_size_list.Goals as goal

-- the mask has a bit for each of the lists
lists : (c : After-count_set) → HasLists c.args.array.now c.in-Mask.mask.now
lists c =
    let p = c.args.array.now in
    let rows_are = ap (λ s. length (mask_in s)) (sym c.in-Mask.is) ∙ c.requires.lengths in
    let whole : length (rows p.child) ≡ length c.in-Mask.mask.now * p.size = sym (ap (λ n. n * p.size) rows_are ∙ c.values-items.ensures.whole) in
    let fits = subst (FitsRows p.validity) (ap (λ k. k / p.size) whole ∙ mul-div_cancel (length c.in-Mask.mask.now) c.size-size.ensures.some) c.validity.ensures.fits in
    record { some = c.size-size.ensures.some; whole = whole; fits = fits }

-- and the validity of the items is made of theirs
bits : (c : After-count_set) → option_copied c.as_ref.result ≡ option_map (flat_map (replicate c.args.array.now.size)) c.args.array.now.validity
bits c =
    let valid : option_copied c.as_ref.result ≡ c.in_ok-valid.valid = search rules in
    valid ∙ (c.in_ok-valid.ensures.ok ∙ (λ i. option_map (flat_map (replicate (c.size-size.ensures.same i))) (c.validity.ensures.same i)))

pub each-requires : goal.each-requires
each-requires c =
    let p = c.args.array.now in
    let rows_are = ap (λ s. length (mask_in s)) (sym c.in-Mask.is) ∙ c.requires.lengths in
    let whole : length (rows p.child) ≡ length c.in-Mask.mask.now * p.size = sym (ap (λ n. n * p.size) rows_are ∙ c.values-items.ensures.whole) in
    omega (arith, whole, ap (λ s. length c.in-Mask.mask.now * s) c.size-size.ensures.same, c.len.ensures, c.len.type_inv, ap (λ k. length (rows k)) c.values-items.ensures.same)

pub kept_under-requires-clause-lengths : goal.kept_under-requires-clause-lengths
kept_under-requires-clause-lengths c =
    ap length c.in_ok-own.ensures.ok ∙ (each_long c.size-size.result c.in-Mask.mask.now ∙ (ap (λ s. length c.in-Mask.mask.now * s) c.size-size.ensures.same ∙ (sym (lists c).whole ∙ ap (λ k. length (rows k)) (sym c.values-items.ensures.same))))

pub kept_under-requires-clause-fits : goal.kept_under-requires-clause-fits
kept_under-requires-clause-fits c =
    let p = c.args.array.now in
    let count = sym (lists c).whole ∙ ap (λ k. length (rows k)) (sym c.values-items.ensures.same) in
    subst (λ v. FitsRows v (length (any_array_rows c.values-items.result.now))) (sym (bits c)) (each_fits p.size (length c.in-Mask.mask.now) (length (any_array_rows c.values-items.result.now)) p.validity (lists c).fits count)

pub new-requires-2 : goal.new-requires-2
new-requires-2 c =
    let p = c.args.array.now in
    let items = c.in-Some.items in
    let has = lists (goal.at.new-requires-2 c).After-count_set in
    let own = c.in_ok-own.ensures.ok ∙ ap (λ s. flat_map (replicate s) c.in-Mask.mask.now) c.size-size.ensures.same in
    let kept = subst (λ o. IfSome o (KeptUnder c.in_ok-own.own (option_copied c.as_ref.result) c.values-items.result.now)) c.in-Some.is c.in_ok-items.ensures.ok in
    let are = kept.rows ∙ (λ i. kept_rows_under (own i) (bits (goal.at.new-requires-2 c).After-count_set i) (rows (c.values-items.ensures.same i))) in
    let is = c.in_ok-validity.ensures.ok ∙ (λ i. option_map (at_set (mask_in (c.in-Mask.is i))) (c.validity-2.ensures.same i)) in
    let same : type_of c.in_ok-data_type.data_type ≡ p.arrow_type = search rules in
    let boxed : c.in_ok-new.field-0.value ≡ items = search rules in
    let typed = kept.array_type ∙ (ap type_of_layout c.values-items.ensures.same ∙ c.values-items.ensures.items) in
    let few : length (any_array_rows items) < 2 ^ 64 = omega (arith, fixed_few has (any_array_rows items) are, c.len.ensures, c.len.type_inv, ap (λ k. length (rows k)) c.values-items.ensures.same) in
    let sized = subst (λ s. FitsItems s (length (any_array_rows items)) c.in_ok-validity.validity) c.size-size.ensures.in_type (subst (FitsItems p.size (length (any_array_rows items))) (sym is) (fixed_holds has (any_array_rows items) are)) in
    (rw same (c.data_type.ensures.carried, type_of_fixed_size_lists (physical_type_of p.arrow_type) c.data_type.ensures.kind), rw (same, boxed) typed, rw (same, boxed) sized, rw boxed few)

pub returns-clause-ok : goal.returns-clause-ok
returns-clause-ok c =
    let p = c.args.array.now in
    let items = c.in-Some.items in
    let has = lists (goal.at.returns-clause-ok c).After-count_set in
    let own = c.in_ok-own.ensures.ok ∙ ap (λ s. flat_map (replicate s) c.in-Mask.mask.now) c.size-size.ensures.same in
    let kept = subst (λ o. IfSome o (KeptUnder c.in_ok-own.own (option_copied c.as_ref.result) c.values-items.result.now)) c.in-Some.is c.in_ok-items.ensures.ok in
    let are = kept.rows ∙ (λ i. kept_rows_under (own i) (bits (goal.at.returns-clause-ok c).After-count_set i) (rows (c.values-items.ensures.same i))) in
    let is = c.in_ok-validity.ensures.ok ∙ (λ i. option_map (at_set (mask_in (c.in-Mask.is i))) (c.validity-2.ensures.same i)) in
    let same : type_of c.in_ok-data_type.data_type ≡ p.arrow_type = search rules in
    let boxed : c.in_ok-new.field-0.value ≡ items = search rules in
    let inner = ap type_of_layout c.values-items.ensures.same ∙ c.values-items.ensures.items in
    let few : length (any_array_rows items) < 2 ^ 64 = omega (arith, fixed_few has (any_array_rows items) are, c.len.ensures, c.len.type_inv, ap (λ k. length (rows k)) c.values-items.ensures.same) in
    let size : list_size (type_of c.in_ok-data_type.data_type) ≡ p.size = ap list_size same ∙ sym c.size-size.ensures.in_type in
    let long : length (select (mask_in c.args.selection) (fixed_list_rows p)) < 2 ^ 64 = omega (arith, length-select (mask_in c.args.selection) (fixed_list_rows p) c.requires.lengths, c.requires.count, c.ranges.count.fits) in
    let counted = subst (λ s. length (select (mask_in s) (fixed_list_rows p)) < 2 ^ 64) c.in-Mask.is long in
    let fit = fixed_fit has (any_array_rows items) are (type_of_fixed_size_lists (physical_type_of p.arrow_type) c.data_type.ensures.kind) (sym c.size-size.ensures.in_type) (subst (λ u. null_slot u ≡ Null) inner kept.null) few counted (subst (λ u. Fits u (any_array_rows items)) (kept.array_type ∙ inner) kept.fits) in
    record {
      array_type = ap (λ q. q.arrow_type) c.new-2.ensures ∙ same;
      rows = ap fixed_list_rows c.new-2.ensures ∙ ((λ i. masked (is i) (fixed_items (size i) (any_array_rows (boxed i)))) ∙ (fixed_kept has (any_array_rows items) are ∙ ap (λ s. select (mask_in s) (fixed_list_rows p)) (sym c.in-Mask.is)));
      fits = subst (λ s. Fits p.arrow_type (select (mask_in s) (fixed_list_rows p))) (sym c.in-Mask.is) fit;
    }
