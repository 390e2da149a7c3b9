use Rattle.arrow_select.proofs.Common.{◌≡◌, ◌<◌, ◌^◌, ◌∙◌, None, arith, ap, length, map, rules, subst, sym, IfSome, Fits, gather, select, type_of, length-select, layout_of, field_types, FitsMode, union_rows, true_places, at_set, mask_in, HaveParts, taken_id, arrays_fit, arrays_known, arrays_long, arrays_rows, arrays_typed, as_long}
use Rattle.arrow_select.proofs.KeptFields.{ids_kept, made_is, names_rows}
use Rattle.arrow_take.proofs.TakenVariants.{all_named, long as rows_counted}
use Rattle.arrow_select.proofs.filter.union.filter_sparse.Goals as goal

pub new-requires : goal.new-requires
new-requires c =
    let p = c.args.array.now in
    let t = p.arrow_type in
    let mask = mask_in c.args.selection in
    let sparse = c.requires.sparse in
    let keys = names_rows p sparse mask c.requires.lengths in
    let made = gather (union_rows p) (true_places mask) t in
    let is = made_is p sparse mask c.requires.lengths in
    let arrays = c.in-Some.fields.items in
    let count = subst (λ o. IfSome o (λ fields. length fields.items ≡ length (field_types t))) c.in-Some.is c.in_ok-fields.ensures.count in
    let parts = subst (λ xs. HaveParts t xs arrays) (sym is) (subst (λ o. IfSome o (λ fields. HaveParts t (select mask (union_rows p)) fields.items)) c.in-Some.is c.in_ok-fields.ensures.parts) in
    let ids = c.in_ok-types-2.types in
    let stored : c.as_slice-types.result.now ≡ p.types = search rules in
    let types : ids ≡ map (taken_id p) (true_places mask) = c.in_ok-types-2.ensures.ok ∙ (c.in_ok-types.ensures.values ∙ (ap (at_set mask) stored ∙ ids_kept p sparse mask c.requires.lengths)) in
    let long = as_long p sparse (true_places mask) keys ids types in
    let named = all_named p sparse (true_places mask) keys ids types in
    let same : type_of c.in_ok-data_type.data_type ≡ t = search rules in
    let typed = arrays_typed t sparse.kind sparse.mode made ids long named arrays count parts in
    let have = subst (λ mode. FitsMode mode ids None (map layout_of arrays)) (sym sparse.mode) (arrays_long t sparse.kind sparse.mode made ids long named arrays count parts) in
    let known = arrays_known t sparse.kind sparse.mode made ids long named arrays count parts in
    (rw same sparse.kind, rw same typed, rw same have, tt, rw same known)

pub returns-clause-ok : goal.returns-clause-ok
returns-clause-ok c =
    let p = c.args.array.now in
    let t = p.arrow_type in
    let mask = mask_in c.args.selection in
    let sparse = c.requires.sparse in
    let keys = names_rows p sparse mask c.requires.lengths in
    let made = gather (union_rows p) (true_places mask) t in
    let is = made_is p sparse mask c.requires.lengths in
    let arrays = c.in-Some.fields.items in
    let count = subst (λ o. IfSome o (λ fields. length fields.items ≡ length (field_types t))) c.in-Some.is c.in_ok-fields.ensures.count in
    let parts = subst (λ xs. HaveParts t xs arrays) (sym is) (subst (λ o. IfSome o (λ fields. HaveParts t (select mask (union_rows p)) fields.items)) c.in-Some.is c.in_ok-fields.ensures.parts) in
    let ids = c.in_ok-types-2.types in
    let stored : c.as_slice-types.result.now ≡ p.types = search rules in
    let types : ids ≡ map (taken_id p) (true_places mask) = c.in_ok-types-2.ensures.ok ∙ (c.in_ok-types.ensures.values ∙ (ap (at_set mask) stored ∙ ids_kept p sparse mask c.requires.lengths)) in
    let long = as_long p sparse (true_places mask) keys ids types in
    let named = all_named p sparse (true_places mask) keys ids types in
    let same : type_of c.in_ok-data_type.data_type ≡ t = search rules in
    let rows = arrays_rows t sparse.kind sparse.mode made ids long named arrays count parts in
    let lengths : length mask ≡ length (union_rows p) = c.requires.lengths ∙ sym (rows_counted p sparse (true_places mask) keys) in
    let few : length made < 2 ^ 64 = omega (arith, ap length is, length-select mask (union_rows p) lengths, c.requires.count, c.ranges.count.fits) in
    record {
      array_type = ap (λ q. q.arrow_type) c.new.ensures ∙ same;
      rows = ap union_rows c.new.ensures ∙ ((λ i. union_rows (record { arrow_type = same i; types = ids; child_rows = None; start = 0; children = map layout_of arrays })) ∙ (rows ∙ is));
      fits = subst (Fits t) is (arrays_fit t sparse.kind sparse.mode made ids long named arrays count parts few);
    }
