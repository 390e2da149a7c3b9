use Rattle.arrow_select.proofs.Common.{◌≡◌, ◌<◌, Bor, length, map, refl, sym, subst, ap, ◌∙◌, arith, length-map, IfOk-weaker, Fits, joined, any_array_type, layout_of, rows, first_type, slice_get-map_read, map_twice, HasNoDictionary, rows_in, rows_alone}
use Rattle.arrow_select.proofs.ArrayLemmas.{Contains-read, of_one_type, all_as_first}
use Rattle.arrow_select.proofs.concatenate.concatenate.Goals as goal

pub returns-then-not-have_one_type-clause-types : goal.returns-then-not-have_one_type-clause-types
returns-then-not-have_one_type-clause-types c =
    let arrays = c.args.arrays.now in
    let types = map (λ (array : Bor _). any_array_type array.now) arrays in
    let first = c.in-Some.ensures.item in
    let long = length-map arrays (λ (array : Bor _). any_array_type array.now) in
    let within : 0 < length types = omega (arith, first.3.0) in
    let read = slice_get-map_read (λ (array : Bor _). any_array_type array.now) arrays 0 c.in-Some.first.now first.3.0 first.1 in
    (λ _. (any_array_type c.in-Some.first.now.now, Contains-read types 0 _ read within, c.if-not-have_one_type.ensures), λ _. refl)

pub join_arrays-requires-clause-one_type : goal.join_arrays-requires-clause-one_type
join_arrays-requires-clause-one_type c =
    of_one_type (λ (a : Bor _). layout_of a.now) c.args.arrays.now _ c.if-not-have_one_type.ensures

pub returns-clause-array_type : goal.returns-clause-array_type
returns-clause-array_type c =
    IfOk-weaker c.join_arrays.result _ _ (λ all same. all_as_first (λ (a : Bor _). layout_of a.now) c.args.arrays.now _ (λ t. t ≡ any_array_type all) c.if-not-have_one_type.ensures (sym same)) c.join_arrays.ensures.array_type

pub returns-clause-rows : goal.returns-clause-rows
returns-clause-rows c =
    IfOk-weaker c.join_arrays.result _ _ (λ all same. same ∙ ap joined (map_twice rows (λ (a : Bor _). layout_of a.now) c.args.arrays.now)) c.join_arrays.ensures.rows

pub returns-clause-no_keys : goal.returns-clause-no_keys
returns-clause-no_keys c overflows =
    let arrays = c.args.arrays.now in
    let t = first_type (map (λ (a : Bor _). layout_of a.now) arrays) in
    let types = of_one_type (λ (a : Bor _). layout_of a.now) arrays _ c.if-not-have_one_type.ensures in
    let all = ap joined (map_twice rows (λ (a : Bor _). layout_of a.now) arrays) in
    all_as_first (λ (a : Bor _). layout_of a.now) arrays _ (λ t. HasNoDictionary t → Fits t (joined (rows_in arrays)) → ⊥) c.if-not-have_one_type.ensures (λ none fits. rows_alone (λ (a : Bor _). a.now) arrays c.show_all_no_keys.ensures types (c.join_arrays.ensures.overflow overflows) none (subst (Fits t) (sym all) fits))
