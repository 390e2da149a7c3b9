use Rattle.arrow_select.proofs.Common.{◌≡◌, ◌<◌, length, map, sym, ◌∙◌, arith, length-map, take_all, All-more, All-same, get_or_from_slice_get, any_array_type, slice_get-map_read}
use Rattle.arrow_select.proofs.ArrayLemmas.{Contains-read}
use Rattle.arrow_select.proofs.concatenate.have_one_type.Goals as goal

pub returns-then-not-is_of_type : goal.returns-then-not-is_of_type
returns-then-not-is_of_type c =
    let arrays = c.args.arrays.now in
    let types = map (λ array. any_array_type array.now) arrays in
    let i = c.loop-array.array-index in
    let long = length-map arrays (λ array. any_array_type array.now) in
    let within : i < length types = omega arith in
    let read = slice_get-map_read (λ array. any_array_type array.now) arrays i c.array-item.result c.loop-array-test.true c.array-item.is in
    (any_array_type c.array-item.result.now, Contains-read types i _ read within, λ e. let same = c.is_of_type.ensures.1 e in cc)

pub loop-array-preserved : goal.loop-array-preserved
loop-array-preserved c =
    let arrays = c.args.arrays.now in
    let first = any_array_type c.args.first.now in
    let types = map (λ array. any_array_type array.now) arrays in
    let i = c.loop-array.array-index in
    let long = length-map arrays (λ array. any_array_type array.now) in
    let within : i < length types = omega arith in
    let read = slice_get-map_read (λ array. any_array_type array.now) arrays i c.array-item.result c.loop-array-test.true c.array-item.is in
    All-more (λ t. t ≡ first) types i first within c.loop-array.invariant (get_or_from_slice_get types i _ first read ∙ c.is_of_type.ensures.0 c.if-not-is_of_type.false)

pub returns : goal.returns
returns c =
    let arrays = c.args.arrays.now in
    let types = map (λ array. any_array_type array.now) arrays in
    let i = c.loop-array.array-index in
    let long = length-map arrays (λ array. any_array_type array.now) in
    All-same (λ t. t ≡ any_array_type c.args.first.now) types _ (sym (take_all i types (omega arith))) c.loop-array.invariant
