use Rattle.arrow_choice.proofs.Common.{arith, Bor, sym, subst, take_all, All-more, All-same, any_array_type, layout_of, HasNoDictionary, HasNoKeys}
use Rattle.arrow_choice.proofs.keys.show_all_no_keys.Goals as goal

pub loop-array-preserved : goal.loop-array-preserved
loop-array-preserved c =
    let none = λ (array : Bor _). HasNoDictionary (any_array_type array.now) → HasNoKeys (layout_of array.now) in
    All-more none c.args.arrays.now c.loop-array.array-index c.array-item.result c.loop-array-test.true c.loop-array.invariant (subst none c.array-item.is c.show_no_keys.ensures)

pub returns : goal.returns
returns c =
    let none = λ (array : Bor _). HasNoDictionary (any_array_type array.now) → HasNoKeys (layout_of array.now) in
    All-same none c.args.arrays.now _ (sym (take_all c.loop-array.array-index c.args.arrays.now (omega (arith, c.loop-array-test.false)))) c.loop-array.invariant
