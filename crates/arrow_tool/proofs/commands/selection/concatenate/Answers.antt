use Rattle.std.proofs.Common.{Bor, All, sym, subst}
use Rattle.std.proofs.lemmas.List.Elements.{All-push}
use Rattle.arrow_arrays.specs.Any.{any_array_type}
use Rattle.arrow_arrays.specs.Layout.{type_of_layout}
use Rattle.arrow_tool.specs.Written.{IsWritten}
use Rattle.arrow_tool.proofs.WrittenLemmas.{all_written}
use Rattle.arrow_tool.proofs.commands.selection.concatenate.Goals as goal

pub loop-argument-preserved : goal.loop-argument-preserved
loop-argument-preserved c =
    let IsOne = λ (array : Bor _). IsWritten (any_array_type array.now) in
    subst (All IsOne) (sym c.in_ok-push-in-Array.ensures.items) (All-push IsOne c.loop-argument.arrays.items c.as_array.result c.loop-argument.invariant (subst (λ l. IsWritten (type_of_layout l)) (sym c.as_array.ensures.same) c.as_array.ensures.written))

pub of_kernel-requires : goal.of_kernel-requires
of_kernel-requires c =
    let IsOne = λ (array : Bor _). IsWritten (any_array_type array.now) in
    all_written c.deref.result.now c.concatenate.result _ (subst (All IsOne) (sym c.deref.ensures.value) c.loop-argument.invariant) c.concatenate.ensures.none c.concatenate.ensures.array_type
