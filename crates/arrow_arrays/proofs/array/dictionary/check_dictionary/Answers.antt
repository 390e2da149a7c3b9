use Rattle.std.proofs.Common.{◌≡◌, true, false, length, refl, sym, subst, rules}
use Rattle.arrow_arrays.specs.Any.{any_array_rows}
use Rattle.arrow_arrays.specs.AnyKeys.{key_rows}
use Rattle.arrow_arrays.specs.KeyedParts.{AreKeys}
use Rattle.arrow_arrays.proofs.TypeLemmas.{types_agree, types_differ}
use Rattle.arrow_arrays.proofs.array.dictionary.check_dictionary.Goals as goal

pub returns-then-ne-clause-fault : goal.returns-then-ne-clause-fault
returns-then-ne-clause-fault c =
    (search rules, types_differ _ _ _ _ c.ne.result c.ne.ensures c.data_type.ensures.same c.values_type.ensures c.if-ne.true)

pub returns-then-not-are_within-clause-fault : goal.returns-then-not-are_within-clause-fault
returns-then-not-are_within-clause-fault c =
    let child = types_agree _ _ _ _ c.ne.result c.ne.ensures c.data_type.ensures.same c.values_type.ensures c.if-ne.false in
    let refuted : AreKeys (length (any_array_rows c.args.values.now)) (key_rows c.args.keys.now) → ⊥ = λ held.
    let none : false ≡ true = c.if-not-are_within.ensures.1 (subst (λ n. AreKeys n (key_rows c.args.keys.now)) (sym c.len.ensures) held) in
    cc
    in
    (search rules, child, tt, tt, tt, refuted)

pub returns-clause-ok : goal.returns-clause-ok
returns-clause-ok c =
    let child = types_agree _ _ _ _ c.ne.result c.ne.ensures c.data_type.ensures.same c.values_type.ensures c.if-ne.false in
    (search rules, child, subst (λ n. AreKeys n (key_rows c.args.keys.now)) c.len.ensures (c.if-not-are_within.ensures.0 refl))
