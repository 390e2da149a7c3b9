use Rattle.std.proofs.Common.{◌≡◌, ℤ, pos, get_or, arith, rules}
use Rattle.std.proofs.lemmas.List.{get_or_default}
use Rattle.arrow_types.specs.Carried.{IsTypeId}
use Rattle.arrow_types.proofs.IdLemmas.{next_distinct, next_type_id, repeated}
use Rattle.arrow_types.proofs.datatypes.carried.are_distinct_ids.Goals as goal
use Rattle.arrow_types.proofs.datatypes.carried.are_distinct_ids.Goals.{then-not-is_type_id-via-then-not-is_type_id, then-not-is_type_id-via-else-not-is_type_id+then-contains}

pub loop-i-preserved : goal.loop-i-preserved
loop-i-preserved c =
    let ids = c.args.ids.now in
    let i = c.loop-i.i in
    let is : (d : ℤ) → get_or ids i d ≡ get_or ids i (pos 0) = λ d. get_or_default ids i d (pos 0) (omega arith) in
    let before = c.loop-i.invariant in
    let ok : IsTypeId (get_or ids i (pos 0)) = search rules in
    record {
      distinct = next_distinct ids i (get_or ids i (pos 0)) (omega arith) is (search rules) before.distinct;
      type_ids = next_type_id ids i (get_or ids i (pos 0)) is ok before.type_ids;
    }

pub returns-then-not-is_type_id : goal.returns-then-not-is_type_id
returns-then-not-is_type_id c =
    let ids = c.args.ids.now in
    let i = c.loop-i.i in
    let is : (d : ℤ) → get_or ids i d ≡ get_or ids i (pos 0) = λ d. get_or_default ids i d (pos 0) (omega arith) in (
      λ h. absurd (search rules),
      λ h. absurd (elim c.then-not-is_type_id.branch [
        | then-not-is_type_id-via-then-not-is_type_id w ↦ let ok : IsTypeId (get_or ids i (pos 0)) = h.1 i (pos 0) (omega arith) in search rules
        | then-not-is_type_id-via-else-not-is_type_id+then-contains w ↦ repeated ids i (get_or ids i (pos 0)) (omega arith) is (search rules) h
      ]),
    )
