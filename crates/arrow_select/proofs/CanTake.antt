-- Which types `can_take` lists, by their fields.
use Rattle.arrow_select.proofs.Common.{arith, ◌↔◌, suc, map, All-cons, ArrowType, ArrowFields, plain, list, struct, union, dictionary, extension, field, no_fields, more_fields, from_fields, type_in, AreCarried, CanTakeByFields, IsStructOrUnion, AreTaken, CanTake, All}

-- fields that are carried are listed where each is
fields_by : (fs : ArrowFields) → AreCarried fs → AreTaken fs ↔ All CanTake (map type_in (from_fields fs))
fields_by no_fields carried = (λ are k d within. absurd (omega (arith, within)), λ all. tt)
fields_by (more_fields (field name t nullable) fs) carried =
    (λ are. All-cons CanTake t (map type_in (from_fields fs)) (carried.0, are.0) ((fields_by fs carried.1).0 are.1), λ all. ((all 0 t (omega arith)).1, (fields_by fs carried.1).1 (λ k d within. all (suc k) d (omega (arith, within)))))

pub can_by_fields : (t : ArrowType) → IsStructOrUnion t → CanTakeByFields t
can_by_fields (struct fs) is =
    (λ can. (can.0, (fields_by fs can.0.1).0 can.1), λ each. (each.0, (fields_by fs each.0.1).1 each.1))
can_by_fields (union mode ids fs) is =
    (λ can. (can.0, (fields_by fs can.0.1.1).0 can.1), λ each. (each.0, (fields_by fs each.0.1.1).1 each.1))
can_by_fields t is = absurd is
