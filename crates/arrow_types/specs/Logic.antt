-- Logic over slots, and what validities make of a comparison. A slot that is no truth value counts as Null.
use Rattle.std.specs.Prelude.{Bool, true, false, ◌&&◌, ◌||◌, not}
use Rattle.arrow_types.specs.Slot.{Slot, Null, Boolean}

-- both are true; Null where a side is Null
abbrev pub both : Slot → Slot → Slot
both (Boolean a) (Boolean b) = Boolean (a && b)
both _ _ = Null

-- one at least is true; Null where a side is Null
abbrev pub either : Slot → Slot → Slot
either (Boolean a) (Boolean b) = Boolean (a || b)
either _ _ = Null

-- true where it is false, and false where it is true; Null of a null
abbrev pub negated : Slot → Slot
negated (Boolean a) = Boolean (not a)
negated _ = Null

-- Kleene's logic, where Null is a truth value that is not known: false where a side is false
abbrev pub kleene_both : Slot → Slot → Slot
kleene_both (Boolean false) _ = Boolean false
kleene_both _ (Boolean false) = Boolean false
kleene_both (Boolean true) (Boolean true) = Boolean true
kleene_both _ _ = Null

-- and true where a side is true
abbrev pub kleene_either : Slot → Slot → Slot
kleene_either (Boolean true) _ = Boolean true
kleene_either _ (Boolean true) = Boolean true
kleene_either (Boolean false) (Boolean false) = Boolean false
kleene_either _ _ = Null

-- whether two rows are equal, from a comparison of what is stored and whether each row is valid: two nulls are equal, and a null and a value are not
abbrev pub finished_eq : Slot → Bool → Bool → Slot
finished_eq (Boolean b) true true = Boolean b
finished_eq (Boolean b) false false = Boolean true
finished_eq (Boolean b) _ _ = Boolean false
finished_eq _ _ _ = Null

-- whether they are unequal, in the same way
abbrev pub finished_neq : Slot → Bool → Bool → Slot
finished_neq (Boolean b) true true = Boolean b
finished_neq (Boolean b) false false = Boolean false
finished_neq (Boolean b) _ _ = Boolean true
finished_neq _ _ _ = Null
