-- How the logic stores a slot: as a tree of numbers that gives it back.
use Rattle.std.specs.Prelude.{zero, suc, ◌≡◌, refl}
use Rattle.std.proofs.Common.{sym, ap, ◌∙◌}
use base.Stored.{Coded, Gv, gnil, gnum, gcons}
use Rattle.arrow_types.specs.Stored.{store_bool, load_bool, load_bool-store_bool, store_int, load_int, load_int-store_int, store_name, load_name, load_name-store_name}
use Rattle.arrow_types.specs.Slot.{Slot, Slots, Null, Boolean, Number, DayTime, MonthDayNano, Bytes, Text, Items, Parts, Dict, Variant, no_slots, more_slots}

abbrev mutual
  pub store_slot : Slot → Gv
  store_slot Null = gnum 0
  store_slot (Boolean b) = gcons (gnum 0) (store_bool b)
  store_slot (Number z) = gcons (gnum 1) (store_int z)
  store_slot (DayTime d m) = gcons (gnum 2) (gcons (store_int d) (store_int m))
  store_slot (MonthDayNano m d n) = gcons (gnum 3) (gcons (store_int m) (gcons (store_int d) (store_int n)))
  store_slot (Bytes b) = gcons (gnum 4) (store_name b)
  store_slot (Text b) = gcons (gnum 5) (store_name b)
  store_slot (Items ss) = gcons (gnum 6) (store_slots ss)
  store_slot (Parts ss) = gcons (gnum 7) (store_slots ss)
  store_slot (Dict s) = gcons (gnum 8) (store_slot s)
  store_slot (Variant id s) = gcons (gnum 9) (gcons (store_int id) (store_slot s))

  pub store_slots : Slots → Gv
  store_slots no_slots = gnil
  store_slots (more_slots s ss) = gcons (store_slot s) (store_slots ss)

abbrev mutual
  pub load_slot : Gv → Slot
  load_slot (gcons (gnum zero) g) = Boolean (load_bool g)
  load_slot (gcons (gnum (suc zero)) g) = Number (load_int g)
  load_slot (gcons (gnum (suc (suc zero))) (gcons d m)) = DayTime (load_int d) (load_int m)
  load_slot (gcons (gnum (suc (suc (suc zero)))) (gcons m (gcons d n))) = MonthDayNano (load_int m) (load_int d) (load_int n)
  load_slot (gcons (gnum (suc (suc (suc (suc zero))))) g) = Bytes (load_name g)
  load_slot (gcons (gnum (suc (suc (suc (suc (suc zero)))))) g) = Text (load_name g)
  load_slot (gcons (gnum (suc (suc (suc (suc (suc (suc zero))))))) g) = Items (load_slots g)
  load_slot (gcons (gnum (suc (suc (suc (suc (suc (suc (suc zero)))))))) g) = Parts (load_slots g)
  load_slot (gcons (gnum (suc (suc (suc (suc (suc (suc (suc (suc zero))))))))) g) = Dict (load_slot g)
  load_slot (gcons (gnum (suc (suc (suc (suc (suc (suc (suc (suc (suc n)))))))))) (gcons id g)) = Variant (load_int id) (load_slot g)
  load_slot _ = Null

  pub load_slots : Gv → Slots
  load_slots gnil = no_slots
  load_slots (gnum n) = no_slots
  load_slots (gcons s ss) = more_slots (load_slot s) (load_slots ss)

mutual
  pub load_slot-store_slot : (s : Slot) → load_slot (store_slot s) ≡ s
  load_slot-store_slot Null = refl
  load_slot-store_slot (Boolean b) = ap Boolean (load_bool-store_bool b)
  load_slot-store_slot (Number z) = ap Number (load_int-store_int z)
  load_slot-store_slot (DayTime d m) = λ i. DayTime (load_int-store_int d i) (load_int-store_int m i)
  load_slot-store_slot (MonthDayNano m d n) = λ i. MonthDayNano (load_int-store_int m i) (load_int-store_int d i) (load_int-store_int n i)
  load_slot-store_slot (Bytes b) = ap Bytes (load_name-store_name b)
  load_slot-store_slot (Text b) = ap Text (load_name-store_name b)
  load_slot-store_slot (Items ss) = ap Items (load_slots-store_slots ss)
  load_slot-store_slot (Parts ss) = ap Parts (load_slots-store_slots ss)
  load_slot-store_slot (Dict s) = ap Dict (load_slot-store_slot s)
  load_slot-store_slot (Variant id s) = λ i. Variant (load_int-store_int id i) (load_slot-store_slot s i)

  pub load_slots-store_slots : (ss : Slots) → load_slots (store_slots ss) ≡ ss
  load_slots-store_slots no_slots = refl
  load_slots-store_slots (more_slots s ss) = λ i. more_slots (load_slot-store_slot s i) (load_slots-store_slots ss i)

-- the code that the logic asks for
abbrev pub slot_code : Coded Slot
slot_code =
    record { code = store_slot; inj = λ x y p. sym (load_slot-store_slot x) ∙ (ap load_slot p ∙ load_slot-store_slot y) }
