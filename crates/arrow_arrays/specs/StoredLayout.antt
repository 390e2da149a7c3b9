-- How the logic stores a layout: as a tree of numbers that gives it back.
use Rattle.std.specs.Prelude.{zero, suc, ◌≡◌, refl, ℕ, ℤ, Bool, Option, List, []}
use Rattle.std.proofs.Common.{sym, ap, ◌∙◌}
use base.Stored.{Coded, Gv, gnil, gnum, gcons, num}
use Rattle.arrow_types.specs.ArrowType.{plain, null}
use Rattle.arrow_types.specs.Slot.{Slot}
use Rattle.arrow_types.specs.Stored.{store_bool, load_bool, load_bool-store_bool, store_int, load_int, load_int-store_int, load_num-num, store_list, load_list, load_list-store_list, store_option, load_option, load_option-store_option, store_name, load_name, load_name-store_name}
use Rattle.arrow_types.specs.StoredSlot.{store_slot, load_slot, load_slot-store_slot}
use Rattle.arrow_types.specs.StoredType.{store_type, load_type, load_type-store_type}
use Rattle.arrow_arrays.specs.Layout.{Layout, Layouts, flat, listed, fixed, fielded, sparse, dense, keyed, no_layouts, more_layouts}

abbrev store_bits : Option (List Bool) → Gv
store_bits = store_option (store_list store_bool)

abbrev load_bits : Gv → Option (List Bool)
load_bits = load_option (load_list load_bool)

load_bits-store_bits : (v : Option (List Bool)) → load_bits (store_bits v) ≡ v
load_bits-store_bits = load_option-store_option (store_list store_bool) (load_list load_bool) (load_list-store_list store_bool load_bool load_bool-store_bool)

abbrev store_ints : List ℤ → Gv
store_ints = store_list store_int

abbrev load_ints : Gv → List ℤ
load_ints = load_list load_int

load_ints-store_ints : (zs : List ℤ) → load_ints (store_ints zs) ≡ zs
load_ints-store_ints = load_list-store_list store_int load_int load_int-store_int

abbrev store_keys : List (Option ℕ) → Gv
store_keys = store_list (store_option gnum)

abbrev load_keys : Gv → List (Option ℕ)
load_keys = load_list (load_option num)

load_keys-store_keys : (ks : List (Option ℕ)) → load_keys (store_keys ks) ≡ ks
load_keys-store_keys = load_list-store_list (store_option gnum) (load_option num) (load_option-store_option gnum num load_num-num)

abbrev store_rows : List Slot → Gv
store_rows = store_list store_slot

abbrev load_rows : Gv → List Slot
load_rows = load_list load_slot

load_rows-store_rows : (xs : List Slot) → load_rows (store_rows xs) ≡ xs
load_rows-store_rows = load_list-store_list store_slot load_slot load_slot-store_slot

abbrev mutual
  pub store_layout : Layout → Gv
  store_layout (flat t xs) = gcons (gnum 0) (gcons (store_type t) (store_rows xs))
  store_layout (listed t v offsets c) = gcons (gnum 1) (gcons (store_type t) (gcons (store_bits v) (gcons (store_name offsets) (store_layout c))))
  store_layout (fixed t v s c) = gcons (gnum 2) (gcons (store_type t) (gcons (store_bits v) (gcons (gnum s) (store_layout c))))
  store_layout (fielded t v cs) = gcons (gnum 3) (gcons (store_type t) (gcons (store_bits v) (store_layouts cs)))
  store_layout (sparse t ids start cs) = gcons (gnum 4) (gcons (store_type t) (gcons (store_ints ids) (gcons (gnum start) (store_layouts cs))))
  store_layout (dense t ids child_rows cs) = gcons (gnum 5) (gcons (store_type t) (gcons (store_ints ids) (gcons (store_name child_rows) (store_layouts cs))))
  store_layout (keyed t keys c) = gcons (gnum 6) (gcons (store_type t) (gcons (store_keys keys) (store_layout c)))

  pub store_layouts : Layouts → Gv
  store_layouts no_layouts = gnil
  store_layouts (more_layouts l ls) = gcons (store_layout l) (store_layouts ls)

abbrev mutual
  pub load_layout : Gv → Layout
  load_layout (gcons (gnum zero) (gcons t xs)) = flat (load_type t) (load_rows xs)
  load_layout (gcons (gnum (suc zero)) (gcons t (gcons v (gcons offsets c)))) = listed (load_type t) (load_bits v) (load_name offsets) (load_layout c)
  load_layout (gcons (gnum (suc (suc zero))) (gcons t (gcons v (gcons s c)))) = fixed (load_type t) (load_bits v) (num s) (load_layout c)
  load_layout (gcons (gnum (suc (suc (suc zero)))) (gcons t (gcons v cs))) = fielded (load_type t) (load_bits v) (load_layouts cs)
  load_layout (gcons (gnum (suc (suc (suc (suc zero))))) (gcons t (gcons ids (gcons start cs)))) = sparse (load_type t) (load_ints ids) (num start) (load_layouts cs)
  load_layout (gcons (gnum (suc (suc (suc (suc (suc zero)))))) (gcons t (gcons ids (gcons child_rows cs)))) = dense (load_type t) (load_ints ids) (load_name child_rows) (load_layouts cs)
  load_layout (gcons (gnum (suc (suc (suc (suc (suc (suc n))))))) (gcons t (gcons keys c))) = keyed (load_type t) (load_keys keys) (load_layout c)
  load_layout _ = flat (plain null) []

  pub load_layouts : Gv → Layouts
  load_layouts gnil = no_layouts
  load_layouts (gnum n) = no_layouts
  load_layouts (gcons l ls) = more_layouts (load_layout l) (load_layouts ls)

mutual
  pub load_layout-store_layout : (l : Layout) → load_layout (store_layout l) ≡ l
  load_layout-store_layout (flat t xs) = λ i. flat (load_type-store_type t i) (load_rows-store_rows xs i)
  load_layout-store_layout (listed t v offsets c) = λ i. listed (load_type-store_type t i) (load_bits-store_bits v i) (load_name-store_name offsets i) (load_layout-store_layout c i)
  load_layout-store_layout (fixed t v s c) = λ i. fixed (load_type-store_type t i) (load_bits-store_bits v i) s (load_layout-store_layout c i)
  load_layout-store_layout (fielded t v cs) = λ i. fielded (load_type-store_type t i) (load_bits-store_bits v i) (load_layouts-store_layouts cs i)
  load_layout-store_layout (sparse t ids start cs) = λ i. sparse (load_type-store_type t i) (load_ints-store_ints ids i) start (load_layouts-store_layouts cs i)
  load_layout-store_layout (dense t ids child_rows cs) = λ i. dense (load_type-store_type t i) (load_ints-store_ints ids i) (load_name-store_name child_rows i) (load_layouts-store_layouts cs i)
  load_layout-store_layout (keyed t keys c) = λ i. keyed (load_type-store_type t i) (load_keys-store_keys keys i) (load_layout-store_layout c i)

  pub load_layouts-store_layouts : (ls : Layouts) → load_layouts (store_layouts ls) ≡ ls
  load_layouts-store_layouts no_layouts = refl
  load_layouts-store_layouts (more_layouts l ls) = λ i. more_layouts (load_layout-store_layout l i) (load_layouts-store_layouts ls i)

-- the code that the logic asks for
abbrev pub layout_code : Coded Layout
layout_code =
    record { code = store_layout; inj = λ x y p. sym (load_layout-store_layout x) ∙ (ap load_layout p ∙ load_layout-store_layout y) }
