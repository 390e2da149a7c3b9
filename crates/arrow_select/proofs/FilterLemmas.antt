-- The mask that a predicate stands for, and the rows that a mask selects, a run at a time.
use Rattle.arrow_select.proofs.Common.{arith, ◌≡◌, ◌+◌, ℕ, Bool, true, false, Option, Some, None, List, [], ◌∷◌, ◌++◌, length, map, replicate, drop, cond, if◌then◌else◌, refl, ap, sym, subst, ◌∙◌, append_assoc, count_by, option_map, append-nil, drop-drop, count_by-le-length, sum_by-cons, mask, mask_of, masked, select, Slot, Boolean, Null, both_bits, sliced, FitsRows, at_set}
use Rattle.arrow_select.proofs.SetLemmas.{length-at_set, set_run, unset_run}

-- the mask of truth values, none of which is null
mask_of_bits : (bits : List Bool) → mask_of (map Boolean bits) ≡ bits
mask_of_bits [] = refl
mask_of_bits (b ∷ bits) = ap (λ bs. b ∷ bs) (mask_of_bits bits)

nil_under : (validity : List Bool) → ◌≡◌ {A = List Slot} (mask validity []) []
nil_under [] = refl
nil_under (b ∷ validity) = refl

-- and under a validity: the bits that are set in both
mask_of_valid : (bits validity : List Bool) → mask_of (mask validity (map Boolean bits)) ≡ both_bits bits validity
mask_of_valid (true ∷ bits) (true ∷ validity) = ap (λ bs. true ∷ bs) (mask_of_valid bits validity)
mask_of_valid (false ∷ bits) (true ∷ validity) = ap (λ bs. false ∷ bs) (mask_of_valid bits validity)
mask_of_valid (true ∷ bits) (false ∷ validity) = ap (λ bs. false ∷ bs) (mask_of_valid bits validity)
mask_of_valid (false ∷ bits) (false ∷ validity) = ap (λ bs. false ∷ bs) (mask_of_valid bits validity)
mask_of_valid [] validity = ap mask_of (nil_under validity)
mask_of_valid bits validity = refl

-- the mask of a predicate without a validity, and of one with it
pub mask_without : (v : Option (List Bool)) (bits found : List Bool) → None ≡ v → found ≡ bits → found ≡ mask_of (masked v (map Boolean bits))
mask_without v bits found none is =
    is ∙ (sym (mask_of_bits bits) ∙ ap (λ u. mask_of (masked u (map Boolean bits))) none)

pub mask_under : (v : Option (List Bool)) (bits validity found : List Bool) → Some validity ≡ v → found ≡ both_bits bits validity → found ≡ mask_of (masked v (map Boolean bits))
mask_under v bits validity found some is =
    is ∙ (sym (mask_of_valid bits validity) ∙ ap (λ u. mask_of (masked u (map Boolean bits))) some)

-- rows that are selected are the members at which a mask is set
pub select_is : (m : List Bool) (xs : List Slot) → select m xs ≡ at_set m xs
select_is (true ∷ m) (x ∷ xs) = ap (λ ys. x ∷ ys) (select_is m xs)
select_is (false ∷ m) (x ∷ xs) = select_is m xs
select_is m xs = refl

-- the rows that are kept so far, with those that the bits that are left select from a row on
abbrev pub KeepsUpTo : List Slot → List Bool → List Bool → List Slot → ℕ → Type 0
KeepsUpTo kept left mask xs row = kept ++ select left (drop row xs) ≡ select mask xs

-- where no bit is left these are all
pub keeps_all : (kept : List Slot) (left mask : List Bool) (xs : List Slot) (row : ℕ) → length left ≡ 0 → KeepsUpTo kept left mask xs row → kept ≡ select mask xs
keeps_all kept [] mask xs row none so_far = sym (append-nil kept) ∙ so_far
keeps_all kept (b ∷ left) mask xs row none so_far = absurd (omega (arith, none))

-- a run of set bits, and those before it, selects the rows that lie there
module _ (unset count : ℕ) (old left : List Bool) (is : old ≡ replicate unset false ++ (replicate count true ++ left)) (xs : List Slot) (row : ℕ) where
  run_selects : select old (drop row xs) ≡ sliced xs (row + unset) count ++ select left (drop (row + unset + count) xs)
  run_selects =
      let run = replicate count true ++ left in
      let there = ap (at_set run) (drop-drop unset row xs) ∙ set_run count left (drop (row + unset) xs) in
      let behind = ap (at_set left) (drop-drop count (row + unset) xs) ∙ sym (select_is left (drop (row + unset + count) xs)) in
      ap (λ bits. select bits (drop row xs)) is ∙ (select_is _ (drop row xs) ∙ (unset_run unset run (drop row xs) ∙ (there ∙ ap (λ ys. sliced xs (row + unset) count ++ ys) behind)))

  -- so with these the rows are kept up to its end
  pub keeps_run : (kept : List Slot) (mask : List Bool) → KeepsUpTo kept old mask xs row → KeepsUpTo (kept ++ sliced xs (row + unset) count) left mask xs (row + unset + count)
  keeps_run kept mask so_far =
      append_assoc kept (sliced xs (row + unset) count) (select left (drop (row + unset + count) xs)) ∙ (ap (λ ys. kept ++ ys) (sym run_selects) ∙ so_far)

-- ---- rows by the members at which a mask is set

at_set-map : {A B : Type 0} (f : A → B) (m : List Bool) (xs : List A) → map f (at_set m xs) ≡ at_set m (map f xs)
at_set-map f (true ∷ m) (x ∷ xs) = ap (λ ys. f x ∷ ys) (at_set-map f m xs)
at_set-map f (false ∷ m) (x ∷ xs) = at_set-map f m xs
at_set-map f m xs = refl

pub at_set-mask : (m validity : List Bool) (xs : List Slot) → mask (at_set m validity) (at_set m xs) ≡ at_set m (mask validity xs)
at_set-mask (b ∷ m) (v ∷ validity) [] = nil_under (at_set (b ∷ m) (v ∷ validity))
at_set-mask (true ∷ m) (v ∷ validity) (x ∷ xs) = ap (λ ys. (if v then x else Null) ∷ ys) (at_set-mask m validity xs)
at_set-mask (false ∷ m) (v ∷ validity) (x ∷ xs) = at_set-mask m validity xs
at_set-mask m validity xs = refl

-- what is stored, under the validity of the rows that are kept
pub set_rows : {T : Type 0} (slot : T → Slot) (m : List Bool) (v w : Option (List Bool)) (values kept : List T) → w ≡ option_map (at_set m) v → kept ≡ at_set m values → masked w (map slot kept) ≡ select m (masked v (map slot values))
set_rows slot m None w values kept is are =
    (λ i. masked (is i) (map slot (are i))) ∙ (at_set-map slot m values ∙ sym (select_is m (map slot values)))
set_rows slot m (Some validity) w values kept is are =
    (λ i. masked (is i) (map slot (are i))) ∙ (ap (mask (at_set m validity)) (at_set-map slot m values) ∙ (at_set-mask m validity (map slot values) ∙ sym (select_is m (mask validity (map slot values)))))

-- and it has a bit for each of them
pub set_fits : {T : Type 0} (m : List Bool) (v w : Option (List Bool)) (values kept : List T) → w ≡ option_map (at_set m) v → kept ≡ at_set m values → length m ≡ length values → FitsRows v (length values) → FitsRows w (length kept)
set_fits m None w values kept is are lengths fits = subst (λ w. FitsRows w (length kept)) (sym is) tt
set_fits m (Some validity) w values kept is are lengths fits =
    subst (λ w. FitsRows w (length kept)) (sym is) (length-at_set m validity (lengths ∙ sym fits) ∙ (sym (length-at_set m values lengths) ∙ sym (ap length are)))

-- where each bit is set these are all
pub select_all : (m : List Bool) (xs : List Slot) → length m ≡ length xs → count_by (λ b. b) m ≡ length xs → xs ≡ select m xs
select_all [] [] lengths all = refl
select_all (true ∷ m) (x ∷ xs) lengths all =
    ap (λ ys. x ∷ ys) (select_all m xs (omega (arith, lengths)) (omega (arith, all, sum_by-cons (λ b. cond b 1 0) true m)))
select_all (false ∷ m) (x ∷ xs) lengths all =
    absurd (omega (arith, lengths, all, sum_by-cons (λ b. cond b 1 0) false m, count_by-le-length (λ b. b) m))
select_all m xs lengths all = absurd (omega (arith, lengths))
