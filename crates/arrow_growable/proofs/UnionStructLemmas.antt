-- The parts of a union under construction after a call.
use Rattle.arrow_growable.proofs.Common.{arith, ◌≡◌, ◌+◌, ◌<◌, ◌^◌, ℕ, ℤ, Bool, true, false, Option, List, [], length, map, refl, ap, sym, subst, ◌∙◌, ArrowType, Fits, Slot, Layout, mode_in, child_rows_of, mode_by, Grown, emptied_of, GrowsVariants, HoldsVariants, IsBoundUnion, IsGrownUnion, IsUnionOver, no_offsets, variant_rows, All, length-append}
use Rattle.arrow_growable.proofs.StepLemmas.{bound_map}
use Rattle.arrow_growable.proofs.UnionBoundLemmas.{bound_next, fits_held}
use Rattle.arrow_growable.proofs.UnionFinishLemmas.{IsBare, emptied_bare, holds_none, says_none}
use Rattle.arrow_growable.proofs.UnionGrowLemmas.{length_held}

-- a growable has as many rows as it counts
pub held_counted : (layouts : List Layout) (t : ArrowType) (types : List ℤ) (offsets : Option (List ℤ)) (gs : List Grown) (len : ℕ) (failed : Bool) → IsGrownUnion layouts t types offsets gs len failed → failed ≡ false → len ≡ length (variant_rows t types offsets gs)
held_counted layouts t types offsets gs len failed parts well =
    omega (arith, parts.counted well, length_held t types offsets gs (parts.holds well))

-- after a call that refused
pub failed_union : (layouts : List Layout) (t : ArrowType) (types : List ℤ) (offsets : Option (List ℤ)) (gs : List Grown) (len : ℕ) → IsBoundUnion layouts t offsets gs → IsGrownUnion layouts t types offsets gs len true
failed_union layouts t types offsets gs len bound =
    record { bound = bound; counted = λ well. cc; holds = λ well. cc }

-- one that has not failed, and what a call that appends rows made of it
pub record GrowsUnion (layouts : List Layout) (t : ArrowType) (types : List ℤ) (offsets : Option (List ℤ)) (gs : List Grown) (len : ℕ) (failed : Bool) (new_types : List ℤ) (new_offsets : Option (List ℤ)) (news : List Grown) (more : List Slot) (total : ℕ) : Type 0 where
  pub parts : IsGrownUnion layouts t types offsets gs len failed
  pub well : failed ≡ false
  pub bound : IsBoundUnion layouts t new_offsets news
  pub grows : GrowsVariants t types offsets gs new_types new_offsets news more
  pub count : total ≡ len + length more

module _ (layouts : List Layout) (t : ArrowType) (types : List ℤ) (offsets : Option (List ℤ)) (gs : List Grown) (len : ℕ) (failed : Bool) (new_types : List ℤ) (new_offsets : Option (List ℤ)) (news : List Grown) (more : List Slot) (total : ℕ) (grown : GrowsUnion layouts t types offsets gs len failed new_types new_offsets news more total) where
  types_long : length new_types ≡ total
  types_long =
      omega (arith, length_held t new_types new_offsets news grown.grows.holds, ap length grown.grows.rows, length-append (variant_rows t types offsets gs) more, held_counted layouts t types offsets gs len failed grown.parts grown.well, grown.count)

  pub grown_union : IsGrownUnion layouts t new_types new_offsets news total false
  grown_union =
      record { bound = grown.bound; counted = λ still. types_long; holds = λ still. grown.grows.holds }

  pub grown_fits : total < 2 ^ 64 → Fits t (variant_rows t new_types new_offsets news)
  grown_fits few =
      fits_held t new_types new_offsets news grown.bound.over grown.grows.holds (omega (arith, types_long, few))

-- one without rows
pub bare_union : (layouts : List Layout) (t : ArrowType) (new_types : List ℤ) (new_offsets : Option (List ℤ)) (gs : List Grown) → IsBoundUnion layouts t new_offsets gs → All IsBare gs → new_types ≡ [] → new_offsets ≡ no_offsets (mode_in t) → IsGrownUnion layouts t new_types new_offsets gs 0 false
bare_union layouts t new_types new_offsets gs bound bare none offsets_are =
    record {
      bound = bound;
      counted = λ well. ap length none;
      holds = λ well. subst {A = List ℤ × Option (List ℤ)} (λ q. HoldsVariants t q.0 q.1 gs) (λ j. (sym none j, sym offsets_are j)) (holds_none t gs bare);
    }

-- so one whose rows are handed out
pub left_union : (layouts : List Layout) (t : ArrowType) (offsets : Option (List ℤ)) (gs : List Grown) (new_types : List ℤ) (new_offsets : Option (List ℤ)) (news : List Grown) → IsBoundUnion layouts t offsets gs → news ≡ map emptied_of gs → new_types ≡ [] → new_offsets ≡ no_offsets (mode_in t) → IsGrownUnion layouts t new_types new_offsets news 0 false
left_union layouts t offsets gs new_types new_offsets news bound news_are none offsets_are =
    let kept = bound_map emptied_of gs (λ g. refl) (λ g. refl) in
    let mode = ap (λ os. mode_by (child_rows_of os)) offsets_are ∙ ((says_none (mode_in t)).mode_is ∙ bound.over.mode) in
    let left = bound_next layouts t offsets new_offsets gs (map emptied_of gs) bound kept mode in
    subst (λ hs. IsGrownUnion layouts t new_types new_offsets hs 0 false) (sym news_are) (bare_union layouts t new_types new_offsets (map emptied_of gs) left (emptied_bare gs) none offsets_are)

-- offsets of none are those of the mode
pub none_mode : (t : ArrowType) (offsets new_offsets : Option (List ℤ)) (gs : List Grown) → IsUnionOver t offsets gs → new_offsets ≡ no_offsets (mode_in t) → mode_by (child_rows_of new_offsets) ≡ mode_by (child_rows_of offsets)
none_mode t offsets new_offsets gs over are =
    ap (λ os. mode_by (child_rows_of os)) are ∙ ((says_none (mode_in t)).mode_is ∙ over.mode)
