-- Parts of a source that wait, one for each run of rows.
use Rattle.arrow_flat_growable.proofs.Common.{arith, ◌≡◌, ◌+◌, ◌-◌, ◌<◌, ◌≤◌, ◌∙◌, ℕ, Bool, true, false, List, [], ◌∷◌, ◌++◌, length, replicate, get_or, slice_index, ap, subst, sym, All, flat_map, flat_map-append, append-nil, All-push, IsOffsets, last_of, at_most_last, offsets_rise, Part, Of, AppendsParts, LiesIn, part_values, sliced, valid_items, valid_values}
use Rattle.arrow_flat_growable.proofs.ValidRowLemmas.{all_valid, run_copied, run_long}

-- parts so far, of which the values of some rows are still to come
pub record PartsSoFar {A : Type 0} (sources : List (List A)) (old new : List (Part A)) (left all : List A) : Type 0 where
  pub lie : All (LiesIn sources) old → All (LiesIn sources) new
  pub values : flat_map (part_values sources) new ++ left ≡ flat_map (part_values sources) old ++ all

-- rows of a source, by offsets
module _ {A : Type 0} (sources : List (List A)) (index : ℕ) (others : List ℕ) (there : index < length sources) (held : IsOffsets others) (within : last_of others ≤ length (get_or sources index [])) where
  abbrev source : List A
  source = get_or sources index []

  -- the part of a run
  abbrev run_part : ℕ → ℕ → Part A
  run_part first count = Of index (slice_index others first) (slice_index others (first + count) - slice_index others first)

  pub run_more : (old parts new : List (Part A)) (all : List A) (nulls count i first last : ℕ) (bits rest : List Bool) → bits ≡ replicate nulls false ++ (replicate count true ++ rest) → i + length bits < length others → first ≡ slice_index others (i + nulls) → last ≡ slice_index others (i + nulls + count) → new ≡ parts ++ Of index first (last - first) ∷ [] → PartsSoFar sources old parts (valid_values bits others source i) all → PartsSoFar sources old new (valid_values rest others source (i + (nulls + count))) all
  run_more old parts new all nulls count i first last bits rest is inside first_is last_is grown so_far =
      let p = run_part (i + nulls) count in
      let next : new ≡ parts ++ p ∷ [] = grown ∙ (λ t. parts ++ Of index (first_is t) (last_is t - first_is t) ∷ []) in
      let long = run_long nulls count bits rest is in
      let rises = offsets_rise others (i + nulls) (i + nulls + count) held (omega arith) (omega (arith, inside, long)) in
      let below = at_most_last others (i + nulls + count) held (omega (arith, inside, long)) in
      let copied = ap (flat_map (part_values sources)) next ∙ (flat_map-append (part_values sources) parts (p ∷ []) ∙ ap (λ xs. flat_map (part_values sources) parts ++ xs) (append-nil (part_values sources p))) in
      record {
        lie = λ lie. subst (All (LiesIn sources)) (sym next) (All-push (LiesIn sources) parts p (so_far.lie lie) (there, omega (arith, rises, below, within)));
        values = run_copied others source held within nulls count bits rest i is inside _ (flat_map (part_values sources) parts) _ copied so_far.values;
      }

  -- the part of all rows, where those whose bit is not set have no values
  pub one_part : (old new : List (Part A)) (bits : List Bool) (i first last : ℕ) → i + length bits < length others → first ≡ slice_index others i → last ≡ slice_index others (i + length bits) → last - first ≤ valid_items bits others i → new ≡ old ++ Of index first (last - first) ∷ [] → AppendsParts sources old new (valid_values bits others source i)
  one_part old new bits i first last inside first_is last_is all grown =
      let p : Part A = Of index first (last - first) in
      let rises = offsets_rise others i (i + length bits) held (omega arith) inside in
      let below = at_most_last others (i + length bits) held inside in
      let values : sliced source first (last - first) ≡ valid_values bits others source i = (λ t. sliced source (first_is t) (last_is t - first_is t)) ∙ sym (all_valid others source held within bits i inside (omega (arith, all, first_is, last_is))) in
      record {
        lie = λ lie. subst (All (LiesIn sources)) (sym grown) (All-push (LiesIn sources) old p lie (there, omega (arith, rises, below, within, first_is, last_is)));
        values = ap (flat_map (part_values sources)) grown ∙ (flat_map-append (part_values sources) old (p ∷ []) ∙ ap (λ xs. flat_map (part_values sources) old ++ xs) (append-nil (part_values sources p) ∙ values));
      }
