-- The children of a sparse union that a run does not go to: those before the field's child and those behind it.
use Rattle.arrow_growable.proofs.Common.{arith, ◌≡◌, ◌+◌, ◌-◌, ◌<◌, ℕ, suc, List, [], ◌∷◌, ◌++◌, length, map, take, drop, get_or, refl, ap, sym, subst, ◌∙◌, drop-map, take-map, drop-cons, take-append-add, append-nil, drop_all, get_or-drop, get_or-map, get_or-take, length-drop, length-map, length-take, map-append, take-append-drop, take_all, All-append, All-cons, All-drop, All-take, drop-append-drop, Grown, FitsItself, FitsWith, null_rows_of, grown_of, AreBoundAs, IsWell, SomeCannotHoldNulls, grown_by_nulls, OthersCannotHold, absent, nth_grown, with_others, AnyGrowable, All, append_assoc, length-append}
use Rattle.arrow_growable.proofs.UnionChildLemmas.{nulls_well}

-- a child, where there is one
some_child : (xs : List AnyGrowable) (f : ℕ) → f < length xs → AnyGrowable
some_child [] f within = absurd (omega (arith, within))
some_child (x ∷ xs) f within = x

-- children that stand one behind the other

bound_join : (firsts news bs olds : List Grown) → AreBoundAs firsts news → AreBoundAs bs olds → AreBoundAs (firsts ++ bs) (news ++ olds)
bound_join firsts news bs olds first second =
    record {
      same_types = map-append (λ (g : Grown). g.arrow_type) news olds ∙ ((λ j. first.same_types j ++ second.same_types j) ∙ sym (map-append (λ (g : Grown). g.arrow_type) firsts bs));
      same_sources = map-append (λ (g : Grown). g.sources) news olds ∙ ((λ j. first.same_sources j ++ second.same_sources j) ∙ sym (map-append (λ (g : Grown). g.sources) firsts bs));
    }

others_parts : (firsts rest : List Grown) (g : Grown) (n : ℕ) → with_others (length firsts) n (firsts ++ g ∷ rest) ≡ map (grown_by_nulls n) firsts ++ g ∷ map (grown_by_nulls n) rest
others_parts [] rest g n = refl
others_parts (a ∷ firsts) rest g n = ap (λ gs. grown_by_nulls n a ∷ gs) (others_parts firsts rest g n)

-- of all children but the f-th
module _ (xs : List AnyGrowable) (f n : ℕ) (within : f < length xs) where
  abbrev d : AnyGrowable
  d = some_child xs f within

  abbrev chosen : AnyGrowable
  chosen = get_or xs f d

  abbrev before : List AnyGrowable
  before = take f xs

  abbrev behind : List AnyGrowable
  behind = drop (f + 1) xs

  before_long : length before ≡ f
  before_long = omega (arith, length-take f xs, within)

  rest_is : drop f xs ≡ chosen ∷ behind
  rest_is =
      let next : suc f ≡ f + 1 = omega arith in
      drop-cons xs f d within ∙ ap (λ k. chosen ∷ drop k xs) next

  all_are : xs ≡ before ++ chosen ∷ behind
  all_are = sym (take-append-drop f xs) ∙ ap (λ ys. take f xs ++ ys) rest_is

  -- each is as it should be
  pub before_well : All IsWell (map grown_of xs) → All IsWell (map grown_of before)
  before_well well = subst (All IsWell) (take-map grown_of f xs) (All-take IsWell f (map grown_of xs) well)

  behind_well : All IsWell (map grown_of xs) → All IsWell (map grown_of behind)
  behind_well well =
      subst (All IsWell) (drop-map grown_of (f + 1) xs) (All-drop IsWell (f + 1) (map grown_of xs) well)

  -- why some of them refuse null slots
  pub before_refused : SomeCannotHoldNulls n (map grown_of before) → OthersCannotHold f n (map grown_of xs)
  before_refused refused =
      let g = refused.0 in
      let inside : g < f = omega (arith, refused.1, length-map before grown_of, before_long) in
      let same : nth_grown (map grown_of before) g ≡ nth_grown (map grown_of xs) g = ap (λ hs. nth_grown hs g) (sym (take-map grown_of f xs)) ∙ get_or-take f (map grown_of xs) g absent inside in
      (g, omega (arith, inside, within, length-map xs grown_of), λ is. omega (arith, inside, is), subst (λ h. FitsWith h (null_rows_of h n) → ⊥) same (refused.2 absent))

  behind_refused : SomeCannotHoldNulls n (map grown_of behind) → OthersCannotHold f n (map grown_of xs)
  behind_refused refused =
      let g = refused.0 in
      let same : nth_grown (map grown_of behind) g ≡ nth_grown (map grown_of xs) (f + 1 + g) = ap (λ hs. nth_grown hs g) (sym (drop-map grown_of (f + 1) xs)) ∙ get_or-drop (f + 1) (map grown_of xs) g absent in
      (f + 1 + g, omega (arith, refused.1, length-map behind grown_of, length-drop (f + 1) xs, length-map xs grown_of), λ is. omega (arith, is), subst (λ h. FitsWith h (null_rows_of h n) → ⊥) same (refused.2 absent))

  -- after those before it
  module _ (firsts : List AnyGrowable) (kept : AreBoundAs (map grown_of before) (map grown_of firsts)) where
    abbrev half : List AnyGrowable
    half = firsts ++ drop f xs

    abbrev left : ℕ
    left = length half - (f + 1)

    firsts_long : length firsts ≡ f
    firsts_long =
        omega (arith, before_long, length-map firsts grown_of, length-map before grown_of, length-map (map grown_of firsts) (λ (g : Grown). g.sources), length-map (map grown_of before) (λ (g : Grown). g.sources), ap length kept.same_sources)

    left_is : left ≡ length behind
    left_is =
        omega (arith, length-append firsts (drop f xs), firsts_long, length-drop f xs, length-drop (f + 1) xs, within)

    half_behind : drop (f + 1) half ≡ behind
    half_behind = drop-append-drop f xs firsts (f + 1) (omega arith) firsts_long

    part_is : take left (drop (f + 1) half) ≡ behind
    part_is = (λ j. take left (half_behind j)) ∙ take_all left behind (omega (arith, left_is))

    half_before : take (f + 1) half ≡ firsts ++ chosen ∷ []
    half_before =
        let at : length firsts + 1 ≡ f + 1 = omega (arith, firsts_long) in
        ap (λ k. take k half) (sym at) ∙ (take-append-add firsts (drop f xs) 1 ∙ ap (λ ys. firsts ++ take 1 ys) rest_is)

    pub half_bound : AreBoundAs (map grown_of xs) (map grown_of half)
    half_bound =
        let joined = bound_join (map grown_of before) (map grown_of firsts) (map grown_of (drop f xs)) (map grown_of (drop f xs)) kept (record { same_types = refl; same_sources = refl }) in
        let olds : map grown_of before ++ map grown_of (drop f xs) ≡ map grown_of xs = sym (map-append grown_of before (drop f xs)) ∙ ap (map grown_of) (take-append-drop f xs) in
        subst {A = List Grown × List Grown} (λ q. AreBoundAs q.0 q.1) (λ j. (olds j, sym (map-append grown_of firsts (drop f xs)) j)) joined

    pub part_well : All IsWell (map grown_of xs) → All IsWell (map grown_of (take left (drop (f + 1) half)))
    part_well well = subst (λ ys. All IsWell (map grown_of ys)) (sym part_is) (behind_well well)

    pub part_refused : SomeCannotHoldNulls n (map grown_of (take left (drop (f + 1) half))) → OthersCannotHold f n (map grown_of xs)
    part_refused refused = behind_refused (subst (λ ys. SomeCannotHoldNulls n (map grown_of ys)) part_is refused)

    -- and after those behind it
    module _ (lasts : List AnyGrowable) where
      abbrev whole : List AnyGrowable
      whole = take (f + 1) half ++ (lasts ++ drop left (drop (f + 1) half))

      whole_is : map grown_of whole ≡ map grown_of firsts ++ grown_of chosen ∷ map grown_of lasts
      whole_is =
          let none : drop left (drop (f + 1) half) ≡ [] = ap (drop left) half_behind ∙ drop_all left behind (omega (arith, left_is)) in
          let is : whole ≡ (firsts ++ chosen ∷ []) ++ lasts = (λ j. half_before j ++ (lasts ++ none j)) ∙ ap (λ ys. (firsts ++ chosen ∷ []) ++ ys) (append-nil lasts) in
          ap (map grown_of) (is ∙ append_assoc firsts (chosen ∷ []) lasts) ∙ map-append grown_of firsts (chosen ∷ lasts)

      olds_are : map grown_of xs ≡ map grown_of before ++ grown_of chosen ∷ map grown_of behind
      olds_are = ap (map grown_of) all_are ∙ map-append grown_of before (chosen ∷ behind)

      pub whole_bound : AreBoundAs (map grown_of (take left (drop (f + 1) half))) (map grown_of lasts) → AreBoundAs (map grown_of xs) (map grown_of whole)
      whole_bound last =
          let behind_kept = subst (λ ys. AreBoundAs (map grown_of ys) (map grown_of lasts)) part_is last in
          let joined = bound_join (map grown_of before) (map grown_of firsts) (grown_of chosen ∷ map grown_of behind) (grown_of chosen ∷ map grown_of lasts) kept (record { same_types = ap (λ ts. (grown_of chosen).arrow_type ∷ ts) behind_kept.same_types; same_sources = ap (λ ss. (grown_of chosen).sources ∷ ss) behind_kept.same_sources }) in
          subst {A = List Grown × List Grown} (λ q. AreBoundAs q.0 q.1) (λ j. (sym olds_are j, sym whole_is j)) joined

      pub whole_others : map grown_of firsts ≡ map (grown_by_nulls n) (map grown_of before) → map grown_of lasts ≡ map (grown_by_nulls n) (map grown_of (take left (drop (f + 1) half))) → map grown_of whole ≡ with_others f n (map grown_of xs)
      whole_others first last =
          let behind_grown : map grown_of lasts ≡ map (grown_by_nulls n) (map grown_of behind) = last ∙ ap (λ ys. map (grown_by_nulls n) (map grown_of ys)) part_is in
          let at : f ≡ length (map grown_of before) = omega (arith, before_long, length-map before grown_of) in
          whole_is ∙ ((λ j. first j ++ grown_of chosen ∷ behind_grown j) ∙ (sym (others_parts (map grown_of before) (map grown_of behind) (grown_of chosen) n) ∙ (λ j. with_others (sym at j) n (sym olds_are j))))

      pub whole_well : All IsWell (map grown_of xs) → map grown_of firsts ≡ map (grown_by_nulls n) (map grown_of before) → All FitsItself (map grown_of firsts) → map grown_of lasts ≡ map (grown_by_nulls n) (map grown_of (take left (drop (f + 1) half))) → All FitsItself (map grown_of lasts) → All IsWell (map grown_of whole)
      whole_well well first first_fits last last_fits =
          let one : IsWell (grown_of chosen) = subst IsWell (get_or-map grown_of xs f d (grown_of d) within) (well f (grown_of d) (omega (arith, within, length-map xs grown_of))) in
          let firsts_well = nulls_well n (map grown_of before) (map grown_of firsts) first first_fits in
          let lasts_well = nulls_well n (map grown_of (take left (drop (f + 1) half))) (map grown_of lasts) last last_fits in
          subst (All IsWell) (sym whole_is) (All-append IsWell (map grown_of firsts) (grown_of chosen ∷ map grown_of lasts) firsts_well (All-cons IsWell (grown_of chosen) (map grown_of lasts) one lasts_well))
