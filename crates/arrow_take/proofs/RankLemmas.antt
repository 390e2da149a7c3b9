-- How many rows before each have its type id: one row more, counted by id.
use Rattle.arrow_take.proofs.Common.{arith, ◌≡◌, ◌+◌, ◌<◌, ◌≤◌, ◌^◌, ℕ, ℤ, pos, negsuc, Bool, true, false, List, [], ◌∷◌, ◌++◌, length, map, get_or, set, take, refl, ap, sym, subst, ◌∙◌, nat_abs, count_by, range_with_len, int_eq, Decides-int_eq, ints, get_or-set_other, map-append, take_all, map-range_with_len_more, count_by_more_no, count_by_more_yes, IsTypeId, AreFew, rank_at, get_or-set_at}

-- a type id as a place of a list
pub id_placed : (id : ℤ) → IsTypeId id → (id ≡ pos (nat_abs id)) × (nat_abs id < 128)
id_placed (pos n) is = (refl, omega (arith, ints, is.1))
id_placed (negsuc n) is = absurd (omega (arith, ints, is.0))

module _ (types : List ℤ) (i : ℕ) (within : i < length types) where
  abbrev id : ℤ
  id = get_or types i (pos 0)

  -- so many rows of each id, of which there are few
  few_by : (other : ℤ) (b : Bool) → int_eq other id ≡ b → count_by (int_eq other) (take i types) ≤ 2 ^ 31 → rank_at types i < 2 ^ 31 → count_by (int_eq other) (take (i + 1) types) ≤ 2 ^ 31
  few_by other true told so_far less =
      let same = ap (λ z. count_by (int_eq z) (take i types)) ((Decides-int_eq other id).0 told) in
      omega (arith, less, same, count_by_more_yes (int_eq other) types i (pos 0) within told)
  few_by other false told so_far less =
      omega (arith, so_far, count_by_more_no (int_eq other) types i (pos 0) within told)

  pub few_next : ((other : ℤ) → count_by (int_eq other) (take i types) ≤ 2 ^ 31) → rank_at types i < 2 ^ 31 → (other : ℤ) → count_by (int_eq other) (take (i + 1) types) ≤ 2 ^ 31
  few_next so_far less other = few_by other (int_eq other id) refl (so_far other) less

  -- the offsets so far
  pub ranks_next : (done : List ℤ) (x : ℤ) → done ≡ map pos (map (rank_at types) (range_with_len 0 i)) → x ≡ pos (rank_at types i) → done ++ x ∷ [] ≡ map pos (map (rank_at types) (range_with_len 0 (i + 1)))
  ranks_next done x so_far is =
      let at : 0 + i ≡ i = omega arith in
      (λ j. so_far j ++ is j ∷ []) ∙ (sym (map-append pos (map (rank_at types) (range_with_len 0 i)) (rank_at types i ∷ [])) ∙ ap (map pos) (sym (map-range_with_len_more (rank_at types) 0 i i at)))

  -- the counts so far, by id
  module _ (counts : List ℕ) (each : (k : ℕ) → k < 128 → get_or counts k 0 ≡ count_by (int_eq (pos k)) (take i types)) (long : length counts ≡ 128) (j : ℕ) (typed : id ≡ pos j) (small : j < 128) where
    pub rank_is : get_or counts j 0 ≡ rank_at types i
    rank_is = each j small ∙ ap (λ z. count_by (int_eq z) (take i types)) (sym typed)

    counts_by : (n k : ℕ) → n ≡ get_or counts j 0 → k < 128 → (b : Bool) → int_eq (pos k) id ≡ b → get_or (set counts j (n + 1)) k 0 ≡ count_by (int_eq (pos k)) (take (i + 1) types)
    counts_by n k is few true told =
        let same : k ≡ j = omega (arith, ints, (Decides-int_eq (pos k) id).0 told ∙ typed) in
        get_or-set_at counts j k (n + 1) 0 same (omega (arith, small, long)) ∙ (omega (arith, is, each k few, ap (λ h. get_or counts h 0) same) ∙ sym (count_by_more_yes (int_eq (pos k)) types i (pos 0) within told))
    counts_by n k is few false told =
        let other : k ≡ j → ⊥ = λ same. (let own = (Decides-int_eq (pos k) id).1 (ap pos same ∙ sym typed) in cc) in
        get_or-set_other counts j k (n + 1) 0 other ∙ (each k few ∙ sym (count_by_more_no (int_eq (pos k)) types i (pos 0) within told))

    pub counts_next : (n : ℕ) → n ≡ get_or counts j 0 → (k : ℕ) → k < 128 → get_or (set counts j (n + 1)) k 0 ≡ count_by (int_eq (pos k)) (take (i + 1) types)
    counts_next n is k few = counts_by n k is few (int_eq (pos k) id) refl

-- all rows
pub all_few : (types : List ℤ) (i : ℕ) → length types ≤ i → ((other : ℤ) → count_by (int_eq other) (take i types) ≤ 2 ^ 31) → AreFew types
all_few types i all few =
    λ other. subst (λ zs. count_by (int_eq other) zs ≤ 2 ^ 31) (take_all i types all) (few other)
