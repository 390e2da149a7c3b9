-- Keys that grow by the values of the dictionaries before their own.
use Rattle.arrow_flat_growable.proofs.Common.{arith, ◌≡◌, ◌+◌, ◌<◌, ◌≤◌, ◌^◌, ℕ, pos, List, [], ◌∷◌, ◌++◌, length, map, get_or, ap, sym, subst, ◌∙◌, append_assoc, All, append-nil, map-append, All-append, All-cons, IntegerType, Int8, greatest_number, Slot, Null, Number, sliced, sliced-cut, one_row, KeyFits, PassesGreatest, grown_key}

pub greatest_small : (t : IntegerType) → greatest_number t < 2 ^ 64
greatest_small Int8 = omega arith
greatest_small t = omega arith

-- a key that passes the greatest grew
pub passes : (greatest k by : ℕ) (s : Slot) → s ≡ Number (pos k) → k ≤ greatest → greatest < k + by → PassesGreatest greatest by s
passes greatest k by s is small over =
    subst (PassesGreatest greatest by) (sym is) (omega (arith, small, over), over)

-- the keys so far, and those of the rows of others
pub record GrowsUpTo {K : Type 0} (slot : K → Slot) (greatest by : ℕ) (old new : List K) (rows : List Slot) (start n : ℕ) : Type 0 where
  pub slots : map slot new ≡ map slot old ++ map (grown_key by) (sliced rows start n)
  pub fits : All (KeyFits greatest by) (sliced rows start n)

module _ {K : Type 0} (slot : K → Slot) (greatest by : ℕ) (old : List K) (rows : List Slot) (start : ℕ) where
  pub grows_none : GrowsUpTo slot greatest by old old rows start 0
  grows_none =
      record { slots = sym (append-nil (map slot old)); fits = λ k d within. absurd (omega (arith, within)) }

  -- one key more
  pub grows_more : (new : List K) (key : K) (i n m : ℕ) → i ≡ start + n → m ≡ n + 1 → i < length rows → GrowsUpTo slot greatest by old new rows start n → slot key ≡ grown_key by (get_or rows i Null) → KeyFits greatest by (get_or rows i Null) → GrowsUpTo slot greatest by old (new ++ key ∷ []) rows start m
  grows_more new key i n m at more within g is fits =
      let row : sliced rows (start + n) 1 ≡ get_or rows i Null ∷ [] = ap (λ j. sliced rows j 1) (sym at) ∙ one_row rows i Null within in
      let next : sliced rows start m ≡ sliced rows start n ++ get_or rows i Null ∷ [] = ap (sliced rows start) more ∙ (sliced-cut rows start n 1 ∙ ap (λ xs. sliced rows start n ++ xs) row) in
      let all = map-append (grown_key by) (sliced rows start n) (get_or rows i Null ∷ []) in
      record {
        slots = map-append slot new (key ∷ []) ∙ ((λ j. g.slots j ++ is j ∷ []) ∙ (append_assoc (map slot old) (map (grown_key by) (sliced rows start n)) (grown_key by (get_or rows i Null) ∷ []) ∙ ap (λ xs. map slot old ++ xs) (sym all ∙ ap (map (grown_key by)) (sym next))));
        fits = subst (All (KeyFits greatest by)) (sym next) (All-append (KeyFits greatest by) (sliced rows start n) (get_or rows i Null ∷ []) g.fits (All-cons (KeyFits greatest by) (get_or rows i Null) [] fits (λ k d none. absurd (omega (arith, none)))));
      }
