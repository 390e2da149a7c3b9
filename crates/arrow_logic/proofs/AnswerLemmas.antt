-- What a closure answered to numbers of rows, one more at a time, and to the values in these rows.
use Rattle.arrow_logic.proofs.Common.{◌≡◌, ◌∙◌, ℕ, suc, ◌+◌, ◌*◌, ◌%◌, ◌^◌, ◌<◌, append_assoc, Bool, Option, Some, None, List, [], ◌∷◌, ◌++◌, length, map, arith, ap, subst, sym, refl, slice_get, is_none, unwrap_or, bit_or, bit_at, from_bool, length-map-range_with_len, AllZip, zip, common_steps, All-cons, All-nil, get_or, slice_get-get_or, get_or-zip, IfErr, IfOk, inl, inr, ◌⊎◌, IsErrAnd, Error, Slot, either_bits, low_bits, bits_of_word, word_more, AnswersSome, nulls, RefusesFirst, answers_ok, AnswersFrom, AppendsAnswers, RefusesBelow, answers_at, answers_parts, parts_of, Result, Ok, Err, not, ◌==◌, length-zip}

-- more answers behind some
pub answers_join : {Y : Type 0} (R : ℕ → Y → Type 0) (n m : ℕ) (ys zs : List Y) → n + length ys ≡ m → AnswersFrom R n ys → AnswersFrom R m zs → AnswersFrom R n (ys ++ zs)
answers_join R n m [] zs is some more = subst (λ k. AnswersFrom R k zs) (omega (arith, is)) more
answers_join R n m (y ∷ ys) zs is some more = (some.0, answers_join R (suc n) m ys zs (omega (arith, is)) some.1 more)

-- one more
pub answers_more : {Y : Type 0} (R : ℕ → Y → Type 0) (n m : ℕ) (ys : List Y) (y : Y) → n + length ys ≡ m → AnswersFrom R n ys → R m y → AnswersFrom R n (ys ++ y ∷ [])
answers_more R n m ys y is some one = answers_join R n m ys (y ∷ []) is some (one, tt)

-- pairs of lists that are cut at one place
pub zip-append : {X Y : Type 0} (xs : List X) (ys : List Y) (us : List X) (vs : List Y) → length xs ≡ length ys → zip (xs ++ us) (ys ++ vs) ≡ zip xs ys ++ zip us vs
zip-append [] [] us vs long = refl
zip-append (x ∷ xs) (y ∷ ys) us vs long = ap (λ ps. (x, y) ∷ ps) (zip-append xs ys us vs (omega (arith, long)))
zip-append xs ys us vs long = absurd (omega (arith, long))

length-zip_same : {X Y : Type 0} (xs : List X) (ys : List Y) → length xs ≡ length ys → length (zip xs ys) ≡ length xs
length-zip_same xs ys long = omega (arith, long, length-zip xs ys)

-- answers to numbers of rows are answers to what stands there
answers_from : {X Y : Type 0} (S : ℕ → Y → Type 0) (R : X → Y → Type 0) (n : ℕ) (xs : List X) (ys : List Y) → length ys ≡ length xs → AnswersFrom S n ys → ((k : ℕ) (y : Y) → S (n + k) y → answers_at R xs k y) → AllZip R xs ys
answers_from S R n [] [] long each at = tt
answers_from S R n (x ∷ xs) (y ∷ ys) long each at =
    let here = at 0 y (subst (λ k. S k y) (omega arith) each.0) in
    let is : here.0 ≡ x = cc here.1 in
    let next = λ (k : ℕ) (z : _) (answered : S (suc n + k) z). at (suc k) z (subst (λ j. S j z) (omega arith) answered) in
    (subst (λ a. R a y) is here.2, answers_from S R (suc n) xs ys (omega (arith, long)) each.1 next)
answers_from S R n xs ys long each at = absurd (omega (arith, long))

pub answers_each : {X Y : Type 0} (S : ℕ → Y → Type 0) (R : X → Y → Type 0) (xs : List X) (ys : List Y) → length ys ≡ length xs → AnswersFrom S 0 ys → ((k : ℕ) (y : Y) → S k y → answers_at R xs k y) → AllZip R xs ys
answers_each S R xs ys long each at = answers_from S R 0 xs ys long each (λ k y answered. at k y (subst (λ j. S j y) (omega arith) answered))

-- and so is the first refusal
refuses_from : {X Y E : Type 0} (S : ℕ → Result Y E → Type 0) (R : X → Result Y E → Type 0) (n : ℕ) (xs : List X) (accepted : List Y) (e : E) → length accepted < length xs → AnswersFrom (answers_ok S) n accepted → S (n + length accepted) (Err e) → ((k : ℕ) (r : Result Y E) → S (n + k) r → answers_at R xs k r) → RefusesFirst R xs e
refuses_from S R n [] accepted e within accepts refuses at = absurd (omega (arith, within))
refuses_from S R n (x ∷ xs) [] e within accepts refuses at =
    let here = at 0 (Err e) refuses in
    let is : here.0 ≡ x = cc here.1 in
    record { before = []; refused = x; after = xs; arguments = refl; accepts = All-nil _; refuses = subst (λ a. R a (Err e)) is here.2 }
refuses_from {Y = Y} S R n (x ∷ xs) (y ∷ ys) e within accepts refuses at =
    let here = at 0 (Ok y) (subst (λ k. S k (Ok y)) (omega arith) accepts.0) in
    let is : here.0 ≡ x = cc here.1 in
    let next = λ (k : ℕ) (r : _) (answered : S (suc n + k) r). at (suc k) r (subst (λ j. S j r) (omega arith) answered) in
    let rest = refuses_from S R (suc n) xs ys e (omega (arith, within)) accepts.1 (subst (λ j. S j (Err e)) (omega arith) refuses) next in
    record { before = x ∷ rest.before; refused = rest.refused; after = rest.after; arguments = ap (λ all. x ∷ all) rest.arguments; accepts = All-cons (λ a. (b : Y) × answers_ok R a b) x rest.before (y, subst (λ a. R a (Ok y)) is here.2) rest.accepts; refuses = rest.refuses }

pub refuses_first : {X Y E : Type 0} (S : ℕ → Result Y E → Type 0) (R : X → Result Y E → Type 0) (xs : List X) (e : E) → RefusesBelow S (length xs) e → ((k : ℕ) (r : Result Y E) → S k r → answers_at R xs k r) → RefusesFirst R xs e
refuses_first S R xs e below at = refuses_from S R 0 xs below.accepted e below.within below.accepts (subst (λ j. S j (Err e)) (omega arith) below.refuses) (λ k r answered. at k r (subst (λ j. S j r) (omega arith) answered))

-- answers by their values and bits
pub record HaveParts {X Y : Type 0} (R : X → Option Y → Type 0) (default : Y) (xs : List X) (ys : List Y) (bits : List Bool) : Type 0 where
  pub answers : List (Option Y)
  pub each : AllZip R xs answers
  pub values : ys ≡ map (λ answer. unwrap_or answer default) answers
  pub unset : map not bits ≡ map is_none answers

unset_is_none : {Y : Type 0} (answer : Option Y) (default : Y) (parts : Y × Bool) → parts ≡ parts_of default answer → not parts.1 ≡ is_none answer
unset_is_none None default parts is = ap (λ p. not p.1) is
unset_is_none (Some y) default parts is = ap (λ p. not p.1) is

pub have_parts : {X Y : Type 0} (R : X → Option Y → Type 0) (default : Y) (xs : List X) (ys : List Y) (bits : List Bool) → length ys ≡ length xs → length bits ≡ length xs → AllZip (answers_parts R default) xs (zip ys bits) → HaveParts R default xs ys bits
have_parts R default [] [] [] long marked each = record { answers = []; each = tt; values = refl; unset = refl }
have_parts R default (x ∷ xs) (y ∷ ys) (b ∷ bits) long marked each =
    let rest = have_parts R default xs ys bits (omega (arith, long)) (omega (arith, marked)) each.1 in
    let answer = each.0.0 in
    let value : y ≡ unwrap_or answer default = ap (λ p. p.0) each.0.2 in
    let bit = unset_is_none answer default (y, b) each.0.2 in
    record { answers = answer ∷ rest.answers; each = (each.0.1, rest.each); values = (λ i. value i ∷ rest.values i); unset = (λ i. bit i ∷ rest.unset i) }
have_parts R default xs ys bits long marked each = absurd (omega (arith, long, marked))

-- one more value behind those so far, and its bit in the word
pub appends_more : {Y : Type 0} (R : ℕ → Y × Bool → Type 0) (first k : ℕ) (old new : List Y) (word : ℕ) (value : Y) (bit : Bool) → k < 64 → AppendsAnswers R first k old new word → R (first + k) (value, bit) → AppendsAnswers R first (k + 1) old (new ++ value ∷ []) (bit_or word (from_bool bit * 2 ^ k % 18446744073709551616))
appends_more R first k old new word value bit below so_far answered =
    let joined = zip-append so_far.more so_far.bits (value ∷ []) (bit ∷ []) (so_far.values_count ∙ sym so_far.bits_count) in
    let long = length-zip_same so_far.more so_far.bits (so_far.values_count ∙ sym so_far.bits_count) in
    record {
      more = so_far.more ++ value ∷ [];
      bits = so_far.bits ++ bit ∷ [];
      values = ap (λ all. all ++ value ∷ []) so_far.values ∙ append_assoc old so_far.more (value ∷ []);
      values_count = grind (arith, common_steps, so_far.values_count);
      bits_count = grind (arith, common_steps, so_far.bits_count);
      gathered = word_more so_far.bits bit word k so_far.bits_count below so_far.gathered;
      each = rw joined (answers_more R first (first + k) (zip so_far.more so_far.bits) (value, bit) (omega (arith, long, so_far.values_count)) so_far.each answered);
    }

-- the values and the bits of a whole word more
pub answers_append : {Y : Type 0} (R : ℕ → Y × Bool → Type 0) (row count : ℕ) (old new : List Y) (old_bits new_bits : List Bool) (word : ℕ) → length old ≡ row → length old_bits ≡ row → AnswersFrom R 0 (zip old old_bits) → AppendsAnswers R row count old new word → new_bits ≡ old_bits ++ low_bits word count → AnswersFrom R 0 (zip new new_bits)
answers_append R row count old new old_bits new_bits word long marked each more bits =
    let behind = bits_of_word more.bits word count more.gathered more.bits_count in
    let long_pairs = length-zip_same old old_bits (long ∙ sym marked) in
    let joined = zip-append old old_bits more.more more.bits (long ∙ sym marked) in
    rw (bits, behind, more.values, joined) (answers_join R 0 row (zip old old_bits) (zip more.more more.bits) (omega (arith, long_pairs, long)) each more.each)

pub values_appended : {Y : Type 0} (R : ℕ → Y × Bool → Type 0) (row count : ℕ) (old new : List Y) (word : ℕ) → length old ≡ row → AppendsAnswers R row count old new word → length new ≡ row + count
values_appended R row count old new word long more = ap length more.values ∙ grind (arith, common_steps, long, more.values_count)

pub bits_appended : (bits : List Bool) (word row count : ℕ) → length bits ≡ row → length (bits ++ low_bits word count) ≡ row + count
bits_appended bits word row count long =
    let more = length-map-range_with_len (λ k. bit_at word k == 1) 0 count in
    grind (arith, common_steps, long, more)

-- the pair of values of a row
pub pair_there : {X Y : Type 0} (xs : List X) (ys : List Y) (row : ℕ) → length xs ≡ length ys → row < length xs → row < length (zip xs ys)
pair_there xs ys row long within = omega (arith, within, length-zip_same xs ys long)

pub pair_at : {X Y : Type 0} (xs : List X) (ys : List Y) (row : ℕ) (x : X) (y : Y) → length xs ≡ length ys → row < length xs → x ≡ get_or xs row x → y ≡ get_or ys row y → get_or (zip xs ys) row (x, y) ≡ (x, y)
pair_at xs ys row x y long within left right = get_or-zip xs ys row (x, y) within (omega (arith, long, within)) ∙ (λ i. (sym left i, sym right i))

pub slice_get_is : {X : Type 0} (xs : List X) (row : ℕ) (x : X) → row < length xs → get_or xs row x ≡ x → slice_get xs row ≡ Some x
slice_get_is xs row x within is = slice_get-get_or xs row x within ∙ ap Some is

-- as many pairs as values
pub pairs_long : {X Y Z : Type 0} (zs : List Z) (xs : List X) (ys : List Y) → length zs ≡ length xs → length xs ≡ length ys → length zs ≡ length (zip xs ys)
pairs_long zs xs ys long same = long ∙ sym (length-zip_same xs ys same)

-- an error by what was answered to rows, as one by what stands there
pub failed_first : {X Y : Type 0} (S : ℕ → Result Y Error → Type 0) (R : X → Result Y Error → Type 0) (n : ℕ) (xs : List X) (e : Error) → n ≡ length xs → (e ≡ Error.OutOfMemory) ⊎ RefusesBelow S n e → ((k : ℕ) (r : Result Y Error) → S k r → answers_at R xs k r) → (e ≡ Error.OutOfMemory) ⊎ RefusesFirst R xs e
failed_first S R n xs e long (inl memory) at = inl memory
failed_first S R n xs e long (inr below) at = inr (refuses_first S R xs e (subst (λ m. RefusesBelow S m e) long below) at)

-- an error that is passed on
pub passed : {A : Type 0} (r : Result A Error) (e : Error) (P : Error → Type 0) → IsErrAnd r (λ x. x ≡ e) → P e → IfErr r P
passed (Ok x) e P is holds = absurd is
passed (Err x) e P is holds = subst P (sym is) holds

-- values and null rows by one answer to each argument
pub answers_some : {X Y : Type 0} (R : X → Option Y → Type 0) (default : Y) (xs : List X) (before : List Bool) (ys made : List Y) (bits : List Bool) (rows : List Slot) → length ys ≡ length xs → length bits ≡ length xs → AllZip (answers_parts R default) xs (zip ys bits) → made ≡ ys → nulls rows ≡ either_bits before (map not bits) → AnswersSome R default xs before made rows
answers_some R default xs before ys made bits rows long marked each values null_rows =
    let have = have_parts R default xs ys bits long marked each in
    record { answers = have.answers; each = have.each; values = values ∙ have.values; null_rows = null_rows ∙ ap (either_bits before) have.unset }

pub zipped_long : {Y : Type 0} (ys : List Y) (bits : List Bool) (n : ℕ) → length ys ≡ n → length bits ≡ n → length (zip ys bits) ≡ n
zipped_long ys bits n long marked = length-zip_same ys bits (long ∙ sym marked) ∙ long

-- two facts of what is answered give a third
pub by_both : {A E : Type 0} (r : Result A E) (P Q S : A → Type 0) → IfOk r P → IfOk r Q → ((x : A) → P x → Q x → S x) → IfOk r S
by_both (Ok x) P Q S p q both = both x p q
by_both (Err e) P Q S p q both = tt
