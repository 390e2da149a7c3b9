use Rattle.arrow_choice.proofs.Common.{arith, All, ◌≡◌, ◌<◌, ◌≤◌, ◌∷◌, ◌∙◌, ℕ, Err, List, [], ap, length, map, refl, rules, subst, sym, option_copied, length-map, Fits, masked, Boolean, last_of, byte_slots, row_bytes, length-byte_slots, FitsRows, rows_by, pieces, total, passed_on, AppendsRows, all_chosen, IsBytesType}
use Rattle.arrow_choice.proofs.ChosenBytes.{ChoosesBytes, bytes_chosen, made_allowed, made_fit, made_passes, rows_in}
use Rattle.arrow_choice.proofs.ChosenLemmas.{chooses}
use Rattle.arrow_choice.proofs.ChosenRows.{made_fits, rows_are, rows_end, rows_long}
use Rattle.arrow_choice.proofs.if_then_else.bytes.chosen_byte_rows.Given as given
use Rattle.arrow_choice.proofs.if_then_else.bytes.chosen_byte_rows.Goals as goal
use Rattle.arrow_choice.proofs.if_then_else.bytes.chosen_byte_rows.Goals.{In_ok-validity, After-as_ref, In_ok-bytes}

pub chosen_parts-requires-clause-left : goal.chosen_parts-requires-clause-left
chosen_parts-requires-clause-left g c =
    let p = c.args.predicate.now in
    let l = c.args.lhs.now in
    let slot = g.K.ByteKind.slot in
    (omega (arith, c.requires.lengths.0, c.len.ensures.rows, c.len.ensures.values, c.len-2.ensures.rows, c.len-2.ensures.values, length-byte_slots slot l.values, length-map p.values Boolean, ap length c.offsets.ensures, ap length c.values-3.ensures), omega (arith, c.values.ensures.within, ap last_of c.offsets.ensures, ap length (c.as_slice.ensures ∙ c.values.ensures.same)))

pub chosen_parts-requires-clause-right : goal.chosen_parts-requires-clause-right
chosen_parts-requires-clause-right g c =
    let p = c.args.predicate.now in
    let r = c.args.rhs.now in
    let slot = g.K.ByteKind.slot in
    (omega (arith, c.requires.lengths.1, c.len-3.ensures.rows, c.len-3.ensures.values, c.len-2.ensures.rows, c.len-2.ensures.values, length-byte_slots slot r.values, length-map p.values Boolean, ap length c.offsets-2.ensures, ap length c.values-3.ensures), omega (arith, c.values-2.ensures.within, ap last_of c.offsets-2.ensures, ap length (c.as_slice-2.ensures ∙ c.values-2.ensures.same)))

-- the texts or bytes of both arrays, and the validity of the rows that are chosen
chosen_of : (g : given.Over) (c : In_ok-validity g) → ChoosesBytes g.K.ByteKind.slot g.O.Offset.IS_LARGE g.O.Index.greatest c.args.predicate.now c.args.lhs.now c.args.rhs.now c.in_ok-validity.validity
chosen_of g c =
    record {
      all = chooses g.K.ByteKind.slot c.args.predicate.now (rows_in c.args.lhs.now) (rows_in c.args.rhs.now) _ c.in_ok-validity.validity _ _ c.requires.lengths c.in_ok-validity.ensures.predicate c.validity.ensures.fits c.validity-2.ensures.fits c.validity.ensures.same c.validity-2.ensures.same refl c.in_ok-validity.ensures.ok;
      counts = g.met.K.GrowableKind.counts;
      kind = subst (IsBytesType g.O.Offset.IS_LARGE) (sym c.data_type-data_type.ensures.kind) (g.met.K.GrowableKind.lies_as_bytes g.O.Offset.IS_LARGE);
      most = g.met.O.Offset.greatest_is;
    }

-- the rows that are chosen of the parts that are lent are those of both arrays
same_rows : (g : given.Over) (c : After-as_ref g) → all_chosen (option_copied c.as_ref.result) c.values-3.result.now (pieces c.offsets.result.now c.as_slice.result.now) (pieces c.offsets-2.result.now c.as_slice-2.result.now) ≡ all_chosen c.in_ok-validity.validity c.args.predicate.now.values (row_bytes c.args.lhs.now.values) (row_bytes c.args.rhs.now.values)
same_rows g c =
    let left : pieces c.offsets.result.now c.as_slice.result.now ≡ row_bytes c.args.lhs.now.values = λ i. pieces (c.offsets.ensures i) ((c.as_slice.ensures ∙ c.values.ensures.same) i) in
    let right : pieces c.offsets-2.result.now c.as_slice-2.result.now ≡ row_bytes c.args.rhs.now.values = λ i. pieces (c.offsets-2.ensures i) ((c.as_slice-2.ensures ∙ c.values-2.ensures.same) i) in
    λ i. all_chosen (c.as_ref.ensures.value i) (c.values-3.ensures i) (left i) (right i)

-- and so they lie in the new array
lie : (g : given.Over) (c : In_ok-bytes g) (rows : List (List ℕ)) → all_chosen (option_copied c.as_ref.result) c.values-3.result.now (pieces c.offsets.result.now c.as_slice.result.now) (pieces c.offsets-2.result.now c.as_slice-2.result.now) ≡ rows → AppendsRows rows (0 ∷ []) [] c.in_ok-offsets.offsets c.in_ok-bytes.bytes
lie g c rows same =
    subst (λ rows. AppendsRows rows (0 ∷ []) [] c.in_ok-offsets.offsets c.in_ok-bytes.bytes) same (record { ends = c.in_ok-offsets.ensures.offsets; items = c.in_ok-bytes.ensures.ok ∙ c.in_ok-offsets.ensures.bytes })

pub returns-in_err-offsets-clause-overflow : goal.returns-in_err-offsets-clause-overflow
returns-in_err-offsets-clause-overflow g c overflows =
    let at = goal.at.returns-in_err-offsets-clause-overflow g c in
    let over = c.in_err-offsets.ensures.overflow (ap Err (passed_on c.from_residual-in_err-offsets.result _ _ c.from_residual-in_err-offsets.ensures.1 overflows)) in
    made_passes (chosen_of g at.In_ok-validity) (subst (λ rows. g.O.Index.greatest < total rows) (same_rows g at.After-as_ref) over)

pub new-requires-clause-length : goal.new-requires-clause-length
new-requires-clause-length g c =
    let at = goal.at.new-requires-clause-length g c in
    let made = lie g at.In_ok-bytes _ (same_rows g at.After-as_ref) in
    subst (FitsRows c.in_ok-validity.validity) (sym (rows_long made)) (made_fits (chosen_of g at.In_ok-validity).all)

pub new-requires-clause-offsets : goal.new-requires-clause-offsets
new-requires-clause-offsets g c = rows_end (lie g (goal.at.new-requires-clause-offsets g c).In_ok-bytes _ refl)

pub new-requires-clause-text : goal.new-requires-clause-text
new-requires-clause-text g c =
    let at = goal.at.new-requires-clause-text g c in
    let made = lie g at.In_ok-bytes _ (same_rows g at.After-as_ref) in
    subst (All g.K.ByteKind.Allows) (sym (rows_are made)) (made_allowed (chosen_of g at.In_ok-validity) g.K.ByteKind.Allows g.met.K.GrowableKind.allows_empty c.values.ensures.allowed c.values-2.ensures.allowed)

pub returns-clause-rows : goal.returns-clause-rows
returns-clause-rows g c =
    let at = goal.at.returns-clause-rows g c in
    let made = lie g at.In_ok-bytes _ (same_rows g at.After-as_ref) in
    ap (rows_by (byte_slots g.K.ByteKind.slot)) c.new.ensures ∙ (ap (λ rows. masked c.in_ok-validity.validity (map g.K.ByteKind.slot rows)) (rows_are made) ∙ bytes_chosen (chosen_of g at.In_ok-validity))

pub returns-clause-fits : goal.returns-clause-fits
returns-clause-fits g c =
    let at = goal.at.returns-clause-fits g c in
    let l = c.args.lhs.now in
    let same_type : c.new.result.arrow_type ≡ l.arrow_type = search rules in
    let few = subst (λ rows. total rows ≤ g.O.Index.greatest) (same_rows g at.After-as_ref) c.in_ok-offsets.ensures.few in
    let fit = made_fit (chosen_of g at.In_ok-validity) (omega (arith, c.len-2.ensures.values, c.len-2.type_inv, length-map c.args.predicate.now.values Boolean)) few in
    subst (λ t. Fits t (rows_by (byte_slots g.K.ByteKind.slot) c.new.result)) (sym same_type) (subst (Fits l.arrow_type) (sym (returns-clause-rows g c)) fit)
