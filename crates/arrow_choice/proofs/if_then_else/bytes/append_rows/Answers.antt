use Rattle.arrow_choice.proofs.Common.{arith, ◌≡◌, ◌+◌, ◌*◌, ◌<◌, ◌∙◌, Bool, Err, ap, false, get_or, if◌then◌else◌, length, nat_eq, pos, refl, true, option_copied, length-map, shr_and_one, passed_on, row_chosen, pieces, [], ◌/◌, ◌^◌, bit_and, bit_within}
use Rattle.arrow_choice.proofs.ChosenRuns.{row_appended, row_is, row_passes}
use Rattle.arrow_choice.proofs.if_then_else.bytes.append_rows.Given as given
use Rattle.arrow_choice.proofs.if_then_else.bytes.append_rows.Goals as goal
use Rattle.arrow_choice.proofs.if_then_else.bytes.append_rows.Goals.{After-either-side}

-- the row that is appended is that which the bits choose
row : (g : given.Over) (c : After-either-side g) → (if nat_eq (bit_and (c.valid_word-valid.result / 2 ^ c.loop-k.k) 1) 1 then get_or (pieces c.either-side.result.0.now c.either-side.result.1.now) (64 * c.args.j + c.loop-k.k) [] else []) ≡ row_chosen (option_copied c.args.validity) c.args.bits.now (pieces c.args.left.0.now c.args.left.1.now) (pieces c.args.right.0.now c.args.right.1.now) (64 * c.args.j + c.loop-k.k)
row g c =
    let v = option_copied c.args.validity in
    let bits = c.args.bits.now in
    let l = pieces c.args.left.0.now c.args.left.1.now in
    let r = pieces c.args.right.0.now c.args.right.1.now in
    let k = c.loop-k.k in
    let i = 64 * c.args.j + k in
    let below : k < c.args.count = c.loop-k-test.true in
    let bit = ap (λ b. nat_eq b 1) (shr_and_one c.word-word.result k) ∙ c.word-word.ensures.each k (omega (arith, below, c.requires.in_word)) in
    let pushed : (b : Bool) → pieces (if b then c.args.left else c.args.right).0.now (if b then c.args.left else c.args.right).1.now ≡ (if b then l else r) = elim [ true ↦ refl | false ↦ refl ] in
    let side = ap (λ s. pieces s.0.now s.1.now) (c.either-side.ensures ∙ ap (λ b. if b then c.args.left else c.args.right) bit) ∙ pushed (get_or bits i false) in
    let valid = ap (λ b. nat_eq b 1) (shr_and_one c.valid_word-valid.result k) ∙ c.valid_word-valid.ensures k (omega (arith, below, c.requires.in_word)) (bit_within v (length bits) i c.requires.fits (omega (arith, below, c.requires.part))) in
    row_is v bits l r _ i _ valid side

pub returns-in_err-append_row-clause-overflow : goal.returns-in_err-append_row-clause-overflow
returns-in_err-append_row-clause-overflow g c overflows =
    let here = row g (goal.at.returns-in_err-append_row-clause-overflow g c).After-either-side in
    let over = c.in_err-append_row.ensures.overflow (ap Err (passed_on c.from_residual.result _ _ c.from_residual.ensures.1 overflows)) in
    row_passes _ (64 * c.args.j) c.args.count c.loop-k.k g.O.Index.greatest c.args.offsets.now c.loop-k.offsets c.args.bytes.now.items c.loop-k.bytes.items _ (omega (arith, c.len-2.ensures.sound.some, length-map c.args.offsets.now pos)) c.loop-k-test.true here c.loop-k.invariant.rows over

pub loop-k-preserved : goal.loop-k-preserved
loop-k-preserved g c =
    let here = row g (goal.at.loop-k-preserved g c).After-either-side in
    record { rows = row_appended _ (64 * c.args.j) c.loop-k.k _ c.args.offsets.now c.loop-k.offsets c.append_row.new.offsets c.args.bytes.now.items c.loop-k.bytes.items c.append_row.new.bytes.items (omega (arith, c.len-2.ensures.sound.some, length-map c.args.offsets.now pos)) here c.loop-k.invariant.rows c.in_ok-append_row.ensures.ok }
