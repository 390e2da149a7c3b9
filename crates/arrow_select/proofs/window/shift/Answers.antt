use Rattle.arrow_select.proofs.Common.{rules, ◌≡◌, ◌-◌, w64, unsigned_abs, ap, sym, subst, ◌∙◌, to_z-of_z, IfOk-weaker, SFits, Fits, shifted, any_array_type, any_array_rows, between}
use Rattle.arrow_select.proofs.ShiftLemmas.{shifted_back, shifted_forth}
use Rattle.arrow_select.proofs.window.shift.Goals as goal
use Rattle.arrow_select.proofs.window.shift.Goals.{Joined-offset-gt0, then-offset-gt0, else-offset-gt0}

-- the rows that are moved are those between the nulls
moved : (c : Joined-offset-gt0) → shifted (any_array_rows c.args.array.now) c.args.offset (any_array_type c.args.array.now) ≡ between (any_array_rows c.args.array.now) c.if-offset-gt0.front (c.unsigned_abs-distance.result - c.if-offset-gt0.front) (any_array_type c.args.array.now)
moved c =
    let xs = any_array_rows c.args.array.now in
    let t = any_array_type c.args.array.now in
    let fits_64 : SFits w64 c.args.offset = search rules in
    let distance = c.unsigned_abs-distance.ensures.value ∙ ap unsigned_abs (to_z-of_z w64 c.args.offset fits_64) in
    elim c.if-offset-gt0.branch [
      | then-offset-gt0 w ↦ shifted_back xs c.args.offset t _ _ distance (search rules) w.front-is
      | else-offset-gt0 w ↦ shifted_forth xs c.args.offset t _ _ distance (search rules) w.front-is
    ]

pub returns-clause-overflow : goal.returns-clause-overflow
returns-clause-overflow c overflows fits =
    c.rows_between.ensures.overflow overflows (subst (Fits (any_array_type c.args.array.now)) (moved (goal.at.returns-clause-overflow c).Joined-offset-gt0) fits)

pub returns-clause-rows : goal.returns-clause-rows
returns-clause-rows c =
    let same = moved (goal.at.returns-clause-rows c).Joined-offset-gt0 in
    IfOk-weaker c.rows_between.result _ _ (λ array is. is ∙ sym same) c.rows_between.ensures.rows
