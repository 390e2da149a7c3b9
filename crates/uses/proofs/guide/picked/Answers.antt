use Rattle.uses.proofs.Common.{boolean_rows, mask_of, mask_of-bits, ◌∙◌, ◌≡◌}
use Rattle.uses.proofs.guide.picked.Goals as goal

pub returns-clause-rows : goal.returns-clause-rows
returns-clause-rows c =
    let mask : mask_of (boolean_rows c.new-mask.result) ≡ c.args.mask.now = rw c.new-mask.ensures (mask_of-bits c.in_ok-mask.mask ∙ c.in_ok-mask.ensures.ok) in
    rw (← mask, ← c.in_ok-kept.ensures.rows, ← c.in_ok-kept.ensures.array_type) c.take.ensures.rows
