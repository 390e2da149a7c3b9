use Rattle.std.proofs.Common.{◌≡◌, ℕ, ◌<◌, Some}
use Rattle.arrow_types.specs.Slot.{id_at}
use Rattle.arrow_arrays.proofs.array.types.position_among.Given as goal

-- none so far is the id
abbrev pub invariant-loop-i : goal.invariant-loop-i
invariant-loop-i l = (e : ℕ) → e < l.i → id_at (Some l.ids) e ≡ l.id → ⊥
