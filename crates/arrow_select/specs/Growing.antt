-- Rows that a kernel appends.
use Rattle.std.specs.Prelude.{◌-◌, ℕ, List, ◌++◌, length, replicate}
use Rattle.arrow_types.specs.ArrowType.{ArrowType}
use Rattle.arrow_types.specs.Slot.{Slot, null_slot}
use Rattle.arrow_memory.specs.Sliced.{sliced}

-- null slots in front of rows and behind them, so that there are as many as xs has
abbrev pub between : List Slot → ℕ → ℕ → ArrowType → List Slot
between xs front behind t =
    (replicate front (null_slot t) ++ sliced xs behind (length xs - front - behind)) ++ replicate behind (null_slot t)
