use Rattle.arrow_select.proofs.Common.{take, option_copied, KeptColumns, mask_in}
use Rattle.arrow_select.proofs.filter.structure.kept_columns.Given as goal

-- the columns so far are kept
abbrev pub invariant-loop-column : goal.invariant-loop-column
invariant-loop-column l =
    KeptColumns (mask_in l.selection) (option_copied l.validity) (take l.column-index l.columns) l.all.items
