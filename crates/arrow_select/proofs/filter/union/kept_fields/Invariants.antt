use Rattle.arrow_select.proofs.Common.{◌≡◌, length, select, union_rows, mask_in, HaveParts}
use Rattle.arrow_select.proofs.filter.union.kept_fields.Given as goal

-- what the fields so far have of the rows that are kept
abbrev pub invariant-loop-f : goal.invariant-loop-f
invariant-loop-f l = record {
  count : length l.fields.items ≡ l.f;
  parts : HaveParts l.array.arrow_type (select (mask_in l.selection) (union_rows l.array)) l.fields.items;
}
