use Rattle.uses.proofs.Common.{AllZip, IsRowOf, Number, length, map, mask, take, texts_in, ◌≡◌}
use Rattle.uses.proofs.csv.numbers.Given as goal

-- the texts so far are read
abbrev pub invariant-loop-text : goal.invariant-loop-text
invariant-loop-text l = record {
  long : length l.values.items ≡ length l.are_numbers.items;
  rows : AllZip IsRowOf (texts_in (take l.text-index l.texts)) (mask l.are_numbers.items (map Number l.values.items));
}
