use Rattle.arrow_select.proofs.Common.{◌*◌, []}
use Rattle.arrow_select.proofs.SetLemmas.{KeepsWords}
use Rattle.arrow_select.proofs.filter.words.append_set_bits.Given as goal

-- the bits of the words so far are kept
abbrev pub invariant-loop-j : goal.invariant-loop-j
invariant-loop-j l = KeepsWords l.mask l.bits [] l.kept (64 * l.j)
