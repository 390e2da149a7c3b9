use Rattle.arrow_take.proofs.Common.{◌≡◌, ◌*◌, ◌≤◌, map, option_copied, masked, sliced, word_of, named_bit}
use Rattle.arrow_take.proofs.take.indices.valid_bits_at.Given as goal

-- the word holds the bits of the indices so far
abbrev pub invariant-loop-k : goal.invariant-loop-k
invariant-loop-k g l =
    (l.k ≤ l.count) × (l.word ≡ word_of (map (named_bit l.bits) (sliced (masked (option_copied l.validity) (map g.I.NativeType.slot l.stored)) (64 * l.j) l.k)))
