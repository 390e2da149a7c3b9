use Rattle.arrow_flat_growable.proofs.Common.{arith, ◌≡◌, ◌∙◌, true, false, replicate, length, ap, sym, row_bytes, sliced, filled}
use Rattle.arrow_flat_growable.proofs.GrownRowLemmas.{all_set}
use Rattle.arrow_flat_growable.proofs.WaitingLemmas.{all_bits_set, lie_there, no_bit_set, rows_unset}
use Rattle.arrow_flat_growable.proofs.growable.waiting.rows_under.Goals as goal

pub returns-then-count-len : goal.returns-then-count-len
returns-then-count-len c =
    let start = c.args.start in
    let len = c.len-len.result in
    let long : length c.args.bits.now ≡ len = sym c.len-len.ensures in
    let all : c.args.bits.now ≡ replicate len true = all_bits_set c.args.bits.now c.next_set-nulls.new.self c.next_set-nulls.result.0 c.next_set-nulls.result.1 len (sym c.word_runs-runs.ensures ∙ c.next_set-nulls.ensures.bits) long c.if-count-len.true in
    λ array within arrays bound.
    let rows = row_bytes array in
    (lie_there arrays array c.args.index start len bound (omega (arith, c.requires.some, long)) (omega (arith, within, long)), ap (λ p. sliced (row_bytes p) start len) bound.1 ∙ (sym (all_set rows start len (omega (arith, within, long))) ∙ (λ t. filled (sym all t) (sliced rows start (sym long t)))))

pub returns-then-nulls-len : goal.returns-then-nulls-len
returns-then-nulls-len c =
    let start = c.args.start in
    let len = c.len-len.result in
    let long : length c.args.bits.now ≡ len = sym c.len-len.ensures in
    let none : c.args.bits.now ≡ replicate len false = no_bit_set c.args.bits.now c.next_set-nulls.new.self c.next_set-nulls.result.0 c.next_set-nulls.result.1 len (sym c.word_runs-runs.ensures ∙ c.next_set-nulls.ensures.bits) long c.if-nulls-len.true in
    λ array within arrays bound.
    let rows = row_bytes array in
    (tt, sym (rows_unset rows start len (omega (arith, within, long))) ∙ (λ t. filled (sym none t) (sliced rows start (sym long t))))
