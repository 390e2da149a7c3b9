use Rattle.arrow_memory.proofs.Common.{ℕ, ◌≡◌, ◌+◌, ◌*◌, ◌++◌, length, replicate, Bool, List, true, false, ap, sym, ◌∙◌, arith, flat_map, add-mul, length-replicate}
use Rattle.std.proofs.lemmas.List.{append_assoc, length-append}
use Rattle.arrow_memory.proofs.RunLemmas.{repeated_count, repeated_runs}
use Rattle.arrow_memory.proofs.bitmap.Bitmap.repeated.Goals as goal

-- how many bits are left behind the two runs
left : (unset set : ℕ) (bits more : List Bool) → bits ≡ replicate unset false ++ (replicate set true ++ more) → unset + set + length more ≡ length bits
left unset set bits more is =
    omega (arith, ap length is, length-append (replicate unset false) (replicate set true ++ more), length-append (replicate set true) more, length-replicate unset false, length-replicate set true)

pub append_run-requires : goal.append_run-requires
append_run-requires c =
    let next = c.next_set-unset in
    let many = left next.result.0 next.result.1 c.loop-done.left next.new.self next.ensures.bits in
    let most = repeated_count c.args.times c.loop-done.done next.result.0 next.result.1 (length next.new.self) c.args.len (omega (arith, many, c.loop-done.invariant.0)) in
    omega (arith, most, c.loop-done.invariant.1, c.requires.counted)

pub append_run-requires-in-loop-done : goal.append_run-requires-in-loop-done
append_run-requires-in-loop-done c =
    let next = c.next_set-unset in
    let many = left next.result.0 next.result.1 c.loop-done.left next.new.self next.ensures.bits in
    let most = repeated_count c.args.times c.loop-done.done next.result.0 next.result.1 (length next.new.self) c.args.len (omega (arith, many, c.loop-done.invariant.0)) in
    let long = ap length c.in_ok-append_run.ensures.ok ∙ length-append c.loop-done.bits (replicate (next.result.0 * c.args.times) false) in
    omega (arith, most, long, length-replicate (next.result.0 * c.args.times) false, c.loop-done.invariant.1, c.requires.counted)

pub loop-done-preserved : goal.loop-done-preserved
loop-done-preserved c =
    let next = c.next_set-unset in
    let unset = next.result.0 in
    let set = next.result.1 in
    let times = c.args.times in
    let many = left unset set c.loop-done.left next.new.self next.ensures.bits in
    let unset_bits = replicate (unset * times) false in
    let set_bits = replicate (set * times) true in
    let made = c.in_ok-append_run-2.ensures.ok ∙ (ap (λ bits. bits ++ set_bits) c.in_ok-append_run.ensures.ok ∙ append_assoc c.loop-done.bits unset_bits set_bits) in
    let long = ap length made ∙ length-append c.loop-done.bits (unset_bits ++ set_bits) in
    let sum = add-mul c.loop-done.done (unset + set) times in
    let parts = add-mul unset set times in
    let rest = flat_map (replicate {A = Bool} times) next.new.self in
    (omega (arith, many, c.loop-done.invariant.0), omega (arith, long, length-append unset_bits set_bits, length-replicate (unset * times) false, length-replicate (set * times) true, c.loop-done.invariant.1, sum, parts), ap (λ bits. bits ++ rest) made ∙ (append_assoc c.loop-done.bits (unset_bits ++ set_bits) rest ∙ (ap (λ xs. c.loop-done.bits ++ xs) (append_assoc unset_bits set_bits rest ∙ sym (repeated_runs times unset set c.loop-done.left next.new.self next.ensures.bits)) ∙ c.loop-done.invariant.2)))
