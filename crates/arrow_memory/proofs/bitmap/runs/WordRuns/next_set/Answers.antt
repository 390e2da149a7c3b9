use Rattle.arrow_memory.proofs.Common.{◌≡◌, ◌++◌, ◌+◌, ◌-◌, ◌/◌, ◌^◌, true, false, replicate, ap, sym, ◌∙◌, arith, append-nil, low_bits}
use Rattle.arrow_memory.proofs.RunLemmas.{low_bits_run, low_bits_runs}
use Rattle.arrow_memory.proofs.bitmap.runs.WordRuns.next_set.Goals.{then-self-gt0, else-self-gt0}
use Rattle.arrow_memory.proofs.bitmap.runs.WordRuns.next_set.Goals as goal

pub returns-then-unset-self-clause-bits : goal.returns-then-unset-self-clause-bits
returns-then-unset-self-clause-bits c =
    let word = c.self.inside.word in
    let unset = c.low_run-unset.result in
    let all : c.self.inside.count ≡ unset = omega (arith, c.if-unset-self.true) in
    sym c.self.view_is ∙ (ap (low_bits word) all ∙ (low_bits_run word c.self.inside.count unset false c.low_run-unset.ensures ∙ sym (append-nil (replicate unset false))))

pub returns-clause-bits : goal.returns-clause-bits
returns-clause-bits c =
    let word = c.self.inside.word in
    let unset = c.low_run-unset.result in
    let set = c.low_run-set.result in
    let left = c.self.inside.count - (unset + set) in
    let behind = word / 2 ^ unset / 2 ^ set in
    let all : unset + (set + left) ≡ c.self.inside.count = omega (arith, c.low_run-unset.ensures.within, c.low_run-set.ensures.within) in
    let rest : low_bits behind left ≡ low_bits c.if-self-gt0.self left = elim c.if-self-gt0.branch [
      | then-self-gt0 w ↦ ap (λ n. low_bits n left) (sym w.self-is)
      | else-self-gt0 w ↦
          let none : left ≡ 0 = omega (arith, w.if-self-gt0) in
          ap (low_bits behind) none ∙ sym (ap (low_bits c.if-self-gt0.self) none)
    ] in
    sym c.self.view_is ∙ (low_bits_runs word c.self.inside.count unset set left c.low_run-unset.ensures c.low_run-set.ensures all ∙ ap (λ bits. replicate unset false ++ (replicate set true ++ bits)) rest)
