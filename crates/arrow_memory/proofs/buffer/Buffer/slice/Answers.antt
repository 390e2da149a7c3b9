use Rattle.arrow_memory.proofs.Common.{sym, ap, ◌∙◌, ◌+◌, ◌≤◌, length, drop, arith, length-take, sliced}
use Rattle.arrow_memory.proofs.SlicedLemmas.{sliced-sliced}
use Rattle.arrow_memory.proofs.buffer.Buffer.slice.Goals as goal

pub returns : goal.returns
returns g c =
    let part = c.self.inside in
    let cut = length-take part.len (drop part.offset part.values.value.items) in
    let seen = ap length c.self.view_is in
    let within : c.args.offset + c.args.len ≤ part.len = omega arith in
    sym (sliced-sliced part.values.value.items part.offset part.len c.args.offset c.args.len within) ∙ ap (λ xs. sliced xs c.args.offset c.args.len) c.self.view_is
