use Rattle.arrow_flat_growable.proofs.Common.{arith, ◌≡◌, ◌-◌, ap, subst, length, set, JoinsLast}
use Rattle.arrow_flat_growable.proofs.WaitingLemmas.{joined_behind}
use Rattle.arrow_flat_growable.proofs.growable.waiting.push_rows.Goals as goal

pub returns-in-Some-clause-ok : goal.returns-in-Some-clause-ok
returns-in-Some-clause-ok c =
    let calls = c.args.waiting.now.items in
    let both = c.in-Some.both in
    let joins = subst (λ xs. JoinsLast xs c.args.rows both) c.deref.ensures.value c.in-Some.ensures.both in
    let count : c.len-last.result ≡ length calls = omega (arith, c.len-last.ensures, c.deref.ensures.len, ap length c.deref.ensures.value) in
    joined_behind calls _ c.args.rows both (omega (arith, c.in-Some.ensures.some, ap length c.deref.ensures.value)) joins (ap (λ n. set calls (n - 1) both) count)
