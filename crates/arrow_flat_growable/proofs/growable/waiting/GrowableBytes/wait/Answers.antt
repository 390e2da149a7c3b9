use Rattle.arrow_flat_growable.proofs.Common.{arith, ◌≡◌, ◌∙◌, ◌≤◌, ◌++◌, ap, sym, subst, map, row_bytes, total, Waits, waiting_rows, with_waiting}
use Rattle.arrow_flat_growable.proofs.WaitingLemmas.{still_waiting}
use Rattle.arrow_flat_growable.proofs.growable.waiting.GrowableBytes.wait.Goals as goal

pub invariant_of-self-2 : goal.invariant_of-self-2
invariant_of-self-2 g c =
    let parts = map (λ x. x.values) c.self.inside.arrays.items in
    let same : parts ≡ c.args.self.now.0 = ap (λ v. v.0) c.self.view_is ∙ c.in_ok-copy_many.ensures.same in
    let waits = subst (λ ps. Waits ps c.args.rows) (sym same) c.requires.wait in
    let few = subst (λ ps. total (waiting_rows ps c.args.rows) ≤ c.args.bytes) (sym same) c.requires.few in
    still_waiting parts c.self.inside.rows.0 (row_bytes c.self.inside.rows.1) c.self.inside.waiting.items c.push_rows.new.waiting.items c.self.inside.most _ c.args.bytes c.in-Some.most c.args.rows c.self.invariant waits few c.in_ok-push_rows.ensures.ok c.in-Some.ensures.0 c.in-Some.ensures.1

pub returns-clause-ok : goal.returns-clause-ok
returns-clause-ok g c =
    let parts = map (λ x. x.values) c.self.inside.arrays.items in
    let same : parts ≡ c.args.self.now.0 = ap (λ v. v.0) c.self.view_is ∙ c.in_ok-copy_many.ensures.same in
    let rows : with_waiting parts (row_bytes c.self.inside.rows.1) c.self.inside.waiting.items ≡ c.args.self.now.1 = ap (λ v. v.1) c.self.view_is ∙ c.in_ok-copy_many.ensures.ok in
    let waits = subst (λ ps. Waits ps c.args.rows) (sym same) c.requires.wait in
    (c.in_ok-push_rows.ensures.ok parts c.self.invariant.wait waits).1 (row_bytes c.self.inside.rows.1) ∙ (λ j. rows j ++ waiting_rows (same j) c.args.rows)

pub returns-clause-few : goal.returns-clause-few
returns-clause-few g c is =
    let parts = map (λ x. x.values) c.self.inside.arrays.items in
    let same : parts ≡ c.args.self.now.0 = ap (λ v. v.0) c.self.view_is ∙ c.in_ok-copy_many.ensures.same in
    let waits = subst (λ ps. Waits ps c.args.rows) (sym same) c.requires.wait in
    let few = subst (λ ps. total (waiting_rows ps c.args.rows) ≤ c.args.bytes) (sym same) c.requires.few in
    let all = still_waiting parts c.self.inside.rows.0 (row_bytes c.self.inside.rows.1) c.self.inside.waiting.items c.push_rows.new.waiting.items c.self.inside.most g.O.Index.greatest c.args.bytes c.in-Some.most c.args.rows c.self.invariant waits few c.in_ok-push_rows.ensures.ok c.in-Some.ensures.0 c.in-Some.ensures.1 in
    omega (arith, all.few, all.fits)
