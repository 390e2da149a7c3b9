use Rattle.arrow_flat_growable.proofs.Common.{◌≡◌, ◌∙◌, ◌++◌, ◌<◌, ap, subst, map, row_bytes, total, filled, length, sliced, with_waiting}
use Rattle.arrow_flat_growable.proofs.ResultLemmas.{on_ok}
use Rattle.arrow_flat_growable.proofs.WaitingLemmas.{appended_behind, not_waiting}
use Rattle.arrow_flat_growable.proofs.growable.waiting.GrowableBytes.append_under.Goals as goal

pub returns-clause-ok : goal.returns-clause-ok
returns-clause-ok g c =
    let kept = not_waiting c.in_ok-wait_under.field-0 c.wait_under.new.self.1 _ c.args.self.now.1 c.in_ok-wait_under.ensures.ok c.if-branch.false in
    let done : row_bytes c.copy_waiting.new.rows.1 ≡ c.args.self.now.1 = c.in_ok-copy_waiting.ensures.ok ∙ (ap (λ xs. with_waiting (map (λ x. x.values) xs) (row_bytes c.self.inside.rows.1) c.self.inside.waiting.items) c.deref.ensures.value ∙ (ap (λ v. v.1) c.self.view_is ∙ kept)) in
    on_ok c.append_under-appended.result c.append_under-appended.ensures.ok (λ is. appended_behind _ c.args.self.now.1 (row_bytes c.copy_waiting.new.rows.1) _ _ c.copy_waiting.new.waiting.items c.in_ok-copy_waiting.ensures.none done is)

pub returns-clause-overflow : goal.returns-clause-overflow
returns-clause-overflow g c over =
    let kept = not_waiting c.in_ok-wait_under.field-0 c.wait_under.new.self.1 _ c.args.self.now.1 c.in_ok-wait_under.ensures.ok c.if-branch.false in
    let done : row_bytes c.copy_waiting.new.rows.1 ≡ c.args.self.now.1 = c.in_ok-copy_waiting.ensures.ok ∙ (ap (λ xs. with_waiting (map (λ x. x.values) xs) (row_bytes c.self.inside.rows.1) c.self.inside.waiting.items) c.deref.ensures.value ∙ (ap (λ v. v.1) c.self.view_is ∙ kept)) in
    subst (λ xs. g.O.Index.greatest < total (xs ++ filled c.args.bits.now (sliced (row_bytes c.args.array.now.values) c.args.start (length c.args.bits.now)))) done (c.append_under-appended.ensures.overflow over)
