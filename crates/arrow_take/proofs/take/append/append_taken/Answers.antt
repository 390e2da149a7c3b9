use Rattle.arrow_take.proofs.Common.{◌≡◌, ◌+◌, ◌≤◌, ◌∙◌, [], ◌∷◌, Err, ap, arith, length, map, subst, sym, take, IfSome, gather, masked, sliced, rows_by, passed_on, rows, type_of_layout, HasAppended, holds_none, holds_more, named, nulls, refuses_whole, too_many_first, first_bound}
use Rattle.arrow_take.proofs.TakenRuns.{gather_all, gather_more, rows_of_run, run_appends}
use Rattle.arrow_take.proofs.take.append.append_taken.Given as given
use Rattle.arrow_take.proofs.take.append.append_taken.Goals as goal
use Rattle.arrow_take.proofs.take.append.append_taken.Goals.{After-run_at-place, in-Some+in_ok-extend-in-Some, in-None+in_ok-extend_validity-in-None}

-- what the run appends
appends : (g : given.Over) (c : After-run_at-place g) → gather (rows (first_bound (g.G.Growable.state c.args.growable.now))) (sliced (rows_by (map g.I.NativeType.slot) c.args.indices.now) c.loop-row.row c.run_at-place.result.1) (type_of_layout (first_bound (g.G.Growable.state c.args.growable.now))) ≡ rows_of_run (rows (first_bound (g.G.Growable.state c.args.growable.now))) (type_of_layout (first_bound (g.G.Growable.state c.args.growable.now))) c.run_at-place.result.0 c.run_at-place.result.1
appends g c =
    let place = c.run_at-place.result.0 in
    let count = c.run_at-place.result.1 in
    let lent = c.as_slice-stored.ensures ∙ c.values.ensures in
    let run = (λ i. sliced (masked (sym c.validity-validity.ensures.same i) (map g.I.NativeType.slot (sym lent i))) c.loop-row.row count) ∙ c.run_at-place.ensures.run in
    run_appends (rows (first_bound (g.G.Growable.state c.args.growable.now))) (rows_by (map g.I.NativeType.slot) c.args.indices.now) (type_of_layout (first_bound (g.G.Growable.state c.args.growable.now))) c.loop-row.row count place run (subst (λ n. IfSome place (λ start. start + count ≤ n)) c.requires.len c.run_at-place.ensures.inside)

pub loop-row-init : goal.loop-row-init
loop-row-init g c =
    record { within = omega arith; held = holds_none (first_bound (g.G.Growable.state c.args.growable.now) ∷ []) _ c.requires.bound }

pub returns-in_err-extend-in-Some-clause-overflow : goal.returns-in_err-extend-in-Some-clause-overflow
returns-in_err-extend-in-Some-clause-overflow g c overflows =
    let layout = first_bound (g.G.Growable.state c.args.growable.now) in
    let indices = rows_by (map g.I.NativeType.slot) c.args.indices.now in
    let row = c.loop-row.row in
    let count = c.run_at-place.result.1 in
    let kept = gather (rows layout) (take row indices) (type_of_layout layout) in
    let held = c.loop-row.invariant.held in
    let over = c.in_err-extend-in-Some.ensures.overflow (ap Err (passed_on c.from_residual.result _ _ c.from_residual.ensures.1 overflows)) in
    let same = named (layout ∷ []) _ kept held 0 c.in-Some.start count ∙ ap (λ place. rows_of_run (rows layout) (type_of_layout layout) place count) (sym c.in-Some.is) in
    refuses_whole (layout ∷ []) _ kept held _ _ _ _ same (too_many_first (layout ∷ []) _ kept held c.in-Some.start count over) (gather_all (rows layout) indices (type_of_layout layout) row count _ (appends g (goal.at.returns-in_err-extend-in-Some-clause-overflow g c).After-run_at-place))

pub returns-in_err-extend_validity-in-None-clause-overflow : goal.returns-in_err-extend_validity-in-None-clause-overflow
returns-in_err-extend_validity-in-None-clause-overflow g c overflows =
    let layout = first_bound (g.G.Growable.state c.args.growable.now) in
    let indices = rows_by (map g.I.NativeType.slot) c.args.indices.now in
    let row = c.loop-row.row in
    let count = c.run_at-place.result.1 in
    let kept = gather (rows layout) (take row indices) (type_of_layout layout) in
    let held = c.loop-row.invariant.held in
    let over = c.in_err-extend_validity-in-None.ensures.overflow (ap Err (passed_on c.from_residual-in_err-extend_validity-in-None.result _ _ c.from_residual-in_err-extend_validity-in-None.ensures.1 overflows)) in
    let same = nulls (layout ∷ []) _ kept held count ∙ ap (λ place. rows_of_run (rows layout) (type_of_layout layout) place count) (sym c.in-None.is) in
    refuses_whole (layout ∷ []) _ kept held _ _ _ _ same over (gather_all (rows layout) indices (type_of_layout layout) row count _ (appends g (goal.at.returns-in_err-extend_validity-in-None-clause-overflow g c).After-run_at-place))

pub loop-row-preserved : goal.loop-row-preserved
loop-row-preserved g c =
    let layout = first_bound (g.G.Growable.state c.args.growable.now) in
    let indices = rows_by (map g.I.NativeType.slot) c.args.indices.now in
    let row = c.loop-row.row in
    let count = c.run_at-place.result.1 in
    let kept = gather (rows layout) (take row indices) (type_of_layout layout) in
    let held = c.loop-row.invariant.held in
    let whole = sym (gather_more (rows layout) indices (type_of_layout layout) row count _ (appends g (goal.at.loop-row-preserved g c).After-run_at-place)) in
    let within : row + count ≤ length c.as_slice-stored.result.now = c.run_at-place.ensures.within in
    elim c.match-place.branch [
      | in-Some+in_ok-extend-in-Some w ↦
          let same = named (layout ∷ []) _ kept held 0 w.in-Some.start count ∙ ap (λ place. rows_of_run (rows layout) (type_of_layout layout) place count) (sym w.in-Some.is) in
          let more = holds_more (layout ∷ []) _ kept held _ _ _ same w.in_ok-extend-in-Some.ensures.ok w.in_ok-extend-in-Some.ensures.fits in
          record { within = within; held = subst (λ h. HasAppended (layout ∷ []) (g.G.Growable.state h) (gather (rows layout) (take (row + count) indices) (type_of_layout layout))) (sym w.growable-is) (subst (HasAppended (layout ∷ []) _) whole more) }
      | in-None+in_ok-extend_validity-in-None w ↦
          let same = nulls (layout ∷ []) _ kept held count ∙ ap (λ place. rows_of_run (rows layout) (type_of_layout layout) place count) (sym w.in-None.is) in
          let more = holds_more (layout ∷ []) _ kept held _ _ _ same w.in_ok-extend_validity-in-None.ensures.ok w.in_ok-extend_validity-in-None.ensures.fits in
          record { within = within; held = subst (λ h. HasAppended (layout ∷ []) (g.G.Growable.state h) (gather (rows layout) (take (row + count) indices) (type_of_layout layout))) (sym w.growable-is) (subst (HasAppended (layout ∷ []) _) whole more) }
    ]
