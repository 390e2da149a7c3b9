use Rattle.arrow_growable.proofs.Common.{arith, ◌*◌, inl, ap, subst, FitsWith, on_ok, grown_of, GrownBy}
use Rattle.arrow_growable.proofs.EvenSpreadLemmas.{even_place, items_bound, items_named}
use Rattle.arrow_growable.proofs.growable.children.extend_under.Goals as goal

pub mask_of_items-requires-clause-counted : goal.mask_of_items-requires-clause-counted
mask_of_items-requires-clause-counted c =
    let many = ap (λ n. c.args.len * n) c.size.ensures in
    omega (arith, many, even_place c.args.rows.now c.args.start c.args.len c.requires.even, c.range-first.ensures.end, c.range-first.type_inv)

pub extend_flat-requires-clause-bound : goal.extend_flat-requires-clause-bound
extend_flat-requires-clause-bound c =
    items_bound c.args.rows.now (grown_of c.args.child.now) c.args.index c.args.start c.args.len c.range-first.result.0 c.size.result c.args.validity.now c.in_ok-own.own c.requires.even c.requires.sound c.requires.part c.requires.covered c.requires.bound c.size.ensures c.in_ok-own.ensures.ok c.range-first.ensures.start

pub returns-clause-ok : goal.returns-clause-ok
returns-clause-ok c =
    let g = grown_of c.args.child.now in
    let named = items_named c.args.rows.now g c.args.index c.args.start c.args.len c.range-first.result.0 c.size.result c.args.validity.now c.in_ok-own.own c.requires.even c.requires.sound c.requires.part c.requires.covered c.requires.bound c.size.ensures c.in_ok-own.ensures.ok c.range-first.ensures.start c.extend_flat.ensures.null in
    on_ok c.extend_flat.result c.extend_flat.ensures.ok (λ grown. subst (GrownBy g (grown_of c.extend_flat.new.child)) named grown)

pub returns-clause-overflow : goal.returns-clause-overflow
returns-clause-overflow c overflows =
    let g = grown_of c.args.child.now in
    let named = items_named c.args.rows.now g c.args.index c.args.start c.args.len c.range-first.result.0 c.size.result c.args.validity.now c.in_ok-own.own c.requires.even c.requires.sound c.requires.part c.requires.covered c.requires.bound c.size.ensures c.in_ok-own.ensures.ok c.range-first.ensures.start c.extend_flat.ensures.null in
    record { why = inl (subst (λ more. FitsWith g more → ⊥) named (c.extend_flat.ensures.overflow overflows)) }
