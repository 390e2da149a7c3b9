use Rattle.arrow_flat_growable.proofs.Common.{arith, ◌≡◌, ◌+◌, ◌++◌, ◌∙◌, Some, length, ap, sym, subst, Fits, mask, length-masked}
use Rattle.arrow_flat_growable.proofs.MaskLemmas.{lent_within, part_in_both}
use Rattle.arrow_flat_growable.proofs.MaskedLemmas.{as_many, same_rows, stored_within}
use Rattle.arrow_flat_growable.proofs.ResultLemmas.{on_ok}
use Rattle.arrow_flat_growable.proofs.growable.flat.append_masked.Given.{Over}
use Rattle.arrow_flat_growable.proofs.growable.flat.append_masked.Goals as goal

pub and_part-requires : goal.and_part-requires
and_part-requires g c =
    let v = g.G.GrowableValues.bits_in c.args.array.now in
    let stored = g.G.GrowableValues.stored_in c.args.array.now in
    lent_within (Some c.in-Some.bits) v (length stored) (c.args.start + length c.args.own.now) c.in-Some.ensures.same c.in-Some.ensures.fits (omega (arith, c.requires.within, length-masked v stored c.in-Some.ensures.fits))

-- the bits of the mask are those of the rows that are valid too
both_is : (g : Over) (c : goal.Joined-both g) → c.in_ok-both-in-Some.both ≡ part_in_both (g.G.GrowableValues.bits_in c.args.array.now) c.args.start c.args.own.now
both_is g c = c.in_ok-both-in-Some.ensures.ok ∙ ap (λ v. part_in_both v c.args.start c.args.own.now) c.in-Some.ensures.same

pub append_under-requires-in-Some-clause-within : goal.append_under-requires-in-Some-clause-within
append_under-requires-in-Some-clause-within g c =
    let both = c.in_ok-both-in-Some.ensures.ok ∙ ap (λ v. part_in_both v c.args.start c.args.own.now) c.in-Some.ensures.same in
    stored_within (g.G.GrowableValues.bits_in c.args.array.now) (g.G.GrowableValues.stored_in c.args.array.now) c.args.start c.args.own.now _ both c.in-Some.ensures.fits c.requires.within

pub append_under-requires-in-Some-clause-room : goal.append_under-requires-in-Some-clause-room
append_under-requires-in-Some-clause-room g c =
    let both = c.in_ok-both-in-Some.ensures.ok ∙ ap (λ v. part_in_both v c.args.start c.args.own.now) c.in-Some.ensures.same in
    omega (arith, c.requires.room, as_many (g.G.GrowableValues.bits_in c.args.array.now) (g.G.GrowableValues.stored_in c.args.array.now) c.args.start c.args.own.now c.in_ok-both-in-Some.both both c.in-Some.ensures.fits c.requires.within)

pub returns-in_ok-both-in-Some-clause-count : goal.returns-in_ok-both-in-Some-clause-count
returns-in_ok-both-in-Some-clause-count g c =
    let many = as_many (g.G.GrowableValues.bits_in c.args.array.now) (g.G.GrowableValues.stored_in c.args.array.now) c.args.start c.args.own.now _ (both_is g c) c.in-Some.ensures.fits c.requires.within in
    on_ok c.append_under-in-Some.result c.append_under-in-Some.ensures.count (λ count. count ∙ ap (λ n. length c.args.validity.now + n) many)

pub returns-in_ok-both-in-Some-clause-rows : goal.returns-in_ok-both-in-Some-clause-rows
returns-in_ok-both-in-Some-clause-rows g c =
    let before = mask c.args.validity.now (g.G.GrowableValues.slots c.args.values.now) in
    let rows = same_rows (g.G.GrowableValues.bits_in c.args.array.now) (g.G.GrowableValues.stored_in c.args.array.now) c.args.start c.args.own.now _ (both_is g c) c.in-Some.ensures.fits c.requires.within in
    on_ok c.append_under-in-Some.result c.append_under-in-Some.ensures.rows (λ grown. grown ∙ ap (λ xs. before ++ xs) rows)

pub returns-in_ok-both-in-Some-clause-overflow : goal.returns-in_ok-both-in-Some-clause-overflow
returns-in_ok-both-in-Some-clause-overflow g c t kind overflows fits =
    let before = mask c.args.validity.now (g.G.GrowableValues.slots c.args.values.now) in
    let rows = same_rows (g.G.GrowableValues.bits_in c.args.array.now) (g.G.GrowableValues.stored_in c.args.array.now) c.args.start c.args.own.now _ (both_is g c) c.in-Some.ensures.fits c.requires.within in
    c.append_under-in-Some.ensures.overflow t kind overflows (subst (λ xs. Fits t (before ++ xs)) (sym rows) fits)
