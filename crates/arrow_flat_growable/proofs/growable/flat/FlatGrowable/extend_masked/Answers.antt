use Rattle.arrow_flat_growable.proofs.Common.{arith, ◌≡◌, ◌+◌, ◌++◌, length, map, Some, Err, Bor, false, ap, sym, subst, ◌∙◌, length-map, Fits, mask, type_of, sliced, rows, flat_layout, FitsWith, NamesRows, named_rows, source_at}
use Rattle.arrow_flat_growable.proofs.FlatLemmas.{counts_rows, length-under, source_is, stay_bound, too_many}
use Rattle.arrow_flat_growable.proofs.ResultLemmas.{passed_on}
use Rattle.arrow_flat_growable.proofs.growable.flat.FlatGrowable.extend_masked.Goals as goal

pub returns-in_default-clause-overflow : goal.returns-in_default-clause-overflow
returns-in_default-clause-overflow g c same fits =
    let own = c.args.own.now in
    let before = mask c.self.inside.validity (g.G.GrowableValues.slots c.self.inside.values) in
    let all = rows (source_at (map (λ (r : Bor _). flat_layout g.G.GrowableValues.type_in g.G.GrowableValues.bits_in g.G.GrowableValues.stored_in r.now) c.self.inside.arrays.items) c.args.index) in
    let there = subst (λ h. NamesRows h c.args.index c.args.start (length c.args.own.now)) (sym c.self.view_is) c.requires in
    let fit = subst (λ h. FitsWith h (mask own (named_rows h c.args.index c.args.start (length own)))) (sym c.self.view_is) fits in
    too_many (type_of c.self.inside.data_type) before (mask own (sliced all c.args.start (length own))) c.self.inside.len (length own) fit (counts_rows c.self.invariant c.if-self.false) (length-under own all c.args.start there.1) (omega (arith, c.in_default.ensures, c.len-len.ensures))

pub returns-in_err-append_masked-clause-overflow : goal.returns-in_err-append_masked-clause-overflow
returns-in_err-append_masked-clause-overflow g c overflows fits =
    let own = c.args.own.now in
    let t = type_of c.self.inside.data_type in
    let before = mask c.self.inside.validity (g.G.GrowableValues.slots c.self.inside.values) in
    let f = λ (r : Bor _). flat_layout g.G.GrowableValues.type_in g.G.GrowableValues.bits_in g.G.GrowableValues.stored_in r.now in
    let there = subst (λ h. NamesRows h c.args.index c.args.start (length own)) (sym c.self.view_is) c.requires in
    let source = source_is f c.self.inside.arrays.items c.args.index c.index-array.result.now (omega (arith, there.0, length-map c.self.inside.arrays.items f)) c.index-array.ensures in
    let fit = subst (λ h. FitsWith h (mask own (named_rows h c.args.index c.args.start (length own)))) (sym c.self.view_is) fits in
    c.in_err-append_masked.ensures.overflow t c.self.invariant.kind (ap Err (passed_on c.from_residual.result _ _ c.from_residual.ensures.1 overflows)) (subst (λ l. Fits t (before ++ mask own (sliced (rows l) c.args.start (length own)))) source fit)

pub invariant_of-self-2 : goal.invariant_of-self-2
invariant_of-self-2 g c =
    record { carried = c.self.invariant.carried; one_type = c.self.invariant.one_type; kind = c.in_ok-append_masked.ensures.kind _ c.self.invariant.kind; bound = stay_bound c.self.inside.arrays.items c.in_ok-append_masked.ensures.bound c.self.invariant.bound; counted = λ well. omega (arith, c.in_ok-append_masked.ensures.count, c.self.invariant.counted c.if-self.false, c.in-Some.ensures, c.len-len.ensures); covers = λ well. c.in_ok-append_masked.ensures.covers; fits = λ well. c.in_ok-append_masked.ensures.fits _ c.self.invariant.kind }

pub returns-clause-ok : goal.returns-clause-ok
returns-clause-ok g c =
    let own = c.args.own.now in
    let t = type_of c.self.inside.data_type in
    let before = mask c.self.inside.validity (g.G.GrowableValues.slots c.self.inside.values) in
    let f = λ (r : Bor _). flat_layout g.G.GrowableValues.type_in g.G.GrowableValues.bits_in g.G.GrowableValues.stored_in r.now in
    let layouts = map f c.self.inside.arrays.items in
    let all = rows (source_at layouts c.args.index) in
    let there = subst (λ h. NamesRows h c.args.index c.args.start (length own)) (sym c.self.view_is) c.requires in
    let source = source_is f c.self.inside.arrays.items c.args.index c.index-array.result.now (omega (arith, there.0, length-map c.self.inside.arrays.items f)) c.index-array.ensures in
    let grown = c.in_ok-append_masked.ensures.rows ∙ ap (λ l. before ++ mask own (sliced (rows l) c.args.start (length own))) (sym source) in
    let count : c.in-Some.total ≡ c.self.inside.len + length (mask own (sliced all c.args.start (length own))) = omega (arith, c.in-Some.ensures, c.len-len.ensures, length-under own all c.args.start there.1) in
    rw (← c.self.view_is) (λ i. record { arrow_type = t; sources = Some layouts; rows = grown i; count = count i; failed = false })
