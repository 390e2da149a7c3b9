use Rattle.arrow_flat_growable.proofs.Common.{arith, ◌≡◌, ◌+◌, ◌++◌, length, map, Some, Err, Bor, false, ap, sym, subst, ◌∙◌, inl, length-map, Fits, mask, type_of, sliced, length-sliced, rows, flat_layout, CannotHold, NamesRows, source_at}
use Rattle.arrow_flat_growable.proofs.FlatLemmas.{counts_rows, source_is, stay_bound, too_many}
use Rattle.arrow_flat_growable.proofs.ResultLemmas.{passed_on}
use Rattle.arrow_flat_growable.proofs.growable.flat.FlatGrowableGrowable.extend.Goals as goal

pub returns-in_default-clause-overflow : goal.returns-in_default-clause-overflow
returns-in_default-clause-overflow g c same =
    let t = type_of c.self.inside.data_type in
    let before = mask c.self.inside.validity (g.G.GrowableValues.slots c.self.inside.values) in
    let layouts = map (λ r. flat_layout g.G.GrowableValues.type_in g.G.GrowableValues.bits_in g.G.GrowableValues.stored_in r.now) c.self.inside.arrays.items in
    let there = subst (λ h. NamesRows h c.args.index c.args.start c.args.len) (sym c.self.view_is) c.requires in
    let named = sliced (rows (source_at layouts c.args.index)) c.args.start c.args.len in
    subst (λ h. CannotHold h c.args.index c.args.start c.args.len) c.self.view_is (inl (λ fits. too_many t before named c.self.inside.len c.args.len fits (counts_rows c.self.invariant c.if-self.false) (length-sliced _ c.args.start c.args.len there.1) (omega (arith, c.in_default.ensures))))

pub returns-in_err-append-clause-overflow : goal.returns-in_err-append-clause-overflow
returns-in_err-append-clause-overflow g c overflows =
    let t = type_of c.self.inside.data_type in
    let before = mask c.self.inside.validity (g.G.GrowableValues.slots c.self.inside.values) in
    let there = subst (λ h. NamesRows h c.args.index c.args.start c.args.len) (sym c.self.view_is) c.requires in
    let source = source_is (λ r. flat_layout g.G.GrowableValues.type_in g.G.GrowableValues.bits_in g.G.GrowableValues.stored_in r.now) c.self.inside.arrays.items c.args.index c.index-array.result.now (omega (arith, there.0, length-map c.self.inside.arrays.items (λ r. flat_layout g.G.GrowableValues.type_in g.G.GrowableValues.bits_in g.G.GrowableValues.stored_in r.now))) c.index-array.ensures in
    subst (λ h. CannotHold h c.args.index c.args.start c.args.len) c.self.view_is (inl (λ fits. c.in_err-append.ensures.overflow t c.self.invariant.kind (ap Err (passed_on c.from_residual.result _ _ c.from_residual.ensures.1 overflows)) (subst (λ l. Fits t (before ++ sliced (rows l) c.args.start c.args.len)) source fits)))

pub invariant_of-self-2 : goal.invariant_of-self-2
invariant_of-self-2 g c =
    record { carried = c.self.invariant.carried; one_type = c.self.invariant.one_type; kind = c.in_ok-append.ensures.kind _ c.self.invariant.kind; bound = stay_bound c.self.inside.arrays.items c.in_ok-append.ensures.bound c.self.invariant.bound; counted = λ well. omega (arith, c.in_ok-append.ensures.count, c.self.invariant.counted c.if-self.false, c.in-Some.ensures); covers = λ well. c.in_ok-append.ensures.covers; fits = λ well. c.in_ok-append.ensures.fits _ c.self.invariant.kind }

pub returns-clause-ok : goal.returns-clause-ok
returns-clause-ok g c =
    let t = type_of c.self.inside.data_type in
    let before = mask c.self.inside.validity (g.G.GrowableValues.slots c.self.inside.values) in
    let f = λ (r : Bor _). flat_layout g.G.GrowableValues.type_in g.G.GrowableValues.bits_in g.G.GrowableValues.stored_in r.now in
    let layouts = map f c.self.inside.arrays.items in
    let there = subst (λ h. NamesRows h c.args.index c.args.start c.args.len) (sym c.self.view_is) c.requires in
    let source = source_is f c.self.inside.arrays.items c.args.index c.index-array.result.now (omega (arith, there.0, length-map c.self.inside.arrays.items f)) c.index-array.ensures in
    let grown = c.in_ok-append.ensures.rows ∙ ap (λ l. before ++ sliced (rows l) c.args.start c.args.len) (sym source) in
    let many = length-sliced (rows (source_at layouts c.args.index)) c.args.start c.args.len there.1 in
    let count : c.in-Some.total ≡ c.self.inside.len + length (sliced (rows (source_at layouts c.args.index)) c.args.start c.args.len) = omega (arith, c.in-Some.ensures, many) in
    rw (← c.self.view_is) (λ i. record { arrow_type = t; sources = Some layouts; rows = grown i; count = count i; failed = false })

pub returns-clause-fits : goal.returns-clause-fits
returns-clause-fits g c =
    g.met.G.GrowableValues.fits_rows c.append.new.values _ c.append.new.validity (g.G.GrowableValues.slots c.append.new.values) (c.in_ok-append.ensures.kind _ c.self.invariant.kind) c.in_ok-append.ensures.covers.covered (c.in_ok-append.ensures.fits _ c.self.invariant.kind)
