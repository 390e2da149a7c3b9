use Rattle.arrow_flat_growable.proofs.Common.{arith, ◌≡◌, ◌+◌, ◌≤◌, ◌++◌, length, ap, ◌∙◌, length-masked, bits_of_slice, length-bits_of_slice, mask-part}
use Rattle.std.proofs.lemmas.List.{length-append}
use Rattle.arrow_flat_growable.proofs.FlatLemmas.{appended_rows, appended_lengths}
use Rattle.arrow_flat_growable.proofs.MaskLemmas.{lent_within}
use Rattle.arrow_flat_growable.proofs.ResultLemmas.{on_ok}
use Rattle.arrow_flat_growable.proofs.growable.flat.append.Goals as goal

pub extend_from-requires : goal.extend_from-requires
extend_from-requires g c =
    let array = c.args.array.now in
    let within : c.args.start + c.args.len ≤ length (g.G.GrowableValues.stored_in array) = omega (arith, c.requires.within, length-masked (g.G.GrowableValues.bits_in array) (g.G.GrowableValues.stored_in array) c.validity.ensures.fits) in
    lent_within c.validity.result (g.G.GrowableValues.bits_in array) (length (g.G.GrowableValues.stored_in array)) (c.args.start + c.args.len) c.validity.ensures.same c.validity.ensures.fits within

pub extend-requires-clause-within : goal.extend-requires-clause-within
extend-requires-clause-within g c =
    omega (arith, c.requires.within, length-masked (g.G.GrowableValues.bits_in c.args.array.now) (g.G.GrowableValues.stored_in c.args.array.now) c.validity.ensures.fits)

pub returns-clause-covers : goal.returns-clause-covers
returns-clause-covers g c =
    let array = c.args.array.now in
    let v = g.G.GrowableValues.bits_in array in
    let before = g.G.GrowableValues.slots c.args.values.now in
    let within : c.args.start + c.args.len ≤ length (g.G.GrowableValues.stored_in array) = omega (arith, c.requires.within, length-masked v (g.G.GrowableValues.stored_in array) c.validity.ensures.fits) in
    let covers = c.requires.covers in
    let more = bits_of_slice v c.args.start c.args.len in
    let many = length-bits_of_slice v (length (g.G.GrowableValues.stored_in array)) c.args.start c.args.len c.validity.ensures.fits within in
    let part = g.G.GrowableValues.stored_slice array more c.args.start c.args.len in
    let bits : c.extend_from.new.self ≡ c.args.validity.now ++ more = c.in_ok-extend_from.ensures.ok ∙ ap (λ v. c.args.validity.now ++ bits_of_slice v c.args.start c.args.len) c.validity.ensures.same in
    let spared = g.met.G.GrowableValues.spares_slice c.args.validity.now before array more c.args.start c.args.len many within covers.spared covers.covered in
    let lengths = appended_lengths c.args.validity.now more before part c.args.len covers.covered many (g.met.G.GrowableValues.length_of_slice array more c.args.start c.args.len many within) in
    on_ok c.extend.result c.extend.ensures.ok (λ stored. record { covered = rw (bits, stored) lengths; spared = rw (bits, stored) spared })

pub returns-clause-count : goal.returns-clause-count
returns-clause-count g c =
    let array = c.args.array.now in
    let v = g.G.GrowableValues.bits_in array in
    let within : c.args.start + c.args.len ≤ length (g.G.GrowableValues.stored_in array) = omega (arith, c.requires.within, length-masked v (g.G.GrowableValues.stored_in array) c.validity.ensures.fits) in
    let more = bits_of_slice v c.args.start c.args.len in
    let bits : c.extend_from.new.self ≡ c.args.validity.now ++ more = c.in_ok-extend_from.ensures.ok ∙ ap (λ v. c.args.validity.now ++ bits_of_slice v c.args.start c.args.len) c.validity.ensures.same in
    let many = length-bits_of_slice v (length (g.G.GrowableValues.stored_in array)) c.args.start c.args.len c.validity.ensures.fits within in
    on_ok c.extend.result c.extend.ensures.ok (λ stored. rw bits (length-append c.args.validity.now more ∙ ap (λ k. length c.args.validity.now + k) many))

pub returns-clause-rows : goal.returns-clause-rows
returns-clause-rows g c =
    let array = c.args.array.now in
    let v = g.G.GrowableValues.bits_in array in
    let stored = g.G.GrowableValues.stored_in array in
    let within : c.args.start + c.args.len ≤ length stored = omega (arith, c.requires.within, length-masked v stored c.validity.ensures.fits) in
    let bits : c.extend_from.new.self ≡ c.args.validity.now ++ bits_of_slice v c.args.start c.args.len = c.in_ok-extend_from.ensures.ok ∙ ap (λ v. c.args.validity.now ++ bits_of_slice v c.args.start c.args.len) c.validity.ensures.same in
    let more = bits_of_slice v c.args.start c.args.len in
    let many = length-bits_of_slice v (length stored) c.args.start c.args.len c.validity.ensures.fits within in
    let part = g.met.G.GrowableValues.rows_of_slice array more c.args.start c.args.len many within ∙ mask-part v (g.G.GrowableValues.stored_in array) c.args.start c.args.len within in
    on_ok c.extend.result c.extend.ensures.ok (λ stored. rw (bits, stored) (appended_rows c.args.validity.now _ (g.G.GrowableValues.slots c.args.values.now) _ _ c.requires.covers.covered part))

pub returns-clause-overflow : goal.returns-clause-overflow
returns-clause-overflow g c t kind overflows fits =
    let array = c.args.array.now in
    let v = g.G.GrowableValues.bits_in array in
    let before = g.G.GrowableValues.slots c.args.values.now in
    let within : c.args.start + c.args.len ≤ length (g.G.GrowableValues.stored_in array) = omega (arith, c.requires.within, length-masked v (g.G.GrowableValues.stored_in array) c.validity.ensures.fits) in
    let covers = c.requires.covers in
    let more = bits_of_slice v c.args.start c.args.len in
    let many = length-bits_of_slice v (length (g.G.GrowableValues.stored_in array)) c.args.start c.args.len c.validity.ensures.fits within in
    let part = g.G.GrowableValues.stored_slice array more c.args.start c.args.len in
    let rows = g.met.G.GrowableValues.rows_of_slice array more c.args.start c.args.len many within ∙ mask-part v (g.G.GrowableValues.stored_in array) c.args.start c.args.len within in
    let spared = g.met.G.GrowableValues.spares_slice c.args.validity.now before array more c.args.start c.args.len many within covers.spared covers.covered in
    let lengths = appended_lengths c.args.validity.now more before part c.args.len covers.covered many (g.met.G.GrowableValues.length_of_slice array more c.args.start c.args.len many within) in
    c.extend.ensures.overflow t kind overflows (g.met.G.GrowableValues.fits_stored c.args.values.now t (c.args.validity.now ++ more) (before ++ part) kind spared lengths (rw (appended_rows c.args.validity.now more before part _ covers.covered rows) fits))
