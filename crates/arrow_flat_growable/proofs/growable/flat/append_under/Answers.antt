use Rattle.arrow_flat_growable.proofs.Common.{◌≡◌, ◌++◌, length, refl}
use Rattle.std.proofs.lemmas.List.{length-append}
use Rattle.arrow_flat_growable.proofs.FlatLemmas.{appended_rows, appended_lengths}
use Rattle.arrow_flat_growable.proofs.ResultLemmas.{on_ok}
use Rattle.arrow_flat_growable.proofs.growable.flat.append_under.Given.{Over}
use Rattle.arrow_flat_growable.proofs.growable.flat.append_under.Goals as goal

-- the bits come behind the others
behind : (g : Over) (c : goal.After-extend_under g) → c.extend_from_mask.new.self ≡ c.args.validity.now ++ c.args.bits.now
behind g c = c.in_ok-extend_from_mask.ensures.ok

pub returns-clause-covers : goal.returns-clause-covers
returns-clause-covers g c =
    let array = c.args.array.now in
    let before = g.G.GrowableValues.slots c.args.values.now in
    let covers = c.requires.covers in
    let more = c.args.bits.now in
    let part = g.G.GrowableValues.stored_slice array more c.args.start (length more) in
    let spared = g.met.G.GrowableValues.spares_slice c.args.validity.now before array more c.args.start (length more) refl c.requires.within covers.spared covers.covered in
    let lengths = appended_lengths c.args.validity.now more before part (length more) covers.covered refl (g.met.G.GrowableValues.length_of_slice array more c.args.start (length more) refl c.requires.within) in
    on_ok c.extend_under.result c.extend_under.ensures.ok (λ stored. record { covered = rw (behind g c, stored) lengths; spared = rw (behind g c, stored) spared })

pub returns-clause-count : goal.returns-clause-count
returns-clause-count g c =
    on_ok c.extend_under.result c.extend_under.ensures.ok (λ stored. rw (behind g c) (length-append c.args.validity.now c.args.bits.now))

pub returns-clause-rows : goal.returns-clause-rows
returns-clause-rows g c =
    let more = c.args.bits.now in
    let part = g.met.G.GrowableValues.rows_of_slice c.args.array.now more c.args.start (length more) refl c.requires.within in
    on_ok c.extend_under.result c.extend_under.ensures.ok (λ stored. rw (behind g c, stored) (appended_rows c.args.validity.now _ (g.G.GrowableValues.slots c.args.values.now) _ _ c.requires.covers.covered part))

pub returns-clause-overflow : goal.returns-clause-overflow
returns-clause-overflow g c t kind overflows fits =
    let array = c.args.array.now in
    let before = g.G.GrowableValues.slots c.args.values.now in
    let covers = c.requires.covers in
    let more = c.args.bits.now in
    let part = g.G.GrowableValues.stored_slice array more c.args.start (length more) in
    let rows = g.met.G.GrowableValues.rows_of_slice array more c.args.start (length more) refl c.requires.within in
    let spared = g.met.G.GrowableValues.spares_slice c.args.validity.now before array more c.args.start (length more) refl c.requires.within covers.spared covers.covered in
    let lengths = appended_lengths c.args.validity.now more before part (length more) covers.covered refl (g.met.G.GrowableValues.length_of_slice array more c.args.start (length more) refl c.requires.within) in
    c.extend_under.ensures.overflow t kind overflows (g.met.G.GrowableValues.fits_stored c.args.values.now t (c.args.validity.now ++ more) (before ++ part) kind spared lengths (rw (appended_rows c.args.validity.now more before part _ covers.covered rows) fits))
