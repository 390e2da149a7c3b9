use Rattle.arrow_flat_growable.proofs.Common.{◌++◌, false, replicate, length-replicate, mask-unset}
use Rattle.arrow_flat_growable.proofs.FlatLemmas.{appended_rows, appended_lengths}
use Rattle.arrow_flat_growable.proofs.ResultLemmas.{on_ok}
use Rattle.arrow_flat_growable.proofs.growable.flat.append_nulls.Goals as goal

pub returns-clause-rows : goal.returns-clause-rows
returns-clause-rows g c =
    let blank = mask-unset c.args.additional (g.G.GrowableValues.blanks c.args.values.now c.args.additional) (g.met.G.GrowableValues.length_of_blanks c.args.values.now c.args.additional) in
    on_ok c.extend_nulls-2.result c.extend_nulls-2.ensures.ok (λ stored. rw (c.in_ok-extend_nulls.ensures.ok, stored) (appended_rows c.args.validity.now _ (g.G.GrowableValues.slots c.args.values.now) _ _ c.requires.covers.covered blank))

pub returns-clause-overflow : goal.returns-clause-overflow
returns-clause-overflow g c t kind overflows fits =
    let stored = g.G.GrowableValues.slots c.args.values.now in
    let covers = c.requires.covers in
    let more = replicate c.args.additional false in
    let part = g.G.GrowableValues.blanks c.args.values.now c.args.additional in
    let many = g.met.G.GrowableValues.length_of_blanks c.args.values.now c.args.additional in
    let spared = g.met.G.GrowableValues.spares_blanks c.args.validity.now stored c.args.values.now c.args.additional covers.spared covers.covered in
    let lengths = appended_lengths c.args.validity.now more stored part c.args.additional covers.covered (length-replicate c.args.additional false) many in
    c.extend_nulls-2.ensures.overflow t kind overflows (g.met.G.GrowableValues.fits_stored c.args.values.now t (c.args.validity.now ++ more) (stored ++ part) kind spared lengths (rw (appended_rows c.args.validity.now more stored part _ covers.covered (mask-unset c.args.additional part many)) fits))
