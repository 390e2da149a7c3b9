use Rattle.arrow_memory.proofs.Common.{◌≡◌, ◌+◌, ◌-◌, ◌≤◌, unsigned_abs, refl, sym, ◌∙◌, arith, ints}
use Rattle.arrow_memory.proofs.OffsetLemmas.{natural}
use Rattle.arrow_memory.proofs.ValidLemmas.{part_within}
use Rattle.arrow_memory.proofs.offset.valid_rows_fit.Goals as goal

pub returns-then-is_some : goal.returns-then-is_some
returns-then-is_some g c =
    let all = part_within c.args.validity.now c.args.other.now c.args.start c.args.len c.range-first.ensures.sound c.requires.part c.requires.covered in
    let most : c.to_usize-place.result + (c.range-first.result.1 - c.range-first.result.0) ≤ g.O.Index.greatest = c.from_usize.ensures.fits.0 (sym c.is_some.ensures ∙ c.if-is_some.true) in
    let place : unsigned_abs (g.O.NativeOrd.number c.args.last.now) ≡ c.to_usize-place.result = omega (arith, ints, c.to_usize-place.ensures.value, natural (g.O.NativeOrd.number c.args.last.now) c.requires.not_negative) in
    (λ _. omega (arith, all, most, place, c.range-first.ensures.start, c.range-first.ensures.end), λ _. refl)
