use Rattle.arrow_memory.proofs.Common.{◌+◌, ◌/◌, ◌<◌, ap, length, arith, get_or_read}
use Rattle.arrow_memory.proofs.BitmapLemmas.{slice_get-bits_in}
use Rattle.arrow_memory.proofs.WordLemmas.{length-bits_in}
use Rattle.arrow_memory.proofs.bitmap.Bitmap.get_bit.Goals as goal

pub returns : goal.returns
returns c =
    let map = c.self.inside in
    let words = map.words.value.items in
    let long = length-bits_in words map.offset map.len in
    let seen = ap length c.self.view_is in
    let below : c.args.i < map.len = omega arith in
    let here : (map.offset + c.args.i) / 64 < length words = omega (arith, c.self.invariant.within) in
    let index = rw (ap (λ v. v.items) c.deref.ensures) at c.index.ensures in
    let read = get_or_read words ((map.offset + c.args.i) / 64) c.index.result.now here index 0 in
    slice_get-bits_in words map.offset map.len c.args.i c.args.self.now c.index.result.now c.self.view_is below read
