use Rattle.arrow_growable.proofs.Common.{arith}
use Rattle.arrow_growable.proofs.growable.finish.fixed_size_list_array.Goals as goal

pub new-requires : goal.new-requires
new-requires c =
    let count = rw c.deref.ensures at c.len.ensures in
    (c.requires.kind, c.requires.child, c.requires.fits, omega (arith, count, c.len.type_inv))
