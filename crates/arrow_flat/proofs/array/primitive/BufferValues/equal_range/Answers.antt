use Rattle.std.proofs.Common.{◌≡◌, ◌+◌, ◌-◌, arith}
use Rattle.std.proofs.lemmas.Slice.Eq.{slice_eq-Decides}
use Rattle.arrow_flat.proofs.StoredLemmas.{slots_same, sliced-decides}
use Rattle.arrow_flat.proofs.array.primitive.BufferValues.equal_range.Goals as goal

pub returns : goal.returns
returns g c =
    let long : c.args.start + c.args.len - c.args.start ≡ c.args.len = omega arith in
    let other_long : c.args.other_start + c.args.len - c.args.other_start ≡ c.args.len = omega arith in
    let told = slice_eq-Decides g.met.T.NativeType.values _ _ c.eq.result c.eq.ensures in
    let seen = rw (long, other_long, c.as_slice-values.ensures, c.as_slice-others.ensures) at told in
    sliced-decides g.T.NativeType.slot (slots_same g.T.NativeType.slot g.T.PartialEq.eq g.met.T.NativeType.slots g.met.T.NativeType.values) c.args.self.now c.args.other.now c.args.start c.args.other_start c.args.len c.eq.result seen
