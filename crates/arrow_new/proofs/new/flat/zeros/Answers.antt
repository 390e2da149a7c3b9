use Rattle.std.proofs.Common.{◌≡◌, replicate}
use Rattle.arrow_arrays.proofs.NullLemmas.{grown_copies}
use Rattle.arrow_new.proofs.new.flat.zeros.Goals as goal

pub returns-clause-ok : goal.returns-clause-ok
returns-clause-ok g c =
    let zero : c.default.result ≡ g.T.NativeType.zero = g.met.T.NativeType.default_is_zero c.default.result c.default.ensures in
    let all : c.resize.new.self.items ≡ replicate c.args.count g.T.NativeType.zero = grown_copies c.in_ok-values.values.items c.resize.new.self.items c.default.result g.T.NativeType.zero c.args.count _ c.in_ok-values.ensures.items c.in_ok-values.ensures.len c.in_ok-resize.ensures.items zero in
    rw all at c.from_vec.ensures.ok
