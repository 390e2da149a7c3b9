use Rattle.std.proofs.Common.{sym}
use Rattle.arrow_arrays.proofs.UnionLemmas.{null_count-union}
use Rattle.arrow_arrays.proofs.array.union.UnionArray.null_count.Goals as goal

pub returns : goal.returns
returns c = sym (null_count-union c.args.self.now)
