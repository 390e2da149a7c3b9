use Rattle.arrow_types.specs.TypeOf.{type_of}
use Rattle.arrow_types.proofs.FitsLemmas.{Fits-nil}
use Rattle.arrow_arrays.proofs.ColumnLemmas.{only_memory}
use Rattle.arrow_new.proofs.new.new_empty_array.Goals as goal

pub returns-clause-err : goal.returns-clause-err
returns-clause-err c =
    only_memory c.new_null_array.result c.new_null_array.ensures.err (λ is. c.new_null_array.ensures.overflow is (Fits-nil (type_of c.args.data_type)))
