use Rattle.arrow_growable.proofs.Common.{ap, ◌∙◌, masked, struct_items, columns_of_arrays, types_of_layouts}
use Rattle.arrow_growable.proofs.growable.finish.struct_array.Goals as goal

pub new-requires : goal.new-requires
new-requires c =
    (c.requires.kind, types_of_layouts c.args.values.items ∙ c.requires.children, c.requires.fits)

pub returns-clause-rows : goal.returns-clause-rows
returns-clause-rows c =
    rw c.new.ensures (ap (λ columns. masked c.args.validity (struct_items columns)) (columns_of_arrays c.args.values.items))
