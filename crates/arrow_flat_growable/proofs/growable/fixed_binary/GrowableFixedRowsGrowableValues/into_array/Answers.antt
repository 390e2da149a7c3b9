use Rattle.arrow_flat_growable.proofs.Common.{ap, masked, type_of, fixed_slots, fixed_size_in}
use Rattle.arrow_flat_growable.proofs.FixedRowsLemmas.{stored_fit, stored_parts}
use Rattle.arrow_flat_growable.proofs.growable.fixed_binary.GrowableFixedRowsGrowableValues.into_array.Goals as goal

pub new-requires-clause-bytes : goal.new-requires-clause-bytes
new-requires-clause-bytes c =
    stored_fit c.self.inside.size c.self.inside.count (fixed_size_in (type_of c.args.data_type)) c.self.inside.bytes.items c.in_ok-bytes.bytes c.args.self c.self.view_is c.self.invariant c.requires.kind.1 c.in_ok-bytes.ensures.ok c.args.validity c.requires.fits

pub returns-clause-rows : goal.returns-clause-rows
returns-clause-rows c =
    let same = stored_parts c.self.inside.size c.self.inside.count (fixed_size_in (type_of c.args.data_type)) c.self.inside.bytes.items c.in_ok-bytes.bytes c.args.self c.self.view_is c.self.invariant c.requires.kind.1 c.in_ok-bytes.ensures.ok in
    rw c.new.ensures (ap (λ p. masked c.args.validity (fixed_slots p)) same)
