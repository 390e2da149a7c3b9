use Rattle.arrow_flat_growable.proofs.Common.{type_of}
use Rattle.arrow_flat_growable.proofs.FlatLemmas.{sound_empty, stay_bound}
use Rattle.arrow_flat_growable.proofs.growable.flat.FlatGrowableGrowable.as_box.Goals as goal

pub invariant_of-self-2 : goal.invariant_of-self-2
invariant_of-self-2 g c =
    rw (c.replace-values.ensures.after, c.replace-validity.ensures.after) (sound_empty g.G.GrowableValues.slots g.G.GrowableValues.are_of g.G.GrowableValues.spares (g.G.GrowableValues.binds c.in_ok-values.values) c.in_ok-values.values c.in_ok-validity.validity c.self.inside.arrays.items _ (type_of c.self.inside.data_type) c.self.invariant.carried c.self.invariant.one_type (c.in_ok-values.ensures.kind _ c.self.invariant.kind) (stay_bound c.self.inside.arrays.items c.in_ok-values.ensures.bound c.self.invariant.bound) c.in_ok-values.ensures.empty c.in_ok-validity.ensures.ok g.met.G.GrowableValues.spares_none)
