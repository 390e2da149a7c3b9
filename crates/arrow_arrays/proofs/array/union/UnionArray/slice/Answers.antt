use Rattle.std.proofs.Common.{map, arith}
use Rattle.arrow_types.specs.TypeOf.{type_of}
use Rattle.arrow_arrays.specs.Any.{layout_of}
use Rattle.arrow_arrays.proofs.UnionLemmas.{types_within, offsets_fit, keeps_part_sparse, keeps_part_dense}
use Rattle.arrow_arrays.proofs.array.union.UnionArray.slice.Goals as goal

pub slice-requires : goal.slice-requires
slice-requires c =
    types_within _ c.args.self.now c.args.offset c.args.len c.self.invariant c.self.view_is c.requires

pub overflow_add-self : goal.overflow_add-self
overflow_add-self c =
    omega (arith, c.self.invariant.fits, types_within _ c.args.self.now c.args.offset c.args.len c.self.invariant c.self.view_is c.requires)

pub slice-requires-in-Some : goal.slice-requires-in-Some
slice-requires-in-Some c =
    let within = types_within _ c.args.self.now c.args.offset c.args.len c.self.invariant c.self.view_is c.requires in
    omega (arith, within, offsets_fit _ c.in-Some.offsets c.self.invariant c.in-Some.is)

pub invariant_of-self : goal.invariant_of-self
invariant_of-self c =
    let a = c.self.inside in
    (keeps_part_sparse (type_of a.data_type) a.types a.offsets a.start (map layout_of a.fields.items) c.args.self.now c.args.offset c.args.len c.self.view_is c.self.invariant c.requires c.slice.new.self c.in-None.is c.slice.ensures).union

pub invariant_of-self-in-Some : goal.invariant_of-self-in-Some
invariant_of-self-in-Some c =
    let a = c.self.inside in
    (keeps_part_dense (type_of a.data_type) a.types a.offsets a.start (map layout_of a.fields.items) c.args.self.now c.args.offset c.args.len c.self.view_is c.self.invariant c.requires c.slice.new.self c.in-Some.offsets c.slice-in-Some.new.self c.in-Some.is c.slice.ensures c.slice-in-Some.ensures).union

pub returns-in-None-clause-rows : goal.returns-in-None-clause-rows
returns-in-None-clause-rows c =
    let a = c.self.inside in
    (keeps_part_sparse (type_of a.data_type) a.types a.offsets a.start (map layout_of a.fields.items) c.args.self.now c.args.offset c.args.len c.self.view_is c.self.invariant c.requires c.slice.new.self c.in-None.is c.slice.ensures).rows

pub returns-in-Some-clause-part : goal.returns-in-Some-clause-part
returns-in-Some-clause-part c =
    let a = c.self.inside in
    (keeps_part_dense (type_of a.data_type) a.types a.offsets a.start (map layout_of a.fields.items) c.args.self.now c.args.offset c.args.len c.self.view_is c.self.invariant c.requires c.slice.new.self c.in-Some.offsets c.slice-in-Some.new.self c.in-Some.is c.slice.ensures c.slice-in-Some.ensures).part

pub returns-in-Some-clause-rows : goal.returns-in-Some-clause-rows
returns-in-Some-clause-rows c =
    let a = c.self.inside in
    (keeps_part_dense (type_of a.data_type) a.types a.offsets a.start (map layout_of a.fields.items) c.args.self.now c.args.offset c.args.len c.self.view_is c.self.invariant c.requires c.slice.new.self c.in-Some.offsets c.slice-in-Some.new.self c.in-Some.is c.slice.ensures c.slice-in-Some.ensures).rows
