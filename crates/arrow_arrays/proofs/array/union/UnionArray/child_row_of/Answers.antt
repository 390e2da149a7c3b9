use Rattle.std.proofs.Common.{◌<◌, ◌∙◌, ap, sym, pos, length, get_or, subst, w32, rules, arith}
use mir.Val.{SFits}
use Rattle.std.proofs.lemmas.Int.{to_z-of_z}
use Rattle.arrow_arrays.proofs.UnionLemmas.{offsets_fit, offset_natural, child_row_sparse, child_row_dense}
use Rattle.arrow_arrays.proofs.array.union.UnionArray.child_row_of.Goals as goal

pub returns-in-None : goal.returns-in-None
returns-in-None c =
    let within : c.args.i < length c.self.inside.types = subst (λ p. c.args.i < length p.types) (sym c.self.view_is) c.requires in
    rw (← c.self.view_is) (child_row_sparse c.self.inside.offsets c.self.inside.start _ c.args.i c.in-None.is within)

pub to_usize-requires : goal.to_usize-requires
to_usize-requires c =
    let fits : SFits w32 (get_or c.as_slice.result.now c.args.i (pos 0)) = search rules in
    let within : c.args.i < length c.self.inside.types = subst (λ p. c.args.i < length p.types) (sym c.self.view_is) c.requires in
    rw (to_z-of_z w32 (get_or c.as_slice.result.now c.args.i (pos 0)) fits, c.as_slice.ensures) (offset_natural _ c.in-Some.offsets c.args.i c.self.invariant c.in-Some.is within)

pub returns-in-Some : goal.returns-in-Some
returns-in-Some c =
    let fits : SFits w32 (get_or c.as_slice.result.now c.args.i (pos 0)) = search rules in
    let within : c.args.i < length c.self.inside.types = subst (λ p. c.args.i < length p.types) (sym c.self.view_is) c.requires in
    let among : c.args.i < length c.in-Some.offsets = omega (arith, within, offsets_fit _ c.in-Some.offsets c.self.invariant c.in-Some.is) in
    let is = c.to_usize.ensures.value ∙ (to_z-of_z w32 (get_or c.as_slice.result.now c.args.i (pos 0)) fits ∙ ap (λ xs. get_or xs c.args.i (pos 0)) c.as_slice.ensures) in
    rw (← c.self.view_is) (child_row_dense c.self.inside.offsets c.in-Some.offsets c.self.inside.start _ c.args.i c.to_usize.result c.in-Some.is among is)
