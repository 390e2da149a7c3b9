use Rattle.arrow_flat_growable.proofs.Common.{◌≡◌, ◌+◌, ◌-◌, ◌%◌, ◌≤◌, ◌∙◌, ◌++◌, arith, ap, drop, length, map, subst, sym, take, unsigned_abs, All-drop, All-take, masked, sliced, length-sliced, AreKeys, IsKey, fitting_keys, grown_key}
use Rattle.std.specs.Prelude.{option_copied}
use Rattle.arrow_flat_growable.proofs.MovedLemmas.{half_rows, moved_more}
use Rattle.arrow_flat_growable.proofs.growable.keys.moved.append_moved.Goals as goal

pub append_half-requires-clause-within : goal.append_half-requires-clause-within
append_half-requires-clause-within g c =
    let slot = g.K.NativeType.slot in
    let stored = c.args.stored.now in
    let row = c.loop-row.row in
    let count = c.min-count.result in
    let within : row + count ≤ length stored = omega (arith, c.min-count.ensures, c.loop-row.invariant.within, c.requires.part) in
    let in_half : row % 32 + count ≤ 32 = omega (arith, c.min-count.ensures) in
    let size : row + count - row ≡ count = omega arith in
    let rows = half_rows slot _ stored (take (row + count - row) (drop row stored)) row count c.valid_half-half.result c.requires.fits within in_half (ap (λ n. take n (drop row stored)) size) c.valid_half-half.ensures in
    let fitting = fitting_keys g.K.Index.greatest (unsigned_abs (g.K.NativeOrd.number c.args.by)) in
    subst (AreKeys fitting) (sym rows) (All-take (IsKey fitting) count _ (All-drop (IsKey fitting) row (masked (option_copied c.args.validity) (map slot stored)) c.requires.within))

pub loop-row-preserved : goal.loop-row-preserved
loop-row-preserved g c =
    let slot = g.K.NativeType.slot in
    let f = grown_key (unsigned_abs (g.K.NativeOrd.number c.args.by)) in
    let stored = c.args.stored.now in
    let start = c.args.start in
    let row = c.loop-row.row in
    let count = c.min-count.result in
    let within : row + count ≤ length stored = omega (arith, c.min-count.ensures, c.loop-row.invariant.within, c.requires.part) in
    let in_half : row % 32 + count ≤ 32 = omega (arith, c.min-count.ensures) in
    let size : row + count - row ≡ count = omega arith in
    let part = take (row + count - row) (drop row stored) in
    let same : part ≡ sliced stored row count = ap (λ n. take n (drop row stored)) size in
    let long : length part ≡ count = ap length same ∙ length-sliced stored row count within in
    let rows = half_rows slot _ stored part row count c.valid_half-half.result c.requires.fits within in_half same c.valid_half-half.ensures in
    let grown = c.append_half.ensures.slots ∙ ap (λ xs. map slot c.loop-row.keys.items ++ map f xs) rows in
    let order = c.loop-row.invariant.order in
    record {
      order = omega (arith, order);
      within = omega (arith, c.min-count.ensures, c.loop-row.invariant.within);
      room = omega (arith, c.append_half.ensures.len, c.append_half.ensures.capacity, c.loop-row.invariant.room, long, c.min-count.ensures, c.loop-row.invariant.within);
      slots = moved_more f (map slot c.args.keys.now.items) (map slot c.loop-row.keys.items) (map slot c.append_half.new.keys.items) (masked (option_copied c.args.validity) (map slot stored)) start (row - start) row count (row + count - start) (omega (arith, order)) (omega (arith, order)) grown c.loop-row.invariant.slots;
    }
