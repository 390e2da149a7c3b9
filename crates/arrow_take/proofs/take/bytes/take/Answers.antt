use Rattle.arrow_take.proofs.Common.{◌≡◌, ◌∙◌, ◌-◌, Err, List, ℕ, ap, arith, length, map, refl, rules, subst, sym, All, length-map, Fits, masked, Slot, IsOffsets, ByteParts, byte_slots, FitsRows, Parts, rows_by, pieces, length-masked, length-pieces, passed_on, AreKeys, MarksTaken, IsBytesType}
use Rattle.arrow_take.proofs.TakenBytes.{MakesBytes, TakesBytes, allowed_by_index, bytes_end, bytes_fit, bytes_pass, bytes_taken, offsets_fit, pieces_are, rows_fit}
use Rattle.arrow_take.proofs.take.bytes.take.Given as given
use Rattle.arrow_take.proofs.take.bytes.take.Goals as goal
use Rattle.arrow_take.proofs.take.bytes.take.Goals.{In_ok-bytes, In_ok-validity}

-- the indices name rows that the offsets name
keys_of : (slot : List ℕ → Slot) (p : Parts ByteParts) (indices : List Slot) → FitsRows p.validity (length (byte_slots slot p.values)) → AreKeys (length (rows_by (byte_slots slot) p)) indices → AreKeys (length p.values.offsets - 1) indices
keys_of slot p indices fits =
    subst (λ n. AreKeys n indices) (length-masked p.validity (byte_slots slot p.values) fits ∙ (length-map (pieces p.values.offsets p.values.bytes) slot ∙ length-pieces p.values.offsets p.values.bytes))

-- what the array and the indices are, and the validity by index
takes : (g : given.Over) (c : In_ok-validity g) → TakesBytes g.K.ByteKind.slot g.O.Offset.IS_LARGE c.args.values.now (rows_by (map g.I.NativeType.slot) c.args.indices.now) c.in_ok-validity.validity
takes g c =
    let p = c.args.values.now in
    let slot = g.K.ByteKind.slot in
    let indices = rows_by (map g.I.NativeType.slot) c.args.indices.now in
    record {
      counts = g.met.K.GrowableKind.counts;
      lies = subst (IsBytesType g.O.Offset.IS_LARGE) (sym c.data_type.ensures.kind) (g.met.K.GrowableKind.lies_as_bytes g.O.Offset.IS_LARGE);
      names = record { sound = subst IsOffsets c.offsets.ensures c.len-2.ensures.sound; within = c.values.ensures.within; keys = keys_of slot p indices c.validity.ensures.fits c.requires.inside };
      fits = rows_fit slot p.validity p.validity p.values.offsets p.values.offsets p.values.bytes refl refl c.validity.ensures.fits;
      marks = subst (λ v. MarksTaken v indices c.in_ok-validity.validity) c.validity.ensures.same c.in_ok-validity.ensures.ok;
    }

-- what the new offsets and bytes are
makes : (g : given.Over) (c : In_ok-bytes g) → MakesBytes c.args.values.now.validity c.args.values.now.values.offsets c.args.values.now.values.bytes (rows_by (map g.I.NativeType.slot) c.args.indices.now) c.in_ok-offsets.offsets c.in_ok-bytes.bytes
makes g c =
    record { offsets_are = c.in_ok-offsets.ensures.offsets; bytes_are = c.in_ok-bytes.ensures.ok ∙ c.in_ok-offsets.ensures.bytes }

pub take_rows-requires : goal.take_rows-requires
take_rows-requires g c =
    keys_of g.K.ByteKind.slot c.args.values.now (rows_by (map g.I.NativeType.slot) c.args.indices.now) c.validity.ensures.fits c.requires.inside

pub returns-in_err-offsets-clause-overflow : goal.returns-in_err-offsets-clause-overflow
returns-in_err-offsets-clause-overflow g c overflows =
    let over = c.in_err-offsets.ensures.overflow (ap Err (passed_on c.from_residual-in_err-offsets.result _ _ c.from_residual-in_err-offsets.ensures.1 overflows)) in
    bytes_pass (takes g (goal.at.returns-in_err-offsets-clause-overflow g c).In_ok-validity) g.O.Index.greatest g.met.O.Offset.greatest_is over

pub new-requires-clause-length : goal.new-requires-clause-length
new-requires-clause-length g c =
    let at = goal.at.new-requires-clause-length g c in
    offsets_fit (takes g at.In_ok-validity) (makes g at.In_ok-bytes)

pub new-requires-clause-offsets : goal.new-requires-clause-offsets
new-requires-clause-offsets g c =
    let at = goal.at.new-requires-clause-offsets g c in
    bytes_end (takes g at.In_ok-validity) (makes g at.In_ok-bytes)

pub new-requires-clause-text : goal.new-requires-clause-text
new-requires-clause-text g c =
    let at = goal.at.new-requires-clause-text g c in
    let known = takes g at.In_ok-validity in
    subst (All g.K.ByteKind.Allows) (sym (pieces_are known (makes g at.In_ok-bytes))) (allowed_by_index known.names c.args.values.now.validity g.K.ByteKind.Allows g.met.K.GrowableKind.allows_empty c.values.ensures.allowed)

pub returns-clause-rows : goal.returns-clause-rows
returns-clause-rows g c =
    let at = goal.at.returns-clause-rows g c in
    let known = takes g at.In_ok-validity in
    let slot = g.K.ByteKind.slot in
    ap (rows_by (byte_slots slot)) c.new.ensures ∙ (ap (λ rows. masked c.in_ok-validity.validity (map slot rows)) (pieces_are known (makes g at.In_ok-bytes)) ∙ bytes_taken known)

pub returns-clause-fits : goal.returns-clause-fits
returns-clause-fits g c =
    let t = c.args.values.now.arrow_type in
    let same : c.new.result.arrow_type ≡ t = search rules in
    let fit = bytes_fit (takes g (goal.at.returns-clause-fits g c).In_ok-validity) g.O.Index.greatest g.met.O.Offset.greatest_is (omega (arith, c.len.ensures.rows)) c.in_ok-offsets.ensures.few in
    subst (λ u. Fits u (rows_by (byte_slots g.K.ByteKind.slot) c.new.result)) (sym same) (subst (Fits t) (sym (returns-clause-rows g c)) fit)
