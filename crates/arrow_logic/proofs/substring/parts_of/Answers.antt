use Rattle.arrow_logic.proofs.Common.{◌≡◌, ◌∙◌, ◌-◌, [], ap, length, map, refl, rules, subst, sym, SFits, w64, to_z, of_z, All, to_z-of_z, part, masked, byte_slots, row_bytes, FitsRows, rows_by, pieces, length-byte_slots}
use Rattle.arrow_logic.proofs.KeptLemmas.{all-kept, rows-kept}
use Rattle.arrow_logic.proofs.substring.parts_of.Goals as goal

pub new-requires-clause-length : goal.new-requires-clause-length
new-requires-clause-length g c =
    let p = c.args.rows.now in
    let shared = c.in_ok-validity.ensures.ok ∙ c.validity.ensures.same in
    let fits = subst (FitsRows p.validity) (length-byte_slots g.K.ByteKind.slot p.values) c.validity.ensures.fits in
    subst (λ w. FitsRows w (length c.in_ok-offsets.offsets - 1)) (sym shared) (subst (λ n. FitsRows p.validity (n - 1)) (sym c.in_ok-offsets.ensures.long) fits)

pub new-requires-clause-text : goal.new-requires-clause-text
new-requires-clause-text g c =
    let p = c.args.rows.now in
    let start = to_z w64 (of_z w64 c.args.start) in
    let are = ap (pieces c.in_ok-offsets.offsets) c.in_ok-bytes.ensures.ok ∙ c.in_ok-offsets.ensures.parts in
    subst (All g.K.ByteKind.Allows) (sym are) (all-kept [] (g.K.Units.cut start c.args.count) g.K.ByteKind.Allows g.K.ByteKind.Allows g.met.K.Units.allows_none (g.met.K.Units.allows_part start c.args.count) p.validity (row_bytes p.values) c.values.ensures.allowed)

pub returns-clause-rows : goal.returns-clause-rows
returns-clause-rows g c =
    let p = c.args.rows.now in
    let slot = g.K.ByteKind.slot in
    let stored = to_z w64 (of_z w64 c.args.start) in
    let start_fits : SFits w64 c.args.start = search rules in
    let start : stored ≡ c.args.start = to_z-of_z w64 c.args.start start_fits in
    let shared = c.in_ok-validity.ensures.ok ∙ c.validity.ensures.same in
    let are = ap (pieces c.in_ok-offsets.offsets) c.in_ok-bytes.ensures.ok ∙ c.in_ok-offsets.ensures.parts in
    ap (rows_by (byte_slots slot)) c.new.ensures ∙ ((λ t. masked (shared t) (map slot (are t))) ∙ (rows-kept [] (g.K.Units.cut stored c.args.count) slot slot (part stored c.args.count) (λ bytes. sym (g.met.K.Units.is_part stored c.args.count bytes)) refl p.validity (row_bytes p.values) ∙ ap (λ z. map (part z c.args.count) (rows_by (byte_slots slot) p)) start))
