use Rattle.arrow_flat_growable.proofs.Common.{◌≡◌, ◌∙◌, ap, sym, subst, length, map, length-map, byte_slots, row_bytes, masked, FitsRows, with_waiting}
use Rattle.arrow_flat_growable.proofs.ResultLemmas.{if_ok}
use Rattle.arrow_flat_growable.proofs.growable.waiting.GrowableBytesGrowableValues.into_array.Goals as goal

pub into_array-requires-clause-fits : goal.into_array-requires-clause-fits
into_array-requires-clause-fits g c =
    let done : row_bytes c.copy_waiting.new.rows.1 ≡ c.args.self.1 = c.in_ok-copy_waiting.ensures.ok ∙ (ap (λ xs. with_waiting (map (λ x. x.values) xs) (row_bytes c.self.inside.rows.1) c.self.inside.waiting.items) c.deref.ensures.value ∙ ap (λ v. v.1) c.self.view_is) in
    subst (λ rows. FitsRows c.args.validity (length rows)) (sym done) (subst (λ n. FitsRows c.args.validity n) (length-map c.args.self.1 g.K.ByteKind.slot) c.requires.fits)

pub returns-clause-rows : goal.returns-clause-rows
returns-clause-rows g c =
    let slot = g.K.ByteKind.slot in
    let done : row_bytes c.copy_waiting.new.rows.1 ≡ c.args.self.1 = c.in_ok-copy_waiting.ensures.ok ∙ (ap (λ xs. with_waiting (map (λ x. x.values) xs) (row_bytes c.self.inside.rows.1) c.self.inside.waiting.items) c.deref.ensures.value ∙ ap (λ v. v.1) c.self.view_is) in
    if_ok c.into_array.result c.into_array.ensures.ok (λ array is. ap (λ a. masked a.validity (byte_slots slot a.values)) is ∙ ap (λ rows. masked c.args.validity (map slot rows)) done)
