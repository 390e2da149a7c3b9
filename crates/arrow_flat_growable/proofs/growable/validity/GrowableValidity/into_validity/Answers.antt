use Rattle.arrow_flat_growable.proofs.Common.{◌≡◌, ◌∙◌, length, replicate, true, sym, ap, length-replicate, mask, bits_by, mask-set}
use Rattle.arrow_flat_growable.proofs.MaskLemmas.{mask-all}
use Rattle.arrow_flat_growable.proofs.growable.validity.GrowableValidity.into_validity.Goals as goal

pub returns-in_default-clause-ok : goal.returns-in_default-clause-ok
returns-in_default-clause-ok c =
    let bits : c.args.self ≡ replicate c.self.inside.len true = sym c.self.view_is ∙ ap (λ b. bits_by b c.self.inside.len) c.in_default.is in
    record { fits = tt; rows = λ xs same. sym (ap (λ b. mask b xs) bits ∙ mask-set c.self.inside.len xs (same ∙ ap length bits ∙ length-replicate c.self.inside.len true)) }

pub returns-then-unset_bits-eq0-clause-ok : goal.returns-then-unset_bits-eq0-clause-ok
returns-then-unset_bits-eq0-clause-ok c =
    let bits : c.args.self ≡ c.in_ok-bits.bits =
    sym c.self.view_is ∙ (ap (λ b. bits_by b c.self.inside.len) c.in-Some.is ∙ (sym c.in-Some.bits-is ∙ sym c.in_ok-bits.ensures.ok)) in
    record { fits = tt; rows = λ xs same. sym (ap (λ b. mask b xs) bits ∙ mask-all c.in_ok-bits.bits xs (same ∙ ap length bits) (sym c.unset_bits.ensures ∙ c.if-unset_bits-eq0.true)) }
