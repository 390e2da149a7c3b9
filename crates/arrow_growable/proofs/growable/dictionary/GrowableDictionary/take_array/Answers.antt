use Rattle.arrow_growable.proofs.Common.{◌≡◌, length, map, ap, sym, ◌∙◌, rules, mask, masked, type_of, layout_of, key_rows, keys_in, keyed_item, rows, key_slots}
use Rattle.arrow_growable.proofs.growable.dictionary.GrowableDictionary.take_array.Goals as goal

pub returns-clause-ok : goal.returns-clause-ok
returns-clause-ok c =
    let was = c.self.invariant.0.holds c.if-self.false in
    let same_type : type_of c.in_ok-data_type.data_type ≡ type_of c.self.inside.data_type = search rules in
    let same_values : layout_of c.in_ok-values.values.value ≡ layout_of c.self.inside.values = search rules in
    let bits : c.replace.result ≡ c.self.inside.validity = search rules in
    let slots : key_slots c.replace-2.result ≡ key_slots c.self.inside.keys = search rules in
    let all : key_rows c.in_ok-keys.keys ≡ mask c.self.inside.validity (key_slots c.self.inside.keys) = c.in_ok-keys.ensures.ok ∙ (ap (masked c.in_ok-validity.validity) slots ∙ (c.in_ok-validity.ensures.ok.rows (key_slots c.self.inside.keys) (was.counted ∙ (sym was.covered ∙ ap length (sym bits))) ∙ ap (λ bs. mask bs (key_slots c.self.inside.keys)) bits)) in
    rw (← c.self.view_is, c.new-array.ensures) (same_type, λ i. map (keyed_item (rows (same_values i))) (keys_in (all i)))
