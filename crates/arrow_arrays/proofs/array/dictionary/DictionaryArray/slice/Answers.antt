use Rattle.std.proofs.Common.{ℕ, Bool, Option, List, map, ap, ◌∙◌}
use Rattle.arrow_types.specs.TypeOf.{type_of}
use Rattle.arrow_memory.proofs.OffsetLemmas.{map_sliced}
use Rattle.arrow_arrays.specs.Any.{any_array_rows, layout_of}
use Rattle.arrow_arrays.specs.AnyKeys.{key_rows, keys_of}
use Rattle.arrow_arrays.specs.KeyedParts.{KeyedParts, key_in, keys_in}
use Rattle.arrow_arrays.specs.Layout.{keyed_item}
use Rattle.arrow_arrays.proofs.array.dictionary.DictionaryArray.slice.Goals as goal

pub returns-clause-part : goal.returns-clause-part
returns-clause-part c =
    let keys = ap keys_in c.slice.ensures.rows ∙ map_sliced key_in (key_rows c.self.inside.keys) c.args.offset c.args.len in
    let parts : Option (List Bool) → List (Option ℕ) → KeyedParts = λ v ks. record { arrow_type = type_of c.self.inside.data_type; validity = v; keys = ks; child = layout_of c.self.inside.values.value } in
    rw (← c.self.view_is) (λ i. parts (c.slice.ensures.validity i) (keys i))

pub returns-clause-rows : goal.returns-clause-rows
returns-clause-rows c =
    let keys = ap keys_in c.slice.ensures.rows ∙ map_sliced key_in (key_rows c.self.inside.keys) c.args.offset c.args.len in
    let item = keyed_item (any_array_rows c.self.inside.values.value) in
    rw (← c.self.view_is) (ap (map item) keys ∙ map_sliced item (keys_of c.self.inside.keys) c.args.offset c.args.len)
