-- How deep types nest: the measure of a recursion over them. An extension is as deep as the type inside it.
use Rattle.std.specs.Prelude.{ℕ, suc, max, List, [], ◌∷◌}
use Rattle.arrow_types.specs.ArrowType.{ArrowType, ArrowFields, plain, list, struct, union, dictionary, extension, field, no_fields, more_fields}

abbrev mutual
  pub type_depth : ArrowType → ℕ
  type_depth (plain p) = 0
  type_depth (list form (field name t nullable)) = suc (type_depth t)
  type_depth (struct fs) = fields_depth fs
  type_depth (union mode ids fs) = fields_depth fs
  type_depth (dictionary keys ordered t) = suc (type_depth t)
  type_depth (extension name metadata t) = type_depth t

  -- more than each of the fields
  pub fields_depth : ArrowFields → ℕ
  fields_depth no_fields = 0
  fields_depth (more_fields (field name t nullable) fs) = max (suc (type_depth t)) (fields_depth fs)

-- the same of a list of types
abbrev pub deepest : List ArrowType → ℕ
deepest [] = 0
deepest (t ∷ ts) = max (suc (type_depth t)) (deepest ts)
