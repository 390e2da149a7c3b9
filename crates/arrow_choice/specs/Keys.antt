-- Types and arrays that hold no dictionary, at any depth: no key of theirs can be crowded.
use Rattle.arrow_types.specs.ArrowType.{ArrowType, ArrowFields, plain, list, struct, union, dictionary, extension, field, no_fields, more_fields}
use Rattle.arrow_arrays.specs.Layout.{Layout, Layouts, flat, listed, fixed, fielded, sparse, dense, keyed, no_layouts, more_layouts}

abbrev mutual
  pub HasNoKeys : Layout → Type 0
  HasNoKeys (flat t xs) = Unit {0}
  HasNoKeys (listed t v offsets c) = HasNoKeys c
  HasNoKeys (fixed t v s c) = HasNoKeys c
  HasNoKeys (fielded t v cs) = HaveNoKeys cs
  HasNoKeys (sparse t ids start cs) = HaveNoKeys cs
  HasNoKeys (dense t ids child_rows cs) = HaveNoKeys cs
  HasNoKeys (keyed t keys c) = ⊥

  -- each of them
  pub HaveNoKeys : Layouts → Type 0
  HaveNoKeys no_layouts = Unit {0}
  HaveNoKeys (more_layouts l ls) = HasNoKeys l × HaveNoKeys ls

-- a type that holds none
abbrev mutual
  pub HasNoDictionary : ArrowType → Type 0
  HasNoDictionary (plain p) = Unit {0}
  HasNoDictionary (list form (field name t nullable)) = HasNoDictionary t
  HasNoDictionary (struct fs) = HaveNoDictionary fs
  HasNoDictionary (union mode ids fs) = HaveNoDictionary fs
  HasNoDictionary (dictionary keys ordered t) = ⊥
  HasNoDictionary (extension name metadata t) = HasNoDictionary t

  -- fields of which none does
  pub HaveNoDictionary : ArrowFields → Type 0
  HaveNoDictionary no_fields = Unit {0}
  HaveNoDictionary (more_fields (field name t nullable) fs) = HasNoDictionary t × HaveNoDictionary fs
