-- Values that grow by parts of others, their sources, of which some parts are not copied yet.
use Rattle.std.specs.Prelude.{ℕ, ◌≡◌, ◌+◌, ◌<◌, ◌≤◌, ◌++◌, [], List, length, replicate, slice_index_or}
use Rattle.std.specs.List.{All, flat_map}
use Rattle.arrow_memory.specs.Sliced.{sliced}
use Rattle.arrow_flat_growable.specs.declared.growable.parts.Part.{Part}
use Rattle.arrow_flat_growable.specs.declared.growable.parts.Part.TheVariants.{Of, Repeated}

-- a part lies in its source, and such a source is there
abbrev pub LiesIn : {A : Type 0} → List (List A) → Part A → Type 0
LiesIn sources (Of source start len) = (source < length sources) × (start + len ≤ length (slice_index_or sources source []))
LiesIn sources (Repeated value count) = Unit {0}

-- a source has these values
abbrev pub IsBound : {A : Type 0} → List (List A) → ℕ → List A → Type 0
IsBound sources i values = (i < length sources) × (slice_index_or sources i [] ≡ values)

-- the values of a part: those of a source, or one so many times
abbrev pub part_values : {A : Type 0} → List (List A) → Part A → List A
part_values sources (Of source start len) = sliced (slice_index_or sources source []) start len
part_values sources (Repeated value count) = replicate count value

-- the values that are copied, and behind them those of the parts that wait
abbrev pub with_parts : {A : Type 0} → List (List A) → List A → List (Part A) → List A
with_parts sources values parts = values ++ flat_map (part_values sources) parts

-- parts that come behind others, in the same sources, and have these values
pub record AppendsParts {A : Type 0} (sources : List (List A)) (old new : List (Part A)) (more : List A) : Type 0 where
  pub lie : All (LiesIn sources) old → All (LiesIn sources) new
  pub values : flat_map (part_values sources) new ≡ flat_map (part_values sources) old ++ more
