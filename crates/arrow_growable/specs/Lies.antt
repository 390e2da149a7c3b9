-- Where the rows of an array lie in its children, by its layout.
use Rattle.std.specs.Prelude.{◌≡◌, length}
use Rattle.arrow_types.specs.Physical.{physical_type_of}
use Rattle.arrow_arrays.specs.Layout.{Layout, rows, type_of_layout}
use Rattle.arrow_growable.specs.Source.{IsOfForm, IsSource, nulls_in, place_in, offsets_in}
use Rattle.arrow_growable.specs.Spans.{AreSpans, span_arrays, span_count, span_form, span_nulls, span_offsets, span_place}
use Rattle.arrow_growable.specs.declared.growable.spans.Spans.{Spans}

-- these are the places of its rows, and it is a source
pub record Lies (spans : Spans) (l : Layout) : Type 0 where
  pub sound : AreSpans spans
  pub form : IsOfForm (span_form spans) l
  pub place : span_place spans ≡ place_in l
  pub offsets : span_offsets spans ≡ offsets_in l
  pub nulls : span_nulls spans ≡ nulls_in l
  pub count : span_count spans ≡ length (rows l)
  pub arrays : span_arrays spans ≡ physical_type_of (type_of_layout l)
  pub source : IsSource l
