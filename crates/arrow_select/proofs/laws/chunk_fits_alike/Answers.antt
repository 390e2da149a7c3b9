use Rattle.arrow_select.proofs.Common.{◌∙◌, sym, mask_of, boolean_rows}
use Rattle.arrow_select.proofs.ChunkLemmas.{kept_fit, none_passes}
use Rattle.arrow_select.proofs.LawLemmas.{columns_alike}
use Rattle.arrow_select.proofs.laws.chunk_fits_alike.Goals as goal

pub returns : goal.returns
returns c first =
    let mask = mask_of (boolean_rows c.args.other_filter.now) in
    let alike = columns_alike (boolean_rows c.args.filter.now) (boolean_rows c.args.other_filter.now) c.args.columns.now c.args.other.now c.requires.filters c.requires.same_rows in
    none_passes mask c.args.other.now (kept_fit mask c.args.other.now c.args.kept.now c.requires.fits (c.requires.types ∙ sym c.requires.same_types) (c.requires.rows ∙ sym alike)) first
