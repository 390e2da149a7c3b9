use Rattle.arrow_text.proofs.scalar.+scalar_of_row.Given as goal

-- each call lowers the depth, or comes nearer to one that does

abbrev pub decreases-scalar_of_row : goal.decreases-scalar_of_row
decreases-scalar_of_row l = l.depth
