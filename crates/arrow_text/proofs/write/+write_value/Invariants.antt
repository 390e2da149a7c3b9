use Rattle.arrow_text.proofs.write.+write_value.Given as goal

-- each call lowers the depth, or comes nearer to one that does

abbrev pub decreases-write_value : goal.decreases-write_value
decreases-write_value l = l.depth
