use Rattle.std.proofs.Common.{◌≡◌, false}
use Rattle.arrow_tool.proofs.InputProgress.{ReadsOn}
use Rattle.arrow_tool.proofs.engine.answer_lines.Given as goal

-- both streams work, and each read took a byte or more
abbrev pub invariant-loop-reads : goal.invariant-loop-reads
invariant-loop-reads g l =
    (g.R.Source.has_failed l.reader ≡ false) × (g.W.Sink.has_failed l.writer ≡ false) × ReadsOn (g.R.Source.remaining l.initial.reader) (g.R.Source.remaining l.reader) l._reads
