use Rattle.std.proofs.Common.{◌≡◌, false, length}
use Rattle.arrow_tool.proofs.engine.Session.take_in.Given as goal

-- the writer works
abbrev pub invariant-loop-end : goal.invariant-loop-end
invariant-loop-end g l = g.W.Sink.has_failed l.writer ≡ false

abbrev pub decreases-loop-end : goal.decreases-loop-end
decreases-loop-end g l = length l.rest
