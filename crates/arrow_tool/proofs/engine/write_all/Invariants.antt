use Rattle.std.proofs.Common.{◌≡◌, ◌++◌, ℕ, List, false, length}
use Rattle.std.specs.Io.KnownBytes.{Appends}
use Rattle.arrow_tool.proofs.engine.write_all.Given as goal

-- the writer works, and holds the bytes before those that are left
abbrev pub invariant-loop-rest : goal.invariant-loop-rest
invariant-loop-rest g l =
    (g.W.Sink.has_failed l.writer ≡ false) × ((written : List ℕ) × (l.bytes ≡ written ++ l.rest) × Appends (g.W.Sink.contents l.initial.writer) (g.W.Sink.contents l.writer) written)

abbrev pub decreases-loop-rest : goal.decreases-loop-rest
decreases-loop-rest g l = length l.rest
