-- The exit status of the program.
use Rattle.std.specs.Prelude.{ℕ, Bool, true, false, Result, Ok, Err}
use Rattle.arrow_tool.specs.declared.engine.RunFault.{RunFault}

-- 0 where every line was answered, 1 where some line was refused, 2 where the run ended by a fault
abbrev pub status_of : Result Bool RunFault → ℕ
status_of (Ok false) = 0
status_of (Ok true) = 1
status_of (Err fault) = 2
