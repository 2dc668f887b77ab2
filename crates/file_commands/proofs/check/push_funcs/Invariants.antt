use Rattle.std.proofs.Common.{◌≡◌, ◌++◌, string_bytes, drop}
use Rattle.file_commands.specs.Checked.{func_lines}
use Rattle.file_commands.proofs.check.push_funcs.Given as goal

-- the lines so far, and those of the functions left
abbrev pub invariant-loop-each : goal.invariant-loop-each
invariant-loop-each l =
    string_bytes l.list ++ func_lines l.func (drop l.each-index l.funcs)
    ≡ string_bytes l.fn.list ++ func_lines l.fn.first l.funcs
