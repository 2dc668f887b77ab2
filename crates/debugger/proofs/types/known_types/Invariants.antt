use Rattle.std.proofs.Common.{◌≡◌, ◌-◌, drop}
use Rattle.debugger.specs.Inside.Typed.{oldest_first}
use Rattle.debugger.proofs.types.known_types.Given as goal

-- those of the outer blocks
abbrev pub invariant-loop-inner : goal.invariant-loop-inner
invariant-loop-inner l = l.known.items ≡ oldest_first (drop (l.count - l.inner) l.types.stacks)
