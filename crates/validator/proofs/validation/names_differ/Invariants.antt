use Rattle.std.proofs.Common.{List, ℕ, All, map, take}
use Rattle.validator.specs.Typing.{AllDifferent}
use Rattle.validator.proofs.ExportNames.{Seen, Among}
use Rattle.validator.proofs.validation.names_differ.Given as goal

abbrev pub invariant-loop-export : goal.invariant-loop-export
invariant-loop-export l = record {
  differ : AllDifferent (map (λ e. e.name) (take l.export-index l.exports));
  known : (x : List ℕ) → Seen l.seen x → Among (map (λ e. e.name) (take l.export-index l.exports)) x;
  keys : All (Seen l.seen) (map (λ e. e.name) (take l.export-index l.exports));
}
