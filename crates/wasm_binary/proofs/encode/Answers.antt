use Rattle.std.proofs.Common.{◌≡◌, ◌≤◌, List, ℕ, length, subst, sym, ◌∙◌, arith}
use Rattle.wasm_ast.specs.Limits.{max_module_bytes}
use Rattle.wasm_binary.specs.Grammar.{Spells}
use Rattle.wasm_binary.specs.Canonical.{canon}
use Rattle.wasm_binary.proofs.CanonicalSpells.{canon_spells}
use Rattle.wasm_binary.proofs.encode.Goals as goal

pub returns-clause-spells : goal.returns-clause-spells
returns-clause-spells c =
    let same : c.in_ok-bytes.bytes.items ≡ canon c.args.module.now = c.in_ok-bytes.ensures in
    let short :
    length (canon c.args.module.now) ≤ max_module_bytes =
    subst (λ (xs : List ℕ). length xs ≤ max_module_bytes) same (omega arith) in
    subst (λ (bytes : List ℕ). Spells bytes c.args.module.now) (sym same)
    (canon_spells c.args.module.now c.ranged.ensures c.texts.ensures (
      c.limits_are_tested.ensures.within (sym c.is_within_limits.ensures ∙ c.if-not-is_within_limits.false),
      short,
    ))
