use Rattle.std.proofs.Common.{◌≡◌, nat_eq, length, Some, ap, ◌∙◌, rules}
use Rattle.validator.specs.Inside.Algorithm.{is_empty}
use Rattle.validator.specs.Inside.Blocks.{Blocks}
use Rattle.validator.proofs.OperandLemmas.{empty_above}
use Rattle.validator.proofs.operands.Operands.is_empty.Goals as goal

pub returns : goal.returns
returns c =
    let items = c.self.inside.groups.items in
    let count : c.len.result ≡ length items = search rules in
    ap (λ n. nat_eq n c.self.inside.base) count
    ∙ (empty_above items c.self.inside.base c.self.invariant
    ∙ ap (λ (o : Blocks). is_empty (Some o.stack.types)) c.self.view_is)
