use Rattle.std.proofs.Common.{◌≡◌, ◌-◌, List, take, drop, reverse, length, ap, sym, ◌∙◌, arith}
use Rattle.std.proofs.lemmas.List.{take_rest}
use Rattle.wasm_ast.specs.declared.values.Value.{Value}
use Rattle.label_machine.proofs.PileLemmas.{newest_of, older_than}
use Rattle.label_machine.proofs.pile.Pile+Value.take.Goals as goal

pub returns-clause-taken : goal.returns-clause-taken
returns-clause-taken c =
    let xs : List Value = c.as_slice-items.result.now in
    let left : c.saturating_sub-left.result ≡ length xs - c.args.count = omega arith in
    let all = take_rest xs (length xs - c.args.count) in
    let got : c.in_ok-top.top.items ≡ drop (length xs - c.args.count) xs =
    c.in_ok-top.ensures.items ∙ (ap (λ k. take (length xs - k) (drop k xs)) left ∙ all) in
    let new : reverse c.in_ok-top.top.items ≡ take c.args.count (reverse xs) =
    ap (reverse {A = Value}) got ∙ newest_of xs c.args.count in
    let same = c.as_slice-items.ensures.value in
    let seen = c.self.view_is in
    new ∙ ap (take {A = Value} c.args.count) (ap (reverse {A = Value}) same ∙ seen)

pub returns-clause-left : goal.returns-clause-left
returns-clause-left c =
    let xs : List Value = c.as_slice-items.result.now in
    let left : c.saturating_sub-left.result ≡ length xs - c.args.count = omega arith in
    let same = c.as_slice-items.ensures.value in
    let kept : c.truncate.new.self.items ≡ take (length xs - c.args.count) xs =
    c.truncate.ensures.items ∙ (ap (λ k. take k c.self.inside.items.items) left
    ∙ ap (take (length xs - c.args.count)) (sym same)) in
    let seen = c.self.view_is in
    ap (reverse {A = Value}) kept
    ∙ (older_than xs c.args.count ∙ ap (drop {A = Value} c.args.count) (ap (reverse {A = Value}) same ∙ seen))
