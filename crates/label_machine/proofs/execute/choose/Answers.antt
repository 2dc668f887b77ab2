use Rattle.std.proofs.Common.{◌≡◌, ◌≤◌, ◌^◌, ◌+◌, ◌∷◌, suc, List, refl, ap, ◌∙◌, arith}
use Rattle.wasm_ast.specs.declared.values.Value.{Value}
use Rattle.wasm_ast.specs.declared.values.Value.TheVariants.{I32}
use Rattle.wasm_ast.specs.declared.instr.BlockType.{BlockType}
use Rattle.wasm_ast.specs.Types.{block_type}
use Rattle.wasm_ast.specs.Syntax.{if', ops_count}
use Rattle.step_machine.specs.Program.{Program}
use Rattle.step_machine.specs.Configuration.{onward}
use Rattle.step_machine.specs.Effects.{effect}
use Rattle.label_machine.proofs.TurnLemmas.{chooses_none, no_rule_for}
use Rattle.step_machine.specs.Turns.{turn}
use Rattle.label_machine.specs.declared.run.Run.{Run}
use Rattle.label_machine.specs.declared.run.Doing.TheVariants as doing
use Rattle.label_machine.specs.declared.label.Target.{Target}
use Rattle.label_machine.specs.declared.label.Target.TheVariants.{After}
use Rattle.label_machine.specs.Inside.Turns.{env_of, HasCounts, Enters}
use Rattle.label_machine.specs.Inside.Runs.{about_to, Limited, IsOf, LeadsTo}
use Rattle.label_machine.proofs.SettleLemmas.{on_ok}
use Rattle.label_machine.proofs.TurnLemmas.{with_operands, leads_into, chooses_then, chooses_else, block_enters}
use Rattle.label_machine.proofs.OutermostLemmas.{some_so}
use Rattle.label_machine.proofs.execute.choose.Goals as goal

-- there is no condition
pub returns-in_default : goal.returns-in_default
returns-in_default c p b counts of =
    no_rule_for p c.args.run c.args.place (if' b c.args.then_arm.now c.args.else_arm.now)
    (chooses_none p (env_of c.args.run) c.args.run.top.operands c.args.place b c.args.then_arm.now c.args.else_arm.now
    c.in_default.ensures)

pub returns-then-condition-gt0 : goal.returns-then-condition-gt0
returns-then-condition-gt0 c =
    let x = c.args.run in
    let vs : List Value = c.take_i32.new.operands in
    let first = c.args.then_arm.now in
    let second = c.args.else_arm.now in
    let place = c.args.place in
    let m = c.args.counts.params in
    let n = c.args.counts.results in
    let after : Target = After x.top.ahead in
    on_ok
    (λ s. (y : Run) × Limited y doing.Next s × Enters (with_operands x vs) y m n place after (place + 1) first)
    (λ s. (p : Program) (b : BlockType) → HasCounts (block_type p.types b) m n
    → IsOf p x.pending x.store → LeadsTo p (turn p (about_to x place (if' b first second))) s) c.enter.result
    (λ s g p b counts of. leads_into p x vs g.0 place (if' b first second) m n (place + 1) after onward
    first c.requires.counted g.2 refl
    (let is : suc place ≡ place + 1 = omega arith in
    ap (λ (us : List Value). effect p (env_of x) us place (if' b first second)) c.in-Some.ensures
    ∙ (chooses_then p (env_of x) vs place c.in-Some.condition b first second c.if-condition-gt0.true
    ∙ block_enters (block_type p.types b) m n counts vs place first (suc place) (place + 1) is)) s g.1 of)
    c.enter.ensures

pub returns-else-condition-gt0 : goal.returns-else-condition-gt0
returns-else-condition-gt0 c =
    let x = c.args.run in
    let vs : List Value = c.take_i32.new.operands in
    let first = c.args.then_arm.now in
    let second = c.args.else_arm.now in
    let place = c.args.place in
    let start = place + 1 + c.unwrap.result in
    let m = c.args.counts.params in
    let n = c.args.counts.results in
    let after : Target = After x.top.ahead in
    on_ok
    (λ s. (y : Run) × Limited y doing.Next s × Enters (with_operands x vs) y m n place after start second)
    (λ s. (p : Program) (b : BlockType) → HasCounts (block_type p.types b) m n
    → IsOf p x.pending x.store → LeadsTo p (turn p (about_to x place (if' b first second))) s)
    c.enter-else-condition-gt0.result
    (λ s g p b counts of. leads_into p x vs g.0 place (if' b first second) m n start after onward
    second c.requires.counted g.2 refl
    (let none = c.if-condition-gt0.false in
    let zero : c.in-Some.condition ≡ 0 = omega (arith, none) in
    let inside : c.unwrap.result ≡ ops_count first =
    some_so (2 ^ 32 ≤ ops_count first) (λ k. k ≡ ops_count first) c.places_in.result c.unwrap.result c.unwrap.ensures
    c.places_in.ensures in
    let is : suc place + ops_count first ≡ start = omega (arith, inside) in
    ap (λ (us : List Value). effect p (env_of x) us place (if' b first second)) c.in-Some.ensures
    ∙ (ap (λ k. effect p (env_of x) (I32 k ∷ vs) place (if' b first second)) zero
    ∙ (chooses_else p (env_of x) vs place b first second
    ∙ block_enters (block_type p.types b) m n counts vs place second (suc place + ops_count first) start is)))
    s g.1 of)
    c.enter-else-condition-gt0.ensures
