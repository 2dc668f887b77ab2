use Rattle.std.proofs.Common.{subst, IfOk, ◌≡◌, ◌+◌, drop, suc, ℕ, List, refl, sym, ap, ◌∙◌, arith}
use Rattle.wasm_ast.specs.declared.instr.Arms.{Arms}
use Rattle.wasm_ast.specs.declared.instr.Instr.{Instr}
use Rattle.wasm_ast.specs.declared.instr.BlockType.{BlockType}
use Rattle.wasm_ast.specs.Types.{block_type}
use Rattle.wasm_ast.specs.Syntax.{Op, Ops, block, loop, if', count}
use Rattle.wasm_ast.specs.View.{op_of}
use Rattle.step_machine.specs.Program.{Program, program}
use Rattle.step_machine.specs.Configuration.{onward, again}
use Rattle.step_machine.specs.Turns.{turn}
use Rattle.label_machine.specs.declared.run.Run.{Run}
use Rattle.label_machine.specs.declared.run.Step.TheVariants.{Stuck}
use Rattle.label_machine.specs.declared.run.Doing.TheVariants as doing
use Rattle.label_machine.specs.declared.label.Target.{Target}
use Rattle.label_machine.specs.declared.label.Target.TheVariants.{After, Again}
use Rattle.label_machine.specs.Inside.View.{looped, ops_in}
use Rattle.label_machine.specs.Inside.Turns.{env_of, HasCounts, Enters}
use Rattle.label_machine.specs.Inside.Runs.{about_to, IsWithin, IsOf, LeadsTo, Limited}
use Rattle.label_machine.proofs.SettleLemmas.{on_ok}
use Rattle.label_machine.proofs.TurnLemmas.{leads_into, block_enters, loop_enters, no_block, no_loop, no_if, no_rule_for}
use Rattle.label_machine.proofs.execute.run_instr.Goals as goal

pub returns-in-Simple : goal.returns-in-Simple
returns-in-Simple c p =
    let x = c.args.run in
    let q = program c.args.of.now p in
    let place = c.args.place in
    let is = ap op_of c.in-Simple.is in
    let one : x.top.ahead.place ≡ place + 1 = c.requires.counted ∙ ap (λ (o : Op). place + count o) is in
    subst
    (λ (o : Op). IfOk c.run_simple.result (λ s. IsWithin x → IsOf q x.pending x.store
    → LeadsTo q (turn q (about_to x place o)) s))
    (sym is) (c.run_simple.ensures p place one)

pub returns-in_default : goal.returns-in_default
returns-in_default c p within of =
    let q = program c.args.of.now p in
    subst (λ (o : Op). LeadsTo q (turn q (about_to c.args.run c.args.place o)) Stuck) (sym (ap op_of c.in-Block.is))
    (no_rule_for q c.args.run c.args.place (block c.in-Block.t c.in-Block.body.value)
    (no_block q (env_of c.args.run) c.args.run.top.operands c.args.place c.in-Block.t c.in-Block.body.value
    c.in_default.ensures))

pub returns-in-Block : goal.returns-in-Block
returns-in-Block c p =
    let x = c.args.run in
    let q = program c.args.of.now p in
    let vs = x.top.operands in
    let place = c.args.place in
    let start = place + 1 in
    let body = c.deref.result.now in
    let b = c.in-Block.t in
    let o : Op = block b body in
    let m = c.in-Some.field-0.params in
    let n = c.in-Some.field-0.results in
    let after : Target = After x.top.ahead in
    on_ok (λ s. (y : Run) × Limited y doing.Next s × Enters x y m n place after start body)
    (λ s. IsWithin x → IsOf q x.pending x.store → LeadsTo q (turn q (about_to x place (op_of c.args.instr.now))) s)
    c.enter.result
    (λ s g within of.
    let is =
    ap op_of c.in-Block.is ∙ ap (λ (os : Ops). block c.in-Block.t os) (sym c.deref.ensures) in
    let there : suc place ≡ start = omega arith in
    let counts : HasCounts (block_type q.types b) m n = c.in-Some.ensures in
    let led =
    leads_into q x vs g.0 place o m n start after onward body
    (c.requires.counted ∙ ap (λ k. place + count k) is) g.2 refl
    (block_enters (block_type q.types b) m n counts vs place body (suc place) start there) s g.1 of in
    subst (λ k. LeadsTo q (turn q (about_to x place k)) s) (sym is) led)
    c.enter.ensures

pub returns-in_default-counts_of : goal.returns-in_default-counts_of
returns-in_default-counts_of c p within of =
    let q = program c.args.of.now p in
    subst (λ (o : Op). LeadsTo q (turn q (about_to c.args.run c.args.place o)) Stuck) (sym (ap op_of c.in-Loop.is))
    (no_rule_for q c.args.run c.args.place (loop c.in-Loop.t c.in-Loop.body.value)
    (no_loop q (env_of c.args.run) c.args.run.top.operands c.args.place c.in-Loop.t c.in-Loop.body.value
    c.in_default-counts_of.ensures))

pub returns-in-Loop : goal.returns-in-Loop
returns-in-Loop c p =
    let x = c.args.run in
    let q = program c.args.of.now p in
    let vs = x.top.operands in
    let place = c.args.place in
    let start = place + 1 in
    let body = c.deref-in-Loop.result.now in
    let b = c.in-Loop.t in
    let o : Op = loop b body in
    let m = c.in-Some-counts_of.field-0.params in
    let n = c.in-Some-counts_of.field-0.results in
    let back : Target = Again c.args.from in
    on_ok (λ s. (y : Run) × Limited y doing.Next s × Enters x y m m place back start body)
    (λ s. IsWithin x → IsOf q x.pending x.store → LeadsTo q (turn q (about_to x place (op_of c.args.instr.now))) s)
    c.enter-in-Loop.result
    (λ s g within of.
    let is =
    ap op_of c.in-Loop.is ∙ ap (λ (os : Ops). loop c.in-Loop.t os) (sym c.deref-in-Loop.ensures) in
    let counted = c.requires.counted in
    let from = c.requires.from in
    let there : suc place ≡ start = omega arith in
    let counts : HasCounts (block_type q.types b) m n = c.in-Some-counts_of.ensures in
    let led = leads_into q x vs g.0 place o m m start back (again o) body (counted ∙ ap (λ k. place + count k) is) g.2
    (ap (λ (is : List Instr). looped m place (drop m vs) is) from
    ∙ (ap (λ (k : Op). record {
      arity = m;
      place = place;
      target = again k;
      below = drop m vs;
      next_place = place + count k;
      rest = ops_in x.top.ahead.rest.now;
    }) is
    ∙ ap (λ (k : ℕ). record {
      arity = m;
      place = place;
      target = again o;
      below = drop m vs;
      next_place = k;
      rest = ops_in x.top.ahead.rest.now;
    }) (sym (counted ∙ ap (λ k. place + count k) is))))
    (loop_enters (block_type q.types b) m n counts vs place body o start there) s g.1 of in
    subst (λ k. LeadsTo q (turn q (about_to x place k)) s) (sym is) led)
    c.enter-in-Loop.ensures

pub returns : goal.returns
returns c p within of =
    let arms = c.in-If.arms.value in
    let q = program c.args.of.now p in
    subst (λ (o : Op). LeadsTo q (turn q (about_to c.args.run c.args.place o)) Stuck) (sym (ap op_of c.in-If.is))
    (no_rule_for q c.args.run c.args.place (if' c.in-If.t arms.then_arm arms.else_arm)
    (no_if q (env_of c.args.run) c.args.run.top.operands c.args.place c.in-If.t arms.then_arm arms.else_arm
    c.in-None.ensures))

pub returns-in-Some-counts_of-2 : goal.returns-in-Some-counts_of-2
returns-in-Some-counts_of-2 c p =
    let both = c.deref-in-Some-counts_of-2 in
    let arms = both.result.now in
    let x = c.args.run in
    let q = program c.args.of.now p in
    let place = c.args.place in
    let first = arms.then_arm in
    let second = arms.else_arm in
    let is =
    ap op_of c.in-If.is ∙ ap (λ (a : Arms). if' c.in-If.t a.then_arm a.else_arm) (sym both.ensures) in
    let m = c.in-Some-counts_of-2.counts.params in
    let n = c.in-Some-counts_of-2.counts.results in
    on_ok
    (λ s. (p : Program) (b : BlockType) → HasCounts (block_type p.types b) m n → IsOf p x.pending x.store
    → LeadsTo p (turn p (about_to x place (if' b first second))) s)
    (λ s. IsWithin x → IsOf q x.pending x.store → LeadsTo q (turn q (about_to x place (op_of c.args.instr.now))) s)
    c.choose.result
    (λ s g within of.
    subst (λ k. LeadsTo q (turn q (about_to x place k)) s) (sym is)
    (g q c.in-If.t c.in-Some-counts_of-2.ensures of))
    c.choose.ensures
