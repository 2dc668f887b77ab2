-- A pile of constants, and as many drops.
use Rattle.std.proofs.Common.{◌≡◌, ℕ, zero, suc, ◌+◌, ◌<◌, ◌≤◌, ◌==◌, List, [], ◌∷◌, length, false, Some, refl, sym, ap, ◌∙◌, arith}
use Rattle.std.proofs.lemmas.Bool.Decides.{nat_tests}
use Rattle.wasm_ast.specs.declared.values.Value.{Value}
use Rattle.wasm_ast.specs.declared.values.Value.TheVariants.{I32}
use Rattle.wasm_ast.specs.declared.trap.Trap.TheVariants as trap
use Rattle.wasm_ast.specs.Syntax.{Op, Ops, stop, next}
use Rattle.oci_config.specs.declared.process.ProcessConfig.{ProcessConfig}
use Rattle.step_machine.specs.declared.ends.End.TheVariants as ends
use Rattle.step_machine.specs.Limits.{max_values, last_turn}
use Rattle.step_machine.specs.Program.{Program, program}
use Rattle.step_machine.specs.Configuration.{Store, seq, done, running, trapped, Configuration}
use Rattle.step_machine.specs.Turns.{settled, turn, numbered, from}
use Rattle.step_machine.specs.Instantiation.{first_store, initial, after, ended}
use Rattle.step_machine.specs.Worked.{i32_const, drop', nothing_to_nothing, repeated, pile}
use Rattle.step_machine.proofs.TurnLemmas.{from-add}
use Rattle.step_machine.proofs.InstructionTurns as instruction
use Rattle.step_machine.proofs.InstructionTurns.{framed, configuration}

-- r zeros above these values
abbrev heap : ℕ → List Value → List Value
heap zero vs = vs
heap (suc r) vs = heap r (I32 0 ∷ vs)

heap_long : (r : ℕ) (vs : List Value) → length (heap r vs) ≡ r + length vs
heap_long zero vs = omega arith
heap_long (suc r) vs = let e = heap_long r (I32 0 ∷ vs) in omega arith

module _ (p : Program) (s : Store) where
  abbrev at : List Value → ℕ → Ops → Configuration
  at vs k os = configuration s (framed 1 [] vs k os)

  usual :
      (j : ℕ) (vs : List Value) (k : ℕ) (o : Op) (os : Ops) → suc j < last_turn
      → numbered p (suc j) (settled p (at vs k (next o os))) ≡ turn p (at vs k (next o os))
  usual j vs k o os h =
      let e : (suc j == last_turn) ≡ false = grind (arith, nat_tests) in
      ap (numbered p (suc j)) (instruction.waits p s 1 k [] vs os o)
      ∙ instruction.usual_turn p (suc j) (at vs k (next o os)) refl e

  pub pushes : (r j k : ℕ) (vs : List Value) (os : Ops) → j + r < last_turn → length vs + r ≤ max_values
      → from p j (settled p (at vs k (repeated r (i32_const 0) os))) r ≡ settled p (at (heap r vs) (k + r) os)
  pushes zero j k vs os h l = let e : k + 0 ≡ k = omega arith in ap (λ x. settled p (at vs x os)) (sym e)
  pushes (suc r) j k vs os h l =
      let e : (k + 1) + r ≡ k + suc r = omega arith in
      ap (λ c. from p (suc j) c r)
      (usual j vs k (i32_const 0) (repeated r (i32_const 0) os) (omega arith)
      ∙ instruction.constant p s 1 k [] vs (repeated r (i32_const 0) os) (I32 0) (omega arith))
      ∙ (pushes r (suc j) (k + 1) (I32 0 ∷ vs) os (omega arith) (omega arith)
      ∙ ap (λ x. settled p (at (heap r (I32 0 ∷ vs)) x os)) e)

  pub drops :
      (r j k : ℕ) (vs : List Value) → j + r < last_turn → length vs ≡ r → r ≤ max_values
      → from p j (settled p (at vs k (repeated r drop' stop))) r ≡ configuration s (running (seq [] done))
  drops zero j k [] h l m = instruction.ends p s 1 k [] [] stop
  drops zero j k (v ∷ vs) h l m = absurd (omega arith)
  drops (suc r) j k [] h l m = absurd (omega arith)
  drops (suc r) j k (v ∷ vs) h l m =
      ap (λ c. from p (suc j) c r)
      (usual j (v ∷ vs) k drop' (repeated r drop' stop) (omega arith)
      ∙ instruction.discards p s 1 k [] vs (repeated r drop' stop) v (omega arith))
      ∙ drops r (suc j) (k + 1) vs (omega arith) (omega arith) (omega arith)

longer : (a b : ℕ) (o : Op) (os : Ops) → repeated (a + suc b) o os ≡ repeated a o (next o (repeated b o os))
longer zero b o os = let e : 0 + suc b ≡ suc b = omega arith in ap (λ x. repeated x o os) e
longer (suc a) b o os =
    let e : suc a + suc b ≡ suc (a + suc b) = omega arith in ap (λ x. repeated x o os) e ∙ ap (next o) (longer a b o os)

module _ (p : ProcessConfig) (n : ℕ) where
  abbrev prog : Program
  prog = program (pile n) p

  abbrev drop_all : Ops
  drop_all = repeated n drop' stop

  opened : initial (pile n) p ≡ settled prog (at prog (first_store (pile n) p) [] 0 (repeated n (i32_const 0) drop_all))
  opened =
      instruction.invokes prog (first_store (pile n) p) 1 nothing_to_nothing [] (repeated n (i32_const 0) drop_all) refl
      refl refl (omega arith)

  pub fits : n ≤ max_values → ended (after (pile n) p (n + n)).state ≡ Some ends.Returned
  fits h =
      let s = first_store (pile n) p in
      let z : 0 + n ≡ n = omega arith in
      let long : length (heap n []) ≡ n = omega (arith, heap_long n []) in
      let whole : after (pile n) p (n + n) ≡ configuration s (running (seq [] done)) =
      from-add prog 0 n n (initial (pile n) p)
      ∙ (ap (λ c. from prog (0 + n) (from prog 0 c n) n) opened
      ∙ (ap (λ c. from prog (0 + n) c n) (pushes prog s n 0 0 [] drop_all (omega arith) (omega arith))
      ∙ drops prog s n (0 + n) (0 + n) (heap n []) (omega arith) long h)) in
      ap (λ (c : Configuration). ended c.state) whole

  pub traps :
      (limit b : ℕ) → limit ≡ max_values → n ≡ limit + suc b
      → (after (pile n) p (limit + 1)).state ≡ trapped trap.Exhausted
  traps limit b is long =
      let s = first_store (pile n) p in
      let rest = repeated b (i32_const 0) drop_all in
      let split :
      repeated n (i32_const 0) drop_all ≡ repeated limit (i32_const 0) (next (i32_const 0) rest) =
      ap (λ x. repeated x (i32_const 0) drop_all) long ∙ longer limit b (i32_const 0) drop_all in
      let filled :
      from prog 0 (initial (pile n) p) limit
      ≡ settled prog (at prog s (heap limit []) (0 + limit) (next (i32_const 0) rest)) =
      ap (λ c. from prog 0 c limit) (opened ∙ ap (λ os. settled prog (at prog s [] 0 os)) split)
      ∙ pushes prog s limit 0 0 [] (next (i32_const 0) rest) (omega arith) (omega arith) in
      let full : length (heap limit []) ≡ limit = omega (arith, heap_long limit []) in
      let last : from prog 0 (initial (pile n) p) (limit + 1) ≡ configuration s (trapped trap.Exhausted) =
      from-add prog 0 limit 1 (initial (pile n) p)
      ∙ (ap (numbered prog (suc (0 + limit))) filled
      ∙ (usual prog s (0 + limit) (heap limit []) (0 + limit) (i32_const 0) rest (omega arith)
      ∙ instruction.too_many prog s 1 (0 + limit) [] (heap limit []) rest (I32 0) (omega arith))) in
      ap (λ (c : Configuration). c.state) last
