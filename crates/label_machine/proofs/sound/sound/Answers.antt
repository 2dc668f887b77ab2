use Rattle.std.proofs.Common.{◌<◌, ◌≤◌, ◌^◌, ◌∙◌, ap, subst, arith}
use Rattle.linear_memory.specs.Memory.{max_pages}
use Rattle.wasm_ast.specs.declared.module.Module.{Module}
use Rattle.std.specs.Prelude.{All}
use Rattle.wasm_ast.specs.declared.module.Segment.{Segment}
use Rattle.wasm_ast.specs.Ranged.{Ranged}
use Rattle.oci_config.specs.Processes.{config_of}
use Rattle.label_machine.proofs.SoundLemmas.{never_invalid, are_invoked}
use Rattle.label_machine.proofs.sound.sound.Goals as goal

pub returns-clause-always : goal.returns-clause-always
returns-clause-always c n =
    let p = config_of c.args.process.now in
    let few : p.cap ≤ max_pages = c.bounded.ensures in
    let small : p.cap < 2 ^ 32 = omega (arith, few) in
    let same = c.module-of.ensures.value in
    let bytes =
    subst (All (λ (s : Segment). All (λ b. b < 256) s.bytes))
    (c.as_slice.ensures ∙ ap (λ (m : Module). m.segments) same)
    c.segments_ranged.ensures in
    never_invalid c.args.valid.now p c.module-of.ensures.valid (subst Ranged same c.ranged.ensures) bytes
    c.process_ranged.ensures small c.requires.opens n

pub returns-clause-invoked : goal.returns-clause-invoked
returns-clause-invoked c =
    are_invoked c.args.valid.now (config_of c.args.process.now) c.module-of.ensures.valid
    (subst Ranged c.module-of.ensures.value c.ranged.ensures) c.requires.known
