use Rattle.oci_config.specs.Processes.{config_of}
use Rattle.oci_config.specs.declared.process.Process.{Process}
use Rattle.std.proofs.Common.{◌^◌, ◌<◌, ◌≤◌, map, length, subst, sym, ap, ◌∙◌, arith}
use Rattle.std.specs.Prelude.{All}
use Rattle.linear_memory.specs.Memory.{Memory, max_pages}
use Rattle.wasm_ast.specs.declared.module.Module.{Module}
use Rattle.step_machine.specs.Instantiation.{first_store, first_global, first_memory, first_table, zero_memory, empty_table, are_elements_inside, are_segments_inside}
use Rattle.step_machine.specs.Inside.FlatState.{Flat, word_of}
use Rattle.step_machine.specs.Inside.FlatView.{flat_at, flat_from}
use Rattle.step_machine.specs.Inside.Simulates.{Stored}
use Rattle.step_machine.specs.Inside.Going.{Runnable, Stopped}
use Rattle.step_machine.proofs.HostCallLemmas.{both}
use Rattle.step_machine.proofs.MachineLemmas.{process_of}
use Rattle.step_machine.proofs.FirstStore.{first_typed, first_in_table, first_ranged}
use Rattle.step_machine.proofs.first_data.first_data.Goals as goal

pub returns-clause-holds : goal.returns-clause-holds
returns-clause-holds c =
    let p = config_of c.args.process in
    let m = c.args.of.now in
    let facts :
    Runnable m =
    record {
      valid = c.module.ensures.valid;
      ranged = c.module.ensures.ranged;
      known = c.requires.known;
      within = c.requires.within;
    } in
    let start = ap (λ (n : Module). n.start) c.module-2.ensures.value in
    let same = c.module.ensures.value in
    let globals = c.in_ok-kept.ensures.globals ∙ ap (λ (n : Module). map word_of (map first_global n.globals)) same in
    let memory = c.in_ok-kept.ensures.memory ∙ (ap (λ (n : Module). first_memory n p.cap) same) in
    let table = c.in_ok-kept.ensures.table ∙ ap first_table same in
    let two =
    both (are_elements_inside (length (empty_table m.tables)) m.elements)
    (are_segments_inside (zero_memory m.memories p.cap) m.segments) c.requires.inside in
    let few : p.cap ≤ max_pages = c.bounded.ensures in
    let small : p.cap < 2 ^ 32 = omega (arith, few) in
    let inside = two.1 in
    let bytes = subst (λ (n : Memory). All (λ b. b < 256) n.bytes) memory c.in_ok-kept.ensures.bytes in
    let stored : Stored m (flat_from c.in_ok-at.at c.in_ok-kept.kept) (first_store m p) = record {
      globals = globals;
      memory = memory;
      table = table;
      out = ap (λ (q : Process). q.out) c.in_ok-kept.ensures.process ∙ c.requires.nothing_written.0;
      err = ap (λ (q : Process). q.err) c.in_ok-kept.ensures.process ∙ c.requires.nothing_written.1;
      globals_typed = first_typed m p facts.valid facts.ranged;
      in_table = first_in_table m p facts.valid facts.ranged;
      ranged = first_ranged m p facts.valid facts.ranged small inside bytes;
    } in
    record {
      runnable = facts;
      limited = c.of.ensures.limit;
      stopped =
          subst (λ (x : Flat). Stopped m p c.start_up-end.result x 0)
          (sym (c.of.ensures.data c.start_up-end.new.kept))
          (c.start_up-end.ensures m p c.process_ranged.ensures (ap config_of c.in_ok-kept.ensures.process) facts
          c.cells.ensures.cells c.callees.ensures start c.requires.entry stored);
    }

pub returns-clause-process : goal.returns-clause-process
returns-clause-process c =
    let h = returns-clause-holds c in
    process_of c.args.of.now (config_of c.args.process) (flat_at c.of.result c.start_up-end.new.kept) 0
    c.start_up-end.result h.stopped
