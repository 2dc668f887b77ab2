use Rattle.std.proofs.Common.{sym, ap, ◌∙◌}
use Rattle.step_machine.specs.Configuration.{Store}
use Rattle.step_machine.specs.MachineView.{MachineView, output_of}
use Rattle.label_machine.specs.Inside.Reached.{process_of}
use Rattle.label_machine.specs.declared.store.Store.{Store as StoreValue}
use Rattle.label_machine.proofs.MachineLemmas.{output_by}
use Rattle.oci_config.specs.declared.stream.Stream.TheVariants as stream
use Rattle.label_machine.proofs.machine.LabelMachine.output.Goals as goal

pub returns-in-Out : goal.returns-in-Out
returns-in-Out c =
    let i = c.self.inside in
    c.as_slice.ensures
    ∙ (ap (λ (s : StoreValue). s.process.out) c.store_of.ensures
    ∙ (sym (ap (λ (r : Store). r.out) (output_by i.of.now (process_of i.state) i.turns i.state c.self.invariant.0))
    ∙ (ap (λ (v : MachineView). output_of v stream.Out) c.self.view_is
    ∙ ap (output_of c.args.self.now) (sym c.in-Out.is))))

pub returns-in-Err : goal.returns-in-Err
returns-in-Err c =
    let i = c.self.inside in
    c.as_slice-in-Err.ensures
    ∙ (ap (λ (s : StoreValue). s.process.err) c.store_of.ensures
    ∙ (sym (ap (λ (r : Store). r.err) (output_by i.of.now (process_of i.state) i.turns i.state c.self.invariant.0))
    ∙ (ap (λ (v : MachineView). output_of v stream.Err) c.self.view_is
    ∙ ap (output_of c.args.self.now) (sym c.in-Err.is))))
