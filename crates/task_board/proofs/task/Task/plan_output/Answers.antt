use Rattle.std.proofs.Common.{◌≡◌, true, false, Some, Option, is_none, is_some, refl, sym, ap, ◌∙◌, rules}
use Rattle.oci_config.specs.declared.stream.Stream.{Stream}
use Rattle.oci_config.specs.Streams.{stream_of}
use Rattle.task_board.specs.Tasks.{output_of}
use Rattle.task_board.proofs.task.Task.plan_output.Goals as goal

pub returns-in_default : goal.returns-in_default
returns-in_default c slot =
    let none : is_none (stream_of c.args.number) ≡ true = search rules in
    (λ h. cc, rw none refl)

pub returns-in_default-output : goal.returns-in_default-output
returns-in_default-output c slot =
    let some : is_none (stream_of c.args.number) ≡ false = search rules in
    let out : is_some c.args.self.now.out ≡ true = search rules in
    (λ h. cc, rw (some, out) refl)

pub returns : goal.returns
returns c slot =
    let t = c.args.self.now in
    let is : stream_of c.args.number ≡ Some c.in-Some.stream = search rules in
    let some : is_none (stream_of c.args.number) ≡ false = ap is_none is in
    let told = c.in-Some-output.ensures.some in
    let home : is_some t.out ≡ false = ap is_some told.0 in
    let written : c.in-Some-output.written.now ≡ output_of (stream_of c.args.number) t =
    told.1 ∙ ap (λ (o : Option Stream). output_of o t) (sym is) in (
      rw (some, home) refl,
      (λ x. refl),
      search rules,
    )
