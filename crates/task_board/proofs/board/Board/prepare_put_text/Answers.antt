use Rattle.std.proofs.Common.{◌≢◌, ◌∙◌, subst, rules, refl}
use Rattle.wasm_ast.specs.declared.refusal.Refusal.TheVariants as refusal
use Rattle.text_assembler.specs.Modules.{Denotes}
use Rattle.task_board.specs.Texts.{IsAssembled, CannotAssemble}
use Rattle.task_board.proofs.TextLemmas.{text_plans, refused_plan, why_refused}
use Rattle.task_board.proofs.board.Board.prepare_put_text.Goals as goal

pub returns-in-Ok-clause-ok : goal.returns-in-Ok-clause-ok
returns-in-Ok-clause-ok c =
    let d = c.in-Ok.ensures.denoted in
    let bytes = c.in_ok-bytes-in-Ok.bytes in
    let is : IsAssembled c.args.text bytes = record {
      «module» = d.0;
      denotes = subst (λ x. Denotes x d.0) c.as_str.ensures d.1;
      fits = d.2;
      encodes = c.in_ok-bytes-in-Ok.ensures ∙ d.3;
    } in
    text_plans _ _ c.args.text bytes c.prepare_put.result is c.prepare_put.ensures.ok

pub returns : goal.returns
returns c =
    let e = c.in-Err.refusal in
    let known : e ≢ refusal.NoMemory = search rules in
    let p = c.in-Err.ensures in
    let why = why_refused c.as_str.result.now e known p.bad p.limit p.over p.causes in
    record {
      same = (refl, refl);
      ok =
          refused_plan c.args.self.now.state c.args.self.now.room c.args.text e
          (subst (λ x. CannotAssemble x e) c.as_str.ensures why);
    }
