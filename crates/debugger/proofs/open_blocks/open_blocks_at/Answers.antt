use Rattle.wasm_ast.specs.Syntax.{ops_count}
use Rattle.std.proofs.Common.{reverse, ap, List, ℕ}
use Rattle.step_machine.specs.Places.{opens_at}
use Rattle.debugger.proofs.OpenLemmas.{whole_found}
use Rattle.debugger.proofs.open_blocks.open_blocks_at.Goals as goal

pub returns : goal.returns
returns c =
    whole_found c.args.places.now c.walk_body.new.found.items _ (ops_count c.args.body.now) c.in_ok-walk_body.field-0
    (opens_at c.args.body.now 0) _ c.requires.inside c.new-found.ensures.items
    (ap (λ (xs : List ℕ). reverse xs) c.new-blocks.ensures.items) c.in_ok-walk_body.ensures.found
    c.in_ok-walk_body.ensures.done c.in_ok-walk_body.ensures.after c.in_ok-walk_body.ensures.from
