use Rattle.std.proofs.Common.{[], ◌∷◌}
use Rattle.wasm_ast.specs.Syntax.{ops_count}
use Rattle.validator.specs.Inside.Algorithm.{start}
use Rattle.validator.specs.Inside.FunctionContext.{context_of}
use Rattle.validator.specs.Inside.PlaceWalk.{ops_known}
use Rattle.validator.specs.Inside.EachPlace.{stacks_of}
use Rattle.validator.proofs.EachLemmas.{whole_found, finds_from}
use Rattle.validator.proofs.each_place.known_at_each.Goals as goal

pub returns-clause-ok : goal.returns-clause-ok
returns-clause-ok c =
    let f = c.args.function.now in
    let opened = c.in_ok-opened.opened in
    whole_found c.args.places.now c.each_in.new.found.items (ops_count f.func.now.body) c.in_ok-each_in.field-0
    (ops_known (context_of f (f.func_type.now.results ∷ [])) [] f.func.now.body (start [])) c.requires.inside
    (finds_from
    (λ labels outer s. ops_known (context_of f labels) (stacks_of outer) f.func.now.body s) opened.labels
    (f.func_type.now.results ∷ []) opened.outer.items opened.operands.stack (start []) (ops_count f.func.now.body)
    c.args.places.now _ c.each_in.new.found.items c.in_ok-opened.ensures.labels c.in_ok-opened.ensures.outer
    c.in_ok-opened.ensures.operands c.new-found.ensures.items c.in_ok-each_in.ensures.found)
    c.in_ok-each_in.ensures.done c.in_ok-each_in.ensures.after c.in_ok-each_in.ensures.from
