use Rattle.std.proofs.Common.{sym}
use Rattle.wasm_binary.proofs.LocalRuns.{same_run, new_run}
use Rattle.wasm_binary.proofs.write_code.add_local.Goals as goal

pub returns-in_ok-push-in-Some : goal.returns-in_ok-push-in-Some
returns-in_ok-push-in-Some c =
    same_run c.args.runs.now.items c.pop.new.self.items c.push.new.self.items c.in-Some.count c.in-Some.last c.args.t
    c.in-Some.ensures.items (sym c.if-is_same_type.ensures) c.in_ok-push-in-Some.ensures.items

pub returns-in_ok-push-in-Some-3 : goal.returns-in_ok-push-in-Some-3
returns-in_ok-push-in-Some-3 c =
    new_run c.args.runs.now.items c.pop.new.self.items c.push-else-is_same_type.new.self.items
    c.push-else-is_same_type-2.new.self.items c.in-Some.count c.in-Some.last c.args.t c.in-Some.ensures.items
    (sym c.if-is_same_type.ensures)
    c.in_ok-push-in-Some-2.ensures.items c.in_ok-push-in-Some-3.ensures.items
