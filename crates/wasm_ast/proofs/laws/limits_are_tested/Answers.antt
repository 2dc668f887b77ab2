use Rattle.wasm_ast.proofs.LimitLemmas.{module_within, within_module}
use Rattle.wasm_ast.proofs.laws.limits_are_tested.Goals as goal

pub returns-clause-within : goal.returns-clause-within
returns-clause-within c h = module_within c.args.of.now h

pub returns-clause-tested : goal.returns-clause-tested
returns-clause-tested c w = within_module c.args.of.now w
