use Rattle.std.proofs.Common.{List, All, sym, subst}
use Rattle.wasm_ast.specs.declared.module.Func.{Func}
use Rattle.file_commands.specs.Inside.Written.{OpsAligned}
use Rattle.file_commands.proofs.ListLemmas.{funcs_aligned}
use Rattle.file_commands.proofs.check.push_listing.Goals as goal

pub push_funcs-requires : goal.push_funcs-requires
push_funcs-requires c =
    subst (λ (fs : List Func). All (λ f. OpsAligned f.body) fs) (sym c.as_slice.ensures)
    (funcs_aligned c.args.module.now c.requires)
