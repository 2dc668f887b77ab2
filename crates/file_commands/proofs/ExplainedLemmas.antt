-- What is written with the line of a reason.
use Rattle.std.proofs.Common.{inl, inr, [], ◌++◌, codes, refl, sym, ap, ◌∙◌}
use Rattle.std.proofs.Common.{append-nil}
use Rattle.wasm_ast.specs.declared.refusal.Refusal.{Refusal}
use Rattle.file_commands.specs.declared.ran.Ran.{Ran}
use Rattle.file_commands.specs.Ran.{line}
use Rattle.file_commands.specs.Explained.{IsExplained, AnswersAs}

pub answers_as : {Is : Ran → Type 0} (refuse : Refusal → Ran) (r : Ran) → IsExplained refuse Is r → AnswersAs Is r
answers_as refuse r (inl is) = (r, is, refl, refl, ([], sym (append-nil r.err)))
answers_as refuse r (inr (e, is, inl same)) = (
  refuse e,
  is,
  ap (λ (x : Ran). x.out) same,
  ap (λ (x : Ran). x.status) same,
  ([], ap (λ (x : Ran). x.err) same ∙ sym (append-nil (refuse e).err)),
)
answers_as refuse r (inr (e, is, inr (reason, feedless, told))) = (
  refuse e,
  is,
  ap (λ (x : Ran). x.out) told,
  ap (λ (x : Ran). x.status) told,
  (line (codes "why: " ++ reason), ap (λ (x : Ran). x.err) told),
)
