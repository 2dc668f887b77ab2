use Rattle.std.proofs.Common.{List, ◌∷◌, ℕ, map, string_bytes, sym, ap, ◌∙◌}
use Rattle.oci_config.specs.Setup.{are_taken}
use Rattle.file_commands.proofs.RunLemmas.{not_taken}
use Rattle.file_commands.proofs.run.process_of.Goals as goal

pub returns-clause-err : goal.returns-clause-err
returns-clause-err c =
    let args = c.args.name.now ∷ map string_bytes c.args.args.now in
    let same =
    ap (λ (ts : List (List ℕ)). are_taken ts c.in_ok-env.env.items) c.in_ok-words.ensures
    ∙ ap (λ (es : List (List ℕ)). are_taken args es)
    (c.in_ok-env.ensures ∙ ap (λ entries. map string_bytes entries) c.as_slice.ensures.value) in
    not_taken _ c.process_under.result c.process_under.ensures.err (λ p. sym same ∙ c.process_under.ensures.bad p)
