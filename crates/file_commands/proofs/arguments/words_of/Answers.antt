use Rattle.std.proofs.Common.{◌≡◌, ap, sym, ◌∙◌, map, string_bytes, List, ℕ, Option, unwrap_or, []}
use Rattle.std.proofs.lemmas.Result.{IfOk-weaker}
use Rattle.clap.proofs.WalkLemmas.{raw_values-rows}
use Rattle.clap.specs.Matches.{found_of}
use Rattle.file_commands.proofs.arguments.words_of.Goals as goal

pub returns-in-Some : goal.returns-in-Some
returns-in-Some c =
    let texts = λ (o : Option (List (List ℕ))). unwrap_or o [] in
    IfOk-weaker c.copies.result _ _
    (λ v h.
    sym (h ∙ ap texts (c.in-Some.ensures ∙ raw_values-rows (found_of c.args.found.now) c.args.name.now)))
    c.copies.ensures

pub returns-in-None : goal.returns-in-None
returns-in-None c =
    let texts = λ (o : Option (List (List ℕ))). unwrap_or o [] in
    sym
    (ap (map string_bytes) c.new.ensures.items
    ∙ ap texts (c.in-None.ensures ∙ raw_values-rows (found_of c.args.found.now) c.args.name.now))
