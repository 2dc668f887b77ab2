use Rattle.std.proofs.Common.{◌≡◌, ap, sym, ◌∙◌, codes, map, Some, None}
use Rattle.std.proofs.lemmas.Result.{IfOk-weaker}
use Rattle.clap.proofs.WalkLemmas.{raw_values-rows}
use Rattle.clap.specs.Matches.{found_of}
use Rattle.file_commands.proofs.FoundLemmas.{some_words}
use Rattle.file_commands.proofs.run.module_words.Goals as goal

pub split_words-requires : goal.split_words-requires
split_words-requires c =
    some_words c.in-Some.words.now c.requires.0 c.requires.1
    (c.in-Some.ensures ∙ (raw_values-rows (found_of c.args.found.now) (codes "MODULE") ∙ c.requires.2))

pub unreachable-requires : goal.unreachable-requires
unreachable-requires c =
    let bad = c.in-None.ensures ∙ (raw_values-rows (found_of c.args.found.now) (codes "MODULE") ∙ c.requires.2) in
    absurd cc

pub returns : goal.returns
returns c =
    IfOk-weaker c.split_words.result _ _
    (λ p h. sym (c.in-Some.ensures ∙ raw_values-rows (found_of c.args.found.now) (codes "MODULE")) ∙ ap Some h)
    c.split_words.ensures
