use Rattle.std.proofs.Common.{◌≡◌, drop}
use Rattle.std.specs.List.{list_all}
use Rattle.oci_config.specs.Config.{is_plain}
use Rattle.oci_config.proofs.texts.are_plain.Given as goal

-- those before are plain
abbrev pub invariant-loop-text : goal.invariant-loop-text
invariant-loop-text l = list_all is_plain l.texts ≡ list_all is_plain (drop l.text-index l.texts)
