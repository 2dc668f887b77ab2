use Rattle.std.proofs.Common.{◌≡◌, drop}
use Rattle.std.specs.List.{list_all}
use Rattle.oci_config.specs.Config.{is_entry}
use Rattle.oci_config.proofs.texts.are_named.Given as goal

-- those before are entries
abbrev pub invariant-loop-text : goal.invariant-loop-text
invariant-loop-text l = list_all is_entry l.texts ≡ list_all is_entry (drop l.text-index l.texts)
