use Rattle.std.proofs.Common.{◌≡◌}
use Rattle.serde_json.specs.View.{members_view}
use Rattle.oci_config.specs.Config.{are_texts}
use Rattle.oci_config.proofs.properties.are_texts.Given as goal

-- those before are texts
abbrev pub invariant-loop-key : goal.invariant-loop-key
invariant-loop-key l = are_texts (members_view l.members.entries) ≡ are_texts (members_view l._key-iterator)
