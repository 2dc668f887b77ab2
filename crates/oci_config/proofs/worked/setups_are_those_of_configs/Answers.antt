use Rattle.std.proofs.Common.{refl}
use Rattle.std.specs.Str.{is_utf8, chars}
use Rattle.serde_json.proofs.OnLiterals.{serde_json_on_literals}
use Rattle.oci_config.proofs.worked.setups_are_those_of_configs.Goals as goal

pub returns-clause-process : goal.returns-clause-process
unfolding serde_json_on_literals is_utf8 chars
returns-clause-process c = refl
