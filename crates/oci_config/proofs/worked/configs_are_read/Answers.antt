use Rattle.std.proofs.Common.{refl}
use Rattle.std.specs.Str.{is_utf8, chars}
use Rattle.serde_json.proofs.OnLiterals.{serde_json_on_literals}
use Rattle.oci_config.proofs.worked.configs_are_read.Goals as goal

pub returns-clause-least : goal.returns-clause-least
unfolding serde_json_on_literals is_utf8 chars
returns-clause-least c = refl

pub returns-clause-env : goal.returns-clause-env
unfolding serde_json_on_literals is_utf8 chars
returns-clause-env c = refl

pub returns-clause-limit : goal.returns-clause-limit
unfolding serde_json_on_literals is_utf8 chars
returns-clause-limit c = refl

pub returns-clause-no_limit : goal.returns-clause-no_limit
unfolding serde_json_on_literals is_utf8 chars
returns-clause-no_limit c = refl

pub returns-clause-last : goal.returns-clause-last
unfolding serde_json_on_literals is_utf8 chars
returns-clause-last c = refl

pub returns-clause-unknown : goal.returns-clause-unknown
unfolding serde_json_on_literals is_utf8 chars
returns-clause-unknown c = refl

pub returns-clause-fraction : goal.returns-clause-fraction
unfolding serde_json_on_literals is_utf8 chars
returns-clause-fraction c = refl

pub returns-clause-not_json : goal.returns-clause-not_json
unfolding serde_json_on_literals is_utf8 chars
returns-clause-not_json c = refl

pub returns-clause-not_utf8 : goal.returns-clause-not_utf8
unfolding serde_json_on_literals is_utf8 chars
returns-clause-not_utf8 c = refl
