use Rattle.std.proofs.Common.{option_map, ap, ◌∙◌}
use Rattle.serde_json.specs.View.{view, members_view}
use Rattle.serde_json.proofs.Views.{view-lookup}
use Rattle.request_lines.proofs.MemberLemmas.{view-remove_entry, whole_if_found}
use Rattle.request_lines.proofs.members.take_member.Goals as goal

pub returns-clause-value : goal.returns-clause-value
returns-clause-value c =
    ap (option_map view) c.remove.ensures.value ∙ view-lookup c.args.key.now c.args.members.now.entries

pub returns-clause-rest : goal.returns-clause-rest
returns-clause-rest c =
    ap members_view c.remove.ensures.entries ∙ view-remove_entry c.args.key.now c.args.members.now.entries

pub returns-clause-whole : goal.returns-clause-whole
returns-clause-whole c =
    whole_if_found c.remove.result c.args.key.now c.args.members.now.entries _ c.len-in_order.ensures.ordered
    c.remove.ensures.value c.remove.ensures.entries
