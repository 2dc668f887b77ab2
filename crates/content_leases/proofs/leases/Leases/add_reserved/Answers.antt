use Rattle.std.proofs.Common.{bytes_eq, ◌≡◌, ◌∙◌, ap, sym, subst, ◌++◌, ◌∷◌, [], ◌<◌, length, ℕ, List, string_bytes}
use Rattle.std.specs.Option.{option_copied_mut}
use Rattle.std.specs.Map.{set_value}
use Rattle.content_leases.specs.Limits.{max_members}
use Rattle.content_leases.specs.StoreState.{lease_in, add_member, is_among}
use Rattle.content_leases.specs.Inside.Shown.{leases_of}
use Rattle.content_leases.proofs.LeaseLemmas.{none_is_not, some_is, found, added}
use Rattle.content_leases.proofs.leases.Leases.add_reserved.Goals as goal

pub unreachable-requires : goal.unreachable-requires
unreachable-requires c =
    let at =
    found c.args.name.now c.self.inside.map.entries
    ∙ (ap (λ v. lease_in v.leases c.args.name.now) c.self.view_is ∙ c.requires.1) in
    none_is_not c.requires.0 (sym (ap option_copied_mut c.in_default.is) ∙ (c.get_mut.ensures.value ∙ at))

pub push_reserved-requires-clause-new : goal.push_reserved-requires-clause-new
push_reserved-requires-clause-new c =
    let at =
    found c.args.name.now c.self.inside.map.entries
    ∙ (ap (λ v. lease_in v.leases c.args.name.now) c.self.view_is ∙ c.requires.1) in
    let same : c.in-Some.members.now ≡ c.requires.0 =
    some_is c.in-Some.members.now c.requires.0
    (sym (ap option_copied_mut c.in-Some.is) ∙ (c.get_mut.ensures.value ∙ at)) in
    ap (is_among (string_bytes c.args.digest)) same ∙ c.requires.2

pub push_reserved-requires-clause-few : goal.push_reserved-requires-clause-few
push_reserved-requires-clause-few c =
    let at =
    found c.args.name.now c.self.inside.map.entries
    ∙ (ap (λ v. lease_in v.leases c.args.name.now) c.self.view_is ∙ c.requires.1) in
    let same : c.in-Some.members.now ≡ c.requires.0 =
    some_is c.in-Some.members.now c.requires.0
    (sym (ap option_copied_mut c.in-Some.is) ∙ (c.get_mut.ensures.value ∙ at)) in
    subst (λ (ms : List (List ℕ)). length ms < max_members) (sym same) c.requires.3

pub returns-clause-leases : goal.returns-clause-leases
returns-clause-leases c =
    let d = string_bytes c.args.digest in
    let name = c.args.name.now in
    let es = c.self.inside.map.entries in
    let own = ap (λ v. lease_in v.leases name) c.self.view_is ∙ c.requires.1 in
    let same : c.in-Some.members.now ≡ c.requires.0 =
    some_is c.in-Some.members.now c.requires.0
    (sym (ap option_copied_mut c.in-Some.is) ∙ (c.get_mut.ensures.value ∙ (found name es ∙ own))) in
    let is : c.push_reserved.new.self ≡ c.requires.0 ++ d ∷ [] =
    c.push_reserved.ensures ∙ ap (λ (ms : List (List ℕ)). ms ++ d ∷ []) same in
    ap leases_of (c.get_mut.follows.holds c.push_reserved.new.self).0
    ∙ (ap (λ (ms : List (List ℕ)). leases_of (set_value (λ k. bytes_eq name (string_bytes k)) es ms)) is
    ∙ (added name d c.requires.0 es own ∙ ap (λ v. add_member d name v.leases) c.self.view_is))
