use Rattle.std.proofs.Common.{◌≡◌, ◌∙◌, ap, ◌++◌, ◌∷◌, [], length, suc, string_bytes, arith}
use Rattle.content_leases.specs.StoreState.{is_among}
use Rattle.content_leases.specs.Inside.Shown.{members_of}
use Rattle.content_leases.proofs.LeaseLemmas.{key_pushed, one_longer, member_pushed}
use Rattle.content_leases.proofs.members.Members.push_reserved.Goals as goal

pub invariant_of-self : goal.invariant_of-self
invariant_of-self c =
    let none = ap (is_among (string_bytes c.args.digest)) c.self.view_is ∙ c.requires.new in
    let is = rw c.unwrap.ensures at c.insert.ensures.keys in
    let old = c.self.inside.digests.keys in
    let more : length c.insert.new.self.keys ≡ suc (length old) =
    ap (λ ks. length ks) (is ∙ key_pushed c.args.digest old none) ∙ one_longer c.args.digest old in
    let room = c.insert.ensures.spare in
    let before = c.self.invariant in
    omega (arith, more, room, before)

pub returns : goal.returns
returns c =
    let none = ap (is_among (string_bytes c.args.digest)) c.self.view_is ∙ c.requires.new in
    let is = rw c.unwrap.ensures at c.insert.ensures.keys in
    ap members_of is ∙ (member_pushed c.args.digest c.self.inside.digests.keys none
    ∙ ap (λ v. v ++ string_bytes c.args.digest ∷ []) c.self.view_is)
