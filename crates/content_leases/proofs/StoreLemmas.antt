-- What an accepted request finds, and what collecting leaves.
use Rattle.std.proofs.Common.{◌≡◌, ℕ, ◌<◌, List, [], ◌∷◌, length, Bool, true, false, true≢false, cond, not, ◌||◌, bytes_eq, filter, Option, Some, None, is_some, is_none, refl, sym, ap, ◌∙◌, arith}
use Rattle.std.proofs.lemmas.Bool.Decides.{nat_tests}
use Rattle.std.proofs.lemmas.Slice.Eq.{bytes_eq-Decides}
use Rattle.wasm_ast.specs.declared.refusal.Refusal.{Refusal}
use Rattle.wasm_ast.specs.declared.refusal.Refusal.TheVariants as refusal
use Rattle.wasm_ast.specs.Identifiers.{is_id, is_digest}
use Rattle.content_leases.specs.Digests.{digest_of}
use Rattle.content_leases.specs.Limits.{max_members}
use Rattle.content_leases.specs.StoreState.{Content, StoreState, content_in, lease_in, is_among, is_held, collected}
use Rattle.content_leases.specs.Refusals.{first_refusal, is_bytes, put_refusals, remove_refusals, lease_create_refusals, is_member, is_full, lease_add_refusals}
use Rattle.content_leases.proofs.LeaseLemmas.{none_is_not}

pub none_first :
    (b : Bool) (e : Refusal) (rest : Option Refusal) → cond b (Some e) rest ≡ None → (b ≡ false) × (rest ≡ None)
none_first true e rest h = absurd (none_is_not e (sym h))
none_first false e rest h = (refl, h)

none_of : {X : Type 0} (o : Option X) → is_some o ≡ false → o ≡ None
none_of {X} None h = refl
none_of {X} (Some x) h = cc

-- bytes that may be stored are not stored yet
pub put_new : (s : StoreState) (bytes : List ℕ) → first_refusal (put_refusals s bytes) ≡ None
    → content_in s.contents (digest_of bytes) ≡ None
put_new s bytes h =
    let stored = content_in s.contents (digest_of bytes) in
    let l = none_first _ refusal.Limit _ h in
    let e = none_first (is_bytes bytes stored) refusal.Exists _ l.1 in
    none_of stored (none_first (is_some stored) refusal.DigestConflict _ e.1).0

pub create_new : (s : StoreState) (name : List ℕ) → first_refusal (lease_create_refusals s name) ≡ None
    → lease_in s.leases name ≡ None
create_new s name h =
    let a = none_first (not (is_id name)) refusal.BadId _ h in
    let b = none_first (is_some (lease_in s.leases name)) refusal.Exists _ a.1 in
    none_of (lease_in s.leases name) b.0

-- the lease that can take a digest
abbrev pub Takes : (digest : List ℕ) → Option (List (List ℕ)) → Type 0
Takes digest o = (ms : List (List ℕ)) × (o ≡ Some ms) × (is_among digest ms ≡ false) × (length ms < max_members)

takes_by :
    (digest : List ℕ) (o : Option (List (List ℕ))) → is_none o ≡ false → is_member digest o ≡ false → is_full o ≡ false
    → Takes digest o
takes_by digest None none member full = cc
takes_by digest (Some ms) none member full = (ms, refl, member, grind (arith, nat_tests, full))

pub add_takes : (s : StoreState) (digest name : List ℕ) → first_refusal (lease_add_refusals s digest name) ≡ None
    → Takes digest (lease_in s.leases name)
add_takes s digest name h =
    let o = lease_in s.leases name in
    let a = none_first (not (is_digest digest) || not (is_id name)) refusal.BadId _ h in
    let b = none_first (is_none o) refusal.NotFound _ a.1 in
    let c = none_first (is_none (content_in s.contents digest)) refusal.NoContent _ b.1 in
    let d = none_first (is_member digest o) refusal.Exists _ c.1 in
    let e = none_first (is_full o) refusal.TooMany None d.1 in
    takes_by digest o b.0 d.0 e.0

-- ---- what is held

kept_by : (test : List ℕ → Bool) (digest : List ℕ) (c : Content) (cs : List Content) (a b : Bool) → test c.digest ≡ a
    → bytes_eq c.digest digest ≡ b
    → content_in (filter (λ (x : Content). test x.digest) cs) digest ≡ cond (test digest) (content_in cs digest) None
    → content_in (cond a (c ∷ filter (λ (x : Content). test x.digest) cs) (filter (λ (x : Content). test x.digest) cs))
    digest ≡ cond (test digest) (cond b (Some c.bytes) (content_in cs digest)) None
kept_by test digest c cs true true is same h =
    let at : test digest ≡ true = ap test (sym ((bytes_eq-Decides c.digest digest).0 same)) ∙ is in
    ap (λ (x : Bool). cond x (Some c.bytes) (content_in (filter (λ (y : Content). test y.digest) cs) digest)) same
    ∙ sym (ap (λ (x : Bool). cond x (Some c.bytes) None) at)
kept_by test digest c cs true false is same h =
    ap (λ (x : Bool). cond x (Some c.bytes) (content_in (filter (λ (y : Content). test y.digest) cs) digest)) same ∙ h
kept_by test digest c cs false true is same h =
    let at : test digest ≡ false = ap test (sym ((bytes_eq-Decides c.digest digest).0 same)) ∙ is in
    h ∙ (ap (λ (x : Bool). cond x (content_in cs digest) None) at
    ∙ sym (ap (λ (x : Bool). cond x (Some c.bytes) None) at))
kept_by test digest c cs false false is same h = h

none_either : (b : Bool) (o : Option (List ℕ)) → o ≡ None → o ≡ cond b o None
none_either true o h = refl
none_either false o h = h

-- of contents that are chosen by their digests, a look-up finds those that are chosen
pub kept : (test : List ℕ → Bool) (digest : List ℕ) (cs : List Content)
    → content_in (filter (λ (x : Content). test x.digest) cs) digest ≡ cond (test digest) (content_in cs digest) None
kept test digest [] = none_either (test digest) None refl
kept test digest (c ∷ cs) =
    kept_by test digest c cs (test c.digest) (bytes_eq c.digest digest) refl refl (kept test digest cs)

pub held_kept : (used : List (List ℕ)) (s : StoreState) (digest : List ℕ) → is_held used s.leases digest ≡ true
    → content_in (collected used s).contents digest ≡ content_in s.contents digest
held_kept used s digest h =
    kept (is_held used s.leases) digest s.contents ∙ ap (λ (b : Bool). cond b (content_in s.contents digest) None) h

pub unheld_gone : (used : List (List ℕ)) (s : StoreState) (digest : List ℕ) → is_held used s.leases digest ≡ false
    → content_in (collected used s).contents digest ≡ None
unheld_gone used s digest h =
    kept (is_held used s.leases) digest s.contents ∙ ap (λ (b : Bool). cond b (content_in s.contents digest) None) h

pub held_refused : (used : List (List ℕ)) (s : StoreState) (digest : List ℕ) → is_held used s.leases digest ≡ true
    → first_refusal (remove_refusals used s digest) ≡ None → ⊥
held_refused used s digest held h =
    let a = none_first (not (is_digest digest)) refusal.BadId _ h in
    let b = none_first (is_none (content_in s.contents digest)) refusal.NoContent _ a.1 in
    let c = none_first (is_held used s.leases digest) refusal.InUse None b.1 in
    true≢false (sym held ∙ c.0)
