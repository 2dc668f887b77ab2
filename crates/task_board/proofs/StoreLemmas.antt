-- What requests do to the store: its contents stay sound, what is held stays, and what a lease names is there.
use Rattle.std.proofs.Common.{◌≡◌, ◌≢◌, ℕ, suc, ◌<◌, ◌≤◌, List, [], ◌∷◌, ◌++◌, filter, length, Bool, true, false, true≢false, cond, not, ◌||◌, bytes_eq, nat_le, nat_lt, Option, Some, None, is_some, is_none, inl, inr, ◌⊎◌, refl, sym, ap, ◌∙◌, subst, arith}
use Rattle.std.proofs.lemmas.Bool.{or_cases, or_left, or_right}
use Rattle.std.proofs.lemmas.Bool.Decides.{nat_tests}
use Rattle.std.proofs.lemmas.Slice.Eq.{bytes_eq-Decides}
use Rattle.wasm_ast.specs.Limits.{max_module_bytes}
use Rattle.wasm_ast.specs.declared.refusal.Refusal.TheVariants as refusal
use Rattle.content_leases.specs.Limits.{max_contents, max_leases, max_members}
use Rattle.wasm_ast.specs.Identifiers.{is_id, is_digest}
use Rattle.content_leases.specs.Digests.{digest_of}
use Rattle.content_leases.specs.StoreState.{Content, Lease, StoreState, content_in, lease_in, with_content, remove_content, without_content, with_lease, add_member, with_member, remove_lease, without_lease, is_among, is_leased, is_held, collected}
use Rattle.content_leases.specs.Refusals.{first_refusal, is_bytes, put_refusals, remove_refusals, lease_create_refusals, lease_add_refusals, lease_delete_refusals}
use Rattle.content_leases.proofs.StoreLemmas.{put_new, create_new, add_takes, held_kept, held_refused}
use Rattle.task_board.specs.BoardState.{BoardState, with_store}
use Rattle.task_board.specs.Sound.{Each, AreDistinct, IsContent, IsLease, digests_of, names_of, IsBoard}
use Rattle.task_board.proofs.EntryLemmas.{none_is_not, some_is, by_id, cond_true, cond_false, cond_is_true, cond_is_false, other_id}
use Rattle.task_board.proofs.SoundLemmas.{each_append, distinct_append, map_append, length_append}
use Rattle.task_board.proofs.StepLemmas.{none_first}

pub data StoreEffect (used : List (List ℕ)) (s s' : StoreState) : Type 0 where
  puts :
      (bytes : List ℕ) → first_refusal (put_refusals s bytes) ≡ None → s' ≡ with_content s bytes → StoreEffect used s s'
  removes : (digest : List ℕ) → first_refusal (remove_refusals used s digest) ≡ None → s' ≡ without_content s digest
      → StoreEffect used s s'
  leases :
      (id : List ℕ) → first_refusal (lease_create_refusals s id) ≡ None → s' ≡ with_lease s id → StoreEffect used s s'
  adds : (digest id : List ℕ) → first_refusal (lease_add_refusals s digest id) ≡ None → s' ≡ with_member s digest id
      → StoreEffect used s s'
  ends : (id : List ℕ) → first_refusal (lease_delete_refusals s id) ≡ None → s' ≡ without_lease s id
      → StoreEffect used s s'
  collects : s' ≡ collected used s → StoreEffect used s s'

-- ---- contents less

less_each : (P : Content → Type 0) (digest : List ℕ) (cs : List Content) → Each P cs → Each P (remove_content digest cs)
less_each P digest [] each = tt
less_each P digest (c ∷ cs) each =
    elim (bytes_eq c.digest digest) as (λ (b : Bool). Each P (cond b cs (c ∷ remove_content digest cs)))
    [ true ↦ each.1 | false ↦ (each.0, less_each P digest cs each.1) ]

less_digests : (P : List ℕ → Type 0) (digest : List ℕ) (cs : List Content) → Each P (digests_of cs)
    → Each P (digests_of (remove_content digest cs))
less_digests P digest [] each = tt
less_digests P digest (c ∷ cs) each =
    elim (bytes_eq c.digest digest) as (λ (b : Bool). Each P (digests_of (cond b cs (c ∷ remove_content digest cs))))
    [ true ↦ each.1 | false ↦ (each.0, less_digests P digest cs each.1) ]

less_distinct : (digest : List ℕ) (cs : List Content) → AreDistinct (digests_of cs)
    → AreDistinct (digests_of (remove_content digest cs))
less_distinct digest [] d = tt
less_distinct digest (c ∷ cs) d =
    elim (bytes_eq c.digest digest) as
    (λ (b : Bool). AreDistinct (digests_of (cond b cs (c ∷ remove_content digest cs))))
    [ true ↦ d.1 | false ↦ (less_digests (λ x. c.digest ≢ x) digest cs d.0, less_distinct digest cs d.1) ]

less_length : (digest : List ℕ) (cs : List Content) → length (remove_content digest cs) ≤ length cs
less_length digest [] = omega arith
less_length digest (c ∷ cs) =
    let rest = less_length digest cs in
    elim (bytes_eq c.digest digest) as
    (λ (b : Bool). length (cond b cs (c ∷ remove_content digest cs)) ≤ suc (length cs))
    [ true ↦ omega arith | false ↦ omega (arith, rest) ]

some_each : (P : Content → Type 0) (test : Content → Bool) (cs : List Content) → Each P cs → Each P (filter test cs)
some_each P test [] each = tt
some_each P test (c ∷ cs) each =
    elim (test c) as (λ (b : Bool). Each P (cond b (c ∷ filter test cs) (filter test cs)))
    [ true ↦ (each.0, some_each P test cs each.1) | false ↦ some_each P test cs each.1 ]

some_digests : (P : List ℕ → Type 0) (test : Content → Bool) (cs : List Content) → Each P (digests_of cs)
    → Each P (digests_of (filter test cs))
some_digests P test [] each = tt
some_digests P test (c ∷ cs) each =
    elim (test c) as (λ (b : Bool). Each P (digests_of (cond b (c ∷ filter test cs) (filter test cs))))
    [ true ↦ (each.0, some_digests P test cs each.1) | false ↦ some_digests P test cs each.1 ]

some_distinct : (test : Content → Bool) (cs : List Content) → AreDistinct (digests_of cs)
    → AreDistinct (digests_of (filter test cs))
some_distinct test [] d = tt
some_distinct test (c ∷ cs) d =
    elim (test c) as (λ (b : Bool). AreDistinct (digests_of (cond b (c ∷ filter test cs) (filter test cs)))) [
      | true ↦ (some_digests (λ x. c.digest ≢ x) test cs d.0, some_distinct test cs d.1)
      | false ↦ some_distinct test cs d.1
    ]

some_length : (test : Content → Bool) (cs : List Content) → length (filter test cs) ≤ length cs
some_length test [] = omega arith
some_length test (c ∷ cs) =
    let rest = some_length test cs in
    elim (test c) as (λ (b : Bool). length (cond b (c ∷ filter test cs) (filter test cs)) ≤ suc (length cs))
    [ true ↦ omega (arith, rest) | false ↦ omega (arith, rest) ]

-- ---- soundness

record AreSound (cs : List Content) : Type 0 where
  pub each : Each IsContent cs
  pub distinct : AreDistinct (digests_of cs)
  pub few : length cs ≤ max_contents

no_content : (digest : List ℕ) (cs : List Content) → content_in cs digest ≡ None
    → Each (λ (y : List ℕ). y ≢ digest) (digests_of cs)
no_content digest [] none = tt
no_content digest (c ∷ cs) none =
    by_id c.digest digest
    (λ y same_y. absurd
    (none_is_not c.bytes
    (sym (cond_true (bytes_eq c.digest digest) (Some c.bytes) (content_in cs digest) None y none))))
    (λ n other_n. (
      other_n,
      no_content digest cs (cond_false (bytes_eq c.digest digest) (Some c.bytes) (content_in cs digest) None n none),
    ))

put_sound : (s : StoreState) (bytes : List ℕ) → AreSound s.contents → first_refusal (put_refusals s bytes) ≡ None
    → AreSound (with_content s bytes).contents
put_sound s bytes b h =
    let l = none_first (nat_lt max_module_bytes (length bytes)) refusal.Limit _ h in
    let stored = content_in s.contents (digest_of bytes) in
    let e = none_first (is_bytes bytes stored) refusal.Exists _ l.1 in
    let c = none_first (is_some stored) refusal.DigestConflict _ e.1 in
    let m = none_first (nat_le max_contents (length s.contents)) refusal.TooMany None c.1 in
    let off = l.0 in
    let short : length bytes ≤ max_module_bytes = grind (arith, nat_tests, off) in
    let full = m.0 in
    let few : length s.contents < max_contents = grind (arith, nat_tests, full) in
    let new = put_new s bytes h in
    let one : Content = record { digest = digest_of bytes; bytes = bytes } in
    let more = length_append s.contents one in
    record {
      each = each_append IsContent s.contents one b.each (record { digest = refl; short = short });
      distinct =
          subst (λ (xs : List (List ℕ)). AreDistinct xs) (sym (map_append (λ (x : Content). x.digest) s.contents one))
          (distinct_append (digests_of s.contents) (digest_of bytes) b.distinct
          (no_content (digest_of bytes) s.contents new));
      few = omega (arith, more, few);
    }

sound_after :
    (used : List (List ℕ)) (s s' : StoreState) → AreSound s.contents → StoreEffect used s s' → AreSound s'.contents
sound_after used s s' b (puts bytes none is) =
    subst (λ (x : StoreState). AreSound x.contents) (sym is) (put_sound s bytes b none)
sound_after used s s' b (removes digest none is) =
    let few = b.few in
    let less = less_length digest s.contents in
    subst (λ (x : StoreState). AreSound x.contents) (sym is)
    (record {
      each = less_each IsContent digest s.contents b.each;
      distinct = less_distinct digest s.contents b.distinct;
      few = omega (arith, few, less);
    })
sound_after used s s' b (leases id none is) = subst (λ (x : StoreState). AreSound x.contents) (sym is) b
sound_after used s s' b (adds digest id none is) = subst (λ (x : StoreState). AreSound x.contents) (sym is) b
sound_after used s s' b (ends id none is) = subst (λ (x : StoreState). AreSound x.contents) (sym is) b
sound_after used s s' b (collects is) =
    let few = b.few in
    let test : Content → Bool = λ c. is_held used s.leases c.digest in
    let less = some_length test s.contents in
    subst (λ (x : StoreState). AreSound x.contents) (sym is)
    (record {
      each = some_each IsContent test s.contents b.each;
      distinct = some_distinct test s.contents b.distinct;
      few = omega (arith, few, less);
    })

-- ---- leases

record AreLeases (ls : List Lease) : Type 0 where
  pub each : Each IsLease ls
  pub distinct : AreDistinct (names_of ls)
  pub few : length ls ≤ max_leases

ended_each : (name : List ℕ) (ls : List Lease) → Each IsLease ls → Each IsLease (remove_lease name ls)
ended_each name [] each = tt
ended_each name (l ∷ ls) each =
    elim (bytes_eq l.name name) as (λ (b : Bool). Each IsLease (cond b ls (l ∷ remove_lease name ls)))
    [ true ↦ each.1 | false ↦ (each.0, ended_each name ls each.1) ]

ended_names : (P : List ℕ → Type 0) (name : List ℕ) (ls : List Lease) → Each P (names_of ls)
    → Each P (names_of (remove_lease name ls))
ended_names P name [] each = tt
ended_names P name (l ∷ ls) each =
    elim (bytes_eq l.name name) as (λ (b : Bool). Each P (names_of (cond b ls (l ∷ remove_lease name ls))))
    [ true ↦ each.1 | false ↦ (each.0, ended_names P name ls each.1) ]

ended_distinct :
    (name : List ℕ) (ls : List Lease) → AreDistinct (names_of ls) → AreDistinct (names_of (remove_lease name ls))
ended_distinct name [] d = tt
ended_distinct name (l ∷ ls) d =
    elim (bytes_eq l.name name) as (λ (b : Bool). AreDistinct (names_of (cond b ls (l ∷ remove_lease name ls))))
    [ true ↦ d.1 | false ↦ (ended_names (λ x. l.name ≢ x) name ls d.0, ended_distinct name ls d.1) ]

ended_length : (name : List ℕ) (ls : List Lease) → length (remove_lease name ls) ≤ length ls
ended_length name [] = omega arith
ended_length name (l ∷ ls) =
    let rest = ended_length name ls in
    elim (bytes_eq l.name name) as (λ (b : Bool). length (cond b ls (l ∷ remove_lease name ls)) ≤ suc (length ls))
    [ true ↦ omega arith | false ↦ omega (arith, rest) ]

no_lease : (name : List ℕ) (ls : List Lease) → lease_in ls name ≡ None → Each (λ (y : List ℕ). y ≢ name) (names_of ls)
no_lease name [] none = tt
no_lease name (l ∷ ls) none =
    by_id l.name name
    (λ y same_y. absurd
    (none_is_not l.members (sym (cond_true (bytes_eq l.name name) (Some l.members) (lease_in ls name) None y none))))
    (λ n other_n. (
      other_n,
      no_lease name ls (cond_false (bytes_eq l.name name) (Some l.members) (lease_in ls name) None n none),
    ))

-- a digest that is not among these is none of them
none_among : (digest : List ℕ) (ms : List (List ℕ)) → is_among digest ms ≡ false → Each (λ m. m ≢ digest) ms
none_among digest [] off = tt
none_among digest (m ∷ ms) off =
    by_id m digest
    (λ y same. absurd (true≢false (sym (or_left (bytes_eq m digest) (is_among digest ms) y) ∙ off)))
    (λ n other. (other, none_among digest ms (rest (bytes_eq m digest) off)))
  where
    rest : (b : Bool) → (b || is_among digest ms) ≡ false → is_among digest ms ≡ false
    rest true h = cc
    rest false h = h

added_names : (digest name : List ℕ) (ls : List Lease) → names_of (add_member digest name ls) ≡ names_of ls
added_names digest name [] = refl
added_names digest name (l ∷ ls) =
    elim (bytes_eq l.name name) as
    (λ (b : Bool). names_of
    (cond b (record l { members = l.members ++ digest ∷ [] } ∷ ls) (l ∷ add_member digest name ls))
    ≡ l.name ∷ names_of ls)
    [ true ↦ refl | false ↦ ap (λ (xs : List (List ℕ)). l.name ∷ xs) (added_names digest name ls) ]

added_length : (digest name : List ℕ) (ls : List Lease) → length (add_member digest name ls) ≡ length ls
added_length digest name [] = refl
added_length digest name (l ∷ ls) =
    elim (bytes_eq l.name name) as
    (λ (b : Bool). length
    (cond b (record l { members = l.members ++ digest ∷ [] } ∷ ls) (l ∷ add_member digest name ls)) ≡ suc (length ls))
    [ true ↦ refl | false ↦ ap (λ (n : ℕ). suc n) (added_length digest name ls) ]

added_each : (digest name : List ℕ) (ms : List (List ℕ)) (ls : List Lease) → is_among digest ms ≡ false
    → length ms < max_members → lease_in ls name ≡ Some ms → Each IsLease ls → Each IsLease (add_member digest name ls)
added_each digest name ms [] off few at each = tt
added_each digest name ms (l ∷ ls) off few at each =
    by_id l.name name
    (λ y same.
    let own : l.members ≡ ms =
    some_is l.members ms (cond_true (bytes_eq l.name name) (Some l.members) (lease_in ls name) (Some ms) y at) in
    let fits = subst (λ (xs : List (List ℕ)). length xs < max_members) (sym own) few in
    let more = length_append l.members digest in
    let new : IsLease (record l { members = l.members ++ digest ∷ [] }) =
    record {
      distinct =
          distinct_append l.members digest each.0.distinct
          (none_among digest l.members (ap (is_among digest) own ∙ off));
      few = omega (arith, more, fits);
    } in
    subst (Each IsLease) (sym (cond_is_true (bytes_eq l.name name) _ _ y)) (new, each.1))
    (λ n other.
    subst (Each IsLease) (sym (cond_is_false (bytes_eq l.name name) _ _ n)) (
      each.0,
      added_each digest name ms ls off few
          (cond_false (bytes_eq l.name name) (Some l.members) (lease_in ls name) (Some ms) n at) each.1,
    ))

lease_sound : (s : StoreState) (id : List ℕ) → AreLeases s.leases → first_refusal (lease_create_refusals s id) ≡ None
    → AreLeases (with_lease s id).leases
lease_sound s id b h =
    let n = none_first (not (is_id id)) refusal.BadId _ h in
    let x = none_first (is_some (lease_in s.leases id)) refusal.Exists _ n.1 in
    let m = none_first (nat_le max_leases (length s.leases)) refusal.TooMany None x.1 in
    let full = m.0 in
    let few : length s.leases < max_leases = grind (arith, nat_tests, full) in
    let one : Lease = record { name = id; members = [] } in
    let more = length_append s.leases one in
    record {
      each = each_append IsLease s.leases one b.each (record { distinct = tt; few = omega arith });
      distinct =
          subst (λ (xs : List (List ℕ)). AreDistinct xs) (sym (map_append (λ (l : Lease). l.name) s.leases one))
          (distinct_append (names_of s.leases) id b.distinct (no_lease id s.leases (create_new s id h)));
      few = omega (arith, more, few);
    }

member_sound :
    (s : StoreState) (digest id : List ℕ) → AreLeases s.leases → first_refusal (lease_add_refusals s digest id) ≡ None
    → AreLeases (with_member s digest id).leases
member_sound s digest id b h =
    let t = add_takes s digest id h in
    record {
      each = added_each digest id t.0 s.leases t.2 t.3 t.1 b.each;
      distinct = subst (λ (xs : List (List ℕ)). AreDistinct xs) (sym (added_names digest id s.leases)) b.distinct;
      few = subst (λ (n : ℕ). n ≤ max_leases) (sym (added_length digest id s.leases)) b.few;
    }

leases_after :
    (used : List (List ℕ)) (s s' : StoreState) → AreLeases s.leases → StoreEffect used s s' → AreLeases s'.leases
leases_after used s s' b (puts bytes none is) = subst (λ (x : StoreState). AreLeases x.leases) (sym is) b
leases_after used s s' b (removes digest none is) = subst (λ (x : StoreState). AreLeases x.leases) (sym is) b
leases_after used s s' b (leases id none is) =
    subst (λ (x : StoreState). AreLeases x.leases) (sym is) (lease_sound s id b none)
leases_after used s s' b (adds digest id none is) =
    subst (λ (x : StoreState). AreLeases x.leases) (sym is) (member_sound s digest id b none)
leases_after used s s' b (ends id none is) =
    let few = b.few in
    let less = ended_length id s.leases in
    subst (λ (x : StoreState). AreLeases x.leases) (sym is)
    (record {
      each = ended_each id s.leases b.each;
      distinct = ended_distinct id s.leases b.distinct;
      few = omega (arith, few, less);
    })
leases_after used s s' b (collects is) = subst (λ (x : StoreState). AreLeases x.leases) (sym is) b

pub store_sound : (s : BoardState) (used : List (List ℕ)) (new : StoreState) → IsBoard s → StoreEffect used s.store new
    → IsBoard (with_store s new)
store_sound s used new b change =
    let c =
    sound_after used s.store new (record { each = b.contents; distinct = b.digests; few = b.few_contents }) change
    in
    let l = leases_after used s.store new (record { each = b.leases; distinct = b.names; few = b.few_leases }) change in
    record {
      tasks = b.tasks;
      slots = b.slots;
      ids = b.ids;
      incarnations = b.incarnations;
      contents = c.each;
      digests = c.distinct;
      leases = l.each;
      names = l.distinct;
      few_tasks = b.few_tasks;
      few_contents = c.few;
      few_leases = l.few;
      few_creates = b.few_creates;
    }

-- ---- what is held stays

more_by : (b : Bool) (v bytes : List ℕ) (o p : Option (List ℕ)) → (o ≡ Some bytes → p ≡ Some bytes)
    → cond b (Some v) o ≡ Some bytes → cond b (Some v) p ≡ Some bytes
more_by true v bytes o p f h = h
more_by false v bytes o p f h = f h

pub found_more : (cs : List Content) (c : Content) (digest bytes : List ℕ) → content_in cs digest ≡ Some bytes
    → content_in (cs ++ c ∷ []) digest ≡ Some bytes
found_more [] c digest bytes h = absurd (none_is_not bytes h)
found_more (x ∷ cs) c digest bytes h =
    more_by (bytes_eq x.digest digest) x.bytes bytes (content_in cs digest) (content_in (cs ++ c ∷ []) digest)
    (found_more cs c digest bytes) h

pub found_beside : (digest other : List ℕ) (cs : List Content) → other ≢ digest
    → content_in (remove_content digest cs) other ≡ content_in cs other
found_beside digest other [] away = refl
found_beside digest other (c ∷ cs) away =
    by_id c.digest digest
    (λ y same.
    ap (λ (xs : List Content). content_in xs other)
    (cond_is_true (bytes_eq c.digest digest) cs (c ∷ remove_content digest cs) y) ∙ sym
    (cond_is_false (bytes_eq c.digest other) (Some c.bytes) (content_in cs other)
    (other_id c.digest other (λ e. away (sym e ∙ same)))))
    (λ n differs.
    ap (λ (xs : List Content). content_in xs other)
    (cond_is_false (bytes_eq c.digest digest) cs (c ∷ remove_content digest cs) n)
    ∙ ap (cond (bytes_eq c.digest other) (Some c.bytes)) (found_beside digest other cs away))

-- a held content stays, whatever is done to the store
pub held_stays : (used : List (List ℕ)) (s s' : StoreState) → StoreEffect used s s' → (digest bytes : List ℕ)
    → is_held used s.leases digest ≡ true
    → content_in s.contents digest ≡ Some bytes → content_in s'.contents digest ≡ Some bytes
held_stays used s s' (puts new none is) digest bytes held h =
    ap (λ (x : StoreState). content_in x.contents digest) is
    ∙ found_more s.contents (record { digest = digest_of new; bytes = new }) digest bytes h
held_stays used s s' (removes gone none is) digest bytes held h =
    let away : digest ≢ gone = λ e. held_refused used s gone (ap (is_held used s.leases) (sym e) ∙ held) none in
    ap (λ (x : StoreState). content_in x.contents digest) is ∙ (found_beside gone digest s.contents away ∙ h)
held_stays used s s' (leases id none is) digest bytes held h =
    ap (λ (x : StoreState). content_in x.contents digest) is ∙ h
held_stays used s s' (adds new id none is) digest bytes held h =
    ap (λ (x : StoreState). content_in x.contents digest) is ∙ h
held_stays used s s' (ends id none is) digest bytes held h =
    ap (λ (x : StoreState). content_in x.contents digest) is ∙ h
held_stays used s s' (collects is) digest bytes held h =
    ap (λ (x : StoreState). content_in x.contents digest) is ∙ (held_kept used s digest held ∙ h)

-- ---- what a lease names is there

some_of : (o : Option (List ℕ)) → is_some o ≡ true → (bytes : List ℕ) × (o ≡ Some bytes)
some_of None h = cc
some_of (Some bytes) h = (bytes, refl)

not_none : (o : Option (List ℕ)) → is_none o ≡ false → is_some o ≡ true
not_none None h = cc
not_none (Some bytes) h = refl

leased_more :
    (ls : List Lease) (id digest : List ℕ) → is_leased (ls ++ record { name = id; members = [] } ∷ []) digest ≡ true
    → is_leased ls digest ≡ true
leased_more [] id digest h = h
leased_more (l ∷ ls) id digest h = by (λ k. leased_more ls id digest k) (is_among digest l.members) h
  where
    by : (is_leased (ls ++ record { name = id; members = [] } ∷ []) digest ≡ true → is_leased ls digest ≡ true)
        → (b : Bool) → (b || is_leased (ls ++ record { name = id; members = [] } ∷ []) digest) ≡ true
        → (b || is_leased ls digest) ≡ true
    by rest true g = refl
    by rest false g = rest g

among_more : (ms : List (List ℕ)) (new digest : List ℕ) → is_among digest (ms ++ new ∷ []) ≡ true
    → (is_among digest ms ≡ true) ⊎ (new ≡ digest)
among_more [] new digest h = by (or_cases (bytes_eq new digest) false h)
  where
    by : (bytes_eq new digest ≡ true) ⊎ (false ≡ true) → (false ≡ true) ⊎ (new ≡ digest)
    by (inl y) = inr ((bytes_eq-Decides new digest).0 y)
    by (inr n) = inl n
among_more (m ∷ ms) new digest h = by (λ k. among_more ms new digest k) (bytes_eq m digest) h
  where
    by : (is_among digest (ms ++ new ∷ []) ≡ true → (is_among digest ms ≡ true) ⊎ (new ≡ digest)) → (b : Bool)
        → (b || is_among digest (ms ++ new ∷ [])) ≡ true → ((b || is_among digest ms) ≡ true) ⊎ (new ≡ digest)
    by rest true g = inl refl
    by rest false g = rest g

left_leased : (a b : Bool) {X : Type 0} → (a ≡ true) ⊎ X → ((a || b) ≡ true) ⊎ X
left_leased a b {X} (inl y) = inl (or_left a b y)
left_leased a b {X} (inr x) = inr x

right_leased : (a b : Bool) {X : Type 0} → (b ≡ true) ⊎ X → ((a || b) ≡ true) ⊎ X
right_leased a b {X} (inl y) = inl (or_right a b y)
right_leased a b {X} (inr x) = inr x

leased_added : (ls : List Lease) (new id digest : List ℕ) → is_leased (add_member new id ls) digest ≡ true
    → (is_leased ls digest ≡ true) ⊎ (new ≡ digest)
leased_added [] new id digest h = inl h
leased_added (l ∷ ls) new id digest h = by (λ k. leased_added ls new id digest k) (bytes_eq l.name id) h
  where
    by : (is_leased (add_member new id ls) digest ≡ true → (is_leased ls digest ≡ true) ⊎ (new ≡ digest)) → (b : Bool)
        → is_leased (cond b (record l { members = l.members ++ new ∷ [] } ∷ ls) (l ∷ add_member new id ls)) digest
        ≡ true → (is_leased (l ∷ ls) digest ≡ true) ⊎ (new ≡ digest)
    by rest true g = here (or_cases (is_among digest (l.members ++ new ∷ [])) (is_leased ls digest) g)
      where
        here : (is_among digest (l.members ++ new ∷ []) ≡ true) ⊎ (is_leased ls digest ≡ true)
            → (is_leased (l ∷ ls) digest ≡ true) ⊎ (new ≡ digest)
        here (inl y) = left_leased (is_among digest l.members) (is_leased ls digest) (among_more l.members new digest y)
        here (inr n) = inl (or_right (is_among digest l.members) (is_leased ls digest) n)
    by rest false g = here (or_cases (is_among digest l.members) (is_leased (add_member new id ls) digest) g)
      where
        here : (is_among digest l.members ≡ true) ⊎ (is_leased (add_member new id ls) digest ≡ true)
            → (is_leased (l ∷ ls) digest ≡ true) ⊎ (new ≡ digest)
        here (inl y) = inl (or_left (is_among digest l.members) (is_leased ls digest) y)
        here (inr n) = right_leased (is_among digest l.members) (is_leased ls digest) (rest n)

leased_less :
    (ls : List Lease) (id digest : List ℕ) → is_leased (remove_lease id ls) digest ≡ true → is_leased ls digest ≡ true
leased_less [] id digest h = h
leased_less (l ∷ ls) id digest h = by (λ k. leased_less ls id digest k) (bytes_eq l.name id) h
  where
    by : (is_leased (remove_lease id ls) digest ≡ true → is_leased ls digest ≡ true) → (b : Bool)
        → is_leased (cond b ls (l ∷ remove_lease id ls)) digest ≡ true → is_leased (l ∷ ls) digest ≡ true
    by rest true g = or_right (is_among digest l.members) (is_leased ls digest) g
    by rest false g = here (or_cases (is_among digest l.members) (is_leased (remove_lease id ls) digest) g)
      where
        here : (is_among digest l.members ≡ true) ⊎ (is_leased (remove_lease id ls) digest ≡ true)
            → is_leased (l ∷ ls) digest ≡ true
        here (inl y) = or_left (is_among digest l.members) (is_leased ls digest) y
        here (inr n) = or_right (is_among digest l.members) (is_leased ls digest) (rest n)

-- what a lease names afterwards, one named before, or it was added
leased_before : (used : List (List ℕ)) (s s' : StoreState) → StoreEffect used s s' → (digest : List ℕ)
    → is_leased s'.leases digest ≡ true → (is_leased s.leases digest ≡ true)
    ⊎ ((is_some (content_in s.contents digest) ≡ true) × (s'.contents ≡ s.contents))
leased_before used s s' (puts new none is) digest h =
    inl (ap (λ (x : StoreState). is_leased x.leases digest) (sym is) ∙ h)
leased_before used s s' (removes gone none is) digest h =
    inl (ap (λ (x : StoreState). is_leased x.leases digest) (sym is) ∙ h)
leased_before used s s' (leases id none is) digest h =
    inl (leased_more s.leases id digest (ap (λ (x : StoreState). is_leased x.leases digest) (sym is) ∙ h))
leased_before used s s' (adds new id none is) digest h =
    by (leased_added s.leases new id digest (ap (λ (x : StoreState). is_leased x.leases digest) (sym is) ∙ h))
  where
    there : is_some (content_in s.contents new) ≡ true
    there =
        let a = none_first (not (is_digest new) || not (is_id id)) refusal.BadId _ none in
        let b = none_first (is_none (lease_in s.leases id)) refusal.NotFound _ a.1 in
        let c = none_first (is_none (content_in s.contents new)) refusal.NoContent _ b.1 in
        not_none (content_in s.contents new) c.0

    by : (is_leased s.leases digest ≡ true) ⊎ (new ≡ digest) → (is_leased s.leases digest ≡ true)
        ⊎ ((is_some (content_in s.contents digest) ≡ true) × (s'.contents ≡ s.contents))
    by (inl y) = inl y
    by (inr e) =
        inr (
          subst (λ (d : List ℕ). is_some (content_in s.contents d) ≡ true) e there,
          ap (λ (x : StoreState). x.contents) is,
        )
leased_before used s s' (ends id none is) digest h =
    inl (leased_less s.leases id digest (ap (λ (x : StoreState). is_leased x.leases digest) (sym is) ∙ h))
leased_before used s s' (collects is) digest h = inl (ap (λ (x : StoreState). is_leased x.leases digest) (sym is) ∙ h)

abbrev pub LeasedAreThere : StoreState → Type 0
LeasedAreThere s = (digest : List ℕ) → is_leased s.leases digest ≡ true → is_some (content_in s.contents digest) ≡ true

pub leased_are_there :
    (used : List (List ℕ)) (s s' : StoreState) → StoreEffect used s s' → LeasedAreThere s → LeasedAreThere s'
leased_are_there used s s' change all digest h = by (leased_before used s s' change digest h)
  where
    by : (is_leased s.leases digest ≡ true)
        ⊎ ((is_some (content_in s.contents digest) ≡ true) × (s'.contents ≡ s.contents))
        → is_some (content_in s'.contents digest) ≡ true
    by (inl y) =
        let found = some_of (content_in s.contents digest) (all digest y) in
        ap is_some
        (held_stays used s s' change digest found.0
        (or_left (is_leased s.leases digest) (is_among digest used) y) found.1)
    by (inr n) = ap (λ (cs : List Content). is_some (content_in cs digest)) n.1 ∙ n.0
