-- The modules of contents that were opened: looked up, added, and dropped with their contents.
use Rattle.std.proofs.Common.{◌≡◌, ◌≢◌, ℕ, List, [], ◌∷◌, ◌++◌, filter, Bool, true, false, cond, bytes_eq, Option, Some, None, is_some, String, Global, string_bytes, refl, sym, ap, ◌∙◌, subst}
use Rattle.std.specs.String.{string_eq}
use Rattle.std.specs.Map.{lookup}
use Rattle.indexmap.specs.IndexMap.{insert_entry}
use Rattle.wasm_ast.specs.declared.module.Module.{Module}
use Rattle.content_leases.specs.StoreState.{Content, StoreState, content_in, remove_content, is_held, collected}
use Rattle.content_leases.proofs.ContentLemmas.{flip}
use Rattle.content_leases.proofs.StoreLemmas.{kept}
use Rattle.task_board.specs.declared.store_change.StoreChange.{StoreChange}
use Rattle.task_board.specs.declared.store_change.StoreChange.TheVariants as change
use Rattle.task_board.specs.Sound.{Each, AreDistinct, digests_of}
use Rattle.task_board.specs.Inside.StoreChanges.{store_after, removes}
use Rattle.task_board.specs.Inside.OpenedModules.{OpenedModule, opened_module, opened_of, module_in, IsOpen, IsOpened}
use Rattle.task_board.proofs.EntryLemmas.{none_is_not, some_is, by_id, cond_true, cond_false, cond_is_true, cond_is_false, other_id}
use Rattle.task_board.proofs.StoreLemmas.{found_more, found_beside}

abbrev pub Entry : Type 0
Entry = String Global × Module

-- ---- the map

pub found : (digest : List ℕ) (es : List Entry)
    → lookup (λ k. bytes_eq digest (string_bytes k)) es ≡ module_in (opened_of es) digest
found digest [] = refl
found digest (e ∷ es) =
    ap (cond (bytes_eq digest (string_bytes e.0)) (Some e.1)) (found digest es)
    ∙ ap (λ (b : Bool). cond b (Some e.1) (module_in (opened_of es) digest)) (flip digest (string_bytes e.0))

pushed_by : (b : Bool) (e : Entry) (es : List Entry) (d : String Global) (v : Module)
    → cond b (Some e.1) (module_in (opened_of es) (string_bytes d)) ≡ None
    → (module_in (opened_of es) (string_bytes d) ≡ None
    → opened_of (insert_entry string_eq es d v) ≡ opened_of es ++ opened_module (d, v) ∷ [])
    → opened_of (cond b ((e.0, v) ∷ es) (e ∷ insert_entry string_eq es d v))
    ≡ opened_module e ∷ opened_of es ++ opened_module (d, v) ∷ []
pushed_by true e es d v none f = cc
pushed_by false e es d v none f = ap (λ (os : List OpenedModule). opened_module e ∷ os) (f none)

pub pushed : (d : String Global) (v : Module) (es : List Entry) → module_in (opened_of es) (string_bytes d) ≡ None
    → opened_of (insert_entry string_eq es d v) ≡ opened_of es ++ opened_module (d, v) ∷ []
pushed d v [] none = refl
pushed d v (e ∷ es) none =
    pushed_by (string_eq d e.0) e es d v
    (ap (λ (b : Bool). cond b (Some e.1) (module_in (opened_of es) (string_bytes d)))
    (flip (string_bytes d) (string_bytes e.0)) ∙ none) (pushed d v es)

pub retained : (test : List ℕ → Bool) (es : List Entry) → opened_of (filter (λ (e : Entry). test (string_bytes e.0)) es)
    ≡ filter (λ (o : OpenedModule). test o.digest) (opened_of es)
retained test [] = refl
retained test (e ∷ es) = by (test (string_bytes e.0)) (retained test es)
  where
    by : (b : Bool) → opened_of (filter (λ (x : Entry). test (string_bytes x.0)) es)
        ≡ filter (λ (o : OpenedModule). test o.digest) (opened_of es) → opened_of
        (cond b (e ∷ filter (λ (x : Entry). test (string_bytes x.0)) es)
        (filter (λ (x : Entry). test (string_bytes x.0)) es))
        ≡ cond b (opened_module e ∷ filter (λ (o : OpenedModule). test o.digest) (opened_of es))
        (filter (λ (o : OpenedModule). test o.digest) (opened_of es))
    by true h = ap (λ (os : List OpenedModule). opened_module e ∷ os) h
    by false h = h

-- ---- what holds of a module that was opened

pub is_opened :
    (cs : List Content) (os : List OpenedModule) (digest bytes : List ℕ) (m : Module) → Each (IsOpened cs) os
    → module_in os digest ≡ Some m → content_in cs digest ≡ Some bytes → IsOpen bytes m
is_opened cs [] digest bytes m each h stored = absurd (none_is_not m h)
is_opened cs (o ∷ os) digest bytes m each h stored =
    by_id o.digest digest
    (λ y same.
    let is : o.module ≡ m =
    some_is o.module m (cond_true (bytes_eq o.digest digest) (Some o.module) (module_in os digest) (Some m) y h) in
    let own : each.0.0 ≡ bytes = some_is each.0.0 bytes (sym each.0.1 ∙ (ap (content_in cs) same ∙ stored)) in
    let at : IsOpen each.0.0 o.module = each.0.2 in
    subst (λ (x : Module). IsOpen bytes x) is (subst (λ (b : List ℕ). IsOpen b o.module) own at))
    (λ n other. is_opened cs os digest bytes m each.1
    (cond_false (bytes_eq o.digest digest) (Some o.module) (module_in os digest) (Some m) n h) stored)

-- ---- some of the modules that were opened

each_by : (P : OpenedModule → Type 0) (o : OpenedModule) (os : List OpenedModule) (b : Bool) → P o → Each P os
    → Each P (cond b (o ∷ os) os)
each_by P o os true one each = (one, each)
each_by P o os false one each = each

pub each_filtered : (P : OpenedModule → Type 0) (test : OpenedModule → Bool) (os : List OpenedModule) → Each P os
    → Each P (filter test os)
each_filtered P test [] each = tt
each_filtered P test (o ∷ os) each = each_by P o (filter test os) (test o) each.0 (each_filtered P test os each.1)

absent_first : (is : Bool) (m : Module) (a b : Option Module) → cond is (Some m) a ≡ None → (a ≡ None → b ≡ None)
    → cond is (Some m) b ≡ None
absent_first true m a b none f = none
absent_first false m a b none f = f none

absent_rest :
    (is : Bool) (m : Module) (a b : Option Module) → cond is (Some m) a ≡ None → (a ≡ None → b ≡ None) → b ≡ None
absent_rest true m a b none f = absurd (none_is_not m (sym none))
absent_rest false m a b none f = f none

absent_by : (digest : List ℕ) (o : OpenedModule) (os left : List OpenedModule) (b : Bool)
    → cond (bytes_eq o.digest digest) (Some o.module) (module_in os digest) ≡ None
    → (module_in os digest ≡ None → module_in left digest ≡ None) → module_in (cond b (o ∷ left) left) digest ≡ None
absent_by digest o os left true none f =
    absent_first (bytes_eq o.digest digest) o.module (module_in os digest) (module_in left digest) none f
absent_by digest o os left false none f =
    absent_rest (bytes_eq o.digest digest) o.module (module_in os digest) (module_in left digest) none f

pub absent_filtered :
    (test : OpenedModule → Bool) (digest : List ℕ) (os : List OpenedModule) → module_in os digest ≡ None
    → module_in (filter test os) digest ≡ None
absent_filtered test digest [] none = none
absent_filtered test digest (o ∷ os) none =
    absent_by digest o os (filter test os) (test o) none (absent_filtered test digest os)

-- ---- a change of the store

-- a content that is stored afterwards is the one that was stored before
abbrev pub Stays : (cs ds : List Content) → (digest bytes : List ℕ) → Type 0
Stays cs ds digest bytes = content_in cs digest ≡ Some bytes → content_in ds digest ≡ Some bytes

gone : (digest : List ℕ) (cs : List Content) → Each (λ (x : List ℕ). digest ≢ x) (digests_of cs)
    → content_in cs digest ≡ None
gone digest [] away = refl
gone digest (c ∷ cs) away =
    cond_is_false (bytes_eq c.digest digest) (Some c.bytes) (content_in cs digest)
    (other_id c.digest digest (λ e. away.0 (sym e))) ∙ gone digest cs away.1

removed_gone : (digest : List ℕ) (cs : List Content) → AreDistinct (digests_of cs)
    → content_in (remove_content digest cs) digest ≡ None
removed_gone digest [] d = refl
removed_gone digest (c ∷ cs) d =
    by_id c.digest digest
    (λ y same.
    ap (λ (xs : List Content). content_in xs digest)
    (cond_is_true (bytes_eq c.digest digest) cs (c ∷ remove_content digest cs) y)
    ∙ gone digest cs (subst (λ (x : List ℕ). Each (λ (z : List ℕ). x ≢ z) (digests_of cs)) same d.0))
    (λ n other.
    ap (λ (xs : List Content). content_in xs digest)
    (cond_is_false (bytes_eq c.digest digest) cs (c ∷ remove_content digest cs) n)
    ∙ (cond_is_false (bytes_eq c.digest digest) (Some c.bytes) (content_in (remove_content digest cs) digest) n
    ∙ removed_gone digest cs d.1))

none_is_off : (o : Option (List ℕ)) → is_some o ≡ true → o ≡ None → ⊥
none_is_off None h e = cc
none_is_off (Some x) h e = cc

remove_stays : (digest other bytes : List ℕ) (cs : List Content) → AreDistinct (digests_of cs)
    → is_some (content_in (remove_content digest cs) other) ≡ true → Stays cs (remove_content digest cs) other bytes
remove_stays digest other bytes cs d there h =
    by_id other digest
    (λ y same. absurd
    (none_is_off (content_in (remove_content digest cs) digest)
    (subst (λ (x : List ℕ). is_some (content_in (remove_content digest cs) x) ≡ true) same there)
    (removed_gone digest cs d)))
    (λ n away. found_beside digest other cs away ∙ h)

gc_by : (b : Bool) (o : Option (List ℕ)) (bytes : List ℕ) → is_some (cond b o None) ≡ true → o ≡ Some bytes
    → cond b o None ≡ Some bytes
gc_by true o bytes there h = h
gc_by false o bytes there h = cc

gc_stays : (used : List (List ℕ)) (s : StoreState) (digest bytes : List ℕ)
    → is_some (content_in (collected used s).contents digest) ≡ true
    → Stays s.contents (collected used s).contents digest bytes
gc_stays used s digest bytes there h =
    let same = kept (is_held used s.leases) digest s.contents in
    same ∙ gc_by (is_held used s.leases digest) (content_in s.contents digest) bytes (sym (ap is_some same) ∙ there) h

-- a change that removes nothing leaves each content
kept_stays : (s : StoreState) (c : StoreChange) → removes c ≡ false → (digest bytes : List ℕ)
    → Stays s.contents (store_after s c).contents digest bytes
kept_stays s (change.Put key new d) off digest bytes h = found_more s.contents _ digest bytes h
kept_stays s (change.Remove d) off digest bytes h = cc
kept_stays s (change.LeaseCreate key members id) off digest bytes h = h
kept_stays s (change.LeaseAdd key d id) off digest bytes h = h
kept_stays s (change.LeaseDelete id) off digest bytes h = h
kept_stays s (change.Gc used removed) off digest bytes h = cc

-- of one that removes, what is stored afterwards
some_stays : (s : StoreState) (c : StoreChange) → AreDistinct (digests_of s.contents) → (digest bytes : List ℕ)
    → is_some (content_in (store_after s c).contents digest) ≡ true
    → Stays s.contents (store_after s c).contents digest bytes
some_stays s (change.Put key new d) distinct digest bytes there h = found_more s.contents _ digest bytes h
some_stays s (change.Remove d) distinct digest bytes there h = remove_stays d digest bytes s.contents distinct there h
some_stays s (change.LeaseCreate key members id) distinct digest bytes there h = h
some_stays s (change.LeaseAdd key d id) distinct digest bytes there h = h
some_stays s (change.LeaseDelete id) distinct digest bytes there h = h
some_stays s (change.Gc used removed) distinct digest bytes there h = gc_stays used s digest bytes there h

pub opened_kept :
    (s : StoreState) (c : StoreChange) (os : List OpenedModule) → removes c ≡ false → Each (IsOpened s.contents) os
    → Each (IsOpened (store_after s c).contents) os
opened_kept s c [] off each = tt
opened_kept s c (o ∷ os) off each =
    ((each.0.0, kept_stays s c off o.digest each.0.0 each.0.1, each.0.2), opened_kept s c os off each.1)

opened_by : (s : StoreState) (c : StoreChange) (o : OpenedModule) (os : List OpenedModule) (b : Bool)
    → is_some (content_in (store_after s c).contents o.digest) ≡ b → AreDistinct (digests_of s.contents)
    → IsOpened s.contents o
    → Each (IsOpened (store_after s c).contents) os → Each (IsOpened (store_after s c).contents) (cond b (o ∷ os) os)
opened_by s c o os true is d one each = ((one.0, some_stays s c d o.digest one.0 is one.1, one.2), each)
opened_by s c o os false is d one each = each

pub opened_left : (s : StoreState) (c : StoreChange) (os : List OpenedModule) → AreDistinct (digests_of s.contents)
    → Each (IsOpened s.contents) os → Each (IsOpened (store_after s c).contents)
    (filter (λ (o : OpenedModule). is_some (content_in (store_after s c).contents o.digest)) os)
opened_left s c [] d each = tt
opened_left s c (o ∷ os) d each =
    opened_by s c o (filter (λ (x : OpenedModule). is_some (content_in (store_after s c).contents x.digest)) os)
    (is_some (content_in (store_after s c).contents o.digest)) refl d each.0 (opened_left s c os d each.1)
