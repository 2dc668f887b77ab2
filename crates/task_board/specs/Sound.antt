-- What holds of every board that events lead to.
use Rattle.std.specs.Prelude.{◌≡◌, ◌≢◌, ℕ, ◌<◌, ◌≤◌, List, [], ◌∷◌, map, length, true, Some, None, is_some}
pub use Rattle.std.specs.List.{AllByRecursion as Each}
use Rattle.step_machine.specs.Instantiation.{ended}
use Rattle.step_machine.specs.Limits.{max_breakpoints}
use Rattle.wasm_ast.specs.Limits.{max_module_bytes}
use Rattle.task_lifecycle.specs.declared.status.Status.TheVariants.{Created, Pausing}
use Rattle.task_lifecycle.specs.declared.status.ExitRecord.{ExitRecord}
use Rattle.task_board.specs.Limits.{max_tasks, max_creates}
use Rattle.task_requests.specs.Limits.{max_budget}
use Rattle.content_leases.specs.Limits.{max_contents, max_leases, max_members}
use Rattle.wasm_ast.specs.Identifiers.{is_id}
use Rattle.content_leases.specs.Digests.{digest_of}
use Rattle.content_leases.specs.StoreState.{Content, Lease}
use Rattle.task_lifecycle.specs.Lifecycle.{takes_turns, is_stopped, is_going}
use Rattle.task_board.specs.BoardState.{Task, Entries, BoardState}
use Rattle.task_board.specs.Tasks.{execution_at, EndsSo}
use Rattle.task_board.specs.Refusals.{Openable}

-- no two of them are the same
abbrev pub AreDistinct : {X : Type 0} → List X → Type 0
AreDistinct [] = Unit {0}
AreDistinct (x ∷ xs) = Each (λ y. x ≢ y) xs × AreDistinct xs

-- each is greater than the one before
abbrev pub AreRising : List ℕ → Type 0
AreRising [] = Unit {0}
AreRising (n ∷ ns) = Each (λ m. n < m) ns × AreRising ns

-- a task of a board that has accepted this number of creates
pub record IsSound (creates : ℕ) (t : Task) : Type 0 where
  pub named : is_id t.id ≡ true
  pub earlier : t.incarnation < creates
  pub opens : Openable t.bytes t.process t.module
  pub digest : t.process.module ≡ digest_of t.bytes
  -- a task that is not started has made no turn
  pub fresh : t.status ≡ Created → t.turns ≡ 0
  -- a task that is out is running or pausing, and its slice has a budget; a pausing one is out
  pub out : is_some t.out ≡ true → takes_turns t.status ≡ true
  pub budget : (n : ℕ) → t.out ≡ Some n → (1 ≤ n) × (n ≤ max_budget)
  pub pausing : t.status ≡ Pausing → is_some t.out ≡ true
  pub signal : is_some t.signal ≡ true → is_some t.out ≡ true
  -- it is stopped exactly if it has ended; a task that goes on has not halted
  pub stopped : is_stopped t.status ≡ is_some t.end
  pub goes : is_going t.status ≡ true → ended (execution_at t t.turns) ≡ None
  -- how it ended is true of its execution
  pub end : (e : ExitRecord) → t.end ≡ Some e → EndsSo t e
  -- it has few breakpoints, and none twice
  pub few_breaks : length t.breaks ≤ max_breakpoints
  pub breaks : AreDistinct t.breaks

-- a content is stored under its own digest
pub record IsContent (c : Content) : Type 0 where
  pub digest : c.digest ≡ digest_of c.bytes
  pub short : length c.bytes ≤ max_module_bytes

-- a lease names no digest twice
pub record IsLease (l : Lease) : Type 0 where
  pub distinct : AreDistinct l.members
  pub few : length l.members ≤ max_members

abbrev pub slots_of : Entries → List ℕ
slots_of es = map (λ (e : ℕ × Task). e.0) es

abbrev pub ids_of : Entries → List (List ℕ)
ids_of es = map (λ (e : ℕ × Task). e.1.id) es

abbrev pub incarnations_of : Entries → List ℕ
incarnations_of es = map (λ (e : ℕ × Task). e.1.incarnation) es

abbrev pub digests_of : List Content → List (List ℕ)
digests_of cs = map (λ (c : Content). c.digest) cs

abbrev pub names_of : List Lease → List (List ℕ)
names_of ls = map (λ (l : Lease). l.name) ls

pub record IsBoard (s : BoardState) : Type 0 where
  pub tasks : Each (λ (e : ℕ × Task). IsSound s.creates e.1) s.tasks
  pub slots : AreRising (slots_of s.tasks)
  pub ids : AreDistinct (ids_of s.tasks)
  pub incarnations : AreDistinct (incarnations_of s.tasks)
  pub contents : Each IsContent s.store.contents
  pub digests : AreDistinct (digests_of s.store.contents)
  pub leases : Each IsLease s.store.leases
  pub names : AreDistinct (names_of s.store.leases)
  pub few_tasks : length s.tasks ≤ max_tasks
  pub few_contents : length s.store.contents ≤ max_contents
  pub few_leases : length s.store.leases ≤ max_leases
  pub few_creates : s.creates ≤ max_creates
