-- What the bytes of a file determine.
use Rattle.std.proofs.Common.{◌≡◌, ◌⊎◌, ◌++◌, cond, codes, inl, inr, ℕ, zero, suc, ◌+◌, ◌≤◌, List, Bool, true, false, true≢false, None, Some, length, refl, sym, ap, ◌∙◌, subst, arith}
use Rattle.hex.specs.Hex.{encode_lower}
use Rattle.wasm_ast.specs.declared.module.Module.{Module}
use Rattle.wasm_ast.specs.declared.refusal.Refusal.{Refusal}
use Rattle.wasm_ast.specs.Limits.{Within, max_module_bytes}
use Rattle.wasm_binary.specs.Grammar.{Spells}
use Rattle.wasm_binary.specs.Limits.{Over}
use Rattle.wasm_binary.specs.Canonical.{canon, FitsLimits}
use Rattle.text_assembler.specs.Modules.{Denotes}
use Rattle.oci_config.specs.declared.process.ProcessConfig.{ProcessConfig}
use Rattle.validator.specs.Typing.{ValidModule}
use Rattle.step_machine.specs.declared.ends.End.{End}
use Rattle.step_machine.specs.declared.ends.End.TheVariants as ends
use Rattle.step_machine.specs.Program.{Program, program}
use Rattle.step_machine.specs.Configuration.{State, running, exited, trapped, stuck, Configuration, is_halted, is_empty}
use Rattle.step_machine.specs.Turns.{from}
use Rattle.step_machine.specs.Instantiation.{instantiation_refusal, initial, after, ended}
use Rattle.validator.proofs.FaultLemmas.{fault_not_valid}
use Rattle.file_commands.specs.declared.ran.Ran.{Ran}
use Rattle.file_commands.specs.Source.{IsSource, IsNoSource}
use Rattle.file_commands.specs.Source as source
use Rattle.file_commands.specs.Ran.{line}
use Rattle.file_commands.specs.Assembled.{IsAssembled}
use Rattle.file_commands.specs.Assembled as asm
use Rattle.file_commands.specs.Checked.{IsChecked, IsTaskChecked, list_if}
use Rattle.file_commands.specs.Checked as check
use Rattle.file_commands.specs.TaskRun.{Given, process_given, CannotRun, IsRun, ran_to, CanRun, HasEnded}
use Rattle.file_commands.specs.TaskRun as task

-- ---- modules

abbrev pub SpellsOne : Type 0
SpellsOne = (bytes : List ℕ) (m n : Module) → Spells bytes m → Spells bytes n → m ≡ n

abbrev pub OverNone : Type 0
OverNone =
    (bytes : List ℕ) → Over bytes → (m : Module) → Spells bytes m → Within m → length bytes ≤ max_module_bytes → ⊥

abbrev pub DenotesOne : Type 0
DenotesOne = (text : List ℕ) (m n : Module) → Denotes text m → Denotes text n → m ≡ n

both : {b : Bool} → b ≡ true → b ≡ false → ⊥
both h g = true≢false (sym h ∙ g)

pub one_module : SpellsOne → DenotesOne → (bytes : List ℕ) (m n : Module) → IsSource bytes m → IsSource bytes n → m ≡ n
one_module spells denotes bytes m n (source.IsSource.binary b h) (source.IsSource.binary c g) =
    spells bytes m n h.spells g.spells
one_module spells denotes bytes m n (source.IsSource.binary b h) (source.IsSource.text c u d f) = absurd (both b c)
one_module spells denotes bytes m n (source.IsSource.text b u d f) (source.IsSource.binary c g) = absurd (both c b)
one_module spells denotes bytes m n (source.IsSource.text b u d f) (source.IsSource.text c v e g) =
    denotes bytes m n d e

pub either : OverNone → (bytes : List ℕ) (m : Module) (e : Refusal) → IsSource bytes m → IsNoSource bytes e → ⊥
either over bytes m e (source.IsSource.binary b h) (source.IsNoSource.bad_module c none) = none m h.spells
either over bytes m e (source.IsSource.binary b h) (source.IsNoSource.large_module c o) =
    over bytes o m h.spells h.within h.short
either over bytes m e (source.IsSource.binary b h) (source.IsNoSource.no_text c u) = both b c
either over bytes m e (source.IsSource.binary b h) (source.IsNoSource.bad_text l k c u none) = both b c
either over bytes m e (source.IsSource.binary b h) (source.IsNoSource.large_text c u none o) = both b c
either over bytes m e (source.IsSource.text b u d f) (source.IsNoSource.bad_module c none) = both c b
either over bytes m e (source.IsSource.text b u d f) (source.IsNoSource.large_module c o) = both c b
either over bytes m e (source.IsSource.text b u d f) (source.IsNoSource.no_text c v) = both u v
either over bytes m e (source.IsSource.text b u d f) (source.IsNoSource.bad_text l k c v none) = none m d
either over bytes m e (source.IsSource.text b u d f) (source.IsNoSource.large_text c v none o) = none m d f

-- ---- commands

abbrev pub OneModule : Type 0
OneModule = (bytes : List ℕ) (m n : Module) → IsSource bytes m → IsSource bytes n → m ≡ n

abbrev pub Either : Type 0
Either = (bytes : List ℕ) (m : Module) (e : Refusal) → IsSource bytes m → IsNoSource bytes e → ⊥

-- both write the same to standard output, and have the same status
abbrev pub Alike : Ran → Ran → Type 0
Alike r s = (r.out ≡ s.out) × (r.status ≡ s.status)

pub assembled_alike :
    OneModule → Either → (bytes : List ℕ) (r s : Ran) → IsAssembled bytes r → IsAssembled bytes s → Alike r s
assembled_alike one never bytes r s (asm.IsAssembled.assembled m h f) (asm.IsAssembled.assembled n g k) =
    (ap (λ (x : Module). line (encode_lower (canon x))) (one bytes m n h g), refl)
assembled_alike one never bytes r s (asm.IsAssembled.assembled m h f) (asm.IsAssembled.too_long n g long) =
    absurd (long (subst FitsLimits (one bytes m n h g) f))
assembled_alike one never bytes r s (asm.IsAssembled.assembled m h f) (asm.IsAssembled.no_module e g) =
    absurd (never bytes m e h g)
assembled_alike one never bytes r s (asm.IsAssembled.too_long m h long) (asm.IsAssembled.assembled n g f) =
    absurd (long (subst FitsLimits (one bytes n m g h) f))
assembled_alike one never bytes r s (asm.IsAssembled.no_module e h) (asm.IsAssembled.assembled n g f) =
    absurd (never bytes n e g h)
assembled_alike one never bytes r s _ _ =
    (refl, refl)

pub checked_alike : OneModule → Either → (bytes : List ℕ) (list : Bool) (r s : Ran) → IsChecked bytes list r
    → IsChecked bytes list s → Alike r s
checked_alike one never bytes list r s (check.IsChecked.valid m h v) (check.IsChecked.valid n g w) =
    (ap (λ (x : Module). line (codes "ok") ++ list_if list x) (one bytes m n h g), refl)
checked_alike one never bytes list r s (check.IsChecked.valid m h v) (check.IsChecked.invalid n at g fault) =
    absurd (fault_not_valid n at fault (subst ValidModule (one bytes m n h g) v))
checked_alike one never bytes list r s (check.IsChecked.valid m h v) (check.IsChecked.no_module e g) =
    absurd (never bytes m e h g)
checked_alike one never bytes list r s (check.IsChecked.invalid m at h fault) (check.IsChecked.valid n g v) =
    absurd (fault_not_valid m at fault (subst ValidModule (one bytes n m g h) v))
checked_alike one never bytes list r s (check.IsChecked.no_module e h) (check.IsChecked.valid n g v) =
    absurd (never bytes n e g h)
checked_alike one never bytes list r s _ _ =
    (refl, refl)

-- ---- the end of a task

abbrev pub HaltedStays : Type 0
HaltedStays = (p : Program) (k n : ℕ) (c : Configuration) → is_halted c.state ≡ true → from p k c n ≡ c

abbrev pub CutsCommute : Type 0
CutsCommute = (p : Program) (k a b : ℕ) (c : Configuration) → from p k c (a + b) ≡ from p (k + a) (from p k c a) b

none_or : (b : Bool) (e d : End) → cond b (Some e) None ≡ Some d → b ≡ true
none_or true e d h = refl
none_or false e d h = absurd cc

has_halted : (s : State) (e : End) → ended s ≡ Some e → is_halted s ≡ true
has_halted (running t) e h = none_or (is_empty t) ends.Returned e h
has_halted (exited n) e h = refl
has_halted (trapped t) e h = refl
has_halted stuck e h = absurd cc

total : (a b : ℕ) → ((k : ℕ) × (b ≡ a + k)) ⊎ ((k : ℕ) × (a ≡ b + k))
total zero b = inl (b, omega arith)
total (suc a) zero = inr (suc a, omega arith)
total (suc a) (suc b) = up (total a b)
  where
    up : ((k : ℕ) × (b ≡ a + k)) ⊎ ((k : ℕ) × (a ≡ b + k))
        → ((k : ℕ) × (suc b ≡ suc a + k)) ⊎ ((k : ℕ) × (suc a ≡ suc b + k))
    up (inl (k, e)) = inl (k, omega (arith, e))
    up (inr (k, e)) = inr (k, omega (arith, e))

stays : HaltedStays → CutsCommute → (m : Module) (p : ProcessConfig) (a b k : ℕ) (e : End)
    → ended (after m p a).state ≡ Some e → b ≡ a + k → after m p b ≡ after m p a
stays halted cuts m p a b k e h is =
    ap (λ n. after m p n) is ∙ (cuts (program m p) 0 a k (initial m p)
    ∙ halted (program m p) (0 + a) k (after m p a) (has_halted (after m p a).state e h))

-- two numbers of turns that have come to an end have come to the same configuration
pub one_end : HaltedStays → CutsCommute → (m : Module) (p : ProcessConfig) (a b : ℕ) (d e : End)
    → ended (after m p a).state ≡ Some d → ended (after m p b).state ≡ Some e → after m p a ≡ after m p b
one_end halted cuts m p a b d e h g = by_order (total a b)
  where
    by_order : ((k : ℕ) × (b ≡ a + k)) ⊎ ((k : ℕ) × (a ≡ b + k)) → after m p a ≡ after m p b
    by_order (inl (k, is)) = sym (stays halted cuts m p a b k d h is)
    by_order (inr (k, is)) = stays halted cuts m p b a k e g is

same_some : {A : Type 0} (x y : A) → Some x ≡ Some y → x ≡ y
same_some x y h = cc

ends_alike : OneModule → HaltedStays → CutsCommute → (bytes : List ℕ) (given : Given) (m n : Module) (r s : Ran)
    → IsSource bytes m → IsSource bytes n → HasEnded m (process_given given) r → HasEnded n (process_given given) s
    → r ≡ s
ends_alike one halted cuts bytes given m n r s from_m from_n h g = by_module (one bytes n m from_n from_m)
  where
    p : ProcessConfig
    p = process_given given

    at :
        (y : Module) (k : ℕ) (e : End) → ended (after y p k).state ≡ Some e → y ≡ m → ended (after m p k).state ≡ Some e
    at y k e x is = subst (λ (z : Module). ended (after z p k).state ≡ Some e) is x

    by_module : n ≡ m → r ≡ s
    by_module is =
        let there = at n g.turns g.end g.ends is in
        let same = one_end halted cuts m p h.turns g.turns h.end g.end h.ends there in
        let end : h.end ≡ g.end =
        same_some h.end g.end (sym h.ends ∙ (ap (λ (c : Configuration). ended c.state) same ∙ there)) in
        h.is ∙ (ap (λ (c : Configuration). ran_to c.store h.end) same
        ∙ (ap (λ (e : End). ran_to (after m p g.turns).store e) end
        ∙ (ap (λ (y : Module). ran_to (after y p g.turns).store g.end) (sym is) ∙ sym g.is)))

-- a module of which a task can be made is not refused
no_refusal : OneModule → Either → (bytes : List ℕ) (given : Given) (n : Module) (e : Refusal) → CanRun bytes given n
    → CannotRun bytes given e → ⊥
no_refusal one never bytes given n e runs (task.CannotRun.no_module x none) = never bytes n x runs.source none
no_refusal one never bytes given n e runs (task.CannotRun.bad_arguments m h bad) = both runs.arguments bad
no_refusal one never bytes given n e runs (task.CannotRun.invalid m at h had fault) =
    fault_not_valid m at fault (subst ValidModule (one bytes n m runs.source h) runs.valid)
no_refusal one never bytes given n e runs (task.CannotRun.not_instantiated m x h had ok refused) =
    let here =
    subst (λ (y : Module). instantiation_refusal y (process_given given) ≡ None)
    (one bytes n m runs.source h) runs.opens
    in
    let clash : None ≡ Some x = sym here ∙ refused in
    absurd cc

pub run_alike : OneModule → Either → HaltedStays → CutsCommute → (bytes : List ℕ) (given : Given) (r s : Ran)
    → IsRun bytes given r → IsRun bytes given s → Alike r s
run_alike one never halted cuts bytes given r s (task.IsRun.ran m x runs h) (task.IsRun.ran n y goes g) =
    let same = ends_alike one halted cuts bytes given m n x y runs.source goes.source h g in
    (ap (λ (z : Ran). z.out) same, ap (λ (z : Ran). z.status) same)
run_alike one never halted cuts bytes given r s (task.IsRun.ran m x runs h) (task.IsRun.no_task e g) =
    absurd (no_refusal one never bytes given m e runs g)
run_alike one never halted cuts bytes given r s (task.IsRun.no_task e g) (task.IsRun.ran m x runs h) =
    absurd (no_refusal one never bytes given m e runs g)
run_alike one never halted cuts bytes given r s (task.IsRun.no_task e h) (task.IsRun.no_task d g) = (refl, refl)

pub task_checked_alike :
    OneModule → Either → (bytes : List ℕ) (given : Given) (list : Bool) (r s : Ran) → IsTaskChecked bytes given list r
    → IsTaskChecked bytes given list s → Alike r s
task_checked_alike one never bytes given list r s (check.IsTaskChecked.task m h) (check.IsTaskChecked.task n k) =
    (ap (λ (x : Module). line (codes "ok") ++ list_if list x) (one bytes m n h.source k.source), refl)
task_checked_alike one never bytes given list r s (check.IsTaskChecked.task m h) (check.IsTaskChecked.no_task e why) =
    absurd (no_refusal one never bytes given m e h why)
task_checked_alike one never bytes given list r s (check.IsTaskChecked.no_task e why) (check.IsTaskChecked.task m h) =
    absurd (no_refusal one never bytes given m e h why)
task_checked_alike one never bytes given list r s (check.IsTaskChecked.no_task e h) (check.IsTaskChecked.no_task d k) =
    (refl, refl)
