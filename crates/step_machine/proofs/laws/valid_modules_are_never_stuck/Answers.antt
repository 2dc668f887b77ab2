use Rattle.step_machine.proofs.Soundness.{never_stuck}
use Rattle.step_machine.proofs.laws.valid_modules_are_never_stuck.Goals as goal

pub returns : goal.returns
returns c m p n valid ranged bytes args env few accepted =
    never_stuck m p valid ranged bytes (record { args = args; env = env }) few accepted n
