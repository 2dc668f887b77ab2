use Rattle.std.proofs.Common.{◌≡◌, ◌+◌, ◌≤◌, drop}
use Rattle.oci_config.specs.Config.{bytes_of}
use Rattle.oci_config.proofs.texts.bytes_left.Given as goal

-- what those before take, what is left, and what the others take
abbrev pub invariant-loop-text : goal.invariant-loop-text
invariant-loop-text l = record {
  within : l.left ≤ l.fn.most;
  split : bytes_of l.texts + l.left ≡ l.fn.most + bytes_of (drop l.text-index l.texts);
}
