use Rattle.std.proofs.Common.{refl, arith, codes}
use Rattle.std.specs.Fmt.{digits}
use Rattle.std.specs.Str.{is_utf8, chars}
use Rattle.std.proofs.lemmas.Str.{IsUtf8-from_is_utf8}
use Rattle.hex.proofs.OnLiterals.{hex_on_literals}
use Rattle.serde_json.proofs.OnLiterals.{serde_json_on_literals}
use Rattle.request_lines.proofs.laws.examples.Goals as goal

pub returns-clause-put : goal.returns-clause-put
unfolding serde_json_on_literals hex_on_literals is_utf8 chars
returns-clause-put c = record {
  value = _;
  reads =
      record {
        short = omega arith;
        utf8 = IsUtf8-from_is_utf8 (codes "{\"op\":\"put\",\"hex\":\"00fF\"}") refl;
        value = refl;
      };
  asks = (_, refl, (_, refl, refl));
}

pub returns-clause-twice : goal.returns-clause-twice
unfolding serde_json_on_literals is_utf8 chars
returns-clause-twice c = record {
  value = _;
  reads =
      record {
        short = omega arith;
        utf8 = IsUtf8-from_is_utf8 (codes "{\"op\":\"start\",\"id\":\"a\",\"op\":\"state\"}") refl;
        value = refl;
      };
  asks = (_, refl, refl);
}

pub returns-clause-take : goal.returns-clause-take
unfolding serde_json_on_literals is_utf8 chars
returns-clause-take c = record {
  value = _;
  reads =
      record {
        short = omega arith;
        utf8 = IsUtf8-from_is_utf8 (codes "{\"op\":\"take\",\"id\":\"a\",\"budget\":100}") refl;
        value = refl;
      };
  asks = (_, refl, (refl, omega arith, omega arith));
}

pub returns-clause-stopped : goal.returns-clause-stopped
unfolding serde_json_on_literals digits
returns-clause-stopped c = refl

pub returns-clause-lease : goal.returns-clause-lease
unfolding serde_json_on_literals is_utf8 chars
returns-clause-lease c = record {
  value = _;
  reads =
      record {
        short = omega arith;
        utf8 = IsUtf8-from_is_utf8 (codes "{\"op\":\"lease_add\",\"id\":\"l\",\"digest\":\"d\"}") refl;
        value = refl;
      };
  asks = (_, refl, refl);
}

pub returns-clause-removed : goal.returns-clause-removed
unfolding serde_json_on_literals digits
returns-clause-removed c = refl

pub returns-clause-output : goal.returns-clause-output
unfolding serde_json_on_literals is_utf8 chars
returns-clause-output c = record {
  value = _;
  reads =
      record {
        short = omega arith;
        utf8 = IsUtf8-from_is_utf8 (codes "{\"op\":\"output\",\"id\":\"a\",\"stream\":1}") refl;
        value = refl;
      };
  asks = (_, refl, refl);
}

pub returns-clause-written : goal.returns-clause-written
unfolding serde_json_on_literals hex_on_literals digits
returns-clause-written c = refl

pub returns-clause-text : goal.returns-clause-text
unfolding serde_json_on_literals is_utf8 chars
returns-clause-text c = record {
  value = _;
  reads =
      record {
        short = omega arith;
        utf8 = IsUtf8-from_is_utf8 (codes "{\"op\":\"put_text\",\"text\":\"(module\\n)\"}") refl;
        value = refl;
      };
  asks = (_, refl, refl);
}

pub returns-clause-fault : goal.returns-clause-fault
unfolding serde_json_on_literals digits
returns-clause-fault c = refl

pub returns-clause-break_line : goal.returns-clause-break_line
unfolding serde_json_on_literals is_utf8 chars
returns-clause-break_line c = record {
  value = _;
  reads =
      record {
        short = omega arith;
        utf8 = IsUtf8-from_is_utf8 (codes "{\"op\":\"break\",\"id\":\"a\",\"func\":2,\"place\":0}") refl;
        value = refl;
      };
  asks = (_, refl, refl);
}

pub returns-clause-step : goal.returns-clause-step
unfolding serde_json_on_literals is_utf8 chars
returns-clause-step c = record {
  value = _;
  reads =
      record {
        short = omega arith;
        utf8 = IsUtf8-from_is_utf8 (codes "{\"op\":\"step\",\"id\":\"a\",\"count\":10}") refl;
        value = refl;
      };
  asks = (_, refl, refl);
}

pub returns-clause-peek : goal.returns-clause-peek
unfolding serde_json_on_literals is_utf8 chars
returns-clause-peek c = record {
  value = _;
  reads =
      record {
        short = omega arith;
        utf8 = IsUtf8-from_is_utf8 (codes "{\"op\":\"peek\",\"id\":\"a\",\"address\":16,\"length\":4}") refl;
        value = refl;
      };
  asks = (_, refl, refl);
}

pub returns-clause-shown : goal.returns-clause-shown
unfolding serde_json_on_literals hex_on_literals digits
returns-clause-shown c = refl

pub returns-clause-inspect : goal.returns-clause-inspect
unfolding serde_json_on_literals is_utf8 chars
returns-clause-inspect c = record {
  value = _;
  reads =
      record {
        short = omega arith;
        utf8 = IsUtf8-from_is_utf8 (codes "{\"op\":\"inspect\",\"id\":\"a\"}") refl;
        value = refl;
      };
  asks = (_, refl, refl);
}

pub returns-clause-frames : goal.returns-clause-frames
unfolding serde_json_on_literals digits
returns-clause-frames c = refl
