use Rattle.std.proofs.Common.{◌≡◌, length, take}
use Rattle.std.specs.Str.{str_to_ascii_lowercase}
use Rattle.spx_text.specs.declared.text.TheConstants.{PIECE}
use Rattle.spx_text.proofs.text.write_lowercase.Given as goal

abbrev pub invariant-loop-i : goal.invariant-loop-i
invariant-loop-i g l = record {
  same_room : length l.lower ≡ PIECE;
  filled : take l.i l.lower ≡ str_to_ascii_lowercase (take l.i l.bytes);
}
