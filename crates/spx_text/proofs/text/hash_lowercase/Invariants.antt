use Rattle.std.proofs.Common.{◌≡◌, drop, map}
use Rattle.std.specs.Prelude.{fold}
use Rattle.std.specs.Str.{str_to_ascii_lowercase}
use Rattle.spx_text.proofs.text.hash_lowercase.Given as goal

abbrev pub invariant-loop-piece : goal.invariant-loop-piece
invariant-loop-piece g l =
    fold g.H.Hasher.write l.state (map str_to_ascii_lowercase (drop l.piece-index l.whole)) ≡ fold g.H.Hasher.write l.initial.state (map str_to_ascii_lowercase l.whole)
