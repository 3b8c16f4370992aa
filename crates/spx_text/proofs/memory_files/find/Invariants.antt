use Rattle.std.proofs.Common.{◌≡◌, drop}
use Rattle.spx_text.specs.Held.{bytes_held}
use Rattle.spx_text.proofs.memory_files.find.Given as goal

abbrev pub invariant-loop-file : goal.invariant-loop-file
invariant-loop-file l = bytes_held l.held l.name ≡ bytes_held (drop l.file-index l.held) l.name
