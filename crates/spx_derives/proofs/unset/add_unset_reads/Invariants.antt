use Rattle.std.proofs.Common.{◌≡◌, ◌++◌, drop, map}
use Rattle.spx_derives.specs.Tables.{unset_read}
use Rattle.spx_derives.proofs.unset.add_unset_reads.Given as goal

abbrev pub invariant-loop-place : goal.invariant-loop-place
invariant-loop-place l = l.found.items ++ map unset_read (drop l.place-index l.reads) ≡ l.initial.found.items ++ map unset_read l.reads
