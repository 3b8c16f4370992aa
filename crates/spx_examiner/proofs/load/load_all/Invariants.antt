use Rattle.std.proofs.Common.{◌≡◌, ◌++◌, ℕ, List, take}
use Rattle.std.specs.List.{All}
use Rattle.spx_text.specs.Loads.{names}
use Rattle.spx_examiner.specs.Causes.{IsShort, MayHold, contents_of}
use Rattle.spx_examiner.proofs.load.load_all.Given as goal

abbrev pub invariant-loop-word : goal.invariant-loop-word
invariant-loop-word g l = record {
  known : (name : List ℕ) → g.F.Files.known l.files name ≡ g.F.Files.known l.initial.files name;
  asked : g.F.Files.asked l.files ≡ g.F.Files.asked l.initial.files ++ names (take l.word-index l.words);
  short : All (IsShort (g.F.Files.known l.initial.files)) (names (take l.word-index l.words));
  failed : g.F.Files.failed l.files ≡ g.F.Files.failed l.initial.files;
  loaded : MayHold (g.F.Files.known l.initial.files) (names (take l.word-index l.words)) (contents_of l.loaded.items);
}
