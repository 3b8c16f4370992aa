-- What files in memory hold.
use Rattle.std.specs.Prelude.{◌≡◌, ◌⊎◌, ℕ, Contains, List, [], ◌∷◌, Option, Some, None, cond, string_bytes, bytes_eq}
use Rattle.spx_text.specs.declared.memory_files.HeldFile.{HeldFile}
use Rattle.spx_text.specs.declared.memory_files.MemFiles.{MemFiles}

-- the bytes of the first file of this name
abbrev pub bytes_held : List HeldFile → List ℕ → Option (List ℕ)
bytes_held [] name = None
bytes_held (file ∷ files) name = cond (bytes_eq (string_bytes file.name) name) (Some file.bytes.items) (bytes_held files name)

-- the call stands in the list of those that are to fail, or the name is not held
abbrev pub IsToFail : MemFiles → List ℕ → Type 0
IsToFail files name = Contains files.failing.items files.calls ⊎ (bytes_held files.held.items name ≡ None)
