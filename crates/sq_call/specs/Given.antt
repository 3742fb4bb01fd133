-- Words and files that are handed in.
use Rattle.std.specs.Prelude.{ℕ, List, [], ◌∷◌, Bool, Option, Some, None, map, if◌then◌else◌}
use Rattle.std.specs.Borrow.{Bor}
use Rattle.std.specs.List.{list_all}
use Rattle.std.specs.Str.{bytes_eq, is_utf8}
use Rattle.sq_port.specs.Ports.{Content}
use Rattle.sq_words.specs.Words.{Command, command_of}
use Rattle.sq_call.specs.declared.handed.File.{File}

-- what each name holds: of two files of one name the first counts
abbrev pub content_of : List File → Content
content_of [] name = None
content_of (file ∷ rest) name = if bytes_eq file.name.now name then Some file.bytes.now else content_of rest name

abbrev pub bytes_of : List (Bor (List ℕ)) → List (List ℕ)
bytes_of words = map (λ w. w.now) words

abbrev pub are_texts : List (List ℕ) → Bool
are_texts words = list_all is_utf8 words

-- the command that the words are; where one is no UTF-8 they are none
abbrev pub command_in : List (List ℕ) → Option Command
command_in words = if are_texts words then command_of words else None
