-- What the reader gives, as a function on lists of tokens. No public clause speaks of it.
use Rattle.std.specs.Prelude.{List, [], ◌∷◌, length}
use Rattle.std.specs.List.{slice_get}
use Rattle.sq_lexer.specs.declared.token.Sign.TheVariants as g
use Rattle.sq_patterns.specs.declared.pattern.Pattern.{Pattern}
use Rattle.sq_patterns.specs.declared.pattern.Pattern.TheVariants as s
use Rattle.sq_patterns.specs.Reading.{Reader, ◌>>=◌, pure, all, until, finish, word_in, numeral_in, place_in}
use Rattle.sq_costs.specs.declared.text.EntryText.{EntryText}
use Rattle.sq_costs.specs.declared.text.CostText.{CostText}

abbrev pub head_patterns : List Pattern
head_patterns = s.Cost ∷ s.Exactly 1 ∷ s.Sign g.Semi ∷ []

abbrev pub entry_patterns : List Pattern
entry_patterns =
    s.Level ∷ s.AnyWord ∷ s.Sign g.BraceOpen ∷ s.Row ∷ s.AnyNumber ∷ s.Sign g.Semi ∷ s.Byte ∷ s.AnyNumber ∷ s.Sign g.Semi ∷ s.Leaf ∷ s.AnyNumber ∷ s.Sign g.Semi
    ∷ s.Sign g.BraceClose ∷ []

abbrev pub entry : Reader EntryText
entry = do
  read ← all entry_patterns
  pure (record {
    name = word_in (slice_get read 1);
    row = numeral_in (slice_get read 4);
    byte = numeral_in (slice_get read 7);
    leaf = numeral_in (slice_get read 10);
  })

-- an entry that was read, and those up to the end
unfoldable pub entries_from : EntryText → Reader (List EntryText)
entries_from first = λ i. until s.End entry (length i) (first ∷ []) i

unfoldable pub cost : Reader CostText
cost = do
  head ← all head_patterns
  first ← entry
  entries ← entries_from first
  end ← all (s.End ∷ [])
  finish (record { entries = entries; end = place_in (slice_get end 0) })
