-- Which accesses of a form race in a run of one of its maps.
use Rattle.std.specs.Prelude.{ℕ, ◌+◌, Bool, true, false, not, ◌&&◌, ◌||◌, ◌==◌, nat_lt, nat_le, List, [], ◌∷◌, take, slice_get, Option, Some, None}
use Rattle.std.specs.Str.{bytes_eq}
use Rattle.sq_text.specs.declared.place.Span.{Span}
use Rattle.sq_ast.specs.Modes.{is_written}
use Rattle.sq_race.specs.Blocks.{whole_span, span_overlaps, span_covers}
use Rattle.sq_race.specs.declared.block.Block.{Block}
use Rattle.sq_forms.specs.declared.form.Use.{Use}
use Rattle.sq_race.specs.declared.map.Map.{Map}

abbrev pub reduces : Option ℕ → ℕ → Bool
reduces None arg = false
reduces (Some this) arg = this == arg

-- the access is one of the map: of a call in it, and not its reduced array
abbrev pub counts : Map → Use → Bool
counts m u = nat_le m.calls.lo u.call && nat_lt u.call m.calls.hi && not (reduces m.reduced u.arg)

abbrev pub alike : ℕ → List ℕ → List ℕ → Bool
alike n a b = bytes_eq (take n a) (take n b)

abbrev pub same_run : Map → Use → Use → Bool
same_run m a b = alike m.depth a.iterations b.iterations

abbrev pub same_iteration : Map → Use → Use → Bool
same_iteration m a b = alike (m.depth + 1) a.iterations b.iterations

abbrev pub or_all : Option Span → Span
or_all None = whole_span
or_all (Some s) = s

abbrev pub block_of : List Span → Block
block_of rect = record { first = or_all (slice_get rect 0); second = or_all (slice_get rect 1); third = or_all (slice_get rect 2) }

-- a number lies in both spans of each dimension
abbrev pub shares : List Span → List Span → Bool
shares [] [] = true
shares [] (t ∷ b) = false
shares (s ∷ a) [] = false
shares (s ∷ a) (t ∷ b) = span_overlaps s t && shares a b

abbrev pub clash : Use → Use → Bool
clash a b = a.array == b.array && (is_written a.mode || is_written b.mode) && shares a.rect b.rect

abbrev pub races : Map → Use → Use → Bool
races m a b = counts m a && counts m b && same_run m a b && not (same_iteration m a b) && clash a b

-- each span of the second lies in that of the first
abbrev pub contains : List Span → List Span → Bool
contains [] [] = true
contains [] (t ∷ b) = false
contains (s ∷ a) [] = false
contains (s ∷ a) (t ∷ b) = span_covers s t && contains a b

-- the known access is of the run of this one, has its block, and writes if it does
abbrev pub stands_for : Map → Use → Use → Bool
stands_for m known this =
    counts m known && same_run m known this && known.array == this.array && (is_written known.mode || not (is_written this.mode)) && contains known.rect this.rect

-- what races with the last would race with one of the two
abbrev pub settles : Map → Use → Use → Use → Bool
settles m one two this =
    stands_for m one this && stands_for m two this && (not (same_iteration m one two) || same_iteration m one this)
