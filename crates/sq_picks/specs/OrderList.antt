-- The numbers of an order list, or its first fault.
use Rattle.std.specs.Prelude.{◌≡◌, ℕ, ◌+◌, ◌-◌, ◌*◌, ◌<◌, nat_le, nat_lt, take, drop, get_or, Bool, true, ◌||◌, ◌&&◌, ◌==◌, List, [], ◌∷◌, ◌++◌, length, Option, Some, None, Result, Ok, Err, if◌then◌else◌}
use Rattle.std.specs.List.{fold, list_all}
use Rattle.sq_text.specs.declared.place.Place.{Place}
use Rattle.sq_text.specs.Limits.{most_data}
use Rattle.sq_text.specs.Places.{place_after}
use Rattle.sq_text.specs.declared.code.Code.{Code}
use Rattle.sq_text.specs.declared.code.Code.TheVariants as code
use Rattle.sq_text.specs.declared.code.Phase.TheVariants.{Order}
use Rattle.sq_text.specs.declared.fault.Fault.{Fault}
use Rattle.sq_text.specs.declared.fault.Stop.{Stop}
use Rattle.sq_text.specs.declared.fault.Stop.TheVariants.{Refused, NoMemory}
use Rattle.sq_picks.specs.declared.picks.Begun.{Begun}

-- ---- words

-- space, tab, CR, LF
abbrev pub is_blank : ℕ → Bool
is_blank b = b == 32 || b == 9 || b == 13 || b == 10

-- a word, with the place of its first byte
pub record Spotted : Type 0 where
  pub place : Place
  pub bytes : List ℕ

abbrev pub closed : Option Spotted → List Spotted → List Spotted
closed None rest = rest
closed (Some w) rest = w ∷ rest

-- with one more byte, which stands at this place
abbrev pub longer : Place → ℕ → Option Spotted → Spotted
longer p b None = record { place = p; bytes = b ∷ [] }
longer p b (Some w) = record { place = w.place; bytes = w.bytes ++ b ∷ [] }

-- the words of the text from a place on, of which one may have begun: those of ` 7 0x` from 1:1 on are 7 at 1:2 and 0x
-- at 1:4
abbrev pub words_from : Place → Option Spotted → List ℕ → List Spotted
words_from p begun [] = closed begun []
words_from p begun (b ∷ bs) =
    if is_blank b then closed begun (words_from (place_after p b) None bs) else words_from (place_after p b) (Some (longer p b begun)) bs

-- ---- numbers

abbrev pub is_digit : ℕ → Bool
is_digit b = nat_le 48 b && nat_le b 57

abbrev pub with_digit : ℕ → ℕ → ℕ
with_digit n b = 10 * n + (b - 48)

-- the number of digits: 3 and 7 are 37
abbrev pub number : List ℕ → ℕ
number = fold with_digit 0

abbrev pub fault_at : Code → Place → Fault
fault_at c p = record { phase = Order; code = c; place = Some p; args = [] }

-- a pick has 32 bits
abbrev pub pick_of : Spotted → Result ℕ Fault
pick_of w = if list_all is_digit w.bytes then (if nat_lt 4294967295 (number w.bytes) then Err (fault_at code.Range w.place) else Ok (number w.bytes)) else Err (fault_at code.Syntax w.place)

abbrev pub and_more : Result ℕ Fault → Result (List ℕ) Fault → Result (List ℕ) Fault
and_more (Ok n) (Ok ns) = Ok (n ∷ ns)
and_more (Ok n) (Err f) = Err f
and_more (Err f) rest = Err f

-- of all words, or the fault of the first that has one
abbrev pub picks_of : List Spotted → Result (List ℕ) Fault
picks_of [] = Ok []
picks_of (w ∷ ws) = and_more (pick_of w) (picks_of ws)

-- ---- files

abbrev pub too_long : Fault
too_long = record { phase = Order; code = code.LimitFile; place = None; args = [] }

-- the numbers of an order list in turn, or its first fault
abbrev pub order_list : List ℕ → Result (List ℕ) Fault
order_list text = if nat_lt most_data (length text) then Err too_long else picks_of (words_from (record { line = 1; col = 1 }) None text)

-- ---- what the code does

-- the numbers of the words before these
abbrev pub behind : List ℕ → Result (List ℕ) Fault → Result (List ℕ) Fault
behind ns (Ok ms) = Ok (ns ++ ms)
behind ns (Err f) = Err f

-- the word that has begun, where the text is read up to its i-th byte
abbrev pub begun_word : List ℕ → Option Begun → ℕ → Option Spotted
begun_word text None i = None
begun_word text (Some w) i = Some (record { place = w.place; bytes = take (i - w.from) (drop w.from text) })

-- it began before that byte
abbrev pub IsBegun : Option Begun → ℕ → Type 0
IsBegun None i = Unit {0}
IsBegun (Some w) i = w.from < i

-- with the number of a word that ends here
abbrev pub Closes : Result (Unit {0}) Stop → List ℕ → List ℕ → Option Spotted → Type 0
Closes (Ok x) old new word = (rest : List Spotted) → behind old (picks_of (closed word rest)) ≡ behind new (picks_of rest)
Closes (Err (Refused f)) old new word = (rest : List Spotted) → behind old (picks_of (closed word rest)) ≡ Err f
Closes (Err NoMemory) old new word = Unit {0}

-- what is left of the text from its i-th byte on, behind the numbers of the words before
abbrev pub left : List ℕ → ℕ → Place → Option Begun → List ℕ → Result (List ℕ) Fault
left text i p begun ns = behind ns (picks_of (words_from p (begun_word text begun i) (drop i text)))

-- with the word that has begun behind the i-th byte
abbrev pub Reads : List ℕ → ℕ → Place → Option Begun → (old new : List ℕ) → Result (Option Begun) Stop → Type 0
Reads text i p begun old new (Ok next) = IsBegun next (i + 1) × (left text i p begun old ≡ left text (i + 1) (place_after p (get_or text i 0)) next new)
Reads text i p begun old new (Err (Refused f)) = left text i p begun old ≡ Err f
Reads text i p begun old new (Err NoMemory) = Unit {0}

abbrev pub Gives : Result (List ℕ) Stop → Result (List ℕ) Fault → Type 0
Gives (Ok ns) wanted = wanted ≡ Ok ns
Gives (Err (Refused f)) wanted = wanted ≡ Err f
Gives (Err NoMemory) wanted = Unit {0}
