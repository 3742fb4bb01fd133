-- Tokens before what is read already: words, numbers and signs, each with its level.
use Rattle.std.proofs.Common.{◌≡◌, ℕ, ◌^◌, ◌<◌, ◌≤◌, Bool, true, false, ◌||◌, List, [], ◌∷◌, ◌++◌, pos, Some, refl, sym, subst, arith, codes}
use Rattle.std.specs.Fmt.{decimal}
use Rattle.sq_text.specs.declared.place.Place.{Place}
use Rattle.sq_lexer.specs.declared.token.Kind.TheVariants as t
use Rattle.sq_lexer.specs.declared.token.Sign.{Sign}
use Rattle.sq_lexer.specs.Bytes.{is_blank, is_letter, is_digit, first_is}
use Rattle.sq_lexer.specs.Signs.{spelling}
use Rattle.sq_lexer.specs.Tokens.{Stands, a_word, a_number, a_sign}
use Rattle.sq_ast.proofs.Alone.{Alone, alone, closed, closes, is_quiet, quiet_where, NoneOf, seconds}
use Rattle.sq_ast.proofs.Numerals.{numeral, Numeral}
use Rattle.sq_ast.proofs.Fronts.{Ends}
use Rattle.sq_plantext.specs.Grammar.{Phrase, Derives, Leveled, at, word, number, sign, tokens_of, Within}
use Rattle.sq_layout_laws.specs.Readable.{IsWord, IsShort}
use Rattle.sq_layout_laws.proofs.Backwards.{Reads, the_end, a_gap, a_token}

no_second : (a b : Bool) → (a || b) ≡ false → b ≡ false
no_second true b h = absurd (cc)
no_second false b h = h

ends_number : (rest : List ℕ) → Ends rest → first_is is_digit rest ≡ false
ends_number [] ends = refl
ends_number (b ∷ rest) ends = no_second (is_letter b) (is_digit b) ends

numeral_of : (n : ℕ) → IsShort n → Numeral n (decimal n)
numeral_of n small = numeral n (omega arith)

digits_stand : (m : ℕ) (ds rest : List ℕ) → Numeral m ds → IsShort m → Ends rest → Stands ds rest (Some (t.Number (pos m)))
digits_stand m ds rest h small ends =
    subst (λ n. Stands ds rest (Some (t.Number (pos n)))) h.value
    (a_number h.some h.all (ends_number rest ends) (subst (λ n. n < 2 ^ 63) (sym h.value) small))

-- ---- what goes on with no sign

quiet_front : (test : ℕ → Bool) (w later : List ℕ) → NoneOf test seconds → first_is test w ≡ true → first_is is_quiet (w ++ later) ≡ true
quiet_front test [] later free h = absurd (cc)
quiet_front test (b ∷ w) later free h = quiet_where test b free h

quiet_number : (n : ℕ) (later : List ℕ) → IsShort n → first_is is_quiet (decimal n ++ later) ≡ true
quiet_number n later h = quiet_front is_digit (decimal n) later (refl, (refl, (refl, (refl, (refl, (refl, (refl, (refl, (refl, tt))))))))) (numeral_of n h).some

before_quiet : (s : Sign) (text : List ℕ) → first_is is_quiet text ≡ true → Alone s text
before_quiet s [] h = absurd (cc)
before_quiet s (b ∷ text) h = alone s b text h

pub before_number : (s : Sign) (n : ℕ) (later : List ℕ) → IsShort n → Alone s (decimal n ++ later)
before_number s n later h = before_quiet s (decimal n ++ later) (quiet_number n later h)

-- ---- what is read already, with its levels

pub record Ready (placing : List ℕ → Place) (most : ℕ) (text : List ℕ) : Type 0 where
  pub from : List Leveled
  pub within : Within most from
  pub reads : Reads placing text (tokens_of from)

-- The text has tokens of this phrase, and then those that are left.
pub record Told (placing : List ℕ → Place) (most : ℕ) (phrase : Phrase) (text : List ℕ) (left : List Leveled) : Type 0 where
  pub ready : Ready placing most text
  pub derived : Derives phrase ready.from left

-- The same of a phrase that is the goal, but for its places.
pub record Spelled (placing : List ℕ → Place) (most : ℕ) {A B : Type 0} (strip : A → B) (phrase : A → Phrase) (goal : B) (text : List ℕ) (left : List Leveled) : Type 0 where
  pub tree : A
  pub same : strip tree ≡ goal
  pub ready : Ready placing most text
  pub derived : Derives (phrase tree) ready.from left

module _ (placing : List ℕ → Place) (most : ℕ) where
  abbrev pub nothing : Ready placing most []
  nothing = record { from = at t.End (placing []) 0 ∷ []; within = (omega arith, tt); reads = the_end }

  abbrev pub gap : (b : ℕ) → is_blank b ≡ true → (rest : List ℕ) → Ready placing most rest → Ready placing most (b ∷ rest)
  gap b blank rest r = record { from = r.from; within = r.within; reads = a_gap blank r.reads }

  abbrev pub space : (rest : List ℕ) → Ready placing most rest → Ready placing most (codes " " ++ rest)
  space rest r = gap 32 refl rest r

  abbrev pub line : (rest : List ℕ) → Ready placing most rest → Ready placing most (codes "\n" ++ rest)
  line rest r = gap 10 refl rest r

  abbrev pub worded : (w : List ℕ) (d : ℕ) → d ≤ most → IsWord w → (rest : List ℕ) → Ends rest → Ready placing most rest → Ready placing most (w ++ rest)
  worded w d le h rest ends r = record {
    from = word w (placing (w ++ rest)) d ∷ r.from;
    within = (le, r.within);
    reads = a_token (a_word h.letter h.inside ends) r.reads;
  }

  abbrev pub marked : (s : Sign) (d : ℕ) → d ≤ most → (rest : List ℕ) → Alone s rest → Ready placing most rest → Ready placing most (spelling s ++ rest)
  marked s d le rest h r = record {
    from = sign s (placing (spelling s ++ rest)) d ∷ r.from;
    within = (le, r.within);
    reads = a_token (a_sign h.longest h.plain) r.reads;
  }

  abbrev pub shut : (s : Sign) → closes (spelling s) ≡ true → (d : ℕ) → d ≤ most → (rest : List ℕ) → Ready placing most rest → Ready placing most (spelling s ++ rest)
  shut s h d le rest r = marked s d le rest (closed s h rest) r

  pub number_reads : (n : ℕ) → IsShort n → (rest : List ℕ) → Ends rest → (r : Ready placing most rest)
      → Reads placing (decimal n ++ rest) ((number n (placing (decimal n ++ rest)) 0).token ∷ tokens_of r.from)
  number_reads n h rest ends r = a_token (digits_stand n (decimal n) rest (numeral_of n h) h ends) r.reads

  abbrev pub numbered : (n d : ℕ) → d ≤ most → IsShort n → (rest : List ℕ) → Ends rest → Ready placing most rest → Ready placing most (decimal n ++ rest)
  numbered n d le h rest ends r = record {
    from = number n (placing (decimal n ++ rest)) d ∷ r.from;
    within = (le, r.within);
    reads = number_reads n h rest ends r;
  }
