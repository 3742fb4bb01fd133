-- A machine that reads one token at a time and keeps what is still owed.
use Rattle.std.proofs.Common.{◌≡◌, ℕ, suc, ◌-◌, nat_lt, Bool, true, false, if◌then◌else◌, List, [], ◌∷◌, ◌++◌, length, take, drop, Option, Some, None, Result, Ok, Err, refl, ◌∙◌, ap, arith}
use Rattle.std.proofs.lemmas.Bool.Decides.{leb_tells}
use Rattle.sq_lexer.specs.declared.token.Token.{Token}
use Rattle.sq_lexer.specs.declared.token.Kind.{Kind}
use Rattle.sq_patterns.specs.declared.pattern.Pattern.{Pattern}
use Rattle.sq_patterns.specs.declared.pattern.Pattern.TheVariants as s
use Rattle.sq_patterns.specs.declared.cursor.ReadError.{ReadError}
use Rattle.sq_patterns.specs.declared.cursor.ReadError.TheVariants.{Syntax}
use Rattle.sq_patterns.specs.Patterns.{fits}
use Rattle.sq_patterns.specs.Reading.{Outcome, front, fitting, all}

-- What is owed: a token, or what the next token decides at a point of the grammar. A list that ends with a token owes
-- it in its point.
pub data Owed (P : Type 0) : Type 0 where
  Want : Pattern → Owed P
  At : P → Owed P

-- The ways on from a point: the first whose pattern fits is taken, and behind its token this is owed.
pub data Ways (P : Type 0) : Type 0 where
  By : Pattern → List (Owed P) → Ways P
  Or : Pattern → List (Owed P) → Ways P → Ways P

abbrev pub wants : {P : Type 0} → List Pattern → List (Owed P) → List (Owed P)
wants [] K = K
wants (s ∷ patterns) K = Want s ∷ wants patterns K

-- after the end nothing is owed
abbrev pub behind : {P : Type 0} → Pattern → List (Owed P) → List (Owed P)
behind s.End K = []
behind _ K = K

abbrev pub token_of : {P : Type 0} → Pattern → List (Owed P) → Kind → Option (List (Owed P))
token_of s K t = if fits s t then Some (behind s K) else None

abbrev pub way_of : {P : Type 0} → Ways P → List (Owed P) → Kind → Option (List (Owed P))
way_of (By s os) K t = token_of s (os ++ K) t
way_of (Or s os more) K t = if fits s t then token_of s (os ++ K) t else way_of more K t

abbrev pub Verdict : Type 0
Verdict = Result (Unit {0}) ReadError

abbrev pub ended : {P : Type 0} → List (Owed P) → Verdict
ended [] = Ok tt
ended (o ∷ K) = Err (Syntax 0)

abbrev pub moved : {P : Type 0} → Option (List (Owed P)) → ℕ → (List (Owed P) → Verdict) → Verdict
moved None left go = Err (Syntax left)
moved (Some K) left go = go K

-- `ways` is the grammar: the ways on from each of its points.
module _ {P : Type 0} (ways : P → Ways P) where
  -- what is owed after one token
  abbrev pub settle : List (Owed P) → Kind → Option (List (Owed P))
  settle [] t = None
  settle (Want s ∷ K) t = token_of s K t
  settle (At p ∷ K) t = way_of (ways p) K t

  abbrev pub run : List Token → List (Owed P) → Verdict
  run [] K = ended K
  run (t ∷ ts) K = moved (settle K t.kind) (length (t ∷ ts)) (run ts)

  -- the machine after a reader
  abbrev pub resume : {A : Type 0} → Outcome A → List (Owed P) → Verdict
  resume (Ok p) K = run p.1 K
  resume (Err e) K = Err e

-- ---- tokens of given patterns

abbrev pub with_token : Token → Outcome (List Token) → Outcome (List Token)
with_token t (Ok p) = Ok (t ∷ p.0, p.1)
with_token t (Err e) = Err e

lt_suc : (a b : ℕ) → nat_lt (suc a) (suc b) ≡ nat_lt a b
lt_suc a b = grind (arith, leb_tells)

front_or : (b : Bool) (c : ℕ) (t : Token) (i : List Token)
    → (if b then Err (Syntax (length (t ∷ i) - suc c)) else Ok (take (suc c) (t ∷ i), drop (suc c) (t ∷ i))) ≡ with_token t (if b then Err (Syntax (length i - c)) else Ok (take c i, drop c i))
front_or true c t i = let e : length (t ∷ i) - suc c ≡ length i - c = omega arith in ap (λ n. Err (Syntax n)) e
front_or false c t i = refl

front_suc : (w c : ℕ) (t : Token) (i : List Token) → front (suc w) (suc c) (t ∷ i) ≡ with_token t (front w c i)
front_suc w c t i =
    ap (λ b. if b then Err (Syntax (length (t ∷ i) - suc c)) else Ok (take (suc c) (t ∷ i), drop (suc c) (t ∷ i))) (lt_suc c w) ∙ front_or (nat_lt c w) c t i

pub all_fits : (pattern : Pattern) (patterns : List Pattern) (t : Token) (ts : List Token) → fits pattern t.kind ≡ true → all (pattern ∷ patterns) (t ∷ ts) ≡ with_token t (all patterns ts)
all_fits pattern patterns t ts e =
    ap (λ b. front (length (pattern ∷ patterns)) (if b then suc (fitting patterns ts) else 0) (t ∷ ts)) e ∙ front_suc (length patterns) (fitting patterns ts) t ts

pub all_fails : (pattern : Pattern) (patterns : List Pattern) (t : Token) (ts : List Token) → fits pattern t.kind ≡ false → all (pattern ∷ patterns) (t ∷ ts) ≡ Err (Syntax (length (t ∷ ts)))
all_fails pattern patterns t ts e =
    let none : nat_lt 0 (length (pattern ∷ patterns)) ≡ true = grind (arith, leb_tells) in
    let whole : length (t ∷ ts) - 0 ≡ length (t ∷ ts) = omega arith in
    ap (λ b. front (length (pattern ∷ patterns)) (if b then suc (fitting patterns ts) else 0) (t ∷ ts)) e
    ∙ ap (λ b. if b then Err (Syntax (length (t ∷ ts) - 0)) else Ok (take 0 (t ∷ ts), drop 0 (t ∷ ts))) none ∙ ap (λ n. Err (Syntax n)) whole

pub all_ended : (pattern : Pattern) (patterns : List Pattern) → all (pattern ∷ patterns) [] ≡ Err (Syntax 0)
all_ended pattern patterns =
    let none : nat_lt 0 (length (pattern ∷ patterns)) ≡ true = grind (arith, leb_tells) in
    let whole : length {A = Token} [] - 0 ≡ 0 = omega arith in
    ap (λ b. if b then Err (Syntax (length {A = Token} [] - 0)) else Ok (take 0 [], drop 0 [])) none ∙ ap (λ n. Err (Syntax n)) whole
