-- The place of a fault of syntax: the first token with which no text begins.
use Rattle.std.proofs.Common.{◌≡◌, ℕ, zero, suc, ◌-◌, ◌≤◌, List, [], ◌∷◌, ◌++◌, length, take, drop, Option, Some, None, Ok, Err, refl, sym, ◌∙◌, ap, subst, arith, inl, inr, append_assoc, append-nil, length-append, take-append-drop}
use Rattle.std.proofs.lemmas.Bool.Decides.{leb_tells}
use Rattle.std.specs.List.{slice_get}
use Rattle.sq_lexer.specs.Text.declared.code.Phase.{Phase}
use Rattle.sq_lexer.specs.Text.declared.code.Code.TheVariants as code
use Rattle.sq_lexer.specs.Text.declared.fault.Fault.{Fault}
use Rattle.sq_lexer.specs.declared.token.Token.{Token}
use Rattle.sq_lexer.specs.declared.token.Kind.TheVariants as k
use Rattle.sq_lexer.specs.Tokens.{HasEnd}
use Rattle.sq_lexer.specs.Faults.{fault}
use Rattle.sq_patterns.specs.declared.cursor.ReadError.TheVariants.{NoMemory, Syntax}
use Rattle.sq_patterns.specs.Reading.{Outcome, Reader, place_in}
use Rattle.sq_patterns.specs.Texts.{BeginsText, SyntaxAt, IsSyntaxFault}
use Rattle.sq_patterns.proofs.Owing.{Owed, At, Ways, settle, moved, run, resume, ended, Verdict}
use Rattle.sq_patterns.proofs.Readings.{Reading, Gives, gives, followed}
use Rattle.sq_patterns.proofs.Ready.{end_after, completion, completed}

-- What a grammar gives, whose texts this reader reads.
pub record Format {T P : Type 0} (IsText : List Token → T → Type 0) (reader : Reader T) (ways : P → Ways P) : Type 0 where
  -- what a text owes
  pub start : List (Owed P)
  -- what is read is a text, and the machine goes on as the reader does
  pub reads : (ts : List Token) → Reading ways (length ts) start [] (λ x j. IsText ts x) ts (reader ts)
  -- a text is read
  pub read : (ts : List Token) (x : T) → IsText ts x → reader ts ≡ Ok (x, [])
  -- from a point some tokens give what is owed there, before those for the rest
  pub closing : P → List Token → List Token
  pub closes : (p : P) (K : List (Owed P)) (x : List Token) → run ways x K ≡ Ok tt → run ways (closing p x) (At p ∷ K) ≡ Ok tt

-- ---- a beginning of a text, from what is owed before it to what is owed after it

data Reaches {P : Type 0} (ways : P → Ways P) : List Token → List (Owed P) → List (Owed P) → Type 0 where
  here : {K : List (Owed P)} → Reaches ways [] K K
  reads : {t : Token} {ts : List Token} {K L M : List (Owed P)} → settle ways K t.kind ≡ Some L → Reaches ways ts L M → Reaches ways (t ∷ ts) K M

abbrev Stuck : {P : Type 0} → (P → Ways P) → ℕ → List (Owed P) → List Token → Type 0
Stuck ways n K [] = ended K ≡ Err (Syntax n)
Stuck ways n K (t ∷ ts) = (settle ways K t.kind ≡ None) × (n ≡ length (t ∷ ts))

-- where the machine halts
record Halt {P : Type 0} (ways : P → Ways P) (ts : List Token) (K : List (Owed P)) (n : ℕ) : Type 0 where
  pub before : List Token
  pub rest : List Token
  pub owed : List (Owed P)
  pub text : ts ≡ before ++ rest
  pub reaches : Reaches ways before K owed
  pub why : Stuck ways n owed rest

abbrev left_at : Verdict → ℕ
left_at (Ok u) = 0
left_at (Err (Syntax n)) = n
left_at (Err NoMemory) = 0

module _ {P : Type 0} {ways : P → Ways P} where
  goes_on : {ts : List Token} {K L : List (Owed P)} → Reaches ways ts K L → (x : List Token) → run ways (ts ++ x) K ≡ run ways x L
  goes_on here x = refl
  goes_on (reads {t = t} {ts = ts} e r) x = ap (λ o. moved o (length (t ∷ (ts ++ x))) (run ways (ts ++ x))) e ∙ goes_on r x

  halts_at : (o : Option (List (Owed P))) (t : Token) (ts : List Token) (K : List (Owed P)) (n : ℕ) → settle ways K t.kind ≡ o
      → ((L : List (Owed P)) → run ways ts L ≡ Err (Syntax n) → Halt ways ts L n) → moved o (length (t ∷ ts)) (run ways ts) ≡ Err (Syntax n) → Halt ways (t ∷ ts) K n
  halts_at None t ts K n e again v = record { before = []; rest = t ∷ ts; owed = K; text = refl; reaches = here; why = (e, sym (ap left_at v)) }
  halts_at (Some L) t ts K n e again v = let h = again L v in
      record { before = t ∷ h.before; rest = h.rest; owed = h.owed; text = ap (λ ts. t ∷ ts) h.text; reaches = reads e h.reaches; why = h.why }

  halts : (ts : List Token) (K : List (Owed P)) (n : ℕ) → run ways ts K ≡ Err (Syntax n) → Halt ways ts K n
  halts [] K n e = record { before = []; rest = []; owed = K; text = refl; reaches = here; why = e }
  halts (t ∷ ts) K n e = halts_at (settle ways K t.kind) t ts K n refl (λ L v. halts ts L n v) e

  split_last : (a : List Token) (t : Token) {K L : List (Owed P)} → Reaches ways (a ++ t ∷ []) K L → (M : List (Owed P)) × Reaches ways a K M × (settle ways M t.kind ≡ Some L)
  split_last [] t {K} (reads e here) = (K, here, e)
  split_last (c ∷ a) t (reads e r) = let h = split_last a t r in (h.0, reads e h.1, h.2)

-- ---- the end is there

abbrev HasFront : List Token → Type 0
HasFront ts = (front : List Token) × (t : Token) × (ts ≡ front ++ t ∷ []) × (t.kind ≡ k.End)

front_of : (ts : List Token) → HasEnd ts → HasFront ts
front_of [] h = absurd h
front_of (t ∷ []) h = ([], t, refl, h)
front_of (t ∷ u ∷ ts) h = let r = front_of (u ∷ ts) h.1 in (t ∷ r.0, r.1, ap (λ ts. t ∷ ts) r.2, r.3)

-- ---- places

before_place : (before rest : List Token) → take (length before) (before ++ rest) ≡ before
before_place [] rest = refl
before_place (c ∷ before) rest = ap (λ x. c ∷ x) (before_place before rest)

with_place : (before : List Token) (t : Token) (ts : List Token) → take (suc (length before)) (before ++ t ∷ ts) ≡ before ++ t ∷ []
with_place [] t ts = refl
with_place (c ∷ before) t ts = ap (λ x. c ∷ x) (with_place before t ts)

place : (before rest : List Token) (n : ℕ) → n ≡ length rest → length (before ++ rest) - n ≡ length before
place before rest n e = omega (arith, length-append before rest)

split_at : (j i : ℕ) (ts : List Token) → j ≤ i → take j ts ++ drop j (take i ts) ≡ take i ts
split_at zero i ts le = refl
split_at (suc j) zero ts le = absurd (omega arith)
split_at (suc j) (suc i) [] le = refl
split_at (suc j) (suc i) (t ∷ ts) le = ap (λ x. t ∷ x) (split_at j i ts (omega arith))

past : (ts : List Token) (i : ℕ) → slice_get ts i ≡ None → take i ts ≡ take (suc i) ts
past [] zero e = refl
past [] (suc i) e = refl
past (t ∷ ts) zero e = absurd (cc)
past (t ∷ ts) (suc i) e = ap (λ x. t ∷ x) (past ts i e)

abbrev token_or : Token → Option Token → Token
token_or d None = d
token_or d (Some t) = t

-- ---- at most one place, and none in a text

module _ {T : Type 0} {IsText : List Token → T → Type 0} where
  fewer : (ts : List Token) (i : ℕ) (b : BeginsText IsText (take i ts)) (j : ℕ) → j ≤ i → BeginsText IsText (take j ts)
  fewer ts i b j le =
      let split : take j ts ++ (drop j (take i ts) ++ b.more) ≡ take i ts ++ b.more =
      sym (append_assoc (take j ts) (drop j (take i ts)) b.more) ∙ ap (λ x. x ++ b.more) (split_at j i ts le) in
      record { more = drop j (take i ts) ++ b.more; means = b.means; text = subst (λ ts. IsText ts b.means) (sym split) b.text }

  one_place : (ts : List Token) (i j : ℕ) → SyntaxAt IsText ts i → SyntaxAt IsText ts j → i ≤ j
  one_place ts i j a b = elim (leb_tells i j) [ inl p ↦ p.1 | inr p ↦ absurd (b.none (fewer ts i a.before (suc j) (omega (arith, p.1)))) ]

  pub none_in_text : (ts : List Token) (x : T) → IsText ts x → (i : ℕ) → SyntaxAt IsText ts i → ⊥
  none_in_text ts x h i a =
      a.none (record { more = drop (suc i) ts; means = x; text = subst (λ ts. IsText ts x) (sym (take-append-drop (suc i) ts)) h })

  -- a token stands at the place
  token_at : (ts : List Token) (i : ℕ) → SyntaxAt IsText ts i → (t : Token) × (slice_get ts i ≡ Some t)
  token_at ts i a = found (slice_get ts i) refl
    where
      found : (o : Option Token) → slice_get ts i ≡ o → (t : Token) × (slice_get ts i ≡ Some t)
      found (Some t) e = (t, e)
      found None e = absurd (a.none (subst (BeginsText IsText) (past ts i e) a.before))

  -- a list of tokens has at most one fault of syntax
  pub same_fault : {phase : Phase} (ts : List Token) (f g : Fault) → IsSyntaxFault IsText phase ts f → IsSyntaxFault IsText phase ts g → g ≡ f
  same_fault {phase} ts f g a b =
      let low : a.index ≤ b.index = one_place ts a.index b.index a.at b.at in
      let high : b.index ≤ a.index = one_place ts b.index a.index b.at a.at in
      let index : a.index ≡ b.index = omega (arith, low, high) in
      let token : b.token ≡ a.token = ap (token_or a.token) (sym b.is_there ∙ ap (slice_get ts) (sym index) ∙ a.is_there) in
      b.is ∙ ap (λ t. fault phase code.Syntax (Some t.place)) token ∙ sym a.is

-- ---- the place that the reader gives

abbrev value_or : {T : Type 0} → T → Outcome T → T
value_or d (Ok p) = p.0
value_or d _ = d

module _ {T P : Type 0} {IsText : List Token → T → Type 0} {reader : Reader T} {ways : P → Ways P} (format : Format IsText reader ways) where
  pub read_is_text : (ts : List Token) (x : T) (j : List Token) → reader ts ≡ Ok (x, j) → IsText ts x
  read_is_text ts x j e = subst (λ r. Gives r (λ x j. IsText ts x)) e (gives (reader ts) (format.reads ts))

  -- a list of tokens is a text of one thing at most
  pub one_text : (ts : List Token) (a b : T) → IsText ts a → IsText ts b → a ≡ b
  one_text ts a b p q = ap (value_or a) (sym (format.read ts a p) ∙ format.read ts b q)

  follows : (ts : List Token) → run ways ts format.start ≡ resume ways (reader ts) []
  follows ts = followed (reader ts) (format.reads ts)

  text_of : (ts : List Token) (o : Outcome T) → Gives o (λ x j. IsText ts x) → resume ways o [] ≡ Ok tt → (x : T) × IsText ts x
  text_of ts (Ok p) h e = (p.0, h)
  text_of ts (Err x) h e = absurd (cc)

  begins : {before : List Token} {K : List (Owed P)} → Reaches ways before format.start K → BeginsText IsText before
  begins {before} {K} r =
      let more : List Token = completion format.closing K in
      let taken : run ways (before ++ more) format.start ≡ Ok tt = goes_on r more ∙ completed ways format.closing format.closes K in
      let found = text_of (before ++ more) (reader (before ++ more)) (gives (reader (before ++ more)) (format.reads (before ++ more))) (sym (follows (before ++ more)) ∙ taken) in
      record { more = more; means = found.0; text = found.1 }

  none_begins : (before : List Token) (t : Token) (K : List (Owed P)) → Reaches ways before format.start K → settle ways K t.kind ≡ None → BeginsText IsText (before ++ t ∷ []) → ⊥
  none_begins before t K r e b =
      let whole : (before ++ t ∷ []) ++ b.more ≡ before ++ t ∷ b.more = append_assoc before (t ∷ []) b.more in
      let read : run ways (before ++ t ∷ b.more) format.start ≡ Ok tt =
      ap (λ ts. run ways ts format.start) (sym whole) ∙ follows ((before ++ t ∷ []) ++ b.more) ∙ ap (λ o. resume ways o []) (format.read ((before ++ t ∷ []) ++ b.more) b.means b.text) in
      let stuck : run ways (before ++ t ∷ b.more) format.start ≡ Err (Syntax (length (t ∷ b.more))) =
      goes_on r (t ∷ b.more) ∙ ap (λ o. moved o (length (t ∷ b.more)) (run ways b.more)) e in
      let both : Ok tt ≡ Err (Syntax (length (t ∷ b.more))) = sym read ∙ stuck in absurd (cc)

  all_given : (before : List Token) (K : List (Owed P)) → HasFront before → Reaches ways before format.start K → K ≡ []
  all_given before K (front, t, is, end) r =
      let h = split_last front t (subst (λ ts. Reaches ways ts format.start K) is r) in
      end_after ways h.0 K (subst (λ kind. settle ways h.0 kind ≡ Some K) end h.2)

  here_is : (before : List Token) (t : Token) (ts : List Token) (K : List (Owed P)) → Reaches ways before format.start K → settle ways K t.kind ≡ None → SyntaxAt IsText (before ++ t ∷ ts) (length before)
  here_is before t ts K r e = record {
    before = subst (BeginsText IsText) (sym (before_place before (t ∷ ts))) (begins r);
    none = λ b. none_begins before t K r e (subst (BeginsText IsText) (with_place before t ts) b);
  }

  halted : (n : ℕ) (before rest : List Token) (K : List (Owed P)) → HasFront (before ++ rest) → Reaches ways before format.start K → Stuck ways n K rest
      → SyntaxAt IsText (before ++ rest) (length (before ++ rest) - n)
  halted n before [] K end r why =
      let given : K ≡ [] = all_given before K (subst HasFront (append-nil before) end) r in
      let taken : Ok tt ≡ Err (Syntax n) = sym (ap ended given) ∙ why in absurd (cc)
  halted n before (t ∷ ts) K end r why = subst (SyntaxAt IsText (before ++ t ∷ ts)) (sym (place before (t ∷ ts) n why.1)) (here_is before t ts K r why.0)

  syntax_at : (ts : List Token) (n : ℕ) → HasEnd ts → reader ts ≡ Err (Syntax n) → SyntaxAt IsText ts (length ts - n)
  syntax_at ts n end e =
      let h = halts ts format.start n (follows ts ∙ ap (λ o. resume ways o []) e) in
      subst (λ ts. SyntaxAt IsText ts (length ts - n)) (sym h.text) (halted n h.before h.rest h.owed (subst HasFront h.text (front_of ts end)) h.reaches h.why)

  pub syntax_fault_at : (phase : Phase) (ts : List Token) (n : ℕ) → HasEnd ts → reader ts ≡ Err (Syntax n)
      → IsSyntaxFault IsText phase ts (fault phase code.Syntax (Some (place_in (slice_get ts (length ts - n)))))
  syntax_fault_at phase ts n end e =
      let at = syntax_at ts n end e in
      let there = token_at ts (length ts - n) at in
      record { index = length ts - n; token = there.0; is_there = there.1; at = at; is = ap (λ o. fault phase code.Syntax (Some (place_in o))) there.1 }
