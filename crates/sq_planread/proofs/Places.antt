-- Where the parser refuses a plan file, in the grammar's words.
use Rattle.std.proofs.Common.{◌≡◌, ℕ, suc, ◌+◌, ◌-◌, ◌≤◌, Bool, true, false, if◌then◌else◌, List, [], ◌∷◌, ◌++◌, length, take, Some, Ok, Err, refl, sym, ◌∙◌, ap, subst, append_assoc, length-append, arith, ◌⊎◌, inl, inr}
use Rattle.std.specs.Prelude.{slice_get}
use Rattle.std.proofs.Math.Seq.{take-append_seam}
use Rattle.sq_text.specs.declared.place.Place.{Place}
use Rattle.sq_lexer.specs.declared.token.Token.{Token}
use Rattle.sq_lexer.specs.declared.token.Kind.{Kind}
use Rattle.sq_lexer.specs.declared.token.Kind.TheVariants as tk
use Rattle.sq_lexer.specs.Tokens.{token, HasEnd}
use Rattle.sq_lexer.specs.Tokens as lexer
use Rattle.sq_ast.specs.declared.program.Variant.{Variant}
use Rattle.sq_ast.specs.declared.program.VariantKind.TheVariants as kinds
use Rattle.sq_ast.specs.Grammar as ast
use Rattle.sq_reader.specs.declared.error.ParseError.{ParseError}
use Rattle.sq_reader.specs.declared.error.ParseError.TheVariants.{OutOfMemory, Syntax, TooDeep}
use Rattle.sq_plantext.specs.declared.text.PlanText.{PlanText}
use Rattle.sq_plantext.specs.Grammar as grammar
use Rattle.sq_plantext.specs.Grammar.{Leveled, at, tokens_of, symbols, unleveled, Derives, Within, IsText, BeginsText, BeginsWithin, SyntaxAt, TooDeepAt}
use Rattle.sq_planread.specs.Reading as reading
use Rattle.sq_planread.specs.Reading.{Outcome, Reader, and_then, nowhere, finish, is_end}
use Rattle.sq_planread.proofs.Complete.{tokens_append}
use Rattle.sq_planread.proofs.CompleteLines.{lines}
use Rattle.sq_planread.proofs.Leads.{Leads, there, goes, deep, past, size}
use Rattle.sq_planread.proofs.Points.{Ended, end_last, Given, Begins, Whole, Way, Reads, Refuses, Opens, Ends, Told, whole, begun, opened, Stops}
use Rattle.sq_planread.proofs.PointsOf.{Phr}
use Rattle.sq_planread.proofs.PointsOfLines.{ATask, unended, stops_plan, plan_is}

-- ---- lists

pub record Split (A : Type 0) (a a' b b' : List A) (x x' : A) : Type 0 where
  pub before : a ≡ a'
  pub first : x ≡ x'
  pub rest : b ≡ b'

pub same_split : {A : Type 0} (a a' : List A) (x x' : A) (b b' : List A) → a ++ x ∷ b ≡ a' ++ x' ∷ b' → length b ≡ length b' → Split A a a' b b' x x'
same_split [] [] x x' b b' e n = record { before = refl; first = cc; rest = cc }
same_split [] (y ∷ a') x x' b b' e n = absurd (omega (arith, n, ap length e, length-append a' (x' ∷ b')))
same_split (y ∷ a) [] x x' b b' e n = absurd (omega (arith, n, ap length e, length-append a (x ∷ b)))
same_split (y ∷ a) (z ∷ a') x x' b b' e n =
    let first : y ≡ z = cc in
    let rest : a ++ x ∷ b ≡ a' ++ x' ∷ b' = cc in
    let h = same_split a a' x x' b b' rest n in
    record { before = ap (λ l. y ∷ l) h.before ∙ ap (λ y. y ∷ a') first; first = h.first; rest = h.rest }

with_next : (front : List Token) (t : Token) (ts : List Token) → take (suc (length front)) (front ++ t ∷ ts) ≡ front ++ t ∷ []
with_next [] t ts = refl
with_next (u ∷ front) t ts = ap (λ x. u ∷ x) (with_next front t ts)

there_is : (front : List Token) (t : Token) (ts : List Token) → slice_get (front ++ t ∷ ts) (length front) ≡ Some t
there_is [] t ts = refl
there_is (u ∷ front) t ts = there_is front t ts

-- tokens that end, with their levels
pub ended : (l m : List Leveled) (p : Place) (x : ℕ) → Ended (tokens_of (l ++ (m ++ at tk.End p x ∷ [])))
ended [] [] p x = refl
ended [] (t ∷ []) p x = refl
ended [] (t ∷ u ∷ m) p x = ended [] (u ∷ m) p x
ended (t ∷ []) [] p x = refl
ended (t ∷ []) (u ∷ m) p x = ended [] (u ∷ m) p x
ended (t ∷ u ∷ l) m p x = ended (u ∷ l) m p x

-- the last of tokens with their levels
pub record LastOf (l : List Leveled) (front : List Token) (t : Token) : Type 0 where
  pub before : List Leveled
  pub last : Leveled
  pub is : l ≡ before ++ last ∷ []
  pub tokens : tokens_of before ≡ front

last_of : (l : List Leveled) (front : List Token) (t : Token) → tokens_of l ≡ front ++ t ∷ [] → LastOf l front t
last_of [] [] t e = absurd (cc)
last_of [] (u ∷ front) t e = absurd (cc)
last_of (x ∷ []) [] t e = record { before = []; last = x; is = refl; tokens = refl }
last_of (x ∷ y ∷ l) [] t e = absurd (cc)
last_of (x ∷ l) (u ∷ front) t e =
    let first : x.token ≡ u = cc in
    let rest : tokens_of l ≡ front ++ t ∷ [] = cc in
    let h = last_of l front t rest in
    record { before = x ∷ h.before; last = h.last; is = ap (λ l. x ∷ l) h.is; tokens = ap (λ ts. x.token ∷ ts) h.tokens ∙ ap (λ u. u ∷ front) first }

-- ---- a token with a level too many

-- the first of these that has one
pub record Deep (most : ℕ) (l m : List Leveled) (r : Outcome PlanText) : Type 0 where
  pub before : List Leveled
  pub first : Leveled
  pub after : List Leveled
  pub is : l ≡ before ++ first ∷ after
  pub told : r ≡ Err (TooDeep (size (first ∷ (after ++ m))))

deep_or_within : (most : ℕ) {o : Outcome PlanText} {i : List Leveled} {r : Outcome PlanText} (l m : List Leveled) → i ≡ l ++ m → Leads most [] o i r → Within most l ⊎ Deep most l m r
deep_or_within most [] m e h = inl tt
deep_or_within most (t ∷ l) m e there = absurd (cc)
deep_or_within most (t ∷ l) m e (goes {t = u} {i = i} {r = r} le g) =
    let first : u ≡ t = cc in
    let rest : i ≡ l ++ m = cc in
    further (deep_or_within most l m rest g) (subst (λ (t : Leveled). t.level ≤ most) first le)
  where
    further : Within most l ⊎ Deep most l m r → t.level ≤ most → Within most (t ∷ l) ⊎ Deep most (t ∷ l) m r
    further (inl w) le = inl (le, w)
    further (inr d) le = inr (record { before = t ∷ d.before; first = d.first; after = d.after; is = ap (λ l. t ∷ l) d.is; told = d.told })
deep_or_within most (t ∷ l) m e (deep {t = u} {i = i} lt) =
    let first : u ≡ t = cc in
    let rest : i ≡ l ++ m = cc in
    inr (record { before = []; first = t; after = l; is = refl; told = ap (λ x. Err (TooDeep (size x))) (ap (λ t. t ∷ i) first ∙ ap (λ i. t ∷ i) rest) })

-- ---- the reader's errors

module _ (most levels : ℕ) (given_task : Given ATask) (stops_task : (i : List Token) → Ended i → Stops 0 ATask (λ (u : Unit {0}). reading.task levels) i)
    (task_read : (v : Variant) (task l : List Leveled) → ast.Derives (ast.One ast.Task grammar.round_tasks v) (symbols task ++ unleveled l) (unleveled l) → v.kind ≡ kinds.Leaf
    → Leads most l (Ok (v, tokens_of l)) (task ++ l) (reading.task levels (tokens_of (task ++ l)))) where
  abbrev plan : Reader PlanText
  plan = reading.plan most levels

  abbrev most_of : Reader PlanText
  most_of = unended most levels given_task stops_task

  stops : (i : List Token) → Ended i → Stops 1 (Phr grammar.APlan) (λ (u : Unit {0}). most_of) i
  stops i last = stops_plan most levels given_task stops_task i last

  by_parts : (i : List Token) (r : Outcome PlanText) → most_of i ≡ r → plan i ≡ and_then r (λ x j. and_then (finish j) (λ u j. Ok (x, j)))
  by_parts i r e = plan_is most levels given_task stops_task i ∙ ap (λ r. and_then r (λ x j. and_then (finish j) (λ u j. Ok (x, j)))) e

  -- ---- levels

  reads_text : (l m : List Leveled) (x : PlanText) (p : Place) → Derives (grammar.APlan x) (l ++ m) (at tk.End p 0 ∷ []) → Leads most [] (Ok (x, [])) (l ++ m) (plan (tokens_of (l ++ m)))
  reads_text l m x p h = lines most levels task_read h p refl

  deep_left : (r : Outcome PlanText) (c n : ℕ) → r ≡ Err (TooDeep c) → r ≡ Err (TooDeep n) → c ≡ n
  deep_left r c n e h = let both : Err (TooDeep c) ≡ Err (TooDeep n) = sym e ∙ h in cc

  not_deep : (way : Way) (c : ℕ) (i rest : List Token) → Ends way rest (most_of i) → plan i ≡ Err (TooDeep c) → way ≡ Opens
  not_deep Opens c i rest h e = refl
  not_deep Refuses c i rest h e = let both : Err (Syntax (length rest)) ≡ Err (TooDeep c) = sym (by_parts i _ h) ∙ e in absurd (cc)
  not_deep Reads c i rest h e = absurd (at_end rest (sym (by_parts i _ h.1) ∙ e))
    where
      one_left : (b : Bool) → and_then (if b then Ok (tt {0}, []) else Err (Syntax 1)) (λ u j. Ok (h.0, j)) ≡ Err (TooDeep c) → ⊥
      one_left true q = cc
      one_left false q = cc

      at_end : (rest : List Token) → and_then (finish rest) (λ u j. Ok (h.0, j)) ≡ Err (TooDeep c) → ⊥
      at_end [] q = cc
      at_end (t ∷ []) q = one_left (is_end t.kind) q
      at_end (t ∷ u ∷ ts) q = cc

  opens_at : (way : Way) (rest : List Token) (r : Outcome PlanText) → way ≡ Opens → Ends way rest r → r ≡ Err (TooDeep (length rest))
  opens_at Opens rest r e h = h
  opens_at Refuses rest r e h = absurd (cc)
  opens_at Reads rest r e h = absurd (cc)

  -- What is read before a token that is refused, or that opens a level too many, has none too many.
  within_front : (front : List Token) (t : Token) (later : List Token) → (most_of (front ++ t ∷ later) ≡ Err (TooDeep (length (t ∷ later)))) ⊎ ((c : ℕ) → most_of (front ++ t ∷ later) ≡ Err (TooDeep c) → ⊥)
      → (l m : List Leveled) (x : PlanText) (p : Place) → tokens_of l ≡ front → Derives (grammar.APlan x) (l ++ (m ++ at tk.End p 0 ∷ [])) (at tk.End p 0 ∷ []) → Within most l
  within_front front t later why l m x p e h = by_case (deep_or_within most l (m ++ at tk.End p 0 ∷ []) refl (reads_text l (m ++ at tk.End p 0 ∷ []) x p h))
    where
      none : Deep most l (m ++ at tk.End p 0 ∷ []) (plan (tokens_of (l ++ (m ++ at tk.End p 0 ∷ [])))) → ⊥
      none q =
          let behind = q.after ++ (m ++ at tk.End p 0 ∷ []) in
          let s = stops (tokens_of (l ++ (m ++ at tk.End p 0 ∷ []))) (ended l m p 0) in
          let whole_ends : Ends s.way (s.next ∷ s.later) (most_of (tokens_of (l ++ (m ++ at tk.End p 0 ∷ [])))) = subst (λ i. Ends s.way (s.next ∷ s.later) (most_of i)) (sym s.is) (s.says tt s.later) in
          let way = not_deep s.way (size (q.first ∷ behind)) (tokens_of (l ++ (m ++ at tk.End p 0 ∷ []))) (s.next ∷ s.later) whole_ends q.told in
          let counted = deep_left (plan (tokens_of (l ++ (m ++ at tk.End p 0 ∷ [])))) (length (s.next ∷ s.later)) (size (q.first ∷ behind)) (by_parts _ _ (opens_at s.way (s.next ∷ s.later) _ way whole_ends)) q.told in
          let here : s.front ++ s.next ∷ s.later ≡ tokens_of q.before ++ q.first.token ∷ tokens_of behind =
          sym s.is ∙ ap (λ l. tokens_of (l ++ (m ++ at tk.End p 0 ∷ []))) q.is ∙ ap tokens_of (append_assoc q.before (q.first ∷ q.after) (m ++ at tk.End p 0 ∷ [])) ∙ tokens_append q.before (q.first ∷ behind) in
          let split = same_split s.front (tokens_of q.before) s.next q.first.token s.later (tokens_of behind) here (omega (arith, counted)) in
          let again : tokens_of q.before ++ q.first.token ∷ (tokens_of q.after ++ t ∷ later) ≡ front ++ t ∷ later =
          sym (append_assoc (tokens_of q.before) (q.first.token ∷ tokens_of q.after) (t ∷ later)) ∙ ap (λ x. x ++ t ∷ later) (sym (tokens_append q.before (q.first ∷ q.after)) ∙ ap tokens_of (sym q.is) ∙ e) in
          let told : most_of (s.front ++ s.next ∷ (tokens_of q.after ++ t ∷ later)) ≡ Err (TooDeep (length (s.next ∷ (tokens_of q.after ++ t ∷ later)))) =
          opens_at s.way (s.next ∷ (tokens_of q.after ++ t ∷ later)) _ way (s.says tt (tokens_of q.after ++ t ∷ later)) in
          let here_too : most_of (front ++ t ∷ later) ≡ Err (TooDeep (length (s.next ∷ (tokens_of q.after ++ t ∷ later)))) =
          ap most_of (sym (ap (λ f. f ++ s.next ∷ (tokens_of q.after ++ t ∷ later)) split.before ∙ ap (λ u. tokens_of q.before ++ u ∷ (tokens_of q.after ++ t ∷ later)) split.first ∙ again)) ∙ told in
          either_way why s.next (tokens_of q.after) here_too
        where
          either_way : (most_of (front ++ t ∷ later) ≡ Err (TooDeep (length (t ∷ later)))) ⊎ ((c : ℕ) → most_of (front ++ t ∷ later) ≡ Err (TooDeep c) → ⊥) → (u : Token) (us : List Token)
              → most_of (front ++ t ∷ later) ≡ Err (TooDeep (length (u ∷ (us ++ t ∷ later)))) → ⊥
          either_way (inl a) u us b = let same = deep_left _ (length (t ∷ later)) (length (u ∷ (us ++ t ∷ later))) a b in absurd (omega (arith, same, length-append us (t ∷ later)))
          either_way (inr f) u us b = f (length (u ∷ (us ++ t ∷ later))) b

      by_case : Within most l ⊎ Deep most l (m ++ at tk.End p 0 ∷ []) (plan (tokens_of (l ++ (m ++ at tk.End p 0 ∷ [])))) → Within most l
      by_case (inl w) = w
      by_case (inr q) = absurd (none q)

  -- ---- beginnings

  abbrev AtEnd : List Leveled
  AtEnd = at tk.End nowhere 0 ∷ []

  begins_text : (ts : List Token) → Begins (Phr grammar.APlan) ts → BeginsText ts
  begins_text ts b = let h = b.part AtEnd in record { leveled = b.front; more = b.more ++ AtEnd; plan = h.0; tokens = b.tokens; text = (nowhere, h.1) }

  -- why what stands before a token has no level too many
  abbrev Why : List Token → Token → List Token → Type 0
  Why front t later = (most_of (front ++ t ∷ later) ≡ Err (TooDeep (length (t ∷ later)))) ⊎ ((c : ℕ) → most_of (front ++ t ∷ later) ≡ Err (TooDeep c) → ⊥)

  begins_within : (front : List Token) (t : Token) (later : List Token) → Why front t later → Begins (Phr grammar.APlan) front → BeginsWithin most front
  begins_within front t later why b = let h = b.part AtEnd in
      record { leveled = b.front; more = b.more ++ AtEnd; plan = h.0; tokens = b.tokens; within = within_front front t later why b.front b.more h.0 nowhere b.tokens h.1; text = (nowhere, h.1) }

  opening_within : (front : List Token) (t : Token) (later : List Token) → Why front t later → Begins (Phr grammar.APlan) (front ++ t ∷ []) → BeginsWithin most front
  opening_within front t later why b =
      let h = b.part AtEnd in
      let l = last_of b.front front t b.tokens in
      let all : b.front ++ (b.more ++ AtEnd) ≡ l.before ++ ((l.last ∷ b.more) ++ AtEnd) = ap (λ f. f ++ (b.more ++ AtEnd)) l.is ∙ append_assoc l.before (l.last ∷ []) (b.more ++ AtEnd) in
      let derived : Derives (grammar.APlan h.0) (l.before ++ ((l.last ∷ b.more) ++ AtEnd)) AtEnd = subst (λ i. Derives (grammar.APlan h.0) i AtEnd) all h.1 in
      record { leveled = l.before; more = (l.last ∷ b.more) ++ AtEnd; plan = h.0; tokens = l.tokens; within = within_front front t later why l.before (l.last ∷ b.more) h.0 nowhere l.tokens derived; text = (nowhere, derived) }

  abbrev Whichever : List Token → Token → (List Token → ParseError) → Type 0
  Whichever front t told = (more : List Token) → plan (front ++ t ∷ more) ≡ Err (told (t ∷ more))

  all_tokens : (front : List Token) (t : Token) (l m : List Leveled) → tokens_of l ≡ front ++ t ∷ [] → tokens_of (l ++ m) ≡ front ++ t ∷ tokens_of m
  all_tokens front t l m e = tokens_append l m ∙ ap (λ x. x ++ tokens_of m) e ∙ append_assoc front (t ∷ []) (tokens_of m)

  no_text : (front : List Token) (t : Token) → Whichever front t (λ ts. Syntax (length ts)) → BeginsText (front ++ t ∷ []) → ⊥
  no_text front t every b =
      let r : plan (tokens_of (b.leveled ++ b.more)) ≡ Err (Syntax (size b.more + 1)) = ap plan (all_tokens front t b.leveled b.more b.tokens) ∙ every (tokens_of b.more) ∙ ap (λ n. Err (Syntax n)) (omega arith) in
      by_case (size (b.leveled ++ b.more)) (past most [] (b.leveled ++ b.more) refl tt (reads_text b.leveled b.more b.plan b.text.0 b.text.1)) r
    where
      by_case : {r : Outcome PlanText} {n : ℕ} (k : ℕ) → ((r ≡ Ok (b.plan, [])) ⊎ ((c : ℕ) × (c ≤ k) × (r ≡ Err (TooDeep c)))) → r ≡ Err (Syntax n) → ⊥
      by_case k (inl a) e = let both = sym a ∙ e in cc
      by_case k (inr h) e = let both = sym h.2 ∙ e in cc

  no_level : (front : List Token) (t : Token) → Whichever front t (λ ts. TooDeep (length ts)) → BeginsWithin most (front ++ t ∷ []) → ⊥
  no_level front t every b =
      let r : plan (tokens_of (b.leveled ++ b.more)) ≡ Err (TooDeep (size b.more + 1)) = ap plan (all_tokens front t b.leveled b.more b.tokens) ∙ every (tokens_of b.more) ∙ ap (λ n. Err (TooDeep n)) (omega arith) in
      by_case (past most b.leveled b.more refl b.within (reads_text b.leveled b.more b.plan b.text.0 b.text.1)) r
    where
      by_case : {r : Outcome PlanText} → ((r ≡ Ok (b.plan, [])) ⊎ ((c : ℕ) × (c ≤ size b.more) × (r ≡ Err (TooDeep c)))) → r ≡ Err (TooDeep (size b.more + 1)) → ⊥
      by_case (inl a) e = let both = sym a ∙ e in cc
      by_case {r = r} (inr h) e = let same = deep_left r h.0 (size b.more + 1) h.2 e in omega (arith, same, h.1)

  -- ---- the token at which it halts

  pub record SyntaxHalt (ts : List Token) (n : ℕ) : Type 0 where
    pub next : Token
    pub there_ : slice_get ts (length ts - n) ≡ Some next
    pub why : SyntaxAt most ts (length ts - n)

  pub record DeepHalt (ts : List Token) (n : ℕ) : Type 0 where
    pub next : Token
    pub there_ : slice_get ts (length ts - n) ≡ Some next
    pub why : TooDeepAt most ts (length ts - n)

  counted : (front : List Token) (t : Token) (later : List Token) → length (front ++ t ∷ later) - length (t ∷ later) ≡ length front
  counted front t later = omega (arith, length-append front (t ∷ later))

  syntax_here : (front : List Token) (t : Token) (later : List Token) → Why front t later → Whichever front t (λ ts. Syntax (length ts)) → Begins (Phr grammar.APlan) front → SyntaxHalt (front ++ t ∷ later) (length (t ∷ later))
  syntax_here front t later why every b =
      let at_front : SyntaxAt most (front ++ t ∷ later) (length front) = record {
        before = subst (BeginsWithin most) (sym (take-append_seam front (t ∷ later))) (begins_within front t later why b);
        none = λ x. no_text front t every (subst BeginsText (with_next front t later) x);
      } in
      record {
        next = t;
        there_ = ap (slice_get (front ++ t ∷ later)) (counted front t later) ∙ there_is front t later;
        why = subst (SyntaxAt most (front ++ t ∷ later)) (sym (counted front t later)) at_front;
      }

  deep_here : (front : List Token) (t : Token) (later : List Token) → Why front t later → Whichever front t (λ ts. TooDeep (length ts)) → Begins (Phr grammar.APlan) (front ++ t ∷ []) → DeepHalt (front ++ t ∷ later) (length (t ∷ later))
  deep_here front t later why every b =
      let at_front : TooDeepAt most (front ++ t ∷ later) (length front) = record {
        before = subst (BeginsWithin most) (sym (take-append_seam front (t ∷ later))) (opening_within front t later why b);
        allowed = subst BeginsText (sym (with_next front t later)) (begins_text (front ++ t ∷ []) b);
        deep = λ x. no_level front t every (subst (BeginsWithin most) (with_next front t later) x);
      } in
      record {
        next = t;
        there_ = ap (slice_get (front ++ t ∷ later)) (counted front t later) ∙ there_is front t later;
        why = subst (TooDeepAt most (front ++ t ∷ later)) (sym (counted front t later)) at_front;
      }

  syntax_left : {r : Outcome PlanText} (c n : ℕ) → r ≡ Err (Syntax c) → r ≡ Err (Syntax n) → c ≡ n
  syntax_left c n e h = let both : ◌≡◌ {A = Outcome PlanText} (Err (Syntax c)) (Err (Syntax n)) = sym e ∙ h in cc

  not_ended : (front : List Token) (t u : Token) (us : List Token) → HasEnd (front ++ t ∷ u ∷ us) → is_end t.kind ≡ false
  not_ended [] t u us h = no_end t.kind h.0
    where
      no_end : (k : Kind) → lexer.is_end k ≡ false → is_end k ≡ false
      no_end (tk.Word w) e = refl
      no_end (tk.Number n) e = refl
      no_end (tk.Sign s) e = refl
      no_end tk.End e = absurd (cc)
  not_ended (x ∷ []) t u us h = not_ended [] t u us h.1
  not_ended (x ∷ y ∷ front) t u us h = not_ended (y ∷ front) t u us h.1

  ends_there : (k : Kind) (a : PlanText) → k ≡ tk.End → and_then (if is_end k then Ok (tt {0}, []) else Err (Syntax 1)) (λ u j. Ok (a, j)) ≡ Ok (a, [])
  ends_there k a e = ap (λ k. and_then (if is_end k then Ok (tt {0}, []) else Err (Syntax 1)) (λ u j. Ok (a, j))) e

  not_there : (t : Token) (more : List Token) (a : PlanText) → is_end t.kind ≡ false → and_then (finish (t ∷ more)) (λ u j. Ok (a, j)) ≡ Err (Syntax (length (t ∷ more)))
  not_there t [] a e = ap (λ b. and_then (if b then Ok (tt {0}, []) else Err (Syntax 1)) (λ u j. Ok (a, j))) e
  not_there t (v ∷ more) a e = refl

  whole_begins : {ts : List Token} → Whole (Phr grammar.APlan) ts → Begins (Phr grammar.APlan) ts
  whole_begins w = record { front = w.front; more = []; tokens = w.tokens; part = w.part }

  before_end : (front : List Token) (t : Token) (later : List Token) (n : ℕ) → HasEnd (front ++ t ∷ later) → Ended (t ∷ later) → ((more : List Token) → Ends Reads (t ∷ more) (most_of (front ++ t ∷ more))) → Whole (Phr grammar.APlan) front
      → plan (front ++ t ∷ later) ≡ Err (Syntax n) → SyntaxHalt (front ++ t ∷ later) n
  before_end front t [] n all last says w e =
      let h = says [] in
      let read : plan (front ++ t ∷ []) ≡ Ok (h.0, []) = by_parts (front ++ t ∷ []) _ h.1 ∙ ends_there t.kind h.0 last in
      let both : ◌≡◌ {A = Outcome PlanText} (Ok (h.0, [])) (Err (Syntax n)) = sym read ∙ e in absurd (cc)
  before_end front t (u ∷ us) n all last says w e =
      let no = not_ended front t u us all in
      let every : Whichever front t (λ ts. Syntax (length ts)) = λ more. let h = says more in by_parts (front ++ t ∷ more) _ h.1 ∙ not_there t more h.0 no in
      let h = says (u ∷ us) in
      let why : (c : ℕ) → most_of (front ++ t ∷ u ∷ us) ≡ Err (TooDeep c) → ⊥ = λ c q. let both : ◌≡◌ {A = Outcome PlanText} (Ok (h.0, t ∷ u ∷ us)) (Err (TooDeep c)) = sym h.1 ∙ q in cc in
      subst (SyntaxHalt (front ++ t ∷ u ∷ us)) (syntax_left (length (t ∷ u ∷ us)) n (every (u ∷ us)) e) (syntax_here front t (u ∷ us) (inr why) every (whole_begins w))

  refused_before : (front : List Token) (t : Token) (later : List Token) (n : ℕ) → ((more : List Token) → most_of (front ++ t ∷ more) ≡ Err (Syntax (length (t ∷ more)))) → Begins (Phr grammar.APlan) front
      → plan (front ++ t ∷ later) ≡ Err (Syntax n) → SyntaxHalt (front ++ t ∷ later) n
  refused_before front t later n says b e =
      let every : Whichever front t (λ ts. Syntax (length ts)) = λ more. by_parts (front ++ t ∷ more) _ (says more) in
      let why : (c : ℕ) → most_of (front ++ t ∷ later) ≡ Err (TooDeep c) → ⊥ = λ c q. let both : ◌≡◌ {A = Outcome PlanText} (Err (Syntax (length (t ∷ later)))) (Err (TooDeep c)) = sym (says later) ∙ q in cc in
      subst (SyntaxHalt (front ++ t ∷ later)) (syntax_left (length (t ∷ later)) n (every later) e) (syntax_here front t later (inr why) every b)

  syntax_by : (way : Way) (front : List Token) (t : Token) (later : List Token) (n : ℕ) → HasEnd (front ++ t ∷ later) → Ended (t ∷ later) → ((more : List Token) → Ends way (t ∷ more) (most_of (front ++ t ∷ more)))
      → Told (Phr grammar.APlan) way front t → plan (front ++ t ∷ later) ≡ Err (Syntax n) → SyntaxHalt (front ++ t ∷ later) n
  syntax_by Reads front t later n all last says (whole w) e = before_end front t later n all last says w e
  syntax_by Refuses front t later n all last says (begun b) e = refused_before front t later n says b e
  syntax_by Opens front t later n all last says told e =
      let both : ◌≡◌ {A = Outcome PlanText} (Err (TooDeep (length (t ∷ later)))) (Err (Syntax n)) = sym (by_parts (front ++ t ∷ later) _ (says later)) ∙ e in absurd (cc)

  pub syntax_at : (ts : List Token) (n : ℕ) → HasEnd ts → plan ts ≡ Err (Syntax n) → SyntaxHalt ts n
  syntax_at ts n end e =
      let s = stops ts (end_last ts end) in
      subst (λ ts. SyntaxHalt ts n) (sym s.is) (syntax_by s.way s.front s.next s.later n (subst HasEnd s.is end) s.last (λ more. s.says tt more) s.told (ap plan (sym s.is) ∙ e))

  opened_before : (front : List Token) (t : Token) (later : List Token) (n : ℕ) → ((more : List Token) → most_of (front ++ t ∷ more) ≡ Err (TooDeep (length (t ∷ more)))) → Begins (Phr grammar.APlan) (front ++ t ∷ [])
      → plan (front ++ t ∷ later) ≡ Err (TooDeep n) → DeepHalt (front ++ t ∷ later) n
  opened_before front t later n says b e =
      let every : Whichever front t (λ ts. TooDeep (length ts)) = λ more. by_parts (front ++ t ∷ more) _ (says more) in
      subst (DeepHalt (front ++ t ∷ later)) (deep_left (plan (front ++ t ∷ later)) (length (t ∷ later)) n (every later) e) (deep_here front t later (inl (says later)) every b)

  deep_by : (way : Way) (front : List Token) (t : Token) (later : List Token) (n : ℕ) → way ≡ Opens → ((more : List Token) → Ends way (t ∷ more) (most_of (front ++ t ∷ more)))
      → Told (Phr grammar.APlan) way front t → plan (front ++ t ∷ later) ≡ Err (TooDeep n) → DeepHalt (front ++ t ∷ later) n
  deep_by Opens front t later n q says (opened b) e = opened_before front t later n says b e
  deep_by Reads front t later n q says told e = absurd (cc)
  deep_by Refuses front t later n q says told e = absurd (cc)

  pub deep_at : (ts : List Token) (n : ℕ) → HasEnd ts → plan ts ≡ Err (TooDeep n) → DeepHalt ts n
  deep_at ts n end e =
      let s = stops ts (end_last ts end) in
      let there_too : plan (s.front ++ s.next ∷ s.later) ≡ Err (TooDeep n) = ap plan (sym s.is) ∙ e in
      subst (λ ts. DeepHalt ts n) (sym s.is) (deep_by s.way s.front s.next s.later n (not_deep s.way n (s.front ++ s.next ∷ s.later) (s.next ∷ s.later) (s.says tt s.later) there_too) (λ more. s.says tt more) s.told there_too)

  -- ---- memory

  finish_left : (r : List Token) (a : PlanText) → and_then (finish r) (λ u j. Ok (a, j)) ≡ Err OutOfMemory → ⊥
  finish_left [] a e = cc
  finish_left (t ∷ []) a e = one_left (is_end t.kind) e
    where
      one_left : (b : Bool) → and_then (if b then Ok (tt {0}, []) else Err (Syntax 1)) (λ u j. Ok (a, j)) ≡ Err OutOfMemory → ⊥
      one_left true q = cc
      one_left false q = cc
  finish_left (t ∷ u ∷ ts) a e = cc

  memory_by : (way : Way) (i r : List Token) → Ends way r (most_of i) → plan i ≡ Err OutOfMemory → ⊥
  memory_by Reads i r h e = finish_left r h.0 (sym (by_parts i _ h.1) ∙ e)
  memory_by Refuses i r h e = let both : ◌≡◌ {A = Outcome PlanText} (Err (Syntax (length r))) (Err OutOfMemory) = sym (by_parts i _ h) ∙ e in cc
  memory_by Opens i r h e = let both : ◌≡◌ {A = Outcome PlanText} (Err (TooDeep (length r))) (Err OutOfMemory) = sym (by_parts i _ h) ∙ e in cc

  -- the reader itself never wants any
  pub no_memory : (ts : List Token) → HasEnd ts → plan ts ≡ Err OutOfMemory → ⊥
  no_memory ts end e =
      let s = stops ts (end_last ts end) in
      memory_by s.way (s.front ++ s.next ∷ s.later) (s.next ∷ s.later) (s.says tt s.later) (ap plan (sym s.is) ∙ e)
