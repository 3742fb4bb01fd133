-- What a reader gives, how many tokens are left after it, and that the machine goes on after it as the reader does.
use Rattle.std.proofs.Common.{◌≡◌, ℕ, zero, suc, ◌+◌, ◌≤◌, Bool, true, false, if◌then◌else◌, List, [], ◌∷◌, ◌++◌, length, Some, None, Ok, Err, refl, sym, ◌∙◌, ap, subst, append_assoc, append-nil, arith}
use Rattle.sq_lexer.specs.Text.declared.place.Place.{Place}
use Rattle.sq_lexer.specs.declared.token.Token.{Token}
use Rattle.sq_lexer.specs.declared.token.Kind.{Kind}
use Rattle.sq_lexer.specs.declared.token.Kind.TheVariants as k
use Rattle.sq_lexer.specs.Tokens.{token}
use Rattle.sq_patterns.specs.declared.pattern.Pattern.{Pattern}
use Rattle.sq_patterns.specs.declared.pattern.Pattern.TheVariants as s
use Rattle.sq_patterns.specs.declared.cursor.ReadError.TheVariants.{Syntax}
use Rattle.sq_patterns.specs.Patterns.{fits}
use Rattle.sq_patterns.specs.Reading.{Outcome, Reader, and_then, all, choice, until, finish}
use Rattle.sq_patterns.proofs.Owing.{Owed, Ways, wants, behind, settle, moved, ended, run, resume, with_token, all_fits, all_fails, all_ended}
use Rattle.sq_patterns.proofs.Matching.{matching, Front, none, next, end}

-- `ways` is the grammar.
module _ {G : Type 0} (ways : G → Ways G) where
  -- From the stack S the reader's tokens lead to the stack K, and no more than n are left after it.
  abbrev pub Holds : {A : Type 0} → ℕ → List (Owed G) → List (Owed G) → (A → List Token → Type 0) → List Token → Outcome A → Type 0
  Holds n S K P i (Ok p) = (length p.1 ≤ n) × (run ways i S ≡ run ways p.1 K) × P p.0 p.1
  Holds n S K P i (Err e) = run ways i S ≡ Err e

  pub record Reading {A : Type 0} (n : ℕ) (S K : List (Owed G)) (P : A → List Token → Type 0) (i : List Token) (r : Outcome A) : Type 0 where
    pub is : Holds n S K P i r

abbrev pub Gives : {A : Type 0} → Outcome A → (A → List Token → Type 0) → Type 0
Gives (Ok p) P = P p.0 p.1
Gives (Err e) P = Unit {0}

module _ {G : Type 0} {ways : G → Ways G} where
  pub given : {A : Type 0} {n : ℕ} {K : List (Owed G)} {P : A → List Token → Type 0} (x : A) (i : List Token) → length i ≤ n → P x i → Reading ways n K K P i (Ok (x, i))
  given x i le h = record { is = (le, refl, h) }

  -- the machine comes to the tokens j with the stack M
  pub after : {A : Type 0} {n : ℕ} {S M K : List (Owed G)} {P : A → List Token → Type 0} {i j : List Token} (r : Outcome A) → run ways i S ≡ run ways j M → Reading ways n M K P j r → Reading ways n S K P i r
  after (Ok p) e h = record { is = (h.is.0, e ∙ h.is.1, h.is.2) }
  after (Err x) e h = record { is = e ∙ h.is }

  pub gives_more : {A : Type 0} {n : ℕ} {S K : List (Owed G)} {P Q : A → List Token → Type 0} {i : List Token} (r : Outcome A)
      → ((x : A) (j : List Token) → P x j → Q x j) → Reading ways n S K P i r → Reading ways n S K Q i r
  gives_more (Ok p) f h = record { is = (h.is.0, h.is.1, f p.0 p.1 h.is.2) }
  gives_more (Err x) f h = record { is = h.is }

  pub weaken : {A : Type 0} {n : ℕ} {S K : List (Owed G)} {P : A → List Token → Type 0} {i : List Token} (m : ℕ) (r : Outcome A) → m ≤ n → Reading ways m S K P i r → Reading ways n S K P i r
  weaken m (Ok p) le h = record { is = (omega (arith, le, h.is.0), h.is.1, h.is.2) }
  weaken m (Err x) le h = record { is = h.is }

  -- one part, then the others
  pub phrase : {A B : Type 0} {n : ℕ} {S M K : List (Owed G)} {P : A → List Token → Type 0} {R : B → List Token → Type 0} {i : List Token} (r : Outcome A) (f : A → Reader B)
      → Reading ways n S M P i r → ((x : A) (j : List Token) → length j ≤ n → P x j → Reading ways n M K R j (f x j)) → Reading ways n S K R i (and_then r f)
  phrase (Ok p) f h g = after (f p.0 p.1) h.is.1 (g p.0 p.1 h.is.0 h.is.2)
  phrase (Err z) f h g = record { is = h.is }

  pub followed : {A : Type 0} {n : ℕ} {S K : List (Owed G)} {P : A → List Token → Type 0} {i : List Token} (r : Outcome A) → Reading ways n S K P i r → run ways i S ≡ resume ways r K
  followed (Ok p) h = h.is.1
  followed (Err z) h = h.is

  pub gives : {A : Type 0} {n : ℕ} {S K : List (Owed G)} {P : A → List Token → Type 0} {i : List Token} (r : Outcome A) → Reading ways n S K P i r → Gives r P
  gives (Ok p) h = h.is.2
  gives (Err z) h = tt

-- ---- tokens of given patterns

-- each token leaves the stack that the others lead to
abbrev pub Kept : {G : Type 0} → List Pattern → List (Owed G) → Type 0
Kept [] K = Unit {0}
Kept (pattern ∷ patterns) K = (behind pattern (wants patterns K) ≡ wants patterns K) × Kept patterns K

abbrev pub no_end : List Pattern → Bool
no_end [] = true
no_end (s.End ∷ patterns) = false
no_end (_ ∷ patterns) = no_end patterns

kept_first : {G : Type 0} (pattern : Pattern) (patterns : List Pattern) (K : List (Owed G)) → no_end (pattern ∷ patterns) ≡ true → (behind pattern (wants patterns K) ≡ wants patterns K) × (no_end patterns ≡ true)
kept_first s.End patterns K e = absurd (cc)
kept_first _ patterns K e = (refl, e)

kept : {G : Type 0} (patterns : List Pattern) (K : List (Owed G)) → no_end patterns ≡ true → Kept patterns K
kept [] K e = tt
kept (pattern ∷ patterns) K e = let h = kept_first pattern patterns K e in (h.0, kept patterns K h.1)

module _ {G : Type 0} {ways : G → Ways G} where
  taken : {n : ℕ} (pattern : Pattern) (patterns : List Pattern) (K : List (Owed G)) (t : Token) (ts : List Token) (r : Outcome (List Token)) → fits pattern t.kind ≡ true → behind pattern (wants patterns K) ≡ wants patterns K
      → Reading ways n (wants patterns K) K (Front patterns ts) ts r → Reading ways n (wants (pattern ∷ patterns) K) K (Front (pattern ∷ patterns) (t ∷ ts)) (t ∷ ts) (with_token t r)
  taken pattern patterns K t ts (Ok p) e b h =
      let step : run ways (t ∷ ts) (wants (pattern ∷ patterns) K) ≡ run ways ts (wants patterns K) =
      ap (λ b. moved (if b then Some (behind pattern (wants patterns K)) else None) (length (t ∷ ts)) (run ways ts)) e ∙ ap (run ways ts) b in
      record { is = (h.is.0, step ∙ h.is.1, next (matching pattern t.kind e) h.is.2) }
  taken pattern patterns K t ts (Err z) e b h =
      let step : run ways (t ∷ ts) (wants (pattern ∷ patterns) K) ≡ run ways ts (wants patterns K) =
      ap (λ b. moved (if b then Some (behind pattern (wants patterns K)) else None) (length (t ∷ ts)) (run ways ts)) e ∙ ap (run ways ts) b in
      record { is = step ∙ h.is }

  all_case : {n : ℕ} (b : Bool) (pattern : Pattern) (patterns : List Pattern) (K : List (Owed G)) (t : Token) (ts : List Token) → fits pattern t.kind ≡ b → behind pattern (wants patterns K) ≡ wants patterns K
      → Reading ways n (wants patterns K) K (Front patterns ts) ts (all patterns ts) → Reading ways n (wants (pattern ∷ patterns) K) K (Front (pattern ∷ patterns) (t ∷ ts)) (t ∷ ts) (all (pattern ∷ patterns) (t ∷ ts))
  all_case {n} true pattern patterns K t ts e b h = subst (Reading ways n (wants (pattern ∷ patterns) K) K (Front (pattern ∷ patterns) (t ∷ ts)) (t ∷ ts)) (sym (all_fits pattern patterns t ts e)) (taken pattern patterns K t ts (all patterns ts) e b h)
  all_case {n} false pattern patterns K t ts e b h =
      let stuck : run ways (t ∷ ts) (wants (pattern ∷ patterns) K) ≡ Err (Syntax (length (t ∷ ts))) =
      ap (λ b. moved (if b then Some (behind pattern (wants patterns K)) else None) (length (t ∷ ts)) (run ways ts)) e in
      subst (Reading ways n (wants (pattern ∷ patterns) K) K (Front (pattern ∷ patterns) (t ∷ ts)) (t ∷ ts)) (sym (all_fails pattern patterns t ts e)) (record { is = stuck })

  pub all_reads : (patterns : List Pattern) (n : ℕ) (i : List Token) (K : List (Owed G)) → Kept patterns K → length i ≤ length patterns + n → Reading ways n (wants patterns K) K (Front patterns i) i (all patterns i)
  all_reads [] n i K k le = given [] i (omega (arith, le)) none
  all_reads (pattern ∷ patterns) n [] K k le = subst (Reading ways n (wants (pattern ∷ patterns) K) K (Front (pattern ∷ patterns) []) []) (sym (all_ended pattern patterns)) (record { is = refl })
  all_reads (pattern ∷ patterns) n (t ∷ ts) K k le = all_case (fits pattern t.kind) pattern patterns K t ts refl k.0 (all_reads patterns n ts K k.1 (omega (arith, le)))

  -- the same where the end isn't among them
  pub patterns_read : (patterns : List Pattern) (n : ℕ) (i : List Token) (K : List (Owed G)) → no_end patterns ≡ true → length i ≤ length patterns + n → Reading ways n (wants patterns K) K (Front patterns i) i (all patterns i)
  patterns_read patterns n i K e le = all_reads patterns n i K (kept patterns K e) le

  -- ---- what the next token decides

  pub choice_reads : {A : Type 0} {n : ℕ} {K : List (Owed G)} {P : A → List Token → Type 0} (S T U : List (Owed G)) (pattern : Pattern) (p q : Reader A) (i : List Token)
      → ((t : Kind) → settle ways S t ≡ (if fits pattern t then settle ways T t else settle ways U t)) → ended S ≡ ended U
      → Reading ways n T K P i (p i) → Reading ways n U K P i (q i) → Reading ways n S K P i (choice pattern p q i)
  choice_reads S T U pattern p q [] step ends h g = after (q []) ends g
  choice_reads {n = n} {K = K} {P = P} S T U pattern p q (t ∷ ts) step ends h g = by_case (fits pattern t.kind) refl
    where
      by_case : (b : Bool) → fits pattern t.kind ≡ b → Reading ways n S K P (t ∷ ts) (if b then p (t ∷ ts) else q (t ∷ ts))
      by_case true e = after (p (t ∷ ts)) (ap (λ o. moved o (length (t ∷ ts)) (run ways ts)) (step t.kind ∙ ap (λ b. if b then settle ways T t.kind else settle ways U t.kind) e)) h
      by_case false e = after (q (t ∷ ts)) (ap (λ o. moved o (length (t ∷ ts)) (run ways ts)) (step t.kind ∙ ap (λ b. if b then settle ways T t.kind else settle ways U t.kind) e)) g

-- ---- one after another, up to a token

abbrev pub Adds : {A : Type 0} → (List A → List Token → List Token → Type 0) → List A → List Token → List A → List Token → Type 0
Adds D found i every j = (xs : _) × (every ≡ found ++ xs) × D xs i j

module _ {G A : Type 0} {ways : G → Ways G} (D : List A → List Token → List Token → Type 0) (none_more : (i : List Token) → D [] i i) (close : Pattern) (p : Reader A) (S T U : List (Owed G))
    (step : (t : Kind) → settle ways S t ≡ (if fits close t then settle ways T t else settle ways U t)) (ends : ended S ≡ ended U) (closes : ended S ≡ ended T)
    (reads : (n : ℕ) (i : List Token) → length i ≤ suc n → Reading ways n U S (λ x j. (rest : List A) (l : List Token) → D rest j l → D (x ∷ rest) i l) i (p i)) where
  one_added : (found : List A) (x : A) (i j l : List Token) (every : List A) → ((rest : List A) (l : List Token) → D rest j l → D (x ∷ rest) i l)
      → Adds D (found ++ x ∷ []) j every l → Adds D found i every l
  one_added found x i j l every h (xs, is, rest) = (x ∷ xs, is ∙ append_assoc found (x ∷ []) xs, h xs l rest)

  pub until_reads : (n : ℕ) (found : List A) (i : List Token) → length i ≤ n → Reading ways n S T (Adds D found i) i (until close p n found i)
  unfolding until
  until_reads zero found [] le = after (Ok (found, [])) closes (given found [] le ([], sym (append-nil found), none_more []))
  until_reads zero found (t ∷ ts) le = absurd (omega arith)
  until_reads (suc n) found i le = choice_reads S T U close (λ i. Ok (found, i)) (λ i. and_then (p i) (λ x. until close p n (found ++ x ∷ []))) i step ends
      (given found i le ([], sym (append-nil found), none_more i))
      (weaken n (and_then (p i) (λ x. until close p n (found ++ x ∷ []))) (omega arith)
      (phrase (p i) (λ x. until close p n (found ++ x ∷ [])) (reads n i le)
      (λ x j few h. gives_more (until close p n (found ++ x ∷ []) j) (λ every l more. one_added found x i j l every h more) (until_reads n (found ++ x ∷ []) j few))))

-- ---- the end

-- these are the end and no more
abbrev pub IsLast : List Token → Type 0
IsLast i = (p : Place) × (i ≡ token k.End p ∷ [])

pub last_front : {i ts j : List Token} → Front (s.End ∷ []) i ts j → j ≡ [] → IsLast i
last_front (next {p = p} end none) e = (p, ap (λ j. token k.End p ∷ j) e)

pub finish_reads : {G A : Type 0} {ways : G → Ways G} {P : A → List Token → Type 0} (n : ℕ) (a : A) (i : List Token) → length i ≤ n → (i ≡ [] → P a []) → Reading ways n [] [] P i (finish a i)
finish_reads n a [] le h = given a [] le (h refl)
finish_reads n a (t ∷ ts) le h = record { is = refl }
