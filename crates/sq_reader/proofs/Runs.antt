-- The machine on a text and on its beginnings.
use Rattle.std.proofs.Common.{◌≡◌, ℕ, ◌≤◌, ◌<◌, Bool, true, false, if◌then◌else◌, leb, List, [], ◌∷◌, ◌++◌, length, Option, Some, None, Ok, Err, refl, sym, ◌∙◌, ap, subst, arith}
use Rattle.std.proofs.lemmas.Bool.{leb-true, leb-false, le-leb}
use Rattle.sq_ast.specs.Symbols.{Symbol, Last}
use Rattle.sq_ast.specs.Grammar.{at, Within}
use Rattle.sq_reader.specs.declared.error.ParseError.TheVariants.{OutOfMemory, Syntax, TooDeep}
use Rattle.sq_reader.specs.Reading.{nowhere}
use Rattle.sq_reader.proofs.Machine.{Owed, Move, Eat, Skip, Stop, at_end, step, settle, ended, Verdict, found, run, labeled, label}

-- ---- a beginning of a text, from what is owed before it to what is owed after it

pub data Reaches : ℕ → List Symbol → List Owed → List Owed → Type 0 where
  here : {most : ℕ} {K : List Owed} → Reaches most [] K K
  reads : {most d : ℕ} {t : Symbol} {ts : List Symbol} {K L M : List Owed} → settle K t ≡ Some (d, L) → d ≤ most → Reaches most ts L M → Reaches most (t ∷ ts) K M

-- with more levels allowed, the machine reads the beginning too
pub goes_on : {low : ℕ} {ts : List Symbol} {K L : List Owed} (most : ℕ) → low ≤ most → Reaches low ts K L → (x : List Symbol) → run most (ts ++ x) K ≡ run most x L
goes_on most le here x = refl
goes_on most le (reads {d = d} {t = t} {ts = ts} {L = L} e fits r) x =
    ap (λ o. found most o (length (t ∷ (ts ++ x))) (run most (ts ++ x))) e
    ∙ (let b : leb d most ≡ true = le-leb d most (omega arith) in ap (λ b. if b then run most (ts ++ x) L else Err (TooDeep (length (t ∷ (ts ++ x))))) b)
    ∙ goes_on most le r x

-- the labels of a beginning
pub labels_on : {most : ℕ} {ts : List Symbol} {K L : List Owed} → Reaches most ts K L → (x : List Symbol) → label (ts ++ x) K ≡ label ts K ++ label x L
labels_on here x = refl
labels_on (reads {d = d} {t = t} {ts = ts} {L = L} {M = M} e fits r) x =
    ap (λ o. labeled t o (label (ts ++ x))) e ∙ ap (λ l. at t d ∷ l) (labels_on r x) ∙ sym (ap (λ o. labeled t o (label ts) ++ label x M) e)

pub labels_within : {most : ℕ} {ts : List Symbol} {K L : List Owed} → Reaches most ts K L → Within most (label ts K)
labels_within here = tt
labels_within (reads {most = most} {t = t} {ts = ts} {L = L} e fits r) =
    subst (λ o. Within most (labeled t o (label ts))) (sym e) (fits, labels_within r)

pub one_on : {most d : ℕ} {ts : List Symbol} {K L M : List Owed} (t : Symbol) → Reaches most ts K L → settle L t ≡ Some (d, M) → d ≤ most → Reaches most (ts ++ t ∷ []) K M
one_on t here e le = reads e le here
one_on t (reads q fits r) e le = reads q fits (one_on t r e le)

-- ---- where the machine halts

pub record Halt (most : ℕ) (ts : List Symbol) (K : List Owed) (Q : List Owed → List Symbol → Type 0) : Type 0 where
  pub before : List Symbol
  pub rest : List Symbol
  pub owed : List Owed
  pub text : ts ≡ before ++ rest
  pub reaches : Reaches most before K owed
  pub why : Q owed rest

-- the first token of the rest is not allowed
abbrev pub Stuck : ℕ → List Owed → List Symbol → Type 0
Stuck n K [] = (ended K ≡ Err (Syntax 0)) × (n ≡ 0)
Stuck n K (t ∷ ts) = (settle K t ≡ None) × (n ≡ length (t ∷ ts))

-- the first token of the rest is allowed, and opens a level too many
abbrev pub Opening : ℕ → ℕ → List Owed → List Symbol → Type 0
Opening most n K [] = ⊥
Opening most n K (t ∷ ts) = (d : ℕ) × (L : List Owed) × (settle K t ≡ Some (d, L)) × (most < d) × (n ≡ length (t ∷ ts))

further : {most d : ℕ} {t : Symbol} {ts : List Symbol} {K L : List Owed} {Q : List Owed → List Symbol → Type 0} → settle K t ≡ Some (d, L) → d ≤ most → Halt most ts L Q → Halt most (t ∷ ts) K Q
further {t = t} e le h = record { before = t ∷ h.before; rest = h.rest; owed = h.owed; text = ap (λ ts. t ∷ ts) h.text; reaches = reads e le h.reaches; why = h.why }

abbrev left_at : Verdict → ℕ
left_at (Ok u) = 0
left_at (Err (Syntax n)) = n
left_at (Err (TooDeep n)) = n
left_at (Err OutOfMemory) = 0

end_step : (m : Move) (v : Verdict) (n : ℕ) → (v ≡ Err (Syntax n) → n ≡ 0) → at_end m v ≡ Err (Syntax n) → n ≡ 0
end_step (Eat d f) v n h e = sym (ap left_at e)
end_step Skip v n h e = h e
end_step Stop v n h e = sym (ap left_at e)

ended_left : (K : List Owed) (n : ℕ) → ended K ≡ Err (Syntax n) → n ≡ 0
ended_left [] n e = absurd (cc)
ended_left (o ∷ K) n e = end_step (step o (Last nowhere)) (ended K) n (ended_left K n) e

end_deep : (m : Move) (v : Verdict) (n : ℕ) → (v ≡ Err (TooDeep n) → ⊥) → at_end m v ≡ Err (TooDeep n) → ⊥
end_deep (Eat d f) v n h e = cc
end_deep Skip v n h e = h e
end_deep Stop v n h e = cc

ended_deep : (K : List Owed) (n : ℕ) → ended K ≡ Err (TooDeep n) → ⊥
ended_deep [] n e = cc
ended_deep (o ∷ K) n e = end_deep (step o (Last nowhere)) (ended K) n (ended_deep K n) e

module _ (most : ℕ) where
  syntax_leb : (b : Bool) (d : ℕ) (t : Symbol) (ts : List Symbol) (K L : List Owed) (n : ℕ) → settle K t ≡ Some (d, L) → leb d most ≡ b
      → (run most ts L ≡ Err (Syntax n) → Halt most ts L (Stuck n))
      → (if b then run most ts L else Err (TooDeep (length (t ∷ ts)))) ≡ Err (Syntax n) → Halt most (t ∷ ts) K (Stuck n)
  syntax_leb true d t ts K L n e b again v = further e (leb-true d most b) (again v)
  syntax_leb false d t ts K L n e b again v = absurd (cc)

  syntax_found : (o : Option (ℕ × List Owed)) (t : Symbol) (ts : List Symbol) (K : List Owed) (n : ℕ) → settle K t ≡ o
      → ((L : List Owed) → run most ts L ≡ Err (Syntax n) → Halt most ts L (Stuck n))
      → found most o (length (t ∷ ts)) (run most ts) ≡ Err (Syntax n) → Halt most (t ∷ ts) K (Stuck n)
  syntax_found None t ts K n e again v = record { before = []; rest = t ∷ ts; owed = K; text = refl; reaches = here; why = (e, sym (ap left_at v)) }
  syntax_found (Some p) t ts K n e again v = syntax_leb (leb p.0 most) p.0 t ts K p.1 n e refl (again p.1) v

  pub syntax_halts : (ts : List Symbol) (K : List Owed) (n : ℕ) → run most ts K ≡ Err (Syntax n) → Halt most ts K (Stuck n)
  syntax_halts [] K n e = let none : n ≡ 0 = ended_left K n e in
      record { before = []; rest = []; owed = K; text = refl; reaches = here; why = (e ∙ ap (λ n. Err (Syntax n)) none, none) }
  syntax_halts (t ∷ ts) K n e = syntax_found (settle K t) t ts K n refl (λ L v. syntax_halts ts L n v) e

  deep_leb : (b : Bool) (d : ℕ) (t : Symbol) (ts : List Symbol) (K L : List Owed) (n : ℕ) → settle K t ≡ Some (d, L) → leb d most ≡ b
      → (run most ts L ≡ Err (TooDeep n) → Halt most ts L (Opening most n))
      → (if b then run most ts L else Err (TooDeep (length (t ∷ ts)))) ≡ Err (TooDeep n) → Halt most (t ∷ ts) K (Opening most n)
  deep_leb true d t ts K L n e b again v = further e (leb-true d most b) (again v)
  deep_leb false d t ts K L n e b again v = record { before = []; rest = t ∷ ts; owed = K; text = refl; reaches = here; why = (d, L, e, leb-false d most b, sym (ap left_at v)) }

  deep_found : (o : Option (ℕ × List Owed)) (t : Symbol) (ts : List Symbol) (K : List Owed) (n : ℕ) → settle K t ≡ o
      → ((L : List Owed) → run most ts L ≡ Err (TooDeep n) → Halt most ts L (Opening most n))
      → found most o (length (t ∷ ts)) (run most ts) ≡ Err (TooDeep n) → Halt most (t ∷ ts) K (Opening most n)
  deep_found None t ts K n e again v = absurd (cc)
  deep_found (Some p) t ts K n e again v = deep_leb (leb p.0 most) p.0 t ts K p.1 n e refl (again p.1) v

  pub deep_halts : (ts : List Symbol) (K : List Owed) (n : ℕ) → run most ts K ≡ Err (TooDeep n) → Halt most ts K (Opening most n)
  deep_halts [] K n e = absurd (ended_deep K n e)
  deep_halts (t ∷ ts) K n e = deep_found (settle K t) t ts K n refl (λ L v. deep_halts ts L n v) e

  ok_leb : (b : Bool) (d : ℕ) (t : Symbol) (ts : List Symbol) (K L : List Owed) → settle K t ≡ Some (d, L) → leb d most ≡ b
      → (run most ts L ≡ Ok tt → Within most (label ts L))
      → (if b then run most ts L else Err (TooDeep (length (t ∷ ts)))) ≡ Ok tt → Within most (label (t ∷ ts) K)
  ok_leb true d t ts K L e b again v = subst (λ o. Within most (labeled t o (label ts))) (sym e) (leb-true d most b, again v)
  ok_leb false d t ts K L e b again v = absurd (cc)

  ok_found : (o : Option (ℕ × List Owed)) (t : Symbol) (ts : List Symbol) (K : List Owed) → settle K t ≡ o
      → ((L : List Owed) → run most ts L ≡ Ok tt → Within most (label ts L))
      → found most o (length (t ∷ ts)) (run most ts) ≡ Ok tt → Within most (label (t ∷ ts) K)
  ok_found None t ts K e again v = absurd (cc)
  ok_found (Some p) t ts K e again v = ok_leb (leb p.0 most) p.0 t ts K p.1 e refl (again p.1) v

  -- a text that the machine takes has no more levels than that
  pub ok_within : (ts : List Symbol) (K : List Owed) → run most ts K ≡ Ok tt → Within most (label ts K)
  ok_within [] K e = tt
  ok_within (t ∷ ts) K e = ok_found (settle K t) t ts K refl (λ L v. ok_within ts L v) e
