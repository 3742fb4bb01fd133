-- Tokens that stand for lines have no fault of syntax, and others have one at most.
use Rattle.std.proofs.Common.{◌≡◌, ℕ, zero, suc, ◌≤◌, ◌<◌, List, [], ◌∷◌, ◌++◌, take, drop, Option, Some, refl, sym, ◌∙◌, ap, subst, append_assoc, append-nil, arith, ◌⊎◌, inl, inr}
use Rattle.std.proofs.lemmas.Bool.Decides.{leb_tells}
use Rattle.std.specs.Prelude.{slice_get}
use Rattle.sq_text.specs.declared.fault.Fault.{Fault}
use Rattle.sq_text.specs.declared.code.Code.{Code}
use Rattle.sq_text.specs.declared.code.Phase.TheVariants as phase
use Rattle.sq_text.specs.declared.code.Code.TheVariants as code
use Rattle.sq_lexer.specs.declared.token.Token.{Token}
use Rattle.sq_plantext.specs.declared.text.PlanText.{PlanText}
use Rattle.sq_plantext.specs.Grammar.{Leveled, tokens_of, Within, IsText, StandsFor, BeginsText, BeginsWithin, SyntaxAt, TooDeepAt, most_levels}
use Rattle.sq_plantext.specs.Faults.{IsAt, SyntaxFault}
use Rattle.sq_planread.specs.Parsing.{place_of}

tokens_take : (k : ℕ) (l : List Leveled) → tokens_of (take k l) ≡ take k (tokens_of l)
tokens_take zero l = refl
tokens_take (suc k) [] = refl
tokens_take (suc k) (t ∷ l) = ap (λ x. t.token ∷ x) (tokens_take k l)

take_less : (i j : ℕ) (ts : List Token) → i ≤ j → take i (take j ts) ≡ take i ts
take_less zero j ts le = refl
take_less (suc i) zero ts le = absurd (omega arith)
take_less (suc i) (suc j) [] le = refl
take_less (suc i) (suc j) (t ∷ ts) le = ap (λ x. t ∷ x) (take_less i j ts (omega arith))

take_drop : (k : ℕ) (l : List Leveled) → take k l ++ drop k l ≡ l
take_drop zero l = refl
take_drop (suc k) [] = refl
take_drop (suc k) (t ∷ l) = ap (λ x. t ∷ x) (take_drop k l)

within_take : (most k : ℕ) (l : List Leveled) → Within most l → Within most (take k l)
within_take most zero l w = tt
within_take most (suc k) [] w = tt
within_take most (suc k) (t ∷ l) w = (w.0, within_take most k l w.1)

part_text : (k : ℕ) (l more : List Leveled) (p : PlanText) → IsText (l ++ more) p → IsText (take k l ++ (drop k l ++ more)) p
part_text k l more p h = subst (λ x. IsText x p) (sym (sym (append_assoc (take k l) (drop k l) more) ∙ ap (λ x. x ++ more) (take_drop k l))) h

-- a beginning of a beginning
begins_less : (i j : ℕ) (ts : List Token) → i ≤ j → (most : ℕ) → BeginsWithin most (take j ts) → BeginsWithin most (take i ts)
begins_less i j ts le most b = record {
  leveled = take i b.leveled;
  more = drop i b.leveled ++ b.more;
  plan = b.plan;
  tokens = tokens_take i b.leveled ∙ ap (take i) b.tokens ∙ take_less i j ts le;
  within = within_take most i b.leveled b.within;
  text = part_text i b.leveled b.more b.plan b.text;
}

begins : {most : ℕ} {ts : List Token} → BeginsWithin most ts → BeginsText ts
begins b = record { leveled = b.leveled; more = b.more; plan = b.plan; tokens = b.tokens; text = b.text }

stands_begins : (most k : ℕ) (ts : List Token) (p : PlanText) → StandsFor most ts p → BeginsWithin most (take k ts)
stands_begins most k ts p s = record {
  leveled = take k s.leveled;
  more = drop k s.leveled ++ [];
  plan = p;
  tokens = tokens_take k s.leveled ∙ ap (take k) s.tokens;
  within = within_take most k s.leveled s.within;
  text = part_text k s.leveled [] p (subst (λ x. IsText x p) (sym (append-nil s.leveled)) s.text);
}

-- ---- one fault

later_or : (i j : ℕ) → (i < j) ⊎ (j ≤ i)
later_or i j = elim (leb_tells j i) [ inl p ↦ inr p.1 | inr p ↦ inl p.1 ]

-- a beginning ends before a fault
before_syntax : (most i j : ℕ) (ts : List Token) → SyntaxAt most ts i → BeginsWithin most (take j ts) → j ≤ i
before_syntax most i j ts s b = elim (later_or i j) [ inl lt ↦ absurd (s.none (begins (begins_less (suc i) j ts (omega arith) most b))) | inr le ↦ le ]

before_deep : (most i j : ℕ) (ts : List Token) → TooDeepAt most ts i → BeginsWithin most (take j ts) → j ≤ i
before_deep most i j ts s b = elim (later_or i j) [ inl lt ↦ absurd (s.deep (begins_less (suc i) j ts (omega arith) most b)) | inr le ↦ le ]

same_fault : (a : Code) (ts : List Token) (i j : ℕ) (f g : Fault) → i ≡ j → IsAt a ts i f → IsAt a ts j g → f ≡ g
same_fault a ts i j f g e h k =
    let tokens : ◌≡◌ {A = Option Token} (Some h.token) (Some k.token) = sym h.there ∙ ap (slice_get ts) e ∙ k.there in
    h.is ∙ ap (λ o. record { phase = phase.Plan; code = a; place = place_of o; args = [] }) tokens ∙ sym k.is

pub one_fault : (ts : List Token) (f g : Fault) → SyntaxFault ts f → SyntaxFault ts g → f ≡ g
one_fault ts f g (inl (i, s, h)) (inl (j, r, k)) =
    same_fault code.Syntax ts i j f g (omega (arith, before_syntax most_levels i j ts s r.before, before_syntax most_levels j i ts r s.before)) h k
one_fault ts f g (inl (i, s, h)) (inr (j, r, k)) =
    let same : i ≡ j = omega (arith, before_syntax most_levels i j ts s r.before, before_deep most_levels j i ts r s.before) in
    absurd (s.none (subst (λ j. BeginsText (take (suc j) ts)) (sym same) r.allowed))
one_fault ts f g (inr (i, s, h)) (inl (j, r, k)) =
    let same : j ≡ i = omega (arith, before_deep most_levels i j ts s r.before, before_syntax most_levels j i ts r s.before) in
    absurd (r.none (subst (λ i. BeginsText (take (suc i) ts)) (sym same) s.allowed))
one_fault ts f g (inr (i, s, h)) (inr (j, r, k)) =
    same_fault code.TooDeep ts i j f g (omega (arith, before_deep most_levels i j ts s r.before, before_deep most_levels j i ts r s.before)) h k

pub no_fault : (ts : List Token) (p : PlanText) (f : Fault) → StandsFor most_levels ts p → SyntaxFault ts f → ⊥
no_fault ts p f s (inl (i, r, h)) = r.none (begins (stands_begins most_levels (suc i) ts p s))
no_fault ts p f s (inr (i, r, h)) = r.deep (stands_begins most_levels (suc i) ts p s)
