-- The parser's answers, in the grammar's words.
use Rattle.std.proofs.Common.{◌≡◌, ℕ, suc, ◌+◌, ◌-◌, ◌≤◌, ◌<◌, List, [], ◌∷◌, ◌++◌, length, take, Option, Some, None, Ok, Err, refl, sym, ◌∙◌, ap, subst, append_assoc, append-nil, length-append, arith, ◌⊎◌, inl, inr}
use Rattle.std.proofs.Math.Seq.{take-append_seam}
use Rattle.sq_text.specs.declared.place.Place.{Place}
use Rattle.sq_ast.specs.declared.program.Program.{Program}
use Rattle.sq_ast.specs.Symbols.{Symbol, Last}
use Rattle.sq_ast.specs.Grammar.{Leveled, at, kinds, Within, IsText, StandsFor, BeginsText, BeginsWithin, SyntaxAt, TooDeepAt}
use Rattle.sq_reader.specs.declared.error.ParseError.{ParseError}
use Rattle.sq_reader.specs.declared.error.ParseError.TheVariants.{Syntax, TooDeep}
use Rattle.sq_reader.specs.Reading.{Outcome, many_from, many_after, task, begins_task, program}
use Rattle.sq_reader.proofs.Machine.{Owed, settle, Verdict, found, ended, run, labeled, label, start}
use Rattle.sq_reader.proofs.Labeled.{kinds_label}
use Rattle.sq_reader.proofs.Readings.{Reading}
use Rattle.sq_reader.proofs.Programs.{program_reads, program_ends}
use Rattle.sq_reader.proofs.Complete.{complete, then_ok}
use Rattle.sq_reader.proofs.Labels.{text_labels}
use Rattle.sq_reader.proofs.Runs.{Reaches, here, reads, goes_on, labels_on, labels_within, one_on, Stuck, Opening, syntax_halts, deep_halts, ok_within}
use Rattle.sq_reader.proofs.Ready.{Ready, completion, completed, reached, start_ready, end_ends}

-- ---- texts

-- the machine's verdict after what the parser gave
abbrev pub resume : {A : Type 0} → ℕ → Outcome A → List Owed → Verdict
resume most (Ok p) K = run most p.1 K
resume most (Err e) K = Err e

follows : {A : Type 0} {n most : ℕ} {S K : List Owed} {P : A → List Leveled → List Leveled → Type 0} {i : List Symbol} (r : Outcome A) → Reading n most S K P i r → run most i S ≡ resume most r K
follows (Ok p) h = h.is.1
follows (Err e) h = h.is

pub program_follows : (most : ℕ) (ts : List Symbol) → run most ts start ≡ resume most (program most ts) []
program_follows most ts = follows (program most ts) (program_reads most ts)

text_of : (most : ℕ) (ts : List Symbol) (r : Outcome Program) (p : Program) (l : List Symbol) → Reading (length ts) most start [] (λ p a b. IsText a p) ts r → r ≡ Ok (p, l) → IsText (label ts start) p
text_of most ts r p l h e = (subst (λ r. Reading (length ts) most start [] (λ p a b. IsText a p) ts r) e h).is.2

pub stands : (most : ℕ) (ts : List Symbol) (p : Program) (l : List Symbol) → program most ts ≡ Ok (p, l) → StandsFor most ts p
stands most ts p l e =
    let none : l ≡ [] = program_ends most ts p l e in
    let verdict : run most ts start ≡ Ok tt = program_follows most ts ∙ ap (λ r. resume most r []) e ∙ ap (λ l. run most l []) none in
    record {
      leveled = label ts start;
      tokens = kinds_label ts start;
      within = ok_within most ts start verdict;
      text = text_of most ts (program most ts) p l (program_reads most ts) e;
    }

pub only : (most : ℕ) (ts : List Symbol) (p : Program) → StandsFor most ts p → program most ts ≡ Ok (p, [])
unfolding program many_after
only most ts p s = subst (λ ts. program most ts ≡ Ok (p, [])) s.tokens
    (then_ok (many_from begins_task (task most) (length (kinds s.leveled)) [] (kinds s.leveled)) _ p.tasks (Last s.text.0 ∷ [])
    (complete most s.text.1 tt most (omega arith) s.within refl tt (length (kinds s.leveled)) [] (omega arith)))

-- ---- beginnings

given : (most : ℕ) (ts : List Symbol) (r : Outcome Program) → Reading (length ts) most start [] (λ p a b. IsText a p) ts r → resume most r [] ≡ Ok tt → (p : Program) × IsText (label ts start) p
given most ts (Ok p) h e = (p.0, h.is.2)
given most ts (Err x) h e = absurd (cc)

-- the machine's text is one of the grammar
taken : (most : ℕ) (ts : List Symbol) → run most ts start ≡ Ok tt → (p : Program) × IsText (label ts start) p
taken most ts e = given most ts (program most ts) (program_reads most ts) (sym (program_follows most ts) ∙ e)

finishes : (most b : ℕ) (K : List Owed) → b + 2 ≤ most → ((K ≡ []) ⊎ Ready b K) → run most (completion K) K ≡ Ok tt
finishes most b K le (inl n) = ap (λ K. run most (completion K) K) n
finishes most b K le (inr r) = completed most r le

-- what the machine reads begins a text, with what is owed after it
completes : (low b most : ℕ) (ts : List Symbol) (K : List Owed) → low ≤ most → b + 2 ≤ most → Reaches low ts start K → ((K ≡ []) ⊎ Ready b K)
    → (p : Program) × IsText (label ts start ++ label (completion K) K) p
completes low b most ts K le le' r h =
    let t = taken most (ts ++ completion K) (goes_on most le r (completion K) ∙ finishes most b K le' h) in
    (t.0, subst (λ l. IsText l t.0) (labels_on r (completion K)) t.1)

pub read_begins : (most : ℕ) (ts : List Symbol) (K : List Owed) → Reaches most ts start K → BeginsWithin most ts
read_begins most ts K r =
    let t = completes most (most + 4) (most + 6) ts K (omega arith) (omega arith) r (reached (inr (start_ready (most + 4))) r) in
    record { leveled = label ts start; more = label (completion K) K; program = t.0; tokens = kinds_label ts start; within = labels_within r; text = t.1 }

-- ---- a level that no token of a text passes

pub top : (most : ℕ) (ts : List Leveled) → (m : ℕ) × (most ≤ m) × Within m ts
top most [] = (most, omega arith, tt)
top most (t ∷ ts) = let h = top most ts in higher most h.0 t ts h.1 h.2
  where
    wider : (m n : ℕ) (ts : List Leveled) → m ≤ n → Within m ts → Within n ts
    wider m n [] le w = tt
    wider m n (t ∷ ts) le w = (omega (arith, w.0), wider m n ts le w.1)

    higher : (most m : ℕ) (t : Leveled) (ts : List Leveled) → most ≤ m → Within m ts → (n : ℕ) × (most ≤ n) × Within n (t ∷ ts)
    higher most m t ts le w = (m + t.level, omega arith, (omega arith, wider m (m + t.level) ts (omega arith) w))

kinds_append : (i j : List Leveled) → kinds (i ++ j) ≡ kinds i ++ kinds j
kinds_append [] j = refl
kinds_append (t ∷ i) j = ap (λ x. t.kind ∷ x) (kinds_append i j)

-- a text of the grammar is taken, where enough levels are allowed
text_taken : (most : ℕ) (ts : List Leveled) (p : Program) → IsText ts p → (m : ℕ) × (most ≤ m) × (run m (kinds ts) start ≡ Ok tt)
text_taken most ts p h = let t = top most ts in
    (t.0, t.1, program_follows t.0 (kinds ts) ∙ ap (λ r. resume t.0 r []) (only t.0 (kinds ts) p (record { leveled = ts; tokens = refl; within = t.2; text = h })))

-- the tokens of a text that begins with these
begun : (before : List Symbol) (t : Symbol) (l more : List Leveled) → kinds l ≡ before ++ t ∷ [] → kinds (l ++ more) ≡ before ++ t ∷ kinds more
begun before t l more e = kinds_append l more ∙ ap (λ x. x ++ kinds more) e ∙ append_assoc before (t ∷ []) (kinds more)

pub no_text : (most : ℕ) (before : List Symbol) (t : Symbol) (K : List Owed) → Reaches most before start K → settle K t ≡ None → BeginsText (before ++ t ∷ []) → ⊥
no_text most before t K r e b =
    let h = text_taken most (b.leveled ++ b.more) b.program b.text in
    let read : run h.0 (before ++ t ∷ kinds b.more) start ≡ Ok tt = ap (λ ts. run h.0 ts start) (sym (begun before t b.leveled b.more b.tokens)) ∙ h.2 in
    let stuck : run h.0 (before ++ t ∷ kinds b.more) start ≡ Err (Syntax (length (t ∷ kinds b.more))) =
    goes_on h.0 h.1 r (t ∷ kinds b.more) ∙ ap (λ o. found h.0 o (length (t ∷ kinds b.more)) (run h.0 (kinds b.more))) e in
    let both : Ok tt ≡ Err (Syntax (length (t ∷ kinds b.more))) = sym read ∙ stuck in
    absurd (cc)

-- ---- a token that opens a level too many

abbrev level_first : List Leveled → ℕ
level_first [] = 0
level_first (t ∷ ts) = t.level

abbrev after_first : List Leveled → List Leveled
after_first [] = []
after_first (t ∷ ts) = ts

inside : (most : ℕ) (a : List Leveled) (x : Leveled) (y l m : List Leveled) → a ++ x ∷ y ≡ l ++ m → length a < length l → Within most l → x.level ≤ most
inside most [] x y [] m e lt w = absurd (omega arith)
inside most [] x y (z ∷ l) m e lt w = let same : x.level ≡ z.level = ap level_first e in omega (arith, w.0)
inside most (c ∷ a) x y [] m e lt w = absurd (omega arith)
inside most (c ∷ a) x y (z ∷ l) m e lt w = inside most a x y l m (ap after_first e) (omega arith) w.1

length_kinds : (l : List Leveled) → length (kinds l) ≡ length l
length_kinds [] = refl
length_kinds (t ∷ l) = omega (arith, length_kinds l)

pub no_level : (most : ℕ) (before : List Symbol) (t : Symbol) (K L : List Owed) (d : ℕ) → Reaches most before start K → settle K t ≡ Some (d, L) → most < d
    → BeginsWithin most (before ++ t ∷ []) → ⊥
no_level most before t K L d r e deep b =
    let x = kinds b.more in
    let all : label (before ++ t ∷ x) start ≡ b.leveled ++ b.more = ap (λ ts. label ts start) (sym (begun before t b.leveled b.more b.tokens)) ∙ text_labels b.text in
    let split : label before start ++ at t d ∷ label x L ≡ b.leveled ++ b.more =
    sym (labels_on r (t ∷ x) ∙ ap (λ o. label before start ++ labeled t o (label x)) e) ∙ all in
    let short : length (label before start) ≡ length before = sym (length_kinds (label before start)) ∙ ap length (kinds_label before start) in
    let long : length b.leveled ≡ length (before ++ t ∷ []) = sym (length_kinds b.leveled) ∙ ap length b.tokens in
    let one : length (before ++ t ∷ []) ≡ length before + 1 = length-append before (t ∷ []) in
    let shown : d ≤ most = inside most (label before start) (at t d) (label x L) b.leveled b.more split (omega arith) b.within in
    omega arith

raise : {low : ℕ} {ts : List Symbol} {K L : List Owed} (most : ℕ) → low ≤ most → Reaches low ts K L → Reaches most ts K L
raise most le here = here
raise most le (reads e fits r) = reads e (omega arith) (raise most le r)

pub allowed : (most : ℕ) (before : List Symbol) (t : Symbol) (K L : List Owed) (d : ℕ) → Reaches most before start K → settle K t ≡ Some (d, L) → most < d
    → BeginsText (before ++ t ∷ [])
allowed most before t K L d r e deep =
    let b = read_begins d (before ++ t ∷ []) L (one_on t (raise d (omega arith) r) e (omega arith)) in
    record { leveled = b.leveled; more = b.more; program = b.program; tokens = b.tokens; text = b.text }

-- ---- places

place : (before rest : List Symbol) (n : ℕ) → n ≡ length rest → length (before ++ rest) - n ≡ length before
place before rest n e = omega (arith, length-append before rest)

before_place : (before rest : List Symbol) → take (length before) (before ++ rest) ≡ before
before_place before rest = take-append_seam before rest

with_place : (before : List Symbol) (t : Symbol) (ts : List Symbol) → take (suc (length before)) (before ++ t ∷ ts) ≡ before ++ t ∷ []
with_place [] t ts = refl
with_place (c ∷ before) t ts = ap (λ x. c ∷ x) (with_place before t ts)

syntax_here : (most : ℕ) (before : List Symbol) (t : Symbol) (ts : List Symbol) (K : List Owed) → Reaches most before start K → settle K t ≡ None → SyntaxAt most (before ++ t ∷ ts) (length before)
syntax_here most before t ts K r e = record {
  before = subst (BeginsWithin most) (sym (before_place before (t ∷ ts))) (read_begins most before K r);
  none = λ b. no_text most before t K r e (subst BeginsText (with_place before t ts) b);
}

deep_here : (most : ℕ) (before : List Symbol) (t : Symbol) (ts : List Symbol) (K L : List Owed) (d : ℕ) → Reaches most before start K → settle K t ≡ Some (d, L) → most < d
    → TooDeepAt most (before ++ t ∷ ts) (length before)
deep_here most before t ts K L d r e deep = record {
  before = subst (BeginsWithin most) (sym (before_place before (t ∷ ts))) (read_begins most before K r);
  allowed = subst BeginsText (sym (with_place before t ts)) (allowed most before t K L d r e deep);
  deep = λ b. no_level most before t K L d r e deep (subst (BeginsWithin most) (with_place before t ts) b);
}

-- ---- the end is there

split_last : {most : ℕ} (a : List Symbol) (t : Symbol) {K L : List Owed} → Reaches most (a ++ t ∷ []) K L → (M : List Owed) × (d : ℕ) × Reaches most a K M × (settle M t ≡ Some (d, L))
split_last [] t {K = K} (reads {d = d} e le here) = (K, d, here, e)
split_last (c ∷ a) t (reads e le r) = let h = split_last a t r in (h.0, h.1, reads e le h.2, h.3)

ends_all : (most : ℕ) (front : List Symbol) (q : Place) (K : List Owed) → Reaches most (front ++ Last q ∷ []) start K → K ≡ []
ends_all most front q K r = let h = split_last front (Last q) r in last_read h.0 h.1 (reached (inr (start_ready (most + 4))) h.2) h.3
  where
    last_read : (M : List Owed) (d : ℕ) → ((M ≡ []) ⊎ Ready (most + 4) M) → settle M (Last q) ≡ Some (d, K) → K ≡ []
    last_read M d (inl n) e = let none : ◌≡◌ {A = Option (ℕ × List Owed)} None (Some (d, K)) = sym (ap (λ M. settle M (Last q)) n) ∙ e in absurd (cc)
    last_read M d (inr r) e = end_ends q K d r e

abbrev pub HasFront : List Symbol → Type 0
HasFront ts = (front : List Symbol) × (q : Place) × (ts ≡ front ++ Last q ∷ [])

abbrev pub SyntaxIn : ℕ → List Symbol → ℕ → Type 0
SyntaxIn most ts i = (i < length ts) × SyntaxAt most ts i

abbrev pub TooDeepIn : ℕ → List Symbol → ℕ → Type 0
TooDeepIn most ts i = (i < length ts) × TooDeepAt most ts i

inside_all : (before : List Symbol) (t : Symbol) (ts : List Symbol) → length before < length (before ++ t ∷ ts)
inside_all before t ts = omega (arith, length-append before (t ∷ ts))

syntax_halted : (most n : ℕ) (before rest : List Symbol) (K : List Owed) → HasFront (before ++ rest) → Reaches most before start K → Stuck n K rest
    → SyntaxIn most (before ++ rest) (length (before ++ rest) - n)
syntax_halted most n before [] K end r why =
    let all : before ≡ end.0 ++ Last end.1 ∷ [] = sym (append-nil before) ∙ end.2 in
    let none : K ≡ [] = ends_all most end.0 end.1 K (subst (λ ts. Reaches most ts start K) all r) in
    let taken : Ok tt ≡ Err (Syntax 0) = sym (ap ended none) ∙ why.0 in absurd (cc)
syntax_halted most n before (t ∷ ts) K end r why = subst (SyntaxIn most (before ++ t ∷ ts)) (sym (place before (t ∷ ts) n why.1)) (inside_all before t ts, syntax_here most before t ts K r why.0)

deep_halted : (most n : ℕ) (before rest : List Symbol) (K : List Owed) → Reaches most before start K → Opening most n K rest → TooDeepIn most (before ++ rest) (length (before ++ rest) - n)
deep_halted most n before [] K r why = absurd why
deep_halted most n before (t ∷ ts) K r why = subst (TooDeepIn most (before ++ t ∷ ts)) (sym (place before (t ∷ ts) n why.4)) (inside_all before t ts, deep_here most before t ts K why.1 why.0 r why.2 why.3)

pub syntax_at : (most : ℕ) (ts : List Symbol) (n : ℕ) → HasFront ts → program most ts ≡ Err (Syntax n) → SyntaxIn most ts (length ts - n)
syntax_at most ts n end e =
    let h = syntax_halts most ts start n (program_follows most ts ∙ ap (λ r. resume most r []) e) in
    subst (λ ts. SyntaxIn most ts (length ts - n)) (sym h.text) (syntax_halted most n h.before h.rest h.owed (subst HasFront h.text end) h.reaches h.why)

pub deep_at : (most : ℕ) (ts : List Symbol) (n : ℕ) → program most ts ≡ Err (TooDeep n) → TooDeepIn most ts (length ts - n)
deep_at most ts n e =
    let h = deep_halts most ts start n (program_follows most ts ∙ ap (λ r. resume most r []) e) in
    subst (λ ts. TooDeepIn most ts (length ts - n)) (sym h.text) (deep_halted most n h.before h.rest h.owed h.reaches h.why)

-- ---- one program

abbrev program_of : Outcome Program → Program
program_of (Ok p) = p.0
program_of (Err e) = record { tasks = [] }

pub one_program : (most : ℕ) (ts : List Symbol) (p q : Program) (l : List Symbol) → StandsFor most ts p → program most ts ≡ Ok (q, l) → q ≡ p
one_program most ts p q l s e = ap program_of (sym e ∙ only most ts p s)

pub no_error : (most : ℕ) (ts : List Symbol) (p : Program) (e : ParseError) → StandsFor most ts p → program most ts ≡ Err e → ⊥
no_error most ts p e s h = let both : ◌≡◌ {A = Outcome Program} (Ok (p, [])) (Err e) = sym (only most ts p s) ∙ h in cc
