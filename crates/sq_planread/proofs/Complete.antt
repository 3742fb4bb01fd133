-- What the grammar derives is read, up to the first token with a level too many: lists, events and terms.
use Rattle.std.proofs.Common.{◌≡◌, ℕ, zero, suc, ◌+◌, ◌≤◌, ℤ, Bool, true, false, if◌then◌else◌, List, [], ◌∷◌, ◌++◌, length, Some, Ok, Err, refl, sym, ◌∙◌, ap, subst, arith, append_assoc, append-nil, codes}
use Rattle.std.specs.Prelude.{not}
use Rattle.sq_text.specs.declared.place.Place.{Place}
use Rattle.sq_num.specs.declared.Elem.{Elem}
use Rattle.sq_num.specs.declared.RedOp.{RedOp}
use Rattle.sq_lexer.specs.declared.token.Token.{Token}
use Rattle.sq_lexer.specs.declared.token.Kind.{Kind}
use Rattle.sq_lexer.specs.declared.token.Sign.{Sign}
use Rattle.sq_lexer.specs.declared.token.Sign.TheVariants as g
use Rattle.sq_lexer.specs.Tokens.{token}
use Rattle.sq_ast.specs.Grammar.{if_some}
use Rattle.sq_reader.specs.declared.error.ParseError.TheVariants.{Syntax}
use Rattle.sq_plantext.specs.declared.text.SlotText.{SlotText}
use Rattle.sq_plantext.specs.declared.text.ViewText.{ViewText}
use Rattle.sq_plantext.specs.declared.text.EventText.{EventText}
use Rattle.sq_plantext.specs.declared.text.EventText.TheVariants as events
use Rattle.sq_plantext.specs.declared.text.TermText.{TermText}
use Rattle.sq_plantext.specs.declared.text.TermText.TheVariants as terms
use Rattle.sq_plantext.specs.Grammar as grammar
use Rattle.sq_plantext.specs.Grammar.{Leveled, at, word, number, sign, tokens_of, Phrase, Derives, Within, elem_of, operator_of}
use Rattle.sq_planread.specs.Reading as reading
use Rattle.sq_planread.specs.Reading.{Outcome, Reader, and_then, next, place, sees_word, sees_sign, expect_sign, expect_some, natural, opening, deeper, many_from, many_after, separated, after_comma, goes_on, term, term_by, inner, value, event}
use Rattle.sq_planread.proofs.Steps.{term_is}
use Rattle.sq_planread.proofs.Leads.{Leads, there, goes, deep, leads, and_on, same, size}

-- ---- outcomes

pub then_ok : {A B : Type 0} (r : Outcome A) (f : A → Reader B) (x : A) (j : List Token) → r ≡ Ok (x, j) → and_then r f ≡ f x j
then_ok r f x j e = ap (λ r. and_then r f) e

pub some_ok : {A : Type 0} (table : Kind → _) (t : Token) (ts : List Token) (a : A) → table t.kind ≡ Some a → expect_some table (t ∷ ts) ≡ Ok (a, ts)
some_ok table t ts a e = ap (λ o. if_some o (λ a. Ok (a, ts)) (Err (Syntax (length (t ∷ ts))))) e

pub some_on : {A B : Type 0} {most d : ℕ} {t : Kind} {p : Place} {a : A} {i j : List Leveled} {o : Outcome B} (table : Kind → _) (f : A → Reader B) → table t ≡ Some a → d ≤ most
    → Leads most j o i (f a (tokens_of i)) → Leads most j o (at t p d ∷ i) (and_then (expect_some table (tokens_of (at t p d ∷ i))) f)
some_on {most = most} {t = t} {p = p} {a = a} {i = i} table f e le h = goes le (same most (then_ok (expect_some table (token t p ∷ tokens_of i)) f a (tokens_of i) (some_ok table (token t p) (tokens_of i) a e)) h)

-- ---- one after another

pub many_end : {A : Type 0} (most : ℕ) (begins : List Token → Bool) (one : Reader A) (turns : ℕ) (got : List A) (i : List Leveled) → begins (tokens_of i) ≡ false
    → Leads most i (Ok (got ++ [], tokens_of i)) i (many_from begins one turns got (tokens_of i))
unfolding many_from
many_end most begins one turns got i e = same most (ended turns) there
  where
    ended : (turns : ℕ) → many_from begins one turns got (tokens_of i) ≡ Ok (got ++ [], tokens_of i)
    ended zero = ap (λ xs. Ok (xs, tokens_of i)) (sym (append-nil got))
    ended (suc n) = ap (λ b. if b then and_then (one (tokens_of i)) (λ x. many_from begins one n (got ++ x ∷ [])) else Ok (got, tokens_of i)) e ∙ ap (λ xs. Ok (xs, tokens_of i)) (sym (append-nil got))

pub many_go : {A : Type 0} (most : ℕ) (begins : List Token → Bool) (one : Reader A) (turns : ℕ) (got : List A) (i j l : List Leveled) (x : A) (xs : List A) → begins (tokens_of i) ≡ true
    → Leads most j (Ok (x, tokens_of j)) i (one (tokens_of i)) → size j + 1 ≤ size i → size i ≤ turns
    → ((turns : ℕ) → size j ≤ turns → Leads most l (Ok ((got ++ x ∷ []) ++ xs, tokens_of l)) j (many_from begins one turns (got ++ x ∷ []) (tokens_of j)))
    → Leads most l (Ok (got ++ x ∷ xs, tokens_of l)) i (many_from begins one turns got (tokens_of i))
unfolding many_from
many_go most begins one zero got i j l x xs e r fewer enough h = absurd (omega (arith, fewer, enough))
many_go most begins one (suc n) got i j l x xs e r fewer enough h =
    same most (ap (λ b. if b then and_then (one (tokens_of i)) (λ x. many_from begins one n (got ++ x ∷ [])) else Ok (got, tokens_of i)) e)
    (subst (λ ys. Leads most l (Ok (ys, tokens_of l)) i (and_then (one (tokens_of i)) (λ x. many_from begins one n (got ++ x ∷ [])))) (append_assoc got (x ∷ []) xs)
    (leads most (and_on most (λ x. many_from begins one n (got ++ x ∷ [])) r) (h n (omega (arith, fewer, enough)))))

-- ---- how phrases begin, and that they take tokens

pub data EventStart : List Leveled → Type 0 where
  copies : {p : Place} {d : ℕ} {i : List Leveled} → EventStart (word (codes "copy") p d ∷ i)
  fills : {p : Place} {d : ℕ} {i : List Leveled} → EventStart (word (codes "fill") p d ∷ i)
  adds : {p : Place} {d : ℕ} {i : List Leveled} → EventStart (word (codes "acc") p d ∷ i)
  runs : {p : Place} {d : ℕ} {i : List Leveled} → EventStart (word (codes "run") p d ∷ i)

pub data TermStart : List Leveled → Type 0 where
  acts : {i : List Leveled} → EventStart i → TermStart i
  seqs : {p : Place} {d : ℕ} {i : List Leveled} → TermStart (word (codes "seq") p d ∷ i)
  pars : {p : Place} {d : ℕ} {i : List Leveled} → TermStart (word (codes "par") p d ∷ i)
  scopes : {p : Place} {d : ℕ} {i : List Leveled} → TermStart (word (codes "at") p d ∷ i)

abbrev pub IsNoSign : List Leveled → Type 0
IsNoSign i = (s : Sign) → sees_sign s (tokens_of i) ≡ false

pub data SlotStart : List Leveled → Type 0 where
  numbers : {n d : ℕ} {p : Place} {i : List Leveled} → SlotStart (number n p d ∷ i)

slot_starts : {d : ℕ} {s : SlotText} {i j : List Leveled} → Derives (grammar.ASlot d s) i j → SlotStart i
slot_starts grammar.a_slot = numbers

view_starts : {d : ℕ} {v : ViewText} {i j : List Leveled} → Derives (grammar.AView d v) i j → SlotStart i
view_starts (grammar.a_view is s x y) = slot_starts s

event_starts : {d : ℕ} {x : EventText} {i j : List Leveled} → Derives (grammar.AnEvent d x) i j → EventStart i
event_starts (grammar.a_copy s t) = copies
event_starts (grammar.a_fill is s t) = fills
event_starts (grammar.an_acc is it s t) = adds
event_starts (grammar.a_run s t) = runs

pub term_starts : {d : ℕ} {x : TermText} {i j : List Leveled} → Derives (grammar.ATerm d x) i j → TermStart i
term_starts (grammar.an_event h) = acts (event_starts h)
term_starts (grammar.a_seq h) = seqs
term_starts (grammar.a_par h) = pars
term_starts (grammar.a_scope h x) = scopes

event_no_sign : {i : List Leveled} → EventStart i → IsNoSign i
event_no_sign copies s = refl
event_no_sign fills s = refl
event_no_sign adds s = refl
event_no_sign runs s = refl

pub term_no_sign : {i : List Leveled} → TermStart i → IsNoSign i
term_no_sign (acts h) s = event_no_sign h s
term_no_sign seqs s = refl
term_no_sign pars s = refl
term_no_sign scopes s = refl

slot_no_sign : {i : List Leveled} → SlotStart i → IsNoSign i
slot_no_sign numbers s = refl

abbrev Shrinks : Phrase → List Leveled → List Leveled → Type 0
Shrinks (grammar.ATerm d x) i j = size j + 1 ≤ size i
Shrinks _ i j = size j ≤ size i

pub tokens_append : (i j : List Leveled) → tokens_of (i ++ j) ≡ tokens_of i ++ tokens_of j
tokens_append [] j = refl
tokens_append (t ∷ i) j = ap (λ ts. t.token ∷ ts) (tokens_append i j)

pub size_append : (i j : List Leveled) → size j ≤ size (i ++ j)
size_append [] j = omega arith
size_append (t ∷ i) j = let h = size_append i j in omega (arith, h)

pub shrinks : {P : Phrase} {i j : List Leveled} → Derives P i j → Shrinks P i j
shrinks grammar.no_more_numbers = omega arith
shrinks (grammar.one_more_number h) = omega (arith, shrinks h)
shrinks grammar.empty_list = omega arith
shrinks (grammar.a_list h) = omega (arith, shrinks h)
shrinks grammar.a_number = omega arith
shrinks grammar.a_negative = omega arith
shrinks grammar.the_lowest = omega arith
shrinks grammar.a_slot = omega arith
shrinks (grammar.a_view is s x y) = omega (arith, shrinks s, shrinks x, shrinks y)
shrinks grammar.no_more_views = omega arith
shrinks (grammar.one_more_view x y) = omega (arith, shrinks x, shrinks y)
shrinks grammar.no_views = omega arith
shrinks (grammar.some_views x y) = omega (arith, shrinks x, shrinks y)
shrinks (grammar.a_copy x y) = omega (arith, shrinks x, shrinks y)
shrinks (grammar.a_fill is x y) = omega (arith, shrinks x, shrinks y)
shrinks (grammar.an_acc is it x y) = omega (arith, shrinks x, shrinks y)
shrinks (grammar.a_run x y) = omega (arith, shrinks x, shrinks y)
shrinks (grammar.an_event x) = omega (arith, shrinks x)
shrinks (grammar.a_seq x) = omega (arith, shrinks x)
shrinks (grammar.a_par x) = omega (arith, shrinks x)
shrinks (grammar.a_scope x y) = omega (arith, shrinks x, shrinks y)
shrinks grammar.no_terms = omega arith
shrinks (grammar.one_more_term x y) = omega (arith, shrinks x, shrinks y)
shrinks grammar.no_nodes = omega arith
shrinks (grammar.one_more_node x) = omega (arith, shrinks x)
shrinks grammar.no_buffers = omega arith
shrinks (grammar.one_more_buffer x) = omega (arith, shrinks x)
shrinks (grammar.a_binding x) = omega (arith, shrinks x)
shrinks grammar.no_more_bindings = omega arith
shrinks (grammar.one_more_binding x y) = omega (arith, shrinks x, shrinks y)
shrinks grammar.no_bindings = omega arith
shrinks (grammar.some_bindings x y) = omega (arith, shrinks x, shrinks y)
shrinks grammar.no_leaves = omega arith
shrinks (grammar.one_more_leaf {l = l} task x t leaf y) = omega (arith, shrinks x, size_append task l, shrinks y)
shrinks grammar.no_arrays = omega arith
shrinks (grammar.one_more_array is it x y) = omega (arith, shrinks x, shrinks y)
shrinks (grammar.a_plan a b c d e) = omega (arith, shrinks a, shrinks b, shrinks c, shrinks d, shrinks e)

-- ---- what is read

pub within_behind : (most : ℕ) (i j : List Leveled) → Within most (i ++ j) → Within most j
within_behind most [] j w = w
within_behind most (t ∷ i) j w = within_behind most i j w.1

-- what the reader gives for a phrase
abbrev pub Says : ℕ → Phrase → List Leveled → List Leveled → Type 0
Says most (grammar.Numbers d ns) i j = d ≤ most → sees_sign g.Comma (tokens_of j) ≡ false → (turns : ℕ) (got : List ℕ) → size i ≤ turns
    → Leads most j (Ok (got ++ ns, tokens_of j)) i (many_from (sees_sign g.Comma) (after_comma natural) turns got (tokens_of i))
Says most (grammar.AList d ns) i j = (n : ℕ) → n + d ≡ most → Leads most j (Ok (ns, tokens_of j)) i (reading.list n (tokens_of i))
Says most (grammar.AValue d v) i j = d ≤ most → Leads most j (Ok (v, tokens_of j)) i (value (tokens_of i))
Says most (grammar.ASlot d s) i j = d ≤ most → Leads most j (Ok (s, tokens_of j)) i (reading.slot (tokens_of i))
Says most (grammar.AView d v) i j = (n : ℕ) → n + d ≡ most → Leads most j (Ok (v, tokens_of j)) i (reading.view n (tokens_of i))
Says most (grammar.MoreViews d vs) i j = (n : ℕ) → n + d ≡ most → sees_sign g.Comma (tokens_of j) ≡ false → (turns : ℕ) (got : List ViewText) → size i ≤ turns
    → Leads most j (Ok (got ++ vs, tokens_of j)) i (many_from (sees_sign g.Comma) (after_comma (reading.view n)) turns got (tokens_of i))
Says most (grammar.SomeViews d vs) i j = (n : ℕ) → n + d ≡ most → sees_sign g.ParenClose (tokens_of j) ≡ true → sees_sign g.Comma (tokens_of j) ≡ false
    → Leads most j (Ok (vs, tokens_of j)) i (separated g.ParenClose (reading.view n) (tokens_of i))
Says most (grammar.AnEvent d x) i j = (n : ℕ) → n + d ≡ most → Leads most j (Ok (x, tokens_of j)) i (event n (tokens_of i))
Says most (grammar.ATerm d x) i j = (n : ℕ) → n + d ≡ most → Leads most j (Ok (x, tokens_of j)) i (term n (tokens_of i))
Says most (grammar.SomeTerms d xs) i j = (n : ℕ) → n + d ≡ most → sees_sign g.BraceClose (tokens_of j) ≡ true → (turns : ℕ) (got : List TermText) → size i ≤ turns
    → Leads most j (Ok (got ++ xs, tokens_of j)) i (many_from goes_on (term n) turns got (tokens_of i))
Says most _ i j = Unit {0}

list_empty : (most m d : ℕ) → m + d ≡ most → (p q : Place) (i : List Leveled)
    → Leads most i (Ok ([], tokens_of i)) (sign g.BracketOpen p (suc d) ∷ sign g.BracketClose q d ∷ i) (reading.list m (tokens_of (sign g.BracketOpen p (suc d) ∷ sign g.BracketClose q d ∷ i)))
unfolding reading.list separated
list_empty most zero d e p q i = deep (omega (arith, e))
list_empty most (suc m) d e p q i = goes (omega (arith, e)) (goes (omega (arith, e)) there)

list_of : (most m d n : ℕ) (ns : List ℕ) → m + d ≡ most → (p q r : Place) (i j : List Leveled)
    → (suc d ≤ most → (turns : ℕ) (got : List ℕ) → size i ≤ turns
    → Leads most (sign g.BracketClose r d ∷ j) (Ok (got ++ ns, tokens_of (sign g.BracketClose r d ∷ j))) i (many_from (sees_sign g.Comma) (after_comma natural) turns got (tokens_of i)))
    → Leads most j (Ok (n ∷ ns, tokens_of j)) (sign g.BracketOpen p (suc d) ∷ number n q (suc d) ∷ i) (reading.list m (tokens_of (sign g.BracketOpen p (suc d) ∷ number n q (suc d) ∷ i)))
unfolding reading.list separated many_after
list_of most zero d n ns e p q r i j h = deep (omega (arith, e))
list_of most (suc m) d n ns e p q r i j h = goes (omega (arith, e)) (goes (omega (arith, e)) (leads most (and_on most _ (h (omega (arith, e)) (size i) (n ∷ []) (omega arith))) (goes (omega (arith, e)) there)))

slot_of : (most d b a : ℕ) (p q r : Place) (i : List Leveled) → d ≤ most
    → Leads most i (Ok (grammar.slot_text b a, tokens_of i)) (number b p d ∷ sign g.Plus q d ∷ number a r d ∷ i) (reading.slot (tokens_of (number b p d ∷ sign g.Plus q d ∷ number a r d ∷ i)))
unfolding reading.slot
slot_of most d b a p q r i le = goes le (goes le (goes le there))

view_of : (most n d : ℕ) (s : SlotText) (t : Kind) (e : Elem) (xs ys : List ℕ) (i j l m : List Leveled) (p : Place) → d ≤ most → elem_of t ≡ Some e
    → Leads most (at t p d ∷ j) (Ok (s, tokens_of (at t p d ∷ j))) i (reading.slot (tokens_of i))
    → Leads most l (Ok (xs, tokens_of l)) j (reading.list n (tokens_of j)) → Leads most m (Ok (ys, tokens_of m)) l (reading.list n (tokens_of l))
    → Leads most m (Ok (grammar.view_text s e xs ys, tokens_of m)) i (reading.view n (tokens_of i))
unfolding reading.view
view_of most n d s t e xs ys i j l m p le gives a b c = leads most (and_on most _ a) (some_on elem_of _ gives le (leads most (and_on most _ b) (and_on most _ c)))

views_of : (most n : ℕ) (v : ViewText) (vs : List ViewText) (i j l : List Leveled) → sees_sign g.ParenClose (tokens_of i) ≡ false → Leads most j (Ok (v, tokens_of j)) i (reading.view n (tokens_of i))
    → ((turns : ℕ) (got : List ViewText) → size j ≤ turns → Leads most l (Ok (got ++ vs, tokens_of l)) j (many_from (sees_sign g.Comma) (after_comma (reading.view n)) turns got (tokens_of j)))
    → Leads most l (Ok (v ∷ vs, tokens_of l)) i (separated g.ParenClose (reading.view n) (tokens_of i))
unfolding separated many_after
views_of most n v vs i j l e a h =
    same most (ap (λ b. if b then Ok ([], tokens_of i) else and_then (reading.view n (tokens_of i)) (λ first. many_after (sees_sign g.Comma) (after_comma (reading.view n)) (first ∷ []))) e)
    (leads most (and_on most (λ first. many_after (sees_sign g.Comma) (after_comma (reading.view n)) (first ∷ [])) a) (h (size j) (v ∷ []) (omega arith)))

no_views_of : (most n : ℕ) (i : List Leveled) → sees_sign g.ParenClose (tokens_of i) ≡ true → Leads most i (Ok ([], tokens_of i)) i (separated g.ParenClose (reading.view n) (tokens_of i))
unfolding separated
no_views_of most n i e = same most (ap (λ b. if b then Ok ([], tokens_of i) else and_then (reading.view n (tokens_of i)) (λ first. many_after (sees_sign g.Comma) (after_comma (reading.view n)) (first ∷ []))) e) there

-- ---- events

copy_of : (most d : ℕ) (from to : SlotText) (bytes : ℕ) (i j l : List Leveled) (q : Place) → d ≤ most → Leads most j (Ok (from, tokens_of j)) i (reading.slot (tokens_of i))
    → Leads most (number bytes q d ∷ l) (Ok (to, tokens_of (number bytes q d ∷ l))) j (reading.slot (tokens_of j)) → Leads most l (Ok (events.Copy from to bytes, tokens_of l)) i (reading.copy (tokens_of i))
unfolding reading.copy
copy_of most d from to bytes i j l q le a b = leads most (and_on most _ a) (leads most (and_on most _ b) (goes le there))

fill_of : (most d : ℕ) (to : SlotText) (t : Kind) (e : Elem) (count : ℕ) (v : ℤ) (i j l : List Leveled) (q r : Place) → d ≤ most → elem_of t ≡ Some e
    → Leads most (at t q d ∷ number count r d ∷ j) (Ok (to, tokens_of (at t q d ∷ number count r d ∷ j))) i (reading.slot (tokens_of i)) → Leads most l (Ok (v, tokens_of l)) j (value (tokens_of j))
    → Leads most l (Ok (events.Fill to e count v, tokens_of l)) i (reading.fill (tokens_of i))
unfolding reading.fill
fill_of most d to t e count v i j l q r le gives a b = leads most (and_on most _ a) (some_on elem_of _ gives le (goes le (and_on most _ b)))

acc_of : (most d : ℕ) (from to : SlotText) (t u : Kind) (op : RedOp) (e : Elem) (count : ℕ) (i j l : List Leveled) (q r s : Place) → d ≤ most → operator_of t ≡ Some op → elem_of u ≡ Some e
    → Leads most j (Ok (from, tokens_of j)) i (reading.slot (tokens_of i)) → Leads most (number count s d ∷ l) (Ok (to, tokens_of (number count s d ∷ l))) j (reading.slot (tokens_of j))
    → Leads most l (Ok (events.Acc op e from to count, tokens_of l)) (at t q d ∷ at u r d ∷ i) (reading.acc (tokens_of (at t q d ∷ at u r d ∷ i)))
unfolding reading.acc
acc_of most d from to t u op e count i j l q r s le gives type a b = some_on operator_of _ gives le (some_on elem_of _ type le (leads most (and_on most _ a) (leads most (and_on most _ b) (goes le there))))

run_of : (most m d leaf : ℕ) → m + d ≡ most → (vs : List ViewText) (path : List ℕ) (i j l : List Leveled) (q r s : Place)
    → ((n : ℕ) → n + suc d ≡ most → Leads most (sign g.ParenClose s d ∷ j) (Ok (vs, tokens_of (sign g.ParenClose s d ∷ j))) i (separated g.ParenClose (reading.view n) (tokens_of i)))
    → Leads most l (Ok (path, tokens_of l)) j (reading.list m (tokens_of j))
    → Leads most l (Ok (events.Run leaf vs path, tokens_of l)) (number leaf q d ∷ sign g.ParenOpen r (suc d) ∷ i) (reading.run m (tokens_of (number leaf q d ∷ sign g.ParenOpen r (suc d) ∷ i)))
unfolding reading.run
run_of most zero d leaf e vs path i j l q r s a b = goes (omega (arith, e)) (deep (omega (arith, e)))
run_of most (suc m) d leaf e vs path i j l q r s a b = goes (omega (arith, e)) (goes (omega (arith, e)) (leads most (and_on most _ (a m (omega (arith, e)))) (goes (omega (arith, e)) (and_on most _ b))))

-- ---- terms

event_by : (n : ℕ) (one : Reader TermText) (i : List Leveled) → EventStart i → term_by n one (tokens_of i) ≡ reading.event_at n (place (tokens_of i)) (tokens_of i)
event_by n one i copies = refl
event_by n one i fills = refl
event_by n one i adds = refl
event_by n one i runs = refl

event_of : (most n d : ℕ) (x : EventText) (i j : List Leveled) (q : Place) → d ≤ most → EventStart i → Leads most (sign g.Semi q d ∷ j) (Ok (x, tokens_of (sign g.Semi q d ∷ j))) i (event n (tokens_of i))
    → Leads most j (Ok (terms.Act (place (tokens_of i)) x, tokens_of j)) i (term n (tokens_of i))
unfolding reading.event_at
event_of most n d x i j q le starts a = same most (term_is n (tokens_of i) ∙ event_by n (inner n) i starts) (leads most (and_on most _ a) (goes le there))

parts_of : (most m d : ℕ) → m + d ≡ most → (xs : List TermText) (i j : List Leveled) (q r : Place)
    → ((n : ℕ) → n + suc d ≡ most → (turns : ℕ) (got : List TermText) → size i ≤ turns
    → Leads most (sign g.BraceClose r d ∷ j) (Ok (got ++ xs, tokens_of (sign g.BraceClose r d ∷ j))) i (many_from goes_on (term n) turns got (tokens_of i)))
    → Leads most j (Ok (xs, tokens_of j)) (sign g.BraceOpen q (suc d) ∷ i) (reading.parts m (inner m) (tokens_of (sign g.BraceOpen q (suc d) ∷ i)))
unfolding reading.parts reading.terms_to many_after inner
parts_of most zero d e xs i j q r h = deep (omega (arith, e))
parts_of most (suc n) d e xs i j q r h = goes (omega (arith, e)) (leads most (and_on most _ (h n (omega (arith, e)) (size i) [] (omega arith))) (goes (omega (arith, e)) there))

only_of : (most n d : ℕ) (x : TermText) (j l : List Leveled) (s : Place) → d ≤ most → Leads most (sign g.BraceClose s d ∷ l) (Ok (x, tokens_of (sign g.BraceClose s d ∷ l))) j (term n (tokens_of j))
    → Leads most l (Ok (x, tokens_of l)) j (reading.term_to (inner (suc n)) (tokens_of j))
unfolding reading.term_to inner
only_of most n d x j l s le e = leads most (and_on most _ e) (goes le there)

scope_of : (most m d node : ℕ) → m + d ≡ most → (bs : List ℕ) (x : TermText) (i j l : List Leveled) (p q r s : Place)
    → Leads most (sign g.BraceOpen r (suc d) ∷ j) (Ok (bs, tokens_of (sign g.BraceOpen r (suc d) ∷ j))) i (reading.list m (tokens_of i))
    → ((n : ℕ) → n + suc d ≡ most → Leads most (sign g.BraceClose s d ∷ l) (Ok (x, tokens_of (sign g.BraceClose s d ∷ l))) j (term n (tokens_of j)))
    → Leads most l (Ok (terms.At p node bs x, tokens_of l)) (number node q d ∷ i) (reading.scope m p (inner m) (tokens_of (number node q d ∷ i)))
unfolding reading.scope
scope_of most zero d node e bs x i j l p q r s a h = goes (omega (arith, e)) (leads most (and_on most _ a) (deep (omega (arith, e))))
scope_of most (suc n) d node e bs x i j l p q r s a h = goes (omega (arith, e)) (leads most (and_on most _ a) (goes (omega (arith, e)) (and_on most _ (only_of most n d x j l s (omega (arith, e)) (h n (omega (arith, e)))))))

seq_of : (most n d : ℕ) (xs : List TermText) (i j : List Leveled) (p : Place) → d ≤ most → Leads most j (Ok (xs, tokens_of j)) i (reading.parts n (inner n) (tokens_of i))
    → Leads most j (Ok (terms.Seq xs, tokens_of j)) (word (codes "seq") p d ∷ i) (term n (tokens_of (word (codes "seq") p d ∷ i)))
seq_of most n d xs i j p le h = same most (term_is n _) (goes le (and_on most (λ xs i. Ok (terms.Seq xs, i)) h))

par_of : (most n d : ℕ) (xs : List TermText) (i j : List Leveled) (p : Place) → d ≤ most → Leads most j (Ok (xs, tokens_of j)) i (reading.parts n (inner n) (tokens_of i))
    → Leads most j (Ok (terms.Par xs, tokens_of j)) (word (codes "par") p d ∷ i) (term n (tokens_of (word (codes "par") p d ∷ i)))
par_of most n d xs i j p le h = same most (term_is n _) (goes le (and_on most (λ xs i. Ok (terms.Par xs, i)) h))

goes_at : (i : List Leveled) → TermStart i → goes_on (tokens_of i) ≡ true
goes_at i h = ap not (term_no_sign h g.BraceClose)

stops : (i : List Token) → sees_sign g.BraceClose i ≡ true → goes_on i ≡ false
stops i e = ap not e

below : (most n d : ℕ) → n + d ≡ most → d ≤ most
below most n d e = omega (arith, e)

pub complete : {P : Phrase} {i j : List Leveled} (most : ℕ) → Derives P i j → Says most P i j
complete most grammar.no_more_numbers = λ le b turns got enough. many_end most (sees_sign g.Comma) (after_comma natural) turns got _ b
complete most (grammar.one_more_number h) = λ le b turns got enough. many_go most (sees_sign g.Comma) (after_comma natural) turns got _ _ _ _ _ refl (goes le (goes le there)) (omega arith) enough (λ turns more. complete most h le b turns _ more)
complete most (grammar.empty_list {d = d}) = λ n e. list_empty most n d e _ _ _
complete most (grammar.a_list {d = d} {n = k} {ns = ns} h) = λ n e. list_of most n d k ns e _ _ _ _ _ (λ le. complete most h le refl)
complete most grammar.a_number = λ le. goes le there
complete most grammar.a_negative = λ le. goes le (goes le there)
complete most grammar.the_lowest = λ le. goes le there
complete most (grammar.a_slot {d = d}) = λ le. slot_of most d _ _ _ _ _ _ le
complete most (grammar.a_view {d = d} {slot = s} {t = t} {e = k} {extents = xs} {strides = ys} is a b c) = λ n e. view_of most n d s t k xs ys _ _ _ _ _ (below most n d e) is (complete most a (below most n d e)) (complete most b n e) (complete most c n e)
complete most grammar.no_more_views = λ n e b turns got enough. many_end most (sees_sign g.Comma) (after_comma (reading.view n)) turns got _ b
complete most (grammar.one_more_view {d = d} x y) = λ n e b turns got enough. many_go most (sees_sign g.Comma) (after_comma (reading.view n)) turns got _ _ _ _ _ refl (goes (below most n d e) (complete most x n e))
    (omega (arith, shrinks x)) enough (λ turns more. complete most y n e b turns _ more)
complete most grammar.no_views = λ n e c b. no_views_of most n _ c
complete most (grammar.some_views {v = v} {vs = vs} x y) = λ n e c b. views_of most n v vs _ _ _ (slot_no_sign (view_starts x) g.ParenClose) (complete most x n e) (complete most y n e b)
complete most (grammar.a_copy {d = d} {bytes = bytes} {from = from} {to = to} x y) = λ n e. let le = below most n d e in goes le (copy_of most d from to bytes _ _ _ _ le (complete most x le) (complete most y le))
complete most (grammar.a_fill {d = d} {count = count} {to = to} {t = t} {e = k} {value = v} is x y) = λ n e. let le = below most n d e in goes le (fill_of most d to t k count v _ _ _ _ _ le is (complete most x le) (complete most y le))
complete most (grammar.an_acc {d = d} {count = count} {from = from} {to = to} {t = t} {u = u} {op = op} {e = k} is it x y) = λ n e. let le = below most n d e in
    goes le (acc_of most d from to t u op k count _ _ _ _ _ _ le is it (complete most x le) (complete most y le))
complete most (grammar.a_run {d = d} {leaf = leaf} {views = vs} {path = path} x y) = λ n e. goes (below most n d e) (run_of most n d leaf e vs path _ _ _ _ _ _
    (λ m f. complete most x m f refl refl) (complete most y n e))
complete most (grammar.an_event {d = d} {x = x} h) = λ n e. event_of most n d x _ _ _ (below most n d e) (event_starts h) (complete most h n e)
complete most (grammar.a_seq {d = d} {xs = xs} h) = λ n e. seq_of most n d xs _ _ _ (below most n d e) (parts_of most n d e xs _ _ _ _ (λ m f turns got more. complete most h m f refl turns got more))
complete most (grammar.a_par {d = d} {xs = xs} h) = λ n e. par_of most n d xs _ _ _ (below most n d e) (parts_of most n d e xs _ _ _ _ (λ m f turns got more. complete most h m f refl turns got more))
complete most (grammar.a_scope {d = d} {node = node} {buffers = bs} {x = x} a b) = λ n e.
    same most (term_is n _) (goes (below most n d e) (scope_of most n d node e bs x _ _ _ _ _ _ _ (complete most a n e) (λ m f. complete most b m f)))
complete most (grammar.no_terms {i = i}) = λ n e c turns got enough. many_end most goes_on (term n) turns got i (stops (tokens_of i) c)
complete most (grammar.one_more_term {i = i} x y) = λ n e c turns got enough. many_go most goes_on (term n) turns got _ _ _ _ _ (goes_at i (term_starts x)) (complete most x n e) (shrinks x) enough
    (λ turns more. complete most y n e c turns _ more)
complete most _ = tt
