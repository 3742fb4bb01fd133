-- A leaf that is read alone: it is a task that is read, of the kind of leaves, and what is read is derived.
use Rattle.std.proofs.Common.{◌≡◌, ℕ, suc, ◌+◌, ◌≤◌, ◌<◌, Bool, true, false, if◌then◌else◌, leb, List, [], ◌∷◌, ◌++◌, length, Option, Some, None, Ok, Err, refl, sym, ◌∙◌, ap, subst, arith}
use Rattle.std.proofs.lemmas.Bool.{leb-true}
use Rattle.sq_ast.specs.declared.keyword.Keyword.TheVariants as k
use Rattle.sq_ast.specs.declared.class.Class.TheVariants as c
use Rattle.sq_text.specs.declared.word.Word as tree
use Rattle.sq_ast.specs.declared.program.Variant.{Variant}
use Rattle.sq_ast.specs.declared.program.VariantKind.{VariantKind}
use Rattle.sq_ast.specs.declared.program.VariantKind.TheVariants as kind
use Rattle.sq_lexer.specs.declared.token.Sign.TheVariants as g
use Rattle.sq_ast.specs.Symbols.{Symbol, Word, Key}
use Rattle.sq_ast.specs.Grammar as grammar
use Rattle.sq_ast.specs.Grammar.{Leveled, at, kinds, Within, Phrase, Derives, no_more, one_more, a_list, a_next, a_void_task, a_task, an_inner, a_leaf, a_param, an_extent, tunables, a_tunable, a_local, a_tunable_list, an_rchop, an_ichop, a_call_stmt, a_map, a_reduction, a_range, a_call, an_arg, an_index, an_assignment, an_if, no_else, an_else, an_alternative, a_for, bare, braced, an_operand, a_chain, a_link, a_unary, a_number, a_name, an_element, a_length, brackets, the_least, the_most}
use Rattle.sq_reader.specs.declared.error.ParseError.TheVariants.{Syntax, TooDeep}
use Rattle.sq_reader.specs.Reading.{Outcome, Parser, and_then, next, expect, expect_word, opening, same, sees, listed, param, decls, many_after, begins_stmt, begins_leaf_stmt, stmt, leaf_stmt, variant, inner_task, inner_rest, leaf_task, leaf_rest, task_named, leaf_named, task, leaf}
use Rattle.sq_reader.proofs.Machine.{Owed, One, settle, found, run, labeled, label}
use Rattle.sq_reader.proofs.Labeled.{kinds_label}
use Rattle.sq_reader.proofs.Readings.{Reading}
use Rattle.sq_reader.proofs.Programs.{task_reads}
use Rattle.sq_reader.proofs.Complete.{complete}

-- ---- the kind of what is read

abbrev Each : {A : Type 0} → (A → Type 0) → Outcome A → Type 0
Each P (Ok p) = P p.0
Each P (Err e) = Unit {0}

each_then : {A B : Type 0} (P : B → Type 0) (r : Outcome A) (f : A → Parser B) → ((a : A) (j : List Symbol) → Each P (f a j)) → Each P (and_then r f)
each_then P (Ok p) f h = h p.0 p.1
each_then P (Err e) f h = tt

abbrev OfKind : VariantKind → Variant → Type 0
OfKind x v = v.kind ≡ x

inner_kind : (n : ℕ) (w : tree.Word) (i : List Symbol) → Each (OfKind kind.Inner) (inner_task n w i)
unfolding inner_task inner_rest
inner_kind n w i = each_then (OfKind kind.Inner) (listed param n i) _ (λ ps j. each_then (OfKind kind.Inner) (opening (c.Sign g.BraceOpen) n j) _ (λ m l.
    each_then (OfKind kind.Inner) (decls true m l) _ (λ ds q. each_then (OfKind kind.Inner) (many_after begins_stmt (stmt m) [] q) _ (λ xs r.
    each_then (OfKind kind.Inner) (expect (c.Sign g.BraceClose) r) _ (λ u s. refl)))))

leaf_kind : (n : ℕ) (w : tree.Word) (i : List Symbol) → Each (OfKind kind.Leaf) (leaf_task n w i)
unfolding leaf_task leaf_rest
leaf_kind n w i = each_then (OfKind kind.Leaf) (listed param n i) _ (λ ps j. each_then (OfKind kind.Leaf) (opening (c.Sign g.BraceOpen) n j) _ (λ m l.
    each_then (OfKind kind.Leaf) (decls false m l) _ (λ ds q. each_then (OfKind kind.Leaf) (many_after begins_leaf_stmt (leaf_stmt m) [] q) _ (λ xs r.
    each_then (OfKind kind.Leaf) (expect (c.Sign g.BraceClose) r) _ (λ u s. refl)))))

-- the first gives what the second gives of the kind of leaves
record Alone (r s : Outcome Variant) : Type 0 where
  pub kinds : Each (OfKind kind.Leaf) r
  pub from : (v : Variant) (j : List Symbol) → r ≡ Ok (v, j) → s ≡ Ok (v, j)
  pub to : (v : Variant) (j : List Symbol) → s ≡ Ok (v, j) → v.kind ≡ kind.Leaf → r ≡ Ok (v, j)

alone_then : {A : Type 0} (r : Outcome A) (f h : A → Parser Variant) → ((a : A) (j : List Symbol) → Alone (f a j) (h a j)) → Alone (and_then r f) (and_then r h)
alone_then (Ok p) f h e = e p.0 p.1
alone_then (Err z) f h e = record { kinds = tt; from = λ v j q. absurd (cc); to = λ v j q l. absurd (cc) }

of_inner : (r : Outcome Variant) (left : ℕ) → Each (OfKind kind.Inner) r → Alone (Err (Syntax left)) r
of_inner (Ok p) left h = record {
  kinds = tt;
  from = λ v j e. absurd (cc);
  to = λ v j e l. let same : p.0 ≡ v = cc in let both : kind.Inner ≡ kind.Leaf = sym h ∙ ap (λ (v : Variant). v.kind) same ∙ l in absurd (cc);
}
of_inner (Err z) left h = record { kinds = tt; from = λ v j e. absurd (cc); to = λ v j e l. absurd (cc) }

neither : (a b : ℕ) → Alone (Err (Syntax a)) (Err (Syntax b))
neither a b = record { kinds = tt; from = λ v j e. absurd (cc); to = λ v j e l. absurd (cc) }

variant_alone : (n : ℕ) (w : tree.Word) (i : List Symbol) → Alone (and_then (expect (c.Key k.Leaf) i) (λ u. leaf_task n w)) (variant n w i)
unfolding variant
variant_alone n w [] = neither 0 0
variant_alone n w (Key p k.Inner ∷ ts) = of_inner (inner_task n w ts) _ (inner_kind n w ts)
variant_alone n w (Key p k.Leaf ∷ ts) = record { kinds = leaf_kind n w ts; from = λ v j e. e; to = λ v j e l. e }
variant_alone n w (t ∷ ts) = neither _ _

named_alone : (n : ℕ) (i : List Symbol) → Alone (leaf_named n i) (task_named n i)
unfolding leaf_named task_named
named_alone n i = alone_then (expect (c.Key k.Task) i) _ _ (λ u j. alone_then (expect_word j) _ _ (λ w l. alone_then (expect (c.Sign g.Path) l) _ _ (λ v q. variant_alone n w q)))

if_alone : (b : Bool) (n : ℕ) (i : List Symbol) → Alone (if b then leaf_named n (next i) else leaf_named n i) (if b then task_named n (next i) else task_named n i)
if_alone true n i = named_alone n (next i)
if_alone false n i = named_alone n i

leaf_alone : (n : ℕ) (i : List Symbol) → Alone (leaf n i) (task n i)
unfolding leaf task
leaf_alone n i = if_alone (sees (c.Key k.Void) i) n i

-- ---- what is left after a phrase stands at the end of what begins with it

data Front : List Leveled → List Leveled → Type 0 where
  none : {i : List Leveled} → Front i i
  more : {t : Leveled} {i j : List Leveled} → Front i j → Front (t ∷ i) j

trans : {i j l : List Leveled} → Front i j → Front j l → Front i l
trans none g = g
trans (more f) g = more (trans f g)

-- without the token that follows
less : {t : Leveled} {i j : List Leveled} → Front i (t ∷ j) → Front i j
less f = trans f (more none)

front : {P : Phrase} {i j : List Leveled} → Derives P i j → Front i j
front no_more = none
front (one_more q r s) = trans (front r) (front s)
front (a_list r s) = more (trans (front r) (less (front s)))
front (a_next r) = more (front r)
front (a_void_task r) = more (front r)
front (a_task r) = front r
front (an_inner r s u) = more (more (more (more (trans (less (front r)) (trans (front s) (less (front u)))))))
front (a_leaf r s u) = more (more (more (more (trans (less (front r)) (trans (front s) (less (front u)))))))
front (a_param is q r s) = more (more (more (trans (front r) (front s))))
front (an_extent is) = more (more (more none))
front (tunables r) = more (more (more (less (front r))))
front a_tunable = more none
front (a_local is r s) = more (more (more (trans (front r) (less (front s)))))
front a_tunable_list = more (more (more (more (more (more none)))))
front (an_rchop r s) = more (more (more (more (more (more (more (trans (front r) (less (less (front s))))))))))
front an_ichop = more (more (more (more (more (more (more (more (more (more (more (more none)))))))))))
front (a_call_stmt r) = less (front r)
front (a_map is r s) = more (trans (less (front r)) (less (front s)))
front (a_reduction r is s) = more (trans (less (less (less (less (less (less (less (front r)))))))) (less (less (front s))))
front (a_range r) = more (more (more (more (more (front r)))))
front (a_call r) = more (front r)
front (an_arg r) = more (front r)
front (an_index r) = more (less (front r))
front (an_assignment r s is u) = more (trans (front r) (trans (less (front s)) (less (front u))))
front (an_if r s u) = more (more (trans (less (front r)) (trans (front s) (front u))))
front (no_else h) = none
front (an_else r) = front r
front (an_alternative r) = more (front r)
front (a_for r s u) = more (more (more (more (more (trans (less (less (less (front r)))) (trans (less (less (less (less (front s))))) (front u)))))))
front (bare r) = front r
front (braced r) = more (less (front r))
front (an_operand r) = front r
front (a_chain r s) = trans (front r) (front s)
front (a_link is r) = more (front r)
front (a_unary is r) = more (front r)
front a_number = more none
front a_name = more none
front (an_element r) = more (front r)
front a_length = more (more (more (more none)))
front (brackets r) = more (less (front r))
front (the_least r s) = more (more (trans (less (front r)) (less (front s))))
front (the_most r s) = more (more (trans (less (front r)) (less (front s))))

-- ---- the levels of what was read

pub record Fronted (most : ℕ) (i j : List Leveled) : Type 0 where
  pub front : List Leveled
  pub is : i ≡ front ++ j
  pub within : Within most front

-- a token of what was read is allowed at its level
taken : (most : ℕ) (t : Symbol) (ts j : List Symbol) (o : Option (ℕ × List Owed)) → length j ≤ length ts → found most o (length (t ∷ ts)) (run most ts) ≡ run most j []
    → (p : ℕ × List Owed) × (o ≡ Some p) × (p.0 ≤ most) × (run most ts p.1 ≡ run most j [])
taken most t ts [] None few e = absurd (cc)
taken most t ts (u ∷ j) None few e = let both : length (t ∷ ts) ≡ length (u ∷ j) = cc in absurd (omega (arith, both, few))
taken most t ts j (Some p) few e = at_level (leb p.0 most) refl e
  where
    at_level : (b : Bool) → leb p.0 most ≡ b → (if b then run most ts p.1 else Err (TooDeep (length (t ∷ ts)))) ≡ run most j []
        → (q : ℕ × List Owed) × (Some p ≡ Some q) × (q.0 ≤ most) × (run most ts q.1 ≡ run most j [])
    at_level true l e = (p, refl, leb-true p.0 most l, e)
    at_level false l e = none j e
      where
        none : (j : List Symbol) → Err (TooDeep (length (t ∷ ts))) ≡ run most j [] → (q : ℕ × List Owed) × (Some p ≡ Some q) × (q.0 ≤ most) × (run most ts q.1 ≡ run most j [])
        none [] e = absurd (cc)
        none (u ∷ j) e = absurd (cc)

front_length : {i j : List Leveled} → Front i j → length j ≤ length i
front_length none = omega arith
front_length (more f) = let h = front_length f in omega (arith, h)

kinds_length : (ts : List Leveled) → length (kinds ts) ≡ length ts
kinds_length [] = refl
kinds_length (t ∷ ts) = ap suc (kinds_length ts)

label_length : (i : List Symbol) (S : List Owed) → length (label i S) ≡ length i
label_length i S = sym (kinds_length (label i S)) ∙ ap length (kinds_label i S)

levels : (most : ℕ) {L R : List Leveled} → Front L R → (i j : List Symbol) (S : List Owed) → L ≡ label i S → R ≡ label j [] → run most i S ≡ run most j [] → Fronted most L R
levels most none i j S e q r = record { front = []; is = refl; within = tt }
levels most (more f) [] j S e q r = absurd (cc)
levels most (more {t = t} {i = l} {j = m} f) (s ∷ ts) j S e q r =
    let few : length j ≤ length ts = omega (arith, front_length f, ap length q ∙ label_length j [], ap length e ∙ label_length (s ∷ ts) S) in
    let h = taken most s ts j (settle S s) few r in
    let both : (t ∷ l) ≡ (at s h.0.0 ∷ label ts h.0.1) = e ∙ ap (λ o. labeled s o (label ts)) h.1 in
    let rest : l ≡ label ts h.0.1 = cc in
    let first : t ≡ at s h.0.0 = cc in
    let x = levels most f ts j h.0.1 rest q h.3 in
    record { front = t ∷ x.front; is = ap (λ ts. t ∷ ts) x.is; within = (subst (λ (t : Leveled). t.level ≤ most) (sym first) h.2, x.within) }

-- ---- a leaf

-- all at level 0
abbrev pub plain : List Symbol → List Leveled
plain [] = []
plain (t ∷ ts) = at t 0 ∷ plain ts

label_plain : (j : List Symbol) → label j [] ≡ plain j
label_plain [] = refl
label_plain (t ∷ ts) = ap (λ ts. at t 0 ∷ ts) (label_plain ts)

-- a leaf at the front of these symbols
pub record LeafFound (most d : ℕ) (v : Variant) (i j : List Symbol) : Type 0 where
  pub front : List Leveled
  pub tokens : kinds (front ++ plain j) ≡ i
  pub within : Within most front
  pub derives : Derives (grammar.One grammar.Task d v) (front ++ plain j) (plain j)
  pub leaf : v.kind ≡ kind.Leaf

found_of : (most d n : ℕ) (i : List Symbol) (v : Variant) (j : List Symbol) → v.kind ≡ kind.Leaf → run most i (One grammar.Task d ∷ []) ≡ run most j [] → Derives (grammar.One grammar.Task d v) (label i (One grammar.Task d ∷ [])) (label j [])
    → LeafFound most d v i j
found_of most d n i v j l r h =
    let f = levels most (front h) i j (One grammar.Task d ∷ []) refl refl r in
    let whole : label i (One grammar.Task d ∷ []) ≡ f.front ++ plain j = f.is ∙ ap (λ ts. f.front ++ ts) (label_plain j) in
    record {
      front = f.front;
      tokens = ap kinds (sym whole) ∙ kinds_label i (One grammar.Task d ∷ []);
      within = f.within;
      derives = subst (λ ts. Derives (grammar.One grammar.Task d v) (f.front ++ plain j) ts) (label_plain j) (subst (λ ts. Derives (grammar.One grammar.Task d v) ts (label j [])) whole h);
      leaf = l;
    }

reads_of : (most d n : ℕ) (i : List Symbol) (v : Variant) (j : List Symbol) (r : Outcome Variant) → r ≡ Ok (v, j) → Each (OfKind kind.Leaf) r
    → Reading (length i) most (One grammar.Task d ∷ []) [] (λ v a b. Derives (grammar.One grammar.Task d v) a b) i (Ok (v, j)) → LeafFound most d v i j
reads_of most d n i v j (Ok p) e l h = let same_v : p.0 ≡ v = cc in found_of most d n i v j (subst (λ (v : Variant). v.kind ≡ kind.Leaf) same_v l) h.is.1 h.is.2
reads_of most d n i v j (Err z) e l h = absurd (cc)

-- what is read is derived, with so many levels at most
pub leaf_found : (most d n : ℕ) → n + d ≡ most → (i : List Symbol) (v : Variant) (j : List Symbol) → leaf n i ≡ Ok (v, j) → LeafFound most d v i j
leaf_found most d n eq i v j e =
    let a = leaf_alone n i in
    reads_of most d n i v j (leaf n i) e a.kinds
    (subst (λ r. Reading (length i) most (One grammar.Task d ∷ []) [] (λ v a b. Derives (grammar.One grammar.Task d v) a b) i r) (a.from v j e) (task_reads most d n eq (length i) i [] (omega arith)))

-- what is derived is read
pub leaf_complete : (most d n : ℕ) → n + d ≡ most → (v : Variant) (i j : List Leveled) → Derives (grammar.One grammar.Task d v) i j → Within most i → v.kind ≡ kind.Leaf → leaf n (kinds i) ≡ Ok (v, kinds j)
leaf_complete most d n eq v i j h w l = let a = leaf_alone n (kinds i) in a.to v (kinds j) (complete most h n eq w tt) l
