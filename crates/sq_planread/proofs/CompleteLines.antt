-- What the grammar derives is read, up to the first token with a level too many: lines and whole files.
use Rattle.std.proofs.Common.{◌≡◌, ℕ, zero, suc, ◌≤◌, ℤ, true, false, if◌then◌else◌, List, [], ◌∷◌, ◌++◌, Some, Ok, refl, ap, subst, arith, codes}
use Rattle.std.specs.Str.{bytes_eq}
use Rattle.sq_text.specs.declared.place.Place.{Place}
use Rattle.sq_num.specs.declared.Elem.{Elem}
use Rattle.sq_lexer.specs.declared.token.Token.{Token}
use Rattle.sq_lexer.specs.declared.token.Kind.{Kind}
use Rattle.sq_lexer.specs.declared.token.Kind.TheVariants as tk
use Rattle.sq_lexer.specs.declared.token.Sign.TheVariants as g
use Rattle.sq_lexer.specs.Tokens.{token}
use Rattle.sq_ast.specs.declared.program.Mode.{Mode}
use Rattle.sq_ast.specs.declared.program.Variant.{Variant}
use Rattle.sq_ast.specs.declared.program.VariantKind.TheVariants as kinds
use Rattle.sq_ast.specs.Grammar as ast
use Rattle.sq_plantext.specs.declared.text.NodeLine.{NodeLine}
use Rattle.sq_plantext.specs.declared.text.BufferLine.{BufferLine}
use Rattle.sq_plantext.specs.declared.text.Binding.{Binding}
use Rattle.sq_plantext.specs.declared.text.LeafText.{LeafText}
use Rattle.sq_plantext.specs.declared.text.ArrayLine.{ArrayLine}
use Rattle.sq_plantext.specs.declared.text.TermText.{TermText}
use Rattle.sq_plantext.specs.declared.text.PlanText.{PlanText}
use Rattle.sq_plantext.specs.Grammar as grammar
use Rattle.sq_plantext.specs.Grammar.{Leveled, at, word, number, sign, tokens_of, symbols, unleveled, Phrase, Derives, Within, elem_of, mode_of, name_at, binding, leaf_text, array_line, plan_text, StandsFor}
use Rattle.sq_planread.specs.Reading as reading
use Rattle.sq_planread.specs.Reading.{Outcome, Reader, and_then, sees_word, sees_sign, expect_some, many_from, many_after, separated, after_comma, after_word, value}
use Rattle.sq_planread.proofs.Leads.{Leads, there, goes, deep, leads, and_on, same, all_read, size}
use Rattle.sq_planread.proofs.Complete.{some_on, many_end, many_go, TermStart, EventStart, acts, seqs, pars, scopes, copies, fills, adds, runs, term_starts, shrinks, complete, size_append}

-- ---- which words lines begin with

abbrev pub Misses : List ℕ → List Leveled → Type 0
Misses w i = sees_word w (tokens_of i) ≡ false

-- none of the words of terms
pub record IsOther (w : List ℕ) : Type 0 where
  pub copy : bytes_eq (codes "copy") w ≡ false
  pub fill : bytes_eq (codes "fill") w ≡ false
  pub acc : bytes_eq (codes "acc") w ≡ false
  pub run : bytes_eq (codes "run") w ≡ false
  pub seq : bytes_eq (codes "seq") w ≡ false
  pub par : bytes_eq (codes "par") w ≡ false
  pub at : bytes_eq (codes "at") w ≡ false

event_misses : {w : List ℕ} {i : List Leveled} → IsOther w → EventStart i → Misses w i
event_misses h copies = h.copy
event_misses h fills = h.fill
event_misses h adds = h.acc
event_misses h runs = h.run

term_misses : {w : List ℕ} {i : List Leveled} → IsOther w → TermStart i → Misses w i
term_misses h (acts e) = event_misses h e
term_misses h seqs = h.seq
term_misses h pars = h.par
term_misses h scopes = h.at

arrays_miss : (w : List ℕ) {xs : List ArrayLine} {i j : List Leveled} → bytes_eq (codes "array") w ≡ false → Derives (grammar.Arrays xs) i j → Misses w j → Misses w i
arrays_miss w e grammar.no_arrays h = h
arrays_miss w e (grammar.one_more_array is it x y) h = e

leaves_miss : (w : List ℕ) {xs : List LeafText} {i j : List Leveled} → bytes_eq (codes "leaf") w ≡ false → Derives (grammar.Leaves xs) i j → Misses w j → Misses w i
leaves_miss w e grammar.no_leaves h = h
leaves_miss w e (grammar.one_more_leaf task x t leaf y) h = e

buffers_miss : (w : List ℕ) {xs : List BufferLine} {i j : List Leveled} → bytes_eq (codes "buffer") w ≡ false → Derives (grammar.Buffers xs) i j → Misses w j → Misses w i
buffers_miss w e grammar.no_buffers h = h
buffers_miss w e (grammar.one_more_buffer x) h = e

-- ---- what is read

module _ (most levels : ℕ)
    (task_read : (v : Variant) (task l : List Leveled) → ast.Derives (ast.One ast.Task grammar.round_tasks v) (symbols task ++ unleveled l) (unleveled l) → v.kind ≡ kinds.Leaf
    → Leads most l (Ok (v, tokens_of l)) (task ++ l) (reading.task levels (tokens_of (task ++ l)))) where
  -- what the reader gives for a phrase
  abbrev pub Lines : Phrase → List Leveled → List Leveled → Type 0
  Lines (grammar.Nodes ns) i j = Misses (codes "node") j → (turns : ℕ) (got : List NodeLine) → size i ≤ turns
      → Leads most j (Ok (got ++ ns, tokens_of j)) i (many_from (sees_word (codes "node")) (after_word (λ p. reading.node)) turns got (tokens_of i))
  Lines (grammar.Buffers bs) i j = Misses (codes "buffer") j → (turns : ℕ) (got : List BufferLine) → size i ≤ turns
      → Leads most j (Ok (got ++ bs, tokens_of j)) i (many_from (sees_word (codes "buffer")) (after_word reading.buffer) turns got (tokens_of i))
  Lines (grammar.ABinding b) i j = 1 ≤ most → Leads most j (Ok (b, tokens_of j)) i (reading.one_binding (tokens_of i))
  Lines (grammar.MoreBindings bs) i j = 1 ≤ most → sees_sign g.Comma (tokens_of j) ≡ false → (turns : ℕ) (got : List Binding) → size i ≤ turns
      → Leads most j (Ok (got ++ bs, tokens_of j)) i (many_from (sees_sign g.Comma) (after_comma reading.one_binding) turns got (tokens_of i))
  Lines (grammar.SomeBindings bs) i j = 1 ≤ most → sees_sign g.ParenClose (tokens_of j) ≡ true → sees_sign g.Comma (tokens_of j) ≡ false
      → Leads most j (Ok (bs, tokens_of j)) i (separated g.ParenClose reading.one_binding (tokens_of i))
  Lines (grammar.Leaves xs) i j = Misses (codes "leaf") j → (turns : ℕ) (got : List LeafText) → size i ≤ turns
      → Leads most j (Ok (got ++ xs, tokens_of j)) i (many_from (sees_word (codes "leaf")) (after_word (reading.leaf most levels)) turns got (tokens_of i))
  Lines (grammar.Arrays xs) i j = Misses (codes "array") j → (turns : ℕ) (got : List ArrayLine) → size i ≤ turns
      → Leads most j (Ok (got ++ xs, tokens_of j)) i (many_from (sees_word (codes "array")) (after_word (λ p. reading.array most)) turns got (tokens_of i))
  Lines (grammar.APlan x) i j = (p : Place) → j ≡ at tk.End p 0 ∷ [] → Leads most [] (Ok (x, [])) i (reading.plan most levels (tokens_of i))
  Lines _ i j = Unit {0}

  node_of : (a b c d : ℕ) (q r s u v : Place) (i : List Leveled)
      → Leads most i (Ok (grammar.node_line a b c d, tokens_of i)) (number a q 0 ∷ number b r 0 ∷ number c s 0 ∷ number d u 0 ∷ sign g.Semi v 0 ∷ i)
      (reading.node (tokens_of (number a q 0 ∷ number b r 0 ∷ number c s 0 ∷ number d u 0 ∷ sign g.Semi v 0 ∷ i)))
  unfolding reading.node
  node_of a b c d q r s u v i = goes (omega arith) (goes (omega arith) (goes (omega arith) (goes (omega arith) (goes (omega arith) there))))

  buffer_of : (p : Place) (a b c : ℕ) (owner array : List ℕ) (q r s u v x : Place) (i : List Leveled)
      → Leads most i (Ok (grammar.buffer_line p a b c owner array, tokens_of i)) (number a q 0 ∷ number b r 0 ∷ number c s 0 ∷ word owner u 0 ∷ word array v 0 ∷ sign g.Semi x 0 ∷ i)
      (reading.buffer p (tokens_of (number a q 0 ∷ number b r 0 ∷ number c s 0 ∷ word owner u 0 ∷ word array v 0 ∷ sign g.Semi x 0 ∷ i)))
  unfolding reading.buffer
  buffer_of p a b c owner array q r s u v x i = goes (omega arith) (goes (omega arith) (goes (omega arith) (goes (omega arith) (goes (omega arith) (goes (omega arith) there)))))

  binding_of : (name : List ℕ) (v : ℤ) (p q : Place) (i j : List Leveled) → 1 ≤ most → Leads most j (Ok (v, tokens_of j)) i (value (tokens_of i))
      → Leads most j (Ok (binding name v, tokens_of j)) (word name p 1 ∷ sign g.Set q 1 ∷ i) (reading.one_binding (tokens_of (word name p 1 ∷ sign g.Set q 1 ∷ i)))
  unfolding reading.one_binding
  binding_of name v p q i j le e = goes le (goes le (and_on most _ e))

  bindings_of : (b : Binding) (bs : List Binding) (i j l : List Leveled) → sees_sign g.ParenClose (tokens_of i) ≡ false → Leads most j (Ok (b, tokens_of j)) i (reading.one_binding (tokens_of i))
      → ((turns : ℕ) (got : List Binding) → size j ≤ turns → Leads most l (Ok (got ++ bs, tokens_of l)) j (many_from (sees_sign g.Comma) (after_comma reading.one_binding) turns got (tokens_of j)))
      → Leads most l (Ok (b ∷ bs, tokens_of l)) i (separated g.ParenClose reading.one_binding (tokens_of i))
  unfolding separated many_after
  bindings_of b bs i j l e a h =
      same most (ap (λ c. if c then Ok ([], tokens_of i) else and_then (reading.one_binding (tokens_of i)) (λ first. many_after (sees_sign g.Comma) (after_comma reading.one_binding) (first ∷ []))) e)
      (leads most (and_on most (λ first. many_after (sees_sign g.Comma) (after_comma reading.one_binding) (first ∷ [])) a) (h (size j) (b ∷ []) (omega arith)))

  no_bindings_of : (i : List Leveled) → sees_sign g.ParenClose (tokens_of i) ≡ true → Leads most i (Ok ([], tokens_of i)) i (separated g.ParenClose reading.one_binding (tokens_of i))
  unfolding separated
  no_bindings_of i e = same most (ap (λ c. if c then Ok ([], tokens_of i) else and_then (reading.one_binding (tokens_of i)) (λ first. many_after (sees_sign g.Comma) (after_comma reading.one_binding) (first ∷ []))) e) there

  binding_no_close : {b : Binding} {i j : List Leveled} → Derives (grammar.ABinding b) i j → sees_sign g.ParenClose (tokens_of i) ≡ false
  binding_no_close (grammar.a_binding x) = refl

  leaf_of : (n : ℕ) → n ≡ most → (p : Place) (owner : List ℕ) (bs : List Binding) (v : Variant) (i j l : List Leveled) (q r s : Place)
      → (1 ≤ most → Leads most (sign g.ParenClose s 0 ∷ j) (Ok (bs, tokens_of (sign g.ParenClose s 0 ∷ j))) i (separated g.ParenClose reading.one_binding (tokens_of i)))
      → Leads most l (Ok (v, tokens_of l)) j (reading.task levels (tokens_of j))
      → Leads most l (Ok (leaf_text p owner bs v, tokens_of l)) (word owner q 0 ∷ sign g.ParenOpen r 1 ∷ i) (reading.leaf n levels p (tokens_of (word owner q 0 ∷ sign g.ParenOpen r 1 ∷ i)))
  unfolding reading.leaf
  leaf_of zero e p owner bs v i j l q r s a b = goes (omega arith) (deep (omega (arith, e)))
  leaf_of (suc m) e p owner bs v i j l q r s a b = goes (omega arith) (goes (omega (arith, e)) (leads most (and_on most _ (a (omega (arith, e)))) (goes (omega arith) (and_on most _ b))))

  array_of : (t u : Kind) (m : Mode) (e : Elem) (name extents : List ℕ) (b : ℕ) (i j : List Leveled) (q r s v x : Place) → mode_of t ≡ Some m → elem_of u ≡ Some e
      → Leads most (number b v 0 ∷ sign g.Semi x 0 ∷ j) (Ok (extents, tokens_of (number b v 0 ∷ sign g.Semi x 0 ∷ j))) i (reading.list most (tokens_of i))
      → Leads most j (Ok (array_line m e (name_at s name) extents b, tokens_of j)) (at t q 0 ∷ at u r 0 ∷ word name s 0 ∷ i) (reading.array most (tokens_of (at t q 0 ∷ at u r 0 ∷ word name s 0 ∷ i)))
  unfolding reading.array
  array_of t u m e name extents b i j q r s v x is it a = some_on mode_of _ is (omega arith) (some_on elem_of _ it (omega arith) (goes (omega arith) (leads most (and_on most _ a) (goes (omega arith) (goes (omega arith) there)))))

  plan_of : (ns : List NodeLine) (bs : List BufferLine) (ls : List LeafText) (xs : List ArrayLine) (t : TermText) (p q r z : Place) (i j l m o : List Leveled)
      → Leads most j (Ok (ns, tokens_of j)) i (reading.nodes (tokens_of i)) → Leads most l (Ok (bs, tokens_of l)) j (reading.buffers (tokens_of j))
      → Leads most m (Ok (ls, tokens_of m)) l (reading.leaves most levels (tokens_of l)) → Leads most o (Ok (xs, tokens_of o)) m (reading.arrays most (tokens_of m))
      → Leads most (at tk.End z 0 ∷ []) (Ok (t, token tk.End z ∷ [])) o (reading.term most (tokens_of o))
      → Leads most [] (Ok (plan_text ns bs ls xs t, [])) (word (codes "plan") p 0 ∷ number 1 q 0 ∷ sign g.Semi r 0 ∷ i) (reading.plan most levels (tokens_of (word (codes "plan") p 0 ∷ number 1 q 0 ∷ sign g.Semi r 0 ∷ i)))
  unfolding reading.plan reading.head
  plan_of ns bs ls xs t p q r z i j l m o a b c d e = goes (omega arith) (goes (omega arith) (goes (omega arith)
      (leads most (and_on most _ a) (leads most (and_on most _ b) (leads most (and_on most _ c) (leads most (and_on most _ d) (leads most (and_on most _ e) (goes (omega arith) there))))))))

  all_nodes : (i j : List Leveled) (ns : List NodeLine)
      → ((turns : ℕ) (got : List NodeLine) → size i ≤ turns → Leads most j (Ok (got ++ ns, tokens_of j)) i (many_from (sees_word (codes "node")) (after_word (λ p. reading.node)) turns got (tokens_of i)))
      → Leads most j (Ok (ns, tokens_of j)) i (reading.nodes (tokens_of i))
  unfolding reading.nodes many_after
  all_nodes i j ns h = h (size i) [] (omega arith)

  all_buffers : (i j : List Leveled) (bs : List BufferLine)
      → ((turns : ℕ) (got : List BufferLine) → size i ≤ turns → Leads most j (Ok (got ++ bs, tokens_of j)) i (many_from (sees_word (codes "buffer")) (after_word reading.buffer) turns got (tokens_of i)))
      → Leads most j (Ok (bs, tokens_of j)) i (reading.buffers (tokens_of i))
  unfolding reading.buffers many_after
  all_buffers i j bs h = h (size i) [] (omega arith)

  all_leaves : (i j : List Leveled) (xs : List LeafText)
      → ((turns : ℕ) (got : List LeafText) → size i ≤ turns → Leads most j (Ok (got ++ xs, tokens_of j)) i (many_from (sees_word (codes "leaf")) (after_word (reading.leaf most levels)) turns got (tokens_of i)))
      → Leads most j (Ok (xs, tokens_of j)) i (reading.leaves most levels (tokens_of i))
  unfolding reading.leaves many_after
  all_leaves i j xs h = h (size i) [] (omega arith)

  all_arrays : (i j : List Leveled) (xs : List ArrayLine)
      → ((turns : ℕ) (got : List ArrayLine) → size i ≤ turns → Leads most j (Ok (got ++ xs, tokens_of j)) i (many_from (sees_word (codes "array")) (after_word (λ p. reading.array most)) turns got (tokens_of i)))
      → Leads most j (Ok (xs, tokens_of j)) i (reading.arrays most (tokens_of i))
  unfolding reading.arrays many_after
  all_arrays i j xs h = h (size i) [] (omega arith)

  pub lines : {P : Phrase} {i j : List Leveled} → Derives P i j → Lines P i j
  lines grammar.no_nodes = λ b turns got enough. many_end most (sees_word (codes "node")) (after_word (λ p. reading.node)) turns got _ b
  lines (grammar.one_more_node {level = a} {capacity = b} {first_child = c} {children = d} x) = λ h turns got enough. many_go most (sees_word (codes "node")) (after_word (λ p. reading.node)) turns got _ _ _ _ _ refl (goes (omega arith) (node_of a b c d _ _ _ _ _ _))
      (omega arith) enough (λ turns more. lines x h turns _ more)
  lines grammar.no_buffers = λ b turns got enough. many_end most (sees_word (codes "buffer")) (after_word reading.buffer) turns got _ b
  lines (grammar.one_more_buffer {level = a} {offset = b} {size = c} {owner = owner} {array = array} x) = λ h turns got enough. many_go most (sees_word (codes "buffer")) (after_word reading.buffer) turns got _ _ _ _ _ refl
      (goes (omega arith) (buffer_of _ a b c owner array _ _ _ _ _ _ _)) (omega arith) enough (λ turns more. lines x h turns _ more)
  lines (grammar.a_binding {name = name} {value = v} x) = λ le. binding_of name v _ _ _ _ le (complete most x le)
  lines grammar.no_more_bindings = λ le b turns got enough. many_end most (sees_sign g.Comma) (after_comma reading.one_binding) turns got _ b
  lines (grammar.one_more_binding x y) = λ le b turns got enough. many_go most (sees_sign g.Comma) (after_comma reading.one_binding) turns got _ _ _ _ _ refl (goes le (lines x le)) (omega (arith, shrinks x)) enough
      (λ turns more. lines y le b turns _ more)
  lines grammar.no_bindings = λ le c b. no_bindings_of _ c
  lines (grammar.some_bindings {b = v} {bs = vs} x y) = λ le c b. bindings_of v vs _ _ _ (binding_no_close x) (lines x le) (lines y le b)
  lines grammar.no_leaves = λ b turns got enough. many_end most (sees_word (codes "leaf")) (after_word (reading.leaf most levels)) turns got _ b
  lines (grammar.one_more_leaf {owner = owner} {numbers = bs} {v = v} {l = l} task x t leaf y) = λ b turns got enough.
      many_go most (sees_word (codes "leaf")) (after_word (reading.leaf most levels)) turns got _ _ _ _ _ refl
      (goes (omega arith) (leaf_of most refl _ owner bs v _ _ _ _ _ _ (λ le. lines x le refl refl) (task_read v task l t leaf))) (omega (arith, shrinks x, size_append task l)) enough
      (λ turns more. lines y b turns _ more)
  lines grammar.no_arrays = λ b turns got enough. many_end most (sees_word (codes "array")) (after_word (λ p. reading.array most)) turns got _ b
  lines (grammar.one_more_array {t = t} {u = u} {m = m} {e = e} {name = name} {extents = extents} {buffer = k} is it x y) = λ b turns got enough.
      many_go most (sees_word (codes "array")) (after_word (λ p. reading.array most)) turns got _ _ _ _ _ refl
      (goes (omega arith) (array_of t u m e name extents k _ _ _ _ _ _ _ is it (complete most x most (omega arith)))) (omega (arith, shrinks x)) enough (λ turns more. lines y b turns _ more)
  lines (grammar.a_plan {nodes = ns} {buffers = bs} {leaves = ls} {arrays = xs} {x = t} {o = o} a b c d e) = λ p end.
      let starts = term_starts e in
      let no_array = term_misses {w = codes "array"} (record { copy = refl; fill = refl; acc = refl; run = refl; seq = refl; par = refl; at = refl }) starts in
      let no_leaf = arrays_miss (codes "leaf") refl d (term_misses {w = codes "leaf"} (record { copy = refl; fill = refl; acc = refl; run = refl; seq = refl; par = refl; at = refl }) starts) in
      let no_buffer = leaves_miss (codes "buffer") refl c (arrays_miss (codes "buffer") refl d (term_misses {w = codes "buffer"} (record { copy = refl; fill = refl; acc = refl; run = refl; seq = refl; par = refl; at = refl }) starts)) in
      let no_node = buffers_miss (codes "node") refl b (leaves_miss (codes "node") refl c (arrays_miss (codes "node") refl d (term_misses {w = codes "node"} (record { copy = refl; fill = refl; acc = refl; run = refl; seq = refl; par = refl; at = refl }) starts))) in
      plan_of ns bs ls xs t _ _ _ p _ _ _ _ _
      (all_nodes _ _ ns (lines a no_node)) (all_buffers _ _ bs (lines b no_buffer)) (all_leaves _ _ ls (lines c no_leaf)) (all_arrays _ _ xs (lines d no_array))
      (subst (λ J. Leads most J (Ok (t, tokens_of J)) o (reading.term most (tokens_of o))) end (complete most e most (omega arith)))
  lines _ = tt

  -- tokens that stand for lines are read as these
  pub plan_complete : (ts : List Token) (x : PlanText) → StandsFor most ts x → reading.plan most levels ts ≡ Ok (x, [])
  plan_complete ts x s = subst (λ ts. reading.plan most levels ts ≡ Ok (x, [])) s.tokens (all_read most (lines s.text.1 s.text.0 refl) s.within)
