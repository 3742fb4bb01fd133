-- What the readers of lines and of whole files read is derived.
use Rattle.std.proofs.Common.{◌≡◌, ℕ, ◌≤◌, ℤ, pos, Bool, true, false, if◌then◌else◌, ◌==◌, negsuc, List, [], ◌∷◌, ◌++◌, Some, None, Ok, Err, refl, sym, ap, subst, arith, codes}
use Rattle.std.proofs.lemmas.Bool.{eqb-true}
use Rattle.sq_text.specs.declared.place.Place.{Place}
use Rattle.sq_text.specs.declared.word.Word as tree
use Rattle.sq_num.specs.declared.Elem.{Elem}
use Rattle.sq_lexer.specs.declared.token.Token.{Token}
use Rattle.sq_lexer.specs.declared.token.Kind.{Kind}
use Rattle.sq_lexer.specs.declared.token.Kind.TheVariants as tk
use Rattle.sq_lexer.specs.declared.token.Sign.TheVariants as g
use Rattle.sq_lexer.specs.Tokens.{token}
use Rattle.sq_ast.specs.declared.program.Mode.{Mode}
use Rattle.sq_ast.specs.declared.program.Variant.{Variant}
use Rattle.sq_ast.specs.declared.program.VariantKind.TheVariants as kinds
use Rattle.sq_ast.specs.Grammar as ast
use Rattle.sq_plantext.specs.declared.text.NodeLine.{NodeLine}
use Rattle.sq_plantext.specs.declared.text.BufferLine.{BufferLine}
use Rattle.sq_plantext.specs.declared.text.Binding.{Binding}
use Rattle.sq_plantext.specs.declared.text.LeafText.{LeafText}
use Rattle.sq_plantext.specs.declared.text.ArrayLine.{ArrayLine}
use Rattle.sq_plantext.specs.declared.text.PlanText.{PlanText}
use Rattle.sq_plantext.specs.Grammar as grammar
use Rattle.sq_plantext.specs.Grammar.{Leveled, at, word, number, sign, tokens_of, symbols, unleveled, Derives, Within, elem_of, mode_of, name_at, binding, node_line, buffer_line, leaf_text, array_line, plan_text, IsText, StandsFor}
use Rattle.sq_planread.specs.Reading as reading
use Rattle.sq_planread.specs.Reading.{Outcome, Reader, and_then, next, place, sees_word, sees_sign, expect_word, expect_sign, expect_some, any_word, natural, opening, many_after, separated, after_comma, after_word, one_in, finish, is_end}
use Rattle.sq_planread.proofs.Found.{Reading, phrase, gives_more, choose, Is, this, sign_seen, word_seen, sign_read, word_read, table_read, name_read, natural_read, opening_read, Found, Adds, after_read}
use Rattle.sq_planread.proofs.Derived.{list_read, value_read}
use Rattle.sq_planread.proofs.DerivedTerms.{term_read}

module _ (most : ℕ) where
  -- ---- nodes and buffers

  one_node : {ns : List NodeLine} {a b c e : ℕ} {h i j l m o q r : List Token} → Is (tk.Word (codes "node")) h i → Is (tk.Number (pos a)) i j → Is (tk.Number (pos b)) j l → Is (tk.Number (pos c)) l m
      → Is (tk.Number (pos e)) m o → Is (tk.Sign g.Semi) o q → Found most (grammar.Nodes ns) q r → Found most (grammar.Nodes (node_line a b c e ∷ ns)) h r
  one_node {a = a} {b = b} {c = c} {e = e} (this {p = p}) (this {p = q}) (this {p = r}) (this {p = s}) (this {p = u}) (this {p = v}) x = record {
    before = λ J eq w.
        let y = x.before J eq w in
        record {
          from = word (codes "node") p 0 ∷ number a q 0 ∷ number b r 0 ∷ number c s 0 ∷ number e u 0 ∷ sign g.Semi v 0 ∷ y.from;
          tokens = ap (λ ts. token (tk.Word (codes "node")) p ∷ token (tk.Number (pos a)) q ∷ token (tk.Number (pos b)) r ∷ token (tk.Number (pos c)) s ∷ token (tk.Number (pos e)) u ∷ token (tk.Sign g.Semi) v ∷ ts) y.tokens;
          within = (omega arith, (omega arith, (omega arith, (omega arith, (omega arith, (omega arith, y.within))))));
          derives = grammar.one_more_node y.derives;
        };
  }

  -- a line after its first word, and those after it
  abbrev pub More : {A : Type 0} → (List A → grammar.Phrase) → List Token → A → List Token → Type 0
  More {A} D i x j = (rest : List A) (l : List Token) → Found most (D rest) j l → Found most (D (x ∷ rest)) i l

  node_reads : (i : List Token) → sees_word (codes "node") i ≡ true → Reading (λ x j. More grammar.Nodes i x j) (reading.node (next i))
  unfolding reading.node
  node_reads i e = phrase (natural (next i)) _ (natural_read (next i))
      (λ a j x. phrase (natural j) _ (natural_read j)
      (λ b l y. phrase (natural l) _ (natural_read l)
      (λ c m z. phrase (natural m) _ (natural_read m)
      (λ d o u. phrase (expect_sign g.Semi o) _ (sign_read g.Semi o)
      (λ v q semi. record { is = λ rest r h. one_node (word_seen (codes "node") i e) x y z u semi h })))))

  pub nodes_read : (i : List Token) → Reading (λ ns j. Found most (grammar.Nodes ns) i j) (reading.nodes i)
  unfolding reading.nodes
  nodes_read i = gives_more (many_after (sees_word (codes "node")) (after_word (λ p. reading.node)) [] i) (λ ns j h. subst (λ ns. Found most (grammar.Nodes ns) i j) (sym h.1) h.2)
      (after_read most grammar.Nodes (λ i. grammar.no_nodes) (sees_word (codes "node")) (after_word (λ p. reading.node)) node_reads [] i)

  one_buffer : {bs : List BufferLine} {a b c : ℕ} {owner array : List ℕ} {h i j l m o q r s : List Token} → Is (tk.Word (codes "buffer")) h i → Is (tk.Number (pos a)) i j → Is (tk.Number (pos b)) j l
      → Is (tk.Number (pos c)) l m → Is (tk.Word owner) m o → Is (tk.Word array) o q → Is (tk.Sign g.Semi) q r → Found most (grammar.Buffers bs) r s
      → Found most (grammar.Buffers (buffer_line (place h) a b c owner array ∷ bs)) h s
  one_buffer {a = a} {b = b} {c = c} {owner = owner} {array = array} (this {p = p}) (this {p = q}) (this {p = r}) (this {p = s}) (this {p = u}) (this {p = v}) (this {p = z}) x = record {
    before = λ J eq w.
        let y = x.before J eq w in
        record {
          from = word (codes "buffer") p 0 ∷ number a q 0 ∷ number b r 0 ∷ number c s 0 ∷ word owner u 0 ∷ word array v 0 ∷ sign g.Semi z 0 ∷ y.from;
          tokens = ap (λ ts. token (tk.Word (codes "buffer")) p ∷ token (tk.Number (pos a)) q ∷ token (tk.Number (pos b)) r ∷ token (tk.Number (pos c)) s ∷ token (tk.Word owner) u ∷ token (tk.Word array) v ∷ token (tk.Sign g.Semi) z ∷ ts) y.tokens;
          within = (omega arith, (omega arith, (omega arith, (omega arith, (omega arith, (omega arith, (omega arith, y.within)))))));
          derives = grammar.one_more_buffer y.derives;
        };
  }

  buffer_reads : (i : List Token) → sees_word (codes "buffer") i ≡ true → Reading (λ x j. More grammar.Buffers i x j) (reading.buffer (place i) (next i))
  unfolding reading.buffer
  buffer_reads i e = phrase (natural (next i)) _ (natural_read (next i))
      (λ a j x. phrase (natural j) _ (natural_read j)
      (λ b l y. phrase (natural l) _ (natural_read l)
      (λ c m z. phrase (any_word m) _ (name_read m)
      (λ owner o u. phrase (any_word o) _ (name_read o)
      (λ array q v. phrase (expect_sign g.Semi q) _ (sign_read g.Semi q)
      (λ t r semi. record { is = λ rest s h. one_buffer (word_seen (codes "buffer") i e) x y z u v semi h }))))))

  pub buffers_read : (i : List Token) → Reading (λ bs j. Found most (grammar.Buffers bs) i j) (reading.buffers i)
  unfolding reading.buffers
  buffers_read i = gives_more (many_after (sees_word (codes "buffer")) (after_word reading.buffer) [] i) (λ bs j h. subst (λ bs. Found most (grammar.Buffers bs) i j) (sym h.1) h.2)
      (after_read most grammar.Buffers (λ i. grammar.no_buffers) (sees_word (codes "buffer")) (after_word reading.buffer) buffer_reads [] i)

  -- ---- arrays

  one_array : {t u : Kind} {m : Mode} {e : Elem} {name extents : List ℕ} {b : ℕ} {xs : List ArrayLine} {h i j l o q r s z : List Token} → mode_of t ≡ Some m → elem_of u ≡ Some e
      → Is (tk.Word (codes "array")) h i → Is t i j → Is u j l → Is (tk.Word name) l o → Found most (grammar.AList 0 extents) o q → Is (tk.Number (pos b)) q r → Is (tk.Sign g.Semi) r s
      → Found most (grammar.Arrays xs) s z → Found most (grammar.Arrays (array_line m e (name_at (place l) name) extents b ∷ xs)) h z
  one_array {t = t} {u = u} {name = name} {b = b} gives type (this {p = p}) (this {p = q}) (this {p = r}) (this {p = s}) x (this {p = v}) (this {p = k}) y = record {
    before = λ J eq w.
        let c = y.before J eq w in
        let a = x.before (number b v 0 ∷ sign g.Semi k 0 ∷ c.from) (ap (λ ts. token (tk.Number (pos b)) v ∷ token (tk.Sign g.Semi) k ∷ ts) c.tokens) (omega arith, (omega arith, c.within)) in
        record {
          from = word (codes "array") p 0 ∷ at t q 0 ∷ at u r 0 ∷ word name s 0 ∷ a.from;
          tokens = ap (λ ts. token (tk.Word (codes "array")) p ∷ token t q ∷ token u r ∷ token (tk.Word name) s ∷ ts) a.tokens;
          within = (omega arith, (omega arith, (omega arith, (omega arith, a.within))));
          derives = grammar.one_more_array gives type a.derives c.derives;
        };
  }

  -- a name where it stands
  pub record Named (l : List Token) (w : tree.Word) (o : List Token) : Type 0 where
    pub name : List ℕ
    pub is : w ≡ name_at (place l) name
    pub at : Is (tk.Word name) l o

  named_read : (l : List Token) → Reading (Named l) (reading.array_name l)
  named_read l = phrase (any_word l) (λ name j. Ok (name_at (place l) name, j)) (name_read l) (λ name o n. record { is = record { name = name; is = refl; at = n } })

  array_reads : (i : List Token) → sees_word (codes "array") i ≡ true → Reading (λ x j. More grammar.Arrays i x j) (reading.array most (next i))
  unfolding reading.array
  array_reads i e = phrase (expect_some mode_of (next i)) _ (table_read mode_of refl (next i))
      (λ m j t. phrase (expect_some elem_of j) _ (table_read elem_of refl j)
      (λ k l u. phrase (reading.array_name l) _ (named_read l)
      (λ w o n. phrase (reading.list most o) _ (list_read most most 0 (omega arith) o)
      (λ extents q x. phrase (natural q) _ (natural_read q)
      (λ b r y. phrase (expect_sign g.Semi r) _ (sign_read g.Semi r)
      (λ v s semi. record { is = λ rest z h. subst (λ w. Found most (grammar.Arrays (array_line m k w extents b ∷ rest)) i z) (sym n.is) (one_array t.gives u.gives (word_seen (codes "array") i e) t.is u.is n.at x y semi h) }))))))

  pub arrays_read : (i : List Token) → Reading (λ xs j. Found most (grammar.Arrays xs) i j) (reading.arrays most i)
  unfolding reading.arrays
  arrays_read i = gives_more (many_after (sees_word (codes "array")) (after_word (λ p. reading.array most)) [] i) (λ xs j h. subst (λ xs. Found most (grammar.Arrays xs) i j) (sym h.1) h.2)
      (after_read most grammar.Arrays (λ i. grammar.no_arrays) (sees_word (codes "array")) (after_word (λ p. reading.array most)) array_reads [] i)

  -- ---- leaves

  a_binding : {name : List ℕ} {v : ℤ} {i j l m : List Token} → 1 ≤ most → Is (tk.Word name) i j → Is (tk.Sign g.Set) j l → Found most (grammar.AValue 1 v) l m → Found most (grammar.ABinding (binding name v)) i m
  a_binding {name = name} le (this {p = p}) (this {p = q}) x = record {
    before = λ J e w.
        let a = x.before J e w in
        record { from = word name p 1 ∷ sign g.Set q 1 ∷ a.from; tokens = ap (λ ts. token (tk.Word name) p ∷ token (tk.Sign g.Set) q ∷ ts) a.tokens; within = (le, (le, a.within)); derives = grammar.a_binding a.derives };
  }

  binding_read : 1 ≤ most → (i : List Token) → Reading (λ b j. Found most (grammar.ABinding b) i j) (reading.one_binding i)
  unfolding reading.one_binding
  binding_read le i = phrase (any_word i) _ (name_read i)
      (λ name j n. phrase (expect_sign g.Set j) _ (sign_read g.Set j)
      (λ u l set. phrase (reading.value l) _ (value_read most 1 le l) (λ v m x. record { is = a_binding le n set x })))

  more_bindings : {b : Binding} {bs : List Binding} {i j l m : List Token} → 1 ≤ most → Is (tk.Sign g.Comma) i j → Found most (grammar.ABinding b) j l → Found most (grammar.MoreBindings bs) l m
      → Found most (grammar.MoreBindings (b ∷ bs)) i m
  more_bindings le (this {p = p}) x y = record {
    before = λ J e w.
        let b = y.before J e w in
        let a = x.before b.from b.tokens b.within in
        record { from = sign g.Comma p 1 ∷ a.from; tokens = ap (λ ts. token (tk.Sign g.Comma) p ∷ ts) a.tokens; within = (le, a.within); derives = grammar.one_more_binding a.derives b.derives };
  }

  bindings_after : 1 ≤ most → (found : List Binding) (i : List Token) → Reading (Adds most grammar.MoreBindings found i) (many_after (sees_sign g.Comma) (after_comma reading.one_binding) found i)
  bindings_after le found i = after_read most grammar.MoreBindings (λ i. grammar.no_more_bindings) (sees_sign g.Comma) (after_comma reading.one_binding)
      (λ i e. gives_more (reading.one_binding (next i)) (λ b j x rest l h. more_bindings le (sign_seen g.Comma i e) x h) (binding_read le (next i))) found i

  some_bindings : {b : Binding} {bs : List Binding} {i j l : List Token} → Found most (grammar.ABinding b) i j → Found most (grammar.MoreBindings bs) j l → Found most (grammar.SomeBindings (b ∷ bs)) i l
  some_bindings x y = record {
    before = λ J e w.
        let b = y.before J e w in
        let a = x.before b.from b.tokens b.within in
        record { from = a.from; tokens = a.tokens; within = a.within; derives = grammar.some_bindings a.derives b.derives };
  }

  bindings_read : 1 ≤ most → (i : List Token) → Reading (λ bs j. Found most (grammar.SomeBindings bs) i j) (separated g.ParenClose reading.one_binding i)
  unfolding separated
  bindings_read le i = choose (sees_sign g.ParenClose i)
      (λ e. record { is = record { before = λ J e w. record { from = J; tokens = e; within = w; derives = grammar.no_bindings } } })
      (λ e. phrase (reading.one_binding i) (λ b. many_after (sees_sign g.Comma) (after_comma reading.one_binding) (b ∷ [])) (binding_read le i)
      (λ b j first. joined b j first (many_after (sees_sign g.Comma) (after_comma reading.one_binding) (b ∷ []) j) (bindings_after le (b ∷ []) j)))
    where
      joined : (b : Binding) (j : List Token) → Found most (grammar.ABinding b) i j → (r : Outcome (List Binding)) → Reading (Adds most grammar.MoreBindings (b ∷ []) j) r
          → Reading (λ bs j. Found most (grammar.SomeBindings bs) i j) r
      joined b j first (Ok p) h = record { is = subst (λ bs. Found most (grammar.SomeBindings bs) i p.1) (sym h.is.1) (some_bindings first h.is.2) }
      joined b j first (Err e) h = record { is = tt }

  -- a leaf's task, whatever the levels of what is left after it
  pub record Task (v : Variant) (i : List Token) (J : List Leveled) : Type 0 where
    pub task : List Leveled
    pub tokens : tokens_of (task ++ J) ≡ i
    pub within : Within most (task ++ J)
    pub derives : ast.Derives (ast.One ast.Task grammar.round_tasks v) (symbols task ++ unleveled J) (unleveled J)
    pub leaf : v.kind ≡ kinds.Leaf

  pub record IsTask (v : Variant) (i j : List Token) : Type 0 where
    pub before : (J : List Leveled) → tokens_of J ≡ j → Within most J → Task v i J

  one_leaf : {owner : List ℕ} {bs : List Binding} {v : Variant} {xs : List LeafText} {h i j l m o q r : List Token} → 1 ≤ most → Is (tk.Word (codes "leaf")) h i → Is (tk.Word owner) i j → Is (tk.Sign g.ParenOpen) j l
      → Found most (grammar.SomeBindings bs) l m → Is (tk.Sign g.ParenClose) m o → IsTask v o q → Found most (grammar.Leaves xs) q r
      → Found most (grammar.Leaves (leaf_text (place h) owner bs v ∷ xs)) h r
  one_leaf {owner = owner} le (this {p = p}) (this {p = q}) (this {p = r}) x (this {p = s}) t y = record {
    before = λ J e w.
        let c = y.before J e w in
        let b = t.before c.from c.tokens c.within in
        let a = x.before (sign g.ParenClose s 0 ∷ b.task ++ c.from) (ap (λ ts. token (tk.Sign g.ParenClose) s ∷ ts) b.tokens) (omega arith, b.within) in
        record {
          from = word (codes "leaf") p 0 ∷ word owner q 0 ∷ sign g.ParenOpen r 1 ∷ a.from;
          tokens = ap (λ ts. token (tk.Word (codes "leaf")) p ∷ token (tk.Word owner) q ∷ token (tk.Sign g.ParenOpen) r ∷ ts) a.tokens;
          within = (omega arith, (omega arith, (le, a.within)));
          derives = grammar.one_more_leaf b.task a.derives b.derives b.leaf c.derives;
        };
  }

  -- what the parser of programs reads as a leaf with so many levels is one
  module _ (levels : ℕ) (task_read : (i : List Token) → Reading (λ v j. IsTask v i j) (reading.task levels i)) where
    leaf_reads : (i : List Token) → sees_word (codes "leaf") i ≡ true → Reading (λ x j. More grammar.Leaves i x j) (reading.leaf most levels (place i) (next i))
    unfolding reading.leaf
    leaf_reads i e = phrase (any_word (next i)) _ (name_read (next i))
        (λ owner j n. phrase (opening g.ParenOpen most j) _ (opening_read g.ParenOpen most j)
        (λ k l o. phrase (separated g.ParenClose reading.one_binding l) _ (bindings_read (omega (arith, o.left)) l)
        (λ bs m x. phrase (expect_sign g.ParenClose m) _ (sign_read g.ParenClose m)
        (λ u q close. phrase (reading.task levels q) _ (task_read q)
        (λ v r t. record { is = λ rest z h. one_leaf (omega (arith, o.left)) (word_seen (codes "leaf") i e) n o.is x close t h })))))

    leaves_read : (i : List Token) → Reading (λ xs j. Found most (grammar.Leaves xs) i j) (reading.leaves most levels i)
    unfolding reading.leaves
    leaves_read i = gives_more (many_after (sees_word (codes "leaf")) (after_word (reading.leaf most levels)) [] i) (λ xs j h. subst (λ xs. Found most (grammar.Leaves xs) i j) (sym h.1) h.2)
        (after_read most grammar.Leaves (λ i. grammar.no_leaves) (sees_word (codes "leaf")) (after_word (reading.leaf most levels)) leaf_reads [] i)

    -- ---- files

    a_plan : {ns : List NodeLine} {bs : List BufferLine} {ls : List LeafText} {xs : List ArrayLine} {x : _} {h i j l m o q r s : List Token} → Is (tk.Word (codes "plan")) h i → Is (tk.Number (pos 1)) i j → Is (tk.Sign g.Semi) j l
        → Found most (grammar.Nodes ns) l m → Found most (grammar.Buffers bs) m o → Found most (grammar.Leaves ls) o q → Found most (grammar.Arrays xs) q r → Found most (grammar.ATerm 0 x) r s
        → Found most (grammar.APlan (plan_text ns bs ls xs x)) h s
    a_plan (this {p = p}) (this {p = q}) (this {p = r}) x y z u v = record {
      before = λ J eq w.
          let e = v.before J eq w in
          let d = u.before e.from e.tokens e.within in
          let c = z.before d.from d.tokens d.within in
          let b = y.before c.from c.tokens c.within in
          let a = x.before b.from b.tokens b.within in
          record {
            from = word (codes "plan") p 0 ∷ number 1 q 0 ∷ sign g.Semi r 0 ∷ a.from;
            tokens = ap (λ ts. token (tk.Word (codes "plan")) p ∷ token (tk.Number (pos 1)) q ∷ token (tk.Sign g.Semi) r ∷ ts) a.tokens;
            within = (omega arith, (omega arith, (omega arith, a.within)));
            derives = grammar.a_plan a.derives b.derives c.derives d.derives e.derives;
          };
    }

    -- the head of a file
    pub record Headed (i j : List Token) : Type 0 where
      pub second : List Token
      pub third : List Token
      pub plan : Is (tk.Word (codes "plan")) i second
      pub one : Is (tk.Number (pos 1)) second third
      pub semi : Is (tk.Sign g.Semi) third j

    of_value : (n : ℕ) (b : Bool) (u : Unit {0}) → (n == 1) ≡ b → (if b then Some tt else None) ≡ Some u → n ≡ 1
    of_value n true u e h = eqb-true n 1 e
    of_value n false u e h = absurd (cc)

    the_one : (k : Kind) (u : Unit {0}) → one_in k ≡ Some u → k ≡ tk.Number (pos 1)
    the_one (tk.Number (pos n)) u e = ap (λ n. tk.Number (pos n)) (of_value n (n == 1) u refl e)
    the_one (tk.Number (negsuc n)) u e = absurd (cc)
    the_one (tk.Word w) u e = absurd (cc)
    the_one (tk.Sign s) u e = absurd (cc)
    the_one tk.End u e = absurd (cc)

    head_read : (i : List Token) → Reading (λ u j. Headed i j) (reading.head i)
    unfolding reading.head
    head_read i = phrase (expect_word (codes "plan") i) _ (word_read (codes "plan") i)
        (λ u j x. phrase (expect_some one_in j) _ (table_read one_in refl j)
        (λ v l y. gives_more (expect_sign g.Semi l) (λ w m z. record { second = j; third = l; plan = x; one = subst (λ k. Is k j l) (the_one y.kind v y.gives) y.is; semi = z }) (sign_read g.Semi l)))

    -- the end, and no more
    abbrev Last : List Token → Type 0
    Last i = (p : Place) × (i ≡ token tk.End p ∷ [])

    the_end : (k : Kind) → is_end k ≡ true → k ≡ tk.End
    the_end tk.End e = refl
    the_end (tk.Word w) e = absurd (cc)
    the_end (tk.Number n) e = absurd (cc)
    the_end (tk.Sign s) e = absurd (cc)

    finish_read : (i : List Token) → Reading (λ u j. Last i) (finish i)
    finish_read [] = record { is = tt }
    finish_read (t ∷ []) = choose (is_end t.kind) (λ e. record { is = (t.place, ap (λ k. token k t.place ∷ []) (the_end t.kind e)) }) (λ e. record { is = tt })
    finish_read (t ∷ u ∷ ts) = record { is = tt }

    stands : (i j : List Token) (x : PlanText) → Found most (grammar.APlan x) i j → Last j → StandsFor most i x
    stands i j x h (p, e) =
        let a = h.before (at tk.End p 0 ∷ []) (sym e) (omega arith, tt) in
        record { leveled = a.from; tokens = a.tokens; within = a.within; text = (p, a.derives) }

    -- what is read is a text, with so many levels at most
    pub plan_read : (i : List Token) → Reading (λ x j. StandsFor most i x) (reading.plan most levels i)
    unfolding reading.plan
    plan_read i = phrase (reading.head i) _ (head_read i)
        (λ u h a. phrase (reading.nodes h) _ (nodes_read h)
        (λ ns j x. phrase (reading.buffers j) _ (buffers_read j)
        (λ bs l y. phrase (reading.leaves most levels l) _ (leaves_read l)
        (λ ls m z. phrase (reading.arrays most m) _ (arrays_read m)
        (λ xs o c. phrase (reading.term most o) _ (term_read most most 0 (omega arith) o)
        (λ t q d. phrase (finish q) _ (finish_read q)
        (λ v r last. record { is = stands i q (plan_text ns bs ls xs t) (a_plan a.plan a.one a.semi x y z c d) last })))))))
