-- What the readers of events and terms read is derived.
use Rattle.std.proofs.Common.{◌≡◌, ℕ, zero, suc, ◌+◌, ◌≤◌, ℤ, pos, true, List, [], ◌∷◌, Some, refl, sym, ap, subst, arith, codes}
use Rattle.sq_text.specs.declared.place.Place.{Place}
use Rattle.sq_num.specs.declared.Elem.{Elem}
use Rattle.sq_num.specs.declared.RedOp.{RedOp}
use Rattle.sq_lexer.specs.declared.token.Token.{Token}
use Rattle.sq_lexer.specs.declared.token.Kind.{Kind}
use Rattle.sq_lexer.specs.declared.token.Kind.TheVariants as tk
use Rattle.sq_lexer.specs.declared.token.Sign.TheVariants as g
use Rattle.sq_lexer.specs.Tokens.{token}
use Rattle.sq_plantext.specs.declared.text.SlotText.{SlotText}
use Rattle.sq_plantext.specs.declared.text.ViewText.{ViewText}
use Rattle.sq_plantext.specs.declared.text.EventText.{EventText}
use Rattle.sq_plantext.specs.declared.text.EventText.TheVariants as events
use Rattle.sq_plantext.specs.declared.text.TermText.{TermText}
use Rattle.sq_plantext.specs.declared.text.TermText.TheVariants as terms
use Rattle.sq_plantext.specs.Grammar as grammar
use Rattle.sq_plantext.specs.Grammar.{Leveled, at, word, number, sign, tokens_of, Derives, Within, elem_of, operator_of}
use Rattle.sq_planread.specs.Reading as reading
use Rattle.sq_planread.specs.Reading.{Outcome, Reader, and_then, next, place, sees_word, expect_sign, expect_some, natural, opening, many_after, separated, goes_on, refuse, term, term_by}
use Rattle.sq_planread.proofs.Found.{Reading, phrase, gives_more, choose, Is, this, word_seen, sign_read, table_read, natural_read, opening_read, Found, Adds, after_read}
use Rattle.sq_planread.proofs.Derived.{list_read, value_read, slot_read, views_read}

module _ (most : ℕ) where
  -- ---- events

  -- behind the first word of an event, up to its `;`
  pub record Behind (d : ℕ) (w : List ℕ) (x : EventText) (j : List Token) (J : List Leveled) : Type 0 where
    pub from : List Leveled
    pub tokens : tokens_of from ≡ j
    pub within : Within most from
    pub derives : (p : Place) → Derives (grammar.AnEvent d x) (word w p d ∷ from) J

  pub record Follows (d : ℕ) (w : List ℕ) (x : EventText) (j l : List Token) : Type 0 where
    pub before : (J : List Leveled) → tokens_of J ≡ l → Within most J → Behind d w x j J

  an_event : {d : ℕ} {w : List ℕ} {x : EventText} {i j l m : List Token} → d ≤ most → Is (tk.Word w) i j → Follows d w x j l → Is (tk.Sign g.Semi) l m → Found most (grammar.ATerm d (terms.Act (place i) x)) i m
  an_event {d = d} {w = w} le (this {p = p}) f (this {p = q}) = record {
    before = λ J e within.
        let b = f.before (sign g.Semi q d ∷ J) (ap (λ ts. token (tk.Sign g.Semi) q ∷ ts) e) (le, within) in
        record { from = word w p d ∷ b.from; tokens = ap (λ ts. token (tk.Word w) p ∷ ts) b.tokens; within = (le, b.within); derives = grammar.an_event (b.derives p) };
  }

  copied : {d bytes : ℕ} {from to : SlotText} {i j l m : List Token} → d ≤ most → Found most (grammar.ASlot d from) i j → Found most (grammar.ASlot d to) j l → Is (tk.Number (pos bytes)) l m
      → Follows d (codes "copy") (events.Copy from to bytes) i m
  copied {d = d} {bytes = bytes} le x y (this {p = q}) = record {
    before = λ J e w.
        let b = y.before (number bytes q d ∷ J) (ap (λ ts. token (tk.Number (pos bytes)) q ∷ ts) e) (le, w) in
        let a = x.before b.from b.tokens b.within in
        record { from = a.from; tokens = a.tokens; within = a.within; derives = λ p. grammar.a_copy a.derives b.derives };
  }

  copy_read : (d : ℕ) → d ≤ most → (i : List Token) → Reading (λ x j. Follows d (codes "copy") x i j) (reading.copy i)
  unfolding reading.copy
  copy_read d le i = phrase (reading.slot i) _ (slot_read most d le i)
      (λ from j x. phrase (reading.slot j) _ (slot_read most d le j)
      (λ to l y. phrase (natural l) _ (natural_read l) (λ n m z. record { is = copied le x y z })))

  filled : {d count : ℕ} {to : SlotText} {t : Kind} {e : Elem} {v : ℤ} {i j l m o : List Token} → d ≤ most → elem_of t ≡ Some e → Found most (grammar.ASlot d to) i j → Is t j l → Is (tk.Number (pos count)) l m
      → Found most (grammar.AValue d v) m o → Follows d (codes "fill") (events.Fill to e count v) i o
  filled {d = d} {count = count} {t = t} le gives x (this {p = q}) (this {p = r}) y = record {
    before = λ J e w.
        let b = y.before J e w in
        let a = x.before (at t q d ∷ number count r d ∷ b.from) (ap (λ ts. token t q ∷ token (tk.Number (pos count)) r ∷ ts) b.tokens) (le, (le, b.within)) in
        record { from = a.from; tokens = a.tokens; within = a.within; derives = λ p. grammar.a_fill gives a.derives b.derives };
  }

  fill_read : (d : ℕ) → d ≤ most → (i : List Token) → Reading (λ x j. Follows d (codes "fill") x i j) (reading.fill i)
  unfolding reading.fill
  fill_read d le i = phrase (reading.slot i) _ (slot_read most d le i)
      (λ to j x. phrase (expect_some elem_of j) _ (table_read elem_of refl j)
      (λ e l t. phrase (natural l) _ (natural_read l)
      (λ n m z. phrase (reading.value m) _ (value_read most d le m) (λ v o y. record { is = filled le t.gives x t.is z y }))))

  added : {d count : ℕ} {from to : SlotText} {t u : Kind} {op : RedOp} {e : Elem} {h i j l m o : List Token} → d ≤ most → operator_of t ≡ Some op → elem_of u ≡ Some e → Is t h i → Is u i j
      → Found most (grammar.ASlot d from) j l → Found most (grammar.ASlot d to) l m → Is (tk.Number (pos count)) m o → Follows d (codes "acc") (events.Acc op e from to count) h o
  added {d = d} {count = count} {t = t} {u = u} le gives gives_type (this {p = q}) (this {p = r}) x y (this {p = s}) = record {
    before = λ J e w.
        let b = y.before (number count s d ∷ J) (ap (λ ts. token (tk.Number (pos count)) s ∷ ts) e) (le, w) in
        let a = x.before b.from b.tokens b.within in
        record {
          from = at t q d ∷ at u r d ∷ a.from;
          tokens = ap (λ ts. token t q ∷ token u r ∷ ts) a.tokens;
          within = (le, (le, a.within));
          derives = λ p. grammar.an_acc gives gives_type a.derives b.derives;
        };
  }

  acc_read : (d : ℕ) → d ≤ most → (i : List Token) → Reading (λ x j. Follows d (codes "acc") x i j) (reading.acc i)
  unfolding reading.acc
  acc_read d le i = phrase (expect_some operator_of i) _ (table_read operator_of refl i)
      (λ op h t. phrase (expect_some elem_of h) _ (table_read elem_of refl h)
      (λ e j u. phrase (reading.slot j) _ (slot_read most d le j)
      (λ from l x. phrase (reading.slot l) _ (slot_read most d le l)
      (λ to m y. phrase (natural m) _ (natural_read m) (λ n o z. record { is = added le t.gives u.gives t.is u.is x y z })))))

  ran : {d leaf : ℕ} {views : List ViewText} {path : List ℕ} {h i j l m o : List Token} → d ≤ most → suc d ≤ most → Is (tk.Number (pos leaf)) h i → Is (tk.Sign g.ParenOpen) i j
      → Found most (grammar.SomeViews (suc d) views) j l → Is (tk.Sign g.ParenClose) l m → Found most (grammar.AList d path) m o → Follows d (codes "run") (events.Run leaf views path) h o
  ran {d = d} {leaf = leaf} le more (this {p = q}) (this {p = r}) x (this {p = s}) y = record {
    before = λ J e w.
        let b = y.before J e w in
        let a = x.before (sign g.ParenClose s d ∷ b.from) (ap (λ ts. token (tk.Sign g.ParenClose) s ∷ ts) b.tokens) (le, b.within) in
        record {
          from = number leaf q d ∷ sign g.ParenOpen r (suc d) ∷ a.from;
          tokens = ap (λ ts. token (tk.Number (pos leaf)) q ∷ token (tk.Sign g.ParenOpen) r ∷ ts) a.tokens;
          within = (le, (more, a.within));
          derives = λ p. grammar.a_run a.derives b.derives;
        };
  }

  run_read : (n d : ℕ) → n + d ≡ most → (i : List Token) → Reading (λ x j. Follows d (codes "run") x i j) (reading.run n i)
  unfolding reading.run
  run_read n d eq i = phrase (natural i) _ (natural_read i)
      (λ leaf h first. phrase (opening g.ParenOpen n h) _ (opening_read g.ParenOpen n h)
      (λ m j o. phrase (separated g.ParenClose (reading.view m) j) _ (views_read most m (suc d) (omega (arith, eq, o.left)) j)
      (λ views l x. phrase (expect_sign g.ParenClose l) _ (sign_read g.ParenClose l)
      (λ u q close. phrase (reading.list n q) _ (list_read most n d eq q)
      (λ path r y. record { is = ran (omega (arith, eq)) (omega (arith, eq, o.left)) first o.is x close y })))))

  -- an event where it stands, up to its `;`
  abbrev Ends : ℕ → List Token → EventText → List Token → Type 0
  Ends d i x j = (l : List Token) → Is (tk.Sign g.Semi) j l → Found most (grammar.ATerm d (terms.Act (place i) x)) i l

  event_read : (n d : ℕ) → n + d ≡ most → (i : List Token) → Reading (Ends d i) (reading.event n i)
  event_read n d eq i =
      let le : d ≤ most = omega (arith, eq) in
      choose (sees_word (codes "copy") i) (λ e. gives_more (reading.copy (next i)) (λ x j f l semi. an_event le (word_seen (codes "copy") i e) f semi) (copy_read d le (next i)))
      (λ e. choose (sees_word (codes "fill") i) (λ e. gives_more (reading.fill (next i)) (λ x j f l semi. an_event le (word_seen (codes "fill") i e) f semi) (fill_read d le (next i)))
      (λ e. choose (sees_word (codes "acc") i) (λ e. gives_more (reading.acc (next i)) (λ x j f l semi. an_event le (word_seen (codes "acc") i e) f semi) (acc_read d le (next i)))
      (λ e. choose (sees_word (codes "run") i) (λ e. gives_more (reading.run n (next i)) (λ x j f l semi. an_event le (word_seen (codes "run") i e) f semi) (run_read n d eq (next i)))
      (λ e. record { is = tt }))))

  event_at_read : (n d : ℕ) → n + d ≡ most → (i : List Token) → Reading (λ x j. Found most (grammar.ATerm d x) i j) (reading.event_at n (place i) i)
  unfolding reading.event_at
  event_at_read n d eq i = phrase (reading.event n i) _ (event_read n d eq i)
      (λ x j f. phrase (expect_sign g.Semi j) _ (sign_read g.Semi j) (λ u l semi. record { is = f l semi }))

  -- ---- terms

  one_term : {d : ℕ} {x : TermText} {xs : List TermText} {i j l : List Token} → Found most (grammar.ATerm d x) i j → Found most (grammar.SomeTerms d xs) j l → Found most (grammar.SomeTerms d (x ∷ xs)) i l
  one_term x y = record {
    before = λ J e w.
        let b = y.before J e w in
        let a = x.before b.from b.tokens b.within in
        record { from = a.from; tokens = a.tokens; within = a.within; derives = grammar.one_more_term a.derives b.derives };
  }

  -- terms between braces
  pub record Braced (d : ℕ) (xs : List TermText) (i j : List Token) : Type 0 where
    pub inside : List Token
    pub behind : List Token
    pub opened : Is (tk.Sign g.BraceOpen) i inside
    pub within : suc d ≤ most
    pub terms : Found most (grammar.SomeTerms (suc d) xs) inside behind
    pub closed : Is (tk.Sign g.BraceClose) behind j

  in_seq : {d : ℕ} {xs : List TermText} {h i j l m : List Token} → d ≤ most → suc d ≤ most → Is (tk.Word (codes "seq")) h i → Is (tk.Sign g.BraceOpen) i j
      → Found most (grammar.SomeTerms (suc d) xs) j l → Is (tk.Sign g.BraceClose) l m → Found most (grammar.ATerm d (terms.Seq xs)) h m
  in_seq {d = d} le more (this {p = p}) (this {p = q}) x (this {p = r}) = record {
    before = λ J e w.
        let a = x.before (sign g.BraceClose r d ∷ J) (ap (λ ts. token (tk.Sign g.BraceClose) r ∷ ts) e) (le, w) in
        record {
          from = word (codes "seq") p d ∷ sign g.BraceOpen q (suc d) ∷ a.from;
          tokens = ap (λ ts. token (tk.Word (codes "seq")) p ∷ token (tk.Sign g.BraceOpen) q ∷ ts) a.tokens;
          within = (le, (more, a.within));
          derives = grammar.a_seq a.derives;
        };
  }

  in_par : {d : ℕ} {xs : List TermText} {h i j l m : List Token} → d ≤ most → suc d ≤ most → Is (tk.Word (codes "par")) h i → Is (tk.Sign g.BraceOpen) i j
      → Found most (grammar.SomeTerms (suc d) xs) j l → Is (tk.Sign g.BraceClose) l m → Found most (grammar.ATerm d (terms.Par xs)) h m
  in_par {d = d} le more (this {p = p}) (this {p = q}) x (this {p = r}) = record {
    before = λ J e w.
        let a = x.before (sign g.BraceClose r d ∷ J) (ap (λ ts. token (tk.Sign g.BraceClose) r ∷ ts) e) (le, w) in
        record {
          from = word (codes "par") p d ∷ sign g.BraceOpen q (suc d) ∷ a.from;
          tokens = ap (λ ts. token (tk.Word (codes "par")) p ∷ token (tk.Sign g.BraceOpen) q ∷ ts) a.tokens;
          within = (le, (more, a.within));
          derives = grammar.a_par a.derives;
        };
  }

  in_scope : {d node : ℕ} {bs : List ℕ} {x : TermText} {h i j l m o q : List Token} → d ≤ most → suc d ≤ most → Is (tk.Word (codes "at")) h i → Is (tk.Number (pos node)) i j → Found most (grammar.AList d bs) j l
      → Is (tk.Sign g.BraceOpen) l m → Found most (grammar.ATerm (suc d) x) m o → Is (tk.Sign g.BraceClose) o q → Found most (grammar.ATerm d (terms.At (place h) node bs x)) h q
  in_scope {d = d} {node = node} le more (this {p = p}) (this {p = q}) y (this {p = r}) x (this {p = s}) = record {
    before = λ J e w.
        let a = x.before (sign g.BraceClose s d ∷ J) (ap (λ ts. token (tk.Sign g.BraceClose) s ∷ ts) e) (le, w) in
        let b = y.before (sign g.BraceOpen r (suc d) ∷ a.from) (ap (λ ts. token (tk.Sign g.BraceOpen) r ∷ ts) a.tokens) (more, a.within) in
        record {
          from = word (codes "at") p d ∷ number node q d ∷ b.from;
          tokens = ap (λ ts. token (tk.Word (codes "at")) p ∷ token (tk.Number (pos node)) q ∷ ts) b.tokens;
          within = (le, (le, b.within));
          derives = grammar.a_scope b.derives a.derives;
        };
  }

  module _ (n d : ℕ) (eq : n + d ≡ most) (one : Reader TermText) (reads : (m : ℕ) → suc m ≡ n → (i : List Token) → Reading (λ x j. Found most (grammar.ATerm (suc d) x) i j) (one i)) where
    terms_read : (m : ℕ) → suc m ≡ n → (i : List Token) → Reading (Adds most (grammar.SomeTerms (suc d)) [] i) (many_after goes_on one [] i)
    terms_read m left i = after_read most (grammar.SomeTerms (suc d)) (λ i. grammar.no_terms) goes_on one (λ i e. gives_more (one i) (λ x j h rest l more. one_term h more) (reads m left i)) [] i

    parts_read : (i : List Token) → Reading (λ xs j. Braced d xs i j) (reading.parts n one i)
    unfolding reading.parts reading.terms_to
    parts_read i = phrase (opening g.BraceOpen n i) _ (opening_read g.BraceOpen n i)
        (λ m j o. phrase (many_after goes_on one [] j) _ (terms_read m o.left j)
        (λ every l h. phrase (expect_sign g.BraceClose l) _ (sign_read g.BraceClose l)
        (λ u q close. record { is = record { inside = j; behind = l; opened = o.is; within = omega (arith, eq, o.left); terms = subst (λ xs. Found most (grammar.SomeTerms (suc d) xs) j l) (sym h.1) h.2; closed = close } })))

    scope_read : (i : List Token) → sees_word (codes "at") i ≡ true → Reading (λ x j. Found most (grammar.ATerm d x) i j) (reading.scope n (place i) one (next i))
    unfolding reading.scope reading.term_to
    scope_read i e = phrase (natural (next i)) _ (natural_read (next i))
        (λ node j first. phrase (reading.list n j) _ (list_read most n d eq j)
        (λ bs l y. phrase (opening g.BraceOpen n l) _ (opening_read g.BraceOpen n l)
        (λ m o opened. phrase (reading.term_to one o) _ (closed_read m opened.left o)
        (λ x q h. record { is = h node bs j l first y opened.is }))))
      where
        Closed : List Token → TermText → List Token → Type 0
        Closed o x q = (node : ℕ) (bs : List ℕ) (j l : List Token) → Is (tk.Number (pos node)) (next i) j → Found most (grammar.AList d bs) j l → Is (tk.Sign g.BraceOpen) l o
            → Found most (grammar.ATerm d (terms.At (place i) node bs x)) i q

        closed_read : (m : ℕ) → suc m ≡ n → (o : List Token) → Reading (Closed o) (reading.term_to one o)
        closed_read m left o = phrase (one o) _ (reads m left o)
            (λ x q h. phrase (expect_sign g.BraceClose q) _ (sign_read g.BraceClose q)
            (λ u r close. record { is = λ node bs j l first y opened. in_scope (omega (arith, eq)) (omega (arith, eq, left)) (word_seen (codes "at") i e) first y opened h close }))

    term_by_read : (i : List Token) → Reading (λ x j. Found most (grammar.ATerm d x) i j) (term_by n one i)
    term_by_read i =
        let le : d ≤ most = omega (arith, eq) in
        choose (sees_word (codes "seq") i)
        (λ e. phrase (reading.parts n one (next i)) _ (parts_read (next i)) (λ xs j b. record { is = in_seq le b.within (word_seen (codes "seq") i e) b.opened b.terms b.closed }))
        (λ e. choose (sees_word (codes "par") i)
        (λ e. phrase (reading.parts n one (next i)) _ (parts_read (next i)) (λ xs j b. record { is = in_par le b.within (word_seen (codes "par") i e) b.opened b.terms b.closed }))
        (λ e. choose (sees_word (codes "at") i) (λ e. scope_read i e) (λ e. event_at_read n d eq i)))

  pub term_read : (n d : ℕ) → n + d ≡ most → (i : List Token) → Reading (λ x j. Found most (grammar.ATerm d x) i j) (term n i)
  unfolding term
  term_read zero d eq i = term_by_read zero d eq refuse (λ m e. absurd (omega (arith, e))) i
  term_read (suc n) d eq i = term_by_read (suc n) d eq (term n) (λ m e i. term_read n (suc d) (omega (arith, eq)) i) i
