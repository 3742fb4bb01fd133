-- What each reader reads is derived.
use Rattle.std.proofs.Common.{◌≡◌, ℕ, suc, ◌+◌, ◌≤◌, ℤ, pos, List, [], ◌∷◌, Some, Ok, Err, refl, sym, ap, subst, arith, codes}
use Rattle.std.specs.Prelude.{neg_ℤ}
use Rattle.sq_num.specs.declared.Elem.{Elem}
use Rattle.sq_lexer.specs.declared.token.Token.{Token}
use Rattle.sq_lexer.specs.declared.token.Kind.{Kind}
use Rattle.sq_lexer.specs.declared.token.Kind.TheVariants as tk
use Rattle.sq_lexer.specs.declared.token.Sign.TheVariants as g
use Rattle.sq_lexer.specs.Tokens.{token}
use Rattle.sq_plantext.specs.declared.text.SlotText.{SlotText}
use Rattle.sq_plantext.specs.declared.text.ViewText.{ViewText}
use Rattle.sq_plantext.specs.Grammar as grammar
use Rattle.sq_plantext.specs.Grammar.{Leveled, at, word, number, sign, tokens_of, Phrase, Derives, Within, elem_of, operator_of, slot_text, view_text}
use Rattle.sq_planread.specs.Reading as reading
use Rattle.sq_planread.specs.Reading.{Outcome, Reader, and_then, next, sees_word, sees_sign, expect_sign, expect_some, natural, opening, many_after, separated, after_comma, goes_on}
use Rattle.sq_planread.proofs.Found.{Reading, phrase, gives_more, choose, Is, this, sign_seen, word_seen, sign_read, table_read, natural_read, opening_read, Found, Adds, after_read}

module _ (most : ℕ) where
  -- ---- numbers

  one_number : {d n : ℕ} {i j l m : List Token} {ns : List ℕ} → d ≤ most → Is (tk.Sign g.Comma) i j → Is (tk.Number (pos n)) j l → Found most (grammar.Numbers d ns) l m → Found most (grammar.Numbers d (n ∷ ns)) i m
  one_number {d = d} {n = n} le (this {p = p}) (this {p = q}) h = record {
    before = λ J e w. let b = h.before J e w in
        record { from = sign g.Comma p d ∷ number n q d ∷ b.from; tokens = ap (λ ts. token (tk.Sign g.Comma) p ∷ token (tk.Number (pos n)) q ∷ ts) b.tokens; within = (le, (le, b.within)); derives = grammar.one_more_number b.derives };
  }

  numbers_read : (d : ℕ) → d ≤ most → (found : List ℕ) (i : List Token) → Reading (Adds most (grammar.Numbers d) found i) (many_after (sees_sign g.Comma) (after_comma natural) found i)
  numbers_read d le found i = after_read most (grammar.Numbers d) (λ i. grammar.no_more_numbers) (sees_sign g.Comma) (after_comma natural)
      (λ i e. gives_more (natural (next i)) (λ n j is rest l h. one_number le (sign_seen g.Comma i e) is h) (natural_read (next i))) found i

  empty : {d : ℕ} {i j l : List Token} → d ≤ most → suc d ≤ most → Is (tk.Sign g.BracketOpen) i j → Is (tk.Sign g.BracketClose) j l → Found most (grammar.AList d []) i l
  empty {d = d} le more (this {p = p}) (this {p = q}) = record {
    before = λ J e w. record { from = sign g.BracketOpen p (suc d) ∷ sign g.BracketClose q d ∷ J; tokens = ap (λ ts. token (tk.Sign g.BracketOpen) p ∷ token (tk.Sign g.BracketClose) q ∷ ts) e; within = (more, (le, w)); derives = grammar.empty_list };
  }

  listed : {d n : ℕ} {i j l m o : List Token} {ns : List ℕ} → d ≤ most → suc d ≤ most → Is (tk.Sign g.BracketOpen) i j → Is (tk.Number (pos n)) j l → Found most (grammar.Numbers (suc d) ns) l m
      → Is (tk.Sign g.BracketClose) m o → Found most (grammar.AList d (n ∷ ns)) i o
  listed {d = d} {n = n} le more (this {p = p}) (this {p = q}) h (this {p = r}) = record {
    before = λ J e w. let b = h.before (sign g.BracketClose r d ∷ J) (ap (λ ts. token (tk.Sign g.BracketClose) r ∷ ts) e) (le, w) in
        record { from = sign g.BracketOpen p (suc d) ∷ number n q (suc d) ∷ b.from; tokens = ap (λ ts. token (tk.Sign g.BracketOpen) p ∷ token (tk.Number (pos n)) q ∷ ts) b.tokens; within = (more, (more, b.within)); derives = grammar.a_list b.derives };
  }

  -- what stands between the brackets: nothing, or a number and those after it
  abbrev Inside : ℕ → List Token → List ℕ → List Token → Type 0
  Inside d i ns j = (l : List Token) → Is (tk.Sign g.BracketClose) j l → (h : List Token) → Is (tk.Sign g.BracketOpen) h i → Found most (grammar.AList d ns) h l

  inside_read : (d : ℕ) → d ≤ most → suc d ≤ most → (i : List Token) → Reading (Inside d i) (separated g.BracketClose natural i)
  unfolding separated
  inside_read d le more i = choose (sees_sign g.BracketClose i)
      (λ e. record { is = λ l close h open_. empty le more open_ close })
      (λ e. phrase (natural i) (λ n. many_after (sees_sign g.Comma) (after_comma natural) (n ∷ [])) (natural_read i)
      (λ n j first. joined n j first (many_after (sees_sign g.Comma) (after_comma natural) (n ∷ []) j) (numbers_read (suc d) more (n ∷ []) j)))
    where
      joined : (n : ℕ) (j : List Token) → Is (tk.Number (pos n)) i j → (r : Outcome (List ℕ)) → Reading (Adds most (grammar.Numbers (suc d)) (n ∷ []) j) r → Reading (Inside d i) r
      joined n j first (Ok p) h = record { is = λ l close o open_. subst (λ ns. Found most (grammar.AList d ns) o l) (sym h.is.1) (listed le more open_ first h.is.2 close) }
      joined n j first (Err e) h = record { is = tt }

  pub list_read : (n d : ℕ) → n + d ≡ most → (i : List Token) → Reading (λ ns j. Found most (grammar.AList d ns) i j) (reading.list n i)
  unfolding reading.list
  list_read n d eq i = phrase (opening g.BracketOpen n i) _ (opening_read g.BracketOpen n i)
      (λ m j o. phrase (separated g.BracketClose natural j) _ (inside_read d (omega (arith, eq)) (omega (arith, eq, o.left)) j)
      (λ ns l h. phrase (expect_sign g.BracketClose l) _ (sign_read g.BracketClose l)
      (λ u q close. record { is = h q close i o.is })))

  -- ---- values

  a_natural : {d n : ℕ} {i j : List Token} → d ≤ most → Is (tk.Number (pos n)) i j → Found most (grammar.AValue d (pos n)) i j
  a_natural {d = d} {n = n} le (this {p = p}) = record {
    before = λ J e w. record { from = number n p d ∷ J; tokens = ap (λ ts. token (tk.Number (pos n)) p ∷ ts) e; within = (le, w); derives = grammar.a_number };
  }

  a_negative : {d n : ℕ} {i j l : List Token} → d ≤ most → Is (tk.Sign g.Minus) i j → Is (tk.Number (pos n)) j l → Found most (grammar.AValue d (neg_ℤ (pos n))) i l
  a_negative {d = d} {n = n} le (this {p = p}) (this {p = q}) = record {
    before = λ J e w. record { from = sign g.Minus p d ∷ number n q d ∷ J; tokens = ap (λ ts. token (tk.Sign g.Minus) p ∷ token (tk.Number (pos n)) q ∷ ts) e; within = (le, (le, w)); derives = grammar.a_negative };
  }

  the_lowest : {d : ℕ} {i j : List Token} → d ≤ most → Is (tk.Word (codes "lowest")) i j → Found most (grammar.AValue d grammar.lowest) i j
  the_lowest {d = d} le (this {p = p}) = record {
    before = λ J e w. record { from = word (codes "lowest") p d ∷ J; tokens = ap (λ ts. token (tk.Word (codes "lowest")) p ∷ ts) e; within = (le, w); derives = grammar.the_lowest };
  }

  record Whole (i : List Token) (z : ℤ) (j : List Token) : Type 0 where
    pub value : ℕ
    pub is : z ≡ pos value
    pub at : Is (tk.Number (pos value)) i j

  whole_read : (i : List Token) → Reading (Whole i) (reading.whole i)
  whole_read i = phrase (natural i) _ (natural_read i) (λ n j is. record { is = record { value = n; is = refl; at = is } })

  pub value_read : (d : ℕ) → d ≤ most → (i : List Token) → Reading (λ v j. Found most (grammar.AValue d v) i j) (reading.value i)
  value_read d le i = choose (sees_word (codes "lowest") i)
      (λ e. record { is = the_lowest le (word_seen (codes "lowest") i e) })
      (λ e. choose (sees_sign g.Minus i)
      (λ e. phrase (reading.whole (next i)) _ (whole_read (next i)) (λ z j w. record { is = subst (λ z. Found most (grammar.AValue d (neg_ℤ z)) i j) (sym w.is) (a_negative le (sign_seen g.Minus i e) w.at) }))
      (λ e. gives_more (reading.whole i) (λ z j w. subst (λ z. Found most (grammar.AValue d z) i j) (sym w.is) (a_natural le w.at)) (whole_read i)))

  -- ---- slots and views

  a_slot : {d b a : ℕ} {i j l m : List Token} → d ≤ most → Is (tk.Number (pos b)) i j → Is (tk.Sign g.Plus) j l → Is (tk.Number (pos a)) l m → Found most (grammar.ASlot d (slot_text b a)) i m
  a_slot {d = d} {b = b} {a = a} le (this {p = p}) (this {p = q}) (this {p = r}) = record {
    before = λ J e w. record {
      from = number b p d ∷ sign g.Plus q d ∷ number a r d ∷ J;
      tokens = ap (λ ts. token (tk.Number (pos b)) p ∷ token (tk.Sign g.Plus) q ∷ token (tk.Number (pos a)) r ∷ ts) e;
      within = (le, (le, (le, w)));
      derives = grammar.a_slot;
    };
  }

  pub slot_read : (d : ℕ) → d ≤ most → (i : List Token) → Reading (λ s j. Found most (grammar.ASlot d s) i j) (reading.slot i)
  unfolding reading.slot
  slot_read d le i = phrase (natural i) _ (natural_read i)
      (λ b j first. phrase (expect_sign g.Plus j) _ (sign_read g.Plus j)
      (λ u l plus. phrase (natural l) _ (natural_read l)
      (λ a m second. record { is = a_slot le first plus second })))

  a_view : {d : ℕ} {s : SlotText} {e : Elem} {t : Kind} {extents strides : List ℕ} {i j l m o : List Token} → d ≤ most → elem_of t ≡ Some e → Found most (grammar.ASlot d s) i j → Is t j l
      → Found most (grammar.AList d extents) l m → Found most (grammar.AList d strides) m o → Found most (grammar.AView d (view_text s e extents strides)) i o
  a_view {d = d} {t = t} le gives s (this {p = p}) x y = record {
    before = λ J e w.
        let c = y.before J e w in
        let b = x.before c.from c.tokens c.within in
        let a = s.before (at t p d ∷ b.from) (ap (λ ts. token t p ∷ ts) b.tokens) (le, b.within) in
        record { from = a.from; tokens = a.tokens; within = a.within; derives = grammar.a_view gives a.derives b.derives c.derives };
  }

  pub view_read : (n d : ℕ) → n + d ≡ most → (i : List Token) → Reading (λ v j. Found most (grammar.AView d v) i j) (reading.view n i)
  unfolding reading.view
  view_read n d eq i =
      let le : d ≤ most = omega (arith, eq) in
      phrase (reading.slot i) _ (slot_read d le i)
      (λ s j first. phrase (expect_some elem_of j) _ (table_read elem_of refl j)
      (λ e l type. phrase (reading.list n l) _ (list_read n d eq l)
      (λ extents m x. phrase (reading.list n m) _ (list_read n d eq m)
      (λ strides o y. record { is = a_view le type.gives first type.is x y }))))

  -- a comma, and a view
  more_views : {d : ℕ} {v : ViewText} {vs : List ViewText} {i j l m : List Token} → d ≤ most → Is (tk.Sign g.Comma) i j → Found most (grammar.AView d v) j l → Found most (grammar.MoreViews d vs) l m
      → Found most (grammar.MoreViews d (v ∷ vs)) i m
  more_views {d = d} le (this {p = p}) x y = record {
    before = λ J e w.
        let b = y.before J e w in
        let a = x.before b.from b.tokens b.within in
        record { from = sign g.Comma p d ∷ a.from; tokens = ap (λ ts. token (tk.Sign g.Comma) p ∷ ts) a.tokens; within = (le, a.within); derives = grammar.one_more_view a.derives b.derives };
  }

  views_after : (n d : ℕ) → n + d ≡ most → (found : List ViewText) (i : List Token)
      → Reading (Adds most (grammar.MoreViews d) found i) (many_after (sees_sign g.Comma) (after_comma (reading.view n)) found i)
  views_after n d eq found i = after_read most (grammar.MoreViews d) (λ i. grammar.no_more_views) (sees_sign g.Comma) (after_comma (reading.view n))
      (λ i e. gives_more (reading.view n (next i)) (λ v j x rest l h. more_views (omega (arith, eq)) (sign_seen g.Comma i e) x h) (view_read n d eq (next i))) found i

  some_views : {d : ℕ} {v : ViewText} {vs : List ViewText} {i j l : List Token} → Found most (grammar.AView d v) i j → Found most (grammar.MoreViews d vs) j l → Found most (grammar.SomeViews d (v ∷ vs)) i l
  some_views x y = record {
    before = λ J e w.
        let b = y.before J e w in
        let a = x.before b.from b.tokens b.within in
        record { from = a.from; tokens = a.tokens; within = a.within; derives = grammar.some_views a.derives b.derives };
  }

  pub views_read : (n d : ℕ) → n + d ≡ most → (i : List Token) → Reading (λ vs j. Found most (grammar.SomeViews d vs) i j) (separated g.ParenClose (reading.view n) i)
  unfolding separated
  views_read n d eq i = choose (sees_sign g.ParenClose i)
      (λ e. record { is = record { before = λ J e w. record { from = J; tokens = e; within = w; derives = grammar.no_views } } })
      (λ e. phrase (reading.view n i) (λ v. many_after (sees_sign g.Comma) (after_comma (reading.view n)) (v ∷ [])) (view_read n d eq i)
      (λ v j first. joined v j first (many_after (sees_sign g.Comma) (after_comma (reading.view n)) (v ∷ []) j) (views_after n d eq (v ∷ []) j)))
    where
      joined : (v : ViewText) (j : List Token) → Found most (grammar.AView d v) i j → (r : Outcome (List ViewText)) → Reading (Adds most (grammar.MoreViews d) (v ∷ []) j) r
          → Reading (λ vs j. Found most (grammar.SomeViews d vs) i j) r
      joined v j first (Ok p) h = record { is = subst (λ vs. Found most (grammar.SomeViews d vs) i p.1) (sym h.is.1) (some_views first h.is.2) }
      joined v j first (Err e) h = record { is = tt }
