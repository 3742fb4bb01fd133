-- Terms before what is read already.
use Rattle.std.proofs.Common.{◌≡◌, ℕ, suc, ◌+◌, ◌≤◌, List, [], ◌∷◌, ◌++◌, map, refl, sym, ap, ◌∙◌, subst, arith, codes}
use Rattle.std.specs.Fmt.{decimal}
use Rattle.sq_text.specs.declared.place.Place.{Place}
use Rattle.sq_lexer.specs.declared.token.Sign.TheVariants as g
use Rattle.sq_ast.specs.Unplaced.{nowhere}
use Rattle.sq_ast.specs.Canonical.{Spelling, all_of}
use Rattle.sq_plantext.specs.Grammar.{ATerm, SomeTerms, a_seq, a_par, a_scope, no_terms, one_more_term}
use Rattle.sq_plantext.specs.Layout.{spell_list, spell_event, term_step, spell_term}
use Rattle.sq_plantext.specs.declared.text.EventText.{EventText}
use Rattle.sq_plantext.specs.declared.text.TermText.{TermText, roll-TermText}
use Rattle.sq_plantext.specs.declared.text.TermText.TheVariants as t
use Rattle.sq_plantext.specs.declared.text.TermText.TheOpen.{TermText-F}
use Rattle.sq_plantext.specs.declared.text.TermText.TheFolds.{fold-roll-TermText, rec-roll-TermText, ind-TermText, map-TermText}
use Rattle.sq_planfile.specs.Limits.{greatest, event_depth, depth}
use Rattle.sq_planfile.proofs.Sizes.{depth_seq, depth_par, depth_at, depth_act}
use Rattle.sq_unplaced_laws.specs.Unplaced.{unplaced_step, unplaced_term}
use Rattle.sq_layout_laws.specs.Readable.{IsShort, AreShort, each, readable_step, IsReadableEvent, IsReadableTerm}
use Rattle.sq_layout_laws.proofs.Fronted.{Ready, Spelled, space, line, worded, shut, numbered}
use Rattle.sq_layout_laws.proofs.Lists.{list_told}
use Rattle.sq_layout_laws.proofs.Events.{event_told}
use Rattle.sq_layout_laws.proofs.Lines.{cons_same}

-- ---- the equations of terms

spell_seq : (xs : List TermText) → spell_term (t.Seq xs) ≡ term_step (TermText-F.Seq (map spell_term xs))
spell_seq xs = ap spell_term (sym (t.rolls-Seq xs)) ∙ fold-roll-TermText Spelling term_step (TermText-F.Seq xs)

spell_par : (xs : List TermText) → spell_term (t.Par xs) ≡ term_step (TermText-F.Par (map spell_term xs))
spell_par xs = ap spell_term (sym (t.rolls-Par xs)) ∙ fold-roll-TermText Spelling term_step (TermText-F.Par xs)

spell_at : (p : Place) (node : ℕ) (bs : List ℕ) (x : TermText) → spell_term (t.At p node bs x) ≡ term_step (TermText-F.At p node bs (spell_term x))
spell_at p node bs x = ap spell_term (sym (t.rolls-At p node bs x)) ∙ fold-roll-TermText Spelling term_step (TermText-F.At p node bs x)

spell_act : (p : Place) (e : EventText) → spell_term (t.Act p e) ≡ spell_event e
spell_act p e = ap spell_term (sym (t.rolls-Act p e)) ∙ fold-roll-TermText Spelling term_step (TermText-F.Act p e)

unplaced_seq : (xs : List TermText) → unplaced_term (t.Seq xs) ≡ t.Seq (map unplaced_term xs)
unplaced_seq xs = ap unplaced_term (sym (t.rolls-Seq xs)) ∙ fold-roll-TermText TermText unplaced_step (TermText-F.Seq xs)

unplaced_par : (xs : List TermText) → unplaced_term (t.Par xs) ≡ t.Par (map unplaced_term xs)
unplaced_par xs = ap unplaced_term (sym (t.rolls-Par xs)) ∙ fold-roll-TermText TermText unplaced_step (TermText-F.Par xs)

unplaced_at : (p : Place) (node : ℕ) (bs : List ℕ) (x : TermText) → unplaced_term (t.At p node bs x) ≡ t.At nowhere node bs (unplaced_term x)
unplaced_at p node bs x = ap unplaced_term (sym (t.rolls-At p node bs x)) ∙ fold-roll-TermText TermText unplaced_step (TermText-F.At p node bs x)

unplaced_act : (p : Place) (e : EventText) → unplaced_term (t.Act p e) ≡ t.Act nowhere e
unplaced_act p e = ap unplaced_term (sym (t.rolls-Act p e)) ∙ fold-roll-TermText TermText unplaced_step (TermText-F.Act p e)

each_same : {X : Type 0} (v : X → TermText) (is : TermText → Type 0) (xs : List X) → each (λ x. is (v x)) xs ≡ each is (map v xs)
each_same v is [] = refl
each_same v is (x ∷ xs) = ap (λ (A : Type 0). is (v x) × A) (each_same v is xs)

natural : (X : Type 0) (v : X → TermText) (is : TermText → Type 0) (y : TermText-F X)
    → readable_step X v (λ x. is (v x)) y ≡ readable_step TermText (λ z. z) is (map-TermText X TermText v y)
natural X v is (TermText-F.Seq xs) = each_same v is xs
natural X v is (TermText-F.Par xs) = each_same v is xs
natural X v is (TermText-F.At p n bs b) = refl
natural X v is (TermText-F.Act p e) = refl

readable_roll : (y : TermText-F TermText) → IsReadableTerm (roll-TermText y) ≡ readable_step TermText (λ z. z) IsReadableTerm y
readable_roll y = rec-roll-TermText (Type 0) readable_step natural y

readable_seq : (xs : List TermText) → IsReadableTerm (t.Seq xs) ≡ each IsReadableTerm xs
readable_seq xs = ap IsReadableTerm (sym (t.rolls-Seq xs)) ∙ readable_roll (TermText-F.Seq xs)

readable_par : (xs : List TermText) → IsReadableTerm (t.Par xs) ≡ each IsReadableTerm xs
readable_par xs = ap IsReadableTerm (sym (t.rolls-Par xs)) ∙ readable_roll (TermText-F.Par xs)

readable_at : (p : Place) (node : ℕ) (bs : List ℕ) (x : TermText) → IsReadableTerm (t.At p node bs x) ≡ (IsShort node × AreShort bs × IsReadableTerm x)
readable_at p node bs x = ap IsReadableTerm (sym (t.rolls-At p node bs x)) ∙ readable_roll (TermText-F.At p node bs x)

readable_act : (p : Place) (e : EventText) → IsReadableTerm (t.Act p e) ≡ IsReadableEvent e
readable_act p e = ap IsReadableTerm (sym (t.rolls-Act p e)) ∙ readable_roll (TermText-F.Act p e)

-- ---- terms

module _ (placing : List ℕ → Place) (most : ℕ) where
  -- at level d, before any text
  abbrev pub Says : TermText → Type 0
  Says x = (d : ℕ) → d + depth x ≤ most → IsReadableTerm x → (rest : List ℕ) → (r : Ready placing most rest)
      → Spelled placing most unplaced_term (ATerm d) (unplaced_term x) (spell_term x rest) r.from

  abbrev M : Type 0
  M = (x : TermText) × Says x

  abbrev texts : List M → List TermText
  texts ms = map (λ m. m.0) ms

  -- one after another
  terms_told : (d : ℕ) (ms : List M) → d + greatest (map depth (texts ms)) ≤ most → each IsReadableTerm (texts ms) → (rest : List ℕ) → (r : Ready placing most rest)
      → Spelled placing most (map unplaced_term) (SomeTerms d) (map unplaced_term (texts ms)) (all_of (map spell_term (texts ms)) rest) r.from
  terms_told d [] le h rest r = record { tree = []; same = refl; ready = r; derived = no_terms }
  terms_told d (m ∷ ms) le h rest r =
      let a = terms_told d ms (omega (arith, le)) h.1 rest r in
      let b = m.1 d (omega (arith, le)) h.0 (all_of (map spell_term (texts ms)) rest) a.ready in
      record {
        tree = b.tree ∷ a.tree;
        same = cons_same {x = unplaced_term b.tree} {y = unplaced_term m.0} {xs = map unplaced_term a.tree} {ys = map unplaced_term (texts ms)} b.same a.same;
        ready = b.ready;
        derived = one_more_term {x = b.tree} {i = b.ready.from} b.derived a.derived;
      }

  -- `}` and the end of the line
  abbrev closed : (d : ℕ) → d ≤ most → (rest : List ℕ) → Ready placing most rest → Ready placing most (codes "}\n" ++ rest)
  closed d le rest r = shut placing most g.BraceClose refl d le (codes "\n" ++ rest) (line placing most rest r)

  -- ` {` and the end of the line
  abbrev opened : (d : ℕ) → suc d ≤ most → (rest : List ℕ) → Ready placing most rest → Ready placing most (codes " {\n" ++ rest)
  opened d le rest r =
      space placing most (codes "{\n" ++ rest) (shut placing most g.BraceOpen refl (suc d) le (codes "\n" ++ rest) (line placing most rest r))

  seq_told : (ms : List M) → Says (t.Seq (texts ms))
  seq_told ms d le h rest r =
      let xs : List TermText = texts ms in
      let inner : suc d + greatest (map depth xs) ≤ most = omega (arith, depth_seq xs, le) in
      let deep : suc d ≤ most = omega (arith, inner) in
      let up : d ≤ most = omega (arith, deep) in
      let each_ : each IsReadableTerm xs = subst (λ (A : Type 0). A) (readable_seq xs) h in
      let a = terms_told (suc d) ms inner each_ (codes "}\n" ++ rest) (closed d up rest r) in
      let inside : List ℕ = all_of (map spell_term xs) (codes "}\n" ++ rest) in
      subst (λ (s : Spelling). Spelled placing most unplaced_term (ATerm d) (unplaced_term (t.Seq xs)) (s rest) r.from) (sym (spell_seq xs)) (record {
        tree = t.Seq a.tree;
        same = unplaced_seq a.tree ∙ ap t.Seq a.same ∙ sym (unplaced_seq xs);
        ready = worded placing most (codes "seq") d up (record { letter = refl; inside = refl }) (codes " {\n" ++ inside) refl (opened d deep inside a.ready);
        derived = a_seq a.derived;
      })

  par_told : (ms : List M) → Says (t.Par (texts ms))
  par_told ms d le h rest r =
      let xs : List TermText = texts ms in
      let inner : suc d + greatest (map depth xs) ≤ most = omega (arith, depth_par xs, le) in
      let deep : suc d ≤ most = omega (arith, inner) in
      let up : d ≤ most = omega (arith, deep) in
      let each_ : each IsReadableTerm xs = subst (λ (A : Type 0). A) (readable_par xs) h in
      let a = terms_told (suc d) ms inner each_ (codes "}\n" ++ rest) (closed d up rest r) in
      let inside : List ℕ = all_of (map spell_term xs) (codes "}\n" ++ rest) in
      subst (λ (s : Spelling). Spelled placing most unplaced_term (ATerm d) (unplaced_term (t.Par xs)) (s rest) r.from) (sym (spell_par xs)) (record {
        tree = t.Par a.tree;
        same = unplaced_par a.tree ∙ ap t.Par a.same ∙ sym (unplaced_par xs);
        ready = worded placing most (codes "par") d up (record { letter = refl; inside = refl }) (codes " {\n" ++ inside) refl (opened d deep inside a.ready);
        derived = a_par a.derived;
      })

  scope_told : (p : Place) (node : ℕ) (bs : List ℕ) (m : M) → Says (t.At p node bs m.0)
  scope_told p node bs m d le h rest r =
      let inner : suc d + depth m.0 ≤ most = omega (arith, depth_at p node bs m.0, le) in
      let deep : suc d ≤ most = omega (arith, inner) in
      let up : d ≤ most = omega (arith, deep) in
      let is : IsShort node × AreShort bs × IsReadableTerm m.0 = subst (λ (A : Type 0). A) (readable_at p node bs m.0) h in
      let a = m.1 (suc d) inner is.2 (codes "}\n" ++ rest) (closed d up rest r) in
      let inside : List ℕ = spell_term m.0 (codes "}\n" ++ rest) in
      let list = list_told placing most d deep bs is.1 (codes " {\n" ++ inside) (opened d deep inside a.ready) in
      let buffers : List ℕ = spell_list bs (codes " {\n" ++ inside) in
      let number_ = numbered placing most node d up is.0 (codes " " ++ buffers) refl (space placing most buffers list.ready) in
      let text : List ℕ = decimal node ++ (codes " " ++ buffers) in
      subst (λ (s : Spelling). Spelled placing most unplaced_term (ATerm d) (unplaced_term (t.At p node bs m.0)) (s rest) r.from) (sym (spell_at p node bs m.0)) (record {
        tree = t.At (placing (codes "at " ++ text)) node bs a.tree;
        same = unplaced_at (placing (codes "at " ++ text)) node bs a.tree ∙ ap (t.At nowhere node bs) a.same ∙ sym (unplaced_at p node bs m.0);
        ready = worded placing most (codes "at") d up (record { letter = refl; inside = refl }) (codes " " ++ text) refl (space placing most text number_);
        derived = a_scope {i = list.ready.from} list.derived a.derived;
      })

  act_told : (p : Place) (e : EventText) → Says (t.Act p e)
  act_told p e d le h rest r =
      let inner : d + event_depth e ≤ most = omega (arith, depth_act p e, le) in
      let a = event_told placing most d e inner (subst (λ (A : Type 0). A) (readable_act p e) h) rest r in
      subst (λ (s : Spelling). Spelled placing most unplaced_term (ATerm d) (unplaced_term (t.Act p e)) (s rest) r.from) (sym (spell_act p e)) (record {
        tree = t.Act a.place e;
        same = unplaced_act a.place e ∙ sym (unplaced_act p e);
        ready = a.ready;
        derived = a.derived;
      })

  step : (y : TermText-F M) → Says (roll-TermText (map-TermText M TermText (λ m. m.0) y))
  step (TermText-F.Seq ms) = subst Says (sym (t.rolls-Seq (texts ms))) (seq_told ms)
  step (TermText-F.Par ms) = subst Says (sym (t.rolls-Par (texts ms))) (par_told ms)
  step (TermText-F.At p node bs m) = subst Says (sym (t.rolls-At p node bs m.0)) (scope_told p node bs m)
  step (TermText-F.Act p e) = subst Says (sym (t.rolls-Act p e)) (act_told p e)

  pub term_told : (x : TermText) → Says x
  term_told = ind-TermText Says (λ x y is. subst (λ z. Says (roll-TermText z)) is (step y))
