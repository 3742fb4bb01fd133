-- What stands behind a leaf's task is none of its own: the task stays one whatever comes there.
use Rattle.std.proofs.Common.{◌≡◌, ℕ, List, [], ◌∷◌, ◌++◌, refl, sym, ◌∙◌, ap, subst}
use Rattle.sq_text.specs.declared.place.Place.{Place}
use Rattle.sq_lexer.specs.declared.token.Sign.TheVariants as g
use Rattle.sq_ast.specs.declared.keyword.Keyword.TheVariants as k
use Rattle.sq_ast.specs.declared.program.Variant.{Variant}
use Rattle.sq_ast.specs.declared.program.VariantKind.TheVariants as kind
use Rattle.sq_ast.specs.Symbols.{Key, Mark}
use Rattle.sq_ast.specs.Grammar as grammar
use Rattle.sq_ast.specs.Grammar.{Leveled, at, kinds, class, Phrase, Derives, no_more, one_more, a_list, a_next, a_void_task, a_task, an_inner, a_leaf, a_param, an_extent, tunables, a_tunable, a_local, a_tunable_list, an_rchop, an_ichop, a_call_stmt, a_map, a_reduction, a_range, a_call, an_arg, an_index, an_assignment, an_if, no_else, an_else, an_alternative, a_for, bare, braced, an_operand, a_chain, a_link, a_unary, a_number, a_name, an_element, a_length, brackets, the_least, the_most}

module _ (J L : List Leveled) (same : class (kinds L) ≡ class (kinds J)) where
  -- the same tokens, behind which stand J and L
  pub data Alike : List Leveled → List Leveled → Type 0 where
    base : Alike J L
    more : {t : Leveled} {i l : List Leveled} → Alike i l → Alike (t ∷ i) (t ∷ l)

  alike_class : {i l : List Leveled} → Alike i l → class (kinds l) ≡ class (kinds i)
  alike_class base = same
  alike_class (more a) = refl

  pub record Changed (P : Phrase) (i l : List Leveled) : Type 0 where
    pub from : List Leveled
    pub alike : Alike i from
    pub derives : Derives P from l

  pub change : {P : Phrase} {i j : List Leveled} → Derives P i j → {l : List Leveled} → Alike j l → Changed P i l
  change no_more a = record { from = _; alike = a; derives = no_more }
  change (one_more q r s) a = let x = change s a in let y = change r x.alike in record { from = _; alike = y.alike; derives = one_more q y.derives x.derives }
  change (a_list r s) a = let x = change s (more a) in let y = change r x.alike in record { from = _; alike = more y.alike; derives = a_list y.derives x.derives }
  change (a_next r) a = let x = change r a in record { from = _; alike = more x.alike; derives = a_next x.derives }
  change (a_void_task r) a = let x = change r a in record { from = _; alike = more x.alike; derives = a_void_task x.derives }
  change (a_task r) a = let x = change r a in record { from = _; alike = x.alike; derives = a_task x.derives }
  change (an_inner r s u) a = let x = change u (more a) in let y = change s x.alike in let z = change r (more y.alike) in record { from = _; alike = more (more (more (more z.alike))); derives = an_inner z.derives y.derives x.derives }
  change (a_leaf r s u) a = let x = change u (more a) in let y = change s x.alike in let z = change r (more y.alike) in record { from = _; alike = more (more (more (more z.alike))); derives = a_leaf z.derives y.derives x.derives }
  change (a_param is q r s) a = let x = change s a in let y = change r x.alike in record { from = _; alike = more (more (more y.alike)); derives = a_param is q y.derives x.derives }
  change (an_extent is) a = record { from = _; alike = more (more (more a)); derives = an_extent is }
  change (tunables r) a = let x = change r (more a) in record { from = _; alike = more (more (more x.alike)); derives = tunables x.derives }
  change a_tunable a = record { from = _; alike = more a; derives = a_tunable }
  change (a_local is r s) a = let x = change s (more a) in let y = change r x.alike in record { from = _; alike = more (more (more y.alike)); derives = a_local is y.derives x.derives }
  change a_tunable_list a = record { from = _; alike = more (more (more (more (more (more a))))); derives = a_tunable_list }
  change (an_rchop r s) a = let x = change s (more (more a)) in let y = change r x.alike in record { from = _; alike = more (more (more (more (more (more (more y.alike)))))); derives = an_rchop y.derives x.derives }
  change an_ichop a = record { from = _; alike = more (more (more (more (more (more (more (more (more (more (more (more a))))))))))); derives = an_ichop }
  change (a_call_stmt r) a = let x = change r (more a) in record { from = _; alike = x.alike; derives = a_call_stmt x.derives }
  change (a_map is r s) a = let x = change s (more a) in let y = change r (more x.alike) in record { from = _; alike = more y.alike; derives = a_map is y.derives x.derives }
  change (a_reduction r is s) a = let x = change s (more (more a)) in let y = change r (more (more (more (more (more (more (more x.alike))))))) in record { from = _; alike = more y.alike; derives = a_reduction y.derives is x.derives }
  change (a_range r) a = let x = change r a in record { from = _; alike = more (more (more (more (more x.alike)))); derives = a_range x.derives }
  change (a_call r) a = let x = change r a in record { from = _; alike = more x.alike; derives = a_call x.derives }
  change (an_arg r) a = let x = change r a in record { from = _; alike = more x.alike; derives = an_arg x.derives }
  change (an_index r) a = let x = change r (more a) in record { from = _; alike = more x.alike; derives = an_index x.derives }
  change (an_assignment r s is u) a = let x = change u (more a) in let y = change s (more x.alike) in let z = change r y.alike in record { from = _; alike = more z.alike; derives = an_assignment z.derives y.derives is x.derives }
  change (an_if r s u) a = let x = change u a in let y = change s x.alike in let z = change r (more y.alike) in record { from = _; alike = more (more z.alike); derives = an_if z.derives y.derives x.derives }
  change (no_else h) a = record { from = _; alike = a; derives = no_else (λ e. h (sym (alike_class a) ∙ e)) }
  change (an_else r) a = let x = change r a in record { from = _; alike = x.alike; derives = an_else x.derives }
  change (an_alternative r) a = let x = change r a in record { from = _; alike = more x.alike; derives = an_alternative x.derives }
  change (a_for r s u) a = let x = change u a in let y = change s (more (more (more (more x.alike)))) in let z = change r (more (more (more y.alike))) in
      record { from = _; alike = more (more (more (more (more z.alike)))); derives = a_for z.derives y.derives x.derives }
  change (bare r) a = let x = change r a in record { from = _; alike = x.alike; derives = bare x.derives }
  change (braced r) a = let x = change r (more a) in record { from = _; alike = more x.alike; derives = braced x.derives }
  change (an_operand r) a = let x = change r a in record { from = _; alike = x.alike; derives = an_operand x.derives }
  change (a_chain r s) a = let x = change s a in let y = change r x.alike in record { from = _; alike = y.alike; derives = a_chain y.derives x.derives }
  change (a_link is r) a = let x = change r a in record { from = _; alike = more x.alike; derives = a_link is x.derives }
  change (a_unary is r) a = let x = change r a in record { from = _; alike = more x.alike; derives = a_unary is x.derives }
  change a_number a = record { from = _; alike = more a; derives = a_number }
  change a_name a = record { from = _; alike = more a; derives = a_name }
  change (an_element r) a = let x = change r a in record { from = _; alike = more x.alike; derives = an_element x.derives }
  change a_length a = record { from = _; alike = more (more (more (more a))); derives = a_length }
  change (brackets r) a = let x = change r (more a) in record { from = _; alike = more x.alike; derives = brackets x.derives }
  change (the_least r s) a = let x = change s (more a) in let y = change r (more x.alike) in record { from = _; alike = more (more y.alike); derives = the_least y.derives x.derives }
  change (the_most r s) a = let x = change s (more a) in let y = change r (more x.alike) in record { from = _; alike = more (more y.alike); derives = the_most y.derives x.derives }

  -- the tokens before them
  pub alike_front : {i l : List Leveled} → Alike i l → (front : List Leveled) × (i ≡ front ++ J) × (l ≡ front ++ L)
  alike_front base = ([], refl, refl)
  alike_front (more {t = t} a) = let h = alike_front a in (t ∷ h.0, ap (λ x. t ∷ x) h.1, ap (λ x. t ∷ x) h.2)

-- ---- leaves

-- The task's own tokens, of which the last is a brace; behind them may stand what is asked for.
pub record Own (P : Phrase) (d : ℕ) (I J L : List Leveled) : Type 0 where
  pub front : List Leveled
  pub place : Place
  pub is : I ≡ front ++ at (Mark place g.BraceClose) d ∷ J
  pub derives : Derives P (front ++ at (Mark place g.BraceClose) d ∷ L) L

own_named : {d : ℕ} {v : Variant} {I J : List Leveled} (L : List Leveled) → Derives (grammar.One grammar.Named d v) I J → v.kind ≡ kind.Leaf → Own (grammar.One grammar.Named d v) d I J L
own_named L (an_inner r s u) leaf = absurd (cc)
own_named {d = d} L (a_leaf {w = w} {ps = ps} {ds = ds} {xs = xs} {p = p} {q = q} {r = o} {v = v} {m = m} r s u) leaf =
    let x = change (at (Mark v g.BraceClose) d ∷ m) (at (Mark v g.BraceClose) d ∷ L) refl u base in
    let y = change (at (Mark v g.BraceClose) d ∷ m) (at (Mark v g.BraceClose) d ∷ L) refl s x.alike in
    let z = change (at (Mark v g.BraceClose) d ∷ m) (at (Mark v g.BraceClose) d ∷ L) refl r (more y.alike) in
    let f = alike_front (at (Mark v g.BraceClose) d ∷ m) (at (Mark v g.BraceClose) d ∷ L) refl z.alike in
    let head : List Leveled → List Leveled = λ x. at (Key p k.Task) d ∷ grammar.word w d ∷ at (Mark q g.Path) d ∷ at (Key o k.Leaf) d ∷ x in
    record {
      front = head f.0;
      place = v;
      is = ap head f.1;
      derives = subst (λ x. Derives (grammar.One grammar.Named d (grammar.leaf_of w ps ds xs)) (head x) L) f.2 (a_leaf z.derives y.derives x.derives);
    }

pub own : {d : ℕ} {v : Variant} {I J : List Leveled} (L : List Leveled) → Derives (grammar.One grammar.Task d v) I J → v.kind ≡ kind.Leaf → Own (grammar.One grammar.Task d v) d I J L
own {d = d} L (a_void_task {p = p} r) leaf = let h = own_named L r leaf in
    record { front = at (Key p k.Void) d ∷ h.front; place = h.place; is = ap (λ x. at (Key p k.Void) d ∷ x) h.is; derives = a_void_task h.derives }
own L (a_task r) leaf = let h = own_named L r leaf in record { front = h.front; place = h.place; is = h.is; derives = a_task h.derives }
