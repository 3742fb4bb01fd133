-- Events before what is read already.
use Rattle.std.proofs.Common.{◌≡◌, ℕ, ℤ, suc, ◌+◌, ◌≤◌, List, [], ◌∷◌, ◌++◌, map, Some, refl, arith, codes}
use Rattle.std.specs.Fmt.{decimal}
use Rattle.std.specs.List.{All}
use Rattle.sq_text.specs.declared.place.Place.{Place}
use Rattle.sq_num.specs.declared.Elem.{Elem}
use Rattle.sq_num.specs.declared.Elem.TheVariants.{Long}
use Rattle.sq_num.specs.declared.RedOp.{RedOp}
use Rattle.sq_num.specs.declared.RedOp.TheVariants as red
use Rattle.sq_num.specs.Elements.{IsValue}
use Rattle.sq_lexer.specs.declared.token.Kind.{Kind}
use Rattle.sq_lexer.specs.declared.token.Kind.TheVariants as t
use Rattle.sq_lexer.specs.declared.token.Sign.{Sign}
use Rattle.sq_lexer.specs.declared.token.Sign.TheVariants as g
use Rattle.sq_lexer.specs.declared.token.Token.{Token}
use Rattle.sq_lexer.specs.Signs.{spelling}
use Rattle.sq_lexer.specs.Tokens.{a_word, a_sign, token}
use Rattle.sq_ast.specs.Symbols.{keyword_of}
use Rattle.sq_ast.specs.Canonical.{listed, elem_text, reduction_text}
use Rattle.sq_ast.proofs.Alone.{alone}
use Rattle.sq_ast.proofs.Fronts.{Ends}
use Rattle.sq_plantext.specs.Grammar.{operator_of, Leveled, at, tokens_of, ATerm, Derives, no_views, a_copy, a_fill, an_acc, a_run, an_event}
use Rattle.sq_plantext.specs.Layout.{spell_list, spell_value, spell_slot, spell_view, spell_event, field}
use Rattle.sq_plantext.specs.declared.text.SlotText.{SlotText}
use Rattle.sq_plantext.specs.declared.text.ViewText.{ViewText}
use Rattle.sq_plantext.specs.declared.text.EventText.{EventText}
use Rattle.sq_plantext.specs.declared.text.EventText.TheVariants as event
use Rattle.sq_plantext.specs.declared.text.TermText.TheVariants as term
use Rattle.sq_planfile.specs.Limits.{event_depth}
use Rattle.sq_layout_laws.specs.Readable.{IsWord, IsShort, AreShort, IsReadableSlot, IsReadableView, IsReadableEvent}
use Rattle.sq_layout_laws.proofs.Backwards.{Reads, a_gap, a_token}
use Rattle.sq_layout_laws.proofs.Fronted.{Ready, space, line, worded, shut, numbered}
use Rattle.sq_layout_laws.proofs.Lists.{elem_word, elem_known, list_told, value_told, slot_told, views_told}

-- The text has an event's tokens, with its `;`, and then those that are left.
pub record Acted (placing : List ℕ → Place) (most d : ℕ) (e : EventText) (text : List ℕ) (left : List Leveled) : Type 0 where
  pub place : Place
  pub ready : Ready placing most text
  pub derived : Derives (ATerm d (term.Act place e)) ready.from left

module _ (placing : List ℕ → Place) (most : ℕ) where
  -- `;` and the end of the line
  abbrev pub ended : (d : ℕ) → d ≤ most → (rest : List ℕ) → Ready placing most rest → Ready placing most (codes ";\n" ++ rest)
  ended d le rest r = shut placing most g.Semi refl d le (codes "\n" ++ rest) (line placing most rest r)

  -- a space, and a number
  abbrev pub fielded : (n d : ℕ) → d ≤ most → IsShort n → (rest : List ℕ) → Ends rest → Ready placing most rest → Ready placing most (field n rest)
  fielded n d le h rest ends r = space placing most _ (numbered placing most n d le h rest ends r)

  -- ---- operators

  -- an operator before a space
  pub record Operator (op : RedOp) (text : List ℕ) (left : List Token) : Type 0 where
    pub kind : Kind
    pub place : Place
    pub known : operator_of kind ≡ Some op
    pub reads : Reads placing text (token kind place ∷ left)

  of_sign : (s : Sign) (op : RedOp) → operator_of (t.Sign s) ≡ Some op → (rest : List ℕ) (ts : List Token) → Reads placing rest ts → Operator op (spelling s ++ (codes " " ++ rest)) ts
  of_sign s op q rest ts r =
      let h = alone s 32 rest refl in
      record { kind = t.Sign s; place = placing (spelling s ++ (codes " " ++ rest)); known = q; reads = a_token (a_sign h.longest h.plain) (a_gap refl r) }

  of_word : (w : List ℕ) (op : RedOp) → IsWord w → operator_of (t.Word w) ≡ Some op → (rest : List ℕ) (ts : List Token) → Reads placing rest ts
      → Operator op (w ++ (codes " " ++ rest)) ts
  of_word w op h q rest ts r =
      record { kind = t.Word w; place = placing (w ++ (codes " " ++ rest)); known = q; reads = a_token (a_word h.letter h.inside refl) (a_gap refl r) }

  operator_told : (op : RedOp) (rest : List ℕ) (ts : List Token) → Reads placing rest ts → Operator op (reduction_text op ++ (codes " " ++ rest)) ts
  unfolding keyword_of
  operator_told red.Add = of_sign g.Plus red.Add refl
  operator_told red.Mul = of_sign g.Star red.Mul refl
  operator_told red.Min = of_word (codes "min") red.Min (record { letter = refl; inside = refl }) refl
  operator_told red.Max = of_word (codes "max") red.Max (record { letter = refl; inside = refl }) refl
  operator_told red.And = of_sign g.And red.And refl
  operator_told red.Or = of_sign g.Bar red.Or refl
  operator_told red.Xor = of_sign g.Caret red.Xor refl

  -- ---- the four events

  copy_told : (d : ℕ) → d ≤ most → (from to : SlotText) (bytes : ℕ) → IsReadableSlot from → IsReadableSlot to → IsShort bytes → (rest : List ℕ) → (r : Ready placing most rest)
      → Acted placing most d (event.Copy from to bytes) (spell_event (event.Copy from to bytes) rest) r.from
  copy_told d le from to bytes h i j rest r =
      let a = fielded bytes d le j (codes ";\n" ++ rest) refl (ended d le rest r) in
      let tail : List ℕ = field bytes (codes ";\n" ++ rest) in
      let b = slot_told placing most d le to i tail refl a in
      let second : List ℕ = spell_slot to tail in
      let c = slot_told placing most d le from h (codes " " ++ second) refl (space placing most second b.ready) in
      let first : List ℕ = spell_slot from (codes " " ++ second) in
      record {
        place = placing (codes "copy " ++ first);
        ready = worded placing most (codes "copy") d le (record { letter = refl; inside = refl }) (codes " " ++ first) refl (space placing most first c.ready);
        derived = an_event (a_copy c.derived b.derived);
      }

  fill_told : (d : ℕ) → d ≤ most → (to : SlotText) (e : Elem) (count : ℕ) (value : ℤ) → IsReadableSlot to → IsShort count → IsValue Long value
      → (rest : List ℕ) → (r : Ready placing most rest)
      → Acted placing most d (event.Fill to e count value) (spell_event (event.Fill to e count value) rest) r.from
  fill_told d le to e count value h i j rest r =
      let a = value_told placing most d le value j (codes ";\n" ++ rest) refl (ended d le rest r) in
      let last : List ℕ = spell_value value (codes ";\n" ++ rest) in
      let b = fielded count d le i (codes " " ++ last) refl (space placing most last a.ready) in
      let number_ : List ℕ = field count (codes " " ++ last) in
      let c = worded placing most (elem_text e) d le (elem_word e) number_ refl b in
      let type : List ℕ = elem_text e ++ number_ in
      let s = slot_told placing most d le to h (codes " " ++ type) refl (space placing most type c) in
      let first : List ℕ = spell_slot to (codes " " ++ type) in
      record {
        place = placing (codes "fill " ++ first);
        ready = worded placing most (codes "fill") d le (record { letter = refl; inside = refl }) (codes " " ++ first) refl (space placing most first s.ready);
        derived = an_event (a_fill (elem_known e) s.derived a.derived);
      }

  acc_told : (d : ℕ) → d ≤ most → (op : RedOp) (e : Elem) (from to : SlotText) (count : ℕ) → IsReadableSlot from → IsReadableSlot to → IsShort count
      → (rest : List ℕ) → (r : Ready placing most rest)
      → Acted placing most d (event.Acc op e from to count) (spell_event (event.Acc op e from to count) rest) r.from
  acc_told d le op e from to count h i j rest r =
      let a = fielded count d le j (codes ";\n" ++ rest) refl (ended d le rest r) in
      let tail : List ℕ = field count (codes ";\n" ++ rest) in
      let b = slot_told placing most d le to i tail refl a in
      let second : List ℕ = spell_slot to tail in
      let c = slot_told placing most d le from h (codes " " ++ second) refl (space placing most second b.ready) in
      let first : List ℕ = spell_slot from (codes " " ++ second) in
      let type = worded placing most (elem_text e) d le (elem_word e) (codes " " ++ first) refl (space placing most first c.ready) in
      let later : List ℕ = elem_text e ++ (codes " " ++ first) in
      let o = operator_told op later (tokens_of type.from) type.reads in
      let text : List ℕ = reduction_text op ++ (codes " " ++ later) in
      let operator : Ready placing most text = record { from = at o.kind o.place d ∷ type.from; within = (le, type.within); reads = o.reads } in
      record {
        place = placing (codes "acc " ++ text);
        ready = worded placing most (codes "acc") d le (record { letter = refl; inside = refl }) (codes " " ++ text) refl (space placing most text operator);
        derived = an_event (an_acc {t = o.kind} {q = o.place} o.known (elem_known e) c.derived b.derived);
      }

  run_told : (d : ℕ) (leaf : ℕ) (views : List ViewText) (path : List ℕ) → d + event_depth (event.Run leaf views path) ≤ most
      → IsShort leaf → All IsReadableView views → AreShort path → (rest : List ℕ) → (r : Ready placing most rest)
      → Acted placing most d (event.Run leaf views path) (spell_event (event.Run leaf views path) rest) r.from
  run_told d leaf [] path le h i j rest r =
      let up : d ≤ most = omega arith in
      let deep : suc d ≤ most = omega arith in
      let a = list_told placing most d deep path j (codes ";\n" ++ rest) (ended d up rest r) in
      let last : List ℕ = spell_list path (codes ";\n" ++ rest) in
      let close = shut placing most g.ParenClose refl d up (codes " " ++ last) (space placing most last a.ready) in
      let open_ = shut placing most g.ParenOpen refl (suc d) deep (codes ") " ++ last) close in
      let number_ = numbered placing most leaf d up h (codes " (" ++ (codes ") " ++ last)) refl (space placing most (codes "(" ++ (codes ") " ++ last)) open_) in
      let first : List ℕ = decimal leaf ++ (codes " (" ++ (codes ") " ++ last)) in
      record {
        place = placing (codes "run " ++ first);
        ready = worded placing most (codes "run") d up (record { letter = refl; inside = refl }) (codes " " ++ first) refl (space placing most first number_);
        derived = an_event (a_run no_views a.derived);
      }
  run_told d leaf (v ∷ vs) path le h i j rest r =
      let up : d ≤ most = omega arith in
      let deep : suc d ≤ most = omega arith in
      let a = list_told placing most d deep path j (codes ";\n" ++ rest) (ended d up rest r) in
      let last : List ℕ = spell_list path (codes ";\n" ++ rest) in
      let close = shut placing most g.ParenClose refl d up (codes " " ++ last) (space placing most last a.ready) in
      let b = views_told placing most (suc d) (omega arith) v vs i (codes ") " ++ last) close in
      let inside : List ℕ = listed (map spell_view (v ∷ vs)) (codes ") " ++ last) in
      let open_ = shut placing most g.ParenOpen refl (suc d) deep inside b.ready in
      let number_ = numbered placing most leaf d up h (codes " (" ++ inside) refl (space placing most (codes "(" ++ inside) open_) in
      let first : List ℕ = decimal leaf ++ (codes " (" ++ inside) in
      record {
        place = placing (codes "run " ++ first);
        ready = worded placing most (codes "run") d up (record { letter = refl; inside = refl }) (codes " " ++ first) refl (space placing most first number_);
        derived = an_event (a_run b.derived a.derived);
      }

  pub event_told : (d : ℕ) (e : EventText) → d + event_depth e ≤ most → IsReadableEvent e → (rest : List ℕ) → (r : Ready placing most rest)
      → Acted placing most d e (spell_event e rest) r.from
  event_told d (event.Copy from to bytes) le h rest r = copy_told d (omega arith) from to bytes h.0 h.1 h.2 rest r
  event_told d (event.Fill to e count value) le h rest r = fill_told d (omega arith) to e count value h.0 h.1 h.2 rest r
  event_told d (event.Acc op e from to count) le h rest r = acc_told d (omega arith) op e from to count h.0 h.1 h.2 rest r
  event_told d (event.Run leaf views path) le h rest r = run_told d leaf views path le h.0 h.1 h.2 rest r
