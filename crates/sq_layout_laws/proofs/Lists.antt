-- Lists of numbers, values, slots and views before what is read already.
use Rattle.std.proofs.Common.{◌≡◌, ◌≢◌, ℕ, ℤ, pos, negsuc, suc, ◌≤◌, Bool, true, false, if◌then◌else◌, List, [], ◌∷◌, ◌++◌, map, Some, refl, sym, subst, arith, codes}
use Rattle.std.specs.Prelude.{◌==◌}
use Rattle.std.specs.Fmt.{decimal}
use Rattle.std.specs.List.{All}
use Rattle.std.proofs.lemmas.List.Elements.{All-head, All-tail}
use Rattle.std.proofs.lemmas.Bool.{eqb-true, eqb-false}
use Rattle.std.proofs.lemmas.Int.{ints}
use Rattle.sq_text.specs.declared.place.Place.{Place}
use Rattle.sq_num.specs.declared.Elem.{Elem}
use Rattle.sq_num.specs.declared.Elem.TheVariants as elem
use Rattle.sq_num.specs.Elements.{IsValue, least, greatest}
use Rattle.sq_lexer.specs.declared.token.Kind.TheVariants as t
use Rattle.sq_lexer.specs.declared.token.Sign.TheVariants as g
use Rattle.sq_ast.specs.Symbols.{keyword_of}
use Rattle.sq_ast.specs.Canonical.{further, listed, elem_text}
use Rattle.sq_ast.proofs.Alone.{alone}
use Rattle.sq_ast.proofs.Fronts.{Ends}
use Rattle.sq_plantext.specs.Grammar.{lowest, elem_of, Numbers, AList, AValue, ASlot, AView, MoreViews, SomeViews, no_more_numbers, one_more_number, empty_list, a_list, a_number, a_negative, the_lowest, a_slot, a_view, no_more_views, one_more_view, some_views}
use Rattle.sq_plantext.specs.Layout.{spell_natural, spell_list, most_negative, spell_value, spell_slot, spell_view}
use Rattle.sq_plantext.specs.declared.text.SlotText.{SlotText}
use Rattle.sq_plantext.specs.declared.text.ViewText.{ViewText}
use Rattle.sq_layout_laws.specs.Readable.{IsWord, IsShort, AreShort, IsReadableSlot, IsReadableView}
use Rattle.sq_layout_laws.proofs.Fronted.{before_number, Ready, Told, space, worded, marked, shut, numbered}

-- ---- words of element types

pub elem_word : (e : Elem) → IsWord (elem_text e)
elem_word elem.Byte = record { letter = refl; inside = refl }
elem_word elem.Int = record { letter = refl; inside = refl }
elem_word elem.Long = record { letter = refl; inside = refl }

pub elem_known : (e : Elem) → elem_of (t.Word (elem_text e)) ≡ Some e
unfolding keyword_of
elem_known elem.Byte = refl
elem_known elem.Int = refl
elem_known elem.Long = refl

-- ---- values

short_value : (n : ℕ) → IsValue elem.Long (pos n) → IsShort n
unfolding greatest
short_value n h = let high = h.high in omega (arith, ints, high)

low_value : (n : ℕ) → IsValue elem.Long (negsuc n) → n ≤ most_negative
unfolding least most_negative
low_value n h = let low = h.low in omega (arith, ints, low)

short_negative : (n : ℕ) → n ≤ most_negative → n ≢ most_negative → IsShort (suc n)
unfolding most_negative
short_negative n le ne = omega (arith, le, ne)

lowest_is : lowest ≡ negsuc most_negative
unfolding lowest most_negative
lowest_is = refl

module _ (placing : List ℕ → Place) (most : ℕ) where
  -- ---- lists of numbers

  pub ends_further : {A : Type 0} (s : A → List ℕ → List ℕ) (xs : List A) (rest : List ℕ) → Ends rest → Ends (further (map s xs) rest)
  ends_further s [] rest ends = ends
  ends_further s (x ∷ xs) rest ends = refl

  numbers_told : (d : ℕ) → d ≤ most → (ns : List ℕ) → AreShort ns → (rest : List ℕ) → Ends rest → (r : Ready placing most rest)
      → Told placing most (Numbers d ns) (further (map spell_natural ns) rest) r.from
  numbers_told d le [] h rest ends r = record { ready = r; derived = no_more_numbers }
  numbers_told d le (n ∷ ns) h rest ends r =
      let a = numbers_told d le ns (All-tail IsShort n ns h) rest ends r in
      let later : List ℕ = further (map spell_natural ns) rest in
      let b = numbered placing most n d le (All-head IsShort n ns h) later (ends_further spell_natural ns rest ends) a.ready in
      record {
        ready = shut placing most g.Comma refl d le (codes " " ++ (decimal n ++ later)) (space placing most (decimal n ++ later) b);
        derived = one_more_number a.derived;
      }

  pub list_told : (d : ℕ) → suc d ≤ most → (ns : List ℕ) → AreShort ns → (rest : List ℕ) → (r : Ready placing most rest)
      → Told placing most (AList d ns) (spell_list ns rest) r.from
  list_told d le [] h rest r =
      let close = shut placing most g.BracketClose refl d (omega arith) rest r in
      record { ready = shut placing most g.BracketOpen refl (suc d) le (codes "]" ++ rest) close; derived = empty_list }
  list_told d le (n ∷ ns) h rest r =
      let close = shut placing most g.BracketClose refl d (omega arith) rest r in
      let a = numbers_told (suc d) le ns (All-tail IsShort n ns h) (codes "]" ++ rest) refl close in
      let later : List ℕ = further (map spell_natural ns) (codes "]" ++ rest) in
      let b = numbered placing most n (suc d) le (All-head IsShort n ns h) later (ends_further spell_natural ns (codes "]" ++ rest) refl) a.ready in
      record { ready = shut placing most g.BracketOpen refl (suc d) le (decimal n ++ later) b; derived = a_list a.derived }

  -- ---- values

  lowest_told : (d : ℕ) → d ≤ most → (rest : List ℕ) → Ends rest → (r : Ready placing most rest) → Told placing most (AValue d lowest) (codes "lowest" ++ rest) r.from
  lowest_told d le rest ends r = record {
    ready = worded placing most (codes "lowest") d le (record { letter = refl; inside = refl }) rest ends r;
    derived = the_lowest;
  }

  negative_told : (d : ℕ) → d ≤ most → (n : ℕ) → n ≤ most_negative → (b : Bool) → (n == most_negative) ≡ b → (rest : List ℕ) → Ends rest → (r : Ready placing most rest)
      → Told placing most (AValue d (negsuc n)) (if b then codes "lowest" ++ rest else codes "- " ++ spell_natural (suc n) rest) r.from
  negative_told d le n few true e rest ends r =
      subst (λ m. Told placing most (AValue d (negsuc m)) (codes "lowest" ++ rest) r.from) (sym (eqb-true n most_negative e))
      (subst (λ v. Told placing most (AValue d v) (codes "lowest" ++ rest) r.from) lowest_is (lowest_told d le rest ends r))
  negative_told d le n few false e rest ends r =
      let later : List ℕ = decimal (suc n) ++ rest in
      let a = numbered placing most (suc n) d le (short_negative n few (eqb-false n most_negative e)) rest ends r in
      record { ready = marked placing most g.Minus d le (codes " " ++ later) (alone g.Minus 32 later refl) (space placing most later a); derived = a_negative }

  pub value_told : (d : ℕ) → d ≤ most → (v : ℤ) → IsValue elem.Long v → (rest : List ℕ) → Ends rest → (r : Ready placing most rest)
      → Told placing most (AValue d v) (spell_value v rest) r.from
  value_told d le (pos n) h rest ends r = record { ready = numbered placing most n d le (short_value n h) rest ends r; derived = a_number }
  value_told d le (negsuc n) h rest ends r = negative_told d le n (low_value n h) (n == most_negative) refl rest ends r

  -- ---- slots and views

  pub slot_told : (d : ℕ) → d ≤ most → (s : SlotText) → IsReadableSlot s → (rest : List ℕ) → Ends rest → (r : Ready placing most rest)
      → Told placing most (ASlot d s) (spell_slot s rest) r.from
  slot_told d le s h rest ends r =
      let later : List ℕ = decimal s.at ++ rest in
      let a = numbered placing most s.at d le h.1 rest ends r in
      let b = marked placing most g.Plus d le later (before_number g.Plus s.at rest h.1) a in
      record { ready = numbered placing most s.buffer d le h.0 (codes "+" ++ later) refl b; derived = a_slot }

  pub view_told : (d : ℕ) → suc d ≤ most → (v : ViewText) → IsReadableView v → (rest : List ℕ) → (r : Ready placing most rest)
      → Told placing most (AView d v) (spell_view v rest) r.from
  view_told d le v h rest r =
      let up : d ≤ most = omega arith in
      let a = list_told d le v.strides h.strides rest r in
      let b = list_told d le v.extents h.extents (codes " " ++ spell_list v.strides rest) (space placing most (spell_list v.strides rest) a.ready) in
      let lists : List ℕ = spell_list v.extents (codes " " ++ spell_list v.strides rest) in
      let e = worded placing most (elem_text v.elem) d up (elem_word v.elem) (codes " " ++ lists) refl (space placing most lists b.ready) in
      let later : List ℕ = elem_text v.elem ++ (codes " " ++ lists) in
      let s = slot_told d up v.slot h.slot (codes " " ++ later) refl (space placing most later e) in
      record { ready = s.ready; derived = a_view (elem_known v.elem) s.derived b.derived a.derived }

  pub more_views_told : (d : ℕ) → suc d ≤ most → (vs : List ViewText) → All IsReadableView vs → (rest : List ℕ) → (r : Ready placing most rest)
      → Told placing most (MoreViews d vs) (further (map spell_view vs) rest) r.from
  more_views_told d le [] h rest r = record { ready = r; derived = no_more_views }
  more_views_told d le (v ∷ vs) h rest r =
      let a = more_views_told d le vs (All-tail IsReadableView v vs h) rest r in
      let b = view_told d le v (All-head IsReadableView v vs h) (further (map spell_view vs) rest) a.ready in
      let later : List ℕ = spell_view v (further (map spell_view vs) rest) in
      record {
        ready = shut placing most g.Comma refl d (omega arith) (codes " " ++ later) (space placing most later b.ready);
        derived = one_more_view b.derived a.derived;
      }

  pub views_told : (d : ℕ) → suc d ≤ most → (v : ViewText) (vs : List ViewText) → All IsReadableView (v ∷ vs) → (rest : List ℕ) → (r : Ready placing most rest)
      → Told placing most (SomeViews d (v ∷ vs)) (listed (map spell_view (v ∷ vs)) rest) r.from
  views_told d le v vs h rest r =
      let a = more_views_told d le vs (All-tail IsReadableView v vs h) rest r in
      let b = view_told d le v (All-head IsReadableView v vs h) (further (map spell_view vs) rest) a.ready in
      record { ready = b.ready; derived = some_views b.derived a.derived }
