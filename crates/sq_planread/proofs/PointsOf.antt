-- Where the readers of lists, events and terms stop.
use Rattle.std.proofs.Common.{◌≡◌, ℕ, zero, suc, pos, negsuc, ◌==◌, Bool, true, false, if◌then◌else◌, List, [], ◌∷◌, Some, None, Ok, refl, sym, subst, arith, codes}
use Rattle.std.proofs.lemmas.Bool.{eqb-true}
use Rattle.sq_text.specs.declared.place.Place.{Place}
use Rattle.sq_num.specs.declared.Elem.TheVariants.{Int}
use Rattle.sq_lexer.specs.declared.token.Token.{Token}
use Rattle.sq_lexer.specs.declared.token.Kind.{Kind}
use Rattle.sq_lexer.specs.declared.token.Kind.TheVariants as tk
use Rattle.sq_lexer.specs.declared.token.Sign.TheVariants as g
use Rattle.sq_ast.specs.Symbols.{keyword_of}
use Rattle.sq_plantext.specs.declared.text.EventText.{EventText}
use Rattle.sq_plantext.specs.declared.text.TermText.{TermText}
use Rattle.sq_plantext.specs.declared.text.TermText.TheVariants as terms
use Rattle.sq_plantext.specs.Grammar as grammar
use Rattle.sq_plantext.specs.Grammar.{Leveled, at, word, number, sign, Phrase, Derives, elem_of, operator_of}
use Rattle.sq_planread.specs.Reading as reading
use Rattle.sq_planread.specs.Reading.{Outcome, Reader, and_then, ◌>>=◌, ◌>>◌, pure, take_token, place, nowhere, next, name_in, natural_in, one_in, sees_word, sees_sign, expect_word, expect_sign, expect_some, any_word, natural, opening, many_after, separated, after_comma, goes_on, term, term_by, inner, event}
use Rattle.sq_planread.proofs.Found.{signed, worded}
use Rattle.sq_planread.proofs.Points.{Ended, Rel, Both, both, Nothing, nothing, Star, no_more, one_more, Fixed, fixed, OfTable, of_table, Given, given_both, given_as, given_nothing, given_fixed, given_table, Stops, stops_as, stops_for, stops_pure, then_, either, skips, refused_at, stops_sign, stops_table, stops_open, stops_many, behind_word, behind_sign, stops_separated, stops_placed}

-- a phrase, whatever it stands for
abbrev pub Phr : {V : Type 0} → (V → Phrase) → Rel
Phr {V} P = λ I J. (v : V) × Derives (P v) I J

-- ---- single tokens

pub data ANumber (d : ℕ) : List Leveled → List Leveled → Type 0 where
  a_num : {n : ℕ} {p : Place} {J : List Leveled} → ANumber d (number n p d ∷ J) J

pub data AWord (d : ℕ) : List Leveled → List Leveled → Type 0 where
  a_word : {w : List ℕ} {p : Place} {J : List Leveled} → AWord d (word w p d ∷ J) J

number_at : (d : ℕ) (k : Kind) (p : Place) (J : List Leveled) (a : ℕ) → natural_in k ≡ Some a → ANumber d (at k p d ∷ J) J
number_at d (tk.Number (pos n)) p J a e = a_num
number_at d (tk.Number (negsuc n)) p J a e = absurd (cc)
number_at d (tk.Word w) p J a e = absurd (cc)
number_at d (tk.Sign s) p J a e = absurd (cc)
number_at d tk.End p J a e = absurd (cc)

to_number : (d : ℕ) (I J : List Leveled) → OfTable natural_in d I J → ANumber d I J
to_number d I J (of_table {k = k} {p = p} {a = a} e) = number_at d k p J a e

word_at : (d : ℕ) (k : Kind) (p : Place) (J : List Leveled) (a : List ℕ) → name_in k ≡ Some a → AWord d (at k p d ∷ J) J
word_at d (tk.Word w) p J a e = a_word
word_at d (tk.Number n) p J a e = absurd (cc)
word_at d (tk.Sign s) p J a e = absurd (cc)
word_at d tk.End p J a e = absurd (cc)

to_word : (d : ℕ) (I J : List Leveled) → OfTable name_in d I J → AWord d I J
to_word d I J (of_table {k = k} {p = p} {a = a} e) = word_at d k p J a e

of_value : (n : ℕ) (b : Bool) (u : Unit {0}) → (n == 1) ≡ b → (if b then Some tt else None) ≡ Some u → n ≡ 1
of_value n true u e h = eqb-true n 1 e
of_value n false u e h = absurd (cc)

one_at : (d : ℕ) (k : Kind) (p : Place) (J : List Leveled) (u : Unit {0}) → one_in k ≡ Some u → Fixed (tk.Number (pos 1)) d (at k p d ∷ J) J
one_at d (tk.Number (pos n)) p J u e = subst (λ n. Fixed (tk.Number (pos 1)) d (at (tk.Number (pos n)) p d ∷ J) J) (sym (of_value n (n == 1) u refl e)) fixed
one_at d (tk.Number (negsuc n)) p J u e = absurd (cc)
one_at d (tk.Word w) p J u e = absurd (cc)
one_at d (tk.Sign s) p J u e = absurd (cc)
one_at d tk.End p J u e = absurd (cc)

to_one : (d : ℕ) (I J : List Leveled) → OfTable one_in d I J → Fixed (tk.Number (pos 1)) d I J
to_one d I J (of_table {k = k} {p = p} {a = a} e) = one_at d k p J a e

pub given_number : (d : ℕ) → Given (ANumber d)
given_number d = record { front = number 0 nowhere d ∷ []; part = λ J. a_num }

pub given_word : (d : ℕ) → Given (AWord d)
given_word d = record { front = word (codes "a") nowhere d ∷ []; part = λ J. a_word }

pub stops_natural : {X : Type 0} (d : ℕ) (i : List Token) → Ended i → Stops 1 (ANumber d) (λ (x : X). natural) i
stops_natural d i last = stops_as (to_number d) (stops_table natural_in d (tk.Number (pos 0)) 0 refl refl i last)

pub stops_name : {X : Type 0} (d : ℕ) (i : List Token) → Ended i → Stops 1 (AWord d) (λ (x : X). any_word) i
stops_name d i last = stops_as (to_word d) (stops_table name_in d (tk.Word []) [] refl refl i last)

pub stops_one : {X : Type 0} (d : ℕ) (i : List Token) → Ended i → Stops 1 (Fixed (tk.Number (pos 1)) d) (λ (x : X). expect_some one_in) i
stops_one d i last = stops_as (to_one d) (stops_table one_in d (tk.Number (pos 1)) tt refl refl i last)

abbrev pub AnElem : ℕ → Rel
AnElem d = OfTable elem_of d

pub given_elem : (d : ℕ) → Given (AnElem d)
unfolding keyword_of
given_elem d = given_table elem_of d (tk.Word (codes "int")) Int refl

pub stops_elem : {X : Type 0} (d : ℕ) (i : List Token) → Ended i → Stops 1 (AnElem d) (λ (x : X). expect_some elem_of) i
unfolding keyword_of
stops_elem d i last = stops_table elem_of d (tk.Word (codes "int")) Int refl refl i last

-- ---- lists

-- between the brackets
data Inside (d : ℕ) : List Leveled → List Leveled → Type 0 where
  empty : {J : List Leveled} → Inside d J J
  some : {n : ℕ} {ns : List ℕ} {p : Place} {K J : List Leveled} → Derives (grammar.Numbers d ns) K J → Inside d (number n p d ∷ K) J

numbers_of : (d : ℕ) (I J : List Leveled) → Star (Both (Fixed (tk.Sign g.Comma) d) (ANumber d)) I J → Phr (grammar.Numbers d) I J
numbers_of d I J no_more = ([], grammar.no_more_numbers)
numbers_of d I J (one_more (both fixed a_num) s) = let h = numbers_of d _ J s in (_, grammar.one_more_number h.1)

inside_of : (d : ℕ) (I J : List Leveled) → Both (ANumber d) (Star (Both (Fixed (tk.Sign g.Comma) d) (ANumber d))) I J → Inside d I J
inside_of d I J (both a_num s) = some (numbers_of d _ J s).1

list_of : (d : ℕ) (I J : List Leveled) → Both (Fixed (tk.Sign g.BracketOpen) (suc d)) (Both (Inside (suc d)) (Both (Fixed (tk.Sign g.BracketClose) d) Nothing)) I J → Phr (grammar.AList d) I J
list_of d I J (both fixed (both empty (both fixed nothing))) = ([], grammar.empty_list)
list_of d I J (both fixed (both (some h) (both fixed nothing))) = (_, grammar.a_list h)

pub given_list : (d : ℕ) → Given (Phr (grammar.AList d))
given_list d = record { front = sign g.BracketOpen nowhere (suc d) ∷ sign g.BracketClose nowhere d ∷ []; part = λ J. ([], grammar.empty_list) }

given_closed : (k : Kind) (d : ℕ) → Given (Both (Fixed k d) Nothing)
given_closed k d = given_both (given_fixed k d) given_nothing

pub stops_list : {X : Type 0} (n d : ℕ) (i : List Token) → Ended i → Stops 1 (Phr (grammar.AList d)) (λ (x : X). reading.list n) i
unfolding reading.list
stops_list n d i last = stops_as (list_of d) (stops_open g.BracketOpen d (given_both (record { front = []; part = λ J. empty }) (given_closed (tk.Sign g.BracketClose) d)) n _ i last
    (λ m e j last. then_ _ j (given_closed (tk.Sign g.BracketClose) d) (stops_separated (Inside (suc d)) (suc d) g.BracketClose natural (λ J. empty) (inside_of (suc d)) (stops_natural (suc d)) j last)
    (λ l last. then_ _ l given_nothing (stops_sign g.BracketClose d l last) (λ q last. stops_pure _ q last))))

-- ---- values

lowest_of : (d : ℕ) (I J : List Leveled) → Both (Fixed (tk.Word (codes "lowest")) d) Nothing I J → Phr (grammar.AValue d) I J
lowest_of d I J (both fixed nothing) = (_, grammar.the_lowest)

negative_of : (d : ℕ) (I J : List Leveled) → Both (Fixed (tk.Sign g.Minus) d) (Both (Both (ANumber d) Nothing) Nothing) I J → Phr (grammar.AValue d) I J
negative_of d I J (both fixed (both (both a_num nothing) nothing)) = (_, grammar.a_negative)

natural_of : (d : ℕ) (I J : List Leveled) → Both (ANumber d) Nothing I J → Phr (grammar.AValue d) I J
natural_of d I J (both a_num nothing) = (_, grammar.a_number)

stops_whole : {X : Type 0} (d : ℕ) (i : List Token) → Ended i → Stops 1 (Both (ANumber d) Nothing) (λ (x : X). reading.whole) i
stops_whole d i last = then_ _ i given_nothing (stops_natural d i last) (λ j last. stops_pure _ j last)

given_value : (d : ℕ) → Given (Phr (grammar.AValue d))
given_value d = record { front = number 0 nowhere d ∷ []; part = λ J. (_, grammar.a_number) }

pub stops_value : {X : Type 0} (d : ℕ) (i : List Token) → Ended i → Stops 1 (Phr (grammar.AValue d)) (λ (x : X). reading.value) i
stops_value d [] last = absurd last
stops_value d (t ∷ ts) last = either (sees_word (codes "lowest")) (λ t u v. refl) (λ x i. Ok (grammar.lowest, next i)) (λ x i. if sees_sign g.Minus i then (take_token >> reading.negative) i else reading.whole i) (t ∷ ts) last
    (λ e. let k = worded (codes "lowest") t.kind e in stops_as (lowest_of d) (skips (λ x. pure grammar.lowest) (tk.Word (codes "lowest")) d t ts k (λ x u. refl) (stops_pure _ ts (behind_word (codes "lowest") t ts last k))))
    (λ e. either (sees_sign g.Minus) (λ t u v. refl) (λ x. take_token >> reading.negative) (λ x. reading.whole) (t ∷ ts) last
    (λ e. let k = signed g.Minus t.kind e in stops_as (negative_of d) (skips (λ x. reading.negative) (tk.Sign g.Minus) d t ts k (λ x u. refl)
    (then_ _ ts given_nothing (stops_whole d ts (behind_sign g.Minus t ts last k)) (λ j last. stops_pure _ j last))))
    (λ e. stops_as (natural_of d) (stops_whole d (t ∷ ts) last)))

-- ---- slots and views

slot_of : (d : ℕ) (I J : List Leveled) → Both (ANumber d) (Both (Fixed (tk.Sign g.Plus) d) (Both (ANumber d) Nothing)) I J → Phr (grammar.ASlot d) I J
slot_of d I J (both a_num (both fixed (both a_num nothing))) = (_, grammar.a_slot)

given_natural : (d : ℕ) → Given (Both (ANumber d) Nothing)
given_natural d = given_both (given_number d) given_nothing

given_slot : (d : ℕ) → Given (Phr (grammar.ASlot d))
given_slot d = given_as (slot_of d) (given_both (given_number d) (given_both (given_fixed (tk.Sign g.Plus) d) (given_natural d)))

stops_slot : {X : Type 0} (d : ℕ) (i : List Token) → Ended i → Stops 1 (Phr (grammar.ASlot d)) (λ (x : X). reading.slot) i
unfolding reading.slot
stops_slot d i last = stops_as (slot_of d) (then_ _ i (given_both (given_fixed (tk.Sign g.Plus) d) (given_natural d)) (stops_natural d i last)
    (λ j last. then_ _ j (given_natural d) (stops_sign g.Plus d j last) (λ l last. then_ _ l given_nothing (stops_natural d l last) (λ m last. stops_pure _ m last))))

view_of : (d : ℕ) (I J : List Leveled) → Both (Phr (grammar.ASlot d)) (Both (AnElem d) (Both (Phr (grammar.AList d)) (Both (Phr (grammar.AList d)) Nothing))) I J → Phr (grammar.AView d) I J
view_of d I J (both s (both (of_table e) (both x (both y nothing)))) = (_, grammar.a_view e s.1 x.1 y.1)

given_view : (d : ℕ) → Given (Phr (grammar.AView d))
given_view d = given_as (view_of d) (given_both (given_slot d) (given_both (given_elem d) (given_both (given_list d) (given_both (given_list d) given_nothing))))

stops_view : {X : Type 0} (n d : ℕ) (i : List Token) → Ended i → Stops 1 (Phr (grammar.AView d)) (λ (x : X). reading.view n) i
unfolding reading.view
stops_view n d i last = stops_as (view_of d) (then_ _ i (given_both (given_elem d) (given_both (given_list d) (given_both (given_list d) given_nothing))) (stops_slot d i last)
    (λ j last. then_ _ j (given_both (given_list d) (given_both (given_list d) given_nothing)) (stops_elem d j last)
    (λ l last. then_ _ l (given_both (given_list d) given_nothing) (stops_list n d l last)
    (λ m last. then_ _ m given_nothing (stops_list n d m last) (λ o last. stops_pure _ o last)))))

more_views_of : (d : ℕ) (I J : List Leveled) → Star (Both (Fixed (tk.Sign g.Comma) d) (Phr (grammar.AView d))) I J → Phr (grammar.MoreViews d) I J
more_views_of d I J no_more = ([], grammar.no_more_views)
more_views_of d I J (one_more (both fixed v) s) = let h = more_views_of d _ J s in (_, grammar.one_more_view v.1 h.1)

views_of : (d : ℕ) (I J : List Leveled) → Both (Phr (grammar.AView d)) (Star (Both (Fixed (tk.Sign g.Comma) d) (Phr (grammar.AView d)))) I J → Phr (grammar.SomeViews d) I J
views_of d I J (both v s) = let h = more_views_of d _ J s in (_, grammar.some_views v.1 h.1)

no_views_of : (d : ℕ) (J : List Leveled) → Phr (grammar.SomeViews d) J J
no_views_of d J = ([], grammar.no_views)

-- ---- events

-- after its first word
abbrev Behind : ℕ → List ℕ → Rel
Behind d w = λ I J. (p : Place) → (x : EventText) × Derives (grammar.AnEvent d x) (word w p d ∷ I) J

abbrev Copying : ℕ → Rel
Copying d = Both (Phr (grammar.ASlot d)) (Both (Phr (grammar.ASlot d)) (Both (ANumber d) Nothing))

copy_of : (d : ℕ) (I J : List Leveled) → Copying d I J → Behind d (codes "copy") I J
copy_of d I J (both s (both t (both a_num nothing))) = λ p. (_, grammar.a_copy s.1 t.1)

given_copy : (d : ℕ) → Given (Copying d)
given_copy d = given_both (given_slot d) (given_both (given_slot d) (given_natural d))

stops_copy : {X : Type 0} (d : ℕ) (i : List Token) → Ended i → Stops 1 (Behind d (codes "copy")) (λ (x : X). reading.copy) i
unfolding reading.copy
stops_copy d i last = stops_as (copy_of d) (then_ _ i (given_both (given_slot d) (given_natural d)) (stops_slot d i last)
    (λ j last. then_ _ j (given_natural d) (stops_slot d j last) (λ l last. then_ _ l given_nothing (stops_natural d l last) (λ m last. stops_pure _ m last))))

abbrev Filling : ℕ → Rel
Filling d = Both (Phr (grammar.ASlot d)) (Both (AnElem d) (Both (ANumber d) (Both (Phr (grammar.AValue d)) Nothing)))

fill_of : (d : ℕ) (I J : List Leveled) → Filling d I J → Behind d (codes "fill") I J
fill_of d I J (both s (both (of_table e) (both a_num (both v nothing)))) = λ p. (_, grammar.a_fill e s.1 v.1)

stops_fill : {X : Type 0} (d : ℕ) (i : List Token) → Ended i → Stops 1 (Behind d (codes "fill")) (λ (x : X). reading.fill) i
unfolding reading.fill
stops_fill d i last = stops_as (fill_of d) (then_ _ i (given_both (given_elem d) (given_both (given_number d) (given_both (given_value d) given_nothing))) (stops_slot d i last)
    (λ j last. then_ _ j (given_both (given_number d) (given_both (given_value d) given_nothing)) (stops_elem d j last)
    (λ l last. then_ _ l (given_both (given_value d) given_nothing) (stops_natural d l last)
    (λ m last. then_ _ m given_nothing (stops_value d m last) (λ o last. stops_pure _ o last)))))

abbrev Adding : ℕ → Rel
Adding d = Both (OfTable operator_of d) (Both (AnElem d) (Copying d))

acc_of : (d : ℕ) (I J : List Leveled) → Adding d I J → Behind d (codes "acc") I J
acc_of d I J (both (of_table o) (both (of_table e) (both s (both t (both a_num nothing))))) = λ p. (_, grammar.an_acc o e s.1 t.1)

stops_acc : {X : Type 0} (d : ℕ) (i : List Token) → Ended i → Stops 1 (Behind d (codes "acc")) (λ (x : X). reading.acc) i
unfolding reading.acc
stops_acc d i last = stops_as (acc_of d) (then_ _ i (given_both (given_elem d) (given_copy d)) (stops_table operator_of d (tk.Sign g.Plus) _ refl refl i last)
    (λ j last. then_ _ j (given_copy d) (stops_elem d j last)
    (λ l last. then_ _ l (given_both (given_slot d) (given_natural d)) (stops_slot d l last)
    (λ m last. then_ _ m (given_natural d) (stops_slot d m last) (λ o last. then_ _ o given_nothing (stops_natural d o last) (λ q last. stops_pure _ q last))))))

abbrev Running : ℕ → Rel
Running d = Both (ANumber d) (Both (Fixed (tk.Sign g.ParenOpen) (suc d)) (Both (Phr (grammar.SomeViews (suc d))) (Both (Fixed (tk.Sign g.ParenClose) d) (Both (Phr (grammar.AList d)) Nothing))))

run_of : (d : ℕ) (I J : List Leveled) → Running d I J → Behind d (codes "run") I J
run_of d I J (both a_num (both fixed (both vs (both fixed (both path nothing))))) = λ p. (_, grammar.a_run vs.1 path.1)

given_path : (d : ℕ) → Given (Both (Fixed (tk.Sign g.ParenClose) d) (Both (Phr (grammar.AList d)) Nothing))
given_path d = given_both (given_fixed (tk.Sign g.ParenClose) d) (given_both (given_list d) given_nothing)

given_views : (d : ℕ) → Given (Both (Phr (grammar.SomeViews (suc d))) (Both (Fixed (tk.Sign g.ParenClose) d) (Both (Phr (grammar.AList d)) Nothing)))
given_views d = given_both (record { front = []; part = no_views_of (suc d) }) (given_path d)

stops_run : {X : Type 0} (n d : ℕ) (i : List Token) → Ended i → Stops 1 (Behind d (codes "run")) (λ (x : X). reading.run n) i
unfolding reading.run
stops_run n d i last = stops_as (run_of d) (then_ _ i (given_both (given_fixed (tk.Sign g.ParenOpen) (suc d)) (given_views d)) (stops_natural d i last)
    (λ j last. stops_open g.ParenOpen d (given_views d) n _ j last
    (λ m e l last. then_ _ l (given_path d) (stops_separated (Phr (grammar.SomeViews (suc d))) (suc d) g.ParenClose (reading.view m) (no_views_of (suc d)) (views_of (suc d)) (stops_view m (suc d)) l last)
    (λ o last. then_ _ o (given_both (given_list d) given_nothing) (stops_sign g.ParenClose d o last)
    (λ q last. then_ _ q given_nothing (stops_list n d q last) (λ r last. stops_pure _ r last))))))

pub data EventAt (d : ℕ) : List Leveled → List Leveled → Type 0 where
  event_at : {x : EventText} {k : Kind} {p : Place} {I J : List Leveled} → Derives (grammar.AnEvent d x) (at k p d ∷ I) J → EventAt d (at k p d ∷ I) J

of_word : (d : ℕ) (w : List ℕ) (I J : List Leveled) → Both (Fixed (tk.Word w) d) (Behind d w) I J → EventAt d I J
of_word d w I J (both (fixed {p = p}) f) = event_at (f p).1

given_event : (d : ℕ) → Given (EventAt d)
given_event d = given_as (of_word d (codes "copy")) (given_both (given_fixed (tk.Word (codes "copy")) d) (given_as (copy_of d) (given_copy d)))

stops_event : {X : Type 0} (n d : ℕ) (i : List Token) → Ended i → Stops 1 (EventAt d) (λ (x : X). event n) i
stops_event n d [] last = absurd last
stops_event n d (t ∷ ts) last = either (sees_word (codes "copy")) (λ t u v. refl) _ _ (t ∷ ts) last
    (λ e. let k = worded (codes "copy") t.kind e in stops_as (of_word d (codes "copy")) (skips (λ x. reading.copy) (tk.Word (codes "copy")) d t ts k (λ x u. refl) (stops_copy d ts (behind_word (codes "copy") t ts last k))))
    (λ e. either (sees_word (codes "fill")) (λ t u v. refl) _ _ (t ∷ ts) last
    (λ e. let k = worded (codes "fill") t.kind e in stops_as (of_word d (codes "fill")) (skips (λ x. reading.fill) (tk.Word (codes "fill")) d t ts k (λ x u. refl) (stops_fill d ts (behind_word (codes "fill") t ts last k))))
    (λ e. either (sees_word (codes "acc")) (λ t u v. refl) _ _ (t ∷ ts) last
    (λ e. let k = worded (codes "acc") t.kind e in stops_as (of_word d (codes "acc")) (skips (λ x. reading.acc) (tk.Word (codes "acc")) d t ts k (λ x u. refl) (stops_acc d ts (behind_word (codes "acc") t ts last k))))
    (λ e. either (sees_word (codes "run")) (λ t u v. refl) _ _ (t ∷ ts) last
    (λ e. let k = worded (codes "run") t.kind e in stops_as (of_word d (codes "run")) (skips (λ x. reading.run n) (tk.Word (codes "run")) d t ts k (λ x u. refl) (stops_run n d ts (behind_word (codes "run") t ts last k))))
    (λ e. refused_at t ts last (λ x u. refl) (given_event d)))))

act_of : (d : ℕ) (I J : List Leveled) → Both (EventAt d) (Both (Fixed (tk.Sign g.Semi) d) Nothing) I J → Phr (grammar.ATerm d) I J
act_of d I J (both (event_at h) (both fixed nothing)) = (_, grammar.an_event h)

pub given_term : (d : ℕ) → Given (Phr (grammar.ATerm d))
given_term d = given_as (act_of d) (given_both (given_event d) (given_closed (tk.Sign g.Semi) d))

stops_act : {X : Type 0} (n d : ℕ) (i : List Token) → Ended i → Stops 1 (Phr (grammar.ATerm d)) (λ (x : X) i. reading.event_at n (place i) i) i
unfolding reading.event_at
stops_act {X = X} n d i last = stops_placed (reading.event_at n) (stops_as (act_of d) (then_ _ i (given_closed (tk.Sign g.Semi) d) (stops_event n d i last)
    (λ j last. then_ _ j given_nothing (stops_sign g.Semi d j last) (λ l last. stops_pure _ l last))))

-- ---- terms

terms_of : (d : ℕ) (I J : List Leveled) → Star (Phr (grammar.ATerm d)) I J → Phr (grammar.SomeTerms d) I J
terms_of d I J no_more = ([], grammar.no_terms)
terms_of d I J (one_more x s) = let h = terms_of d _ J s in (_, grammar.one_more_term x.1 h.1)

given_terms : (d : ℕ) → Given (Phr (grammar.SomeTerms d))
given_terms d = record { front = []; part = λ J. ([], grammar.no_terms) }

abbrev Braced : ℕ → Rel
Braced d = Both (Fixed (tk.Sign g.BraceOpen) (suc d)) (Both (Phr (grammar.SomeTerms (suc d))) (Both (Fixed (tk.Sign g.BraceClose) d) Nothing))

seq_of : (d : ℕ) (I J : List Leveled) → Both (Fixed (tk.Word (codes "seq")) d) (Both (Braced d) Nothing) I J → Phr (grammar.ATerm d) I J
seq_of d I J (both fixed (both (both fixed (both xs (both fixed nothing))) nothing)) = (_, grammar.a_seq xs.1)

par_of : (d : ℕ) (I J : List Leveled) → Both (Fixed (tk.Word (codes "par")) d) (Both (Braced d) Nothing) I J → Phr (grammar.ATerm d) I J
par_of d I J (both fixed (both (both fixed (both xs (both fixed nothing))) nothing)) = (_, grammar.a_par xs.1)

abbrev Only : ℕ → Rel
Only d = Both (Phr (grammar.ATerm (suc d))) (Both (Fixed (tk.Sign g.BraceClose) d) Nothing)

abbrev Scoped : ℕ → Rel
Scoped d = Both (ANumber d) (Both (Phr (grammar.AList d)) (Both (Fixed (tk.Sign g.BraceOpen) (suc d)) (Both (Only d) Nothing)))

scope_of : (d : ℕ) (I J : List Leveled) → Both (Fixed (tk.Word (codes "at")) d) (Scoped d) I J → Phr (grammar.ATerm d) I J
scope_of d I J (both fixed (both a_num (both bs (both fixed (both (both x (both fixed nothing)) nothing))))) = (_, grammar.a_scope bs.1 x.1)

given_only : (d : ℕ) → Given (Both (Only d) Nothing)
given_only d = given_both (given_both (given_term (suc d)) (given_closed (tk.Sign g.BraceClose) d)) given_nothing

given_body : (d : ℕ) → Given (Both (Fixed (tk.Sign g.BraceOpen) (suc d)) (Both (Only d) Nothing))
given_body d = given_both (given_fixed (tk.Sign g.BraceOpen) (suc d)) (given_only d)

-- where a term inside is read by `one`
module _ (n d : ℕ) (one : Reader TermText) (h : (m : ℕ) → suc m ≡ n → (i : List Token) → Ended i → Stops 1 (Phr (grammar.ATerm (suc d))) (λ (u : Unit {0}). one) i) where
  stops_parts : {X : Type 0} (i : List Token) → Ended i → Stops 1 (Braced d) (λ (x : X). reading.parts n one) i
  unfolding reading.parts reading.terms_to
  stops_parts i last = stops_open g.BraceOpen d (given_both (given_terms (suc d)) (given_closed (tk.Sign g.BraceClose) d)) n _ i last
      (λ m e j last. then_ _ j (given_closed (tk.Sign g.BraceClose) d) (stops_as (terms_of (suc d)) (stops_many goes_on (λ t u v. refl) one (λ i last go. h m e i last) (λ x. []) j last))
      (λ l last. then_ _ l given_nothing (stops_sign g.BraceClose d l last) (λ q last. stops_pure _ q last)))

  stops_scope : {X : Type 0} (p : Place) (i : List Token) → Ended i → Stops 1 (Scoped d) (λ (x : X). reading.scope n p one) i
  unfolding reading.scope reading.term_to
  stops_scope p i last = then_ _ i (given_both (given_list d) (given_body d)) (stops_natural d i last)
      (λ j last. then_ _ j (given_body d) (stops_list n d j last)
      (λ l last. stops_open g.BraceOpen d (given_only d) n _ l last
      (λ m e o last. then_ _ o given_nothing (then_ _ o (given_closed (tk.Sign g.BraceClose) d) (stops_for (λ x. tt) (h m e o last)) (λ q last. then_ _ q given_nothing (stops_sign g.BraceClose d q last) (λ r last. stops_pure _ r last)))
      (λ q last. stops_pure _ q last))))

  stops_term_by : {X : Type 0} (i : List Token) → Ended i → Stops 1 (Phr (grammar.ATerm d)) (λ (x : X). term_by n one) i
  stops_term_by [] last = absurd last
  stops_term_by (t ∷ ts) last = either (sees_word (codes "seq")) (λ t u v. refl) _ _ (t ∷ ts) last
      (λ e. let k = worded (codes "seq") t.kind e in stops_as (seq_of d) (skips (λ x. reading.parts n one >>= (λ xs. pure (terms.Seq xs))) (tk.Word (codes "seq")) d t ts k (λ x u. refl)
      (then_ _ ts given_nothing (stops_parts ts (behind_word (codes "seq") t ts last k)) (λ j last. stops_pure _ j last))))
      (λ e. either (sees_word (codes "par")) (λ t u v. refl) _ _ (t ∷ ts) last
      (λ e. let k = worded (codes "par") t.kind e in stops_as (par_of d) (skips (λ x. reading.parts n one >>= (λ xs. pure (terms.Par xs))) (tk.Word (codes "par")) d t ts k (λ x u. refl)
      (then_ _ ts given_nothing (stops_parts ts (behind_word (codes "par") t ts last k)) (λ j last. stops_pure _ j last))))
      (λ e. either (sees_word (codes "at")) (λ t u v. refl) _ _ (t ∷ ts) last
      (λ e. let k = worded (codes "at") t.kind e in stops_as (scope_of d) (skips (λ x. reading.scope n t.place one) (tk.Word (codes "at")) d t ts k (λ x u. refl)
      (stops_scope t.place ts (behind_word (codes "at") t ts last k))))
      (λ e. stops_act n d (t ∷ ts) last)))

pub stops_term : {X : Type 0} (n d : ℕ) (i : List Token) → Ended i → Stops 1 (Phr (grammar.ATerm d)) (λ (x : X). term n) i
unfolding term
stops_term zero d i last = stops_term_by zero d reading.refuse (λ m e. absurd (omega (arith, e))) i last
stops_term (suc n) d i last = stops_term_by (suc n) d (term n) (λ m e i last. stops_term n (suc d) i last) i last
