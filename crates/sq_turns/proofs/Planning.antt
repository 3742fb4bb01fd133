-- Statements whose deeds are known are the loop over its turns.
use Rattle.std.proofs.Common.{◌≡◌, ℕ, zero, suc, ◌+◌, ◌*◌, ◌<◌, ◌≤◌, Bool, true, false, List, [], ◌∷◌, ◌++◌, length, take, drop, map, get_or, slice_get, Option, Some, None, Result, Ok, ℤ, pos, ◌+ℤ◌, refl, sym, ◌∙◌, ap, arith, subst, unsigned_abs, if◌then◌else◌}
use Rattle.std.specs.List.{All}
use Rattle.std.proofs.lemmas.List.{get_or-drop}
use Rattle.std.proofs.Math.Seq.{take-suc}
use Rattle.std.proofs.lemmas.List.Elements.{All-push}
use Rattle.std.proofs.lemmas.List.Prefix.{front_reads}
use Rattle.sq_num.specs.declared.Elem.{Elem}
use Rattle.sq_num.specs.Elements.{width}
use Rattle.sq_rect.specs.declared.view.View.{View}
use Rattle.sq_ast.specs.declared.leaf.AssignOp.{AssignOp}
use Rattle.sq_columns.specs.declared.line.Line.{Line}
use Rattle.sq_columns.specs.declared.line.Line.TheVariants.{Same, Ramp, Column}
use Rattle.sq_columns.specs.Lines.{line_at, first_byte}
use Rattle.sq_leaf.specs.declared.trap.Trap.{Trap}
use Rattle.sq_leaf.specs.declared.spot.Spot.{Spot}
use Rattle.sq_leaf.specs.declared.code.Code.{Code}
use Rattle.sq_leaf.specs.declared.code.Cell.{Cell}
use Rattle.sq_leaf.specs.declared.code.Action.{Action}
use Rattle.sq_leaf.specs.Numbers.{is_zero, binary}
use Rattle.std.specs.Int.{int_min, int_max}
use Rattle.sq_leaf.specs.Source.{assigned}
use Rattle.sq_leaf.specs.Spots.{load, store}
use Rattle.sq_leaf.specs.Running.{Sight, CellRun, Ran, Goes, Stops, once, onward, assigns, run_code, run_cell, run_each, run_action, ActionRun}
use Rattle.sq_turns.specs.declared.block.Write.{Write}
use Rattle.sq_turns.specs.declared.block.Block.{Block}
use Rattle.sq_deeds.specs.declared.rise.Rise.{Rise}
use Rattle.sq_deeds.specs.declared.deeds.Numbers.{Numbers}
use Rattle.sq_deeds.specs.declared.deeds.Link.{Link}
use Rattle.sq_deeds.specs.declared.deeds.Link.TheVariants.{Unary, Onto, Under, Least, Most, Itself}
use Rattle.sq_deeds.specs.declared.deeds.Value.{Value}
use Rattle.sq_deeds.specs.declared.deeds.Value.TheVariants as value
use Rattle.sq_deeds.specs.declared.deeds.Put.{Put}
use Rattle.sq_deeds.specs.declared.deeds.Deed.{Deed}
use Rattle.sq_deeds.specs.declared.deeds.Deed.TheVariants.{Always, Choice}
use Rattle.sq_turns.specs.declared.setting.Setting.{Setting}
use Rattle.sq_deeds.specs.Puts.{LiesIn, IsRise}
use Rattle.sq_turns.specs.Blocks.{IsClearOf, Below, Above, Ahead, AllClear, IsClear, IsMet}
use Rattle.sq_deeds.specs.Loops.{in_turn}
use Rattle.sq_turns.specs.Settings.{counters_at, at_turn, all_turns, Places}
use Rattle.sq_deeds.specs.Deeds.{number_at, byte_at, linked, along_from, value_at, put_at_turn, put_or_not, done, all_done, turns_done, HasColumn, IsRoomy, LinkFits, ValueFits, PutFits, MayFit, DeedFits, AreKept}
use Rattle.sq_turns.specs.Values.{AreNumbers, IsValue}
use Rattle.sq_turns.specs.Plans.{passed, past, block_past, chooses, AimsAt, StaysIn, MayStay, DeedStays, IsPut, IsBranch, IsDeed, IsNext, AreDeeds}
use Rattle.sq_turns.proofs.Meeting.{stored, side, all_sooner}
use Rattle.sq_turns.proofs.Putting.{block_is_loop}
use Rattle.sq_turns.proofs.Blocking.{one_alone}

-- ---- columns that stay

pub kept_again : (k : ℕ) (a b c : List ℤ) → AreKept k a b → AreKept k b c → AreKept k a c
kept_again k a b c h g = record { size = g.size ∙ h.size; same = λ i below. g.same i below ∙ h.same i below }

pub kept_less : (k m : ℕ) (a b : List ℤ) → k ≤ m → AreKept m a b → AreKept k a b
kept_less k m a b less h = record { size = h.size; same = λ i below. h.same i (omega (arith, below, less)) }

pub kept_same : (k : ℕ) (a : List ℤ) → AreKept k a a
kept_same k a = record { size = refl; same = λ i below. refl }

number_kept : (k : ℕ) (old new : List ℤ) (x : Numbers) (j : ℕ) → AreKept k old new → HasColumn k x → j < 256 → number_at new x j ≡ number_at old x j
number_kept k old new x j kept has few = go x.line
  where
    go : (l : Line) → line_at l (drop x.from new) j ≡ line_at l (drop x.from old) j
    go (Same y) = refl
    go (Ramp a d) = refl
    go Column = get_or-drop x.from new j (pos 0) ∙ (kept.same (x.from + j) (omega (arith, has, few)) ∙ sym (get_or-drop x.from old j (pos 0)))

link_kept : (k : ℕ) (old new : List ℤ) (l : Link) (j : ℕ) (e x : ℤ) → AreKept k old new → LinkFits k l → j < 256 → linked new l j e x ≡ linked old l j e x
link_kept k old new (Unary op) j e x kept fits few = refl
link_kept k old new (Onto op y) j e x kept fits few = ap (binary op x) (number_kept k old new y j kept fits few)
link_kept k old new (Under op y) j e x kept fits few = ap (λ (z : ℤ). binary op z x) (number_kept k old new y j kept fits few)
link_kept k old new (Least y) j e x kept fits few = ap (int_min x) (number_kept k old new y j kept fits few)
link_kept k old new (Most y) j e x kept fits few = ap (int_max x) (number_kept k old new y j kept fits few)
link_kept k old new (Itself op) j e x kept fits few = refl

first_of_all : {A : Type 0} (P : A → Type 0) (x : A) (xs : List A) → All P (x ∷ xs) → P x
first_of_all P x xs h = h 0 x (omega arith)

others_of_all : {A : Type 0} (P : A → Type 0) (x : A) (xs : List A) → All P (x ∷ xs) → All P xs
others_of_all P x xs h = λ k d below. h (suc k) d (omega (arith, below))

links_kept : (k : ℕ) (old new : List ℤ) (ls : List Link) (j : ℕ) (e x : ℤ) → AreKept k old new → All (LinkFits k) ls → j < 256 → along_from new ls j e x ≡ along_from old ls j e x
links_kept k old new [] j e x kept fits few = refl
links_kept k old new (l ∷ ls) j e x kept fits few =
    ap (along_from new ls j e) (link_kept k old new l j e x kept (first_of_all (LinkFits k) l ls fits) few)
    ∙ links_kept k old new ls j e (linked old l j e x) kept (others_of_all (LinkFits k) l ls fits) few

value_kept : (k n size : ℕ) (old new : List ℤ) (v : Value) (j : ℕ) (c : List ℕ) → AreKept k old new → ValueFits n k size v → j < 256 → value_at new v j c ≡ value_at old v j c
value_kept k n size old new (value.Known x) j c kept fits few = number_kept k old new x j kept fits few
value_kept k n size old new (value.Carried r) j c kept fits few =
    links_kept k old new r.links.items j (load (record { elem = r.elem; at = byte_at r.read j }) c) (load (record { elem = r.elem; at = byte_at r.read j }) c) kept fits.1 few

put_kept : (k n size : ℕ) (old new : List ℤ) (p : Put) (j : ℕ) (c : List ℕ) → AreKept k old new → PutFits n k size p → j < 256 → put_at_turn new p j c ≡ put_at_turn old p j c
put_kept k n size old new p j c kept fits few =
    ap (λ (x : ℤ). store (record { elem = p.elem; at = byte_at p.to j }) (assigned p.op (load (record { elem = p.elem; at = byte_at p.to j }) c) x) c)
    (value_kept k n size old new p.value j c kept fits.value few)

may_kept : (k n size : ℕ) (old new : List ℤ) (o : Option Put) (j : ℕ) (c : List ℕ) → AreKept k old new → MayFit n k size o → j < 256 → put_or_not new o j c ≡ put_or_not old o j c
may_kept k n size old new (Some p) j c kept fits few = put_kept k n size old new p j c kept fits few
may_kept k n size old new None j c kept fits few = refl

done_kept : (k n size : ℕ) (old new : List ℤ) (d : Deed) (j : ℕ) (c : List ℕ) → AreKept k old new → DeedFits n k size d → j < 256 → done new d j c ≡ done old d j c
done_kept k n size old new (Always p) j c kept fits few = put_kept k n size old new p j c kept fits few
done_kept k n size old new (Choice x taken other) j c kept fits few =
    ap (λ (z : ℤ). if is_zero z then put_or_not new other j c else put_or_not new taken j c) (number_kept k old new x j kept fits.0 few)
    ∙ (ap (λ (d : List ℕ). if is_zero (number_at old x j) then d else put_or_not new taken j c) (may_kept k n size old new other j c kept fits.1.1 few)
    ∙ ap (λ (d : List ℕ). if is_zero (number_at old x j) then put_or_not old other j c else d) (may_kept k n size old new taken j c kept fits.1.0 few))

all_kept : (k n size : ℕ) (old new : List ℤ) (ds : List Deed) (j : ℕ) (c : List ℕ) → AreKept k old new → All (DeedFits n k size) ds → j < 256 → all_done new ds j c ≡ all_done old ds j c
all_kept k n size old new [] j c kept fits few = refl
all_kept k n size old new (d ∷ ds) j c kept fits few =
    ap (all_done new ds j) (done_kept k n size old new d j c kept (first_of_all (DeedFits n k size) d ds fits) few)
    ∙ all_kept k n size old new ds j (done old d j c) kept (others_of_all (DeedFits n k size) d ds fits) few

-- ---- more columns

link_more : (k m : ℕ) (l : Link) → k ≤ m → LinkFits k l → LinkFits m l
link_more k m (Unary op) less h = tt
link_more k m (Onto op y) less h = omega (arith, less, h)
link_more k m (Under op y) less h = omega (arith, less, h)
link_more k m (Least y) less h = omega (arith, less, h)
link_more k m (Most y) less h = omega (arith, less, h)
link_more k m (Itself op) less h = tt

value_more : (k m n size : ℕ) (v : Value) → k ≤ m → ValueFits n k size v → ValueFits n m size v
value_more k m n size (value.Known x) less h = omega (arith, less, h)
value_more k m n size (value.Carried r) less h = (h.0, λ i d below. link_more k m _ less (h.1 i d below))

put_more : (k m n size : ℕ) (p : Put) → k ≤ m → PutFits n k size p → PutFits n m size p
put_more k m n size p less h = record { to = h.to; value = value_more k m n size p.value less h.value }

may_more : (k m n size : ℕ) (o : Option Put) → k ≤ m → MayFit n k size o → MayFit n m size o
may_more k m n size (Some p) less h = put_more k m n size p less h
may_more k m n size None less h = h

deed_more : (k m n size : ℕ) (d : Deed) → k ≤ m → DeedFits n k size d → DeedFits n m size d
deed_more k m n size (Always p) less h = put_more k m n size p less h
deed_more k m n size (Choice x taken other) less h =
    let column : x.from + 256 ≤ k = h.0 in
    (omega (arith, less, column), (may_more k m n size taken less h.1.0, may_more k m n size other less h.1.1))

deeds_more : (k m n size : ℕ) (ds : List Deed) → k ≤ m → All (DeedFits n k size) ds → All (DeedFits n m size) ds
deeds_more k m n size ds less h = λ i d below. deed_more k m n size _ less (h i d below)

-- ---- writes that are done

again : (w : Write) (j k : ℕ) → IsClearOf (passed w) j k → IsClearOf w (suc j) k
again w j k (Below p) = Below p
again w j k (Above p) = Above p
again w j k (Ahead p) = Ahead (omega (arith, p, one_more w.step j))
  where
    one_more : (n j : ℕ) → n * suc j ≡ n * j + n
    one_more n j = omega arith

before : (w : Write) (j k : ℕ) → IsClearOf (passed w) j k → IsClearOf w j k
before w j k (Below p) = Below p
before w j k (Above p) = Above p
before w j k (Ahead p) = Ahead (omega (arith, p))

behind : (w : Write) (j k : ℕ) → IsClearOf w (suc j) k → IsClearOf (passed w) j k
behind w j k (Below p) = Below p
behind w j k (Above p) = Above p
behind w j k (Ahead p) = Ahead (omega (arith, p, one_more w.step j))
  where
    one_more : (n j : ℕ) → n * suc j ≡ n * j + n
    one_more n j = omega arith

-- all that is clear in the next turn is clear behind any statements of this one
all_behind : (m : ℕ) (ws : List Write) (j k : ℕ) → AllClear ws (suc j) k → AllClear (past m ws) j k
all_behind zero ws j k h = all_sooner ws j k h
all_behind (suc m) [] j k h = tt
all_behind (suc m) (w ∷ ws) j k h = (behind w j k h.0, all_behind m ws j k h.1)

same_write : (a v : Write) → Some a ≡ Some v → a ≡ v
same_write a v h = cc

no_write : (v : Write) → None ≡ Some v → ⊥
no_write v h = cc

pub record AreApart (m : ℕ) (ws : List Write) (v w : Write) (j k : ℕ) : Type 0 where
  pub clear : AllClear (past m ws) j k
  pub first : IsClearOf v (suc j) k
  pub second : IsClearOf w (suc j) k

apart : (m : ℕ) (ws : List Write) (v w : Write) (j k : ℕ) → slice_get ws m ≡ Some v → slice_get ws (suc m) ≡ Some w → AllClear (past (suc (suc m)) ws) j k → AreApart m ws v w j k
apart zero [] v w j k one two h = absurd (no_write v one)
apart zero (a ∷ []) v w j k one two h = absurd (no_write w two)
apart zero (a ∷ b ∷ ws) v w j k one two h = record {
  clear = (before a j k h.0, (before b j k h.1.0, h.1.1));
  first = again v j k (subst (λ (x : Write). IsClearOf (passed x) j k) (same_write a v one) h.0);
  second = again w j k (subst (λ (x : Write). IsClearOf (passed x) j k) (same_write b w two) h.1.0);
}
apart (suc m) [] v w j k one two h = absurd (no_write v one)
apart (suc m) (a ∷ ws) v w j k one two h =
    let inner : AreApart m ws v w j k = apart m ws v w j k one two h.1 in
    record { clear = (h.0, inner.clear); first = inner.first; second = inner.second }

-- ---- what is met behind a statement

put_met : (t u : Block) (w : Write) (b : List ℕ) (columns : List ℤ) (most : ℕ) (p : Put) (j : ℕ) (c : List ℕ) → ((k : ℕ) → IsClear u j k → IsClear t j k × IsClearOf w (suc j) k)
    → StaysIn w t.turns p.elem p.to → PutFits t.turns most (length b) p → j < t.turns → IsMet t j b c → IsMet u j b (put_at_turn columns p j c)
put_met t u w b columns most p j c clear stays fits below met =
    stored t u p.elem (assigned p.op (load (record { elem = p.elem; at = byte_at p.to j }) c) (value_at columns p.value j c)) j j (byte_at p.to j) b c met (room j below)
    (λ k h. ((clear k h).0, side w p.elem j (byte_at p.to j) k (stays.each j below) (clear k h).1))
  where
    room : (j : ℕ) → j < t.turns → byte_at p.to j + width p.elem ≤ length b
    room = fits.to.room

may_met : (t u : Block) (w : Write) (b : List ℕ) (columns : List ℤ) (most : ℕ) (o : Option Put) (j : ℕ) (c : List ℕ) → ((k : ℕ) → IsClear u j k → IsClear t j k × IsClearOf w (suc j) k)
    → MayStay w t.turns o → MayFit t.turns most (length b) o → j < t.turns → IsMet t j b c → IsMet u j b (put_or_not columns o j c)
may_met t u w b columns most (Some p) j c clear stays fits below met = put_met t u w b columns most p j c clear stays fits below met
may_met t u w b columns most None j c clear stays fits below met = record { size = met.size; same = λ k h. met.same k (clear k h).0 }

either_met : (u : Block) (b : List ℕ) (j : ℕ) (z : Bool) (c d : List ℕ) → IsMet u j b c → IsMet u j b d → IsMet u j b (if z then c else d)
either_met u b j true c d h g = h
either_met u b j false c d h g = g

deed_met : (t u : Block) (v w : Write) (b : List ℕ) (columns : List ℤ) (most : ℕ) (d : Deed) (j : ℕ) (c : List ℕ)
    → ((k : ℕ) → IsClear u j k → IsClear t j k × IsClearOf v (suc j) k) → ((k : ℕ) → IsClear u j k → IsClear t j k × IsClearOf w (suc j) k)
    → DeedStays v w t.turns d → DeedFits t.turns most (length b) d → j < t.turns → IsMet t j b c → IsMet u j b (done columns d j c)
deed_met t u v w b columns most (Always p) j c one two stays fits below met = put_met t u v b columns most p j c one stays fits below met
deed_met t u v w b columns most (Choice x taken other) j c one two stays fits below met =
    either_met u b j (is_zero (number_at columns x j)) (put_or_not columns other j c) (put_or_not columns taken j c)
    (may_met t u w b columns most other j c two stays.1 fits.1.1 below met) (may_met t u v b columns most taken j c one stays.0 fits.1.0 below met)

pub next_is : (t u : Setting) (m : ℕ) (v w : Write) (f : ActionRun) (columns : List ℤ) (next free : ℕ) (d : Deed) → u.frame.now ≡ t.frame.now → u.bytes.now ≡ t.bytes.now → u.block.now ≡ block_past t.block.now m
    → slice_get t.block.now.writes.items m ≡ Some v → slice_get t.block.now.writes.items (m + 1) ≡ Some w → IsDeed u v w f columns next free d → IsNext t m f columns next free d
next_is t u m v w f columns next free d frame bytes block one two h = record {
  turn = λ j c below met. subst (λ (s : Sight). f s.views (s.counters ++ (t.block.now.from +ℤ pos j) ∷ []) c ≡ Goes (done columns d j c)) frame
      (subst (λ (k : Block). f u.frame.now.views (u.frame.now.counters ++ (k.from +ℤ pos j) ∷ []) c ≡ Goes (done columns d j c)) block (h.turn j c (fewer j below) (meets j c met)));
  met = λ j c below met. deed_met (block_past t.block.now m) (block_past t.block.now (m + 2)) v w t.bytes.now columns free d j c
      (λ k clear. (record { each = (parts j k clear).clear }, (parts j k clear).first)) (λ k clear. (record { each = (parts j k clear).clear }, (parts j k clear).second))
      (subst (λ (k : Block). DeedStays v w k.turns d) block h.stays) fits below met;
  fits = fits;
  after = h.after;
  within = h.within;
}
  where
    next_one : m + 1 ≡ suc m
    next_one = omega arith

    next_two : m + 2 ≡ suc (suc m)
    next_two = omega arith

    fewer : (j : ℕ) → j < t.block.now.turns → j < u.block.now.turns
    fewer j below = subst (λ (k : Block). j < k.turns) (sym block) below

    meets : (j : ℕ) (c : List ℕ) → IsMet (block_past t.block.now m) j t.bytes.now c → IsMet u.block.now j u.bytes.now c
    meets j c met = subst (λ (k : Block). IsMet k j u.bytes.now c) (sym block) (subst (λ (b : List ℕ). IsMet (block_past t.block.now m) j b c) (sym bytes) met)

    fits : DeedFits t.block.now.turns free (length t.bytes.now) d
    fits = subst (λ (b : List ℕ). DeedFits t.block.now.turns free (length b) d) bytes (subst (λ (k : Block). DeedFits k.turns free (length u.bytes.now) d) block h.fits)

    parts : (j k : ℕ) → IsClear (block_past t.block.now (m + 2)) j k → AreApart m t.block.now.writes.items v w j k
    parts j k clear = apart m t.block.now.writes.items v w j k one (sym (ap (slice_get t.block.now.writes.items) next_one) ∙ two) (subst (λ (i : ℕ). AllClear (past i t.block.now.writes.items) j k) next_two clear.each)

-- ---- statements one after another

each_more : (fs : List ActionRun) (f : ActionRun) (vs : List View) (ks : List ℤ) (c : List ℕ) → run_each (fs ++ f ∷ []) vs ks c ≡ onward (run_each fs vs ks c) (f vs ks)
each_more [] f vs ks c = one_alone f vs ks c
each_more (g ∷ gs) f vs ks c = go (λ d. each_more gs f vs ks d) (g vs ks c)
  where
    go : ((d : List ℕ) → run_each (gs ++ f ∷ []) vs ks d ≡ onward (run_each gs vs ks d) (f vs ks))
        → (r : Ran) → onward r (run_each (gs ++ f ∷ []) vs ks) ≡ onward (onward r (run_each gs vs ks)) (f vs ks)
    go rest (Goes d) = rest d
    go rest (Stops d t) = refl

done_more : (columns : List ℤ) (ds : List Deed) (d : Deed) (j : ℕ) (c : List ℕ) → all_done columns (ds ++ d ∷ []) j c ≡ done columns d j (all_done columns ds j c)
done_more columns [] d j c = refl
done_more columns (e ∷ es) d j c = done_more columns es d j (done columns e j c)

pub no_deeds : (t : Setting) (columns : List ℤ) → AreDeeds t 0 [] columns 0 []
no_deeds t columns = record {
  turn = λ j c below met. refl;
  met = λ j c below met. met;
  fits = λ i d below. absurd (omega (arith, below));
  within = omega arith;
}

pub one_deed_more : (t : Setting) (m : ℕ) (fs : List ActionRun) (f : ActionRun) (old new : List ℤ) (next free : ℕ) (ds : List Deed) (d : Deed) → AreDeeds t m fs old next ds → AreKept next old new → IsNext t m f new next free d
    → AreDeeds t (m + 2) (fs ++ f ∷ []) new free (ds ++ d ∷ [])
one_deed_more t m fs f old new next free ds d h kept g = record {
  turn = λ j c below met.
      each_more fs f t.frame.now.views (counters_at t j) c
      ∙ (ap (λ (r : Ran). onward r (f t.frame.now.views (counters_at t j))) (h.turn j c below met)
      ∙ (ap (at_turn f t j) (sym (same j c below)) ∙ (g.turn j (all_done new ds j c) below (middle j c below met) ∙ ap Goes (sym (done_more new ds d j c)))));
  met = λ j c below met.
      subst (IsMet (block_past t.block.now (m + 2)) j t.bytes.now) (sym (done_more new ds d j c)) (g.met j (all_done new ds j c) below (middle j c below met));
  fits = All-push (DeedFits t.block.now.turns free (length t.bytes.now)) ds d (deeds_more next free t.block.now.turns (length t.bytes.now) ds g.after h.fits) g.fits;
  within = g.within;
}
  where
    same : (j : ℕ) (c : List ℕ) → j < t.block.now.turns → all_done new ds j c ≡ all_done old ds j c
    same j c below = all_kept next t.block.now.turns (length t.bytes.now) old new ds j c kept h.fits (omega (arith, below, t.few))

    middle : (j : ℕ) (c : List ℕ) → j < t.block.now.turns → IsMet t.block.now j t.bytes.now c → IsMet (block_past t.block.now m) j t.bytes.now (all_done new ds j c)
    middle j c below met = subst (IsMet (block_past t.block.now m) j t.bytes.now) (sym (same j c below)) (h.met j c below met)

by_turn : (columns : List ℤ) (ds : List Deed) (n j : ℕ) (c : List ℕ) → in_turn (all_done columns ds) n j c ≡ turns_done columns ds n j c
by_turn columns ds zero j c = refl
by_turn columns ds (suc n) j c = by_turn columns ds n (suc j) (all_done columns ds j c)

pub deeds_are_loop : (t : Setting) (m : ℕ) (fs : List ActionRun) (columns : List ℤ) (free : ℕ) (ds : List Deed) → AreDeeds t m fs columns free ds
    → all_turns t (run_each fs) ≡ Goes (turns_done columns ds t.block.now.turns 0 t.bytes.now)
deeds_are_loop t m fs columns free ds h =
    block_is_loop t.block.now (all_done columns ds) (λ i. run_each fs t.frame.now.views (t.frame.now.counters ++ i ∷ [])) t.bytes.now (record {
      turn = h.turn;
      next = λ j c below met. later j (all_done columns ds j c) (h.met j c below met);
    })
    ∙ ap Goes (by_turn columns ds t.block.now.turns 0 t.bytes.now)
  where
    later : (j : ℕ) (c : List ℕ) → IsMet (block_past t.block.now m) j t.bytes.now c → IsMet t.block.now (suc j) t.bytes.now c
    later j c met = record { size = met.size; same = λ k clear. met.same k (record { each = all_behind m t.block.now.writes.items j k clear.each }) }

pub all_fit : (t : Setting) (m : ℕ) (fs : List ActionRun) (columns : List ℤ) (free : ℕ) (ds : List Deed) → AreDeeds t m fs columns free ds → All (DeedFits t.block.now.turns (length columns) (length t.bytes.now)) ds
all_fit t m fs columns free ds h = deeds_more free (length columns) t.block.now.turns (length t.bytes.now) ds h.within h.fits

-- ---- one statement

-- a line that goes up, as it was found
pub aims : (t : Setting) (f : CellRun) (e : Elem) (l : Line) (column : List ℤ) (r : Rise) → Places t f e l column → IsRise r l → AimsAt t f e r
aims t f e l column r places rises = record {
  each = λ j c below met. places.each j c below met ∙ ap (λ (n : ℕ). Ok (record { elem = e; at = n })) (ap unsigned_abs (rises.is column j (omega (arith, below, t.few))));
}

pub roomy : (n size low high : ℕ) (e : Elem) (l : Line) (column : List ℤ) (r : Rise) → n ≤ 256 → high ≤ size → ((j : ℕ) → j < n → LiesIn low high e l column j) → IsRise r l → IsRoomy n size e r
roomy n size low high e l column r few within lies rises = record {
  near = rises.near;
  slow = rises.slow;
  room = λ j below.
      let here : LiesIn low high e l column j = lies j below in
      let end : first_byte l column j + width e ≤ high = here.ends in
      let is : first_byte l column j ≡ byte_at r j = ap unsigned_abs (rises.is column j (omega (arith, below, few))) in
      omega (arith, end, is, within);
}

pub put_is : (t : Setting) (w : Write) (cell : Cell) (o : AssignOp) (code : Code) (e : Elem) (r : Rise) (v : Value) (columns : List ℤ) (next free : ℕ)
    → AimsAt t (run_cell cell) e r → IsRoomy t.block.now.turns (length t.bytes.now) e r → StaysIn w t.block.now.turns e r → IsValue t (run_code code) columns v → ValueFits t.block.now.turns free (length t.bytes.now) v → next ≤ free → free ≤ length columns
    → IsPut t w (assigns cell o code) columns next free (record { elem = e; op = o; to = r; value = v })
put_is t w cell o code e r v columns next free aim room stays gives fits after within = record {
  turn = λ j c below met.
      ap (λ (s : Result Spot Trap). once s c (λ s. once (at_turn (run_code code) t j c) c (λ x. Goes (store s (assigned o (load s c) x) c)))) (aim.each j c below met)
      ∙ ap (λ (s : Result ℤ Trap). once s c (λ x. Goes (store (record { elem = e; at = byte_at r j }) (assigned o (load (record { elem = e; at = byte_at r j }) c) x) c))) (gives.each j c below met);
  stays = stays;
  fits = record { to = room; value = fits };
  after = after;
  within = within;
}

pub always_is : (t : Setting) (v w : Write) (f : ActionRun) (columns : List ℤ) (next free : ℕ) (p : Put) → IsPut t v f columns next free p → IsDeed t v w f columns next free (Always p)
always_is t v w f columns next free p h = record { turn = h.turn; stays = h.stays; fits = h.fits; after = h.after; within = h.within }

pub branch_none : (t : Setting) (w : Write) (columns : List ℤ) (next : ℕ) → next ≤ length columns → IsBranch t w [] columns next next None
branch_none t w columns next within = record { turn = λ j c below met. refl; stays = tt; fits = tt; after = omega arith; within = within }

pub branch_one : (t : Setting) (w : Write) (f : ActionRun) (columns : List ℤ) (next free : ℕ) (p : Put) → IsPut t w f columns next free p
    → IsBranch t w (f ∷ []) columns next free (Some p)
branch_one t w f columns next free p h = record {
  turn = λ j c below met. one_alone f t.frame.now.views (counters_at t j) c ∙ h.turn j c below met;
  stays = h.stays;
  fits = h.fits;
  after = h.after;
  within = h.within;
}

-- a test, what it takes, and what it takes else
pub choice_is : (t : Setting) (v w : Write) (test : Code) (taken other : List ActionRun) (one two three : List ℤ) (next free later last : ℕ) (x : Numbers) (p q : Option Put)
    → AreNumbers t (run_code test) one x → HasColumn free x → next ≤ free → IsBranch t v taken two free later p → AreKept free one two
    → IsBranch t w other three later last q → AreKept later two three → IsDeed t v w (chooses test taken other) three next last (Choice x p q)
choice_is t v w test taken other one two three next free later last x p q gives has more first kept second still = record {
  turn = λ j c below met.
      let number : number_at one x j ≡ number_at three x j = sym (number_kept free one three x j whole has (omega (arith, below, t.few))) in
      ap (λ (r : Result ℤ Trap). once r c (λ z. if is_zero z then at_turn (run_each other) t j c else at_turn (run_each taken) t j c)) (gives.each j c below met ∙ ap Ok number)
      ∙ pick (is_zero (number_at three x j)) (at_turn (run_each other) t j c) (at_turn (run_each taken) t j c) (put_or_not three q j c) (put_or_not three p j c)
      (second.turn j c below met) (first.turn j c below met ∙ ap Goes (sym (may_kept later t.block.now.turns (length t.bytes.now) two three p j c still first.fits (omega (arith, below, t.few)))));
  stays = (first.stays, second.stays);
  fits = (omega (arith, has, first.after, second.after), (may_more later last t.block.now.turns (length t.bytes.now) p second.after first.fits, second.fits));
  after = omega (arith, more, first.after, second.after);
  within = second.within;
}
  where
    whole : AreKept free one three
    whole = kept_again free one two three kept (kept_less free later two three first.after still)

    pick : (z : Bool) (r s : Ran) (c d : List ℕ) → r ≡ Goes c → s ≡ Goes d → (if z then r else s) ≡ Goes (if z then c else d)
    pick true r s c d h g = h
    pick false r s c d h g = g

pub kept_behind : (k : ℕ) (old front rest new : List ℤ) → old ≡ front ++ rest → length front ≡ k → length new ≡ length rest → AreKept k old (front ++ new)
kept_behind k old front rest new whole size as_many = record {
  size = sizes front rest new as_many ∙ sym (ap length whole);
  same = λ i below. front_reads (pos 0) (front ++ new) front new refl i (omega (arith, size, below)) ∙ sym (front_reads (pos 0) old front rest whole i (omega (arith, size, below)));
}
  where
    sizes : (front rest new : List ℤ) → length new ≡ length rest → length (front ++ new) ≡ length (front ++ rest)
    sizes [] rest new h = h
    sizes (x ∷ xs) rest new h = ap suc (sizes xs rest new h)

-- ---- a loop over statements

map_more : (list : List Action) (a : Action) → map run_action (list ++ a ∷ []) ≡ map run_action list ++ run_action a ∷ []
map_more [] a = refl
map_more (x ∷ xs) a = ap (λ (fs : List ActionRun). run_action x ∷ fs) (map_more xs a)

two_more : (ds : List Deed) (d : Deed) → 2 * length ds + 2 ≡ 2 * length (ds ++ d ∷ [])
two_more [] d = refl
two_more (e ∷ es) d = let inner : 2 * length es + 2 ≡ 2 * length (es ++ d ∷ []) = two_more es d in omega (arith, inner)

pub one_action_more : (t : Setting) (body : List Action) (i : ℕ) (a : Action) (old new : List ℤ) (next free : ℕ) (ds : List Deed) (d : Deed) → i < length body → a ≡ get_or body i a
    → AreDeeds t (2 * length ds) (map run_action (take i body)) old next ds → AreKept next old new → IsNext t (2 * length ds) (run_action a) new next free d
    → AreDeeds t (2 * length (ds ++ d ∷ [])) (map run_action (take (i + 1) body)) new free (ds ++ d ∷ [])
one_action_more t body i a old new next free ds d inside is h kept g =
    subst (λ (m : ℕ). AreDeeds t m (map run_action (take (i + 1) body)) new free (ds ++ d ∷ [])) (two_more ds d)
    (subst (λ (fs : List ActionRun). AreDeeds t (2 * length ds + 2) fs new free (ds ++ d ∷ [])) (sym grows) (one_deed_more t (2 * length ds) (map run_action (take i body)) (run_action a) old new next free ds d h kept g))
  where
    one : i + 1 ≡ suc i
    one = omega arith

    grows : map run_action (take (i + 1) body) ≡ map run_action (take i body) ++ run_action a ∷ []
    grows =
        ap (λ (k : ℕ). map run_action (take k body)) one
        ∙ (ap (map run_action) (take-suc body i a inside) ∙ (ap (λ (x : Action). map run_action (take i body ++ x ∷ [])) (sym is) ∙ map_more (take i body) a))
