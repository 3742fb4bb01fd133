-- A block whose elements and values are known is the loop over its turns.
use Rattle.std.proofs.Common.{◌≡◌, ℕ, ◌+◌, ◌<◌, ◌≤◌, List, [], ◌∷◌, ◌++◌, length, Result, Ok, ℤ, pos, ◌+ℤ◌, subst, refl, sym, ◌∙◌, ap, arith}
use Rattle.sq_num.specs.declared.Elem.{Elem}
use Rattle.sq_num.specs.Elements.{width}
use Rattle.sq_rect.specs.declared.view.View.{View}
use Rattle.sq_ast.specs.declared.leaf.AssignOp.{AssignOp}
use Rattle.sq_columns.specs.declared.line.Line.{Line}
use Rattle.sq_columns.specs.Lines.{line_at, first_byte}
use Rattle.sq_leaf.specs.declared.trap.Trap.{Trap}
use Rattle.sq_leaf.specs.declared.spot.Spot.{Spot}
use Rattle.sq_leaf.specs.declared.code.Code.{Code}
use Rattle.sq_leaf.specs.declared.code.Cell.{Cell}
use Rattle.sq_leaf.specs.Source.{assigned}
use Rattle.sq_leaf.specs.Spots.{load, store}
use Rattle.sq_leaf.specs.Running.{Sight, Ran, Goes, Stops, once, onward, repeats, assigns, run_code, run_cell, run_each, ActionRun}
use Rattle.sq_turns.specs.declared.block.Write.{Write}
use Rattle.sq_turns.specs.declared.block.Block.{Block}
use Rattle.sq_turns.specs.declared.setting.Setting.{Setting}
use Rattle.sq_deeds.specs.Puts.{LiesIn, put_turn, puts}
use Rattle.sq_turns.specs.Blocks.{IsClearOf, AllClear, IsClear, Below, Above, Ahead, MayPut, IsNarrower, IsMet}
use Rattle.sq_turns.specs.Settings.{at_turn, all_turns, Gives, Places}
use Rattle.sq_turns.proofs.Meeting.{met_next}
use Rattle.sq_turns.proofs.Putting.{block_is_loop, puts_by_turn}

-- the turns of a block, and where its one assignment writes
abbrev pub turns_in : Block → Write → Block
turns_in t w = record { from = t.from; turns = t.turns; writes = record { items = w ∷ [] } }

narrow_clear : (v w : Write) (j k : ℕ) → IsNarrower v w → v.high ≤ v.front → IsClearOf v j k → IsClearOf w j k
narrow_clear v w j k less whole (Below p) = let low : v.low ≤ w.low = less.low in Below (omega (arith, p, low))
narrow_clear v w j k less whole (Above p) = let high : w.high ≤ v.high = less.high in Above (omega (arith, p, high))
narrow_clear v w j k less whole (Ahead p) = let high : w.high ≤ v.high = less.high in Above (omega (arith, p, high, whole))

narrow_met : (t : Block) (v w : Write) (j : ℕ) (b c : List ℕ) → t.writes.items ≡ v ∷ [] → IsNarrower v w → v.high ≤ v.front → IsMet (turns_in t w) j b c → IsMet t j b c
narrow_met t v w j b c one less whole met = record { size = met.size; same = λ k clear. met.same k (narrow k clear) }
  where
    narrow : (k : ℕ) → IsClear t j k → IsClear (turns_in t w) j k
    narrow k clear =
        let of_one : AllClear (v ∷ []) j k = subst (λ (ws : List Write). AllClear ws j k) one clear.each in
        record { each = (narrow_clear v w j k less whole of_one.0, tt) }

turn_put : (t u : Setting) (v w : Write) (cell : Cell) (o : AssignOp) (code : Code) (e : Elem) (spots x : Line) (places numbers : List ℤ) → u.frame.now ≡ t.frame.now → u.bytes.now ≡ t.bytes.now → u.block.now ≡ turns_in t.block.now w
    → t.block.now.writes.items ≡ v ∷ [] → IsNarrower v w → v.high ≤ v.front → Places t (run_cell cell) e spots places → Gives u (run_code code) x numbers
    → (j : ℕ) (c : List ℕ) → j < t.block.now.turns → IsMet (turns_in t.block.now w) j t.bytes.now c
    → at_turn (assigns cell o code) t j c ≡ Goes (put_turn e (assigned o) (first_byte spots places) (line_at x numbers) j c)
turn_put t u v w cell o code e spots x places numbers frame bytes block one less whole there gives j c below met =
    ap (λ (r : Result Spot Trap). once r c (λ s. once (at_turn (run_code code) t j c) c (λ v. Goes (store s (assigned o (load s c) v) c)))) (there.each j c below (narrow_met t.block.now v w j t.bytes.now c one less whole met))
    ∙ ap (λ (r : Result ℤ Trap). once r c (λ v. Goes (store (record { elem = e; at = first_byte spots places j }) (assigned o (load (record { elem = e; at = first_byte spots places j }) c) v) c))) number
  where
    meets : IsMet u.block.now j u.bytes.now c
    meets = subst (λ (k : Block). IsMet k j u.bytes.now c) (sym block) (subst (λ (b : List ℕ). IsMet (turns_in t.block.now w) j b c) (sym bytes) met)

    number : at_turn (run_code code) t j c ≡ Ok (line_at x numbers j)
    number =
        subst (λ (s : Sight). run_code code s.views (s.counters ++ (t.block.now.from +ℤ pos j) ∷ []) c ≡ Ok (line_at x numbers j)) frame
        (subst (λ (k : Block). run_code code u.frame.now.views (u.frame.now.counters ++ (k.from +ℤ pos j) ∷ []) c ≡ Ok (line_at x numbers j)) block
        (gives.each j c (subst (λ (k : Block). j < k.turns) (sym block) below) meets))

pub block_goes : (t u : Setting) (v w : Write) (cell : Cell) (o : AssignOp) (code : Code) (e : Elem) (spots x : Line) (places numbers : List ℤ) → u.frame.now ≡ t.frame.now → u.bytes.now ≡ t.bytes.now → u.block.now ≡ turns_in t.block.now w
    → t.block.now.writes.items ≡ v ∷ [] → IsNarrower v w → v.high ≤ v.front → Places t (run_cell cell) e spots places → ((j : ℕ) → j < t.block.now.turns → LiesIn v.low v.high e spots places j) → v.high ≤ length t.bytes.now
    → ((j : ℕ) → j < t.block.now.turns → MayPut w e j (first_byte spots places j)) → Gives u (run_code code) x numbers
    → Goes (puts e (assigned o) (first_byte spots places) (line_at x numbers) t.block.now.turns 0 t.bytes.now) ≡ all_turns t (assigns cell o code)
block_goes t u v w cell o code e spots x places numbers frame bytes block one less whole there lies within may gives =
    sym (block_is_loop (turns_in t.block.now w) (put_turn e (assigned o) (first_byte spots places) (line_at x numbers)) (λ k. assigns cell o code t.frame.now.views (t.frame.now.counters ++ k ∷ [])) t.bytes.now (record {
      turn = λ j c below met. turn_put t u v w cell o code e spots x places numbers frame bytes block one less whole there gives j c below met;
      next = λ j c below met. met_next (turns_in t.block.now w) w e (assigned o) (first_byte spots places) (line_at x numbers) j t.bytes.now c refl met (may j below) (room j below);
    }) ∙ ap Goes (puts_by_turn e (assigned o) (first_byte spots places) (line_at x numbers) t.block.now.turns 0 t.bytes.now))
  where
    room : (j : ℕ) → j < t.block.now.turns → first_byte spots places j + width e ≤ length t.bytes.now
    room j below =
        let h : LiesIn v.low v.high e spots places j = lies j below in
        let end : first_byte spots places j + width e ≤ v.high = h.ends in
        omega (arith, end, within)

pub same_turns : (n m : ℕ) (i k : ℤ) (e : Elem) (g : ℤ → ℤ → ℤ) (s : ℕ → ℕ) (x : ℕ → ℤ) (f : ℤ → List ℕ → Ran) (b : List ℕ) → n ≡ m → i ≡ k → Goes (puts e g s x n 0 b) ≡ repeats n i f b
    → Goes (puts e g s x m 0 b) ≡ repeats m k f b
same_turns n m i k e g s x f b many first h =
    subst (λ (l : ℕ). Goes (puts e g s x l 0 b) ≡ repeats l k f b) many (subst (λ (l : ℤ). Goes (puts e g s x n 0 b) ≡ repeats n l f b) first h)

alone : (r : Ran) → onward r (λ c. Goes c) ≡ r
alone (Goes c) = refl
alone (Stops c t) = refl

-- a body of one statement
pub one_alone : (f : ActionRun) (vs : List View) (ks : List ℤ) (b : List ℕ) → run_each (f ∷ []) vs ks b ≡ f vs ks b
one_alone f vs ks b = alone (f vs ks b)
