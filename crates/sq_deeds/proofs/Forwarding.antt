-- Numbers that an assignment reads where another one of the same turn has put them.
use Rattle.std.proofs.Common.{◌≡◌, ◌⊎◌, ℕ, zero, suc, ◌+◌, ◌*◌, ◌<◌, ◌≤◌, List, [], ◌∷◌, length, slice_set, ℤ, refl, sym, subst, ◌∙◌, ap, arith}
use Rattle.std.specs.Int.{int_min, int_max}
use Rattle.sq_num.specs.Elements.{width, cut}
use Rattle.sq_ast.specs.declared.leaf.AssignOp.TheVariants.{Set}
use Rattle.sq_columns.specs.declared.line.Line.TheVariants.{Column}
use Rattle.sq_leaf.specs.Numbers.{binary}
use Rattle.sq_leaf.specs.Source.{assigned}
use Rattle.sq_leaf.specs.Spots.{load, store}
use Rattle.sq_deeds.specs.declared.deeds.Numbers.{Numbers}
use Rattle.sq_deeds.specs.declared.deeds.Link.{Link}
use Rattle.sq_deeds.specs.declared.deeds.Link.TheVariants.{Unary, Onto, Under, Least, Most, Itself}
use Rattle.sq_deeds.specs.declared.deeds.Carried.{Carried}
use Rattle.sq_deeds.specs.declared.deeds.Value.{Value}
use Rattle.sq_deeds.specs.declared.deeds.Value.TheVariants.{Known}
use Rattle.sq_deeds.specs.declared.deeds.Value.TheVariants as value
use Rattle.sq_deeds.specs.declared.deeds.Put.{Put}
use Rattle.sq_deeds.specs.declared.deeds.Deed.TheVariants.{Always}
use Rattle.sq_deeds.specs.Puts.{puts}
use Rattle.sq_deeds.specs.Deeds.{number_at, byte_at, linked, along_from, along_links, value_at, put_at_turn, turns_done, HasColumn, PutFits}
use Rattle.sq_deeds.specs.Loops.{IsLinkFirst, AreLinksFirst}
use Rattle.sq_deeds.specs.Reaches.{RiseLies, ValueLies, PutLies}
use Rattle.sq_deeds.proofs.Carrying.{stored_load}
use Rattle.sq_deeds.proofs.Reaching.{Within, commute, put_within, turns_within}

link_stays : (at : ℕ) (l : Link) (now : List ℤ) (v : ℤ) (i j : ℕ) → IsLinkFirst at l → j < i → i < 256 → (e z : ℤ) → linked (slice_set now (at + j) v) l i e z ≡ linked now l i e z
link_stays at (Unary op) now v i j h less few e z = refl
link_stays at (Onto op y) now v i j h less few e z = ap (λ (w : ℤ). binary op z w) (h.stays now v i j less few)
link_stays at (Under op y) now v i j h less few e z = ap (λ (w : ℤ). binary op w z) (h.stays now v i j less few)
link_stays at (Least y) now v i j h less few e z = ap (λ (w : ℤ). int_min z w) (h.stays now v i j less few)
link_stays at (Most y) now v i j h less few e z = ap (λ (w : ℤ). int_max z w) (h.stays now v i j less few)
link_stays at (Itself op) now v i j h less few e z = refl

links_stay : (at : ℕ) (ls : List Link) (now : List ℤ) (v : ℤ) (i j : ℕ) → AreLinksFirst at ls → j < i → i < 256 → (e z : ℤ) → along_from (slice_set now (at + j) v) ls i e z ≡ along_from now ls i e z
links_stay at [] now v i j h less few e z = refl
links_stay at (l ∷ ls) now v i j h less few e z =
    links_stay at ls now v i j h.1 less few e (linked (slice_set now (at + j) v) l i e z) ∙ ap (λ (w : ℤ). along_from now ls i e w) (link_stays at l now v i j h.0 less few e z)

pub next_along : (at : ℕ) (ls : List Link) (old now : List ℤ) (v : ℤ) (j : ℕ) → AreLinksFirst at ls → ((i : ℕ) → j ≤ i → i < 256 → (z : ℤ) → along_links now ls i z ≡ along_links old ls i z)
    → (i : ℕ) → j + 1 ≤ i → i < 256 → (z : ℤ) → along_links (slice_set now (at + j) v) ls i z ≡ along_links old ls i z
next_along at ls old now v j first along i past few z = links_stay at ls now v i j first (omega (arith, past)) few z z ∙ along i (omega (arith, past)) few z

module _ (columns new : List ℤ) (p q : Put) (x y : Numbers) (r : Carried) (pv : p.value ≡ Known x) (qv : q.value ≡ value.Carried r) (set : p.op ≡ Set) (elem : r.elem ≡ p.elem) (at : r.read.at ≡ p.to.at) (step : r.read.step ≡ p.to.step)
    (n most size low high from to : ℕ) (hp : PutFits n most size p) (lp : PutLies n p low high) (hq : PutFits n most size (record { elem = q.elem; op = q.op; to = q.to; value = Known y })) (lq : PutLies n (record { elem = q.elem; op = q.op; to = q.to; value = Known y }) from to)
    (apart : (high ≤ from) ⊎ (to ≤ low)) (number : (j : ℕ) → j < n → number_at new y j ≡ along_links columns r.links.items j (cut p.elem (number_at columns x j))) where
  meets : (j : ℕ) (c : List ℕ) → j < n → length c ≡ size → load (record { elem = r.elem; at = byte_at r.read j }) (put_at_turn columns p j c) ≡ cut p.elem (number_at columns x j)
  meets j c below long =
      let room : byte_at p.to j + width p.elem ≤ size = hp.to.room j below in
      (λ i. load (record { elem = elem i; at = at i + step i * j }) (put_at_turn columns p j c))
      ∙ (stored_load p.elem (byte_at p.to j) (assigned p.op (load (record { elem = p.elem; at = byte_at p.to j }) c) (value_at columns p.value j c)) c (omega (arith, room, long))
      ∙ (λ i. cut p.elem (assigned (set i) (load (record { elem = p.elem; at = byte_at p.to j }) c) (value_at columns (pv i) j c))))

  turn : (j : ℕ) (c : List ℕ) → j < n → length c ≡ size → put_at_turn new (record { elem = q.elem; op = q.op; to = q.to; value = Known y }) j (put_at_turn columns p j c) ≡ put_at_turn columns q j (put_at_turn columns p j c)
  turn j c below long =
      ap (λ (z : ℤ). store (record { elem = q.elem; at = byte_at q.to j }) (assigned q.op (load (record { elem = q.elem; at = byte_at q.to j }) (put_at_turn columns p j c)) z) (put_at_turn columns p j c))
      (number j below ∙ (ap (λ (z : ℤ). along_links columns r.links.items j z) (sym (meets j c below long)) ∙ ap (λ (v : Value). value_at columns v j (put_at_turn columns p j c)) (sym qv)))

  forward_from : (m j : ℕ) (c : List ℕ) → j + m ≤ n → length c ≡ size
      → puts q.elem (assigned q.op) (byte_at q.to) (number_at new y) m j (turns_done columns (Always p ∷ []) m j c) ≡ turns_done columns (Always p ∷ Always q ∷ []) m j c
  forward_from zero j c within long = refl
  forward_from (suc m) j c within long =
      let below : j < n = omega (arith, within) in
      let one : Within low high size (put_at_turn columns p j) = put_within columns p n most size low high j hp lp below in
      let two : Within from to size (put_at_turn new (record { elem = q.elem; op = q.op; to = q.to; value = Known y }) j) = put_within new (record { elem = q.elem; op = q.op; to = q.to; value = Known y }) n most size from to j hq lq below in
      let rest : Within low high size (turns_done columns (Always p ∷ []) m (suc j)) = turns_within columns (Always p) n most size low high hp lp m (suc j) (omega (arith, within)) in
      let first : length (put_at_turn columns p j c) ≡ size = one.long c long in
      ap (puts q.elem (assigned q.op) (byte_at q.to) (number_at new y) m (suc j))
      (sym (commute low high from to size (turns_done columns (Always p ∷ []) m (suc j)) (put_at_turn new (record { elem = q.elem; op = q.op; to = q.to; value = Known y }) j) rest two apart (put_at_turn columns p j c) first))
      ∙ (forward_from m (suc j) (put_at_turn new (record { elem = q.elem; op = q.op; to = q.to; value = Known y }) j (put_at_turn columns p j c)) (omega (arith, within)) (two.long (put_at_turn columns p j c) first)
      ∙ ap (turns_done columns (Always p ∷ Always q ∷ []) m (suc j)) (turn j c below long))

-- what it puts by the numbers that the first one set
pub forward_turns : (columns new : List ℤ) (p q : Put) (x : Numbers) (r : Carried) → p.value ≡ Known x → q.value ≡ value.Carried r → p.op ≡ Set → r.elem ≡ p.elem → r.read.at ≡ p.to.at → r.read.step ≡ p.to.step
    → (n : ℕ) (b c : List ℕ) (low high from to : ℕ) → HasColumn (length columns) x → PutFits n (length columns) (length b) p → PutFits n (length columns) (length b) q
    → RiseLies n p.elem p.to low high → RiseLies n q.elem q.to from to → (high ≤ from) ⊎ (to ≤ low)
    → ((j : ℕ) → j < n → number_at new (record { line = Column; from = x.from }) j ≡ along_links columns r.links.items j (cut p.elem (number_at columns x j)))
    → c ≡ turns_done columns (Always p ∷ []) n 0 b
    → puts q.elem (assigned q.op) (byte_at q.to) (number_at new (record { line = Column; from = x.from })) n 0 c ≡ turns_done columns (Always p ∷ Always q ∷ []) n 0 b
forward_turns columns new p q x r pv qv set elem at step n b c low high from to column hp hq lp lq apart number first =
    ap (puts q.elem (assigned q.op) (byte_at q.to) (number_at new (record { line = Column; from = x.from })) n 0) first
    ∙ forward_from columns new p q x (record { line = Column; from = x.from }) r pv qv set elem at step n (length columns) (length b) low high from to hp (record { to = lp; value = sees p.value pv })
    (record { to = hq.to; value = column }) (record { to = lq; value = tt }) apart number n 0 b (omega arith) refl
  where
    sees : (v : Value) → v ≡ Known x → ValueLies n v low high
    sees v is = subst (λ (w : Value). ValueLies n w low high) (sym is) tt
