-- Numbers that turns carry.
use Rattle.std.proofs.Common.{◌≡◌, ℕ, zero, suc, ◌+◌, ◌-◌, ◌*◌, ◌<◌, ◌≤◌, List, length, take, drop, ℤ, sym, ◌∙◌, ap, arith}
use Rattle.sq_num.specs.declared.Elem.{Elem}
use Rattle.sq_num.specs.Elements.{width, value, cell, cut}
use Rattle.sq_num.proofs.Cutting.{length-cell, value-cell, cell-cut, cut-cut}
use Rattle.sq_ast.specs.declared.leaf.AssignOp.{AssignOp}
use Rattle.sq_ast.specs.declared.leaf.AssignOp.TheVariants.{Set}
use Rattle.sq_leaf.specs.Source.{assigned}
use Rattle.sq_leaf.specs.Spots.{load, store, put_at}
use Rattle.sq_leaf.proofs.Bytes.{part-put}
use Rattle.sq_deeds.specs.declared.rise.Rise.{Rise}
use Rattle.sq_deeds.specs.declared.deeds.Link.{Link}
use Rattle.sq_deeds.specs.Deeds.{byte_at, along_links, IsRoomy}
use Rattle.sq_deeds.specs.Loops.{in_turn, carry_turn, next_turn}
use Rattle.sq_deeds.proofs.Performing.{next_in_turn, same_in_turn}

-- what was stored, read again
pub stored_load : (e : Elem) (at : ℕ) (v : ℤ) (b : List ℕ) → at + width e ≤ length b → load (record { elem = e; at = at }) (store (record { elem = e; at = at }) v b) ≡ cut e v
stored_load e at v b fits =
    let wide : length (cell e v) ≡ width e = length-cell e v in
    ap (λ (n : ℕ). value e (take n (drop at (put_at at (cell e v) b)))) (sym wide) ∙ (ap (value e) (part-put at (cell e v) b (omega (arith, wide, fits))) ∙ value-cell e v)

store_cut : (e : Elem) (at : ℕ) (v : ℤ) (b : List ℕ) → store (record { elem = e; at = at }) (cut e v) b ≡ store (record { elem = e; at = at }) v b
store_cut e at v b = ap (λ (piece : List ℕ). put_at at piece b) (cell-cut e v)

-- the number that was put is what the next turn reads
pub next_meets : (e : Elem) (r : Rise) (j at : ℕ) (v w : ℤ) (b c : List ℕ) → at + width e ≤ length b → at ≡ byte_at r (j + 1) → v ≡ cut e w → c ≡ store (record { elem = e; at = at }) v b
    → v ≡ load (record { elem = e; at = byte_at r (j + 1) }) c
next_meets e r j at v w b c fits is cuts put =
    cuts ∙ (sym (cut-cut e w) ∙ (ap (cut e) (sym cuts) ∙ (sym (stored_load e at v b fits)
    ∙ (ap (load (record { elem = e; at = at })) (sym put) ∙ ap (λ (a : ℕ). load (record { elem = e; at = a }) c) is))))

pub next_left : (columns : List ℤ) (e : Elem) (r : Rise) (links : List Link) (n j at : ℕ) (v x : ℤ) (b c whole : List ℕ) → j < n → at ≡ byte_at r (j + 1)
    → x ≡ load (record { elem = e; at = byte_at r j }) b → v ≡ cut e (along_links columns links j x) → c ≡ store (record { elem = e; at = at }) v b
    → in_turn (next_turn columns e r links) (n - j) j b ≡ whole → in_turn (next_turn columns e r links) (n - (j + 1)) (j + 1) c ≡ whole
next_left columns e r links n j at v x b c whole below is meets cuts put before =
    next_in_turn (next_turn columns e r links) n j b c whole below
    (put
    ∙ (ap (λ (a : ℕ). store (record { elem = e; at = a }) v b) is
    ∙ (ap (λ (z : ℤ). store (record { elem = e; at = byte_at r (j + 1) }) z b) cuts
    ∙ (store_cut e (byte_at r (j + 1)) (along_links columns links j x) b
    ∙ ap (λ (z : ℤ). store (record { elem = e; at = byte_at r (j + 1) }) (along_links columns links j z) b) meets))))
    before

one_up : (n j : ℕ) → n * suc j ≡ n * j + n
one_up n j = omega arith

next_byte : (to read : Rise) (j : ℕ) → to.at ≡ read.at + read.step → to.step ≡ read.step → byte_at read (suc j) ≡ byte_at to j
next_byte to read j at step =
    let same : to.step * j ≡ read.step * j = ap (λ (s : ℕ). s * j) step in
    let more : read.step * suc j ≡ read.step * j + read.step = one_up read.step j in
    omega (arith, same, more, at)

pub next_room : (n size : ℕ) (e : Elem) (to read : Rise) → IsRoomy n size e to → IsRoomy n size e read → 0 < n → to.at ≡ read.at + read.step → to.step ≡ read.step → IsRoomy (n + 1) size e read
next_room n size e to read there here some at step = record {
  near = here.near;
  slow = here.slow;
  room = go;
}
  where
    go : (j : ℕ) → j < n + 1 → byte_at read j + width e ≤ size
    go zero below = here.room 0 some
    go (suc j) below =
        let room : byte_at to j + width e ≤ size = there.room j (omega (arith, below)) in
        omega (arith, room, next_byte to read j at step)

pub next_carries : (columns : List ℤ) (e : Elem) (op : AssignOp) (to : Rise) (from : Elem) (read : Rise) (links : List Link) → from ≡ e → op ≡ Set → to.at ≡ read.at + read.step → to.step ≡ read.step
    → (n j : ℕ) (c : List ℕ) → in_turn (next_turn columns e read links) n j c ≡ in_turn (carry_turn columns e op to from read links) n j c
next_carries columns e op to from read links elem set at step = same_in_turn (next_turn columns e read links) (carry_turn columns e op to from read links) turn
  where
    turn : (j : ℕ) (c : List ℕ) → next_turn columns e read links j c ≡ carry_turn columns e op to from read links j c
    turn j c =
        let up : byte_at read (j + 1) ≡ byte_at to j =
        let next : j + 1 ≡ suc j = omega arith in
        ap (byte_at read) next ∙ next_byte to read j at step in
        ap (λ (a : ℕ). store (record { elem = e; at = a }) (along_links columns links j (load (record { elem = e; at = byte_at read j }) c)) c) up
        ∙ (ap (λ (f : Elem). store (record { elem = e; at = byte_at to j }) (along_links columns links j (load (record { elem = f; at = byte_at read j }) c)) c) (sym elem)
        ∙ ap (λ (o : AssignOp). store (record { elem = e; at = byte_at to j }) (assigned o (load (record { elem = e; at = byte_at to j }) c) (along_links columns links j (load (record { elem = from; at = byte_at read j }) c))) c) (sym set))
