-- Deeds at the turns of a block.
use Rattle.std.proofs.Common.{◌≡◌, ℕ, zero, suc, ◌+◌, ◌-◌, ◌*◌, ◌/◌, ◌<◌, ◌≤◌, Bool, true, false, List, [], ◌∷◌, ◌++◌, length, take, drop, get_or, Some, None, ℤ, pos, unsigned_abs, refl, sym, ◌∙◌, ap, arith, length-take, length-drop, if◌then◌else◌}
use Rattle.std.specs.Int.{int_rem_euclid}
use Rattle.std.proofs.lemmas.List.{get_or-drop, take-append-drop}
use Rattle.std.proofs.Math.Seq.{drop-drop}
use Rattle.sq_num.specs.declared.Elem.{Elem}
use Rattle.sq_num.specs.Elements.{width, modulus, cell, low_bytes}
use Rattle.sq_num.proofs.Cutting.{length-cell, cell-value}
use Rattle.sq_ast.specs.declared.leaf.AssignOp.{AssignOp}
use Rattle.sq_leaf.specs.Numbers.{is_zero}
use Rattle.sq_leaf.specs.Source.{assigned}
use Rattle.sq_leaf.specs.Spots.{load, store, put_at}
use Rattle.sq_leaf.proofs.Bytes.{put_at-length}
use Rattle.sq_deeds.specs.declared.rise.Rise.{Rise}
use Rattle.sq_deeds.specs.declared.deeds.Numbers.{Numbers}
use Rattle.sq_deeds.specs.declared.deeds.Carried.{Carried}
use Rattle.sq_deeds.specs.declared.deeds.Value.{Value}
use Rattle.sq_deeds.specs.declared.deeds.Value.TheVariants.{Known}
use Rattle.sq_deeds.specs.declared.deeds.Value.TheVariants as value
use Rattle.sq_deeds.specs.declared.deeds.Put.{Put}
use Rattle.sq_deeds.specs.declared.deeds.Tested.{Tested}
use Rattle.sq_deeds.specs.declared.deeds.Deed.{Deed}
use Rattle.sq_deeds.specs.declared.deeds.Deed.TheVariants.{Always, Choice}
use Rattle.sq_deeds.specs.Puts.{put_turn, puts}
use Rattle.sq_deeds.specs.Deeds.{number_at, byte_at, value_at, put_at_turn, done, all_done, turns_done, IsRoomy}
use Rattle.sq_deeds.specs.Loops.{in_turn, chosen, carry_turn, where_turn, only_where}

-- one more turn of the code's loop
pub next_done : (columns : List ℤ) (ds : List Deed) (n j : ℕ) (b c whole : List ℕ) → j < n → c ≡ all_done columns ds j b → turns_done columns ds (n - j) j b ≡ whole → turns_done columns ds (n - (j + 1)) (j + 1) c ≡ whole
next_done columns ds n j b c whole below done before =
    let more : n - j ≡ suc (n - (j + 1)) = omega arith in
    let next : j + 1 ≡ suc j = omega arith in
    ap (λ (k : ℕ). turns_done columns ds (n - (j + 1)) k c) next
    ∙ (ap (λ (d : List ℕ). turns_done columns ds (n - (j + 1)) (suc j) d) done ∙ (sym (ap (λ (m : ℕ). turns_done columns ds m j b) more) ∙ before))

pub next_in_turn : (f : ℕ → List ℕ → List ℕ) (n j : ℕ) (b c whole : List ℕ) → j < n → c ≡ f j b → in_turn f (n - j) j b ≡ whole → in_turn f (n - (j + 1)) (j + 1) c ≡ whole
next_in_turn f n j b c whole below done before =
    let more : n - j ≡ suc (n - (j + 1)) = omega arith in
    let next : j + 1 ≡ suc j = omega arith in
    ap (λ (k : ℕ). in_turn f (n - (j + 1)) k c) next
    ∙ (ap (λ (d : List ℕ). in_turn f (n - (j + 1)) (suc j) d) done ∙ (sym (ap (λ (m : ℕ). in_turn f m j b) more) ∙ before))

pub same_in_turn : (f g : ℕ → List ℕ → List ℕ) → ((j : ℕ) (c : List ℕ) → f j c ≡ g j c) → (n j : ℕ) (c : List ℕ) → in_turn f n j c ≡ in_turn g n j c
same_in_turn f g h zero j c = refl
same_in_turn f g h (suc n) j c = ap (in_turn f n (suc j)) (h j c) ∙ same_in_turn f g h n (suc j) (g j c)

-- ---- one assignment

known_turn : (columns : List ℤ) (p : Put) (x : Numbers) → p.value ≡ Known x → (j : ℕ) (c : List ℕ) → put_turn p.elem (assigned p.op) (byte_at p.to) (number_at columns x) j c ≡ put_at_turn columns p j c
known_turn columns p x is j c =
    ap (λ (v : Value). store (record { elem = p.elem; at = byte_at p.to j }) (assigned p.op (load (record { elem = p.elem; at = byte_at p.to j }) c) (value_at columns v j c)) c) (sym is)

pub known_turns : (columns : List ℤ) (p : Put) (x : Numbers) → p.value ≡ Known x
    → (n j : ℕ) (c : List ℕ) → puts p.elem (assigned p.op) (byte_at p.to) (number_at columns x) n j c ≡ turns_done columns (Always p ∷ []) n j c
known_turns columns p x is zero j c = refl
known_turns columns p x is (suc n) j c =
    ap (puts p.elem (assigned p.op) (byte_at p.to) (number_at columns x) n (suc j)) (known_turn columns p x is j c) ∙ known_turns columns p x is n (suc j) (put_at_turn columns p j c)

pub carried_turns : (columns : List ℤ) (p : Put) (r : Carried) → p.value ≡ value.Carried r
    → (n j : ℕ) (c : List ℕ) → in_turn (carry_turn columns p.elem p.op p.to r.elem r.read r.links.items) n j c ≡ turns_done columns (Always p ∷ []) n j c
carried_turns columns p r is zero j c = refl
carried_turns columns p r is (suc n) j c =
    ap (in_turn (carry_turn columns p.elem p.op p.to r.elem r.read r.links.items) n (suc j))
    (ap (λ (v : Value). store (record { elem = p.elem; at = byte_at p.to j }) (assigned p.op (load (record { elem = p.elem; at = byte_at p.to j }) c) (value_at columns v j c)) c) (sym is))
    ∙ carried_turns columns p r is n (suc j) (put_at_turn columns p j c)

-- ---- an assignment each way, to the same elements

put_as : (columns : List ℤ) (p : Put) (e : Elem) (op : AssignOp) (to : Rise) (y : Numbers) → p.elem ≡ e → p.op ≡ op → p.to.at ≡ to.at → p.to.step ≡ to.step → p.value ≡ Known y
    → (j : ℕ) (c : List ℕ) → put_turn e (assigned op) (byte_at to) (number_at columns y) j c ≡ put_at_turn columns p j c
put_as columns p e op to y elem same at step is j c =
    (λ i. put_turn (sym elem i) (assigned (sym same i)) (λ k. sym at i + sym step i * k) (number_at columns y) j c) ∙ known_turn columns p y is j c

chosen_turn : (columns : List ℤ) (test : Numbers) (p q : Put) (x y : Numbers) → p.value ≡ Known x → q.value ≡ Known y → q.elem ≡ p.elem → q.op ≡ p.op → q.to.at ≡ p.to.at → q.to.step ≡ p.to.step
    → (f : ℕ → ℤ) (j : ℕ) → f j ≡ chosen (number_at columns test j) (number_at columns x j) (number_at columns y j) → (c : List ℕ)
    → put_turn p.elem (assigned p.op) (byte_at p.to) f j c ≡ done columns (Choice test (Some p) (Some q)) j c
chosen_turn columns test p q x y px qy elem same at step f j is c =
    ap (λ (z : ℤ). store (record { elem = p.elem; at = byte_at p.to j }) (assigned p.op (load (record { elem = p.elem; at = byte_at p.to j }) c) z) c) is
    ∙ go (is_zero (number_at columns test j))
  where
    go : (b : Bool) → store (record { elem = p.elem; at = byte_at p.to j })
        (assigned p.op (load (record { elem = p.elem; at = byte_at p.to j }) c) (if b then number_at columns y j else number_at columns x j)) c
        ≡ (if b then put_at_turn columns q j c else put_at_turn columns p j c)
    go true = put_as columns q p.elem p.op p.to y elem same at step qy j c
    go false = known_turn columns p x px j c

pub chosen_turns : (columns : List ℤ) (test : Numbers) (p q : Put) (x y : Numbers) → p.value ≡ Known x → q.value ≡ Known y → q.elem ≡ p.elem → q.op ≡ p.op → q.to.at ≡ p.to.at → q.to.step ≡ p.to.step
    → (f : ℕ → ℤ) (most : ℕ) → ((j : ℕ) → j < most → f j ≡ chosen (number_at columns test j) (number_at columns x j) (number_at columns y j))
    → (n j : ℕ) (c : List ℕ) → j + n ≤ most → puts p.elem (assigned p.op) (byte_at p.to) f n j c ≡ turns_done columns (Choice test (Some p) (Some q) ∷ []) n j c
chosen_turns columns test p q x y px qy elem same at step f most each zero j c within = refl
chosen_turns columns test p q x y px qy elem same at step f most each (suc n) j c within =
    ap (puts p.elem (assigned p.op) (byte_at p.to) f n (suc j)) (chosen_turn columns test p q x y px qy elem same at step f j (each j (omega (arith, within))) c)
    ∙ chosen_turns columns test p q x y px qy elem same at step f most each n (suc j) (done columns (Choice test (Some p) (Some q)) j c) (omega (arith, within))

-- ---- an assignment one way alone

abbrev pub AreBytes : List ℕ → Type 0
AreBytes bs = (i : ℕ) → get_or bs i 0 < 256

append_bytes : (xs ys : List ℕ) → AreBytes xs → AreBytes ys → AreBytes (xs ++ ys)
append_bytes [] ys hx hy i = hy i
append_bytes (x ∷ xs) ys hx hy zero = hx 0
append_bytes (x ∷ xs) ys hx hy (suc i) = append_bytes xs ys (λ k. hx (suc k)) hy i

take_bytes : (n : ℕ) (bs : List ℕ) → AreBytes bs → AreBytes (take n bs)
take_bytes zero bs h i = omega arith
take_bytes (suc n) [] h i = omega arith
take_bytes (suc n) (b ∷ bs) h zero = h 0
take_bytes (suc n) (b ∷ bs) h (suc i) = take_bytes n bs (λ k. h (suc k)) i

drop_bytes : (n : ℕ) (bs : List ℕ) → AreBytes bs → AreBytes (drop n bs)
drop_bytes n bs h i = let e : get_or (drop n bs) i 0 ≡ get_or bs (n + i) 0 = get_or-drop n bs i 0 in omega (arith, e, h (n + i))

low_are_bytes : (k n : ℕ) → AreBytes (low_bytes k n)
low_are_bytes zero n i = omega arith
low_are_bytes (suc k) n zero = omega arith
low_are_bytes (suc k) n (suc i) = low_are_bytes k (n / 256) i

cell_bytes : (e : Elem) (v : ℤ) → AreBytes (cell e v)
unfolding cell
cell_bytes e v = low_are_bytes (width e) (unsigned_abs (int_rem_euclid v (pos (modulus e))))

store_bytes : (e : Elem) (at : ℕ) (v : ℤ) (c : List ℕ) → AreBytes c → AreBytes (store (record { elem = e; at = at }) v c)
store_bytes e at v c h = append_bytes (take at c) (cell e v ++ drop (at + length (cell e v)) c) (take_bytes at c h) (append_bytes (cell e v) (drop (at + length (cell e v)) c) (cell_bytes e v) (drop_bytes (at + length (cell e v)) c h))

store_size : (e : Elem) (at : ℕ) (v : ℤ) (c : List ℕ) → at + width e ≤ length c → length (store (record { elem = e; at = at }) v c) ≡ length c
store_size e at v c fits = put_at-length at (cell e v) c (omega (arith, length-cell e v, fits))

-- bytes that are put where they lie
put_back : (n at : ℕ) (c : List ℕ) → at + n ≤ length c → put_at at (take n (drop at c)) c ≡ c
put_back n at c fits =
    let long : length (take n (drop at c)) ≡ n = omega (arith, length-take n (drop at c), length-drop at c, fits) in
    ap (λ (k : ℕ). take at c ++ (take n (drop at c) ++ drop (at + k) c)) long
    ∙ (ap (λ (l : List ℕ). take at c ++ (take n (drop at c) ++ l)) (sym (drop-drop n at c))
    ∙ (ap (λ (l : List ℕ). take at c ++ l) (take-append-drop n (drop at c)) ∙ take-append-drop at c))

-- what is stored, stored again
store_load : (e : Elem) (at : ℕ) (c : List ℕ) → AreBytes c → at + width e ≤ length c → store (record { elem = e; at = at }) (load (record { elem = e; at = at }) c) c ≡ c
store_load e at c h fits =
    let long : length (take (width e) (drop at c)) ≡ width e = omega (arith, length-take (width e) (drop at c), length-drop at c, fits) in
    ap (λ (piece : List ℕ). put_at at piece c) (cell-value e (take (width e) (drop at c)) long (take_bytes (width e) (drop at c) (drop_bytes at c h))) ∙ put_back (width e) at c fits

abbrev pub tested_as : Bool → Numbers → AssignOp → Numbers → Tested
tested_as at_zero test op x = record { at_zero = at_zero; test = test; op = op; x = x }

where_is : (columns : List ℤ) (at_zero : Bool) (test : Numbers) (p : Put) (x : Numbers) → p.value ≡ Known x → (j : ℕ) (c : List ℕ) → AreBytes c → byte_at p.to j + width p.elem ≤ length c
    → where_turn columns p.elem p.to (tested_as at_zero test p.op x) j c ≡ done columns (only_where at_zero test p) j c
where_is columns true test p x is j c h fits = go (is_zero (number_at columns test j))
  where
    go : (b : Bool) → store (record { elem = p.elem; at = byte_at p.to j })
        (if b then assigned p.op (load (record { elem = p.elem; at = byte_at p.to j }) c) (number_at columns x j) else load (record { elem = p.elem; at = byte_at p.to j }) c) c
        ≡ (if b then put_at_turn columns p j c else c)
    go true = known_turn columns p x is j c
    go false = store_load p.elem (byte_at p.to j) c h fits
where_is columns false test p x is j c h fits = go (is_zero (number_at columns test j))
  where
    go : (b : Bool) → store (record { elem = p.elem; at = byte_at p.to j })
        (if b then load (record { elem = p.elem; at = byte_at p.to j }) c else assigned p.op (load (record { elem = p.elem; at = byte_at p.to j }) c) (number_at columns x j)) c
        ≡ (if b then c else put_at_turn columns p j c)
    go true = store_load p.elem (byte_at p.to j) c h fits
    go false = known_turn columns p x is j c

where_from : (columns : List ℤ) (at_zero : Bool) (test : Numbers) (p : Put) (x : Numbers) → p.value ≡ Known x → (most size : ℕ) → IsRoomy most size p.elem p.to
    → (n j : ℕ) (c : List ℕ) → AreBytes c → length c ≡ size → j + n ≤ most → in_turn (where_turn columns p.elem p.to (tested_as at_zero test p.op x)) n j c ≡ turns_done columns (only_where at_zero test p ∷ []) n j c
where_from columns at_zero test p x is most size roomy zero j c h long within = refl
where_from columns at_zero test p x is most size roomy (suc n) j c h long within =
    let room : byte_at p.to j + width p.elem ≤ size = roomy.room j (omega (arith, within)) in
    let fits : byte_at p.to j + width p.elem ≤ length c = omega (arith, room, long) in
    where_from columns at_zero test p x is most size roomy n (suc j) (where_turn columns p.elem p.to (tested_as at_zero test p.op x) j c)
    (store_bytes p.elem (byte_at p.to j) _ c h) (store_size p.elem (byte_at p.to j) _ c fits ∙ long) (omega (arith, within))
    ∙ ap (turns_done columns (only_where at_zero test p ∷ []) n (suc j)) (where_is columns at_zero test p x is j c h fits)

pub where_turns : (columns : List ℤ) (at_zero : Bool) (test : Numbers) (p : Put) (x : Numbers) → p.value ≡ Known x → (n : ℕ) (c : List ℕ) → AreBytes c → IsRoomy n (length c) p.elem p.to
    → in_turn (where_turn columns p.elem p.to (tested_as at_zero test p.op x)) n 0 c ≡ turns_done columns (only_where at_zero test p ∷ []) n 0 c
where_turns columns at_zero test p x is n c h roomy = where_from columns at_zero test p x is n (length c) roomy n 0 c h refl (omega arith)

-- ---- nothing either way

pub nothing_turns : (columns : List ℤ) (test : Numbers) (n j : ℕ) (c : List ℕ) → c ≡ turns_done columns (Choice test None None ∷ []) n j c
nothing_turns columns test zero j c = refl
nothing_turns columns test (suc n) j c = nothing_turns columns test n (suc j) c ∙ ap (turns_done columns (Choice test None None ∷ []) n (suc j)) (same (is_zero (number_at columns test j)))
  where
    same : (b : Bool) → c ≡ (if b then c else c)
    same true = refl
    same false = refl
