-- The events of parts in both orders.
use Rattle.std.proofs.Common.{◌≡◌, ℕ, suc, ◌+◌, ◌-◌, ◌<◌, ◌≤◌, Bool, true, false, Some, List, [], ◌∷◌, ◌++◌, map, length, append-nil, append_assoc, refl, sym, ap, ap₂, ◌∙◌, arith}
use Rattle.std.specs.Prelude.{if◌then◌else◌}
use Rattle.std.proofs.lemmas.List.{length-map}
use Rattle.sq_ir.specs.Tree.{Tree, Skip, Act, Stuck, Seq, Par, Within, is_done, seq, par, within, waiting}
use Rattle.sq_ir.specs.Events as events
use Rattle.sq_ir.specs.Written.{scoped}
use Rattle.sq_ir.specs.Scopes.{Scope}
use Rattle.sq_check_laws.specs.Orders.{Item, behind, items}
use Rattle.sq_sched.specs.Shapes.{seq_of, par_of, sum_of}
use Rattle.sq_sched.proofs.Strands.{seq_of-next}
use Rattle.sq_plan_check.specs.Walked.{few, numbered, seen_entry, seen_entries}
use Rattle.sq_plan_check.specs.declared.entry.Entry.{Entry}
use Rattle.sq_plan_check.proofs.Counting.{few-some, done-waiting, waiting-lanes, weights, sum-item}

length-join : {X : Type 0} (xs ys : List X) → length (xs ++ ys) ≡ length xs + length ys
length-join [] ys = omega arith
length-join (x ∷ xs) ys = let h = length-join xs ys in omega (arith, h)

map-behind : {E : Type 0} (a b : ℕ) (xs : List (Item E)) → map (behind a) (map (behind b) xs) ≡ map (behind (a + b)) xs
map-behind a b [] = refl
map-behind a b (x ∷ xs) =
    let e : a + (b + x.second) ≡ a + b + x.second = omega arith in
    ap₂ (λ n l. record { event = x.event; second = n } ∷ l) e (map-behind a b xs)

map-both : {E : Type 0} (a : ℕ) (xs ys : List (Item E)) → map (behind a) (xs ++ ys) ≡ map (behind a) xs ++ map (behind a) ys
map-both a [] ys = refl
map-both a (x ∷ xs) ys = ap (λ l. behind a x ∷ l) (map-both a xs ys)

behind-none : {E : Type 0} (xs : List (Item E)) → map (behind 0) xs ≡ xs
behind-none [] = refl
behind-none (x ∷ xs) = let n : 0 + x.second ≡ x.second = omega arith in ap₂ (λ m l. record { event = x.event; second = m } ∷ l) n (behind-none xs)

module _ {E S : Type 0} where
  pub done-numbered : (s : ℕ) (t : Tree E S) → is_done t ≡ true → numbered s t ≡ []
  done-numbered s Skip h = refl
  done-numbered s (Act e) h = cc
  done-numbered s (Stuck e) h = refl
  done-numbered s (Seq a b) h = by (is_done a) refl h (done-numbered s a) (done-numbered (s + waiting a) b)
    where
      by : (v : Bool) → is_done a ≡ v → (if v then is_done b else false) ≡ true → (is_done a ≡ true → numbered s a ≡ []) → (is_done b ≡ true → numbered (s + waiting a) b ≡ []) → numbered s a ++ numbered (s + waiting a) b ≡ []
      by true e h f g = ap₂ (λ x y. x ++ y) (f e) (g h)
      by false e h f g = cc
  done-numbered s (Par a b) h = by (is_done a) refl h (done-numbered (s + waiting b) a) (done-numbered s b)
    where
      by : (v : Bool) → is_done a ≡ v → (if v then is_done b else false) ≡ true → (is_done a ≡ true → numbered (s + waiting b) a ≡ []) → (is_done b ≡ true → numbered s b ≡ []) → numbered (s + waiting b) a ++ numbered s b ≡ []
      by true e h f g = ap₂ (λ x y. x ++ y) (f e) (g h)
      by false e h f g = cc
  done-numbered s (Within x a) h = done-numbered s a h

  pub numbered-seq : (s : ℕ) (a b : Tree E S) → numbered s (seq a b) ≡ numbered s a ++ numbered (s + waiting a) b
  numbered-seq s a b = by (is_done a) refl (is_done b) refl
    where
      by : (u : Bool) → is_done a ≡ u → (v : Bool) → is_done b ≡ v → numbered s (if u then b else (if v then a else Seq a b)) ≡ numbered s a ++ numbered (s + waiting a) b
      by true e v f =
          let z = done-waiting a e in
          let n : s ≡ s + waiting a = omega (arith, z) in
          ap (λ m. numbered m b) n ∙ sym (ap (λ l. l ++ numbered (s + waiting a) b) (done-numbered s a e))
      by false e true f = sym (append-nil (numbered s a)) ∙ sym (ap (λ l. numbered s a ++ l) (done-numbered (s + waiting a) b f))
      by false e false f = refl

  pub numbered-par : (s : ℕ) (a b : Tree E S) → numbered s (par a b) ≡ numbered (s + waiting b) a ++ numbered s b
  numbered-par s a b = by (is_done a) refl (is_done b) refl
    where
      by : (u : Bool) → is_done a ≡ u → (v : Bool) → is_done b ≡ v → numbered s (if u then b else (if v then a else Par a b)) ≡ numbered (s + waiting b) a ++ numbered s b
      by true e v f = sym (ap (λ l. l ++ numbered s b) (done-numbered (s + waiting b) a e))
      by false e true f =
          let z = done-waiting b f in
          let n : s ≡ s + waiting b = omega (arith, z) in
          ap (λ m. numbered m a) n ∙ sym (append-nil (numbered (s + waiting b) a)) ∙ sym (ap (λ l. numbered (s + waiting b) a ++ l) (done-numbered s b f))
      by false e false f = refl

  pub numbered-within : (s : ℕ) (x : S) (t : Tree E S) → numbered s (within x t) ≡ numbered s t
  numbered-within s x t = by (is_done t) refl
    where
      by : (v : Bool) → is_done t ≡ v → numbered s (if v then Skip else Within x t) ≡ numbered s t
      by true e = sym (done-numbered s t e)
      by false e = refl

  pub length-numbered : (s : ℕ) (t : Tree E S) → length (numbered s t) ≡ waiting t
  length-numbered s Skip = refl
  length-numbered s (Act e) = refl
  length-numbered s (Stuck e) = refl
  length-numbered s (Seq a b) = let l = length-join (numbered s a) (numbered (s + waiting a) b) in let x = length-numbered s a in let y = length-numbered (s + waiting a) b in omega (arith, l, x, y)
  length-numbered s (Par a b) = let l = length-join (numbered (s + waiting b) a) (numbered s b) in let x = length-numbered (s + waiting b) a in let y = length-numbered s b in omega (arith, l, x, y)
  length-numbered s (Within x a) = length-numbered s a

  -- ---- the items of a tree

  behind-items : (s : ℕ) (t : Tree E S) → map (behind s) (items t) ≡ numbered s t
  behind-items s Skip = refl
  behind-items s (Act e) = let n : s + 0 ≡ s = omega arith in ap (λ m. record { event = e; second = m } ∷ []) n
  behind-items s (Stuck e) = refl
  behind-items s (Seq a b) = map-both s (items a) (map (behind (waiting a)) (items b)) ∙ ap₂ (λ x y. x ++ y) (behind-items s a) (map-behind s (waiting a) (items b) ∙ behind-items (s + waiting a) b)
  behind-items s (Par a b) = map-both s (map (behind (waiting b)) (items a)) (items b) ∙ ap₂ (λ x y. x ++ y) (map-behind s (waiting b) (items a) ∙ behind-items (s + waiting b) a) (behind-items s b)
  behind-items s (Within x a) = behind-items s a

  pub items-numbered : (t : Tree E S) → numbered 0 t ≡ items t
  items-numbered t = sym (behind-items 0 t) ∙ behind-none (items t)

pub numbered-scope : (s node : ℕ) (bs : List ℕ) (t : Tree events.Event Scope) → numbered s (scoped node bs t) ≡ numbered s t
numbered-scope s node [] t = refl
numbered-scope s node (b ∷ bs) t = numbered-within s (record { node = node; buffers = b ∷ bs }) t

-- ---- lists that grow

module _ {E S : Type 0} (n s : ℕ) (f : ℕ → Tree E S) where
  -- so far, and what the parts from number i on have to be put behind it, in turn and beside one another
  abbrev pub InTurn : (start so_far : List (Item E)) → (next i : ℕ) → Type 0
  InTurn start so_far next i = so_far ++ numbered next (seq_of (n - i) f i) ≡ start ++ numbered s (seq_of n f 0)

  abbrev pub Beside : (start so_far : List (Item E)) → (i : ℕ) → Type 0
  Beside start so_far i = so_far ++ numbered s (par_of (n - i) f i) ≡ start ++ numbered s (par_of n f 0)

  seq-item : (i : ℕ) → i < n → seq_of (n - i) f i ≡ seq (f i) (seq_of (n - (i + 1)) f (i + 1))
  seq-item i lt = let e : n - i ≡ suc (n - (i + 1)) = omega arith in ap (λ m. seq_of m f i) e

  par-item : (i : ℕ) → i < n → par_of (n - i) f i ≡ par (f i) (par_of (n - (i + 1)) f (i + 1))
  par-item i lt = let e : n - i ≡ suc (n - (i + 1)) = omega arith in ap (λ m. par_of m f i) e

  pub turn-start : (start : List (Item E)) → InTurn start start s 0
  turn-start start = let e : n - 0 ≡ n = omega arith in ap (λ m. start ++ numbered s (seq_of m f 0)) e

  pub turn-more : (start so_far more : List (Item E)) (next later i : ℕ) → i < n → InTurn start so_far next i → more ≡ so_far ++ numbered next (f i) → later ≡ next + (length more - length so_far)
      → InTurn start more later (i + 1)
  turn-more start so_far more next later i lt inv e m =
      let rest = seq_of (n - (i + 1)) f (i + 1) in
      let l = length-join so_far (numbered next (f i)) in
      let k = length-numbered next (f i) in
      let c : length more ≡ length (so_far ++ numbered next (f i)) = ap length e in
      let w : later ≡ next + waiting (f i) = omega (arith, l, k, c, m) in
      ap₂ (λ x y. x ++ numbered y rest) e w ∙ append_assoc so_far (numbered next (f i)) (numbered (next + waiting (f i)) rest)
      ∙ ap (λ l. so_far ++ l) (sym (ap (numbered next) (seq-item i lt) ∙ numbered-seq next (f i) rest)) ∙ inv

  pub turn-passed : (start so_far : List (Item E)) (next i u : ℕ) → i ≤ u → u ≤ n → ((k : ℕ) → i ≤ k → k < u → is_done (f k) ≡ true) → InTurn start so_far next i → InTurn start so_far next u
  turn-passed start so_far next i u le lu h inv =
      let a : n - i - (u - i) ≡ n - u = omega arith in
      let b : i + (u - i) ≡ u = omega arith in
      let e = seq_of-next (u - i) (n - i) f i (omega arith) (λ k p q. h k p (omega (arith, q))) ∙ ap (λ m. seq_of m f (i + (u - i))) a ∙ ap (seq_of (n - u) f) b in
      sym (ap (λ t. so_far ++ numbered next t) e) ∙ inv

  pub turn-end : (start so_far : List (Item E)) (next i : ℕ) → n ≤ i → InTurn start so_far next i → so_far ≡ start ++ numbered s (seq_of n f 0)
  turn-end start so_far next i le inv =
      let e : n - i ≡ 0 = omega arith in
      sym (append-nil so_far) ∙ sym (ap (λ m. so_far ++ numbered next (seq_of m f i)) e) ∙ inv

  pub beside-start : (start : List (Item E)) → Beside start start 0
  beside-start start = let e : n - 0 ≡ n = omega arith in ap (λ m. start ++ numbered s (par_of m f 0)) e

  pub beside-more : (start so_far more : List (Item E)) (i number after : ℕ) → i < n → Beside start so_far i → after ≡ sum_of (n - (i + 1)) (weights f) (i + 1) → number ≡ s + after
      → more ≡ so_far ++ numbered number (f i) → Beside start more (i + 1)
  beside-more start so_far more i number after lt inv w m e =
      let rest = par_of (n - (i + 1)) f (i + 1) in
      let k : number ≡ s + waiting rest = m ∙ ap (λ x. s + x) (w ∙ sym (waiting-lanes (n - (i + 1)) f (i + 1))) in
      ap (λ l. l ++ numbered s rest) (e ∙ ap (λ x. so_far ++ numbered x (f i)) k) ∙ append_assoc so_far (numbered (s + waiting rest) (f i)) (numbered s rest)
      ∙ ap (λ l. so_far ++ l) (sym (ap (numbered s) (par-item i lt) ∙ numbered-par s (f i) rest)) ∙ inv

  pub beside-end : (start so_far : List (Item E)) (i : ℕ) → n ≤ i → Beside start so_far i → so_far ≡ start ++ numbered s (par_of n f 0)
  beside-end start so_far i le inv =
      let e : n - i ≡ 0 = omega arith in
      sym (append-nil so_far) ∙ sym (ap (λ m. so_far ++ numbered s (par_of m f i)) e) ∙ inv

-- ---- entries

pub length-seen : (es : List Entry) → length (seen_entries es) ≡ length es
length-seen es = length-map es seen_entry

-- the parts from number i on are counted
module _ {E S : Type 0} (n : ℕ) (f : ℕ → Tree E S) where
  pub after-start : (after : ℕ) → Some after ≡ few (sum_of n (weights f) 0) → after ≡ sum_of (n - 0) (weights f) 0
  after-start after h =
      let r = few-some (sum_of n (weights f) 0) after (sym h) in
      let e : n ≡ n - 0 = omega arith in
      r.0 ∙ ap (λ m. sum_of m (weights f) 0) e

  pub after-more : (after i here : ℕ) → i < n → after ≡ sum_of (n - i) (weights f) i → Some here ≡ few (waiting (f i)) → (here ≤ after) × (after - here ≡ sum_of (n - (i + 1)) (weights f) (i + 1))
  after-more after i here lt inv h =
      let r = few-some (waiting (f i)) here (sym h) in
      let a = sum-item n (weights f) i lt in
      (omega (arith, r.0, a, inv), omega (arith, r.0, a, inv))
