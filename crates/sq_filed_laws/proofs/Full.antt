-- What is left of a plan that is written out has no empty parts, and each of its scopes stands round an event.
use Rattle.std.proofs.Common.{◌≡◌, ℕ, zero, suc, ◌+◌, ◌==◌, Bool, true, false, Option, ℤ, pos, negsuc, List, [], ◌∷◌, ◌++◌, map, refl, sym, ◌∙◌, ap, subst}
use Rattle.std.specs.Prelude.{if◌then◌else◌}
use Rattle.sq_text.specs.declared.place.Place.{Place}
use Rattle.sq_text.specs.Spreading.{child_of}
use Rattle.sq_ast.specs.Unplaced.{nowhere}
use Rattle.sq_ir.specs.declared.num.Num.{Num}
use Rattle.sq_ir.specs.declared.term.Term.{Term, roll-Term}
use Rattle.sq_ir.specs.declared.term.Term.TheVariants as term
use Rattle.sq_ir.specs.declared.term.Term.TheOpen.{Term-F}
use Rattle.sq_ir.specs.declared.term.Term.TheFolds.{ind-Term, map-Term}
use Rattle.sq_plantext.specs.declared.text.EventText.{EventText}
use Rattle.sq_plantext.specs.declared.text.TermText.{TermText, roll-TermText}
use Rattle.sq_plantext.specs.declared.text.TermText.TheVariants as text
use Rattle.sq_plantext.specs.declared.text.TermText.TheOpen.{TermText-F}
use Rattle.sq_plantext.specs.declared.text.TermText.TheFolds.{rec-TermText, rec-roll-TermText, map-TermText}
use Rattle.sq_planfile.specs.declared.left.Left.{Left}
use Rattle.sq_planfile.specs.declared.left.Left.TheVariants.{Nothing, InTurn, Beside, Alone}
use Rattle.sq_planfile.specs.Left.{in_turn, beside, then_seq, then_par, whole, lines_of, is_left_out, scope}
use Rattle.sq_planfile.specs.Written.{Reading, seq_parts, par_parts, seq_of, par_of, arm_of, arm_at, turn_at, left_by}
use Rattle.sq_planfile.proofs.Forms.{left_skip, left_act, left_seq, left_par, left_loop, left_spread, left_case, left_within}
use Rattle.sq_planfile.proofs.Joins.{IsSome, turns, besides, alone, Shown, none, some, shown, seq_is, par_is, seq_nothing, par_nothing}

abbrev pub is_there : {A : Type 0} → List A → Type 0
is_there [] = ⊥
is_there (x ∷ xs) = Unit {0}

abbrev pub each : {X : Type 0} → (X → Type 0) → List X → Type 0
each is [] = Unit {0}
each is (t ∷ ts) = is t × each is ts

abbrev pub full_step : (X : Type 0) → (X → TermText) → (X → Type 0) → TermText-F X → Type 0
full_step X text is (TermText-F.Seq parts) = is_there parts × each is parts
full_step X text is (TermText-F.Par parts) = is_there parts × each is parts
full_step X text is (TermText-F.At place node buffers body) = is body
full_step X text is (TermText-F.Act place e) = Unit {0}

-- an event stands in each part
abbrev pub HasEvents : TermText → Type 0
HasEvents = rec-TermText (Type 0) full_step

there_same : {X : Type 0} (v : X → TermText) (xs : List X) → is_there xs ≡ is_there (map v xs)
there_same v [] = refl
there_same v (x ∷ xs) = refl

each_same : {X : Type 0} (v : X → TermText) (k : TermText → Type 0) (xs : List X) → each (λ p. k (v p)) xs ≡ each k (map v xs)
each_same v k [] = refl
each_same v k (x ∷ xs) = ap (λ (t : Type 0). k (v x) × t) (each_same v k xs)

parts_same : {X : Type 0} (v : X → TermText) (k : TermText → Type 0) (xs : List X)
    → (is_there xs × each (λ p. k (v p)) xs) ≡ (is_there (map v xs) × each k (map v xs))
parts_same v k xs = ap (λ (t : Type 0). is_there xs × t) (each_same v k xs) ∙ ap (λ (t : Type 0). t × each k (map v xs)) (there_same v xs)

natural : (X : Type 0) (v : X → TermText) (k : TermText → Type 0) (y : TermText-F X)
    → full_step X v (λ p. k (v p)) y ≡ full_step TermText (λ z. z) k (map-TermText X TermText v y)
natural X v k (TermText-F.Seq xs) = parts_same v k xs
natural X v k (TermText-F.Par xs) = parts_same v k xs
natural X v k (TermText-F.At p n bs b) = refl
natural X v k (TermText-F.Act p e) = refl

abbrev pub of_parts : TermText-F TermText → Type 0
of_parts = full_step TermText (λ z. z) HasEvents

full_roll : (d : TermText-F TermText) → HasEvents (roll-TermText d) ≡ of_parts d
full_roll d = rec-roll-TermText (Type 0) full_step natural d

pub full_seq : (xs : List TermText) → HasEvents (text.Seq xs) ≡ of_parts (TermText-F.Seq xs)
full_seq xs = ap HasEvents (sym (text.rolls-Seq xs)) ∙ full_roll (TermText-F.Seq xs)

pub full_par : (xs : List TermText) → HasEvents (text.Par xs) ≡ of_parts (TermText-F.Par xs)
full_par xs = ap HasEvents (sym (text.rolls-Par xs)) ∙ full_roll (TermText-F.Par xs)

pub full_at : (p : Place) (node : ℕ) (bs : List ℕ) (x : TermText) → HasEvents (text.At p node bs x) ≡ HasEvents x
full_at p node bs x = ap HasEvents (sym (text.rolls-At p node bs x)) ∙ full_roll (TermText-F.At p node bs x)

pub full_act : (p : Place) (e : EventText) → HasEvents (text.Act p e) ≡ Unit {0}
full_act p e = ap HasEvents (sym (text.rolls-Act p e)) ∙ full_roll (TermText-F.Act p e)

along : {P Q : Type 0} → P ≡ Q → P → Q
along e h = subst (λ (t : Type 0). t) e h

-- ---- lists of lines

abbrev AreFull : List TermText → Type 0
AreFull xs = is_there xs × each HasEvents xs

abbrev pub LeftFull : Left → Type 0
LeftFull Nothing = Unit {0}
LeftFull (InTurn ts) = AreFull ts
LeftFull (Beside ts) = AreFull ts
LeftFull (Alone t) = HasEvents t

full_append : (xs ys : List TermText) → AreFull xs → AreFull ys → AreFull (xs ++ ys)
full_append [] ys h k = absurd h.0
full_append (x ∷ []) ys h k = (tt, (h.1.0, k.1))
full_append (x ∷ y ∷ xs) ys h k = (tt, (h.1.0, (full_append (y ∷ xs) ys (tt, h.1.1) k).1))

pub whole_full : {a : Left} → IsSome a → LeftFull a → HasEvents (whole a)
whole_full (turns {ts = ts}) h = along (sym (full_seq ts)) h
whole_full (besides {ts = ts}) h = along (sym (full_par ts)) h
whole_full alone h = h

in_turn_full : {a : Left} → IsSome a → LeftFull a → AreFull (in_turn a)
in_turn_full turns h = h
in_turn_full (besides {ts = ts}) h = (tt, (along (sym (full_par ts)) h, tt))
in_turn_full alone h = (tt, (h, tt))

beside_full : {a : Left} → IsSome a → LeftFull a → AreFull (beside a)
beside_full (turns {ts = ts}) h = (tt, (along (sym (full_seq ts)) h, tt))
beside_full besides h = h
beside_full alone h = (tt, (h, tt))

then_full : (a b : Left) → Shown a → Shown b → LeftFull a → LeftFull b → LeftFull (then_seq a b)
then_full a b (none e) y h k = subst (λ l. LeftFull (then_seq l b)) (sym e) k
then_full a b (some u) (none e) h k = subst (λ l. LeftFull (then_seq a l)) (sym e) (subst LeftFull (sym (seq_nothing a)) h)
then_full a b (some u) (some v) h k =
    subst LeftFull (sym (seq_is u v)) (full_append (in_turn a) (in_turn b) (in_turn_full u h) (in_turn_full v k))

aside_full : (a b : Left) → Shown a → Shown b → LeftFull a → LeftFull b → LeftFull (then_par a b)
aside_full a b (none e) y h k = subst (λ l. LeftFull (then_par l b)) (sym e) k
aside_full a b (some u) (none e) h k = subst (λ l. LeftFull (then_par a l)) (sym e) (subst LeftFull (sym (par_nothing a)) h)
aside_full a b (some u) (some v) h k =
    subst LeftFull (sym (par_is u v)) (full_append (beside a) (beside b) (beside_full u h) (beside_full v k))

seq_of_full : (n : ℕ) (f : ℕ → Left) (k : ℕ) → ((i : ℕ) → LeftFull (f i)) → LeftFull (seq_of n f k)
unfolding seq_of
seq_of_full zero f k h = tt
seq_of_full (suc n) f k h = then_full (f k) (seq_of n f (k + 1)) (shown _) (shown _) (h k) (seq_of_full n f (k + 1) h)

par_of_full : (n : ℕ) (f : ℕ → Left) (k : ℕ) → ((i : ℕ) → LeftFull (f i)) → LeftFull (par_of n f k)
unfolding par_of
par_of_full zero f k h = tt
par_of_full (suc n) f k h = aside_full (f k) (par_of n f (k + 1)) (shown _) (shown _) (h k) (par_of_full n f (k + 1) h)

either_full : (v : Bool) (a : Left) → LeftFull a → LeftFull (if v then a else Nothing)
either_full true a h = h
either_full false a h = tt

lines_full : (node : ℕ) (bs : List ℕ) (a : Left) → LeftFull a → LeftFull (lines_of node bs a)
lines_full node bs Nothing h = tt
lines_full node bs (InTurn ts) h = along (sym (full_at nowhere node bs (text.Seq ts))) (whole_full turns h)
lines_full node bs (Beside ts) h = along (sym (full_at nowhere node bs (text.Par ts))) (whole_full besides h)
lines_full node bs (Alone t) h = along (sym (full_at nowhere node bs t)) h

scope_full : (here node : ℕ) (bs : List ℕ) (a : Left) → LeftFull a → LeftFull (scope here node bs a)
scope_full here node bs a h = by (is_left_out here node bs)
  where
    by : (v : Bool) → LeftFull (if v then a else lines_of node bs a)
    by true = h
    by false = lines_full node bs a h

-- ---- terms

module _ {At : Type 0} (r : Reading At) where
  abbrev Full : Term → Type 0
  Full x = (at : At) → LeftFull (left_by r x at)

  abbrev H : Type 0
  H = (x : Term) × Full x

  abbrev terms : List H → List Term
  terms xs = map (λ p. p.0) xs

  seq_full : (xs : List H) (at : At) → LeftFull (seq_parts (map (left_by r) (terms xs)) at)
  seq_full [] at = tt
  seq_full (x ∷ xs) at = then_full (left_by r x.0 at) (seq_parts (map (left_by r) (terms xs)) at) (shown _) (shown _) (x.1 at) (seq_full xs at)

  par_full : (xs : List H) (at : At) → LeftFull (par_parts (map (left_by r) (terms xs)) at)
  par_full [] at = tt
  par_full (x ∷ xs) at = aside_full (left_by r x.0 at) (par_parts (map (left_by r) (terms xs)) at) (shown _) (shown _) (x.1 at) (par_full xs at)

  arm_full : (xs : List H) (k : ℕ) (at : At) → LeftFull (arm_of (map (left_by r) (terms xs)) k at)
  arm_full [] k at = tt
  arm_full (x ∷ xs) zero at = x.1 at
  arm_full (x ∷ xs) (suc k) at = arm_full xs k at

  at_full : (xs : List H) (z : ℤ) (at : At) → LeftFull (arm_at (map (left_by r) (terms xs)) z at)
  at_full xs (pos k) at = arm_full xs k at
  at_full xs (negsuc k) at = tt

  by_form : (x : Term) (f : At → Left) → left_by r x ≡ f → ((at : At) → LeftFull (f at)) → Full x
  by_form x f e h at = subst LeftFull (sym (ap (λ (g : At → Left). g at) e)) (h at)

  step : (y : Term-F H) → Full (roll-Term (map-Term H Term (λ p. p.0) y))
  step Term-F.Skip = subst Full (sym term.rolls-Skip) (by_form term.Skip _ (left_skip r) (λ at. tt))
  step (Term-F.Act a) = subst Full (sym (term.rolls-Act a)) (by_form (term.Act a) _ (left_act r a) (λ at. along (sym (full_act nowhere _)) tt))
  step (Term-F.Seq xs) = subst Full (sym (term.rolls-Seq (terms xs))) (by_form (term.Seq (terms xs)) _ (left_seq r (terms xs)) (seq_full xs))
  step (Term-F.Par xs) = subst Full (sym (term.rolls-Par (terms xs))) (by_form (term.Par (terms xs)) _ (left_par r (terms xs)) (par_full xs))
  step (Term-F.Loop n x) = subst Full (sym (term.rolls-Loop n x.0)) (by_form (term.Loop n x.0) _ (left_loop r n x.0)
      (λ at. seq_of_full (r.count n at) (λ t. left_by r x.0 (r.turn at t)) 0 (λ i. x.1 (r.turn at i))))
  step (Term-F.Spread n rule x) = subst Full (sym (term.rolls-Spread n rule x.0)) (by_form (term.Spread n rule x.0) _ (left_spread r n rule x.0)
      (λ at. par_of_full (r.children at) (λ c. seq_of (r.count n at) (turn_at r rule (r.count n at) (r.children at) (left_by r x.0) at c) 0) 0
      (λ c. seq_of_full (r.count n at) (turn_at r rule (r.count n at) (r.children at) (left_by r x.0) at c) 0
      (λ t. either_full (child_of rule (r.count n at) (r.children at) t == c) (left_by r x.0 (r.turn at t)) (x.1 (r.turn at t))))))
  step (Term-F.Case n xs) = subst Full (sym (term.rolls-Case n (terms xs))) (by_form (term.Case n (terms xs)) _ (left_case r n (terms xs))
      (λ at. at_full xs (r.value n at) at))
  step (Term-F.Within c bs x) = subst Full (sym (term.rolls-Within c bs x.0)) (by_form (term.Within c bs x.0) _ (left_within r c bs x.0)
      (λ at. scope_full (r.node at) (r.node (r.inside c at)) bs (left_by r x.0 (r.inside c at)) (x.1 (r.inside c at))))

  pub left_full : (x : Term) (at : At) → LeftFull (left_by r x at)
  left_full = ind-Term Full (λ x y is. subst (λ z. Full (roll-Term z)) is (step y))
