-- How many events are left: of parts together it is the sum, whether in turn or beside one another.
use Rattle.std.proofs.Common.{◌≡◌, ℕ, zero, suc, ◌+◌, ◌-◌, ◌<◌, ◌≤◌, Option, List, [], ◌∷◌, ◌++◌, map, refl, sym, ap, ap₂, ◌∙◌, arith, Bool, true, false}
use Rattle.std.specs.Prelude.{if◌then◌else◌}
use Rattle.sq_ir.specs.declared.num.Num.{Num}
use Rattle.sq_ir.specs.declared.term.Action.{Action}
use Rattle.sq_ir.specs.declared.term.Term.{Term}
use Rattle.sq_sched.specs.Words.{env_of, node_here}
use Rattle.sq_sched.specs.Forms.{inside}
use Rattle.sq_sched.specs.declared.env.Env.{Env}
use Rattle.sq_ast.specs.Unplaced.{nowhere}
use Rattle.sq_plantext.specs.declared.text.TermText.{TermText}
use Rattle.sq_plantext.specs.declared.text.TermText.TheVariants as t
use Rattle.sq_planfile.specs.declared.left.Left.{Left}
use Rattle.sq_planfile.specs.declared.left.Left.TheVariants.{Nothing, InTurn, Beside, Alone}
use Rattle.sq_planfile.specs.Left.{in_turn, beside, then_seq, then_par, whole, is_left_out, lines_of, scope}
use Rattle.sq_planfile.specs.Written.{seq_of, par_of}
use Rattle.sq_planfile.specs.Limits.{most_events, sum, size}
use Rattle.sq_planfile.specs.Words.{number, few, event_at, left_in, left_within}
use Rattle.sq_planfile.proofs.Joins.{IsSome, turns, besides, alone, Shown, none, some, shown, seq_is, par_is, seq_nothing, par_nothing, seq_item, seq_past}
use Rattle.sq_planfile.proofs.Sizes.{size_seq, size_par, size_at, size_act}

sum_append : (xs ys : List TermText) → sum (map size (xs ++ ys)) ≡ sum (map size xs) + sum (map size ys)
sum_append [] ys = omega arith
sum_append (x ∷ xs) ys = let e = sum_append xs ys in omega (arith, e)

of_turns : {a : Left} → IsSome a → sum (map size (in_turn a)) ≡ number a
of_turns turns = refl
of_turns (besides {ts = ts}) = let e = size_par ts in omega (arith, e)
of_turns alone = omega arith

of_besides : {a : Left} → IsSome a → sum (map size (beside a)) ≡ number a
of_besides (turns {ts = ts}) = let e = size_seq ts in omega (arith, e)
of_besides besides = refl
of_besides alone = omega arith

pub number_whole : (a : Left) → size (whole a) ≡ number a
number_whole Nothing = size_seq []
number_whole (InTurn ts) = size_seq ts
number_whole (Beside ts) = size_par ts
number_whole (Alone t) = refl

seq_shown : (a b : Left) → Shown a → Shown b → number (then_seq a b) ≡ number a + number b
seq_shown a b (none e) y =
    let z : number b ≡ number Nothing + number b = omega arith in
    ap (λ a. number (then_seq a b)) e ∙ z ∙ sym (ap (λ a. number a + number b) e)
seq_shown a b (some x) (none e) =
    let z : number a ≡ number a + number Nothing = omega arith in
    ap (λ b. number (then_seq a b)) e ∙ ap number (seq_nothing a) ∙ z ∙ sym (ap (λ b. number a + number b) e)
seq_shown a b (some x) (some y) =
    let e = ap number (seq_is x y) in
    let s = sum_append (in_turn a) (in_turn b) in
    let p = of_turns x in
    let q = of_turns y in
    e ∙ s ∙ ap₂ (λ m n. m + n) p q

par_shown : (a b : Left) → Shown a → Shown b → number (then_par a b) ≡ number a + number b
par_shown a b (none e) y =
    let z : number b ≡ number Nothing + number b = omega arith in
    ap (λ a. number (then_par a b)) e ∙ z ∙ sym (ap (λ a. number a + number b) e)
par_shown a b (some x) (none e) =
    let z : number a ≡ number a + number Nothing = omega arith in
    ap (λ b. number (then_par a b)) e ∙ ap number (par_nothing a) ∙ z ∙ sym (ap (λ b. number a + number b) e)
par_shown a b (some x) (some y) =
    let e = ap number (par_is x y) in
    let s = sum_append (beside a) (beside b) in
    let p = of_besides x in
    let q = of_besides y in
    e ∙ s ∙ ap₂ (λ m n. m + n) p q

pub number_seq : (a b : Left) → number (then_seq a b) ≡ number a + number b
number_seq a b = seq_shown a b (shown a) (shown b)

pub number_par : (a b : Left) → number (then_par a b) ≡ number a + number b
number_par a b = par_shown a b (shown a) (shown b)

number_lines : (node : ℕ) (bs : List ℕ) (a : Left) → number (lines_of node bs a) ≡ number a
number_lines node bs Nothing = refl
number_lines node bs (InTurn ts) = size_at nowhere node bs (t.Seq ts) ∙ size_seq ts
number_lines node bs (Beside ts) = size_at nowhere node bs (t.Par ts) ∙ size_par ts
number_lines node bs (Alone x) = size_at nowhere node bs x

pub number_scope : (here node : ℕ) (bs : List ℕ) (a : Left) → number (scope here node bs a) ≡ number a
number_scope here node bs a = by (is_left_out here node bs)
  where
    by : (v : Bool) → number (if v then a else lines_of node bs a) ≡ number a
    by true = refl
    by false = number_lines node bs a

pub number_event : (env : Env) (a : Action) → number (event_at env a) ≡ 1
number_event env a = size_act nowhere _

pub number_within : (env : Env) (c : Option Num) (bs : List ℕ) (b : Term) → number (left_within env c bs b) ≡ number (left_in env c b)
number_within env c bs b = number_scope (node_here (env_of env)) (node_here (inside env.plan.now c (env_of env))) bs (left_in env c b)

-- rows of the same parts in turn and beside one another
pub number_rows : (n : ℕ) (f : ℕ → Left) (k : ℕ) → number (par_of n f k) ≡ number (seq_of n f k)
unfolding seq_of par_of
number_rows zero f k = refl
number_rows (suc n) f k =
    number_par (f k) (par_of n f (k + 1)) ∙ ap (λ m. number (f k) + m) (number_rows n f (k + 1)) ∙ sym (number_seq (f k) (seq_of n f (k + 1)))

-- ---- few of them

few_small : (n : ℕ) → n ≤ most_events → few n ≡ n
few_small n h = omega (arith, h)

-- so far, and the parts from number i on
module _ (n : ℕ) (f : ℕ → Left) where
  pub record AddsUp (so_far i : ℕ) : Type 0 where
    pub low : so_far ≤ most_events
    pub is : few (so_far + number (seq_of (n - i) f i)) ≡ few (number (seq_of n f 0))

  pub adds_begin : AddsUp 0 0
  adds_begin =
      let e : n - 0 ≡ n = omega arith in
      let z : 0 + number (seq_of (n - 0) f 0) ≡ number (seq_of (n - 0) f 0) = omega arith in
      record { low = omega arith; is = ap few (z ∙ ap (λ m. number (seq_of m f 0)) e) }

  -- together with one part more
  next : (so_far here whole i : ℕ) → i < n → AddsUp so_far i → here ≡ few (number (f i)) → whole ≡ few (so_far + here)
      → few (whole + number (seq_of (n - (i + 1)) f (i + 1))) ≡ few (number (seq_of n f 0))
  next so_far here whole i lt inv eh ew =
      let rest = number (seq_of (n - (i + 1)) f (i + 1)) in
      let e = ap number (seq_item n f i lt) ∙ number_seq (f i) (seq_of (n - (i + 1)) f (i + 1)) in
      let m : few (whole + rest) ≡ few (so_far + number (seq_of (n - i) f i)) = omega (arith, eh, ew, e) in
      m ∙ inv.is

  pub adds_next : (so_far here whole i : ℕ) → i < n → AddsUp so_far i → here ≡ few (number (f i)) → whole ≡ few (so_far + here) → whole ≤ most_events → AddsUp whole (i + 1)
  adds_next so_far here whole i lt inv eh ew low = record { low = low; is = next so_far here whole i lt inv eh ew }

  -- there are too many already
  pub adds_full : (so_far here whole i : ℕ) → i < n → AddsUp so_far i → here ≡ few (number (f i)) → whole ≡ few (so_far + here) → most_events < whole
      → whole ≡ few (number (seq_of n f 0))
  adds_full so_far here whole i lt inv eh ew high =
      let m = next so_far here whole i lt inv eh ew in
      omega (arith, m, high, ew)

  pub adds_end : (so_far i : ℕ) → n ≤ i → AddsUp so_far i → so_far ≡ few (number (seq_of n f 0))
  adds_end so_far i le inv =
      let e = ap number (seq_past n f i le) in
      let low = inv.low in
      let is = inv.is in
      omega (arith, e, low, is)

  -- parts of which nothing is left are passed by
  pub adds_skip : (so_far i u : ℕ) → seq_of (n - i) f i ≡ seq_of (n - u) f u → AddsUp so_far i → AddsUp so_far u
  adds_skip so_far i u e inv = record { low = inv.low; is = sym (ap (λ a. few (so_far + number a)) e) ∙ inv.is }
