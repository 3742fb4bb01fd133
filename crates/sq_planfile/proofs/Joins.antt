-- How what is left of parts is joined.
use Rattle.std.proofs.Common.{◌≡◌, ℕ, zero, suc, ◌+◌, ◌-◌, ◌<◌, ◌≤◌, true, false, List, [], ◌∷◌, ◌++◌, length, refl, sym, ap, ◌∙◌, arith, append_assoc, Bool}
use Rattle.std.specs.Prelude.{if◌then◌else◌}
use Rattle.sq_ast.specs.Unplaced.{nowhere}
use Rattle.sq_plantext.specs.declared.text.TermText.{TermText}
use Rattle.sq_plantext.specs.declared.text.TermText.TheVariants as text
use Rattle.sq_planfile.specs.declared.left.Left.{Left}
use Rattle.sq_planfile.specs.declared.left.Left.TheVariants.{Nothing, InTurn, Beside, Alone}
use Rattle.sq_planfile.specs.Left.{is_nothing, is_left_out, in_turn, beside, then_seq, then_par, whole, lines_of, scope}
use Rattle.sq_planfile.specs.Written.{seq_parts, par_parts, seq_of, par_of, arm_of}

pub seq_first : (a b : Left) → is_nothing a ≡ true → then_seq a b ≡ b
seq_first Nothing b h = refl
seq_first (InTurn ts) b h = absurd (cc)
seq_first (Beside ts) b h = absurd (cc)
seq_first (Alone t) b h = absurd (cc)

pub seq_nothing : (a : Left) → then_seq a Nothing ≡ a
seq_nothing Nothing = refl
seq_nothing (InTurn ts) = refl
seq_nothing (Beside ts) = refl
seq_nothing (Alone t) = refl

pub nothing_is : (a : Left) → is_nothing a ≡ true → a ≡ Nothing
nothing_is Nothing h = refl
nothing_is (InTurn ts) h = absurd (cc)
nothing_is (Beside ts) h = absurd (cc)
nothing_is (Alone t) h = absurd (cc)

pub seq_last : (a b : Left) → is_nothing b ≡ true → then_seq a b ≡ a
seq_last a b h = ap (then_seq a) (nothing_is b h) ∙ seq_nothing a

pub par_first : (a b : Left) → is_nothing a ≡ true → then_par a b ≡ b
par_first Nothing b h = refl
par_first (InTurn ts) b h = absurd (cc)
par_first (Beside ts) b h = absurd (cc)
par_first (Alone t) b h = absurd (cc)

pub par_nothing : (a : Left) → then_par a Nothing ≡ a
par_nothing Nothing = refl
par_nothing (InTurn ts) = refl
par_nothing (Beside ts) = refl
par_nothing (Alone t) = refl

pub par_last : (a b : Left) → is_nothing b ≡ true → then_par a b ≡ a
par_last a b h = ap (then_par a) (nothing_is b h) ∙ par_nothing a

pub data IsSome : Left → Type 0 where
  turns : {ts : List TermText} → IsSome (InTurn ts)
  besides : {ts : List TermText} → IsSome (Beside ts)
  alone : {y : TermText} → IsSome (Alone y)

pub is_some : (a : Left) → is_nothing a ≡ false → IsSome a
is_some Nothing h = absurd (cc)
is_some (InTurn ts) h = turns
is_some (Beside ts) h = besides
is_some (Alone t) h = alone

pub seq_is : {a b : Left} → IsSome a → IsSome b → then_seq a b ≡ InTurn (in_turn a ++ in_turn b)
seq_is turns turns = refl
seq_is turns besides = refl
seq_is turns alone = refl
seq_is besides turns = refl
seq_is besides besides = refl
seq_is besides alone = refl
seq_is alone turns = refl
seq_is alone besides = refl
seq_is alone alone = refl

pub par_is : {a b : Left} → IsSome a → IsSome b → then_par a b ≡ Beside (beside a ++ beside b)
par_is turns turns = refl
par_is turns besides = refl
par_is turns alone = refl
par_is besides turns = refl
par_is besides besides = refl
par_is besides alone = refl
par_is alone turns = refl
par_is alone besides = refl
par_is alone alone = refl

pub seq_both : (a b : Left) → is_nothing a ≡ false → is_nothing b ≡ false → then_seq a b ≡ InTurn (in_turn a ++ in_turn b)
seq_both a b h g = seq_is (is_some a h) (is_some b g)

pub par_both : (a b : Left) → is_nothing a ≡ false → is_nothing b ≡ false → then_par a b ≡ Beside (beside a ++ beside b)
par_both a b h g = par_is (is_some a h) (is_some b g)

pub lines_some : (node : ℕ) (bs : List ℕ) (a : Left) → is_nothing a ≡ false → lines_of node bs a ≡ Alone (text.At nowhere node bs (whole a))
lines_some node bs Nothing h = absurd (cc)
lines_some node bs (InTurn ts) h = refl
lines_some node bs (Beside ts) h = refl
lines_some node bs (Alone t) h = refl

-- round nothing there is no scope
pub no_scope : (here node : ℕ) (bs : List ℕ) → scope here node bs Nothing ≡ Nothing
no_scope here node bs = by (is_left_out here node bs)
  where
    by : (v : Bool) → (if v then Nothing else Nothing) ≡ Nothing
    by true = refl
    by false = refl

pub scope_nothing : (here node : ℕ) (bs : List ℕ) (a : Left) → is_nothing a ≡ true → scope here node bs a ≡ Nothing
scope_nothing here node bs a h = ap (scope here node bs) (nothing_is a h) ∙ no_scope here node bs

pub scope_out : (here node : ℕ) (bs : List ℕ) (a : Left) → is_left_out here node bs ≡ true → scope here node bs a ≡ a
scope_out here node bs a h = ap (λ v. if v then a else lines_of node bs a) h

pub scope_some : (here node : ℕ) (bs : List ℕ) (a : Left) → is_nothing a ≡ false → is_left_out here node bs ≡ false → scope here node bs a ≡ Alone (text.At nowhere node bs (whole a))
scope_some here node bs a h k = ap (λ v. if v then a else lines_of node bs a) k ∙ lines_some node bs a h

-- ---- joining is associative

pub data Shown (a : Left) : Type 0 where
  none : a ≡ Nothing → Shown a
  some : IsSome a → Shown a

pub shown : (a : Left) → Shown a
shown Nothing = none refl
shown (InTurn ts) = some turns
shown (Beside ts) = some besides
shown (Alone y) = some alone

seq_some : {a b c : Left} → IsSome a → IsSome b → IsSome c → then_seq (then_seq a b) c ≡ then_seq a (then_seq b c)
seq_some {a} {b} {c} x y z = ap (λ l. then_seq l c) (seq_is x y) ∙ seq_is turns z ∙ ap InTurn (append_assoc (in_turn a) (in_turn b) (in_turn c)) ∙ sym (seq_is x turns) ∙ ap (then_seq a) (sym (seq_is y z))

par_some : {a b c : Left} → IsSome a → IsSome b → IsSome c → then_par (then_par a b) c ≡ then_par a (then_par b c)
par_some {a} {b} {c} x y z = ap (λ l. then_par l c) (par_is x y) ∙ par_is besides z ∙ ap Beside (append_assoc (beside a) (beside b) (beside c)) ∙ sym (par_is x besides) ∙ ap (then_par a) (sym (par_is y z))

seq_shown : (a b c : Left) → Shown a → Shown b → Shown c → then_seq (then_seq a b) c ≡ then_seq a (then_seq b c)
seq_shown a b c (none e) y z = ap (λ a. then_seq (then_seq a b) c) e ∙ ap (λ a. then_seq a (then_seq b c)) (sym e)
seq_shown a b c (some x) (none e) z = ap (λ b. then_seq (then_seq a b) c) e ∙ ap (λ l. then_seq l c) (seq_nothing a) ∙ ap (λ b. then_seq a (then_seq b c)) (sym e)
seq_shown a b c (some x) (some y) (none e) = ap (then_seq (then_seq a b)) e ∙ seq_nothing (then_seq a b) ∙ ap (then_seq a) (sym (seq_nothing b)) ∙ ap (λ c. then_seq a (then_seq b c)) (sym e)
seq_shown a b c (some x) (some y) (some z) = seq_some x y z

par_shown : (a b c : Left) → Shown a → Shown b → Shown c → then_par (then_par a b) c ≡ then_par a (then_par b c)
par_shown a b c (none e) y z = ap (λ a. then_par (then_par a b) c) e ∙ ap (λ a. then_par a (then_par b c)) (sym e)
par_shown a b c (some x) (none e) z = ap (λ b. then_par (then_par a b) c) e ∙ ap (λ l. then_par l c) (par_nothing a) ∙ ap (λ b. then_par a (then_par b c)) (sym e)
par_shown a b c (some x) (some y) (none e) = ap (then_par (then_par a b)) e ∙ par_nothing (then_par a b) ∙ ap (then_par a) (sym (par_nothing b)) ∙ ap (λ c. then_par a (then_par b c)) (sym e)
par_shown a b c (some x) (some y) (some z) = par_some x y z

pub seq_assoc : (a b c : Left) → then_seq (then_seq a b) c ≡ then_seq a (then_seq b c)
seq_assoc a b c = seq_shown a b c (shown a) (shown b) (shown c)

pub par_assoc : (a b c : Left) → then_par (then_par a b) c ≡ then_par a (then_par b c)
par_assoc a b c = par_shown a b c (shown a) (shown b) (shown c)

-- ---- rows of nothing

-- a loop whose turns leave nothing leaves nothing, however many they are
pub seq_of_nothing : (n : ℕ) (f : ℕ → Left) (k : ℕ) → ((k : ℕ) → f k ≡ Nothing) → seq_of n f k ≡ Nothing
unfolding seq_of
seq_of_nothing zero f k h = refl
seq_of_nothing (suc n) f k h = ap (λ a. then_seq a (seq_of n f (k + 1))) (h k) ∙ seq_of_nothing n f (k + 1) h

pub par_of_nothing : (n : ℕ) (f : ℕ → Left) (k : ℕ) → ((k : ℕ) → f k ≡ Nothing) → par_of n f k ≡ Nothing
unfolding par_of
par_of_nothing zero f k h = refl
par_of_nothing (suc n) f k h = ap (λ a. then_par a (par_of n f (k + 1))) (h k) ∙ par_of_nothing n f (k + 1) h

-- ---- rows, joined from their first part on

module _ (n : ℕ) (f : ℕ → Left) where
  -- so far, and the parts from number i on behind it
  abbrev pub InTurns : (start so_far : Left) → ℕ → Type 0
  InTurns start so_far i = then_seq so_far (seq_of (n - i) f i) ≡ then_seq start (seq_of n f 0)

  abbrev pub AreBeside : (start so_far : Left) → ℕ → Type 0
  AreBeside start so_far i = then_par so_far (par_of (n - i) f i) ≡ then_par start (par_of n f 0)

  pub seq_item : (i : ℕ) → i < n → seq_of (n - i) f i ≡ then_seq (f i) (seq_of (n - (i + 1)) f (i + 1))
  unfolding seq_of
  seq_item i lt = let e : n - i ≡ suc (n - (i + 1)) = omega arith in ap (λ m. seq_of m f i) e

  pub par_item : (i : ℕ) → i < n → par_of (n - i) f i ≡ then_par (f i) (par_of (n - (i + 1)) f (i + 1))
  unfolding par_of
  par_item i lt = let e : n - i ≡ suc (n - (i + 1)) = omega arith in ap (λ m. par_of m f i) e

  pub seq_past : (i : ℕ) → n ≤ i → seq_of (n - i) f i ≡ Nothing
  unfolding seq_of
  seq_past i le = let e : n - i ≡ 0 = omega arith in ap (λ m. seq_of m f i) e

  pub par_past : (i : ℕ) → n ≤ i → par_of (n - i) f i ≡ Nothing
  unfolding par_of
  par_past i le = let e : n - i ≡ 0 = omega arith in ap (λ m. par_of m f i) e

  pub turns_begin : (start : Left) → InTurns start start 0
  turns_begin start = let e : n - 0 ≡ n = omega arith in ap (λ m. then_seq start (seq_of m f 0)) e

  pub beside_begin : (start : Left) → AreBeside start start 0
  beside_begin start = let e : n - 0 ≡ n = omega arith in ap (λ m. then_par start (par_of m f 0)) e

  pub turns_next : (start so_far next : Left) (i : ℕ) → i < n → InTurns start so_far i → next ≡ then_seq so_far (f i) → InTurns start next (i + 1)
  turns_next start so_far next i lt inv e =
      let rest = seq_of (n - (i + 1)) f (i + 1) in
      ap (λ a. then_seq a rest) e ∙ seq_assoc so_far (f i) rest ∙ ap (then_seq so_far) (sym (seq_item i lt)) ∙ inv

  pub beside_next : (start so_far next : Left) (i : ℕ) → i < n → AreBeside start so_far i → next ≡ then_par so_far (f i) → AreBeside start next (i + 1)
  beside_next start so_far next i lt inv e =
      let rest = par_of (n - (i + 1)) f (i + 1) in
      ap (λ a. then_par a rest) e ∙ par_assoc so_far (f i) rest ∙ ap (then_par so_far) (sym (par_item i lt)) ∙ inv

  pub turns_end : (start so_far : Left) (i : ℕ) → n ≤ i → InTurns start so_far i → so_far ≡ then_seq start (seq_of n f 0)
  turns_end start so_far i le inv = sym (ap (then_seq so_far) (seq_past i le) ∙ seq_nothing so_far) ∙ inv

  pub beside_end : (start so_far : Left) (i : ℕ) → n ≤ i → AreBeside start so_far i → so_far ≡ then_par start (par_of n f 0)
  beside_end start so_far i le inv = sym (ap (then_par so_far) (par_past i le) ∙ par_nothing so_far) ∙ inv

  -- parts of which nothing is left are passed by
  passed_by : (k i : ℕ) → i + k ≤ n → ((j : ℕ) → i ≤ j → j < i + k → f j ≡ Nothing) → seq_of (n - i) f i ≡ seq_of (n - (i + k)) f (i + k)
  passed_by zero i le h = let e : i + zero ≡ i = omega arith in ap (λ j. seq_of (n - j) f j) (sym e)
  passed_by (suc k) i le h =
      let e : i + 1 + k ≡ i + suc k = omega arith in
      seq_item i (omega (arith, le)) ∙ ap (λ a. then_seq a (seq_of (n - (i + 1)) f (i + 1))) (h i (omega arith) (omega arith))
      ∙ passed_by k (i + 1) (omega (arith, le)) (λ j p q. h j (omega (arith, p)) (omega (arith, q))) ∙ ap (λ j. seq_of (n - j) f j) e

  pub passed : (i u : ℕ) → i ≤ u → u ≤ n → ((j : ℕ) → i ≤ j → j < u → f j ≡ Nothing) → seq_of (n - i) f i ≡ seq_of (n - u) f u
  passed i u le lu h =
      let e : i + (u - i) ≡ u = omega (arith, le) in
      passed_by (u - i) i (omega (arith, le, lu)) (λ j a b. h j a (omega (arith, b, e))) ∙ ap (λ j. seq_of (n - j) f j) e

  pub turns_skip : (start so_far : Left) (i u : ℕ) → i ≤ u → u ≤ n → ((j : ℕ) → i ≤ j → j < u → f j ≡ Nothing) → InTurns start so_far i → InTurns start so_far u
  turns_skip start so_far i u le lu h inv = sym (ap (then_seq so_far) (passed i u le lu h)) ∙ inv

-- ---- the parts of a list

module _ {At : Type 0} (at : At) where
  pub seq_list : (ts : List (At → Left)) (k : ℕ) (f : ℕ → Left) → ((i : ℕ) → f (k + i) ≡ arm_of ts i at) → seq_of (length ts) f k ≡ seq_parts ts at
  unfolding seq_of
  seq_list [] k f h = refl
  seq_list (t ∷ ts) k f h =
      let e : k + 0 ≡ k = omega arith in
      ap (λ a. then_seq a (seq_of (length ts) f (k + 1))) (ap f (sym e) ∙ h 0)
      ∙ ap (then_seq (t at)) (seq_list ts (k + 1) f (λ i. let d : k + 1 + i ≡ k + suc i = omega arith in ap f d ∙ h (suc i)))

  pub par_list : (ts : List (At → Left)) (k : ℕ) (f : ℕ → Left) → ((i : ℕ) → f (k + i) ≡ arm_of ts i at) → par_of (length ts) f k ≡ par_parts ts at
  unfolding par_of
  par_list [] k f h = refl
  par_list (t ∷ ts) k f h =
      let e : k + 0 ≡ k = omega arith in
      ap (λ a. then_par a (par_of (length ts) f (k + 1))) (ap f (sym e) ∙ h 0)
      ∙ ap (then_par (t at)) (par_list ts (k + 1) f (λ i. let d : k + 1 + i ≡ k + suc i = omega arith in ap f d ∙ h (suc i)))
