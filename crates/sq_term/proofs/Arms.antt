-- Each row of a call's table has its arm.
use Rattle.std.proofs.Common.{◌≡◌, ℕ, zero, suc, ◌==◌, Bool, true, false, ◌&&◌, ◌||◌, List, [], ◌∷◌, ◌++◌, get_or}
use Rattle.std.proofs.Common.{slice_get, Option, Some, None, refl, sym, ap, subst, ◌∙◌, arith, if◌then◌else◌}
use Rattle.std.proofs.lemmas.Bool.Decides.{nat_tests}
use Rattle.std.specs.List.{list_any}
use Rattle.sq_ast.specs.declared.program.Mode.{Mode}
use Rattle.sq_ast.specs.declared.program.Mode.TheVariants.{Input, Output, Both}
use Rattle.sq_ir.specs.Blocks.declared.argument.Argument.{Argument}
use Rattle.sq_placed.specs.Spec.declared.statement.CallInstance.{CallInstance}
pub use Rattle.sq_placed.specs.Pipes.{IsHead}
use Rattle.sq_placed.specs.Pipes.{AreHeads, no_heads, more_heads}
use Rattle.sq_term.specs.Terms.{is_mode, is_bool, same_head, same_heads, is_same_arm, arm_number, with_arm, arms_from}
use Rattle.sq_term.specs.Terms.{arms_of, picks}
use Rattle.sq_term.specs.Stands.{Each, none, more}

both : (a b : Bool) → (a && b) ≡ true → (a ≡ true) × (b ≡ true)
both true true h = (refl, refl)
both true false h = cc
both false b h = cc

joins : (a b : Bool) → a ≡ true → b ≡ true → (a && b) ≡ true
joins true true h k = refl
joins true false h k = k
joins false b h k = h

-- ---- rows that are alike

mode_is : (a b : Mode) → is_mode a b ≡ true → a ≡ b
mode_is Input Input h = refl
mode_is Input Output h = cc
mode_is Input Both h = cc
mode_is Output Input h = cc
mode_is Output Output h = refl
mode_is Output Both h = cc
mode_is Both Input h = cc
mode_is Both Output h = cc
mode_is Both Both h = refl

mode_itself : (a : Mode) → is_mode a a ≡ true
mode_itself Input = refl
mode_itself Output = refl
mode_itself Both = refl

bool_is : (a b : Bool) → is_bool a b ≡ true → a ≡ b
bool_is true true h = refl
bool_is true false h = cc
bool_is false true h = cc
bool_is false false h = refl

bool_itself : (a : Bool) → is_bool a a ≡ true
bool_itself true = refl
bool_itself false = refl

number_itself : (n : ℕ) → (n == n) ≡ true
number_itself n = grind (arith, nat_tests)

number_is : (n m : ℕ) → (n == m) ≡ true → n ≡ m
number_is n m h = grind (arith, nat_tests, h)

head_is : (a b : Argument) → same_head a b ≡ true → IsHead a b
head_is a b h =
    let p = both (is_mode a.mode b.mode) (is_bool a.is_reduced b.is_reduced && (a.array == b.array)) h in
    let q = both (is_bool a.is_reduced b.is_reduced) (a.array == b.array) p.1 in
    record {
      mode = mode_is a.mode b.mode p.0;
      is_reduced = bool_is a.is_reduced b.is_reduced q.0;
      array
          = number_is a.array b.array q.1;
    }

heads_are : (xs ys : List Argument) → same_heads xs ys ≡ true → Each IsHead xs ys
heads_are [] [] h = none
heads_are [] (y ∷ ys) h = cc
heads_are (x ∷ xs) [] h = cc
heads_are (x ∷ xs) (y ∷ ys) h = let p
    = both (same_head x y) (same_heads xs ys) h in more (head_is x y p.0) (heads_are xs ys p.1)

pub heads_each : {xs ys : List Argument} → AreHeads xs ys → Each IsHead xs ys
heads_each no_heads = none
heads_each (more_heads h hs) = more h (heads_each hs)

heads_itself : (xs : List Argument) → same_heads xs xs ≡ true
heads_itself [] = refl
heads_itself (x ∷ xs) = joins (same_head x x) (same_heads xs xs)
    (joins (is_mode x.mode x.mode) (is_bool x.is_reduced x.is_reduced && (x.array == x.array)) (mode_itself x.mode)
    (joins (is_bool x.is_reduced x.is_reduced) (x.array == x.array) (bool_itself x.is_reduced) (number_itself x.array)))
    (heads_itself xs)

alike_itself : (r : CallInstance) → is_same_arm r r ≡ true
alike_itself r = joins (r.form == r.form) (same_heads r.args r.args) (number_itself r.form) (heads_itself r.args)

-- ---- the arm of a row

pub record HasArm (qs : List CallInstance) (r : CallInstance) : Type 0 where
  pub arm : CallInstance
  pub there : slice_get qs (arm_number qs r) ≡ Some arm
  pub form : r.form ≡ arm.form
  pub heads : Each IsHead r.args arm.args

has_arm : (qs : List CallInstance) (r : CallInstance) → list_any (is_same_arm r) qs ≡ true → HasArm qs r
has_arm [] r h = cc
has_arm (q ∷ qs) r h = go (is_same_arm r q) refl (has_arm qs r)
  where
    go : (b : Bool) → is_same_arm r q ≡ b → (list_any (is_same_arm r) qs ≡ true → HasArm qs r) → HasArm (q ∷ qs) r
    go true e f =
        let p = both (r.form == q.form) (same_heads r.args q.args) e in
        record {
          arm = q;
          there = ap (λ (b : Bool). slice_get (q ∷ qs) (if b then 0 else suc (arm_number qs r))) e;
          form
              = number_is r.form q.form p.0;
          heads = heads_are r.args q.args p.1;
        }
    go false e f =
        let rest : list_any (is_same_arm r) qs ≡ true = sym (ap (λ (b : Bool). b || list_any (is_same_arm r) qs) e)
        ∙ h in
        let k = f rest in
        record {
          arm = k.arm;
          there = ap (λ (b : Bool). slice_get (q ∷ qs) (if b then 0 else suc (arm_number qs r))) e
              ∙ k.there;
          form = k.form;
          heads = k.heads;
        }

any_left : (p : CallInstance → Bool) (xs ys : List CallInstance) → list_any p xs ≡ true → list_any p (xs ++ ys) ≡ true
any_left p [] ys h = cc
any_left p (x ∷ xs) ys h = go (p x) h (any_left p xs ys)
  where
    go : (b : Bool) → (b || list_any p xs) ≡ true → (list_any p xs ≡ true → list_any p (xs ++ ys) ≡ true)
        → (b || list_any p (xs ++ ys)) ≡ true
    go true k f = refl
    go false k f = f k

any_last : (p : CallInstance → Bool) (xs : List CallInstance) (y : CallInstance) → p y ≡ true
    → list_any p (xs ++ y ∷ []) ≡ true
any_last p [] y h = ap (λ (b : Bool). b || false) h
any_last p (x ∷ xs) y h = go (p x) (any_last p xs y h)
  where
    go : (b : Bool) → list_any p (xs ++ y ∷ []) ≡ true → (b || list_any p (xs ++ y ∷ [])) ≡ true
    go true k = refl
    go false k = k

kept_with : (p : CallInstance → Bool) (qs : List CallInstance) (r : CallInstance) → list_any p qs ≡ true
    → list_any p (with_arm qs r) ≡ true
kept_with p qs r h = go (list_any (is_same_arm r) qs)
  where
    go : (b : Bool) → list_any p (if b then qs else qs ++ r ∷ []) ≡ true
    go true = h
    go false = any_left p qs (r ∷ []) h

kept_from : (p : CallInstance → Bool) (qs rest : List CallInstance) → list_any p qs ≡ true
    → list_any p (arms_from qs rest) ≡ true
kept_from p qs [] h = h
kept_from p qs (r ∷ rest) h = kept_from p (with_arm qs r) rest (kept_with p qs r h)

stands_with : (qs : List CallInstance) (r : CallInstance) → list_any (is_same_arm r) (with_arm qs r) ≡ true
stands_with qs r = go (list_any (is_same_arm r) qs) refl
  where
    go : (b : Bool) → list_any (is_same_arm r) qs ≡ b → list_any (is_same_arm r) (if b then qs else qs ++ r ∷ []) ≡ true
    go true e = e
    go false e = any_last (is_same_arm r) qs r (alike_itself r)

row_stands : (qs instances : List CallInstance) (k : ℕ) (r : CallInstance) → slice_get instances k ≡ Some r
    → list_any (is_same_arm r) (arms_from qs instances) ≡ true
row_stands qs [] k r h = cc
row_stands qs (x ∷ instances) zero r h = let e : x ≡ r = cc in
    subst (λ (y : CallInstance). list_any (is_same_arm y) (arms_from (with_arm qs x) instances) ≡ true) e
    (kept_from (is_same_arm x) (with_arm qs x) instances (stands_with qs x))
row_stands qs (x ∷ instances) (suc k) r h = row_stands (with_arm qs x) instances k r h

pub arm_of_row : (instances : List CallInstance) (k : ℕ) (r : CallInstance) → slice_get instances k ≡ Some r
    → HasArm (arms_of instances) r
arm_of_row instances k r h = has_arm (arms_of instances) r (row_stands [] instances k r h)

-- ---- the number that picks it

abbrev pub pick_of : List CallInstance → Option CallInstance → ℕ
pick_of qs None = 0
pick_of qs (Some r) = suc (arm_number qs r)

pub picks_are : (qs instances : List CallInstance) (k : ℕ) → get_or (picks qs instances) k 0
    ≡ pick_of qs (slice_get instances k)
picks_are qs [] k = refl
picks_are qs (r ∷ instances) zero = refl
picks_are qs (r ∷ instances) (suc k) = picks_are qs instances k
