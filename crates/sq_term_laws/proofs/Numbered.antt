-- Lists of buffers: those that stand on a stack, those of parameters, and those that leave loops.
use Rattle.std.proofs.Common.{◌≡◌, ℕ, zero, suc, ◌+◌, ◌<◌, ◌≤◌, Bool, true, false, List, [], ◌∷◌, ◌++◌, take, drop}
use Rattle.std.proofs.Common.{length, get_or, slice_get, Option, Some, None, refl, sym, ap, ap₂, subst, ◌∙◌, arith}
use Rattle.std.specs.Prelude.{if◌then◌else◌}
use Rattle.std.proofs.lemmas.List.{append-nil}
use Rattle.sq_blocks.specs.declared.argument.Argument.{Argument}
use Rattle.sq_spec.specs.declared.statement.CallInstance.{CallInstance}
use Rattle.sq_placed.specs.declared.home.Home.{Home}
use Rattle.sq_placed.specs.declared.home.Home.TheVariants.{InPlace}
use Rattle.sq_placed.specs.declared.home.Homes.{Homes}
use Rattle.sq_placed.specs.Trees.{buffer_of, twin_of, held_of}
use Rattle.sq_placed.specs.Tables.{leaves_loop, leaving_args, leaving_row, row_form}
use Rattle.sq_term.specs.Terms.{buffers_from, set_buffers_from, leaving_buffers}
use Rattle.sq_nests.specs.Stacks.{those, OnStack}
use Rattle.sq_term_laws.specs.Orders.{EachOf, held_at, held_over, params_of, call_buffers}
use Rattle.sq_term_laws.specs.Overlapping.{IsSuited}
use Rattle.sq_term_laws.specs.Callers.{home_buffers, home_set}
use Rattle.sq_term_laws.proofs.Overlaps.{no_twin, nothing_more}

pub append_assoc : (xs ys zs : List ℕ) → (xs ++ ys) ++ zs ≡ xs ++ (ys ++ zs)
append_assoc [] ys zs = refl
append_assoc (x ∷ xs) ys zs = ap (λ l. x ∷ l) (append_assoc xs ys zs)

pub those_append : (here : ℕ → Bool) (xs ys : List ℕ) → those here (xs ++ ys) ≡ those here xs ++ those here ys
those_append here [] ys = refl
those_append here (x ∷ xs) ys = by (here x) (those_append here xs ys)
  where
    by : (v : Bool) → those here (xs ++ ys) ≡ those here xs ++ those here ys
        → (if v then x ∷ those here (xs ++ ys) else those here (xs ++ ys))
        ≡ (if v then x ∷ those here xs else those here xs) ++ those here ys
    by true e = ap (λ l. x ∷ l) e
    by false e = e

-- ---- stacks

pub on_stack : (before : ℕ → List ℕ) (o xs : List ℕ) → ((i b : ℕ) → slice_get xs i ≡ Some b → before b ≡ o ++ take i xs)
    → OnStack before o xs
on_stack before o [] h = tt
on_stack before o (x ∷ xs) h = (
  h 0 x refl ∙ append-nil o,
  on_stack before (o ++ x ∷ []) xs
      (λ i b e. h (suc i) b e ∙ sym (append_assoc o (x ∷ []) (take i xs))),
)

pub left_of : (before : ℕ → List ℕ) (o xs ys : List ℕ) → OnStack before o (xs ++ ys) → OnStack before o xs
left_of before o [] ys h = tt
left_of before o (x ∷ xs) ys h = (h.0, left_of before (o ++ x ∷ []) xs ys h.1)

pub right_of : (before : ℕ → List ℕ) (o xs ys : List ℕ) → OnStack before o (xs ++ ys) → OnStack before (o ++ xs) ys
right_of before o [] ys h = subst (λ z. OnStack before z ys) (sym (append-nil o)) h
right_of before o (x ∷ xs) ys h
    = subst (λ z. OnStack before z ys) (append_assoc o (x ∷ []) xs) (right_of before (o ++ x ∷ []) xs ys h.1)

-- ---- the arguments of a call are its callee's parameters

drop_one : (hs : List Home) (i : ℕ) → i < length hs → drop i hs ≡ get_or hs i InPlace ∷ drop (suc i) hs
drop_one [] i h = absurd (omega (arith, h))
drop_one (x ∷ hs) zero h = refl
drop_one (x ∷ hs) (suc i) h = drop_one hs i (omega (arith, h))

drop_end : (hs : List Home) (i : ℕ) → length hs ≤ i → drop i hs ≡ []
drop_end [] zero h = refl
drop_end [] (suc i) h = refl
drop_end (x ∷ hs) zero h = absurd (omega (arith, h))
drop_end (x ∷ hs) (suc i) h = drop_end hs i (omega (arith, h))

pub same_buffers : (hs : List Home) (i : ℕ) (args : List Argument) → i + length args ≡ length hs
    → buffers_from hs i args ≡ home_buffers (drop i hs)
same_buffers hs i [] e = ap home_buffers (sym (drop_end hs i (omega (arith, e))))
same_buffers hs i (a ∷ rest) e =
    ap (buffer_of (get_or hs i InPlace)) (same_buffers hs (suc i) rest (omega (arith, e)))
    ∙ ap home_buffers (sym (drop_one hs i (omega (arith, e))))

same_sets : (set : ℕ) (hs : List Home) (i : ℕ) (args : List Argument) → i + length args ≡ length hs
    → set_buffers_from set hs i args ≡ home_set set (drop i hs)
same_sets set hs i [] e = ap (home_set set) (sym (drop_end hs i (omega (arith, e))))
same_sets set hs i (a ∷ rest) e =
    ap (twin_of set (get_or hs i InPlace)) (same_sets set hs (suc i) rest (omega (arith, e)))
    ∙ ap (home_set set) (sym (drop_one hs i (omega (arith, e))))

-- of parameters that leave no loop
abbrev pub moved_buffers : List Home → List ℕ
moved_buffers hs = home_buffers hs ++ (home_set 0 hs ++ home_set 1 hs)

pub with_more : (hs : List Home) (more : List ℕ)
    → home_buffers hs ++ (home_set 0 hs ++ (home_set 1 hs ++ more)) ≡ moved_buffers hs ++ more
with_more hs more = sym (append_assoc (home_buffers hs) (home_set 0 hs ++ home_set 1 hs) more
    ∙ ap (λ z. home_buffers hs ++ z) (append_assoc (home_set 0 hs) (home_set 1 hs) more))

pub same_moved : (hs : List Home) (args : List Argument) → length args ≡ length hs
    → call_buffers hs args ≡ moved_buffers hs
same_moved hs args e =
    let z : 0 + length args ≡ length hs = omega (arith, e) in
    ap₂ (λ x y. x ++ y) (same_buffers hs 0 args z)
    (ap₂ (λ x y. x ++ y) (same_sets 0 hs 0 args z) (same_sets 1 hs 0 args z))

no_sets : (set : ℕ) (hs : List Home) → EachOf (IsSuited false) hs → home_set set hs ≡ []
no_sets set [] h = refl
no_sets set (x ∷ hs) h = no_twin set x (home_set set hs) h.0 ∙ no_sets set hs h.1

-- of a form that doesn't overlap its transfers
pub moved_once : (hs : List Home) → EachOf (IsSuited false) hs → moved_buffers hs ≡ home_buffers hs
moved_once hs h = ap₂ (λ x y. home_buffers hs ++ (x ++ y)) (no_sets 0 hs h) (no_sets 1 hs h)
    ∙ nothing_more (home_buffers hs)

-- those that leave a loop, in order
pub same_held : (j : ℕ) (hs : List Home) (i : ℕ) (args : List Argument) → i + length args ≡ length hs
    → leaving_buffers hs (leaving_args j hs i args) ≡ held_at j (drop i hs)
same_held j hs i [] e = ap (held_at j) (sym (drop_end hs i (omega (arith, e))))
same_held j hs i (a ∷ rest) e = by (leaves_loop j (get_or hs i InPlace))
    (same_held j hs (suc i) rest (omega (arith, e))) ∙ ap (held_at j) (sym (drop_one hs i (omega (arith, e))))
  where
    by : (v : Bool) → leaving_buffers hs (leaving_args j hs (suc i) rest) ≡ held_at j (drop (suc i) hs)
        → leaving_buffers hs (if v then (i, a) ∷ leaving_args j hs (suc i) rest else leaving_args j hs (suc i) rest)
        ≡ (if v then held_of (get_or hs i InPlace) (held_at j (drop (suc i) hs)) else held_at j (drop (suc i) hs))
    by true h = ap (held_of (get_or hs i InPlace)) h
    by false h = h

pub row_held : (homes : ℕ → Homes) (j : ℕ) (o : Option CallInstance)
    → ((r : CallInstance) → o ≡ Some r → length r.args ≡ length (homes r.form).params)
    → leaving_buffers (homes (row_form o)).params (leaving_row homes j o) ≡ held_at j (params_of homes o)
row_held homes j None h = refl
row_held homes j (Some r) h = same_held j (homes r.form).params 0 r.args (let e = h r refl in omega (arith, e))

pub none_held : (n base : ℕ) → held_over n base [] ≡ []
none_held zero base = refl
none_held (suc n) base = ap (λ (l : List ℕ). l ++ []) (none_held n (suc base))

-- those that leave more loops stand in front
pub front_held : (here : ℕ → Bool) (before : ℕ → List ℕ) (o : List ℕ) (hs : List Home) (k n base m inner : ℕ) → m ≡ k
    + n → inner ≡ k + base
    → OnStack before o (those here (held_over m base hs)) → OnStack before o (those here (held_over n inner hs))
front_held here before o hs zero n base m inner e d h =
    let x : m ≡ n = omega (arith, e) in
    let y : base ≡ inner = omega (arith, d) in
    subst (λ (z : ℕ). OnStack before o (those here (held_over n z hs))) y
    (subst (λ (z : ℕ). OnStack before o (those here (held_over z base hs))) x h)
front_held here before o hs (suc k) n base zero inner e d h = absurd (omega (arith, e))
front_held here before o hs (suc k) n base (suc m) inner e d h =
    front_held here before o hs k n (suc base) m inner (omega (arith, e)) (omega (arith, d))
    (left_of before o (those here (held_over m (suc base) hs)) (those here (held_at (suc base) hs))
    (subst (OnStack before o) (those_append here (held_over m (suc base) hs) (held_at (suc base) hs)) h))
