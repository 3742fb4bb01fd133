-- A work changes only what it writes, and depends only on what it touches.
use Rattle.std.proofs.Common.{◌≡◌, ◌⊎◌, ℕ, zero, suc, ◌<◌, ◌+◌, ◌-◌, nat_eq, nat_lt, nat_le, Bool, true, false, cond, ◌&&◌, ◌||◌, List, [], ◌∷◌, Option, Some, None, Ok, Err, slice_get, refl, sym, ap, ◌∙◌, subst, arith, inl, inr, ℤ, pos}
use Rattle.std.specs.List.{list_any}
use mathlib.Core.Path.{fun_ext}
use Rattle.std.proofs.lemmas.Bool.{cases_eq}
use Rattle.std.proofs.lemmas.Bool.Decides.{nat_tests}
use Rattle.sq_leaf.specs.Text.declared.place.Span.{Span}
use Rattle.sq_num.specs.Reductions.{red}
use Rattle.sq_leaf.specs.Source.{Arrays}
use Rattle.sq_leaf.specs.Blocks.declared.argument.Argument.{Argument}
use Rattle.sq_leaf.specs.Ast.Modes.{is_written}
use Rattle.sq_leaf.specs.Blocks.Arguments.{lengths}
use Rattle.sq_work.specs.declared.reduction.Reduction.{Reduction}
use Rattle.sq_work.specs.Work.{Work, Nothing, Then, Each, AtOnce, Gathers, Call, Leaf}
use Rattle.sq_work.specs.Meaning.{Trapped, Outcome, and_then, with_turn, is_inside, covers, in_array, in_block, has, block_value, param_value, at_entry, at_return, any_below, writes, touches, in_turn, apart, with_writes, with_identity, with_reduced, leaf_outcome, meaning}
use Rattle.sq_leaf.specs.Ast.Modes.{is_read}

-- ---- tests

pub or_false : (a b : Bool) → (a || b) ≡ false → (a ≡ false) × (b ≡ false)
or_false true b e = absurd (cc e)
or_false false b e = (refl, e)

pub or_left : (a b : Bool) → a ≡ true → (a || b) ≡ true
or_left true b e = refl
or_left false b e = absurd (cc e)

pub or_right : (a b : Bool) → b ≡ true → (a || b) ≡ true
or_right true b e = refl
or_right false b e = e

pub or_true : (a b : Bool) → (a || b) ≡ true → (a ≡ true) ⊎ (b ≡ true)
or_true true b e = inl refl
or_true false b e = inr e

pub and_true : (a b : Bool) → (a && b) ≡ true → (a ≡ true) × (b ≡ true)
and_true true b e = (refl, e)
and_true false b e = absurd (cc e)

pub below_true : (n : ℕ) (f : ℕ → Bool) (t : ℕ) → t < n → f t ≡ true → any_below n f ≡ true
below_true zero f t lt e = absurd (omega (arith, lt))
below_true (suc n) f t lt e = elim (cases_eq t n) [
  | inl same ↦ or_left (f n) (any_below n f) (ap f (sym same) ∙ e)
  | inr other ↦ or_right (f n) (any_below n f) (below_true n f t (omega (arith, lt, other)) e)
]

pub none_below : (n : ℕ) (f : ℕ → Bool) → ((t : ℕ) → t < n → f t ≡ false) → any_below n f ≡ false
none_below zero f h = refl
none_below (suc n) f h = ap (λ b. b || any_below n f) (h n (omega arith)) ∙ none_below n f (λ t lt. h t (omega (arith, lt)))

pub below_some : (n : ℕ) (f : ℕ → Bool) → any_below n f ≡ true → (t : ℕ) × (t < n) × (f t ≡ true)
below_some zero f e = absurd (cc e)
below_some (suc n) f e = elim (or_true (f n) (any_below n f) e) [
  | inl here ↦ (n, omega arith, here)
  | inr there ↦ let x = below_some n f there in (x.0, omega (arith, x.1), x.2)
]

-- ---- what is written is touched

pub any_more : (p q : Argument → Bool) → ((a : Argument) → p a ≡ true → q a ≡ true) → (args : List Argument) → list_any p args ≡ true → list_any q args ≡ true
any_more p q h [] e = absurd (cc e)
any_more p q h (a ∷ args) e = elim (or_true (p a) (list_any p args) e) [
  | inl here ↦ or_left (q a) (list_any q args) (h a here)
  | inr there ↦ or_right (q a) (list_any q args) (any_more p q h args there)
]

pub more_below : (n : ℕ) (f g : ℕ → Bool) → ((t : ℕ) → f t ≡ true → g t ≡ true) → any_below n f ≡ true → any_below n g ≡ true
more_below n f g h e = let x = below_some n f e in below_true n g x.0 x.1 (h x.0 x.2)

pub or_more : (a b c : Bool) → (b ≡ true → c ≡ true) → (a || b) ≡ true → (a || c) ≡ true
or_more true b c h e = refl
or_more false b c h e = h e

pub both_more : (a b c d : Bool) → (a ≡ true → c ≡ true) → (b ≡ true → d ≡ true) → (a || b) ≡ true → (c || d) ≡ true
both_more true b c d h k e = or_left c d (h refl)
both_more false b c d h k e = or_right c d (k e)

pub written_touched : (w : Work) (n : ℕ) (cs : List ℕ) → writes w n cs ≡ true → touches w n cs ≡ true
written_touched Nothing n cs e = e
written_touched (Then a b) n cs e = both_more (writes a n cs) (writes b n cs) (touches a n cs) (touches b n cs) (written_touched a n cs)
    (written_touched b n cs) e
written_touched (Each count w) n cs e = more_below count (λ t. writes (w t) n cs) (λ t. touches (w t) n cs) (λ t. written_touched (w t) n cs) e
written_touched (AtOnce place count w) n cs e = more_below count (λ t. writes (w t) n cs) (λ t. touches (w t) n cs) (λ t. written_touched (w t) n cs) e
written_touched (Gathers r place count w) n cs e =
    more_below count (λ t. nat_eq n r.array || writes (w t) n cs) (λ t. nat_eq n r.array || touches (w t) n cs)
    (λ t. or_more (nat_eq n r.array) (writes (w t) n cs) (touches (w t) n cs) (written_touched (w t) n cs)) e
written_touched (Call form lower args w) n cs e =
    any_more (λ a. is_written a.mode && has n cs a) (λ a. true && has n cs a) (λ a h. (and_true (is_written a.mode) (has n cs a) h).1) args e
written_touched (Leaf code) n cs e = e

-- ---- what is changed

abbrev pub Keeps : (ℕ → List ℕ → Bool) → Arrays → Outcome → Type 0
Keeps written s (Ok after) = (n : ℕ) (cs : List ℕ) → written n cs ≡ false → after n cs ≡ s n cs
Keeps written s (Err x) = Unit {0}

pub then_keeps : (a b all : ℕ → List ℕ → Bool) (s : Arrays) (o : Outcome) (f : Arrays → Outcome)
    → ((n : ℕ) (cs : List ℕ) → all n cs ≡ false → (a n cs ≡ false) × (b n cs ≡ false)) → Keeps a s o → ((mid : Arrays) → Keeps b mid (f mid))
    → Keeps all s (and_then o f)
then_keeps a b all s (Err x) f split k h = tt
then_keeps a b all s (Ok mid) f split k h = go (f mid) (h mid)
  where
    go : (o : Outcome) → Keeps b mid o → Keeps all s o
    go (Err x) h = tt
    go (Ok after) h = λ n cs e. h n cs (split n cs e).1 ∙ k n cs (split n cs e).0

pub numbered_keeps : (written : ℕ → List ℕ → Bool) (s : Arrays) (t : ℕ) (o : Outcome) → Keeps written s o → Keeps written s (with_turn t o)
numbered_keeps written s t (Ok after) k = k
numbered_keeps written s t (Err x) k = tt

pub in_turn_keeps : (count : ℕ) (written : ℕ → ℕ → List ℕ → Bool) (f : ℕ → Arrays → Outcome) → ((t : ℕ) (s : Arrays) → Keeps (written t) s (f t s))
    → (s : Arrays) → Keeps (λ n cs. any_below count (λ t. written t n cs)) s (in_turn count f s)
in_turn_keeps zero written f h s = λ n cs e. refl
in_turn_keeps (suc count) written f h s =
    then_keeps (λ n cs. any_below count (λ t. written t n cs)) (written count) (λ n cs. any_below (suc count) (λ t. written t n cs)) s (in_turn count f s)
    (λ mid. with_turn count (f count mid))
    (λ n cs e. let p = or_false (written count n cs) (any_below count (λ t. written t n cs)) e in (p.1, p.0))
    (in_turn_keeps count written f h s)
    (λ mid. numbered_keeps (written count) mid count (f count mid) (h count mid))

pub apart_keeps : (count : ℕ) (written : ℕ → ℕ → List ℕ → Bool) (join : ℕ → Arrays → Arrays → Arrays) (f : ℕ → Outcome)
    → ((t : ℕ) (own below : Arrays) (n : ℕ) (cs : List ℕ) → written t n cs ≡ false → join t own below n cs ≡ below n cs) → (s : Arrays)
    → Keeps (λ n cs. any_below count (λ t. written t n cs)) s (apart count join f s)
apart_keeps zero written join f h s = λ n cs e. refl
apart_keeps (suc count) written join f h s =
    then_keeps (λ n cs. any_below count (λ t. written t n cs)) (written count) (λ n cs. any_below (suc count) (λ t. written t n cs)) s (apart count join f s)
    (λ below. and_then (with_turn count (f count)) (λ own. Ok (join count own below)))
    (λ n cs e. let p = or_false (written count n cs) (any_below count (λ t. written t n cs)) e in (p.1, p.0))
    (apart_keeps count written join f h s)
    (λ below. go below (with_turn count (f count)))
  where
    go : (below : Arrays) (o : Outcome) → Keeps (written count) below (and_then o (λ own. Ok (join count own below)))
    go below (Err x) = tt
    go below (Ok own) = λ n cs e. h count own below n cs e

pub cond_false : {A : Type 0} (b : Bool) (x y : A) → b ≡ false → cond b x y ≡ y
cond_false true x y e = absurd (cc e)
cond_false false x y e = refl

pub cond_true : {A : Type 0} (b : Bool) (x y : A) → b ≡ true → cond b x y ≡ x
cond_true true x y e = refl
cond_true false x y e = absurd (cc e)

pub returned_keeps : (k : ℕ) (args : List Argument) (inner s : Arrays) (n : ℕ) (cs : List ℕ) → list_any (λ a. is_written a.mode && has n cs a) args ≡ false
    → at_return k args inner s n cs ≡ s n cs
returned_keeps k [] inner s n cs e = refl
returned_keeps k (a ∷ args) inner s n cs e =
    let p = or_false (is_written a.mode && has n cs a) (list_any (λ a. is_written a.mode && has n cs a) args) e in
    cond_false (is_written a.mode && has n cs a) (inner k (in_block a.rect cs)) (at_return (suc k) args inner s n cs) p.0
    ∙ returned_keeps (suc k) args inner s n cs p.1

pub gathered_keeps : (r : Reduction) (written : ℕ → List ℕ → Bool) (own below : Arrays) (n : ℕ) (cs : List ℕ) → (nat_eq n r.array || written n cs) ≡ false
    → with_reduced r written own below n cs ≡ below n cs
gathered_keeps r written own below n cs e =
    let p = or_false (nat_eq n r.array) (written n cs) e in
    cond_false (nat_eq n r.array) (red r.op r.elem (below n cs) (own n cs)) (with_writes written own below n cs) p.0
    ∙ cond_false (written n cs) (own n cs) (below n cs) p.1

pub keeps : (w : Work) (s : Arrays) → Keeps (writes w) s (meaning w s)
keeps Nothing s = λ n cs e. refl
keeps (Then a b) s = then_keeps (writes a) (writes b) (writes (Then a b)) s (meaning a s) (meaning b) (λ n cs e. or_false (writes a n cs) (writes b n cs) e)
    (keeps a s) (keeps b)
keeps (Each count w) s = in_turn_keeps count (λ t. writes (w t)) (λ t. meaning (w t)) (λ t. keeps (w t)) s
keeps (AtOnce place count w) s =
    apart_keeps count (λ t. writes (w t)) (λ t. with_writes (writes (w t))) (λ t. meaning (w t) s)
    (λ t own below n cs e. cond_false (writes (w t) n cs) (own n cs) (below n cs) e) s
keeps (Gathers r place count w) s =
    apart_keeps count (λ t n cs. nat_eq n r.array || writes (w t) n cs) (λ t. with_reduced r (writes (w t))) (λ t. meaning (w t) (with_identity r s))
    (λ t. gathered_keeps r (writes (w t))) s
keeps (Call form lower args w) s = go (meaning w (at_entry args s))
  where
    go : (o : Outcome) → Keeps (writes (Call form lower args w)) s (and_then o (λ inner. Ok (at_return 0 args inner s)))
    go (Err x) = tt
    go (Ok inner) = λ n cs e. returned_keeps 0 args inner s n cs e
keeps (Leaf code) s = go (leaf_outcome (code s))
  where
    go : (o : Outcome) → Keeps (λ n cs. true) s o
    go (Err x) = tt
    go (Ok after) = λ n cs e. absurd (cc e)

-- ---- what it depends on

abbrev pub Agree : (ℕ → List ℕ → Type 0) → Arrays → Arrays → Type 0
Agree P s t = (n : ℕ) (cs : List ℕ) → P n cs → s n cs ≡ t n cs

abbrev pub Same : (ℕ → List ℕ → Type 0) → Outcome → Outcome → Type 0
Same P (Ok s) (Ok t) = Agree P s t
Same P (Err x) (Err y) = x ≡ y
Same P (Ok s) (Err y) = ⊥
Same P (Err x) (Ok t) = ⊥

pub same_as_it_is : (P : ℕ → List ℕ → Type 0) (o : Outcome) → Same P o o
same_as_it_is P (Ok s) = λ n cs h. refl
same_as_it_is P (Err x) = refl

pub same_then : (P : ℕ → List ℕ → Type 0) (o q : Outcome) (f g : Arrays → Outcome) → Same P o q → ((s t : Arrays) → Agree P s t → Same P (f s) (g t))
    → Same P (and_then o f) (and_then q g)
same_then P (Ok s) (Ok t) f g e h = h s t e
same_then P (Err x) (Err y) f g e h = e
same_then P (Ok s) (Err y) f g e h = absurd e
same_then P (Err x) (Ok t) f g e h = absurd e

pub same_numbered : (P : ℕ → List ℕ → Type 0) (t : ℕ) (o q : Outcome) → Same P o q → Same P (with_turn t o) (with_turn t q)
same_numbered P t (Ok s) (Ok s') e = e
same_numbered P t (Err x) (Err y) e = ap (λ (z : Trapped). record { path = t ∷ z.path; trap = z.trap }) e
same_numbered P t (Ok s) (Err y) e = absurd e
same_numbered P t (Err x) (Ok s') e = absurd e

pub same_in_turn : (P : ℕ → List ℕ → Type 0) (count : ℕ) (f : ℕ → Arrays → Outcome)
    → ((i : ℕ) → i < count → (s t : Arrays) → Agree P s t → Same P (f i s) (f i t)) → (s t : Arrays) → Agree P s t
    → Same P (in_turn count f s) (in_turn count f t)
same_in_turn P zero f h s t e = e
same_in_turn P (suc count) f h s t e =
    same_then P (in_turn count f s) (in_turn count f t) (λ mid. with_turn count (f count mid)) (λ mid. with_turn count (f count mid))
    (same_in_turn P count f (λ i lt. h i (omega (arith, lt))) s t e) (λ a b e'. same_numbered P count (f count a) (f count b)
    (h count (omega arith) a b e'))

abbrev pub Respects : (ℕ → List ℕ → Type 0) → (Arrays → Arrays → Arrays) → Type 0
Respects P join = (own own' below below' : Arrays) → Agree P own own' → Agree P below below' → Agree P (join own below) (join own' below')

pub same_apart : (P : ℕ → List ℕ → Type 0) (count : ℕ) (join : ℕ → Arrays → Arrays → Arrays) (f g : ℕ → Outcome) → ((i : ℕ) → Respects P (join i))
    → ((i : ℕ) → i < count → Same P (f i) (g i)) → (s t : Arrays) → Agree P s t → Same P (apart count join f s) (apart count join g t)
same_apart P zero join f g r h s t e = e
same_apart P (suc count) join f g r h s t e =
    same_then P (apart count join f s) (apart count join g t) (λ below. and_then (with_turn count (f count)) (λ own. Ok (join count own below)))
    (λ below. and_then (with_turn count (g count)) (λ own. Ok (join count own below)))
    (same_apart P count join f g r (λ i lt. h i (omega (arith, lt))) s t e) (λ a b e'.
    same_then P (with_turn count (f count)) (with_turn count (g count)) (λ own. Ok (join count own a)) (λ own. Ok (join count own b))
    (same_numbered P count (f count) (g count) (h count (omega arith))) (λ own own' o. r count own own' a b o e'))

pub cond_same : {A : Type 0} (b : Bool) (x x' y y' : A) → x ≡ x' → y ≡ y' → cond b x y ≡ cond b x' y'
cond_same true x x' y y' e f = e
cond_same false x x' y y' e f = f

pub taken_respects : (P : ℕ → List ℕ → Type 0) (written : ℕ → List ℕ → Bool) → Respects P (with_writes written)
taken_respects P written own own' below below' o b n cs h = cond_same (written n cs) (own n cs) (own' n cs) (below n cs) (below' n cs) (o n cs h) (b n cs h)

pub red_same : (r : Reduction) (x x' y y' : ℤ) → x ≡ x' → y ≡ y' → red r.op r.elem x y ≡ red r.op r.elem x' y'
red_same r x x' y y' e f = ap (λ z. red r.op r.elem z y) e ∙ ap (red r.op r.elem x') f

pub gathered_respects : (P : ℕ → List ℕ → Type 0) (r : Reduction) (written : ℕ → List ℕ → Bool) → Respects P (with_reduced r written)
gathered_respects P r written own own' below below' o b n cs h =
    cond_same (nat_eq n r.array) (red r.op r.elem (below n cs) (own n cs)) (red r.op r.elem (below' n cs) (own' n cs)) (with_writes written own below n cs)
    (with_writes written own' below' n cs)
    (red_same r (below n cs) (below' n cs) (own n cs) (own' n cs) (b n cs h) (o n cs h)) (taken_respects P written own own' below below' o b n cs h)

pub cleared_same : (P : ℕ → List ℕ → Type 0) (r : Reduction) (s t : Arrays) → Agree P s t → Agree P (with_identity r s) (with_identity r t)
cleared_same P r s t e n cs h = cond_same (nat_eq n r.array) _ _ (s n cs) (t n cs) refl (e n cs h)

-- ---- calls

pub inside_covered : (rect : List Span) (cs : List ℕ) → is_inside (lengths rect) cs ≡ true → covers rect (in_array rect cs) ≡ true
inside_covered [] [] e = refl
inside_covered [] (c ∷ cs) e = absurd (cc e)
inside_covered (s ∷ rect) [] e = absurd (cc e)
inside_covered (s ∷ rect) (c ∷ cs) e =
    let p = and_true (nat_lt c (s.hi - s.lo)) (is_inside (lengths rect) cs) e in
    here s.lo s.hi c (covers rect (in_array rect cs)) p.0 (inside_covered rect cs p.1)
  where
    here : (lo hi c : ℕ) (b : Bool) → nat_lt c (hi - lo) ≡ true → b ≡ true → (nat_le lo (lo + c) && (nat_lt (lo + c) hi && b)) ≡ true
    here lo hi c true e f = grind (arith, nat_tests)
    here lo hi c false e f = absurd (cc f)

pub any_at : (p : Argument → Bool) (args : List Argument) (k : ℕ) (a : Argument) → slice_get args k ≡ Some a → p a ≡ true → list_any p args ≡ true
any_at p [] k a e h = absurd (cc e)
any_at p (x ∷ args) zero a e h = or_left (p x) (list_any p args) (let q : x ≡ a = cc e in ap p q ∙ h)
any_at p (x ∷ args) (suc k) a e h = or_right (p x) (list_any p args) (any_at p args k a e h)

pub same_equal : (n : ℕ) → nat_eq n n ≡ true
same_equal n = grind (arith, nat_tests)

pub has_its : (a : Argument) (cs : List ℕ) → covers a.rect cs ≡ true → has a.array cs a ≡ true
has_its a cs e = ap (λ b. b && covers a.rect cs) (same_equal a.array) ∙ e

-- the values of all arguments depend on their blocks alone
pub entered_same : (args : List Argument) (s t : Arrays) → ((n : ℕ) (cs : List ℕ) → list_any (λ a. true && has n cs a) args ≡ true → s n cs ≡ t n cs)
    → at_entry args s ≡ at_entry args t
entered_same args s t e = fun_ext (λ k. fun_ext (λ cs. value k cs (slice_get args k) refl))
  where
    block : (a : Argument) (cs : List ℕ) (k : ℕ) → slice_get args k ≡ Some a → (b : Bool) → is_inside (lengths a.rect) cs ≡ b
        → cond b (s a.array (in_array a.rect cs)) (pos 0) ≡ cond b (t a.array (in_array a.rect cs)) (pos 0)
    block a cs k at false inside = refl
    block a cs k at true inside = e a.array (in_array a.rect cs) (any_at (λ x. true && has a.array (in_array a.rect cs) x) args k a at
        (has_its a (in_array a.rect cs) (inside_covered a.rect cs inside)))

    value : (k : ℕ) (cs : List ℕ) (o : Option Argument) → slice_get args k ≡ o → param_value o s cs ≡ param_value o t cs
    value k cs None at = refl
    value k cs (Some a) at = cond_same (is_read a.mode) (block_value a s cs) (block_value a t cs) (pos 0) (pos 0)
        (block a cs k at (is_inside (lengths a.rect) cs) refl) refl

pub returned_same : (P : ℕ → List ℕ → Type 0) (k : ℕ) (args : List Argument) (inner s t : Arrays) → Agree P s t
    → Agree P (at_return k args inner s) (at_return k args inner t)
returned_same P k [] inner s t e n cs h = e n cs h
returned_same P k (a ∷ args) inner s t e n cs h =
    cond_same (is_written a.mode && has n cs a) (inner k (in_block a.rect cs)) (inner k (in_block a.rect cs)) (at_return (suc k) args inner s n cs)
    (at_return (suc k) args inner t n cs) refl (returned_same P (suc k) args inner s t e n cs h)

-- ---- the whole

abbrev pub Covered : (ℕ → List ℕ → Type 0) → Work → Type 0
Covered P w = (n : ℕ) (cs : List ℕ) → touches w n cs ≡ true → P n cs

pub depends : (P : ℕ → List ℕ → Type 0) (w : Work) → Covered P w → (s t : Arrays) → Agree P s t → Same P (meaning w s) (meaning w t)
depends P Nothing c s t e = e
depends P (Then a b) c s t e =
    same_then P (meaning a s) (meaning a t) (meaning b) (meaning b) (depends P a (λ n cs h. c n cs (or_left (touches a n cs) (touches b n cs) h)) s t e)
    (depends P b (λ n cs h. c n cs (or_right (touches a n cs) (touches b n cs) h)))
depends P (Each count w) c s t e =
    same_in_turn P count (λ i. meaning (w i)) (λ i lt. depends P (w i) (λ n cs h. c n cs (below_true count (λ j. touches (w j) n cs) i lt h))) s t e
depends P (AtOnce place count w) c s t e =
    same_apart P count (λ i. with_writes (writes (w i))) (λ i. meaning (w i) s) (λ i. meaning (w i) t) (λ i. taken_respects P (writes (w i)))
    (λ i lt. depends P (w i) (λ n cs h. c n cs (below_true count (λ j. touches (w j) n cs) i lt h)) s t e) s t e
depends P (Gathers r place count w) c s t e =
    same_apart P count (λ i. with_reduced r (writes (w i))) (λ i. meaning (w i) (with_identity r s)) (λ i. meaning (w i) (with_identity r t))
    (λ i. gathered_respects P r (writes (w i)))
    (λ i lt. depends P (w i) (λ n cs h. c n cs (below_true count (λ j. nat_eq n r.array || touches (w j) n cs) i lt
    (or_right (nat_eq n r.array) (touches (w i) n cs) h))) (with_identity r s) (with_identity r t) (cleared_same P r s t e)) s t e
depends P (Call form lower args w) c s t e =
    subst (λ (x : Arrays). Same P (and_then (meaning w (at_entry args s)) (λ inner. Ok (at_return 0 args inner s)))
    (and_then (meaning w x) (λ inner. Ok (at_return 0 args inner t))))
    (entered_same args s t (λ n cs h. e n cs (c n cs h))) (go (meaning w (at_entry args s)))
  where
    go : (o : Outcome) → Same P (and_then o (λ inner. Ok (at_return 0 args inner s))) (and_then o (λ inner. Ok (at_return 0 args inner t)))
    go (Ok inner) = returned_same P 0 args inner s t e
    go (Err x) = refl
depends P (Leaf code) c s t e =
    subst (λ (x : Arrays). Same P (leaf_outcome (code s)) (leaf_outcome (code x))) (fun_ext (λ n. fun_ext (λ cs. e n cs (c n cs refl))))
    (same_as_it_is P (leaf_outcome (code s)))
