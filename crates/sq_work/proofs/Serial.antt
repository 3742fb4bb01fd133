-- Maps without a race mean the same with their iterations one after another.
use Rattle.std.proofs.Common.{◌≡◌, ◌⊎◌, ℕ, zero, suc, ◌<◌, ◌≤◌, nat_eq, Bool, true, false, cond, ◌||◌, List, ◌∷◌, Ok, Err, refl, sym, ap, ◌∙◌, subst, arith, inl, inr}
use mathlib.Core.Path.{fun_ext}
use Rattle.sq_num.specs.Reductions.{red, identity}
use Rattle.sq_leaf.specs.Source.{Arrays}
use Rattle.sq_work.specs.declared.reduction.Reduction.{Reduction}
use Rattle.sq_work.specs.Work.{Work, Nothing, Then, Each, AtOnce, Gathers, Call, Leaf}
use Rattle.sq_work.specs.Meaning.{Trapped, Outcome, and_then, with_turn, at_entry, at_return, any_below, writes, touches, in_turn, apart, with_writes, with_identity, with_reduced, meaning}
use Rattle.sq_work.specs.InTurn.{AreApart, none_aside, its_array, with_combined, gathering, serial, ChangesWritten, EndAlike, DependsOnTouched, RaceFreeIsSerial}
use Rattle.sq_work.proofs.Frames.{Keeps, Same, or_false, none_below, cond_false, written_touched, in_turn_keeps, keeps, depends, red_same}

-- ---- iterations that leave apart what others write

-- one more iteration, from the start or from where the ones before it ended
pub joined_is_next : (k : ℕ) (w : Work) (before : Arrays) (o q : Outcome) → Same (λ n cs. touches w n cs ≡ true) o q → Keeps (writes w) before q
    → and_then (with_turn k o) (λ own. Ok (with_writes (writes w) own before)) ≡ with_turn k q
joined_is_next k w before (Err x) (Err y) e h = ap (λ (z : Trapped). Err (record { path = k ∷ z.path; trap = z.trap })) e
joined_is_next k w before (Ok own) (Err y) e h = absurd e
joined_is_next k w before (Err x) (Ok own) e h = absurd e
joined_is_next k w before (Ok own) (Ok its) e h = ap Ok (fun_ext (λ n. fun_ext (λ cs. value n cs (writes w n cs) refl)))
  where
    value : (n : ℕ) (cs : List ℕ) (b : Bool) → writes w n cs ≡ b → cond b (own n cs) (before n cs) ≡ its n cs
    value n cs true b = e n cs (written_touched w n cs b)
    value n cs false b = sym (h n cs b)

pub kept_for_next : (count : ℕ) (w : ℕ → Work) (aside : ℕ → Bool) → AreApart count w aside → (k : ℕ) → k < count → (n : ℕ) (cs : List ℕ) → aside n ≡ false
    → touches (w k) n cs ≡ true → any_below k (λ t. writes (w t) n cs) ≡ false
kept_for_next count w aside free k lt n cs out touched = none_below k (λ t. writes (w t) n cs) (λ t less. go t less (writes (w t) n cs) refl)
  where
    go : (t : ℕ) → t < k → (b : Bool) → writes (w t) n cs ≡ b → b ≡ false
    go t less false e = refl
    go t less true e = absurd (free.at t k n cs (omega (arith, less, lt)) lt (λ same. omega (arith, less, same)) out e touched)

pub at_once_next : (count : ℕ) (w : ℕ → Work) → AreApart count w none_aside → (k : ℕ) → k < count → (s : Arrays) (o : Outcome)
    → Keeps (λ n cs. any_below k (λ t. writes (w t) n cs)) s o
    → and_then o (λ below. and_then (with_turn k (meaning (w k) s)) (λ own. Ok (with_writes (writes (w k)) own below))) ≡ and_then o
    (λ before. with_turn k (meaning (w k) before))
at_once_next count w free k lt s (Err x) kept = refl
at_once_next count w free k lt s (Ok before) kept =
    joined_is_next k (w k) before (meaning (w k) s) (meaning (w k) before)
    (depends (λ n cs. touches (w k) n cs ≡ true) (w k) (λ n cs h. h) s before (λ n cs h. sym
    (kept n cs (kept_for_next count w none_aside free k lt n cs refl h))))
    (keeps (w k) before)

pub at_once_is_in_turn : (count : ℕ) (w : ℕ → Work) → AreApart count w none_aside → (k : ℕ) → k ≤ count → (s : Arrays)
    → apart k (λ t. with_writes (writes (w t))) (λ t. meaning (w t) s) s ≡ in_turn k (λ t. meaning (w t)) s
at_once_is_in_turn count w free zero le s = refl
at_once_is_in_turn count w free (suc k) le s =
    ap (λ o. and_then o (λ below. and_then (with_turn k (meaning (w k) s)) (λ own. Ok (with_writes (writes (w k)) own below))))
    (at_once_is_in_turn count w free k (omega (arith, le)) s)
    ∙ at_once_next count w free k (omega (arith, le)) s (in_turn k (λ t. meaning (w t)) s)
    (in_turn_keeps k (λ t. writes (w t)) (λ t. meaning (w t)) (λ t. keeps (w t)) s)

-- ---- reductions

abbrev pub Seen : Reduction → Work → ℕ → List ℕ → Type 0
Seen r w n cs = (touches w n cs ≡ true) ⊎ (nat_eq n r.array ≡ true)

pub gathered_is_next : (k : ℕ) (r : Reduction) (w : Work) (before : Arrays) (o q : Outcome) → Same (Seen r w) o q → Keeps (writes w) (with_identity r before) q
    → and_then (with_turn k o) (λ own. Ok (with_reduced r (writes w) own before)) ≡ with_turn k (and_then q (λ own. Ok (with_combined r before own)))
gathered_is_next k r w before (Err x) (Err y) e h = ap (λ (z : Trapped). Err (record { path = k ∷ z.path; trap = z.trap })) e
gathered_is_next k r w before (Ok own) (Err y) e h = absurd e
gathered_is_next k r w before (Err x) (Ok own) e h = absurd e
gathered_is_next k r w before (Ok own) (Ok its) e h = ap Ok (fun_ext (λ n. fun_ext (λ cs. value n cs (nat_eq n r.array) refl (writes w n cs) refl)))
  where
    value : (n : ℕ) (cs : List ℕ) (a : Bool) → nat_eq n r.array ≡ a → (b : Bool) → writes w n cs ≡ b
        → cond a (red r.op r.elem (before n cs) (own n cs)) (cond b (own n cs) (before n cs)) ≡ cond a (red r.op r.elem (before n cs) (its n cs)) (its n cs)
    value n cs true a b c = red_same r (before n cs) (before n cs) (own n cs) (its n cs) refl (e n cs (inr a))
    value n cs false a true b = e n cs (inl (written_touched w n cs b))
    value n cs false a false b = sym (h n cs b ∙ cond_false (nat_eq n r.array) (identity r.op r.elem) (before n cs) a)

-- what an iteration of a reduction keeps
pub gathering_keeps : (r : Reduction) (w : Work) (s : Arrays) → Keeps (λ n cs. nat_eq n r.array || writes w n cs) s (gathering r (meaning w) s)
gathering_keeps r w s = go (meaning w (with_identity r s)) (keeps w (with_identity r s))
  where
    go : (o : Outcome) → Keeps (writes w) (with_identity r s) o → Keeps (λ n cs. nat_eq n r.array || writes w n cs) s (and_then o (λ own. Ok (with_combined r s own)))
    go (Err x) h = tt
    go (Ok own) h = λ n cs e.
        let p = or_false (nat_eq n r.array) (writes w n cs) e in
        cond_false (nat_eq n r.array) (red r.op r.elem (s n cs) (own n cs)) (own n cs) p.0
        ∙ (h n cs p.1 ∙ cond_false (nat_eq n r.array) (identity r.op r.elem) (s n cs) p.0)

pub gathers_next : (count : ℕ) (r : Reduction) (w : ℕ → Work) → AreApart count w (its_array r) → (k : ℕ) → k < count → (s : Arrays) (o : Outcome)
    → Keeps (λ n cs. any_below k (λ t. nat_eq n r.array || writes (w t) n cs)) s o
    → and_then o (λ below. and_then (with_turn k (meaning (w k) (with_identity r s))) (λ own. Ok (with_reduced r (writes (w k)) own below))) ≡ and_then o
    (λ before. with_turn k (gathering r (meaning (w k)) before))
gathers_next count r w free k lt s (Err x) kept = refl
gathers_next count r w free k lt s (Ok before) kept =
    gathered_is_next k r (w k) before (meaning (w k) (with_identity r s)) (meaning (w k) (with_identity r before))
    (depends (Seen r (w k)) (w k) (λ n cs h. inl h) (with_identity r s) (with_identity r before) (λ n cs h. agree n cs (nat_eq n r.array) refl h))
    (keeps (w k) (with_identity r before))
  where
    out : (n : ℕ) (cs : List ℕ) → nat_eq n r.array ≡ false → any_below k (λ t. writes (w t) n cs) ≡ false
        → any_below k (λ t. nat_eq n r.array || writes (w t) n cs) ≡ false
    out n cs a e = subst (λ (b : Bool). any_below k (λ t. b || writes (w t) n cs) ≡ false) (sym a) e

    agree : (n : ℕ) (cs : List ℕ) (a : Bool) → nat_eq n r.array ≡ a → Seen r (w k) n cs
        → cond a (identity r.op r.elem) (s n cs) ≡ cond a (identity r.op r.elem) (before n cs)
    agree n cs true a h = refl
    agree n cs false a (inr same) = absurd (let z : true ≡ false = sym same ∙ a in cc z)
    agree n cs false a (inl touched) = sym (kept n cs (out n cs a (kept_for_next count w (its_array r) free k lt n cs a touched)))

pub gathers_is_in_turn : (count : ℕ) (r : Reduction) (w : ℕ → Work) → AreApart count w (its_array r) → (k : ℕ) → k ≤ count → (s : Arrays)
    → apart k (λ t. with_reduced r (writes (w t))) (λ t. meaning (w t) (with_identity r s)) s ≡ in_turn k (λ t. gathering r (meaning (w t))) s
gathers_is_in_turn count r w free zero le s = refl
gathers_is_in_turn count r w free (suc k) le s =
    ap (λ o. and_then o (λ below. and_then (with_turn k (meaning (w k) (with_identity r s))) (λ own. Ok (with_reduced r (writes (w k)) own below))))
    (gathers_is_in_turn count r w free k (omega (arith, le)) s)
    ∙ gathers_next count r w free k (omega (arith, le)) s (in_turn k (λ t. gathering r (meaning (w t))) s)
    (in_turn_keeps k (λ t n cs. nat_eq n r.array || writes (w t) n cs) (λ t. gathering r (meaning (w t))) (λ t. gathering_keeps r (w t)) s)

-- ---- the whole

pub in_turn_same : (count : ℕ) (f g : ℕ → Arrays → Outcome) → ((t : ℕ) → t < count → f t ≡ g t) → (s : Arrays) → in_turn count f s ≡ in_turn count g s
in_turn_same zero f g h s = refl
in_turn_same (suc count) f g h s =
    ap (λ o. and_then o (λ before. with_turn count (f count before))) (in_turn_same count f g (λ t lt. h t (omega (arith, lt))) s)
    ∙ ap (λ (x : Arrays → Outcome). and_then (in_turn count g s) (λ before. with_turn count (x before))) (h count (omega arith))

pub race_free_is_serial : RaceFreeIsSerial
race_free_is_serial Nothing free s = refl
race_free_is_serial (Then a b) free s = ap (λ o. and_then o (meaning b)) (race_free_is_serial a free.0 s)
    ∙ ap (λ (x : Arrays → Outcome). and_then (serial a s) x) (fun_ext (race_free_is_serial b free.1))
race_free_is_serial (Each count w) free s = in_turn_same count (λ t. meaning (w t)) (λ t. serial (w t))
    (λ t lt. fun_ext (race_free_is_serial (w t) (free t lt))) s
race_free_is_serial (AtOnce place count w) free s =
    at_once_is_in_turn count w free.0 count (omega arith) s ∙ in_turn_same count (λ t. meaning (w t)) (λ t. serial (w t))
    (λ t lt. fun_ext (race_free_is_serial (w t) (free.1 t lt))) s
race_free_is_serial (Gathers r place count w) free s =
    gathers_is_in_turn count r w free.0 count (omega arith) s
    ∙ in_turn_same count (λ t. gathering r (meaning (w t))) (λ t. gathering r (serial (w t)))
    (λ t lt. ap (gathering r) (fun_ext (race_free_is_serial (w t) (free.1 t lt)))) s
race_free_is_serial (Call form lower args w) free s = ap (λ o. and_then o (λ inner. Ok (at_return 0 args inner s)))
    (race_free_is_serial w free (at_entry args s))
race_free_is_serial (Leaf code) free s = refl

pub changes_written : ChangesWritten
changes_written w s after ends n cs e = go (meaning w s) (keeps w s) ends
  where
    go : (o : Outcome) → Keeps (writes w) s o → o ≡ Ok after → after n cs ≡ s n cs
    go (Err x) h same = absurd (cc same)
    go (Ok its) h same = let q : its ≡ after = cc same in ap (λ (a : Arrays). a n cs) (sym q) ∙ h n cs e

pub depends_on_touched : DependsOnTouched
depends_on_touched w s t agree = go (meaning w s) (meaning w t) (depends (λ n cs. touches w n cs ≡ true) w (λ n cs h. h) s t agree)
  where
    go : (o q : Outcome) → Same (λ n cs. touches w n cs ≡ true) o q → EndAlike w o q
    go (Ok a) (Ok b) h = h
    go (Err x) (Err y) h = h
    go (Ok a) (Err y) h = h
    go (Err x) (Ok b) h = h
