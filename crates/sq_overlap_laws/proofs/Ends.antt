-- Each form has one end, and a node one need, whichever loops are taken.
use Rattle.std.proofs.Common.{◌≡◌, ◌⊎◌, inl, inr, ℕ, zero, suc, ◌+◌, ◌<◌, ◌≤◌, ◌==◌, max, Bool, true, false, List, []}
use Rattle.std.proofs.Common.{◌∷◌, length, get_or, slice_get, Option, Some, None, refl, sym, ap, subst, ◌∙◌, arith}
use Rattle.std.proofs.Common.{if◌then◌else◌}
use Rattle.std.specs.Prelude.{nat_le}
use Rattle.std.proofs.lemmas.Bool.{leb-true, leb-false}
use Rattle.std.proofs.lemmas.Bool.Decides.{nat_tests}
use Rattle.std.proofs.lemmas.Option.{slice_get_within}
use Rattle.sq_machfile.specs.Machines.{WithinLimits}
use Rattle.sq_forms.specs.declared.form.Caller.{Caller}
use Rattle.sq_forms.specs.declared.form.Form.{Form}
use Rattle.sq_spec.proofs.FormLaws.AnswerHold.{forms_callers_first}
use Rattle.sq_spec.specs.declared.resolved.Resolved.{Resolved}
use Rattle.sq_plan_good.specs.DraftLaws.Choosing.{Walked}
use Rattle.sq_plan_good.proofs.DraftLaws.Forms.{resolving}
use Rattle.sq_pass_laws.specs.Pipe.Runs.{is_marked, marks_of}
use Rattle.sq_overlap_laws.specs.Marks.{Runs}
use Rattle.sq_overlap_laws.specs.Taken.{form_size, EndsAt, entry, alone, behind, IsEnd, NodeNeeds, TakenNeedIsOne}
use Rattle.sq_overlap_laws.proofs.Exact.{marks_are_runs}

some_same : {A : Type 0} (x y : A) → Some x ≡ Some y → x ≡ y
some_same x y h = cc h

same_number : (m n : ℕ) → (m == n) ≡ true → m ≡ n
same_number m n h = grind (arith, nat_tests, h)

other_number : (m n : ℕ) → (m == n) ≡ false → m ≡ n → ⊥
other_number m n h e = absurd (grind (arith, nat_tests, e))

at_index : {A : Type 0} (xs : List A) (k : ℕ) → k < length xs → (x : A) × (slice_get xs k ≡ Some x)
at_index [] k h = absurd (omega (arith, h))
at_index (x ∷ xs) zero h = (x, refl)
at_index (x ∷ xs) (suc k) h = at_index xs k (omega (arith, h))

greater : (m n : ℕ) → (max m n ≡ m) ⊎ (max m n ≡ n)
greater m n = by (nat_le n m) refl
  where
    by : (v : Bool) → nat_le n m ≡ v → (max m n ≡ m) ⊎ (max m n ≡ n)
    by true e = inl (let z = leb-true n m e in omega (arith, z))
    by false e = inr (let z = leb-false n m e in omega (arith, z))

-- ---- a form has one end

module _ (r : Resolved) (taken : List Bool) where
  abbrev Ends : ℕ → ℕ → Type 0
  Ends = EndsAt r taken

  abbrev bytes : ℕ → Form → ℕ
  bytes = form_size r taken

  same_form : (k : ℕ) (f g : Form) → slice_get r.forms k ≡ Some f → slice_get r.forms k ≡ Some g → f ≡ g
  same_form k f g a b = some_same f g (sym a ∙ b)

  called_no : (k : ℕ) (f g : Form) (c : Caller) → slice_get r.forms k ≡ Some f → slice_get r.forms k ≡ Some g
      → f.caller ≡ None → g.caller ≡ Some c → ⊥
  called_no k f g c a b none some =
      let z : None ≡ Some c = sym none ∙ (ap (λ (x : Form). x.caller) (same_form k f g a b) ∙ some) in absurd (cc z)

  same_caller : (k : ℕ) (f g : Form) (c d : Caller) → slice_get r.forms k ≡ Some f → slice_get r.forms k ≡ Some g
      → f.caller ≡ Some c → g.caller ≡ Some d → c ≡ d
  same_caller k f g c d a b p q =
      some_same c d (sym p ∙ (ap (λ (x : Form). x.caller) (same_form k f g a b) ∙ q))

  -- the callers' levels
  same_levels : (k : ℕ) (f g from up : Form) (c d : Caller) → slice_get r.forms k ≡ Some f → slice_get r.forms k ≡ Some g
      → f.caller ≡ Some c → g.caller ≡ Some d → slice_get r.forms c.form ≡ Some from → slice_get r.forms d.form ≡ Some up
      → up.level ≡ g.level → from.level ≡ f.level
  same_levels k f g from up c d a b p q x y level =
      let z : from ≡ up = some_same from up (sym x ∙ (ap (λ (e : Caller). slice_get r.forms e.form) (same_caller k f g c d a b p q) ∙ y)) in
      ap (λ (e : Form). e.level) z ∙ level ∙ sym (ap (λ (e : Form). e.level) (same_form k f g a b))

  pub ends_one : {k m n : ℕ} → EndsAt r taken k m → EndsAt r taken k n → m ≡ n
  ends_one {k} (entry f a none) (entry g b nothing) = ap (bytes k) (same_form k f g a b)
  ends_one {k} (entry f a none) (alone g up d b q y away) = absurd (called_no k f g d a b none q)
  ends_one {k} (entry f a none) (behind g up d b q y level e) = absurd (called_no k f g d a b none q)
  ends_one {k} (alone f from c a p x away) (entry g b nothing) = absurd (called_no k g f c b a nothing p)
  ends_one {k} (alone f from c a p x away) (alone g up d b q y far) = ap (bytes k) (same_form k f g a b)
  ends_one {k} (alone f from c a p x away) (behind g up d b q y level e) =
      absurd (away (same_levels k f g from up c d a b p q x y level))
  ends_one {k} (behind f from c a p x level e) (entry g b nothing) = absurd (called_no k g f c b a nothing p)
  ends_one {k} (behind f from c a p x level e) (alone g up d b q y away) =
      absurd (away (same_levels k g f up from d c b a q p y x level))
  ends_one {k} (behind {end = m} f from c a p x level e) (behind {end = n} g up d b q y near h) =
      let callers = ap (λ (z : Caller). z.form) (same_caller k f g c d a b p q) in
      let first : m ≡ n = ends_one (subst (λ i. EndsAt r taken i m) callers e) h in
      let own = ap (bytes k) (same_form k f g a b) in
      omega (arith, first, own)

  pub form_ends : {k n : ℕ} → EndsAt r taken k n → (f : Form) × (slice_get r.forms k ≡ Some f)
  form_ends (entry f a none) = (f, a)
  form_ends (alone f from c a p x away) = (f, a)
  form_ends (behind f from c a p x level e) = (f, a)

  -- behind its caller, where that ends there
  pub ends_called : (k n : ℕ) (f from : Form) (c : Caller) → slice_get r.forms k ≡ Some f → f.caller ≡ Some c
      → slice_get r.forms c.form ≡ Some from → EndsAt r taken c.form n
      → EndsAt r taken k ((if from.level == f.level then n else 0) + form_size r taken k f)
  ends_called k n f from c a p x e = by (from.level == f.level) refl
    where
      by : (v : Bool) → (from.level == f.level) ≡ v → Ends k ((if v then n else 0) + bytes k f)
      by true h = behind f from c a p x (same_number from.level f.level h) e
      by false h =
          let z : bytes k f ≡ 0 + bytes k f = omega arith in
          subst (Ends k) z (alone f from c a p x (λ s. other_number from.level f.level h s))

  pub ends_first : (k : ℕ) (f : Form) → slice_get r.forms k ≡ Some f → f.caller ≡ None
      → EndsAt r taken k (0 + form_size r taken k f)
  ends_first k f a none = let z : bytes k f ≡ 0 + bytes k f = omega arith in subst (Ends k) z (entry f a none)

  -- ---- and has it

  module _ (w : Walked r) where
    end_below : (n k : ℕ) (f : Form) → k < n → slice_get r.forms k ≡ Some f → (m : ℕ) × Ends k m
    end_below zero k f less a = absurd (omega (arith, less))
    end_below (suc n) k f less a = by f.caller refl (λ i g l h. end_below n i g l h)
      where
        by : (o : Option Caller) → f.caller ≡ o
            → ((i : ℕ) (g : Form) → i < n → slice_get r.forms i ≡ Some g → (m : ℕ) × Ends i m) → (m : ℕ) × Ends k m
        by None none before = (0 + bytes k f, ends_first k f a none)
        by (Some c) p before =
            let low = forms_callers_first r.typed.now.tasks r.mapping.now (resolving r) w.through k f c a p in
            let long = slice_get_within r.forms k f a in
            let from = at_index r.forms c.form (omega (arith, low, long)) in
            let up = before c.form from.0 (omega (arith, low, less)) from.1 in
            ((if from.0.level == f.level then up.0 else 0) + bytes k f, ends_called k up.0 f from.0 c a p from.1 up.1)

    pub end_there : (k : ℕ) (f : Form) → slice_get r.forms k ≡ Some f → (m : ℕ) × EndsAt r taken k m
    end_there k f a = end_below (suc k) k f (omega arith) a

    -- ---- a node's need

    module _ (limits : WithinLimits r.machine.now) (node : ℕ) where
      -- the greatest end of the first n forms that run at the node
      record UpTo (n need : ℕ) : Type 0 where
        greatest : (k end : ℕ) → k < n → Runs r k node → EndsAt r taken k end → end ≤ need
        is : (need ≡ 0) ⊎ IsEnd r taken node need

      last_or : (k n : ℕ) → k < suc n → (k < n) ⊎ (k ≡ n)
      last_or zero zero h = inr refl
      last_or zero (suc n) h = inl (omega arith)
      last_or (suc k) zero h = absurd (omega (arith, h))
      last_or (suc k) (suc n) h = next (last_or k n (omega (arith, h)))
        where
          next : (k < n) ⊎ (k ≡ n) → (suc k < suc n) ⊎ (suc k ≡ suc n)
          next (inl l) = inl (omega (arith, l))
          next (inr e) = inr (ap suc e)

      -- one that doesn't run there, or isn't there
      passed : (n need : ℕ) → UpTo n need → ((end : ℕ) → Runs r n node → EndsAt r taken n end → ⊥) → UpTo (suc n) need
      passed n need u never = record { greatest = λ k end less runs ends. by k end runs ends (last_or k n less); is = u.is }
        where
          by : (k end : ℕ) → Runs r k node → EndsAt r taken k end → (k < n) ⊎ (k ≡ n) → end ≤ need
          by k end runs ends (inl l) = u.greatest k end l runs ends
          by k end runs ends (inr e) =
              absurd (never end (subst (λ i. Runs r i node) e runs) (subst (λ i. EndsAt r taken i end) e ends))

      -- one that does
      counted : (n need own : ℕ) → UpTo n need → Runs r n node → EndsAt r taken n own → UpTo (suc n) (max need own)
      counted n need own u runs ends = record {
        greatest = λ k end less at its. by k end at its (last_or k n less);
        is = which (greater need own) u.is;
      }
        where
          by : (k end : ℕ) → Runs r k node → EndsAt r taken k end → (k < n) ⊎ (k ≡ n) → end ≤ max need own
          by k end at its (inl l) = let z = u.greatest k end l at its in omega (arith, z)
          by k end at its (inr e) =
              let z : end ≡ own = ends_one (subst (λ i. EndsAt r taken i end) e its) ends in omega (arith, z)

          which : (max need own ≡ need) ⊎ (max need own ≡ own) → (need ≡ 0) ⊎ IsEnd r taken node need
              → (max need own ≡ 0) ⊎ IsEnd r taken node (max need own)
          which (inl e) (inl z) = inl (e ∙ z)
          which (inl e) (inr i) = inr (subst (IsEnd r taken node) (sym e) i)
          which (inr e) i =
              inr (subst (IsEnd r taken node) (sym e) (record { form = n; runs = runs; ends = ends }))

      up_to : (n : ℕ) → (need : ℕ) × UpTo n need
      up_to zero = (0, record { greatest = λ k end less runs ends. absurd (omega (arith, less)); is = inl refl })
      up_to (suc n) = by (up_to n) (slice_get r.forms n) refl
        where
          marked : (u : (need : ℕ) × UpTo n need) (f : Form) → slice_get r.forms n ≡ Some f → (v : Bool)
              → is_marked (get_or (marks_of r) n []) node ≡ v → (need : ℕ) × UpTo (suc n) need
          marked u f a true h =
              let own = end_there n f a in
              (max u.0 own.0, counted n u.0 own.0 u.1 ((marks_are_runs r w limits n node).there h) own.1)
          marked u f a false h = (
            u.0,
            passed n u.0 u.1 (λ end runs ends. absurd (let z : true ≡ false
                = sym ((marks_are_runs r w limits n node).back runs) ∙ h in cc z)),
          )

          by : (u : (need : ℕ) × UpTo n need) (o : Option Form) → slice_get r.forms n ≡ o
              → (need : ℕ) × UpTo (suc n) need
          by u None e = (
            u.0,
            passed n u.0 u.1 (λ end runs ends. absurd (let g = form_ends ends in
                let z : None ≡ Some g.0 = sym e ∙ g.1 in cc z)),
          )
          by u (Some f) e = marked u f e (is_marked (get_or (marks_of r) n []) node) refl

      pub need_there : (need : ℕ) × NodeNeeds r taken node need
      need_there =
          let u = up_to (length r.forms) in (
            u.0,
            record {
              greatest = λ end i. let g = form_ends i.ends in
                  u.1.greatest i.form end (slice_get_within r.forms i.form g.0 g.1) i.runs i.ends;
              is = u.1.is;
            },
          )

-- ---- a need is one

no_more : (r : Resolved) (taken : List Bool) (node m n : ℕ) → (m ≡ 0) ⊎ IsEnd r taken node m → NodeNeeds r taken node n
    → m ≤ n
no_more r taken node m n (inl z) b = omega (arith, z)
no_more r taken node m n (inr i) b = b.greatest m i

pub taken_need_is_one : TakenNeedIsOne
taken_need_is_one r taken node m n a b =
    let low = no_more r taken node m n a.is b in
    let high = no_more r taken node n m b.is a in
    omega (arith, low, high)
