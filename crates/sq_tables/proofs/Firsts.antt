-- The arm of a row is the first arm of its form, where that calls with the same arrays.
use Rattle.std.proofs.Common.{◌≡◌, ℕ, zero, suc, ◌==◌, nat_eq, Bool, true, false, cond, ◌&&◌, ◌||◌, List, [], ◌∷◌, ◌++◌}
use Rattle.std.proofs.Common.{length}
use Rattle.std.proofs.Common.{slice_get, Option, Some, None, is_some, Bor, refl, sym, ap, subst, ◌∙◌, arith}
use Rattle.std.proofs.Common.{if◌then◌else◌}
use Rattle.std.proofs.lemmas.Bool.Decides.{nat_tests}
use Rattle.std.specs.List.{list_any}
use Rattle.std.specs.Option.{option_copied}
use Rattle.sq_spec.specs.declared.statement.CallInstance.{CallInstance}
use Rattle.sq_term.specs.Terms.{same_heads, is_same_arm, arm_number}
use Rattle.sq_tables.specs.Cases.{one_on, first_of_form, find_arm, AreFirsts}

any_none : (qs : List CallInstance) (r : CallInstance) → first_of_form qs r.form ≡ None → list_any (is_same_arm r) qs
    ≡ false
any_none [] r h = refl
any_none (q ∷ qs) r h = go (r.form == q.form) refl (first_of_form qs r.form) h (any_none qs r)
  where
    go : (b : Bool) → (r.form == q.form) ≡ b → (o : Option ℕ) → (if b then Some 0 else one_on o) ≡ None
        → (o ≡ None → list_any (is_same_arm r) qs ≡ false) → list_any (is_same_arm r) (q ∷ qs) ≡ false
    go true e o h f = cc
    go false e None h f = ap (λ (b : Bool). (b && same_heads r.args q.args) || list_any (is_same_arm r) qs) e ∙ f refl
    go false e (Some i) h f = cc

-- the row has an arm, which is the i-th one
record IsAt (qs : List CallInstance) (r : CallInstance) (i : ℕ) : Type 0 where
  any : list_any (is_same_arm r) qs ≡ true
  number : arm_number qs r ≡ i

here : (p : CallInstance) (qs : List CallInstance) (r : CallInstance) → is_same_arm r p ≡ true → IsAt (p ∷ qs) r 0
here p qs r e = record {
  any = ap (λ (b : Bool). b || list_any (is_same_arm r) qs) e;
  number = ap (λ (b : Bool). if b then 0 else suc (arm_number qs r)) e;
}

deeper : (p : CallInstance) (qs : List CallInstance) (r : CallInstance) (i : ℕ) → (r.form == p.form) ≡ false
    → IsAt qs r i → IsAt (p ∷ qs) r (suc i)
deeper p qs r i e k =
    let other : is_same_arm r p ≡ false = ap (λ (b : Bool). b && same_heads r.args p.args) e in
    record {
      any = ap (λ (b : Bool). b || list_any (is_same_arm r) qs) other ∙ k.any;
      number = ap (λ (b : Bool). if b then 0 else suc (arm_number qs r)) other ∙ ap suc k.number;
    }

is_at : (qs : List CallInstance) (r : CallInstance) (i : ℕ) (q : CallInstance)
    → first_of_form qs r.form ≡ Some i → slice_get qs i ≡ Some q → is_same_arm r q ≡ true → IsAt qs r i
is_at [] r i q h s e = cc
is_at (p ∷ qs) r i q h s e = go (r.form == p.form) refl i s (first_of_form qs r.form) h (λ j f t. is_at qs r j q f t e)
  where
    go : (b : Bool) → (r.form == p.form) ≡ b → (i : ℕ) → slice_get (p ∷ qs) i ≡ Some q
        → (o : Option ℕ) → (if b then Some 0 else one_on o) ≡ Some i
        → ((j : ℕ) → o ≡ Some j → slice_get qs j ≡ Some q → IsAt qs r j) → IsAt (p ∷ qs) r i
    go true f zero s o h rest =
        let is : q ≡ p = cc in
        here p qs r (subst (λ (x : CallInstance). is_same_arm r x ≡ true) is e)
    go true f (suc i) s o h rest = cc
    go false f i s None h rest = cc
    go false f zero s (Some j) h rest = cc
    go false f (suc i) s (Some j) h rest = let is : Some j ≡ Some i = cc in deeper p qs r i f (rest i is s)

-- a form that no arm has
pub no_arm : (qs : List CallInstance) (look : ℕ → Option ℕ) (r : CallInstance) → AreFirsts qs look → look r.form ≡ None
    → None ≡ find_arm qs r
no_arm qs look r firsts h =
    sym (ap (λ (b : Bool). if b then Some (arm_number qs r) else None) (any_none qs r (sym (firsts.each r.form) ∙ h)))

pub the_arm : (qs : List CallInstance) (look : ℕ → Option ℕ) (r : CallInstance) (i : ℕ) (q : CallInstance)
    → AreFirsts qs look → look r.form ≡ Some i → slice_get qs i ≡ Some q → is_same_arm r q ≡ true
    → Some i ≡ find_arm qs r
the_arm qs look r i q firsts h s e =
    let k = is_at qs r i q (sym (firsts.each r.form) ∙ h) s e in
    sym (ap (λ (b : Bool). if b then Some (arm_number qs r) else None) k.any ∙ ap (λ (n : ℕ). Some n) k.number)

-- a row that has an arm
pub found_number : (qs : List CallInstance) (r : CallInstance) (i : ℕ) → Some i ≡ find_arm qs r → i ≡ arm_number qs r
found_number qs r i h = go (list_any (is_same_arm r) qs) h
  where
    go : (b : Bool) → Some i ≡ (if b then Some (arm_number qs r) else None) → i ≡ arm_number qs r
    go true h = cc
    go false h = cc

pub found_any : (qs : List CallInstance) (r : CallInstance) (i : ℕ) → Some i ≡ find_arm qs r
    → list_any (is_same_arm r) qs ≡ true
found_any qs r i h = go (list_any (is_same_arm r) qs) h
  where
    go : (b : Bool) → Some i ≡ (if b then Some (arm_number qs r) else None) → b ≡ true
    go true h = refl
    go false h = cc

pub found_none : (qs : List CallInstance) (r : CallInstance) → None ≡ find_arm qs r → list_any (is_same_arm r) qs
    ≡ false
found_none qs r h = go (list_any (is_same_arm r) qs) h
  where
    go : (b : Bool) → None ≡ (if b then Some (arm_number qs r) else None) → b ≡ false
    go true h = cc
    go false h = refl

-- ---- one arm more

abbrev or_last : Option ℕ → Bool → (n : ℕ) → Option ℕ
or_last None true n = Some n
or_last None false n = None
or_last (Some i) b n = Some i

first_pushed : (qs : List CallInstance) (r : CallInstance) (f : ℕ)
    → first_of_form (qs ++ r ∷ []) f ≡ or_last (first_of_form qs f) (f == r.form) (length qs)
first_pushed [] r f = go (f == r.form)
  where
    go : (b : Bool) → (if b then Some 0 else None) ≡ or_last None b 0
    go true = refl
    go false = refl
first_pushed (q ∷ qs) r f = go (f == q.form) (first_pushed qs r f)
  where
    after : (o : Option ℕ) (b : Bool) (n : ℕ) → one_on (or_last o b n) ≡ or_last (one_on o) b (suc n)
    after None true n = refl
    after None false n = refl
    after (Some i) b n = refl

    go : (b : Bool) → first_of_form (qs ++ r ∷ []) f ≡ or_last (first_of_form qs f) (f == r.form) (length qs)
        → (if b then Some 0 else one_on (first_of_form (qs ++ r ∷ []) f))
        ≡ or_last (if b then Some 0 else one_on (first_of_form qs f)) (f == r.form) (suc (length qs))
    go true h = refl
    go false h = ap one_on h ∙ after (first_of_form qs f) (f == r.form) (length qs)

-- of a form that has an arm
pub one_more_of : (qs : List CallInstance) (look : ℕ → Option ℕ) (i : ℕ) (r : CallInstance) → AreFirsts qs look
    → look r.form ≡ Some i
    → AreFirsts (qs ++ r ∷ []) look
one_more_of qs look i r firsts h
    = record {
      each = λ f. firsts.each f ∙ go f (f == r.form) refl (first_of_form qs f) refl
          ∙ sym (first_pushed qs r f);
    }
  where
    go : (f : ℕ) (b : Bool) → (f == r.form) ≡ b → (o : Option ℕ) → first_of_form qs f ≡ o
        → first_of_form qs f ≡ or_last (first_of_form qs f) (f == r.form) (length qs)
    go f true e o k =
        let is : f ≡ r.form = grind (arith, nat_tests, e) in
        let there : first_of_form qs f ≡ Some i = sym (firsts.each f) ∙ ap look is ∙ h in
        there ∙ sym (ap (λ (o : Option ℕ). or_last o (f == r.form) (length qs)) there)
    go f false e None k = k ∙ sym (ap (λ (b : Bool). or_last None b (length qs)) e)
        ∙ sym (ap (λ (o : Option ℕ). or_last o (f == r.form) (length qs)) k)
    go f false e (Some j) k = k ∙ sym (ap (λ (o : Option ℕ). or_last o (f == r.form) (length qs)) k)

-- of a form that has none: the table says of it where the new arm stands
pub first_of : (qs : List CallInstance) (look after : ℕ → Option ℕ) (r : CallInstance) → AreFirsts qs look → look r.form
    ≡ None
    → ((f : ℕ) → after f ≡ cond (nat_eq r.form f) (Some (length qs)) (look f))
    → AreFirsts (qs ++ r ∷ []) after
first_of qs look after r firsts h updates
    = record { each = λ f. updates f ∙ go f (nat_eq r.form f) refl ∙ sym (first_pushed qs r f) }
  where
    go : (f : ℕ) (b : Bool) → nat_eq r.form f ≡ b → cond b (Some (length qs)) (look f)
        ≡ or_last (first_of_form qs f) (f == r.form) (length qs)
    go f true e =
        let is : r.form ≡ f = grind (arith, nat_tests, e) in
        let same : (f == r.form) ≡ true = grind (arith, nat_tests, is) in
        let none : first_of_form qs f ≡ None = sym (firsts.each f) ∙ ap look (sym is) ∙ h in
        sym (ap (λ (o : Option ℕ). or_last o (f == r.form) (length qs)) none
        ∙ ap (λ (b : Bool). or_last None b (length qs)) same)
    go f false e =
        let other : (f == r.form) ≡ false = grind (arith, nat_tests, e) in
        firsts.each f ∙ stays (first_of_form qs f)
        ∙ sym (ap (λ (b : Bool). or_last (first_of_form qs f) b (length qs)) other)
      where
        stays : (o : Option ℕ) → o ≡ or_last o false (length qs)
        stays None = refl
        stays (Some i) = refl

-- ---- as the code has them

some_copied : (o : Option (Bor ℕ)) → is_some (option_copied o) ≡ is_some o
some_copied None = refl
some_copied (Some b) = refl

pub is_in : (look : ℕ → Option ℕ) (form : ℕ) (o : Option (Bor ℕ)) (b : Bool) → option_copied o ≡ look form → is_some o
    ≡ b → is_some (look form) ≡ b
is_in look form o b is e = sym (ap (λ (x : Option ℕ). is_some x) is) ∙ some_copied o ∙ e

pub table_stays : (qs : List CallInstance) (look : ℕ → Option ℕ) (form : ℕ) (r : CallInstance) → AreFirsts qs look
    → is_some (look form) ≡ true
    → r.form ≡ form → AreFirsts (qs ++ r ∷ []) look
table_stays qs look form r firsts h is = go (look form) refl h
  where
    go : (o : Option ℕ) → look form ≡ o → is_some o ≡ true → AreFirsts (qs ++ r ∷ []) look
    go None e h = cc
    go (Some i) e h = one_more_of qs look i r firsts (ap look is ∙ e)

pub table_grows : (qs : List CallInstance) (look after : ℕ → Option ℕ) (form n : ℕ) (r : CallInstance)
    → AreFirsts qs look → is_some (look form) ≡ false
    → ((f : ℕ) → after f ≡ cond (nat_eq form f) (Some n) (look f)) → n ≡ length qs → r.form ≡ form
    → AreFirsts (qs ++ r ∷ []) after
table_grows qs look after form n r firsts h updates many is = go (look form) refl h
  where
    go : (o : Option ℕ) → look form ≡ o → is_some o ≡ false → AreFirsts (qs ++ r ∷ []) after
    go None e h =
        first_of qs look after r firsts (ap look is ∙ e) (λ f.
        updates f ∙ ap (λ (k : ℕ). cond (nat_eq k f) (Some n) (look f)) (sym is)
        ∙ ap (λ (k : ℕ). cond (nat_eq r.form f) (Some k) (look f)) many)
    go (Some i) e h = cc
