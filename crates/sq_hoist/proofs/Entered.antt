-- A table of what is found at the calls of forms.
use Rattle.std.proofs.Common.{◌≡◌, ℕ, suc, ◌==◌, nat_eq, Bool, true, false, cond, List, [], ◌∷◌, Option, Some, None}
use Rattle.std.proofs.Common.{is_some, Bor, refl, sym, ap, ap₂, ◌∙◌, arith, if◌then◌else◌}
use Rattle.std.proofs.lemmas.Bool.Decides.{nat_tests}
use Rattle.std.specs.Option.{option_copied}
use Rattle.sq_spec.specs.Forms.declared.form.Form.{Form}
use Rattle.sq_chosen.specs.declared.choice.Choice.{Choice}
use Rattle.sq_hoist.specs.declared.sites.Site.{Site}
use Rattle.sq_hoist.specs.Choices.{find_leaves, choice_of, choices_from, or_else, AreLeaves}

abbrev Found : Type 0
Found = Option (List ℕ)

-- ---- one call is entered

-- its form is in the table already: what stands there is not replaced
kept : (o found : Found) (ls : List ℕ) (b : Bool) → (b ≡ true → is_some o ≡ true)
    → or_else o found ≡ or_else o (if b then Some ls else found)
kept (Some ks) found ls b h = refl
kept None found ls false h = refl
kept None found ls true h = let no : false ≡ true = h refl in cc

pub table_stays : (rest all : List Site) (look : ℕ → Found) (s : Site) → AreLeaves (s ∷ rest) all look
    → is_some (look s.form) ≡ true → AreLeaves rest all look
table_stays rest all look s are h = record {
  each = λ k. kept (look k) (find_leaves rest k) s.leaves (s.form == k) (λ e. there k e) ∙ are.each k;
}
  where
    there : (k : ℕ) → (s.form == k) ≡ true → is_some (look k) ≡ true
    there k e =
        let is : s.form ≡ k = grind (arith, nat_tests, e) in
        ap (λ (n : ℕ). is_some (look n)) (sym is) ∙ h

-- its form is new
entered : (o found : Found) (ls : List ℕ) (b : Bool) → (b ≡ true → is_some o ≡ false)
    → or_else (cond b (Some ls) o) found ≡ or_else o (if b then Some ls else found)
entered o found ls false h = refl
entered None found ls true h = refl
entered (Some ks) found ls true h = let no : true ≡ false = h refl in cc

pub table_grows : (rest all : List Site) (look after : ℕ → Found) (s : Site) (ls : List ℕ)
    → AreLeaves (s ∷ rest) all look → is_some (look s.form) ≡ false → ls ≡ s.leaves
    → ((k : ℕ) → after k ≡ cond (nat_eq s.form k) (Some ls) (look k)) → AreLeaves rest all after
table_grows rest all look after s ls are h same updates = record {
  each = λ k. ap (λ (o : Found). or_else o (find_leaves rest k)) (updates k)
      ∙ entered (look k) (find_leaves rest k) ls (nat_eq s.form k) (λ e. none k e)
      ∙ ap (λ (ns : List ℕ). or_else (look k) (if s.form == k then Some ns else find_leaves rest k)) same
      ∙ are.each k;
}
  where
    none : (k : ℕ) → nat_eq s.form k ≡ true → is_some (look k) ≡ false
    none k e =
        let is : s.form ≡ k = grind (arith, nat_tests, e) in
        ap (λ (n : ℕ). is_some (look n)) (sym is) ∙ h

-- ---- as the code has it

some_copied : (o : Option (Bor (List ℕ))) → is_some (option_copied o) ≡ is_some o
some_copied None = refl
some_copied (Some b) = refl

pub is_in : (look : ℕ → Found) (form : ℕ) (o : Option (Bor (List ℕ))) (b : Bool) → option_copied o ≡ look form
    → is_some o ≡ b → is_some (look form) ≡ b
is_in look form o b is e = sym (ap (λ (x : Found). is_some x) is) ∙ some_copied o ∙ e

-- ---- what is chosen by the table

or_none : (o : Found) → o ≡ or_else o None
or_none None = refl
or_none (Some ks) = refl

pub chosen_by : (all : List Site) (look : ℕ → Found) (k : ℕ) (fs : List Form) → AreLeaves [] all look
    → choices_from look k fs ≡ choices_from (find_leaves all) k fs
chosen_by all look k [] are = refl
chosen_by all look k (f ∷ fs) are =
    ap₂ (λ (c : Choice) (cs : List Choice). c ∷ cs)
    (ap (λ (o : Found). choice_of o f) (or_none (look k) ∙ are.each k)) (chosen_by all look (suc k) fs are)
