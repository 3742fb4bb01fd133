-- What is found among the sites of statements is a call in plain loops that stands in them.
use Rattle.std.proofs.Common.{◌≡◌, ◌⊎◌, inl, inr, ℕ, suc, ◌+◌, ◌==◌, Bool, true, false, List, [], ◌∷◌, ◌++◌, map}
use Rattle.std.proofs.Common.{slice_get, Option, Some, None, refl, sym, ◌∙◌, ap, subst, arith, if◌then◌else◌}
use Rattle.sq_text.specs.declared.place.Place.{Place}
use Rattle.sq_spec.specs.declared.statement.Statement.{Statement, roll-Statement}
use Rattle.sq_spec.specs.declared.statement.Statement.TheVariants as b
use Rattle.sq_spec.specs.declared.statement.Statement.TheOpen.{Statement-F}
use Rattle.sq_spec.specs.declared.statement.Statement.TheFolds.{ind-Statement, map-Statement}
use Rattle.sq_spec.specs.declared.body.Body.{Body}
use Rattle.sq_spec.specs.declared.body.Body.TheVariants as body
use Rattle.sq_spec.specs.declared.body.FormBody.{FormBody}
use Rattle.sq_pipe.specs.Hoist.declared.sites.Site.{Site}
use Rattle.sq_pipe.specs.Hoist.Loops.{Nest, seen, sites_by, sites_in, all_sites}
use Rattle.sq_pipe.specs.Hoist.Choices.{body_sites, sites_from, find_leaves}
use Rattle.sq_pipe.proofs.Hoist.Opened.{inner_call, inner_map}
use Rattle.sq_pass_laws.proofs.Nests.{nest_of, same_number, some_is}
use Rattle.sq_pass_laws.proofs.Sites.{sites_of_one}
use Rattle.sq_choice_laws.specs.Leaving.{StandsIn, at_front, further, in_map}
use Rattle.sq_choice_laws.proofs.Inside.{widen}

found_either : (ss ts : List Site) (f : ℕ) (ls : List ℕ) → find_leaves (ss ++ ts) f ≡ Some ls
    → (find_leaves ss f ≡ Some ls) ⊎ (find_leaves ts f ≡ Some ls)
found_either [] ts f ls e = inr e
found_either (s ∷ ss) ts f ls e = by (s.form == f) e (found_either ss ts f ls)
  where
    by : (t : Bool) → (if t then Some s.leaves else find_leaves (ss ++ ts) f) ≡ Some ls
        → (find_leaves (ss ++ ts) f ≡ Some ls → (find_leaves ss f ≡ Some ls) ⊎ (find_leaves ts f ≡ Some ls))
        → ((if t then Some s.leaves else find_leaves ss f) ≡ Some ls) ⊎ (find_leaves ts f ≡ Some ls)
    by true e rest = inl e
    by false e rest = rest e

module _ (f : ℕ) (ls : List ℕ) where
  pub record Found (caller : ℕ) (xs : List Statement) : Type 0 where
    pub loop : Statement
    pub stands : StandsIn loop xs
    pub nest : Nest
    pub is : nest_of caller loop ≡ Some nest
    pub form : nest.form ≡ f
    pub leaves : nest.leaves ≡ ls

  module _ (caller : ℕ) where
    abbrev HasFound : Statement → Type 0
    HasFound x = find_leaves (sites_of_one caller x) f ≡ Some ls → Found caller (x ∷ [])

    abbrev Known : Type 0
    Known = (x : Statement) × HasFound x

    abbrev these : List Known → List Statement
    these = map (λ (q : Known). q.0)

    all_found : (xs : List Known) → find_leaves (all_sites caller (map (seen caller) (these xs))) f ≡ Some ls
        → Found caller (these xs)
    all_found [] e = absurd (cc e)
    all_found (x ∷ xs) e =
        by (found_either (sites_of_one caller x.0) (all_sites caller (map (seen caller) (these xs))) f ls e) (all_found xs)
      where
        by : (find_leaves (sites_of_one caller x.0) f ≡ Some ls)
            ⊎ (find_leaves (all_sites caller (map (seen caller) (these xs))) f ≡ Some ls)
            → (find_leaves (all_sites caller (map (seen caller) (these xs))) f ≡ Some ls → Found caller (these xs))
            → Found caller (x.0 ∷ these xs)
        by (inl g) rest =
            let h = x.1 g in record {
              loop = h.loop;
              stands = widen x.0 h.stands (these xs);
              nest = h.nest;
              is = h.is;
              form = h.form;
              leaves = h.leaves;
            }
        by (inr g) rest =
            let h = rest g in record {
              loop = h.loop;
              stands = further x.0 h.stands;
              nest = h.nest;
              is = h.is;
              form = h.form;
              leaves = h.leaves;
            }

    own_found : (x : Statement) (n : Nest) → nest_of caller x ≡ Some n → (loops : List Place)
        → find_leaves (sites_in caller n loops) f ≡ Some ls → Found caller (x ∷ [])
    own_found x n is [] e = absurd (cc e)
    own_found x n is (place ∷ outer) e = by (n.form == f) refl e
      where
        by : (t : Bool) → (n.form == f) ≡ t → (if t then Some n.leaves else None) ≡ Some ls → Found caller (x ∷ [])
        by true same g = record {
          loop = x;
          stands = at_front [];
          nest = n;
          is = is;
          form = same_number n.form f same;
          leaves = some_is n.leaves ls g;
        }
        by false same g = absurd (cc g)

    by_nest : (x : Statement) → (find_leaves (seen caller x).inner f ≡ Some ls → Found caller (x ∷ [])) → HasFound x
    by_nest x inner e = by (nest_of caller x) refl
      where
        by : (o : Option Nest) → nest_of caller x ≡ o → Found caller (x ∷ [])
        by None is =
            inner (subst (λ o. find_leaves (sites_by caller o (seen caller x).inner) f ≡ Some ls) is e)
        by (Some n) is =
            own_found x n is n.loops
            (subst (λ o. find_leaves (sites_by caller o (seen caller x).inner) f ≡ Some ls) is e)

    step : (y : Statement-F Known) → HasFound (roll-Statement (map-Statement Known Statement (λ p. p.0) y))
    step (Statement-F.Call lower rows) = subst HasFound (sym (b.rolls-Call lower rows))
        (by_nest (b.Call lower rows) (λ e.
        let none = ap (λ ss. find_leaves ss f) (inner_call caller lower rows) in absurd (cc (sym none ∙ e))))
    step (Statement-F.Map place m counts starts xs) =
        subst HasFound (sym (b.rolls-Map place m counts starts (these xs)))
        (by_nest (b.Map place m counts starts (these xs)) (λ e.
        let h = all_found xs (sym (ap (λ ss. find_leaves ss f) (inner_map caller place m counts starts (these xs))) ∙ e)
        in record {
          loop = h.loop;
          stands = in_map place m counts starts [] h.stands;
          nest = h.nest;
          is = h.is;
          form = h.form;
          leaves = h.leaves;
        }))

    one_found : (x : Statement) → HasFound x
    one_found = ind-Statement HasFound (λ x y is. subst (λ z. HasFound (roll-Statement z)) is (step y))

    abbrev known : List Statement → List Known
    known [] = []
    known (x ∷ xs) = (x, one_found x) ∷ known xs

    known_are : (xs : List Statement) → these (known xs) ≡ xs
    known_are [] = refl
    known_are (x ∷ xs) = ap (λ ys. x ∷ ys) (known_are xs)

    -- of all statements of a form
    pub list_found : (xs : List Statement) → find_leaves (all_sites caller (map (seen caller) xs)) f ≡ Some ls
        → Found caller xs
    list_found xs e =
        subst (Found caller) (known_are xs)
        (all_found (known xs) (ap (λ ys. find_leaves (all_sites caller (map (seen caller) ys)) f) (known_are xs) ∙ e))

  -- ---- of all forms

  pub record FoundIn (at : ℕ) (bs : List FormBody) : Type 0 where
    pub index : ℕ
    pub form_body : FormBody
    pub there : slice_get bs index ≡ Some form_body
    pub list : List Statement
    pub inner : form_body.body ≡ body.Inner list
    pub found : Found (at + index) list

  body_found : (at : ℕ) (c : FormBody) (bs : List FormBody) (b : Body) → c.body ≡ b
      → find_leaves (body_sites at b) f ≡ Some ls → FoundIn at (c ∷ bs)
  body_found at c bs (body.Leaf code) is e = absurd (cc e)
  body_found at c bs (body.Inner list) is e =
      let z : at ≡ at + 0 = omega arith in record {
        index = 0;
        form_body = c;
        there = refl;
        list = list;
        inner = is;
        found = subst (λ k. Found k list) z (list_found at list e);
      }

  pub forms_found : (at : ℕ) (bs : List FormBody) → find_leaves (sites_from at bs) f ≡ Some ls → FoundIn at bs
  forms_found at [] e = absurd (cc e)
  forms_found at (c ∷ bs) e =
      by (found_either (body_sites at c.body) (sites_from (suc at) bs) f ls e) (forms_found (suc at) bs)
    where
      by : (find_leaves (body_sites at c.body) f ≡ Some ls) ⊎ (find_leaves (sites_from (suc at) bs) f ≡ Some ls)
          → (find_leaves (sites_from (suc at) bs) f ≡ Some ls → FoundIn (suc at) bs) → FoundIn at (c ∷ bs)
      by (inl g) rest = body_found at c bs c.body refl g
      by (inr g) rest =
          let h = rest g in
          let z : suc at + h.index ≡ at + suc h.index = omega arith in record {
            index = suc h.index;
            form_body = h.form_body;
            there = h.there;
            list = h.list;
            inner = h.inner;
            found = subst (λ k. Found k h.list) z h.found;
          }
