-- What is found at the calls of a form among the sites of all is found among its own.
use Rattle.std.proofs.Common.{◌≡◌, inl, inr, ℕ, zero, suc, ◌+◌, List, [], ◌∷◌, ◌++◌, length, slice_get, Some}
use Rattle.std.proofs.Common.{None, ap, subst, ◌∙◌, arith}
use Rattle.sq_spec.specs.declared.statement.CallInstance.{CallInstance}
use Rattle.sq_spec.specs.declared.statement.Statement.{Statement}
use Rattle.sq_spec.specs.declared.body.Body.{Body}
use Rattle.sq_spec.specs.declared.body.Body.TheVariants as body
use Rattle.sq_spec.specs.declared.body.FormBody.{FormBody}
use Rattle.sq_spec_laws.specs.TableRows.{Table, tables_in}
use Rattle.sq_draft_laws.specs.TermLaws.Orders.{EachOf}
use Rattle.sq_pipe.specs.Hoist.declared.sites.Site.{Site}
use Rattle.sq_pipe.specs.Hoist.Loops.{sites}
use Rattle.sq_pipe.specs.Hoist.Choices.{body_sites, sites_from, find_leaves}
use Rattle.sq_pass_laws.proofs.HoistLists.{each_two}
use Rattle.sq_pass_laws.proofs.Sites.{Leaves, SitesSo, found_front, found_back, not_found, all_have, IsWithin, AreLocal}
use Rattle.sq_pass_laws.proofs.HoistPrograms.{BodySo, IsOwn, AreOwn, AllOwn, first_own, next_own, body_within, all_within}

module _ (caller : ℕ → ℕ) (look : ℕ → Leaves) where
  body_have : (Q : ℕ → Type 0) (k : ℕ) (b : Body) → BodySo Q b → SitesSo Q (body_sites k b)
  body_have Q k (body.Leaf code) h = tt
  body_have Q k (body.Inner list) h = all_have Q k list None h

  abbrev IsFound : List Site → CallInstance → Type 0
  IsFound ss q = look q.form ≡ find_leaves ss q.form

  narrow : (ss us : List Site) (k : ℕ) (ts : List Table)
      → EachOf (λ (t : Table). EachOf (IsOwn caller k) t.times) ts
      → ((q : CallInstance) → IsOwn caller k q → IsFound ss q → IsFound us q) → AreLocal look ss ts → AreLocal look us ts
  narrow ss us k [] own f h = tt
  narrow ss us k (t ∷ ts) own f h =
      (each_two (IsOwn caller k) (IsFound ss) (IsFound us) t.times f own.0 h.0, narrow ss us k ts own.1 f h.1)

  pub form_local : (at : ℕ) (bs : List FormBody) → AllOwn caller at bs → (j : ℕ) (b : FormBody) (list : List Statement)
      → slice_get bs j ≡ Some b → b.body ≡ body.Inner list → AreLocal look (sites_from at bs) (tables_in list None)
      → AreLocal look (sites (at + j) list) (tables_in list None)
  form_local at [] own j b list e is h = absurd (cc e)
  form_local at (c ∷ bs) own zero b list e is h =
      let same : c ≡ b = cc e in
      let body_is : c.body ≡ body.Inner list = ap (λ (x : FormBody). x.body) same ∙ is in
      let here = subst (AreOwn caller at) body_is (first_own caller at c bs own) in
      let rest = sites_from (suc at) bs in
      let w = all_within caller (suc at) bs (next_own caller at c bs own) in
      let z : at ≡ at + 0 = omega arith in
      subst (λ n. AreLocal look (sites n list) (tables_in list None)) z
      (narrow (body_sites at (body.Inner list) ++ rest) (sites at list) at (tables_in list None) here
      (λ q o g. g ∙ found_front (sites at list) rest q.form
      (not_found caller (suc at) (suc at + length bs) rest w q.form (inl (omega (arith, o)))))
      (subst (λ (x : Body). AreLocal look (body_sites at x ++ rest) (tables_in list None)) body_is h))
  form_local at (c ∷ bs) own (suc j) b list e is h =
      let front = body_sites at c.body in
      let rest = sites_from (suc at) bs in
      let w = body_have (IsWithin caller at (suc at)) at c.body
      (body_within caller at c.body (first_own caller at c bs own) at (suc at) (omega arith) (omega arith)) in
      let here = subst (AreOwn caller (at + suc j)) is (own (suc j) b e) in
      let z : suc at + j ≡ at + suc j = omega arith in
      subst (λ n. AreLocal look (sites n list) (tables_in list None)) z
      (form_local (suc at) bs (next_own caller at c bs own) j b list e is
      (narrow (front ++ rest) rest (at + suc j) (tables_in list None) here
      (λ q o g. g ∙ found_back front rest q.form
      (not_found caller at (suc at) front w q.form (inr (omega (arith, o))))) h))
