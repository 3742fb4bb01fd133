-- The candidates at the calls of a form are those of its own loops.
use Rattle.std.proofs.Common.{◌≡◌, inl, inr, ℕ, zero, suc, ◌+◌, ◌<◌, List, [], ◌∷◌, ◌++◌, length, slice_get, Some}
use Rattle.std.proofs.Common.{None, false, refl, ap, subst, ◌∙◌, arith}
use Rattle.sq_spec.specs.declared.statement.CallInstance.{CallInstance}
use Rattle.sq_spec.specs.declared.statement.Statement.{Statement}
use Rattle.sq_spec.specs.declared.body.Body.{Body}
use Rattle.sq_spec.specs.declared.body.Body.TheVariants as body
use Rattle.sq_spec.specs.declared.body.FormBody.{FormBody}
use Rattle.sq_spec.specs.declared.resolved.Resolved.{Resolved}
use Rattle.sq_spec_laws.specs.TableRows.{Table, tables_in}
use Rattle.sq_draft_laws.specs.TermLaws.Orders.{EachOf}
use Rattle.sq_draft_laws.proofs.ProgramLaws.Loops.{each_both}
use Rattle.sq_pipe.specs.declared.candidate.Candidate.{Candidate}
use Rattle.sq_pipe.specs.Runs.{Marks}
use Rattle.sq_pipe.specs.Candidates.{candidates}
use Rattle.sq_pipe.specs.Greedy.{body_candidates, candidates_from}
use Rattle.sq_pass_laws.proofs.HoistLists.{each_two}
use Rattle.sq_pass_laws.proofs.Sites.{IsWithin}
use Rattle.sq_pass_laws.proofs.HoistPrograms.{BodySo, IsOwn, AreOwn, AllOwn, body_within, next_own, first_own}
use Rattle.sq_pass_laws.proofs.Candidates.{IsIn, CandidatesSo, all_have, AreWithin, in_front, in_back}
use Rattle.sq_pass_laws.proofs.PipePrograms.{leaves, children}

within_length : {A : Type 0} (xs : List A) (j : ℕ) (x : A) → slice_get xs j ≡ Some x → j < length xs
within_length [] j x e = absurd (cc e)
within_length (y ∷ xs) zero x e = omega arith
within_length (y ∷ xs) (suc j) x e = let l = within_length xs j x e in omega (arith, l)

module _ (r : Resolved) (marks : List Marks) where
  body_have : (Q : ℕ → Type 0) (many k : ℕ) (b : Body) → BodySo Q b → CandidatesSo Q (body_candidates r many k b)
  body_have Q many k (body.Leaf code) h = tt
  body_have Q many k (body.Inner list) h = all_have Q (leaves r marks) many k list false None h

  forms_have : (Q : ℕ → Type 0) (at : ℕ) (bs : List FormBody)
      → ((j : ℕ) (b : FormBody) → slice_get bs j ≡ Some b → BodySo Q b.body)
      → CandidatesSo Q (candidates_from r at bs marks)
  forms_have Q at [] h = tt
  forms_have Q at (b ∷ bs) h =
      each_both (λ (c : Candidate). Q c.form) (body_candidates r (children r marks at) at b.body)
      (candidates_from r (at + 1) bs marks)
      (body_have Q (children r marks at) at b.body (h 0 b refl)) (forms_have Q (at + 1) bs (λ j c e. h (suc j) c e))

  module _ (caller : ℕ → ℕ) (over : ℕ → Type 0) where
    abbrev IsAmong : List Candidate → CallInstance → Type 0
    IsAmong cs q = over q.form → IsIn q.form cs

    abbrev pub AreAmong : List Candidate → List Table → Type 0
    AreAmong cs ts = EachOf (λ (t : Table). EachOf (IsAmong cs) t.times) ts

    narrow : (cs ds : List Candidate) (k : ℕ) (ts : List Table)
        → EachOf (λ (t : Table). EachOf (IsOwn caller k) t.times) ts
        → ((q : CallInstance) → IsOwn caller k q → IsIn q.form cs → IsIn q.form ds) → AreAmong cs ts → AreAmong ds ts
    narrow cs ds k [] own f h = tt
    narrow cs ds k (t ∷ ts) own f h = (
      each_two (IsOwn caller k) (IsAmong cs) (IsAmong ds) t.times (λ q o g v. f q o (g v)) own.0 h.0,
      narrow cs ds k ts own.1 f h.1,
    )

    all_within : (at : ℕ) (bs : List FormBody) → AllOwn caller at bs
        → AreWithin caller at (at + length bs) (candidates_from r at bs marks)
    all_within at bs h =
        forms_have (IsWithin caller at (at + length bs)) at bs (λ j b e.
        let l = within_length bs j b e in
        body_within caller (at + j) b.body (h j b e) at (at + length bs) (omega arith) (omega (arith, l)))

    next : (at : ℕ) (b : FormBody) (bs : List FormBody) → AllOwn caller at (b ∷ bs) → AllOwn caller (at + 1) bs
    next at b bs h =
        let z : suc at ≡ at + 1 = omega arith in subst (λ n. AllOwn caller n bs) z (next_own caller at b bs h)

    pub form_among : (at : ℕ) (bs : List FormBody) → AllOwn caller at bs → (j : ℕ) (b : FormBody)
        (list : List Statement)
        → slice_get bs j ≡ Some b → b.body ≡ body.Inner list
        → AreAmong (candidates_from r at bs marks) (tables_in list None)
        → AreAmong (candidates (leaves r marks) (children r marks (at + j)) (at + j) list) (tables_in list None)
    form_among at [] own j b list e is h = absurd (cc e)
    form_among at (c ∷ bs) own zero b list e is h =
        let same : c ≡ b = cc e in
        let body_is : c.body ≡ body.Inner list = ap (λ (x : FormBody). x.body) same ∙ is in
        let here = subst (AreOwn caller at) body_is (first_own caller at c bs own) in
        let rest = candidates_from r (at + 1) bs marks in
        let w = all_within (at + 1) bs (next at c bs own) in
        let mine = candidates (leaves r marks) (children r marks at) at list in
        let z : at ≡ at + 0 = omega arith in
        subst (λ n. AreAmong (candidates (leaves r marks) (children r marks n) n list) (tables_in list None)) z
        (narrow (body_candidates r (children r marks at) at (body.Inner list) ++ rest) mine at (tables_in list None) here
        (λ q o g. in_front caller (at + 1) (at + 1 + length bs) mine rest w q.form (inl (omega (arith, o))) g)
        (subst (λ (x : Body). AreAmong (body_candidates r (children r marks at) at x ++ rest) (tables_in list None))
        body_is h))
    form_among at (c ∷ bs) own (suc j) b list e is h =
        let front = body_candidates r (children r marks at) at c.body in
        let rest = candidates_from r (at + 1) bs marks in
        let w = body_have (IsWithin caller at (suc at)) (children r marks at) at c.body
        (body_within caller at c.body (first_own caller at c bs own) at (suc at) (omega arith) (omega arith)) in
        let here = subst (AreOwn caller (at + suc j)) is (own (suc j) b e) in
        let z : at + 1 + j ≡ at + suc j = omega arith in
        subst (λ n. AreAmong (candidates (leaves r marks) (children r marks n) n list) (tables_in list None)) z
        (form_among (at + 1) bs (next at c bs own) j b list e is
        (narrow (front ++ rest) rest (at + suc j) (tables_in list None) here
        (λ q o g. in_back caller at (suc at) front rest w q.form (inr (omega (arith, o))) g) h))
