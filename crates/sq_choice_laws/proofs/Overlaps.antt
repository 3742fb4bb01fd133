-- The candidates of a program are those of its loops that may overlap.
use Rattle.std.proofs.Common.{◌≡◌, ℕ, suc, ◌+◌, ◌<◌, ◌≤◌, false, List, [], ◌∷◌, get_or, slice_get}
use Rattle.std.proofs.Common.{Some, None, refl, sym, subst}
use Rattle.sq_forms.specs.Machfile.declared.node.Node.{Node}
use Rattle.sq_spec.specs.declared.body.Body.{Body}
use Rattle.sq_spec.specs.declared.body.Body.TheVariants as body
use Rattle.sq_spec.specs.declared.body.FormBody.{FormBody}
use Rattle.sq_spec.specs.declared.resolved.Resolved.{Resolved}
use Rattle.sq_draft_laws.specs.Homes.Chosen.Forms.{bodies_of, choice_in}
use Rattle.sq_pipe.specs.Hoist.Choices.{hoisted}
use Rattle.sq_pipe.specs.Runs.{marks_of, most_children}
use Rattle.sq_pipe.specs.Greedy.{body_candidates, candidates_from}
use Rattle.sq_pass_laws.specs.Times.{BodyIsBegun}
use Rattle.sq_pass_laws.proofs.HoistPrograms.{body_at, tables_have_times}
use Rattle.sq_choice_laws.specs.Overlapping.{MarkedAt, MayOverlapAs, MayOverlap, AreThose, no_loop, body_loops}
use Rattle.sq_choice_laws.specs.Overlapping.{loops_from, CandidatesAreAll}
use Rattle.sq_choice_laws.proofs.Clears.{left}
use Rattle.sq_choice_laws.proofs.Turns.{covers, within}
use Rattle.sq_choice_laws.proofs.Those.{those_both, IsMay, list_those}
use Rattle.sq_choice_laws.proofs.Reached.{BodyProper, bodies_proper}

module _ (r : Resolved) where
  abbrev leaves : ℕ → List ℕ
  leaves f = (choice_in (hoisted r) f).leaves

  abbrev children : ℕ → ℕ
  children k = most_children (get_or (marks_of r) k []) 0 r.machine.now.nodes 0

  covers_at : (k n : ℕ) (x : Node) → MarkedAt r k n → slice_get r.machine.now.nodes n ≡ Some x
      → x.children ≤ children k
  covers_at k n x at e = covers (get_or (marks_of r) k []) r.machine.now.nodes n x at e

  within_at : (k c : ℕ) → 0 < c
      → ((n : ℕ) (x : Node) → MarkedAt r k n → slice_get r.machine.now.nodes n ≡ Some x → x.children < c)
      → children k < c
  within_at k c some h = within (get_or (marks_of r) k []) r.machine.now.nodes c some h

  is_may : (k : ℕ) → IsMay leaves (children k) r.machine.now.nodes (MarkedAt r k) (covers_at k) (within_at k) k
      (MayOverlap r)
  is_may k = record {
    to = λ l f e h. subst (λ j. MayOverlapAs (left leaves) r.machine.now.nodes (MarkedAt r j) l f) (sym e) h;
    of = λ l f e h. subst (λ j. MayOverlapAs (left leaves) r.machine.now.nodes (MarkedAt r j) l f) e h;
  }

  body_those : (k : ℕ) (b : Body) → BodyIsBegun b → BodyProper b
      → AreThose (MayOverlap r) (body_loops k b) (body_candidates r (children k) k b)
  body_those k (body.Leaf code) h proper = no_loop
  body_those k (body.Inner list) h proper =
      list_those leaves (children k) r.machine.now.nodes (MarkedAt r k) (covers_at k) (within_at k) k (MayOverlap r)
      (is_may k) list false None 1 h proper

  forms_those : (k : ℕ) (bs : List FormBody)
      → ((j : ℕ) (b : FormBody) → slice_get bs j ≡ Some b → BodyIsBegun b.body × BodyProper b.body)
      → AreThose (MayOverlap r) (loops_from k bs) (candidates_from r k bs (marks_of r))
  forms_those k [] h = no_loop
  forms_those k (b ∷ bs) h =
      let its = h 0 b refl in
      those_both (MayOverlap r) (body_those k b.body its.0 its.1) (forms_those (k + 1) bs (λ j c e. h (suc j) c e))

pub candidates_are_all : CandidatesAreAll
candidates_are_all r w = forms_those r 0 (bodies_of r) (λ j b e. (
  subst (λ (x : FormBody). BodyIsBegun x.body) (body_at r w j b e) (tables_have_times r w j),
  subst (λ (x : FormBody). BodyProper x.body) (body_at r w j b e) (bodies_proper r w j),
))
