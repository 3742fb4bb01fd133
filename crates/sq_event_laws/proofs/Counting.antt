-- The leaf events of a good plan are the leaf calls of the source.
use Rattle.std.proofs.Common.{◌≡◌, ℕ, zero, suc, List, [], length, Option, sym, ◌∙◌, ap, refl}
use Rattle.std.proofs.lemmas.List.FromFn.{length-range_with_len}
use Rattle.std.specs.List.{range_with_len}
use Rattle.std.specs.Option.{option_map_or}
use mathlib.Core.Path.{fun_ext}
use Rattle.sq_text.specs.Names.{Bytes}
use Rattle.sq_spec.specs.declared.body.Body.{Body}
use Rattle.sq_spec.specs.declared.body.Body.TheVariants as body
use Rattle.sq_spec.specs.declared.body.FormBody.{FormBody}
use Rattle.sq_spec.specs.declared.resolved.Resolved.{Resolved}
use Rattle.sq_spec.specs.Bodies.{body_of}
use Rattle.sq_ir.specs.Leaf.Leaf.{Leaf as LeafSource}
use Rattle.sq_ir.specs.declared.plan.Leaf.{Leaf}
use Rattle.sq_ir.specs.declared.plan.Plan.{Plan}
use Rattle.sq_tree.specs.Trace.{instance_of}
use Rattle.sq_plan_good.specs.ProgramLaws.LeafCalls.{FormWeight, body_calls, form_calls}
use Rattle.sq_plan_good.specs.Term.Terms.{body_in}
use Rattle.sq_plan_good.specs.Homes.Chosen.declared.choice.Choice.{Choice}
use Rattle.sq_plan_good.specs.Homes.Chosen.Forms.{bodies_of, instance_at, name_by}
use Rattle.sq_plan_good.specs.Homes.Drafts.{IsDraftOf}
use Rattle.sq_plan_good.proofs.DraftLaws.Forms.{bodies_are, many_forms}
use Rattle.sq_plan_good.proofs.DraftLaws.Standing.{map_length}
use Rattle.sq_plan_good.proofs.DraftLaws.WalkedHolds.{walked_is_there}
use Rattle.sq_event_laws.specs.SourceCalls.{program_calls}
use Rattle.sq_event_laws.specs.LeafEvents.{code_of, LeafEventsAreLeafCalls, NamesAreCounted}
use Rattle.sq_event_laws.proofs.Forms.{tables_count}
use Rattle.sq_event_laws.proofs.Running.{has_leaf}

-- ---- what no leaf weighs counts for nothing

calls_same : (bodies : ℕ → FormBody) (w v : FormWeight) → ((form : ℕ) (code : LeafSource)
    → (bodies form).body ≡ body.Leaf code → (path : List ℕ) → w form path ≡ v form path)
    → (n k : ℕ) (path : List ℕ) → form_calls bodies w n k path ≡ form_calls bodies v n k path
calls_same bodies w v h zero k path = refl
calls_same bodies w v h (suc n) k path = by (λ i at. calls_same bodies w v h n i at) (bodies k).body refl
  where
    by : ((i : ℕ) (at : List ℕ) → form_calls bodies w n i at ≡ form_calls bodies v n i at) → (b : Body)
        → (bodies k).body ≡ b
        → body_calls w (form_calls bodies w n) k b path ≡ body_calls v (form_calls bodies v n) k b path
    by callees (body.Leaf code) e = h k code e path
    by callees (body.Inner list) e = ap (λ (c : FormWeight). body_calls w c k (body.Inner list) path)
        (fun_ext (λ i. fun_ext (λ at. callees i at)))

-- ---- the tables of a draft

count_is : (r : Resolved) → length (bodies_of r) ≡ length r.found.entries
count_is r =
    map_length (body_of r.typed.now.tasks r.mapping.now.instances r.found.entries) (range_with_len 0 (length r.forms))
    ∙ (length-range_with_len 0 (length r.forms) ∙ sym (many_forms r (walked_is_there r)))

by_source : (r : Resolved) (weight : FormWeight)
    → form_calls (body_in (bodies_of r)) weight (length (bodies_of r)) 0 [] ≡ program_calls weight r
by_source r weight =
    ap (λ (b : ℕ → FormBody). form_calls b weight (length (bodies_of r)) 0 [])
    (fun_ext (bodies_are r (walked_is_there r)))
    ∙ (ap (λ n. form_calls (body_of r.typed.now.tasks r.mapping.now.instances r.found.entries) weight n 0 [])
    (count_is r)
    ∙ tables_count r weight)

pub events_are_calls : LeafEventsAreLeafCalls
events_are_calls r choices nodes p good f = good.calls f ∙ by_source r (λ form path. f (code_of r choices form) path)

-- ---- by names

name_at : (r : Resolved) (choices : List Choice) (p : Plan) → IsDraftOf r choices p.draft → (form : ℕ)
    (code : LeafSource) → (body_in (bodies_of r) form).body ≡ body.Leaf code
    → instance_of p (code_of r choices form) ≡ name_by (instance_at r form)
name_at r choices p is form code h =
    let own = has_leaf r choices p.draft is form code h in
    ap (λ (o : Option Leaf). option_map_or (λ l. l.instance) o []) own.there
    ∙ (own.of.name ∙ sym (ap name_by own.of.instance_is))

pub names_are_counted : NamesAreCounted
names_are_counted r choices nodes p good f =
    good.calls (λ code path. f (instance_of p code) path)
    ∙ (calls_same (body_in (bodies_of r)) (λ form path. f (instance_of p (code_of r choices form)) path)
    (λ form path. f (name_by (instance_at r form)) path)
    (λ form code h path. ap (λ (n : Bytes). f n path) (name_at r choices p good.draft_ form code h))
    (length (bodies_of r)) 0 []
    ∙ by_source r (λ form path. f (name_by (instance_at r form)) path))
