-- The notes of hoisting, form by form: those of the calls in plain loops, and none elsewhere.
use Rattle.std.proofs.Common.{◌≡◌, ℕ, suc, ◌<◌, ◌≤◌, Bool, true, false, List, [], ◌∷◌, ◌++◌, map, length}
use Rattle.std.proofs.Common.{slice_get, Option, Some, None, refl, sym, ap, ap₂, subst, ◌∙◌, arith, if◌then◌else◌}
use Rattle.sq_text.specs.declared.place.Place.{Place}
use Rattle.sq_ir.specs.declared.plan.Note.{Note}
use Rattle.sq_spec.specs.declared.statement.LoopKind.{LoopKind}
use Rattle.sq_spec.specs.declared.statement.LoopKind.TheVariants as loop_kind
use Rattle.sq_spec.specs.declared.statement.CallInstance.{CallInstance}
use Rattle.sq_spec.specs.declared.statement.Statement.{Statement}
use Rattle.sq_spec.specs.declared.statement.Statement.TheVariants as b
use Rattle.sq_spec.specs.declared.resolved.Resolved.{Resolved}
use Rattle.sq_placed.specs.Tables.{Chain, call_chain, chain_of, first_of, one_more, row_form}
use Rattle.sq_draft_laws.specs.TermLaws.Orders.{EachOf}
use Rattle.sq_draft_laws.proofs.ProgramLaws.Loops.{each_map}
use Rattle.sq_draft_laws.specs.Homes.Chosen.declared.choice.Choice.{Choice}
use Rattle.sq_draft_laws.specs.Homes.Chosen.Forms.{choice_in, instance_at, name_by}
use Rattle.sq_pipe.specs.Hoist.declared.sites.Site.{Site}
use Rattle.sq_pipe.specs.Hoist.Loops.{Nest, seen, sites_by, sites_in, all_sites}
use Rattle.sq_pipe.specs.Hoist.Notes as hoist
use Rattle.sq_pipe.proofs.Hoist.Opened.{inner_call, inner_map}
use Rattle.sq_pipe.specs.Candidates.{call_in, only_call}
use Rattle.sq_pass_laws.proofs.Nests.{nest_of}
use Rattle.sq_pass_laws.proofs.Sites.{sites_of_one}
use Rattle.sq_choice_laws.specs.Noted.{Noted, hoists_at, overlaps_at, all_notes}
use Rattle.sq_choice_laws.proofs.Merges.{assoc}
use Rattle.sq_choice_laws.proofs.Noting.{its, noted_call, map_notes, noted_map, chain_there, nest_list, nest_notes, none_at}
use Rattle.sq_choice_laws.proofs.Certs.{left, NestCert, Certs, no_cert, nest_cert, call_cert, map_cert}

module _ (r : Resolved) (choices : List Choice) (taken : List Bool) (lefts : ℕ → List ℕ) (children caller : ℕ)
    (entry : (i : ℕ) → left choices taken lefts children caller 0 i ≡ 0) where
  abbrev noted_is : Statement → Noted
  noted_is = its r choices caller

  abbrev chain_in : Statement → Option (Chain ℕ)
  chain_in x = (noted_is x).chain

  abbrev left_of : ℕ → ℕ → ℕ
  left_of = left choices taken lefts children caller

  abbrev AllCerts : Bool → List Statement → Type 0
  AllCerts = Certs choices taken lefts children caller

  -- ---- what is no call in plain loops is no loop that arguments leave

  abbrev FewIn : ℕ → CallInstance → Type 0
  FewIn loops q = (i : ℕ) → left_of q.form i ≤ loops

  abbrev Fewer : ℕ → CallInstance → Type 0
  Fewer loops q = (i : ℕ) → left_of q.form i < loops

  record IsFew (x : Statement) : Type 0 where
    few : (h : Chain ℕ) → chain_in x ≡ Some h → EachOf (FewIn h.loops) h.instances

  record AreFewer (h : Chain ℕ) : Type 0 where
    some : 0 < h.loops
    each : EachOf (Fewer h.loops) h.instances

  one_fewer : (starts : List ℕ) (o : Option (Chain ℕ))
      → ((h : Chain ℕ) → o ≡ Some h → EachOf (FewIn h.loops) h.instances) → (h : Chain ℕ)
      → one_more first_of starts o ≡ Some h → AreFewer h
  one_fewer starts None f h e = absurd (cc e)
  one_fewer starts (Some u) f h e =
      let same : record { loops = suc u.loops; instances = u.instances; first = λ k. u.first (first_of starts k) } ≡ h
      = cc e in
      subst AreFewer same (record {
        some = omega arith;
        each = each_map (FewIn u.loops) (Fewer (suc u.loops)) u.instances (λ q g i. let l = g i in omega (arith, l))
            (f u refl);
      })

  chain_fewer : (m : LoopKind) (starts : List ℕ) (xs : List Statement) → EachOf IsFew xs → (h : Chain ℕ)
      → chain_of first_of m starts (map (λ (p : Noted). p.chain) (map noted_is xs)) ≡ Some h → AreFewer h
  chain_fewer loop_kind.Sequential starts [] f h e = absurd (cc e)
  chain_fewer loop_kind.Sequential starts (x ∷ []) f h e = one_fewer starts (chain_in x) f.0.few h e
  chain_fewer loop_kind.Sequential starts (x ∷ y ∷ xs) f h e = absurd (cc e)
  chain_fewer loop_kind.Parallel starts xs f h e = absurd (cc e)
  chain_fewer (loop_kind.Reduction d) starts xs f h e = absurd (cc e)

  nest_few : (inside : Bool) (x : Statement) (n : Nest) → NestCert choices taken lefts children caller inside x n
      → IsFew x
  nest_few inside x n c = record {
    few = λ h e.
        let g = chain_there r choices caller c.whole in
        let same : g.chain ≡ h = cc (sym g.is ∙ e) in
        let loops = g.loops in
        subst (λ (h : Chain ℕ). EachOf (FewIn h.loops) h.instances) same
        (each_map (λ (q : CallInstance). q.form ≡ n.form) (FewIn g.chain.loops) g.chain.instances
        (λ q is i.
        let l = subst (λ f. left_of f i ≤ length n.loops) (sym is) (c.few i) in omega (arith, l, loops)) g.each);
  }

  call_few : (lower : Bool) (rows : List CallInstance)
      → EachOf (λ (q : CallInstance). (i : ℕ) → left_of q.form i ≡ 0) rows → IsFew (b.Call lower rows)
  call_few lower rows zeros = record {
    few = λ h e. by lower h (sym (ap (λ (p : Noted). p.chain) (noted_call r choices caller lower rows)) ∙ e);
  }
    where
      by : (lower : Bool) (h : Chain ℕ) → call_chain lower rows ≡ Some h → EachOf (FewIn h.loops) h.instances
      by true h e =
          let same : record { loops = 0; instances = rows; first = λ x. x } ≡ h = cc e in
          subst (λ (h : Chain ℕ). EachOf (FewIn h.loops) h.instances) same
          (each_map (λ (q : CallInstance). (i : ℕ) → left_of q.form i ≡ 0) (FewIn 0) rows
          (λ q z i. let e = z i in omega (arith, e)) zeros)
      by false h e = absurd (cc e)

  map_few : (place : Place) (m : LoopKind) (counts starts : List ℕ) (xs : List Statement) → EachOf IsFew xs
      → IsFew (b.Map place m counts starts xs)
  map_few place m counts starts xs f = record {
    few = λ h e.
        let g = chain_fewer m starts xs f h
        (sym (ap (λ (p : Noted). p.chain) (noted_map r choices caller place m counts starts xs)) ∙ e) in
        each_map (Fewer h.loops) (FewIn h.loops) h.instances (λ q l i. let e = l i in omega (arith, e)) g.each;
  }

  few_all : {inside : Bool} {xs : List Statement} → AllCerts inside xs → EachOf IsFew xs
  few_all no_cert = tt
  few_all {inside = inside} (nest_cert x n c rest) = (nest_few inside x n c, few_all rest)
  few_all (call_cert lower rows none zeros rest) = (call_few lower rows zeros, few_all rest)
  few_all (map_cert place m counts starts parts none own inner rest) =
      (map_few place m counts starts parts (few_all inner), few_all rest)

  chain_none : (place : Place) (h : Chain ℕ) → AreFewer h → (rows : List CallInstance) → h.instances ≡ rows
      → hoists_at r choices caller place (Some h) ≡ []
  chain_none place h f [] e =
      let some_ = f.some in
      ap (λ (rows : List CallInstance). hoist.notes_at (name_by (instance_at r caller))
      (hoist.param_at r (row_form (slice_get rows 0))) place h.loops 0
      (choice_in choices (row_form (slice_get rows 0))).leaves) e
      ∙ none_at (name_by (instance_at r caller)) (hoist.param_at r 0) place h.loops 0 (choice_in choices 0).leaves
      (λ j. let z = entry j in omega (arith, z, some_))
  chain_none place h f (q ∷ rows) e =
      let each = subst (EachOf (Fewer h.loops)) e f.each in
      ap (λ (rows : List CallInstance). hoist.notes_at (name_by (instance_at r caller))
      (hoist.param_at r (row_form (slice_get rows 0))) place h.loops 0
      (choice_in choices (row_form (slice_get rows 0))).leaves) e
      ∙ none_at (name_by (instance_at r caller)) (hoist.param_at r q.form) place h.loops 0
      (choice_in choices q.form).leaves (λ j. each.0 j)

  pub hoists_none : (place : Place) (m : LoopKind) (starts : List ℕ) {inside : Bool} (xs : List Statement)
      → AllCerts inside xs
      → hoists_at r choices caller place (chain_of first_of m starts (map (λ (p : Noted). p.chain) (map noted_is xs)))
      ≡ []
  hoists_none place m starts xs c =
      by (chain_of first_of m starts (map (λ (p : Noted). p.chain) (map noted_is xs)))
      (λ h e. chain_fewer m starts xs (few_all c) h e)
    where
      by : (o : Option (Chain ℕ)) → ((h : Chain ℕ) → o ≡ Some h → AreFewer h) → hoists_at r choices caller place o ≡ []
      by None f = refl
      by (Some h) f = chain_none place h (f h refl) h.instances refl

  -- ---- the notes where no loop overlaps

  pub hoist_both : (ss us : List Site) → hoist.all_notes r (ss ++ us) ≡ hoist.all_notes r ss ++ hoist.all_notes r us
  hoist_both [] us = refl
  hoist_both (s ∷ ss) us =
      ap (λ l. hoist.site_notes r s ++ l) (hoist_both ss us)
      ∙ sym (assoc (hoist.site_notes r s) (hoist.all_notes r ss) (hoist.all_notes r us))

  abbrev pub list_notes : List Statement → List Note
  list_notes xs = all_notes r choices caller (map (λ (p : Noted). p.notes) (map noted_is xs))

  module _ (none : (f : ℕ) → (choice_in choices f).overlaps ≡ false) where
    if_not : (t : Bool) (xs : List Note) → t ≡ false → (if t then xs else []) ≡ []
    if_not true xs e = absurd (cc e)
    if_not false xs e = refl

    nest_same : (n : Nest) (loops : List Place) → loops ≡ n.loops
        → ((p : Place) (ps : List Place) → n.loops ≡ p ∷ ps → (choice_in choices n.form).leaves ≡ n.leaves)
        → nest_list r choices caller loops n.form ≡ hoist.all_notes r (sites_in caller n loops)
    nest_same n [] e leaves = refl
    nest_same n (p ∷ ps) e leaves =
        let out : List Place → List ℕ → List Note =
        λ loops ls. hoist.notes_out (name_by (instance_at r caller)) (hoist.param_at r n.form) loops ls (length loops) in
        ap (λ l. out (p ∷ ps) (choice_in choices n.form).leaves ++ l)
        (if_not (choice_in choices n.form).overlaps _ (none n.form))
        ∙ ap₂ (λ loops ls. out loops ls ++ []) e (leaves p ps (sym e))

    own_none : (place : Place) (o : Option (List CallInstance)) → overlaps_at r choices caller place o ≡ []
    own_none place None = refl
    own_none place (Some rows) =
        if_not (choice_in choices (row_form (slice_get rows 0))).overlaps _ (none (row_form (slice_get rows 0)))

    sites_none : (x : Statement) → nest_of caller x ≡ None → sites_of_one caller x ≡ (seen caller x).inner
    sites_none x e = ap (λ o. sites_by caller o (seen caller x).inner) e

    pub hoist_list : {inside : Bool} {xs : List Statement} → AllCerts inside xs
        → list_notes xs ≡ hoist.all_notes r (all_sites caller (map (seen caller) xs))
    hoist_list no_cert = refl
    hoist_list (nest_cert x {xs = xs} n c rest) =
        ap₂ (λ l m. l ++ m)
        (nest_notes r choices caller c.whole
        ∙ nest_same n n.loops refl c.leaves
        ∙ sym (ap (λ o. hoist.all_notes r (sites_by caller o (seen caller x).inner)) c.is))
        (hoist_list rest)
        ∙ sym (hoist_both (sites_of_one caller x) (all_sites caller (map (seen caller) xs)))
    hoist_list (call_cert lower rows {xs = xs} alone zeros rest) =
        let x = b.Call lower rows in
        ap₂ (λ l m. l ++ m)
        (ap (λ (p : Noted). p.notes) (noted_call r choices caller lower rows)
        ∙ sym (ap (hoist.all_notes r) (sites_none x alone ∙ inner_call caller lower rows)))
        (hoist_list rest)
        ∙ sym (hoist_both (sites_of_one caller x) (all_sites caller (map (seen caller) xs)))
    hoist_list (map_cert place m counts starts parts {xs = xs} alone own inner rest) =
        let x = b.Map place m counts starts parts in
        ap₂ (λ l m. l ++ m)
        (map_notes r choices caller place m counts starts parts
        ∙ ap₂ (λ l k. l ++ (k ++ list_notes parts)) (hoists_none place m starts parts inner)
        (own_none place (only_call (map call_in parts)))
        ∙ hoist_list inner
        ∙ sym (ap (hoist.all_notes r) (sites_none x alone ∙ inner_map caller place m counts starts parts)))
        (hoist_list rest)
        ∙ sym (hoist_both (sites_of_one caller x) (all_sites caller (map (seen caller) xs)))
