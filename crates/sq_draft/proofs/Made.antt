-- A statement's term, as the builder makes it.
use Rattle.std.proofs.Common.{◌≡◌, ℕ, suc, Bool, false, ◌||◌, is_some, List, [], ◌∷◌, map, slice_get, Option, Some}
use Rattle.std.proofs.Common.{None, refl, sym, ap, ap₂, subst, ◌∙◌}
use Rattle.sq_num.specs.declared.RedOp.{RedOp}
use Rattle.sq_text.specs.declared.place.Place.{Place}
use Rattle.sq_text.specs.declared.spread.SpreadRule.{SpreadRule}
use Rattle.sq_ir.specs.Leaf.declared.shape.Shape.{Shape}
use Rattle.sq_ir.specs.declared.num.Num.{Num}
use Rattle.sq_ir.specs.declared.term.Term.{Term}
use Rattle.sq_ir.specs.declared.term.Term.TheVariants as term
use Rattle.sq_spec.specs.Blocks.declared.argument.Argument.{Argument}
use Rattle.sq_spec.specs.declared.statement.LoopKind.{LoopKind}
use Rattle.sq_spec.specs.declared.statement.CallInstance.{CallInstance}
use Rattle.sq_spec.specs.declared.statement.Statement.{Statement, roll-Statement}
use Rattle.sq_spec.specs.declared.statement.Statement.TheVariants as b
use Rattle.sq_spec.specs.declared.statement.Statement.TheOpen.{Statement-F}
use Rattle.sq_spec.specs.declared.statement.Statement.TheFolds.{ind-Statement, map-Statement}
use Rattle.sq_spec.specs.declared.body.FormBody.{FormBody}
use Rattle.sq_tables.specs.Placed.declared.home.Home.{Home}
use Rattle.sq_tables.specs.Placed.declared.home.Homes.{Homes}
use Rattle.sq_tables.specs.Term.declared.context.Context.{Context}
use Rattle.sq_tables.specs.Placed.Tables.{op_of, spread_of, Chain, chain_of, leaving_args, leaving_row, row_form, pipe_of}
use Rattle.sq_tables.specs.Term.Terms.{arm_term, entry_context, entry_row, entry_term, body_in, homes_in, no_homes, body_term}
use Rattle.sq_tables.specs.Term.Terms.{term_of, TermPart, any_lower, any_same, all_terms, in_map, map_term, count_num}
use Rattle.sq_tables.specs.Term.Terms.{rows_term, statement_term, chains, first_num, loop_term, hold_term, map_hold, run_term}
use Rattle.sq_tables.specs.Loops.{chain_in}
use Rattle.sq_draft.specs.Building.{callee_in, holding_args, holding_row, holding_of, hold_by, pipe_by, run_in}
use Rattle.sq_spec.specs.Bodies.{no_body}
use Rattle.sq_spec.specs.Spreads.{any_of, lower_in, same_in}
use Rattle.sq_tables.proofs.Lists.{an_item}
use Rattle.sq_tables.proofs.Term.Opened.{built_call, built_map}
use Rattle.sq_spec.proofs.InStatements.{lower_call, lower_map, same_call, same_map}
use Rattle.sq_tables.proofs.InStatements.{chain_call, chain_map}

module _ (bodies : ℕ → FormBody) (homes : ℕ → Homes) (callee : ℕ → Context → Term) (rule : SpreadRule) where
  abbrev built : Statement → TermPart
  built = statement_term bodies homes callee rule

  record Knows (x : Statement) : Type 0 where
    lower : (built x).lower ≡ lower_in x
    same : (built x).same ≡ same_in x
    chain : (built x).chain ≡ chain_in x

  abbrev Known : Type 0
  Known = (x : Statement) × Knows x

  abbrev statements : List Known → List Statement
  statements = map (λ q. q.0)

  lowers : (xs : List Known) → any_lower (map built (statements xs)) ≡ any_of (map lower_in (statements xs))
  lowers [] = refl
  lowers (x ∷ xs) = ap₂ (λ u v. u || v) x.1.lower (lowers xs)

  sames : (xs : List Known) → any_same (map built (statements xs)) ≡ any_of (map same_in (statements xs))
  sames [] = refl
  sames (x ∷ xs) = ap₂ (λ u v. u || v) x.1.same (sames xs)

  chains_are : (xs : List Known) → chains (map built (statements xs)) ≡ map chain_in (statements xs)
  chains_are [] = refl
  chains_are (x ∷ xs) = ap₂ (λ u v. u ∷ v) x.1.chain (chains_are xs)

  knows_step : (y : Statement-F Known) → Knows (roll-Statement (map-Statement Known Statement (λ p. p.0) y))
  knows_step (Statement-F.Call lower instances) = subst Knows (sym (b.rolls-Call lower instances)) (record {
    lower = ap (λ (p : TermPart). p.lower) (built_call bodies homes callee rule lower instances)
        ∙ sym (lower_call lower instances);
    same = ap (λ (p : TermPart). p.same) (built_call bodies homes callee rule lower instances)
        ∙ sym (same_call lower instances);
    chain = ap (λ (p : TermPart). p.chain) (built_call bodies homes callee rule lower instances)
        ∙ sym (chain_call lower instances);
  })
  knows_step (Statement-F.Map place m counts starts xs)
      = subst Knows (sym (b.rolls-Map place m counts starts (statements xs))) (record {
        lower = ap (λ (p : TermPart). p.lower) (built_map bodies homes callee rule place m counts starts (statements xs))
            ∙ lowers xs ∙ sym (lower_map place m counts starts (statements xs));
        same = ap (λ (p : TermPart). p.same) (built_map bodies homes callee rule place m counts starts (statements xs))
            ∙ sames xs ∙ sym (same_map place m counts starts (statements xs));
        chain = ap (λ (p : TermPart). p.chain) (built_map bodies homes callee rule place m counts starts (statements xs))
            ∙ ap (chain_of first_num m starts) (chains_are xs)
            ∙ sym (chain_map place m counts starts (statements xs));
      })

  knows : (x : Statement) → Knows x
  knows = ind-Statement Knows (λ x y is. subst (λ z. Knows (roll-Statement z)) is (knows_step y))

  all_lower : (xs : List Statement) → any_lower (map built xs) ≡ any_of (map lower_in xs)
  all_lower [] = refl
  all_lower (x ∷ xs) = ap₂ (λ u v. u || v) (knows x).lower (all_lower xs)

  all_the_same : (xs : List Statement) → any_same (map built xs) ≡ any_of (map same_in xs)
  all_the_same [] = refl
  all_the_same (x ∷ xs) = ap₂ (λ u v. u || v) (knows x).same (all_the_same xs)

  all_chains : (xs : List Statement) → chains (map built xs) ≡ map chain_in xs
  all_chains [] = refl
  all_chains (x ∷ xs) = ap₂ (λ u v. u ∷ v) (knows x).chain (all_chains xs)

  pub call_made : (x : Statement) (lower : Bool) (instances : List CallInstance) (op : Option RedOp) (inside : Bool)
      (c : Context) → x ≡ b.Call lower instances
      → rows_term bodies homes callee op lower c instances ≡ (built x).build op inside c
  call_made x lower instances op inside c is
      = sym (ap (λ (p : TermPart). p.build op inside c)
      (ap built is ∙ built_call bodies homes callee rule lower instances))

  -- a map whose parts are built under what is computed of it
  pub loop_made : (m : LoopKind) (counts starts : List ℕ) (list : List Statement) (inside : Bool) (c : Context)
      → (spread : Option SpreadRule) (count : Num) (parts : List Term) (lower same : Bool) (next_rule : SpreadRule)
      (next_op : Option RedOp) (next_inside : Bool)
      → lower ≡ any_of (map lower_in list) → same ≡ any_of (map same_in list)
      → spread ≡ spread_of rule m inside lower same
      → next_rule ≡ rule → next_op ≡ op_of m → next_inside ≡ (inside || is_some spread)
      → count ≡ count_num counts c
      → parts ≡ all_terms (map (statement_term bodies homes callee next_rule) list) next_op next_inside
      (in_map spread count starts c)
      → map_term spread count (term.Seq parts) ≡ loop_term rule m counts starts (map built list) inside c
  loop_made m counts starts list inside c spread count parts lower same next_rule next_op next_inside low sam e r o i n
      p =
      ap (λ (l : List Term). map_term spread count (term.Seq l)) (p
      ∙ ap (λ (z : SpreadRule). all_terms (map (statement_term bodies homes callee z) list) next_op next_inside
      (in_map spread count starts c)) r
      ∙ ap₂ (λ (z : Option RedOp) (y : Bool). all_terms (map built list) z y (in_map spread count starts c)) o i)
      ∙ ap (λ (z : Num). map_term spread z
      (term.Seq (all_terms (map built list) (op_of m) (inside || is_some spread) (in_map spread z starts c)))) n
      ∙ ap (λ (z : Option SpreadRule). map_term z (count_num counts c)
      (term.Seq (all_terms (map built list) (op_of m) (inside || is_some z) (in_map z (count_num counts c) starts c))))
      (e ∙ ap₂ (spread_of rule m inside) (low ∙ sym (all_lower list)) (sam ∙ sym (all_the_same list)))

-- a map, which arguments of its call may leave
module _ (bodies : List FormBody) (homes : List Homes) (depth : ℕ) (rule : SpreadRule) where
  abbrev parts : Statement → TermPart
  parts = statement_term (body_in bodies) (homes_in homes) (callee_in bodies homes depth) rule

  by_args : (shapes : List Shape) (params : List Home) (rows : List CallInstance) (number : Num)
      (ps : List (ℕ × Argument)) (inside : Bool) (c : Context)
      (loop : Bool → Context → Term)
      → hold_by (holding_args shapes params rows number ps c) inside c loop
      ≡ hold_term shapes params rows number ps inside c loop
  by_args shapes params rows number [] inside c loop = refl
  by_args shapes params rows number (p ∷ ps) inside c loop = refl

  by_rows : (h : Option (Chain Num)) (inside : Bool) (c : Context) (loop : Bool → Context → Term)
      → hold_by (holding_of bodies homes h c) inside c loop
      ≡ map_hold (body_in bodies) (homes_in homes) (callee_in bodies homes depth) h inside c loop
  by_rows None inside c loop = refl
  by_rows (Some h) inside c loop = go (slice_get h.instances 0)
    where
      go : (r : Option CallInstance) → hold_by (holding_row bodies homes h.instances r h.loops (h.first c.ordinal) c)
          inside c loop
          ≡ hold_term (body_in bodies (row_form r)).arrays (homes_in homes (row_form r)).params h.instances
          (h.first c.ordinal) (leaving_row (homes_in homes) h.loops r) inside c loop
      go None = refl
      go (Some r) =
          by_args (body_in bodies r.form).arrays (homes_in homes r.form).params h.instances (h.first c.ordinal)
          (leaving_args h.loops (homes_in homes r.form).params 0 r.args) inside c loop

  module _ (m : LoopKind) (counts starts : List ℕ) (list : List Statement) where
    abbrev run_by : (lower same : Bool) → List (Option (Chain Num)) → Bool → Context → Term
    run_by lower same hs inside c =
        pipe_by bodies homes depth (pipe_of (homes_in homes) m (spread_of rule m inside lower same) hs) counts starts c
        (loop_term rule m counts starts (map parts list) inside c)

    abbrev run_of_parts : Bool → Context → Term
    run_of_parts = run_term (body_in bodies) (homes_in homes) (callee_in bodies homes depth) rule m counts starts
        (map parts list)

    run_made : run_in bodies homes depth rule m counts starts list ≡ run_of_parts
    run_made =
        sym (ap (λ (b : Bool). run_by b (any_same (map parts list)) (chains (map parts list)))
        (all_lower (body_in bodies) (homes_in homes) (callee_in bodies homes depth) rule list)
        ∙ ap (λ (b : Bool). run_by (any_of (map lower_in list)) b (chains (map parts list)))
        (all_the_same (body_in bodies) (homes_in homes) (callee_in bodies homes depth) rule list)
        ∙ ap (run_by (any_of (map lower_in list)) (any_of (map same_in list)))
        (all_chains (body_in bodies) (homes_in homes) (callee_in bodies homes depth) rule list))

  pub map_made : (x : Statement) (place : Place) (m : LoopKind) (counts starts : List ℕ) (list : List Statement)
      (op : Option RedOp) (inside : Bool) (c : Context) → x ≡ b.Map place m counts starts list
      → hold_by (holding_of bodies homes (chain_in x) c) inside c (run_in bodies homes depth rule m counts starts list)
      ≡ (parts x).build op inside c
  map_made x place m counts starts list op inside c is =
      let run = run_of_parts m counts starts list in
      by_rows (chain_in x) inside c (run_in bodies homes depth rule m counts starts list)
      ∙ ap (λ (loop : Bool → Context → Term). map_hold (body_in bodies) (homes_in homes) (callee_in bodies homes depth)
      (chain_in x) inside c loop) (run_made m counts starts list)
      ∙ ap (λ (h : Option (Chain Num)). map_hold (body_in bodies) (homes_in homes) (callee_in bodies homes depth) h
      inside c run)
      (sym (knows (body_in bodies) (homes_in homes) (callee_in bodies homes depth) rule x).chain
      ∙ ap (λ (p : TermPart). p.chain)
      (ap parts is ∙ built_map (body_in bodies) (homes_in homes) (callee_in bodies homes depth) rule place m counts
      starts list))
      ∙ sym (ap (λ (p : TermPart). p.build op inside c)
      (ap parts is ∙ built_map (body_in bodies) (homes_in homes) (callee_in bodies homes depth) rule place m counts
      starts list))

-- a form's term, where so many calls may still be within one another
pub form_made : (depth below : ℕ) (bodies : List FormBody) (homes : List Homes) (form : ℕ) (own : Homes) (bd : FormBody)
    (c : Context)
    → suc below ≡ depth → slice_get homes form ≡ Some own → slice_get bodies form ≡ Some bd
    → body_term (body_in bodies) (homes_in homes) (term_of (body_in bodies) (homes_in homes) below) own bd.body c
    ≡ term_of (body_in bodies) (homes_in homes) depth form c
form_made depth below bodies homes form own bd c e h g =
    ap₂ (λ (z : Homes) (y : FormBody). body_term (body_in bodies) (homes_in homes)
    (term_of (body_in bodies) (homes_in homes) below) z y.body c)
    (an_item homes form no_homes own h) (an_item bodies form no_body bd g)
    ∙ ap (λ (d : ℕ). term_of (body_in bodies) (homes_in homes) d form c) e

-- the entry's term, where its form and its row were found
pub entry_made : (bodies : List FormBody) (homes : List Homes) (d : ℕ) (own : Homes) (bd : FormBody) (c : Context)
    (rows : List CallInstance) (row : CallInstance) (args : List Argument)
    → slice_get homes 0 ≡ Some own → slice_get bodies 0 ≡ Some bd → c ≡ entry_context bd own → rows ≡ entry_row args
    ∷ [] → slice_get rows 0 ≡ Some row
    → arm_term (body_in bodies) (homes_in homes) (term_of (body_in bodies) (homes_in homes) d) [] None false c rows row
    ≡ entry_term (body_in bodies) (homes_in homes) d args
entry_made bodies homes d own bd c rows row args h g e r at =
    let there : Some row ≡ Some (entry_row args) = sym at ∙ ap (λ (l : List CallInstance). slice_get l 0) r in
    let is : row ≡ entry_row args = cc in
    let here : c ≡ entry_context (body_in bodies 0) (homes_in homes 0) = e
    ∙ ap₂ entry_context (an_item bodies 0 no_body bd g) (an_item homes 0 no_homes own h) in
    ap (λ (q : CallInstance). arm_term (body_in bodies) (homes_in homes) (term_of (body_in bodies) (homes_in homes) d)
    [] None false c rows q) is
    ∙ ap₂ (λ (z : Context) (l : List CallInstance). arm_term (body_in bodies) (homes_in homes)
    (term_of (body_in bodies) (homes_in homes) d) [] None false z l (entry_row args)) here r
