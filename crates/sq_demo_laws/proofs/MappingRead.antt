-- The mapping of the demo's text, which has no fault for its program and machine.
use Rattle.std.proofs.Common.{◌≡◌, inl, inr, ℕ, suc, ◌≤◌, true, eqb, List, [], ◌∷◌, ◌++◌, codes, map, Option, Some, is_none, refl, sym, ◌∙◌, ap, subst, arith}
use Rattle.std.specs.List.{list_all, fold, flat_map}
use Rattle.std.proofs.lemmas.Bool.Decides.{Decides-eqb}
use Rattle.sq_text.specs.Names.{Bytes}
use Rattle.sq_text.specs.declared.code.Phase.TheVariants.{Mapping as MappingPhase}
use Rattle.sq_text.specs.declared.fault.Fault.{Fault}
use Rattle.sq_lexer.specs.declared.token.Token.{Token}
use Rattle.sq_lexer.specs.Tokens.{AreTokens}
use Rattle.sq_lexer.specs.Faults.{FitsFile, most_bytes}
use Rattle.sq_patterns.specs.Texts.{SyntaxAt}
use Rattle.sq_patterns.proofs.Places.{none_in_text, one_text}
use Rattle.sq_ast.specs.declared.stmt.MapKind.TheVariants.{Par, Seq}
use Rattle.sq_ast.specs.declared.stmt.Stmt.TheVariants as s
use Rattle.sq_ast.specs.declared.stmt.Stmt.TheOpen.{Stmt-F}
use Rattle.sq_ast.specs.declared.stmt.Stmt.TheFolds.{fold-roll-Stmt}
use Rattle.sq_ast.specs.declared.stmt.Stmt.{Stmt}
use Rattle.sq_ast.specs.declared.stmt.Call.{Call as CallStmt}
use Rattle.sq_ast.specs.declared.stmt.MapKind.{MapKind}
use Rattle.sq_ast.specs.declared.stmt.Range.{Range}
use Rattle.sq_ast.specs.Grammar.{range_of}
use Rattle.sq_text.specs.declared.place.Place.{Place}
use Rattle.sq_machfile.specs.declared.level.Level.{Level}
use Rattle.sq_mapping.specs.declared.mapping.Mapping.{Mapping}
use Rattle.sq_mapfile.specs.declared.text.InstanceText.{InstanceText}
use Rattle.sq_mapfile.specs.declared.text.MappingText.{MappingText}
use Rattle.sq_mapfile.specs.declared.text.Version.TheVariants.{First}
use Rattle.sq_mapfile.specs.Names.{of_each, instance_of, level_of}
use Rattle.sq_mapping.specs.Required.{Required, required_by, tasks_of, tasks_step, each_once, with_tunable, tunables_of, sizes_of}
use Rattle.sq_mapfile.specs.Faults.{Rule, Scope, scope, head_rules, item_rules, no_instance, entry_skip, size_missing, size_rules, level_at, name_rules, NameFault}
use Rattle.sq_mapfile.specs.Cycles.{CallText, Calls, Leads, here, further, CycleFault, calls_of}
use Rattle.sq_mapfile.specs.Grammar.{IsText, a_mapping, first_size, next_size, no_more_sizes, one_more_instance, no_instance as none_more, an_instance, inner, leaf, an_item, no_item, no_other, a_tunable, a_call, one, plain}
use Rattle.sq_mapfile.specs.Mappings.{Resolves, Writes, StandsFor, BreaksRule, MappingFault}
use Rattle.sq_mapping.specs.Sound.{Sound}
use Rattle.sq_mapfile.proofs.Texts.{mapping_format}
use Rattle.sq_mapfile.proofs.Resolved.{resolved, one_resolved}
use Rattle.sq_mapfile.proofs.Sounds.{sound}
use Rattle.sq_demo.specs.Report.Demo.{demo_mapping}
use Rattle.sq_demo_laws.specs.Texts.{at, mapping_tokens}
use Rattle.sq_demo_laws.specs.Tree.{word, bound_i, bound_j, bound_k, product_call, products_map, blocks_map, inner_params, inner_decls, inner_variant, leaf_variant, demo_tree}
use Rattle.sq_demo_laws.specs.Machine.{mapping_text, demo_hierarchy, demo_mapped}
use Rattle.sq_demo_laws.proofs.Given.{OneList, NeverBoth}
use Rattle.sq_demo_laws.proofs.TextTokens.{mapping_has_tokens}
use Rattle.sq_demo_laws.proofs.MachineRead.{no_breach, no_lexing}
use Rattle.sq_demo_laws.proofs.Tests.{passes}

pub mapping_derived : IsText mapping_tokens mapping_text
unfolding mapping_tokens
mapping_derived = record {
  end = at 6 1;
  text = a_mapping {version = First}
      (first_size (next_size (next_size (no_more_sizes))))
      (one_more_instance (an_instance inner
      (an_item (a_tunable (one plain) no_other)
      (an_item (a_tunable (one plain) no_other) (an_item (a_tunable (one plain) no_other) (an_item (a_call) (no_item))))))
      (one_more_instance (an_instance inner
      (an_item (a_tunable (one plain) no_other)
      (an_item (a_tunable (one plain) no_other) (an_item (a_tunable (one plain) no_other) (an_item (a_call) (no_item))))))
      (one_more_instance (an_instance leaf (no_item)) (none_more))));
}

-- ---- what the inner variant requires

tasks_call : (c : CallStmt) → tasks_of (s.Call c) ≡ tasks_step (Stmt-F.Call c)
tasks_call c = ap tasks_of (sym (s.rolls-Call c)) ∙ fold-roll-Stmt (List Bytes) tasks_step (Stmt-F.Call c)

tasks_map : (p : Place) (k : MapKind) (rs : List Range) (xs : List Stmt)
    → tasks_of (s.Map p k rs xs) ≡ tasks_step (Stmt-F.Map p k rs (map tasks_of xs))
tasks_map p k rs xs = ap tasks_of (sym (s.rolls-Map p k rs xs))
    ∙ fold-roll-Stmt (List Bytes) tasks_step (Stmt-F.Map p k rs xs)

tasks_are : tasks_of blocks_map ≡ codes "matmul" ∷ []
tasks_are =
    tasks_map (at 8 3) Par (range_of (word 8 15 (codes "i")) bound_i ∷ range_of (word 8 33 (codes "j")) bound_j ∷ [])
    (products_map ∷ [])
    ∙ ap (λ (ts : List Bytes). tasks_step
    (Stmt-F.Map (at 8 3) Par (range_of (word 8 15 (codes "i")) bound_i ∷ range_of (word 8 33 (codes "j")) bound_j
    ∷ []) (ts ∷ [])))
    (tasks_map (at 9 5) Seq (range_of (word 9 17 (codes "k")) bound_k ∷ []) (s.Call product_call ∷ [])
    ∙ ap (λ (ts : List Bytes). tasks_step (Stmt-F.Map (at 9 5) Seq (range_of (word 9 17 (codes "k")) bound_k ∷ [])
    (ts ∷ []))) (tasks_call product_call))

abbrev required_with : List Bytes → Required
required_with tasks = record {
  calls = each_once (tasks ++ []);
  tunables = fold (λ known t. with_tunable known t.0 t.1) [] (flat_map tunables_of inner_decls);
  sizes = each_once (flat_map sizes_of inner_params);
}

inner_required : required_by inner_variant ≡ required_with (codes "matmul" ∷ [])
inner_required = ap required_with tasks_are

-- ---- the rules of names

abbrev levels : List Level
levels = demo_hierarchy.levels

abbrev its_scope : Scope
its_scope = scope demo_tree levels mapping_text

abbrev instance_rules_with : Option Required → ℕ → InstanceText → List Rule
instance_rules_with required i x =
    head_rules its_scope required i x
    ++ of_each (item_rules (record {
      scope = its_scope;
      required = required;
      level =
          level_of levels x.level.name;
      kind = x.kind;
      items = x.items;
    })) 0 x.items

abbrev rules_with : Option Required → List InstanceText → List Rule
rules_with required [] = []
rules_with required (x ∷ []) = []
rules_with required (x ∷ y ∷ []) = []
rules_with required (x ∷ y ∷ z ∷ more) =
    (no_instance mapping_text.instances mapping_text.entry
    ∷ entry_skip (level_at its_scope (instance_of mapping_text.instances mapping_text.entry.name))
    mapping_text.entry
    ∷ size_missing required mapping_text.entry mapping_text.sizes
    ∷ of_each (size_rules required mapping_text.sizes) 0 mapping_text.sizes)
    ++ (instance_rules_with required 0 x ++
    (instance_rules_with required 1 y ++ (instance_rules_with (Some (required_by leaf_variant)) 2 z ++ [])))

rules_are : name_rules demo_tree levels mapping_text ≡ rules_with (Some (required_by inner_variant))
    mapping_text.instances
rules_are = refl

rules_hold : list_all is_none (rules_with (Some (required_with (codes "matmul" ∷ []))) mapping_text.instances) ≡ true
rules_hold = refl

no_rule : list_all is_none (name_rules demo_tree levels mapping_text) ≡ true
no_rule =
    ap (list_all is_none) (rules_are ∙ ap (λ (r : Required). rules_with (Some r) mapping_text.instances) inner_required)
    ∙ rules_hold

no_name_fault : (f : Fault) → NameFault demo_tree levels mapping_text f → ⊥
no_name_fault f h = no_breach MappingPhase (name_rules demo_tree levels mapping_text) no_rule f h

-- ---- no cycle

abbrev calls : List CallText
calls = calls_of mapping_text

rises : (a b : ℕ) → Calls calls a b → b ≡ suc a
rises a b c =
    let test : eqb c.call.callee (suc c.call.caller) ≡ true =
    passes (λ (call : CallText). eqb call.callee (suc call.caller)) calls refl c.index c.call c.there in
    let is : c.call.callee ≡ suc c.call.caller = (Decides-eqb c.call.callee (suc c.call.caller)).0 test in
    sym c.callee ∙ is ∙ ap suc c.caller

leads_up : {a b : ℕ} → Leads calls a b → a ≤ b
leads_up here = omega arith
leads_up (further {b = b} {c = c} l call) = let up = rises b c call in omega (arith, leads_up l, up)

no_cycle : (f : Fault) → CycleFault mapping_text f → ⊥
no_cycle f (inl h) = let up : 1 ≤ 0 = leads_up h.back in omega (arith, up)
no_cycle f (inr (inl h)) = let up : 2 ≤ 1 = leads_up h.back in omega (arith, up)
no_cycle f (inr (inr h)) = h

-- ---- what it stands for

fits_file : FitsFile MappingPhase demo_mapping
unfolding demo_mapping most_bytes
fits_file = omega arith

resolves : Resolves levels mapping_text demo_mapped
resolves = resolved demo_tree levels mapping_text (omega arith) (omega arith) no_name_fault

no_break : (f : Fault) → BreaksRule demo_tree levels mapping_text f → ⊥
no_break f (inl h) = no_name_fault f h
no_break f (inr h) = no_cycle f h

pub is_sound_mapping : Sound demo_tree levels demo_mapped
is_sound_mapping = sound demo_tree levels mapping_text (omega arith) (omega arith) no_name_fault no_cycle

module _ (one_list : OneList) (never : NeverBoth) where
  same_tokens : (ts : List Token) → AreTokens demo_mapping ts → ts ≡ mapping_tokens
  same_tokens ts are = one_list demo_mapping ts mapping_tokens are mapping_has_tokens

  same_text : (m : MappingText) → Writes demo_mapping m → m ≡ mapping_text
  same_text m w = one_text mapping_format mapping_tokens m mapping_text
      (subst (λ ts. IsText ts m) (same_tokens w.tokens w.tokens_of) w.grammar) mapping_derived

  pub one_mapping : (m : Mapping) → StandsFor levels demo_mapping m → m ≡ demo_mapped
  one_mapping m st = one_resolved levels mapping_text m demo_mapped
      (subst (λ t. Resolves levels t m) (same_text st.written st.writes) st.resolves) resolves

  pub mapping_has_no_fault : (f : Fault) → MappingFault demo_tree levels demo_mapping f → ⊥
  mapping_has_no_fault f (inl h) = no_lexing never MappingPhase demo_mapping mapping_tokens mapping_has_tokens fits_file
      (λ t fits. omega (arith, t, fits)) f h
  mapping_has_no_fault f (inr (none, inl h)) =
      none_in_text mapping_tokens mapping_text mapping_derived h.faulty.index
      (subst (λ ts. SyntaxAt IsText ts h.faulty.index) (same_tokens h.tokens h.tokens_of) h.faulty.at)
  mapping_has_no_fault f (inr (none, inr (also, h))) =
      no_break f (subst (λ m. BreaksRule demo_tree levels m f) (same_text h.mapping h.writes) h.broken)
