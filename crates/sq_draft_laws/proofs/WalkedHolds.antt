-- What a resolved program is known for has one proof at most, so it is there.
use Rattle.std.proofs.Common.{◌≡◌, ◌⊎◌, inl, inr, ℕ, suc, Bool, true, List, [], ◌∷◌, map, Option, Some, None, Ok, Err}
use Rattle.std.proofs.Common.{refl, sym, ap, ◌∙◌, subst, arith}
use Rattle.std.specs.Prelude.{slice_get}
use Rattle.std.specs.Map.{lookup}
use Rattle.std.specs.Coded.{Coded-set, coded_ℕ, coded_bool, coded_list, coded_option, coded×, le_prop}
use Rattle.std.proofs.Math.Bool.{Bool-set}
use Rattle.std.proofs.Math.Logic.{∥∥₁_elim}
use Rattle.std.proofs.Math.Nat.{ℕ_set}
use Rattle.sq_text.specs.Names.{Bytes, same_name}
use Rattle.sq_text.specs.declared.spread.SpreadRule.{SpreadRule}
use Rattle.sq_text.specs.declared.spread.SpreadRule.TheVariants.{Cyclic}
use Rattle.sq_text.specs.contracts.spread.SpreadRule as spread_row
use Rattle.sq_ast.specs.Forms.{is_formed}
use Rattle.sq_ast.specs.Grammar.{most_levels}
use Rattle.sq_ast.specs.declared.program.Program.{Program}
use Rattle.sq_ast.specs.declared.program.Variant.{Variant}
use Rattle.sq_machfile.specs.declared.level.Level.{Level}
use Rattle.sq_mapping.specs.declared.mapping.Instance.{Instance}
use Rattle.sq_mapping.specs.declared.mapping.Mapping.{Mapping}
use Rattle.sq_mapping.specs.declared.mapping.Route.{Route}
use Rattle.sq_mapping.specs.declared.mapping.Tuning.{Tuning}
use Rattle.sq_mapping.specs.Sound.{is_list}
use Rattle.sq_mapping.specs.Names.{variant_of}
use Rattle.sq_mapping.specs.Required.{required_by}
use Rattle.sq_mapping.specs.Sound.{EachOnce, Exactly, RouteFits, InstanceFits, EntryFits, Sound}
use Rattle.sq_types.specs.Nesting.{HasLoops}
use Rattle.sq_types.specs.Sound.{is_sound}
use Rattle.sq_forms.specs.declared.form.Form.{Form}
use Rattle.sq_forms.specs.declared.form.Use.{Use}
use Rattle.sq_forms.specs.contracts.form.Form as form_row
use Rattle.sq_forms.specs.contracts.form.Found as found_row
use Rattle.sq_forms.specs.contracts.form.Use as use_row
use Rattle.sq_forms.specs.Faults.{Value}
use Rattle.sq_forms.specs.Resolving.{Resolving, resolution}
use Rattle.sq_forms.specs.Steps.{Forms}
use Rattle.sq_spec.specs.declared.resolved.Resolved.{Resolved}
use Rattle.sq_draft_laws.specs.Choosing.{Walked}
use Rattle.sq_draft_laws.specs.Opened.{WalkedIsThere}

some_same : {A : Type 0} {x y : A} → Some x ≡ Some y → x ≡ y
some_same h = cc h

abbrev okay : Resolving → Value Resolving
okay q = Ok q

loops_prop : (most : ℕ) (vs : List Variant) → IsProp (HasLoops most vs)
loops_prop most [] = hlevel
loops_prop most (v ∷ vs) = hlevel (le_prop, loops_prop most vs)

once_prop : (names : List Bytes) → IsProp (EachOnce names)
once_prop names = hlevel ℕ_set

exactly_prop : (required given : List Bytes) → IsProp (Exactly required given)
exactly_prop required given = hlevel (Bool-set, ℕ_set)

near_prop : (a b : ℕ) → IsProp ((a ≡ b) ⊎ (a ≡ suc b))
near_prop a b (inl x) (inl y) = ap inl (ℕ_set a b x y)
near_prop a b (inl x) (inr y) = absurd (omega (arith, x, y))
near_prop a b (inr x) (inl y) = absurd (omega (arith, x, y))
near_prop a b (inr x) (inr y) = ap inr (ℕ_set a (suc b) x y)

bytes_set : IsSet Bytes
bytes_set = Coded-set (coded_list coded_ℕ)

spread_set : IsSet SpreadRule
spread_set = Coded-set spread_row.the_row.coded

found_set : IsSet Forms
found_set = Coded-set (coded_list (coded× (coded_list coded_ℕ) found_row.the_row.coded))

forms_set : IsSet (List Form)
forms_set = Coded-set (coded_list form_row.the_row.coded)

uses_set : IsSet (List (List Use))
uses_set = Coded-set (coded_list (coded_list use_row.the_row.coded))

kinds_set : IsSet (Option Bool)
kinds_set = Coded-set (coded_option coded_bool)

module _ (r : Resolved) where
  abbrev program : Program
  program = r.typed.now

  abbrev levels : List Level
  levels = r.machine.now.levels

  abbrev mapping : Mapping
  mapping = r.mapping.now

  opened : {P : Type 0} → IsProp P → (Walked r → P) → P
  opened p f = ∥∥₁_elim r.walked p f

  refused : (Walked r → ⊥) → ⊥
  refused f = let p : IsProp ⊥ = hlevel in opened p f

  -- ---- the walk

  abbrev answer : Resolving
  answer = record { found = r.found.entries; forms = r.forms; uses = r.uses }

  through : (v : Value Resolving) → resolution program.tasks mapping ≡ v → resolution program.tasks mapping
      ≡ Ok answer
  through (Err f) e = absurd (refused (λ w. cc (sym e ∙ w.through)))
  through (Ok q) e =
      let found : q.found ≡ r.found.entries
      = opened (found_set q.found r.found.entries)
      (λ w. ap (λ (a : Resolving). a.found) (ok_same (sym e ∙ w.through))) in
      let forms : q.forms ≡ r.forms
      = opened (forms_set q.forms r.forms) (λ w. ap (λ (a : Resolving). a.forms) (ok_same (sym e ∙ w.through))) in
      let uses : q.uses ≡ r.uses
      = opened (uses_set q.uses r.uses) (λ w. ap (λ (a : Resolving). a.uses) (ok_same (sym e ∙ w.through))) in
      e ∙ (λ i. Ok (record { found = found i; forms = forms i; uses = uses i }))
    where
      ok_same : {x y : Resolving} → okay x ≡ Ok y → x ≡ y
      ok_same h = cc h

  -- ---- the mapping

  module _ (x : Instance) (route : Route) (h : Walked r → RouteFits mapping x route) where
    route_by : (o : Option Instance) → slice_get mapping.instances route.instance ≡ o → RouteFits mapping x route
    route_by None e = absurd (refused (λ w. cc (sym e ∙ (h w).there)))
    route_by (Some callee) e = record {
      callee = callee;
      there = e;
      task = opened (bytes_set callee.task route.task)
          (λ w. ap (λ (y : Instance). y.task) (some_same (sym e ∙ (h w).there)) ∙ (h w).task);
      level = opened (near_prop callee.level x.level)
          (λ w. subst (λ (y : Instance). (y.level ≡ x.level) ⊎ (y.level ≡ suc x.level))
          (some_same (sym (h w).there ∙ e)) (h w).level);
    }

  module _ (x : Instance) (h : Walked r → InstanceFits program levels mapping x) where
    instance_by : (o : Option Variant) → variant_of program.tasks x.task x.kind ≡ o
        → InstanceFits program levels mapping x
    instance_by None e = absurd (refused (λ w. cc (sym e ∙ (h w).runs)))
    instance_by (Some v) e =
        let same : (w : Walked r) → (h w).variant ≡ v = λ w. some_same (sym (h w).runs ∙ e) in
        record {
          variant = v;
          runs = e;
          level = opened le_prop (λ w. (h w).level);
          calls = opened (exactly_prop (required_by v).calls (map (λ (route : Route). route.task) x.routes))
              (λ w. subst
              (λ (u : Variant). Exactly (required_by u).calls (map (λ (route : Route). route.task) x.routes))
              (same w) (h w).calls);
          routes = λ k route there.
              route_by x route (λ w. (h w).routes k route there) (slice_get mapping.instances route.instance) refl;
          tunables = opened
              (exactly_prop (map (λ t. t.0) (required_by v).tunables) (map (λ (t : Tuning). t.name) x.tunings))
              (λ w. subst (λ (u : Variant). Exactly (map (λ t. t.0) (required_by u).tunables)
              (map (λ (t : Tuning). t.name) x.tunings)) (same w) (h w).tunables);
          kinds = λ k tuning there.
              opened
              (kinds_set (lookup (same_name tuning.name) (required_by v).tunables) (Some (is_list tuning.setting)))
              (λ w. ap (λ (u : Variant). lookup (same_name tuning.name) (required_by u).tunables) (sym (same w))
              ∙ (h w).kinds k tuning there);
          spread = λ leaf. opened (spread_set x.spread Cyclic) (λ w. (h w).spread leaf);
        }

  entry_runs : (x : Instance) → slice_get mapping.instances mapping.entry ≡ Some x → (o : Option Variant)
      → variant_of program.tasks x.task x.kind ≡ o → EntryFits program mapping
  entry_runs x there None e =
      absurd (refused (λ w.
      let same : w.read.entry.entry ≡ x = some_same (sym w.read.entry.there ∙ there) in
      cc (sym e ∙ (ap (λ (y : Instance). variant_of program.tasks y.task y.kind) (sym same) ∙ w.read.entry.runs))))
  entry_runs x there (Some v) e =
      let same : (w : Walked r) → w.read.entry.entry ≡ x = λ w. some_same (sym w.read.entry.there ∙ there) in
      let variant : (w : Walked r) → w.read.entry.variant ≡ v = λ w.
      some_same (sym w.read.entry.runs
      ∙ (ap (λ (y : Instance). variant_of program.tasks y.task y.kind) (same w) ∙ e)) in
      record {
        entry = x;
        there = there;
        root = opened (ℕ_set x.level 0) (λ w. ap (λ (y : Instance). y.level) (sym (same w)) ∙ w.read.entry.root);
        variant = v;
        runs = e;
        sizes = opened (exactly_prop (required_by v).sizes (map (λ size. size.name) mapping.sizes))
            (λ w. subst (λ (u : Variant). Exactly (required_by u).sizes (map (λ size. size.name) mapping.sizes))
            (variant w) w.read.entry.sizes);
      }

  entry_by : (o : Option Instance) → slice_get mapping.instances mapping.entry ≡ o → EntryFits program mapping
  entry_by None e = absurd (refused (λ w. cc (sym e ∙ w.read.entry.there)))
  entry_by (Some x) e = entry_runs x e (variant_of program.tasks x.task x.kind) refl

  read : Sound program levels mapping
  read = record {
    entry = entry_by (slice_get mapping.instances mapping.entry) refl;
    instances = λ k x there.
        instance_by x (λ w. w.read.instances k x there) (variant_of program.tasks x.task x.kind) refl;
    names = opened (once_prop (map (λ (x : Instance). x.name) mapping.instances)) (λ w. w.read.names);
    acyclic = λ a leads. refused (λ w. w.read.acyclic a leads);
  }

pub walked_is_there : WalkedIsThere
walked_is_there r = record {
  formed = opened r (Bool-set (is_formed r.typed.now) true) (λ w. w.formed);
  faultless = opened r (Bool-set (is_sound r.typed.now) true) (λ w. w.faultless);
  loops = opened r (loops_prop most_levels r.typed.now.tasks) (λ w. w.loops);
  read = read r;
  through = through r (resolution r.typed.now.tasks r.mapping.now) refl;
}
