-- The demo's forms have no race.
use Rattle.std.proofs.Common.{◌≡◌, ℕ, Bool, true, eqb, List, [], ◌∷◌, Some, refl, ◌∙◌, ap, subst, slice_get}
use Rattle.std.specs.List.{list_all}
use Rattle.std.proofs.lemmas.Bool.Decides.{Decides-eqb}
use Rattle.sq_ast.specs.declared.stmt.MapKind.TheVariants.{Par, Seq}
use Rattle.sq_ast.specs.declared.stmt.Stmt.TheVariants as s
use Rattle.sq_ast.specs.declared.stmt.Stmt.TheOpen.{Stmt-F}
use Rattle.sq_ast.specs.declared.program.Program.{Program}
use Rattle.sq_mapping.specs.declared.mapping.Mapping.{Mapping}
use Rattle.sq_forms.specs.declared.form.Form.{Form}
use Rattle.sq_forms.specs.declared.form.Use.{Use}
use Rattle.sq_race.specs.declared.map.Map.{Map}
use Rattle.sq_race.specs.declared.forms.Found.{Found}
use Rattle.sq_race.specs.Race.{HoldsIn, maps_by, variant_by}
use Rattle.sq_race.specs.Table.{Portion, portion, stmt_step, maps_in, maps_of}
use Rattle.sq_race.proofs.Opened.{portion_call, portion_map}
use Rattle.sq_demo_laws.specs.Texts.{at}
use Rattle.sq_demo_laws.specs.Tree.{product_call, products_map, blocks_map, demo_tree}
use Rattle.sq_demo_laws.specs.Machine.{demo_mapped}
use Rattle.sq_demo_laws.specs.FormsFound.{entry_found, chip_found, core_found, form_like, all_uses_from, demo_forms, demo_uses}
use Rattle.sq_demo_laws.specs.Laws.{FormsAreFree}
use Rattle.sq_demo_laws.proofs.Tests.{and_true, passes}
use Rattle.sq_demo_laws.proofs.Walked.{range_i, range_j, range_k}
use Rattle.sq_demo_laws.proofs.Apart.{all_clear, no_clash, top_clear, mid_clear}

-- ---- maps

abbrev pub maps_for : Form → List Map
maps_for f = maps_by (variant_by demo_tree.tasks (slice_get demo_mapped.instances f.instance))

-- the map has none round it
abbrev is_outermost : Map → Bool
is_outermost m = eqb m.depth 0

abbrev are_outermost : Form → Bool
are_outermost f = list_all is_outermost (maps_for f)

blocks_portion : portion blocks_map ≡ stmt_step (Stmt-F.Map (at 8 3) Par (range_i ∷ range_j ∷ [])
    (stmt_step (Stmt-F.Map (at 9 5) Seq (range_k ∷ []) (stmt_step (Stmt-F.Call product_call) ∷ [])) ∷ []))
blocks_portion =
    portion_map (at 8 3) Par (range_i ∷ range_j ∷ []) (products_map ∷ [])
    ∙ ap (λ (p : Portion). stmt_step (Stmt-F.Map (at 8 3) Par (range_i ∷ range_j ∷ []) (p ∷ [])))
    (portion_map (at 9 5) Seq (range_k ∷ []) (s.Call product_call ∷ [])
    ∙ ap (λ (p : Portion). stmt_step (Stmt-F.Map (at 9 5) Seq (range_k ∷ []) (p ∷ []))) (portion_call product_call))

inner_outermost : list_all is_outermost (maps_in (blocks_map ∷ [])) ≡ true
inner_outermost = ap (λ (p : Portion). list_all is_outermost (maps_of (p ∷ []) 0 0 [])) blocks_portion

all_outermost : list_all are_outermost demo_forms ≡ true
all_outermost =
    and_true (are_outermost (form_like entry_found)) _ inner_outermost
    (and_true (are_outermost (form_like chip_found)) _ inner_outermost
    (and_true (are_outermost (form_like core_found)) true refl refl))

-- ---- races

uses_clear : list_all all_clear demo_uses ≡ true
uses_clear = and_true (all_clear (all_uses_from 32 1 16 0)) _ top_clear
    (and_true (all_clear (all_uses_from 8 2 16 0)) _ mid_clear refl)

no_race_in : (maps : List Map) (uses : List Use) → list_all is_outermost maps ≡ true → all_clear uses ≡ true
    → (round : List ℕ) (x : Found)
    → HoldsIn maps uses round x → ⊥
no_race_in maps uses outermost clear round x h =
    let depth : h.map.depth ≡ 0 =
    (Decides-eqb h.map.depth 0).0 (passes is_outermost maps outermost x.map h.map h.map_is) in
    no_clash uses clear x.earlier x.later h.a h.b h.earlier_is h.later_is
    (subst (λ d. slice_get h.a.iterations d ≡ slice_get h.b.iterations d → ⊥) depth h.race.iterations) h.race.array
    h.race.share h.race.write

pub forms_are_free : FormsAreFree
forms_are_free r typed mapping forms uses n round x h =
    let form_there : slice_get demo_forms n ≡ Some h.of = subst (λ (fs : List Form). slice_get fs n ≡ Some h.of) forms
    h.form_is in
    let uses_there : slice_get demo_uses n ≡ Some h.uses =
    subst (λ (us : List (List Use)). slice_get us n ≡ Some h.uses) uses h.uses_are in
    let first : HoldsIn (maps_by (variant_by demo_tree.tasks (slice_get r.mapping.now.instances h.of.instance))) h.uses
    round x =
    subst (λ (p : Program). HoldsIn (maps_by (variant_by p.tasks (slice_get r.mapping.now.instances h.of.instance)))
    h.uses round x) typed h.holds in
    let second : HoldsIn (maps_for h.of) h.uses round x =
    subst (λ (m : Mapping). HoldsIn (maps_by (variant_by demo_tree.tasks (slice_get m.instances h.of.instance))) h.uses
    round x) mapping first in
    no_race_in (maps_for h.of) h.uses (passes are_outermost demo_forms all_outermost n h.of form_there)
    (passes all_clear demo_uses uses_clear n h.uses uses_there) round x second
