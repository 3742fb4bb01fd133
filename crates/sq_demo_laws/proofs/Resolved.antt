-- The forms of the demo's program.
use Rattle.std.proofs.Common.{◌≡◌, ℕ, suc, ◌+◌, pos, List, [], ◌∷◌, map, codes, Some, Ok, refl, ◌∙◌, ap, slice_get}
use Rattle.std.proofs.Math.Path.{fun_ext}
use Rattle.sq_text.specs.declared.place.Place.{Place}
use Rattle.sq_text.specs.declared.word.Word.{Word}
use Rattle.sq_text.specs.Names.{Bytes}
use Rattle.sq_ast.specs.declared.expr.Expr.TheVariants as e
use Rattle.sq_ast.specs.declared.program.Decl.{Decl}
use Rattle.sq_ast.specs.declared.program.Decl.TheVariants as declared
use Rattle.sq_ast.specs.declared.program.Variant.{Variant}
use Rattle.sq_blocks.specs.Constants.{fits}
use Rattle.sq_blocks.specs.Names.{number_of}
use Rattle.sq_blocks.specs.declared.chop.Chop.TheVariants.{Regular}
use Rattle.sq_mapping.specs.declared.mapping.Instance.{Instance}
use Rattle.sq_mapping.specs.declared.mapping.Tuning.{Tuning}
use Rattle.sq_forms.specs.declared.form.Found.{Found}
use Rattle.sq_forms.specs.Faults.{Value, and_then}
use Rattle.sq_forms.specs.Steps.{Forms, Key, run, most_uses, most_forms}
use Rattle.sq_forms.specs.Calls.{most_round}
use Rattle.sq_forms.specs.Worlds.{Frame}
use Rattle.sq_forms.specs.Decls.{Scope, after_decl, all_declared, with_chop, array_of, most_extent, most_elements}
use Rattle.sq_forms.specs.Resolving.{Outcome, Resolving, start, frame_in, body_steps, outcome_of, walked_at, walk_of, more, walk_from, with_entry, resolution}
use Rattle.sq_forms.specs.Stmts.{Portion, all_of}
use Rattle.sq_demo_laws.specs.Texts.{at}
use Rattle.sq_demo_laws.specs.Tree.{word, inner_decls, inner_variant, demo_tree}
use Rattle.sq_demo_laws.specs.FormsFound.{entry_found, chip_found, core_found, square, key_to, all_uses_from, demo_found, demo_resolving}
use Rattle.sq_demo_laws.specs.Machine.{top_instance, mid_instance, demo_mapped}
use Rattle.sq_demo_laws.proofs.Walked.{worths_named, whole_is, whole_portion, walked_with}

-- ---- declarations

abbrev pub chop_with : Place → Bytes → (array x y : Bytes) → Scope → Value Scope
chop_with place name array x y s =
    with_chop s place name (λ extents. Regular extents (number_of s.numbers x ∷ number_of s.numbers y ∷ []))
    (array_of s array)

chop_is : (tunings : List Tuning) (place : Place) (name : Bytes) (array x y : Word)
    → (λ s. after_decl tunings s (declared.Rchop place name array (e.Name x ∷ e.Name y ∷ []))) ≡ chop_with place name
    array.name x.name y.name
chop_is tunings place name array x y =
    fun_ext (λ s. ap (λ v. and_then v
    (λ ns. with_chop s place name (λ extents. Regular extents ns) (array_of s array.name)))
    (worths_named x y s.numbers s.names.lists))

-- one after another
abbrev pub in_row : List (Scope → Value Scope) → Scope → Value Scope
in_row [] s = Ok s
in_row (f ∷ fs) s = and_then (f s) (in_row fs)

abbrev pub tunables_with : List Tuning → List (Scope → Value Scope) → List (Scope → Value Scope)
tunables_with tunings later =
    (λ s. after_decl tunings s (declared.Tunable (at 2 15) (codes "U")))
    ∷ (λ s. after_decl tunings s (declared.Tunable (at 3 15) (codes "X")))
    ∷ (λ s. after_decl tunings s (declared.Tunable (at 4 15) (codes "V"))) ∷ later

abbrev pub declared_with : List Tuning → Scope → Value Scope
declared_with tunings =
    in_row (tunables_with tunings (chop_with (at 5 10) (codes "Ab") (codes "A") (codes "U") (codes "X")
    ∷ chop_with (at 6 10) (codes "Bb") (codes "B") (codes "X") (codes "V")
    ∷ chop_with (at 7 10) (codes "Cb") (codes "C") (codes "U") (codes "V") ∷ []))

in_row_is : (tunings : List Tuning) (ds : List Decl) (s : Scope)
    → all_declared tunings s ds ≡ in_row (map (λ d s. after_decl tunings s d) ds) s
in_row_is tunings [] s = refl
in_row_is tunings (d ∷ ds) s = ap (and_then (after_decl tunings s d)) (fun_ext (λ t. in_row_is tunings ds t))

abbrev pub chop_from : List Tuning → Place → Bytes → (array x y : Word) → Scope → Value Scope
chop_from tunings place name array x y s = after_decl tunings s
    (declared.Rchop place name array (e.Name x ∷ e.Name y ∷ []))

abbrev pub three_chops : List Tuning → (f g h : Scope → Value Scope) → Scope → Value Scope
three_chops tunings f g h = in_row (tunables_with tunings (f ∷ g ∷ h ∷ []))

three_are : (tunings : List Tuning) (f g h f' g' h' : Scope → Value Scope) (s : Scope) → f ≡ f' → g ≡ g' → h ≡ h'
    → three_chops tunings f g h s ≡ three_chops tunings f' g' h' s
three_are tunings f g h f' g' h' s p q r =
    ap (λ (k : Scope → Value Scope). three_chops tunings k g h s) p
    ∙ ap (λ (k : Scope → Value Scope). three_chops tunings f' k h s) q
    ∙ ap (λ (k : Scope → Value Scope). three_chops tunings f' g' k s) r

pub declared_is : (tunings : List Tuning) (s : Scope) → all_declared tunings s inner_decls ≡ declared_with tunings s
declared_is tunings s =
    in_row_is tunings inner_decls s
    ∙ three_are tunings
    (chop_from tunings (at 5 10) (codes "Ab") (word 5 21 (codes "A")) (word 5 24 (codes "U")) (word 5 27 (codes "X")))
    (chop_from tunings (at 6 10) (codes "Bb") (word 6 21 (codes "B")) (word 6 24 (codes "X")) (word 6 27 (codes "V")))
    (chop_from tunings (at 7 10) (codes "Cb") (word 7 21 (codes "C")) (word 7 24 (codes "U")) (word 7 27 (codes "V")))
    (chop_with (at 5 10) (codes "Ab") (codes "A") (codes "U") (codes "X"))
    (chop_with (at 6 10) (codes "Bb") (codes "B") (codes "X") (codes "V"))
    (chop_with (at 7 10) (codes "Cb") (codes "C") (codes "U") (codes "V"))
    s
    (chop_is tunings (at 5 10) (codes "Ab") (word 5 21 (codes "A")) (word 5 24 (codes "U")) (word 5 27 (codes "X")))
    (chop_is tunings (at 6 10) (codes "Bb") (word 6 21 (codes "B")) (word 6 24 (codes "X")) (word 6 27 (codes "V")))
    (chop_is tunings (at 7 10) (codes "Cb") (word 7 21 (codes "C")) (word 7 24 (codes "U")) (word 7 27 (codes "V")))

-- ---- the walk of a form

abbrev pub run_with : Frame → Forms → Scope → Value Outcome
run_with frame forms s =
    and_then (run (record { left = 0; forms = forms; uses = [] })
    (all_of (whole_portion walked_with ∷ []) frame s.names start s.numbers []))
    (λ t. Ok (outcome_of s t))

abbrev pub walked_by : Frame → Instance → Forms → Scope → Value Outcome
walked_by frame x forms scope = and_then (declared_with x.tunings scope) (run_with frame forms)

walked_is : (frame : Frame) (x : Instance) (forms : Forms) (scope : Scope)
    → walked_at frame x inner_variant forms scope ≡ walked_by frame x forms scope
walked_is frame x forms scope =
    ap (λ (v : Value Scope). and_then v
    (λ s. and_then (run (record { left = 0; forms = forms; uses = [] }) (body_steps inner_variant.body frame s))
    (λ t. Ok (outcome_of s t))))
    (declared_is x.tunings scope)
    ∙ ap (λ (p : Portion). and_then (declared_with x.tunings scope)
    (λ s. and_then (run (record { left = 0; forms = forms; uses = [] })
    (all_of (p ∷ []) frame s.names start s.numbers [])) (λ t. Ok (outcome_of s t))))
    whole_is

-- what is known of a form on three matrices of n by n, before its declarations
abbrev pub begun : ℕ → Scope
begun n = record {
  names = record {
    lists = [];
    arrays = (codes "A", record { number = 0; extents = n ∷ n ∷ [] })
        ∷ (codes "B", record { number = 1; extents = n ∷ n ∷ [] })
        ∷ (codes "C", record { number = 2; extents = n ∷ n ∷ [] }) ∷ [];
    blocks = [];
  };
  numbers = (codes "M", pos n) ∷ (codes "P", pos n) ∷ (codes "N", pos n) ∷ [];
  arrays = 3;
  locals = [];
}

abbrev pub top_frame : Frame
top_frame = frame_in demo_tree.tasks demo_mapped.instances top_instance 0 entry_found

abbrev pub mid_frame : Frame
mid_frame = frame_in demo_tree.tasks demo_mapped.instances mid_instance 1 chip_found

abbrev pub first_found : Forms
first_found = ([], entry_found) ∷ []

abbrev pub second_found : Forms
second_found = ([], entry_found) ∷ (key_to 0 1 32, chip_found) ∷ []

top_computes : walked_by top_frame top_instance first_found (begun 128) ≡ Ok
    (record { forms = second_found; locals = []; uses = all_uses_from 32 1 16 0 })
unfolding fits most_uses most_forms most_round
top_computes = refl

mid_computes : walked_by mid_frame mid_instance second_found (begun 32) ≡ Ok
    (record { forms = demo_found; locals = []; uses = all_uses_from 8 2 16 0 })
unfolding fits most_uses most_forms most_round
mid_computes = refl

pub top_walked : walk_of demo_tree.tasks demo_mapped.instances 0 entry_found first_found ≡ Ok
    (record { forms = second_found; locals = []; uses = all_uses_from 32 1 16 0 })
top_walked = walked_is top_frame top_instance first_found (begun 128) ∙ top_computes

pub mid_walked : walk_of demo_tree.tasks demo_mapped.instances 1 chip_found second_found ≡ Ok
    (record { forms = demo_found; locals = []; uses = all_uses_from 8 2 16 0 })
mid_walked = walked_is mid_frame mid_instance second_found (begun 32) ∙ mid_computes

pub low_walked : walk_of demo_tree.tasks demo_mapped.instances 2 core_found demo_found ≡ Ok
    (record { forms = demo_found; locals = []; uses = [] })
low_walked = refl

-- ---- all forms

walk_step : (variants : List Variant) (instances : List Instance) (n k : ℕ) (r : Resolving) (form : Key × Found)
    (o : Outcome)
    → slice_get r.found k ≡ Some form → walk_of variants instances k form.1 r.found ≡ Ok o
    → walk_from variants instances (suc n) k r ≡ walk_from variants instances n (k + 1) (more r form.1 o)
walk_step variants instances n k r form o there walked = rw (there, walked) refl

abbrev pub one_resolved : Resolving
one_resolved = more (with_entry 0 (square 128)) entry_found
    (record { forms = second_found; locals = []; uses = all_uses_from 32 1 16 0 })

abbrev pub two_resolved : Resolving
two_resolved = more one_resolved chip_found (record { forms = demo_found; locals = []; uses = all_uses_from 8 2 16 0 })

none_left : walk_from demo_tree.tasks demo_mapped.instances 4093 3 demo_resolving ≡ Ok demo_resolving
none_left = refl

begins : resolution demo_tree.tasks demo_mapped ≡ walk_from demo_tree.tasks demo_mapped.instances 4096 0
    (with_entry 0 (square 128))
unfolding most_forms most_extent most_elements
begins = refl

pub program_resolves : resolution demo_tree.tasks demo_mapped ≡ Ok demo_resolving
program_resolves =
    begins
    ∙ walk_step demo_tree.tasks demo_mapped.instances 4095 0 (with_entry 0 (square 128)) ([], entry_found)
    (record { forms = second_found; locals = []; uses = all_uses_from 32 1 16 0 }) refl top_walked
    ∙ walk_step demo_tree.tasks demo_mapped.instances 4094 1 one_resolved (key_to 0 1 32, chip_found)
    (record { forms = demo_found; locals = []; uses = all_uses_from 8 2 16 0 }) refl mid_walked
    ∙ walk_step demo_tree.tasks demo_mapped.instances 4093 2 two_resolved (key_to 1 2 8, core_found)
    (record { forms = demo_found; locals = []; uses = [] }) refl low_walked
    ∙ none_left
