-- The term of a text, one equation for each variant.
use Rattle.std.proofs.Common.{◌≡◌, ℕ, List, [], ◌∷◌, map, refl, sym, ap, ◌∙◌}
use Rattle.sq_text.specs.declared.place.Place.{Place}
use Rattle.sq_ir.specs.declared.plan.PlanNode.{PlanNode}
use Rattle.sq_ir.specs.declared.term.Term.TheVariants as term
use Rattle.sq_plantext.specs.declared.text.EventText.{EventText}
use Rattle.sq_plantext.specs.declared.text.TermText.{TermText}
use Rattle.sq_plantext.specs.declared.text.TermText.TheVariants as t
use Rattle.sq_plantext.specs.declared.text.TermText.TheOpen.{TermText-F}
use Rattle.sq_plantext.specs.declared.text.TermText.TheFolds.{fold-roll-TermText}
use Rattle.sq_planfile.specs.Files.{Below, each_below}
use Rattle.sq_planlines.specs.Narrow.{term_step, term_of, terms_of}

pub form_seq : (nodes : List PlanNode) (xs : List TermText) → term_of nodes (t.Seq xs) ≡ term_step nodes (TermText-F.Seq (map (term_of nodes) xs))
form_seq nodes xs = ap (term_of nodes) (sym (t.rolls-Seq xs)) ∙ fold-roll-TermText Below (term_step nodes) (TermText-F.Seq xs)

pub form_par : (nodes : List PlanNode) (xs : List TermText) → term_of nodes (t.Par xs) ≡ term_step nodes (TermText-F.Par (map (term_of nodes) xs))
form_par nodes xs = ap (term_of nodes) (sym (t.rolls-Par xs)) ∙ fold-roll-TermText Below (term_step nodes) (TermText-F.Par xs)

pub form_at : (nodes : List PlanNode) (p : Place) (node : ℕ) (bs : List ℕ) (x : TermText) → term_of nodes (t.At p node bs x) ≡ term_step nodes (TermText-F.At p node bs (term_of nodes x))
form_at nodes p node bs x = ap (term_of nodes) (sym (t.rolls-At p node bs x)) ∙ fold-roll-TermText Below (term_step nodes) (TermText-F.At p node bs x)

pub form_act : (nodes : List PlanNode) (p : Place) (e : EventText) → term_of nodes (t.Act p e) ≡ term_step nodes (TermText-F.Act p e)
form_act nodes p e = ap (term_of nodes) (sym (t.rolls-Act p e)) ∙ fold-roll-TermText Below (term_step nodes) (TermText-F.Act p e)

pub ruleset forms = (form_seq, form_par, form_at, form_act)

-- where a node is in force
all_here : (nodes : List PlanNode) (xs : List TermText) (here : ℕ) → each_below (map (term_of nodes) xs) here ≡ terms_of nodes xs here
all_here nodes [] here = refl
all_here nodes (x ∷ xs) here = ap (λ ts. term_of nodes x here ∷ ts) (all_here nodes xs here)

pub seq_here : (nodes : List PlanNode) (xs : List TermText) (here : ℕ) → term_of nodes (t.Seq xs) here ≡ term.Seq (terms_of nodes xs here)
seq_here nodes xs here = ap (λ (f : Below). f here) (form_seq nodes xs) ∙ ap term.Seq (all_here nodes xs here)

pub par_here : (nodes : List PlanNode) (xs : List TermText) (here : ℕ) → term_of nodes (t.Par xs) here ≡ term.Par (terms_of nodes xs here)
par_here nodes xs here = ap (λ (f : Below). f here) (form_par nodes xs) ∙ ap term.Par (all_here nodes xs here)
