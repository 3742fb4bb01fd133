-- Each leaf event is a call of a form that is a leaf, at a node of its level.
use Rattle.std.proofs.Common.{ℕ, List, map, refl, ◌∙◌}
use Rattle.sq_spec.specs.declared.body.FormBody.{FormBody}
use Rattle.sq_ir.specs.declared.term.Action.{Action}
use Rattle.sq_ir.specs.declared.term.Action.TheVariants as action
use Rattle.sq_ir.specs.Written.{Setting, Env, at_root, event_of, node_of}
use Rattle.sq_ir.specs.Plans.{AskedOfActions}
use Rattle.sq_ir.proofs.Meeting.{met-entry}
use Rattle.sq_placed.specs.declared.home.Homes.{Homes}
use Rattle.sq_term.specs.Terms.{entry_term, buffer_or}
use Rattle.sq_program_laws.specs.TermLaws.Fits.{NodeAt}
use Rattle.sq_program_laws.proofs.TermLaws.Meeting.{entry_is_fine}
use Rattle.sq_draft_laws.specs.AtLevels.{IsAtLevel, LeavesAreAtLevels}
use Rattle.sq_draft_laws.proofs.AtNodes.{with_node, at_nodes}
use Rattle.sq_draft_laws.proofs.Back.{with_both}
use Rattle.sq_draft_laws.proofs.Moves.{Leveled, Settled}
use Rattle.sq_draft_laws.proofs.Scoped.{entry_up}

-- nothing is asked
abbrev Nothing : AskedOfActions
Nothing env bs a = Unit {0}

module _ (s : Setting) (nodes : ℕ) (level_of : ℕ → ℕ) (bodies : ℕ → FormBody) (homes : ℕ → Homes) (level : ℕ → ℕ)
  where
    abbrev forms : Leveled
    forms = record { code = λ f. (homes f).code; level = level }

    is_at : (env : Env) (bs : List ℕ) (a : Action) → with_both Nothing (Settled s bodies forms) env bs a
        → NodeAt nodes level_of env.level (node_of env) → IsAtLevel bodies homes level level_of (event_of s env a)
    is_at env bs (action.CopyRow from to bytes) h here = tt
    is_at env bs (action.FillRow to elem count value) h here = tt
    is_at env bs (action.AccRow op elem from to count) h here = tt
    is_at env bs (action.Leaf code views path) h here = record {
      form = h.1.1.form;
      leaf = h.1.1.leaf;
      is = h.1.1.is;
      code_is = h.1.1.code_is;
      level_is = here.1 ∙ h.1.1.level_is;
    }

pub leaves_are_at_levels : LeavesAreAtLevels
leaves_are_at_levels s most bounds last nodes level_of machine bodies homes level leveled tabled roomy near first root
    here n args fits =
    let buffers = map buffer_or (homes 0).params in
    let term = entry_term bodies homes n args in
    let asked = with_both Nothing (Settled s bodies (forms s nodes level_of bodies homes level)) in
    met-entry (IsAtLevel bodies homes level level_of) s
    (with_node s most last (NodeAt nodes level_of) machine asked)
    (λ env bs a h. is_at s nodes level_of bodies homes level env bs a h.0 h.1) 0 buffers term at_root
    (at_nodes s most last (NodeAt nodes level_of) machine asked term at_root buffers here
    (entry_up s bodies homes level leveled roomy near Nothing first root n args _ fits at_root refl
    (entry_is_fine s most bounds last nodes level_of machine bodies homes level leveled tabled
    near.stand first here n args buffers)))
