-- The ways from a part of a term to the scopes in it.
use Rattle.std.specs.Prelude.{◌≡◌, ℕ, suc, ◌+◌, ◌==◌, nat_lt, Bool, true, false, List, [], ◌∷◌, ◌++◌, map, length}
use Rattle.std.specs.Prelude.{get_or, set, replicate, Option, Some, None, if◌then◌else◌}
use Rattle.sq_ir.specs.declared.num.Num.{Num}
use Rattle.sq_ir.specs.declared.term.Term.{Term, roll-Term}
use Rattle.sq_ir.specs.declared.term.Term.TheOpen.{Term-F}
use Rattle.sq_ir.specs.declared.term.Term.TheFolds.{fold-Term, map-Term}
use Rattle.sq_term_nums.specs.Words.{Env, turns_of, value, count}
use Rattle.sq_nests.specs.Nests.{Nest, End, Open}
use Rattle.sq_nests.specs.Stacks.{capped}
use Rattle.sq_sums.specs.Parts.{all_parts, each_turn, arm_at, through}
use Rattle.sq_sums.specs.Tops.{has_scope}
use Rattle.sq_sums.specs.Regions.{names_no_loop_outside}
use Rattle.sq_sums.specs.Sites.{Site}
use Rattle.sq_sums.specs.declared.marks.Position as rust
use Rattle.sq_sums.specs.declared.route.Route.{Route}
use Rattle.sq_sums.specs.declared.route.Route.TheVariants as r
use Rattle.sq_sums.specs.declared.route.Route.TheOpen.{Route-F}
use Rattle.sq_sums.specs.declared.route.Route.TheFolds.{fold-Route}

-- ---- which way is term_layout of a term

-- What is term_layout of a part in which so much is open: its way, where scopes are numbered from `first` on, and its
-- scopes.
pub record Layout : Type 0 where
  pub route : (held first : ℕ) → Route
  pub sites : (held : ℕ) → List Site

abbrev pub no_layout : Layout
no_layout = record { route = λ held first. r.Nothing; sites = λ held. [] }

abbrev pub all_sites : List Layout → ℕ → List Site
all_sites [] held = []
all_sites (b ∷ bs) held = b.sites held ++ all_sites bs held

abbrev pub all_routes : List Layout → (held first : ℕ) → List Route
all_routes [] held first = []
all_routes (b ∷ bs) held first = b.route held first ∷ all_routes bs held (first + length (b.sites held))

abbrev pub list_layout : (List Route → Route) → List Layout → Layout
list_layout f bs = record { route = λ held first. f (all_routes bs held first); sites = all_sites bs }

abbrev pub loop_layout : Num → Term → Layout → Layout
loop_layout c body b = if has_scope body then record
    { route = λ held first. r.Each c (b.route held first); sites = b.sites } else no_layout

abbrev pub top_of : Option Num → (held weight : ℕ) → ℕ
top_of None held w = capped (held + w)
top_of (Some c) held w = w

abbrev pub into : Option Num → Route → Route
into None x = x
into (Some c) x = r.Inside c x

abbrev pub scope_and : Option Num → ℕ → Route → Route
scope_and c number x = r.Parts (r.Scope c number ∷ into c x ∷ [])

-- a scope in which `top` is open: with a body that is gone through on its own, or with the part
abbrev pub own_layout : Option Num → Term → Layout
own_layout c body = record {
  route = λ top first. r.Scope c first;
  sites = λ top. record
      { body = body; top = top; own = true } ∷ [];
}

abbrev pub joint_layout : Option Num → Term → Layout → Layout
joint_layout c body b = record {
  route = λ top first. scope_and c first (b.route top (suc first));
  sites
      = λ top. record { body = body; top = top; own = false } ∷ b.sites top;
}

abbrev pub scope_layout : Option Num → Term → Layout → Layout
scope_layout c body b = if names_no_loop_outside body then own_layout c body else joint_layout c body b

abbrev pub within_layout : (weight : ℕ) → Option Num → Term → Layout → Layout
within_layout w c body b =
    let s = scope_layout c body b in
    record { route = λ held first. s.route (top_of c held w) first; sites = λ held. s.sites (top_of c held w) }

-- a term with what is term_layout of it
pub record TermLayout : Type 0 where
  pub term : Term
  pub layout : Layout

abbrev pub layouts_in : List TermLayout → List Layout
layouts_in xs = map (λ x. x.layout) xs

abbrev pub layout_step : (List ℕ → ℕ) → Term-F TermLayout → Layout
layout_step weigh Term-F.Skip = no_layout
layout_step weigh (Term-F.Act a) = no_layout
layout_step weigh (Term-F.Seq xs) = list_layout r.Parts (layouts_in xs)
layout_step weigh (Term-F.Par xs) = list_layout r.Parts (layouts_in xs)
layout_step weigh (Term-F.Loop c x) = loop_layout c x.term x.layout
layout_step weigh (Term-F.Spread c rule x) = loop_layout c x.term x.layout
layout_step weigh (Term-F.Case k xs) = list_layout (r.Arm k) (layouts_in xs)
layout_step weigh (Term-F.Within c bs x) = within_layout (capped (weigh bs)) c x.term x.layout

abbrev pub term_layout_step : (List ℕ → ℕ) → Term-F TermLayout → TermLayout
term_layout_step weigh x = record
    { term = roll-Term (map-Term TermLayout Term (λ y. y.term) x); layout = layout_step weigh x }

abbrev pub term_layout : (List ℕ → ℕ) → Term → TermLayout
term_layout weigh = fold-Term TermLayout (term_layout_step weigh)

abbrev pub layout : (List ℕ → ℕ) → Term → Layout
layout weigh x = (term_layout weigh x).layout

-- what a call adds to a list of scopes, and the way that it gives
pub record AddsOne (b : Layout) (held : ℕ) (old new : List Site) (x : Route) : Type 0 where
  pub route : x ≡ b.route held (length old)
  pub sites : new ≡ old ++ b.sites held

pub record AddsAll (bs : List Layout) (held : ℕ) (old new : List Site) (xs : List Route) : Type 0 where
  pub routes : xs ≡ all_routes bs held (length old)
  pub sites : new ≡ old ++ all_sites bs held

-- ---- where a way leads

-- The numbers of the iterations, innermost first; and the node in force: 0 for the node at which the part stands,
-- c + 1 for its c-th child.
pub record Position : Type 0 where
  pub turns : List ℕ
  pub way : ℕ

pub record Arrival : Type 0 where
  pub number : ℕ
  pub way : ℕ

abbrev pub Arrivals : Type 0
Arrivals = Nest Arrival

abbrev pub ArrivalsAt : Type 0
ArrivalsAt = Position → Arrivals

abbrev pub position_of : rust.Position → Position
position_of g = record { turns = turns_of g.turns.now; way = g.way }

abbrev pub next_position : Position → ℕ → Position
next_position g t = record { turns = t ∷ g.turns; way = g.way }

module _ (fan : ℕ) where
  abbrev pub env_on_way : Position → Env
  env_on_way g = record { turns = g.turns; children = fan }

  -- from the part's node to its k-th child, if it has one
  abbrev pub to_child : (k : ℕ) → (ℕ → Arrivals) → (way : ℕ) → Arrivals
  to_child k f way = if way == 0 then (if nat_lt k fan then f (suc k) else End) else End

  abbrev pub scope_arrivals : Option Num → (number : ℕ) → ArrivalsAt
  scope_arrivals None j g = Open (record { number = j; way = g.way }) End
  scope_arrivals (Some c) j g = to_child (count c (env_on_way g)) (λ w. Open (record { number = j; way = w }) End) g.way

  abbrev pub arrivals_step : Route-F ArrivalsAt → ArrivalsAt
  arrivals_step Route-F.Nothing g = End
  arrivals_step (Route-F.Parts fs) g = all_parts fs g
  arrivals_step (Route-F.Each c f) g = each_turn (count c (env_on_way g)) (λ t. f (next_position g t)) 0
  arrivals_step (Route-F.Arm k fs) g = arm_at fs (value k (env_on_way g)) g
  arrivals_step (Route-F.Scope c j) g = scope_arrivals c j g
  arrivals_step (Route-F.Inside c f) g
      = to_child (count c (env_on_way g)) (λ w. f (record { turns = g.turns; way = w })) g.way

  abbrev pub arrivals : Route → ArrivalsAt
  arrivals = fold-Route ArrivalsAt arrivals_step

-- ---- which scopes are reached: a row for each scope, with a mark for each way

abbrev pub mark : Arrival → List (List Bool) → List (List Bool)
mark a rows = set rows a.number (set (get_or rows a.number []) a.way true)

abbrev pub no_marks : (sites fan : ℕ) → List (List Bool)
no_marks d fan = replicate d (replicate (suc fan) false)

-- at the node of a part with so many children
abbrev pub marks : (fan sites : ℕ) → Route → List (List Bool)
marks fan d x = through mark (arrivals fan x (record { turns = []; way = 0 })) (no_marks d fan)
