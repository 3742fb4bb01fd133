-- A loop whose transfers overlap, as the builder makes it.
use Rattle.std.proofs.Common.{◌≡◌, ℕ, zero, suc, ℤ, List, [], ◌∷◌, map, slice_get, length, drop, Option, Some}
use Rattle.std.proofs.Common.{None, refl, sym, ap, ap₂, subst, ◌∙◌, ◌++◌}
use Rattle.sq_text.specs.declared.spread.SpreadRule.{SpreadRule}
use Rattle.sq_ir.specs.declared.num.Num.{Num}
use Rattle.sq_ir.specs.declared.term.LeafView.{LeafView}
use Rattle.sq_ir.specs.declared.term.Term.{Term}
use Rattle.sq_ir.specs.declared.term.Term.TheVariants as term
use Rattle.sq_spec.specs.Blocks.declared.argument.Argument.{Argument}
use Rattle.sq_spec.specs.declared.statement.CallInstance.{CallInstance}
use Rattle.sq_spec.specs.declared.body.FormBody.{FormBody}
use Rattle.sq_spec.specs.Bodies.{no_body}
use Rattle.sq_tables.specs.Placed.declared.home.Homes.{Homes}
use Rattle.sq_tables.specs.Placed.Tables.{placed_locals, locals_of, row_form}
use Rattle.sq_tables.specs.Placed.Trees.{home_in_set}
use Rattle.sq_tables.specs.Term.declared.context.Context.{Context}
use Rattle.sq_tables.specs.Term.Terms.{lift_view, bytes_in, bytes_of, bytes_at, unless_zero, numbers, count_num, no_homes}
use Rattle.sq_tables.specs.Term.Terms.{body_in, homes_in, moves_from, row_args, set_buffers_from, fill_held_term, callee_term}
use Rattle.sq_tables.specs.Term.Terms.{in_callee, lanes_term, come_term, leave_term}
use Rattle.sq_tables.specs.Term.declared.context.Move.{Move}
use Rattle.sq_tables.specs.Cases.{AreTables}
use Rattle.sq_tables.proofs.Lists.{an_item}
use Rattle.sq_draft.specs.declared.forms.Places.{Places}
use Rattle.sq_draft.specs.Building.{callee_in, pipe_by}
use Rattle.sq_draft.specs.Piping.{Piping, piped_in, outer_of, places_of}

-- ---- tables of offsets one loop further in

lifted_bytes : (views : List LeafView) (k : ℕ) (a : Argument) → bytes_in (slice_get (map lift_view views) k) a
    ≡ bytes_in (slice_get views k) a
lifted_bytes [] k a = refl
lifted_bytes (v ∷ vs) zero a = refl
lifted_bytes (v ∷ vs) (suc k) a = lifted_bytes vs k a

lifted_at : (views : List LeafView) (i : ℕ) (r : CallInstance) → bytes_at (map lift_view views) i r ≡ bytes_at views i r
lifted_at views i r = go (slice_get r.args i)
  where
    go : (o : Option Argument) → bytes_of (map lift_view views) o ≡ bytes_of views o
    go None = refl
    go (Some a) = lifted_bytes views a.array a

all_lifted : (views : List LeafView) (i : ℕ) (rows : List CallInstance) → map (bytes_at (map lift_view views) i) rows
    ≡ map (bytes_at views i) rows
all_lifted views i [] = refl
all_lifted views i (r ∷ rs) = ap₂ (λ a b. a ∷ b) (lifted_at views i r) (all_lifted views i rs)

tables_lifted : (views : List LeafView) (rows : List CallInstance) (tables : List (Option (List ℤ)))
    → AreTables views rows tables → AreTables (map lift_view views) rows tables
tables_lifted views rows tables h =
    record { each = λ i table is. h.each i table is ∙ sym (ap unless_zero (all_lifted views i rows)) }

pub record HavePlaces (s : Places) (rows : List CallInstance) (tables : List (Option (List ℤ))) : Type 0 where
  pub outer : AreTables s.outer.context.views rows tables
  pub inner : AreTables s.inner.context.views rows tables
  pub work : AreTables s.work.views rows tables

outer_tables : (spread : Option SpreadRule) (count : Num) (c : Context) (rows : List CallInstance)
    (tables : List (Option (List ℤ))) → AreTables c.views rows tables
    → AreTables (outer_of spread count c).context.views rows tables
outer_tables None count c rows tables h = h
outer_tables (Some rule) count c rows tables h =
    tables_lifted (map lift_view c.views) rows tables (tables_lifted c.views rows tables h)

pub places_have : (s : Places) (spread : Option SpreadRule) (count : Num) (starts : List ℤ) (c : Context)
    (rows : List CallInstance) (tables : List (Option (List ℤ)))
    → s ≡ places_of spread count starts c → AreTables c.views rows tables → HavePlaces s rows tables
places_have s spread count starts c rows tables is h = subst (λ z. HavePlaces z rows tables) (sym is) (record {
  outer = outer_tables spread count c rows tables h;
  inner = tables_lifted (outer_of spread count c).context.views rows tables (outer_tables spread count c rows tables h);
  work = tables_lifted (outer_of spread count c).context.views rows tables (outer_tables spread count c rows tables h);
})

-- ---- the loop

-- what it is made from, by the first row of its call
abbrev pub piping_of : FormBody → Homes → List CallInstance → CallInstance → (starts : List ℕ) → Piping
piping_of bd own rows row starts = record {
  op = None;
  form = row.form;
  shapes = bd.arrays;
  params = own.params;
  locals = placed_locals (drop (length own.params) bd.arrays) own.locals;
  rows = rows;
  args = row.args;
  starts = numbers starts;
}

module _ (bodies : List FormBody) (homes : List Homes) (depth : ℕ) (rows : List CallInstance) (counts starts : List ℕ)
    (c : Context) where
  abbrev made_of : Option SpreadRule → FormBody → Homes → CallInstance → Term
  made_of spread bd own row = piped_in (callee_in bodies homes depth) (piping_of bd own rows row starts) spread
      (count_num counts c) c

  -- the definition, by the row that stands first
  abbrev first_moves : Option CallInstance → (set : ℕ) → Context → List Move
  first_moves o set at =
      moves_from None (body_in bodies (row_form o)).arrays (map (home_in_set set) (homes_in homes (row_form o)).params) at
      rows 0 (row_args o)

  abbrev first_work : Option CallInstance → (set : ℕ) → Context → Term
  first_work o set at =
      let ks = locals_of (body_in bodies (row_form o)) (homes_in homes (row_form o)) in
      term.Seq
      (term.Par (map fill_held_term (first_moves o set at))
      ∷ callee_term ks (callee_in bodies homes depth (row_form o) (in_callee at (first_moves o set at) ks))
      ∷ [])

  abbrev by_first : Option SpreadRule → Option CallInstance → Term
  by_first spread o =
      let params = (homes_in homes (row_form o)).params in
      lanes_term spread (count_num counts c) starts
      (set_buffers_from 0 params 0 (row_args o) ++ set_buffers_from 1 params 0 (row_args o)) c
      (λ set at. come_term (first_moves o set at)) (first_work o) (λ set at. leave_term (first_moves o set at))

  by_row : (spread : Option SpreadRule) (row : CallInstance) → slice_get rows 0 ≡ Some row
      → made_of spread (body_in bodies row.form) (homes_in homes row.form) row
      ≡ pipe_by bodies homes depth (Some (record { spread = spread; rows = rows })) counts starts c term.Skip
  by_row None row at = sym (ap (by_first None) at)
  by_row (Some rule) row at = sym (ap (by_first (Some rule)) at)

  pub piped_made : (spread : Option SpreadRule) (row : CallInstance) (own : Homes) (bd : FormBody) (p : Piping)
      → slice_get rows 0 ≡ Some row → slice_get homes row.form ≡ Some own → slice_get bodies row.form ≡ Some bd
      → p ≡ piping_of bd own rows row starts
      → piped_in (callee_in bodies homes depth) p spread (count_num counts c) c
      ≡ pipe_by bodies homes depth (Some (record { spread = spread; rows = rows })) counts starts c term.Skip
  piped_made spread row own bd p at has is e =
      ap (λ (q : Piping). piped_in (callee_in bodies homes depth) q spread (count_num counts c) c) e
      ∙ ap₂ (λ (z : FormBody) (y : Homes). made_of spread z y row) (an_item bodies row.form no_body bd is)
      (an_item homes row.form no_homes own has)
      ∙ by_row spread row at
