-- The loops that may overlap their transfers, room left aside.
--
-- A loop is a `mapseq` whose body is one lower call that has one form, with at least two iterations each time that it is
-- begun; or a spread `mappar` of such a call, with more iterations each time than any of its nodes has children. No block
-- that is written by iteration t or the one before it may share an element with a block of iteration t + 1, read or
-- written; arguments that leave loops are left aside. Of a `mappar` this needs no look: in a program without a race no
-- two iterations share an element that either writes.
--
-- `mapseq (int i = 0 to 3) low(A[i], B[i])` is one where A is read and B is written; `mapseq (int i = 0 to 3)
-- low(A[i], A[i + 1])` isn't, since what iteration 0 writes is what iteration 1 reads.
use Rattle.std.specs.Prelude.{ℕ, suc, ◌==◌, nat_le, nat_lt, Bool, true, false, not, ◌&&◌, ◌||◌, List, [], ◌∷◌, ◌++◌}
use Rattle.std.specs.Prelude.{map, get_or, Option, Some, None, if◌then◌else◌}
use Rattle.std.specs.List.{list_all}
use Rattle.sq_text.specs.declared.place.Place.{Place}
use Rattle.sq_ir.specs.Ast.Modes.{is_written}
use Rattle.sq_ir.specs.Blocks.declared.argument.Argument.{Argument}
use Rattle.sq_forms.specs.Calls.{shares}
use Rattle.sq_spec.specs.declared.statement.LoopKind.{LoopKind}
use Rattle.sq_spec.specs.declared.statement.LoopKind.TheVariants as loop_kind
use Rattle.sq_spec.specs.declared.statement.CallInstance.{CallInstance}
use Rattle.sq_spec.specs.declared.statement.Statement.{Statement}
use Rattle.sq_spec.specs.declared.statement.Statement.TheOpen.{Statement-F}
use Rattle.sq_spec.specs.declared.statement.Statement.TheFolds.{fold-Statement}
use Rattle.sq_spec.specs.Spreads.{any_of, is_spread}
use Rattle.sq_hoist.specs.Loops.{cut}
use Rattle.sq_pipe.specs.declared.candidate.Candidate.{Candidate}

-- ---- blocks of iterations in turn

-- leaves: of each argument how many loops it leaves
abbrev pub is_held : List ℕ → ℕ → Bool
is_held leaves i = nat_lt 0 (get_or leaves i 0)

-- the block shares no element with those of these arguments, from the j-th on
abbrev pub is_clear_of : (leaves : List ℕ) → Argument → (j : ℕ) → List Argument → Bool
is_clear_of leaves x j [] = true
is_clear_of leaves x j (y ∷ ys) = (is_held leaves j || not (shares x y)) && is_clear_of leaves x (suc j) ys

-- nor do the written ones of the first arguments, from the i-th on
abbrev pub are_clear_of : (leaves : List ℕ) → (i : ℕ) → List Argument → List Argument → Bool
are_clear_of leaves i [] ys = true
are_clear_of leaves i (x ∷ xs) ys =
    (is_held leaves i || not (is_written x.mode) || is_clear_of leaves x 0 ys) && are_clear_of leaves (suc i) xs ys

abbrev pub is_clear : (leaves : List ℕ) → CallInstance → CallInstance → Bool
is_clear leaves r q = are_clear_of leaves 0 r.args q.args

-- what an iteration writes is clear of the next two
abbrev pub is_ahead : (leaves : List ℕ) → CallInstance → List CallInstance → Bool
is_ahead leaves r [] = true
is_ahead leaves r (q ∷ []) = is_clear leaves r q
is_ahead leaves r (q ∷ p ∷ rest) = is_clear leaves r q && is_clear leaves r p

-- of the iterations of one time
abbrev pub are_ahead : (leaves : List ℕ) → List CallInstance → Bool
are_ahead leaves [] = true
are_ahead leaves (r ∷ rows) = is_ahead leaves r rows && are_ahead leaves rows

-- ---- loops

abbrev pub have_one_form : List CallInstance → Bool
have_one_form [] = false
have_one_form (r ∷ rows) = list_all (λ q. q.form == r.form) rows

abbrev pub first_form : List CallInstance → ℕ
first_form [] = 0
first_form (r ∷ rows) = r.form

-- leaves: how many loops the arguments of each form's call leave; children: how many the nodes have at most at which
-- the caller runs
abbrev pub may_overlap : (leaves : ℕ → List ℕ) → (children : ℕ) → LoopKind → (spread : Bool) → (counts : List ℕ)
    → List CallInstance → Bool
may_overlap leaves children loop_kind.Sequential spread counts rows =
    have_one_form rows && list_all (λ n. nat_le 2 n) counts
    && list_all (are_ahead (leaves (first_form rows))) (cut counts rows)
may_overlap leaves children loop_kind.Parallel spread counts rows =
    spread && have_one_form rows && list_all (λ n. nat_lt children n) counts
may_overlap leaves children (loop_kind.Reduction r) spread counts rows = false

-- ---- the loops of a form

-- A statement: its rows if it is a lower call, whether lower and same-level calls stand in it, and its loops that may
-- overlap, where a spread map stands round it or not.
pub record Seen : Type 0 where
  pub call : Option (List CallInstance)
  pub lower : Bool
  pub same : Bool
  pub loops : (inside : Bool) → List Candidate

abbrev pub all_loops : List Seen → Bool → List Candidate
all_loops [] inside = []
all_loops (s ∷ list) inside = s.loops inside ++ all_loops list inside

-- the rows of the call that is the whole body of a map, if one is
abbrev pub only_call : List (Option (List CallInstance)) → Option (List CallInstance)
only_call (o ∷ []) = o
only_call list = None

module _ (leaves : ℕ → List ℕ) (children caller : ℕ) where
  abbrev pub own_loop : Place → LoopKind → (spread : Bool) → (counts : List ℕ) → Option (List CallInstance)
      → List Candidate
  own_loop place kind spread counts None = []
  own_loop place kind spread counts (Some rows) =
      if may_overlap leaves children kind spread counts rows
      then record { caller = caller; form = first_form rows; place = place } ∷ [] else []

  -- Of a map: whether lower and same-level calls stand in its parts, their rows where they are lower calls, and what is
  -- seen of them.
  abbrev pub map_loops : Place → LoopKind → (counts : List ℕ) → (lowers sames : List Bool)
      → List (Option (List CallInstance)) → List Seen → (inside : Bool) → List Candidate
  map_loops place kind counts lowers sames calls parts inside =
      let spread = is_spread kind inside (any_of lowers) (any_of sames) in
      own_loop place kind spread counts (only_call calls) ++ all_loops parts (inside || spread)

  abbrev pub seen_step : Statement-F Seen → Seen
  seen_step (Statement-F.Call lower instances) = record {
    call = if lower then Some instances else None;
    lower = lower;
    same = not lower;
    loops = λ inside. [];
  }
  seen_step (Statement-F.Map place kind counts starts parts) = record {
    call = None;
    lower = any_of (map (λ s. s.lower) parts);
    same = any_of (map (λ s. s.same) parts);
    loops = map_loops place kind counts (map (λ s. s.lower) parts) (map (λ s. s.same) parts) (map (λ s. s.call) parts)
        parts;
  }

  abbrev pub seen : Statement → Seen
  seen = fold-Statement Seen seen_step

  -- in text order
  abbrev pub candidates : List Statement → List Candidate
  candidates list = all_loops (map seen list) false

-- ---- the rows of a call, whatever the form

abbrev pub call_step : Statement-F (Option (List CallInstance)) → Option (List CallInstance)
call_step (Statement-F.Call lower instances) = if lower then Some instances else None
call_step (Statement-F.Map place kind counts starts parts) = None

abbrev pub call_in : Statement → Option (List CallInstance)
call_in = fold-Statement (Option (List CallInstance)) call_step
