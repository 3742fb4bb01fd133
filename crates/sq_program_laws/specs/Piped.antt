-- What is asked of loops whose transfers overlap, so that what is placed of tables fits.
--
-- The copies in of iteration t + 1 run beside the work of iteration t, and its copies out beside the work of t + 1 or
-- of t + 2. So each parameter of the call has two buffers, used in turn, or leaves the loop; and what an iteration of a
-- `mapseq` writes is neither read nor written by the next two, but for arguments that leave loops: these stay in
-- their one buffer. Of a `mappar` nothing of that kind is asked, since no two of its iterations share what one writes.
--
-- `mapseq (int t = 0 to 4) { low(A[t], B[t], C); }` may overlap its transfers if A and B have two buffers and C leaves
-- the loop; `mapseq (int t = 1 to 4) { low(A[t - 1], A[t]); }` may not where the second argument is written.
use Rattle.std.specs.Prelude.{◌≡◌, ℕ, suc, ◌+◌, ◌<◌, true, get_or, slice_get, Some}
use Rattle.sq_ast.specs.Modes.{is_written}
use Rattle.sq_blocks.specs.declared.argument.Argument.{Argument}
use Rattle.sq_form_laws.specs.Laws.{SharesElement}
use Rattle.sq_spec.specs.declared.statement.LoopKind.{LoopKind}
use Rattle.sq_spec.specs.declared.statement.LoopKind.TheVariants as loop_kind
use Rattle.sq_spec.specs.declared.statement.CallInstance.{CallInstance}
use Rattle.sq_spec.specs.declared.body.FormBody.{FormBody}
use Rattle.sq_placed.specs.declared.home.Home.{Home}
use Rattle.sq_placed.specs.declared.home.Home.TheVariants.{InPlace, Own, Held, Twin}
use Rattle.sq_placed.specs.declared.home.Homes.{Homes}
use Rattle.sq_placed.specs.Tables.{row_form}
use Rattle.sq_placed.specs.Pipes.{CallLoop, call_loops_of, IsPiped, PipesStand, NonePiped}
use Rattle.sq_cells.specs.Work.{Buffer}
use Rattle.sq_plan_laws.specs.Calling.{place_of}
use Rattle.sq_term_laws.specs.Orders.{EachOf}

-- it has two buffers, or leaves loops
abbrev pub IsDoubled : Home → Type 0
IsDoubled InPlace = ⊥
IsDoubled (Own b) = ⊥
IsDoubled (Held b loops) = Unit {0}
IsDoubled (Twin b c) = Unit {0}

module _ (homes : ℕ → Homes) where
  -- of a row's i-th argument
  abbrev pub home_of : CallInstance → (i : ℕ) → Home
  home_of r i = get_or (homes r.form).params i InPlace

  -- what the first row writes shares no element with what the second one has, arguments that leave loops left aside
  pub record IsClear (r q : CallInstance) : Type 0 where
    pub apart : (i j : ℕ) (x y : Argument) → slice_get r.args i ≡ Some x → slice_get q.args j ≡ Some y
        → place_of (home_of r i) ≡ Buffer → place_of (home_of q j) ≡ Buffer → is_written x.mode ≡ true
        → SharesElement x y → ⊥

  -- so it is of each iteration and the two behind it, each time that the loop is begun
  pub record IsClearAhead (l : CallLoop) : Type 0 where
    pub one : (k t : ℕ) (r q : CallInstance) → suc t < get_or l.counts k 0
        → slice_get l.rows (get_or l.starts k 0 + t) ≡ Some r → slice_get l.rows (get_or l.starts k 0 + suc t) ≡ Some q
        → IsClear r q
    pub two : (k t : ℕ) (r q : CallInstance) → suc (suc t) < get_or l.counts k 0
        → slice_get l.rows (get_or l.starts k 0 + t) ≡ Some r
        → slice_get l.rows (get_or l.starts k 0 + suc (suc t)) ≡ Some q → IsClear r q

  abbrev pub IsClearBy : LoopKind → CallLoop → Type 0
  IsClearBy loop_kind.Sequential l = IsClearAhead l
  IsClearBy loop_kind.Parallel l = Unit {0}
  IsClearBy (loop_kind.Reduction r) l = Unit {0}

  pub record LoopOverlaps (l : CallLoop) : Type 0 where
    pub stands : IsPiped l
    pub doubled : (j i : ℕ) (r : CallInstance) (a : Argument) → slice_get l.rows j ≡ Some r → slice_get r.args i ≡
        Some a
        → IsDoubled (home_of r i)
    pub clear : IsClearBy l.kind l

  -- asked of a loop of a call of one form if its transfers overlap
  abbrev pub MayOverlap : CallLoop → Type 0
  MayOverlap l = (homes (row_form (slice_get l.rows 0))).overlaps ≡ true → LoopOverlaps l

-- so it is of the loops of all forms
pub record PipesFit (bodies : ℕ → FormBody) (homes : ℕ → Homes) : Type 0 where
  pub loops : (k : ℕ) → EachOf (MayOverlap homes) (call_loops_of (bodies k).body)

-- Where no loop overlaps its transfers, nothing is asked.
abbrev pub UnpipedFits : Type 0
UnpipedFits = (bodies : ℕ → FormBody) (homes : ℕ → Homes) → NonePiped homes → PipesFit bodies homes

-- The placed source and its term stand for such tables.
abbrev pub PipesFitStand : Type 0
PipesFitStand = (bodies : ℕ → FormBody) (homes : ℕ → Homes) → PipesFit bodies homes → PipesStand bodies homes
