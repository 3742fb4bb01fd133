-- What is asked of arguments that leave loops, so that what is placed of tables fits.
--
-- A loop is a `mapseq` whose whole body is one lower call or one such loop; those round a call are counted from the
-- inside, the innermost being 1. A parameter whose home is `Held b n` leaves the n innermost loops round its call: its
-- argument is brought in before the n-th of them and taken out behind it. So each time that this loop is begun, it and
-- the loops in it have an iteration; the argument has the same block in all calls that the loop begins; and it shares no
-- element with another argument of any of these calls, or neither is written.
--
-- `mapseq (int i = 0 to 2) { mapseq (int j = 0 to 3) { low(A[i], B[j], C); } }` begins its outer loop once, with two
-- iterations and six calls, and its inner one twice, with three iterations and three calls each: C may leave both
-- loops, A the inner one alone, and B none.
use Rattle.std.specs.Prelude.{◌≡◌, ℕ, ◌+◌, ◌<◌, ◌≤◌, false, List, [], ◌∷◌, ◌++◌, map, get_or, slice_get, Option, Some}
use Rattle.std.specs.Prelude.{None}
use Rattle.sq_text.specs.declared.place.Span.{Span}
use Rattle.sq_ast.specs.Modes.{is_written}
use Rattle.sq_blocks.specs.declared.argument.Argument.{Argument}
use Rattle.sq_form_laws.specs.Laws.{SharesElement}
use Rattle.sq_spec.specs.declared.statement.CallInstance.{CallInstance}
use Rattle.sq_spec.specs.declared.statement.Statement.{Statement}
use Rattle.sq_spec.specs.declared.statement.Statement.TheOpen.{Statement-F}
use Rattle.sq_spec.specs.declared.statement.Statement.TheFolds.{fold-Statement}
use Rattle.sq_spec.specs.declared.body.Body.{Body}
use Rattle.sq_spec.specs.declared.body.Body.TheVariants as body
use Rattle.sq_spec.specs.declared.body.FormBody.{FormBody}
use Rattle.sq_spec.specs.Statements.{over}
use Rattle.sq_placed.specs.declared.home.Home.TheVariants.{InPlace, Held}
use Rattle.sq_placed.specs.declared.home.Homes.{Homes}
use Rattle.sq_placed.specs.Tables.{Chain, chain_of, call_chain, first_of, row_rect}
use Rattle.sq_term_laws.specs.Orders.{EachOf, params_of}
use Rattle.sq_term_laws.specs.Held.{AreHeldInside}

-- ---- the loops that a form begins

-- A loop that is begun: the call in it, with this loop and those inside it; how many iterations it has this time; and
-- the calls that these begin, in order.
pub record BegunLoop : Type 0 where
  pub chain : Chain ℕ
  pub count : ℕ
  pub calls : List CallInstance

-- A statement: the lower call that is all that stands in it, with the loops that it is, if there is one; and what it
-- begins when it is begun for the k-th time: the calls, and the loops.
pub record Begun : Type 0 where
  pub chain : Option (Chain ℕ)
  pub calls : (k : ℕ) → List CallInstance
  pub loops : (k : ℕ) → List BegunLoop

abbrev pub row_list : Option CallInstance → List CallInstance
row_list None = []
row_list (Some r) = r ∷ []

abbrev pub loop_list : Option (Chain ℕ) → (count : ℕ) → List CallInstance → List BegunLoop
loop_list None count calls = []
loop_list (Some h) count calls = record { chain = h; count = count; calls = calls } ∷ []

abbrev pub chains : List Begun → List (Option (Chain ℕ))
chains parts = map (λ p. p.chain) parts

abbrev pub all_calls : List Begun → ℕ → List CallInstance
all_calls [] k = []
all_calls (p ∷ ps) k = p.calls k ++ all_calls ps k

abbrev pub all_loops : List Begun → ℕ → List BegunLoop
all_loops [] k = []
all_loops (p ∷ ps) k = p.loops k ++ all_loops ps k

abbrev pub begun_step : Statement-F Begun → Begun
begun_step (Statement-F.Call lower rows) = record {
  chain = call_chain lower rows;
  calls = λ k. row_list (slice_get rows k);
  loops = λ k. [];
}
begun_step (Statement-F.Map place m counts starts parts) = record {
  chain = chain_of first_of m starts (chains parts);
  calls = λ k. over 0 (get_or counts k 0) (λ t. all_calls parts (get_or starts k 0 + t));
  loops = λ k.
      loop_list (chain_of first_of m starts (chains parts)) (get_or counts k 0)
      (over 0 (get_or counts k 0) (λ t. all_calls parts (get_or starts k 0 + t)))
      ++ over 0 (get_or counts k 0) (λ t. all_loops parts (get_or starts k 0 + t));
}

abbrev pub begun : Statement → Begun
begun = fold-Statement Begun begun_step

-- the statements of a form are begun once
abbrev pub loops_of : Body → List BegunLoop
loops_of (body.Leaf code) = []
loops_of (body.Inner list) = all_loops (map begun list) 0

-- ---- an argument that leaves a loop

-- each other argument of the call shares no element with the i-th one, or neither is written
pub record StandsApart (args : List Argument) (i : ℕ) : Type 0 where
  pub others : (j : ℕ) (x y : Argument) → (j ≡ i → ⊥) → slice_get args i ≡ Some x → slice_get args j ≡ Some y
      → SharesElement x y
      → (is_written x.mode ≡ false) × (is_written y.mode ≡ false)

-- The i-th argument has one block in all of these calls, and stands apart in each; so its block is apart from the
-- others' of any of the calls.
pub record Stays (i : ℕ) (calls : List CallInstance) : Type 0 where
  pub block : List Span
  pub same : EachOf (λ r. row_rect (Some r) i ≡ block) calls
  pub apart : EachOf (λ r. StandsApart r.args i) calls

module _ (homes : ℕ → Homes) where
  -- of a loop's call, which has one form where an argument of it leaves loops
  abbrev pub LeavesLoops : BegunLoop → (i b n : ℕ) → Type 0
  LeavesLoops l i b n = get_or (params_of homes (slice_get l.chain.instances 0)) i InPlace ≡ Held b n

  pub record LoopHolds (l : BegunLoop) : Type 0 where
    -- a loop that an argument leaves has an iteration
    pub some : (i b n : ℕ) → LeavesLoops l i b n → l.chain.loops ≤ n → 0 < l.count
    -- an argument stays in the outermost loop that it leaves, and so in those inside it
    pub stays : (i b : ℕ) → LeavesLoops l i b l.chain.loops → Stays i l.calls

-- Arguments leave loops that stand round their calls, and each loop that a form begins is one that they may leave.
pub record HoldsFit (bodies : ℕ → FormBody) (homes : ℕ → Homes) : Type 0 where
  pub rounds : AreHeldInside bodies homes
  pub loops : (k : ℕ) → EachOf (LoopHolds homes) (loops_of (bodies k).body)

-- Where no argument leaves a loop, nothing is asked.
abbrev pub UnheldFits : Type 0
UnheldFits = (bodies : ℕ → FormBody) (homes : ℕ → Homes)
    → ((f i b n : ℕ) → get_or (homes f).params i InPlace ≡ Held b n → ⊥) → HoldsFit bodies homes
