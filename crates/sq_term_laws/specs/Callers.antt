-- What stands round the buffers of forms, where each form but the first has one caller, and buffers are numbered.
use Rattle.std.specs.Prelude.{◌≡◌, ℕ, zero, suc, ◌<◌, ◌==◌, Bool, List, [], ◌∷◌, ◌++◌, take, length, slice_get, Some}
use Rattle.std.specs.Prelude.{if◌then◌else◌}
use Rattle.sq_ir.specs.declared.plan.Buffer.{Buffer}
use Rattle.sq_ir.specs.Plans.{of_buffer}
use Rattle.sq_blocks.specs.declared.argument.Argument.{Argument}
use Rattle.sq_spec.specs.declared.statement.CallInstance.{CallInstance}
use Rattle.sq_spec.specs.declared.body.FormBody.{FormBody}
use Rattle.sq_placed.specs.declared.home.Home.{Home}
use Rattle.sq_placed.specs.declared.home.Homes.{Homes}
use Rattle.sq_placed.specs.Trees.{buffer_of, twin_of, local_buffers}
use Rattle.sq_placed.specs.Tables.{locals_of}
use Rattle.sq_term.specs.Terms.{entry_row}
use Rattle.sq_nests.specs.Stacks.{of_level, those, OnStack}
use Rattle.sq_term_laws.specs.Overlapping.{OverlapsStand}
use Rattle.sq_term_laws.specs.Orders.{EachOf, Round, rounds_of, held_over, round_held, own_locals, AreInOrder}

abbrev pub home_buffers : List Home → List ℕ
home_buffers [] = []
home_buffers (h ∷ hs) = buffer_of h (home_buffers hs)

-- those of one of the two sets
abbrev pub home_set : (set : ℕ) → List Home → List ℕ
home_set set [] = []
home_set set (h ∷ hs) = twin_of set h (home_set set hs)

-- Of a buffer its form, and how many buffers of its form stand in front of it; of a form its caller, and how many loops
-- stand round its call.
pub record Numbering : Type 0 where
  pub form : (buffer : ℕ) → ℕ
  pub index : (buffer : ℕ) → ℕ
  pub caller : (form : ℕ) → ℕ
  pub loops : (form : ℕ) → ℕ

module _ (buffers : List Buffer) (bodies : ℕ → FormBody) (homes : ℕ → Homes) (k : Numbering) where
  -- the buffers of a form: its arguments that leave loops, those that leave more in front, then its other arguments,
  -- twice where the loop of its call overlaps its transfers, and behind them its locals
  abbrev pub own : ℕ → List ℕ
  own f = held_over (k.loops f) 0 (homes f).params
      ++ (home_buffers (homes f).params
      ++ (home_set 0 (homes f).params
      ++ (home_set 1 (homes f).params ++ local_buffers (locals_of (bodies f) (homes f)))))

  -- those that pass a test, with those of its caller in front, and so on
  abbrev pub stack : (here : ℕ → Bool) → (fuel : ℕ) → ℕ → List ℕ
  stack here zero f = []
  stack here (suc n) f = (if f == 0 then [] else stack here n (k.caller f)) ++ those here (own f)

  abbrev pub outer : (here : ℕ → Bool) → ℕ → List ℕ
  outer here f = stack here (suc f) f

  abbrev pub above : (here : ℕ → Bool) → ℕ → List ℕ
  above here f = if f == 0 then [] else stack here f (k.caller f)

  abbrev pub level_in : ℕ → ℕ
  level_in = of_buffer buffers (λ b. b.level)

  -- the buffers of its level that a buffer stands behind
  abbrev pub before : ℕ → List ℕ
  before b = above (of_level buffers (level_in b)) (k.form b)
      ++ those (of_level buffers (level_in b)) (take (k.index b) (own (k.form b)))

  -- a row of a call of the form f; held: the buffers that leave loops of the call
  pub record IsRowOf (f : ℕ) (held : List ℕ) (r : CallInstance) : Type 0 where
    pub caller_is : k.caller r.form ≡ f
    pub later : f < r.form
    pub arguments : length r.args ≡ length (homes r.form).params
    pub same : held ≡ held_over (k.loops r.form) 0 (homes r.form).params

  abbrev pub AreRowsOf : ℕ → Round → Type 0
  AreRowsOf f q = EachOf (IsRowOf f (round_held homes q)) q.rows

  pub record AreNumbered : Type 0 where
    pub places : (f i b : ℕ) → slice_get (own f) i ≡ Some b → (k.form b ≡ f) × (k.index b ≡ i)
    pub callers : (f : ℕ) → 0 < f → k.caller f < f
    pub rows : (f : ℕ) → EachOf (AreRowsOf f) (rounds_of (bodies f).body)
    pub root : k.loops 0 ≡ 0

  -- at each level the buffers of forms are in order, and so are the entry's
  pub record AreOrdered (level : ℕ) (args : List Argument) : Type 0 where
    pub forms : AreInOrder (of_level buffers level) before (outer (of_level buffers level)) bodies homes
    pub entry : OnStack before [] (those (of_level buffers level) (home_buffers (homes 0).params))
    pub locals : OnStack before (those (of_level buffers level) (home_buffers (homes 0).params))
        (own_locals (of_level buffers level) before (outer (of_level buffers level)) bodies homes (entry_row args))
    pub round : outer (of_level buffers level) 0 ≡ those (of_level buffers level) (home_buffers (homes 0).params)
        ++ own_locals (of_level buffers level) before (outer (of_level buffers level)) bodies homes (entry_row args)

abbrev pub NumberedAreOrdered : Type 0
NumberedAreOrdered = (buffers : List Buffer) (bodies : ℕ → FormBody) (homes : ℕ → Homes) (k : Numbering)
    → AreNumbered buffers bodies homes k → OverlapsStand bodies homes → (level : ℕ) (args : List Argument)
    → AreOrdered buffers bodies homes k level args
