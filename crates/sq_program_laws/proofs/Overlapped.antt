-- What is placed of a loop whose transfers overlap fits, where each of its calls does.
use Rattle.std.proofs.Common.{◌≡◌, ℕ, suc, ◌+◌, ◌<◌, Bool, true, false, List, ◌∷◌, length, map, get_or}
use Rattle.std.proofs.Common.{refl, sym, ap, ap₂, ◌∙◌, subst, arith}
use Rattle.std.specs.Prelude.{Option, Some, None, slice_get}
use Rattle.sq_text.specs.declared.place.Place.{Place}
use Rattle.sq_text.specs.declared.spread.SpreadRule.{SpreadRule}
use Rattle.sq_leaf.specs.declared.shape.Shape.{Shape}
use Rattle.sq_ast.specs.Modes.{is_written}
use Rattle.sq_form_laws.specs.Laws.{SharesElement}
use Rattle.sq_blocks.specs.declared.argument.Argument.{Argument}
use Rattle.sq_work.specs.declared.reduction.Reduction.{Reduction}
use Rattle.sq_ir.specs.Events.{Leaves}
use Rattle.sq_spec.specs.declared.statement.LoopKind.{LoopKind}
use Rattle.sq_spec.specs.declared.statement.CallInstance.{CallInstance}
use Rattle.sq_spec.specs.declared.body.FormBody.{FormBody}
use Rattle.sq_placed.specs.declared.home.Home.{Home}
use Rattle.sq_placed.specs.declared.home.Home.TheVariants as home
use Rattle.sq_placed.specs.declared.home.Homes.{Homes}
use Rattle.sq_placed.specs.Placed.{Placed, PlacedArg, PlacedLocal, PlacedCall, Call, Piped}
use Rattle.sq_placed.specs.Tables.{placed_args, locals_of, row_call, row_body, row_placed}
use Rattle.sq_placed.specs.Pipes.{AreHeads, no_heads, more_heads}
use Rattle.sq_cells.specs.Lowered as lowered
use Rattle.sq_cells.specs.Lowered.{in_place}
use Rattle.sq_cells.specs.Tree.{Cause}
use Rattle.sq_cells.specs.Work.{Buffer, Held}
use Rattle.sq_plan_laws.specs.Calling.{place_of}
use Rattle.sq_plan_laws.specs.OnBytes.{Codings, arity_of}
use Rattle.sq_plan_laws.specs.Fitting.{NoLeaf, Fitting}
use Rattle.sq_plan_laws.specs.Keeping.{LoopKeeps, TakenKeeps, Keep}
use Rattle.sq_plan_laws.specs.Seated.{Sits}
use Rattle.sq_plan_laws.proofs.Places.{length-mapped, length-joined}
use Rattle.sq_program_laws.specs.Piped.{IsDoubled, IsClear, IsClearAhead, LoopOverlaps}
use Rattle.sq_program_laws.proofs.Carried.{row_args, home_there, argument_there}

-- the homes of as many arguments are the same
homes_same : (shapes : List Shape) (hs : List Home) (i : ℕ) {xs ys : List Argument} → AreHeads xs ys
    → map (λ (p : PlacedArg). p.home) (placed_args None shapes hs i xs)
    ≡ map (λ (p : PlacedArg). p.home) (placed_args None shapes hs i ys)
homes_same shapes hs i no_heads = refl
homes_same shapes hs i (more_heads h rest)
    = ap (λ (l : List Home). get_or hs i home.InPlace ∷ l) (homes_same shapes hs (suc i) rest)

arity_is : (c : PlacedCall) → arity_of c ≡ length c.args + length c.locals
arity_is c = length-joined (map (λ (p : PlacedArg). p.shape) c.args) (map (λ (k : PlacedLocal). k.shape) c.locals)
    ∙ ap₂ (λ x y. x + y) (length-mapped (λ (p : PlacedArg). p.shape) c.args)
    (length-mapped (λ (k : PlacedLocal). k.shape) c.locals)

doubled_moves : (h : Home) → IsDoubled h → in_place (place_of h) ≡ false
doubled_moves home.InPlace d = absurd d
doubled_moves (home.Own u) d = absurd d
doubled_moves (home.Held u n) d = refl
doubled_moves (home.Twin u v) d = refl

doubled_buffer : (h : Home) → IsDoubled h → lowered.held (place_of h) ≡ false → place_of h ≡ Buffer
doubled_buffer home.InPlace d e = absurd d
doubled_buffer (home.Own u) d e = absurd d
doubled_buffer (home.Held u n) d e = cc
doubled_buffer (home.Twin u v) d e = refl

-- two calls that reach one form, with as many arguments
pub record AreOneForm (c d : PlacedCall) : Type 0 where
  pub homes : map (λ (p : PlacedArg). p.home) c.args ≡ map (λ (p : PlacedArg). p.home) d.args
  pub kept : map (λ (k : PlacedLocal). k.buffer) c.locals ≡ map (λ (k : PlacedLocal). k.buffer) d.locals

one_arity : (c d : PlacedCall) → AreOneForm c d → arity_of c ≡ arity_of d
one_arity c d one =
    let args : length c.args ≡ length d.args
    = sym (length-mapped (λ (p : PlacedArg). p.home) c.args) ∙ (ap length one.homes
    ∙ length-mapped (λ (p : PlacedArg). p.home) d.args) in
    let locals : length c.locals ≡ length d.locals
    = sym (length-mapped (λ (k : PlacedLocal). k.buffer) c.locals) ∙ (ap length one.kept
    ∙ length-mapped (λ (k : PlacedLocal). k.buffer) d.locals) in
    arity_is c ∙ (ap₂ (λ x y. x + y) args locals ∙ sym (arity_is d))

module _ (leaves : Leaves Cause) (codes : Codings) (ss : List Shape) (may : ℕ → Bool) where
  -- what is placed meets all that is asked, in loops that the arguments H leave or in none
  abbrev Good : Placed → Option Reduction → (nest : Bool) → (H : List PlacedArg) → Type 0
  Good p red nest H = Fitting codes p red ss × Keep p nest H may × NoLeaf p × Sits leaves p ss

  module _ (bodies : ℕ → FormBody) (homes : ℕ → Homes) (callee : ℕ → Placed) where
    -- a row that is there is a call
    pub as_call : (o : Option CallInstance) (r : CallInstance) → o ≡ Some r → (nest : Bool) (H : List PlacedArg)
        → Good (row_placed bodies homes callee None true o) None nest H
        → Good (Call (row_call bodies homes callee o) (row_body bodies homes callee o)) None nest H
    as_call None r e nest H g = cc
    as_call (Some q) r e nest H g = g

    module _ (m : LoopKind) (rows : List CallInstance) (counts starts : List ℕ)
        (its : LoopOverlaps homes (record { kind = m; rows = rows; counts = counts; starts = starts })) (j : ℕ) where
      abbrev many : ℕ
      many = get_or counts j 0

      abbrev row_at : ℕ → Option CallInstance
      row_at t = slice_get rows (get_or starts j 0 + t)

      abbrev pub calls : ℕ → PlacedCall
      calls t = row_call bodies homes callee (row_at t)

      abbrev pub body : ℕ → Placed
      body t = row_body bodies homes callee (row_at t)

      abbrev pub row : (t : ℕ) → t < many → (r : CallInstance) × (row_at t ≡ Some r)
      row t lt = its.stands.there j t lt

      -- an argument of its call
      pub arg_of : (t : ℕ) (lt : t < many) (i : ℕ) (p : PlacedArg) → slice_get (calls t).args i ≡ Some p
          → slice_get (row_args bodies homes (row t lt).0) i ≡ Some p
      arg_of t lt i p e
          = sym (ap (λ o. slice_get (row_call bodies homes callee o).args i) (row t lt).1) ∙ e

      one_form : (t u : ℕ) → t < many → u < many → AreOneForm (calls t) (calls u)
      one_form t u lt lu =
          let r = row t lt in
          let q = row u lu in
          let form = its.stands.form _ _ r.0 q.0 r.1 q.1 in
          record {
            homes = ap (λ o. map (λ (p : PlacedArg). p.home) (row_call bodies homes callee o).args) r.1
                ∙ (ap (λ f. map (λ (p : PlacedArg). p.home)
                (placed_args None (bodies f).arrays (homes f).params 0 r.0.args)) form
                ∙ (homes_same (bodies q.0.form).arrays (homes q.0.form).params 0
                (its.stands.heads _ _ r.0 q.0 r.1 q.1)
                ∙ sym (ap (λ o. map (λ (p : PlacedArg). p.home) (row_call bodies homes callee o).args) q.1)));
            kept = ap (λ o. map (λ (k : PlacedLocal). k.buffer) (row_call bodies homes callee o).locals) r.1
                ∙ (ap (λ f. map (λ (k : PlacedLocal). k.buffer) (locals_of (bodies f) (homes f))) form
                ∙ sym (ap (λ o. map (λ (k : PlacedLocal). k.buffer) (row_call bodies homes callee o).locals) q.1));
          }

      doubled : (t : ℕ) → t < many → (i : ℕ) (p : PlacedArg) → slice_get (calls t).args i ≡ Some p → IsDoubled p.home
      doubled t lt i p e =
          let r = row t lt in
          let there = arg_of t lt i p e in
          subst IsDoubled (home_there bodies homes r.0 i p there)
          (its.doubled _ i r.0 p.argument r.1 (argument_there bodies homes r.0 i p there))

      is_lower : (t : ℕ) → t < many → (calls t).lower ≡ true
      is_lower t lt = ap (λ o. (row_call bodies homes callee o).lower) (row t lt).1

      -- what an iteration writes is left alone by the next two
      pub keeps_ahead : IsClearAhead homes (record { kind = m; rows = rows; counts = counts; starts = starts })
          → LoopKeeps many calls
      keeps_ahead clear = record {
        ahead = λ t i n x y lt ex ey bx by w sh.
            let r = row t (omega (arith, lt)) in
            let q = row (suc t) lt in
            apart r.0 q.0 (clear.one j t r.0 q.0 lt r.1 q.1) i n x y (arg_of t (omega (arith, lt)) i x ex)
            (arg_of (suc t) lt n y ey) bx by w sh;
        ahead_two = λ t i n x y lt ex ey bx by w sh.
            let r = row t (omega (arith, lt)) in
            let q = row (suc (suc t)) lt in
            apart r.0 q.0 (clear.two j t r.0 q.0 lt r.1 q.1) i n x y (arg_of t (omega (arith, lt)) i x ex)
            (arg_of (suc (suc t)) lt n y ey) bx by w sh;
      }
        where
          apart : (r q : CallInstance) → IsClear homes r q → (i n : ℕ) (x y : PlacedArg)
              → slice_get (row_args bodies homes r) i ≡ Some x → slice_get (row_args bodies homes q) n ≡ Some y
              → place_of x.home ≡ Buffer → place_of y.home ≡ Buffer → is_written x.argument.mode ≡ true
              → SharesElement x.argument y.argument → ⊥
          apart r q clear i n x y ex ey bx by w sh =
              clear.apart i n x.argument y.argument (argument_there bodies homes r i x ex)
              (argument_there bodies homes q n y ey) (ap place_of (home_there bodies homes r i x ex) ∙ bx)
              (ap place_of (home_there bodies homes q n y ey) ∙ by) w sh

      module _ (nest : Bool) (H : List PlacedArg)
          (each : (t : ℕ) → t < many → Good (Call (calls t) (body t)) None nest H) where
        pub pipe_fitting : (spread : Option (Place × SpreadRule)) (red : Option Reduction)
            → Fitting codes (Piped spread many calls body) red ss
        pipe_fitting spread red = λ t lt. (
          (each t lt).0.0,
          one_arity (calls t) (calls 0) (one_form t 0 lt (omega (arith, lt))),
          (each t lt).0.1,
        )

        pub pipe_sits : (spread : Option (Place × SpreadRule)) → Sits leaves (Piped spread many calls body) ss
        pipe_sits spread = λ t lt.
            let one = one_form t 0 lt (omega (arith, lt)) in (
              record {
                sits = (each t lt).3.0;
                lower = is_lower t lt;
                homes = one.homes;
                kept = one.kept;
                arity = one_arity (calls t) (calls 0) one;
              },
              (each t lt).3.1,
            )

      -- in no loop that arguments leave
      pub free_pipe : (spread : Option (Place × SpreadRule)) (H : List PlacedArg) → TakenKeeps spread many calls
          → ((t : ℕ) → t < many → Good (Call (calls t) (body t)) None false H) → (red : Option Reduction)
          → Good (Piped spread many calls body) red false H
      free_pipe spread H keeps each red = (
        pipe_fitting false H each spread red,
        (
          (
            keeps,
            λ t lt. (
              record {
                each = λ i p e. doubled_buffer p.home (doubled t lt i p e) ((each t lt).1.0.not_held i p e);
              },
              (each t lt).1.0,
            ),
          ),
          λ t lt. (each t lt).1.1,
        ),
        tt,
        pipe_sits false H each spread,
      )

      -- in loops that the arguments H leave
      pub held_pipe : (H : List PlacedArg) → LoopKeeps many calls
          → ((t : ℕ) → t < many → Good (Call (calls t) (body t)) None true H)
          → ((t u : ℕ) (lt : t < many) (lu : u < many) (i : ℕ) (p : PlacedArg)
          → slice_get (row_args bodies homes (row t lt).0) i ≡ Some p → place_of p.home ≡ Held
          → slice_get (row_args bodies homes (row u lu).0) i ≡ Some p)
          → (red : Option Reduction) → Good (Piped None many calls body) red true H
      held_pipe H keeps each same red = (
        pipe_fitting true H each None red,
        (
          record {
            each = λ t lt. (each t lt).1.0;
            moved = λ t i p lt e. doubled_moves p.home (doubled t lt i p e);
            same = λ t u i p lt lu e h.
                ap (λ o. slice_get (row_call bodies homes callee o).args i) (row u lu).1
                ∙ same t u lt lu i p (arg_of t lt i p e) h;
            loop = keeps;
          },
          λ t lt. (each t lt).1.1,
        ),
        tt,
        pipe_sits true H each None,
      )
