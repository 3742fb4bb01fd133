-- The cells of a call's buffers, and of those further in, each with an event where it is live.
use Rattle.std.proofs.Common.{◌≡◌, ℕ, false, List, [], ◌∷◌, ◌++◌}
use Rattle.std.proofs.Common.{refl, sym, ap, ◌∙◌, subst, ◌⊎◌, inl, inr, true}
use Rattle.sq_leaf.specs.declared.shape.Shape.{Shape}
use Rattle.sq_ir.specs.Scopes.{Scope}
use Rattle.sq_ir.specs.Events.{Leaves}
use Rattle.sq_ir.specs.Plans.{HaveRoom}
use Rattle.sq_ir.specs.Plans as plans
use Rattle.sq_ir.specs.Written.{Setting, PlanTree}
use Rattle.sq_placed.specs.Placed.{Placed, PlacedCall}
use Rattle.sq_placed.specs.Seats.{Seat}
use Rattle.sq_cells.specs.Machine.{Form, offset_of}
use Rattle.sq_cells.specs.Work.{Work}
use Rattle.sq_cells.specs.Cells.{Spot}
use Rattle.sq_cells.specs.Tree.{Cause}
use Rattle.sq_cells.specs.Lowered.{Layout, own, in_place, IsIn, BufferCell, Scratch}
use Rattle.sq_cells.specs.Lowered.{CallPlaced}
use Rattle.sq_plan_laws.specs.Calling.{arrays_of, shapes_of, first_buffer, form_of}
use Rattle.sq_plan_laws.specs.OnBytes.{work, arity_of}
use Rattle.sq_plan_laws.specs.LeafLaws.{codes_of}
use Rattle.sq_plan_laws.specs.Seated.{IsSeated, CallSits, at_node}
use Rattle.sq_plan_laws.specs.Around.{IsAround}
use Rattle.sq_plan_laws.specs.Buffers.{CallOwns, OpensBuffer, Opens}
use Rattle.sq_plan_laws.proofs.ArrayCells.{locals_scope, IsRound, of_body, live_cell, separate, below_all}
use Rattle.sq_plan_laws.proofs.Live.{IsNamed, named_right, Holding}

pub append_joins : {A : Type 0} (xs ys zs : List A) → (xs ++ ys) ++ zs ≡ xs ++ (ys ++ zs)
append_joins [] ys zs = refl
append_joins (x ∷ xs) ys zs = ap (λ l. x ∷ l) (append_joins xs ys zs)

-- a cell of one of the buffers, with an event where it is live
pub record Found (s : Setting) (t : PlanTree) (p : Placed) (x : Spot) : Type 0 where
  pub scopes : List Scope
  pub around : IsAround t scopes
  pub buffer : ℕ
  pub named : IsNamed scopes x.area buffer
  pub byte : plans.HasByte s buffer x.index
  pub opens : Opens p buffer

abbrev pub on_bytes : Setting → Leaves Cause → Placed → List Shape → Work
on_bytes s leaves p outer = work (codes_of leaves) s.offset p outer

-- ---- a call, in a tree that has its events

module _ (s : Setting) (leaves : Leaves Cause) (outer : List Shape) (seats : List Seat) (at : Layout)
    (seated : IsSeated outer seats at) (c : PlacedCall) (sits : CallSits outer c) (inside : ℕ) (w : Placed)
    (held : List ℕ) (owns : CallOwns s held c w) (whole : PlanTree) (round : List Scope) (body : PlanTree)
    (its : IsRound s leaves outer seats at seated c sits inside w held owns whole round body) where
  abbrev form : Form
  form = form_of s.offset first_buffer c

  abbrev locals : List Scope
  locals = locals_scope s leaves outer seats at seated c sits inside w held owns

  -- a cell of one of its buffers or of one further in
  abbrev pub InCall : Spot → Type 0
  InCall x = BufferCell (at_node s inside) form (arity_of c) (arrays_of outer c) x
      ⊎ Scratch (on_bytes s leaves w (shapes_of c)) (at_node s inside) 0 x

  pub record FoundIn (x : Spot) : Type 0 where
    pub rest : List Scope
    pub around : IsAround whole (round ++ rest)
    pub buffer : ℕ
    pub named : IsNamed (round ++ rest) x.area buffer
    pub byte : plans.HasByte s buffer x.index
    pub opens : ((i : ℕ) × OpensBuffer c i buffer) ⊎ Opens w buffer

  module _ (ih : (x : Spot) → Scratch (on_bytes s leaves w (shapes_of c)) (at_node s inside) 0 x → Found s body w x)
    where
      pub found_in : (x : Spot) → InCall x → FoundIn x
      found_in x (inl z) =
          let f = live_cell s leaves outer seats at seated c sits inside w held owns whole round body its x z in
          record {
            rest = f.rest;
            around = f.around;
            buffer = f.buffer;
            named = f.named;
            byte = f.byte;
            opens = inl f.opens;
          }
      found_in x (inr z) =
          let f = ih x z in
          record {
            rest = locals ++ f.scopes;
            around = of_body s leaves outer seats at seated c sits inside w held owns whole round body its f.scopes
                f.around;
            buffer = f.buffer;
            named = named_right round (locals ++ f.scopes) x.area f.buffer
                (named_right locals f.scopes x.area f.buffer f.named);
            byte = f.byte;
            opens = inr f.opens;
          }

      module _ (pre : List Scope) (room : (l : List Scope) → IsAround whole l → HaveRoom s (pre ++ l))
          (live : c.lower ≡ true → Holding s pre inside held) where
        pub body_room : (l : List Scope) → IsAround body l → HaveRoom s ((pre ++ (round ++ locals)) ++ l)
        body_room l h =
            subst (HaveRoom s) (ap (λ z. pre ++ z) (sym (append_joins round locals l))
            ∙ sym (append_joins pre (round ++ locals) l))
            (room (round ++ (locals ++ l))
            (of_body s leaves outer seats at seated c sits inside w held owns whole round body its l h))

        under : (l : Spot) → IsIn (arity_of c) (arrays_of outer c) l → in_place (arrays_of outer c l.area).place ≡ false
            → Found s body w (own (at_node s inside) form l) → ⊥
        unfolding offset_of
        under l il ol f = below_all s leaves outer seats at seated c sits inside w held owns whole round body its pre
            room live l il ol f.scopes f.around f.buffer f.named f.byte f.opens

        pub its_place : CallPlaced (at_node s inside) form (arity_of c) (arrays_of outer c)
            (on_bytes s leaves w (shapes_of c))
        its_place = record {
          separate = λ l m il im ol om e. separate s leaves outer seats at seated c sits inside w held owns whole round
              body its pre room live l m il im ol om e;
          below = λ l il ol z. under l il ol (ih (own (at_node s inside) form l) z);
        }
