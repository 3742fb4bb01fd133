-- What a part of a term names outside itself.
use Rattle.std.specs.Prelude.{ℕ, suc, ◌-◌, ◌==◌, max, Bool, true, false, not, ◌||◌, ◌&&◌, List, [], ◌∷◌, Option, Some}
use Rattle.std.specs.Prelude.{None}
use Rattle.sq_ir.specs.declared.num.Num.{Num}
use Rattle.sq_ir.specs.declared.num.Num.TheOpen.{Num-F}
use Rattle.sq_ir.specs.declared.num.Num.TheFolds.{fold-Num}
use Rattle.sq_ir.specs.declared.term.Term.{Term}
use Rattle.sq_ir.specs.declared.term.Term.TheOpen.{Term-F}
use Rattle.sq_ir.specs.declared.term.Term.TheFolds.{fold-Term}
use Rattle.sq_sums.specs.declared.region.Region.{Region}

-- ---- numbers

-- how many of the loops round it, from the innermost on, a number may name: `Index 2` names the third
abbrev pub loops_step : Num-F ℕ → ℕ
loops_step (Num-F.Const k) = 0
loops_step (Num-F.Index d) = suc d
loops_step (Num-F.Add a b) = max a b
loops_step (Num-F.Sub a b) = max a b
loops_step (Num-F.Mul a b) = max a b
loops_step (Num-F.Div a b) = max a b
loops_step (Num-F.Rem a b) = max a b
loops_step (Num-F.Min a b) = max a b
loops_step (Num-F.Pick ks a) = a
loops_step Num-F.Children = 0

abbrev pub loops_in : Num → ℕ
loops_in = fold-Num ℕ loops_step

-- whether a number names how many children there are
abbrev pub children_step : Num-F Bool → Bool
children_step (Num-F.Const k) = false
children_step (Num-F.Index d) = false
children_step (Num-F.Add a b) = a || b
children_step (Num-F.Sub a b) = a || b
children_step (Num-F.Mul a b) = a || b
children_step (Num-F.Div a b) = a || b
children_step (Num-F.Rem a b) = a || b
children_step (Num-F.Min a b) = a || b
children_step (Num-F.Pick ks a) = a
children_step Num-F.Children = true

abbrev pub names_children : Num → Bool
names_children = fold-Num Bool children_step

-- ---- terms

abbrev pub no_region : Region
no_region = record { loops = 0; stays = true; routed = true }

abbrev pub join : Region → Region → Region
join a b = record { loops = max a.loops b.loops; stays = a.stays && b.stays; routed = a.routed && b.routed }

abbrev pub join_all : List Region → Region
join_all [] = no_region
join_all (r ∷ rs) = join r (join_all rs)

abbrev pub case_region : Num → Region → Region
case_region k r = record {
  loops = max (loops_in k) r.loops;
  stays = not (names_children k) && r.stays;
  routed =
      r.routed;
}

abbrev pub loop_region : Num → Region → Region
loop_region k r = record {
  loops = max (loops_in k) (r.loops - 1);
  stays = not (names_children k) && r.stays;
  routed =
      r.routed;
}

-- the body of a scope names no loop outside
abbrev pub is_closed : Region → Bool
is_closed r = r.loops == 0

abbrev pub scope_region : Option Num → Region → Region
scope_region None r = record { loops = r.loops; stays = is_closed r || r.stays; routed = is_closed r || r.routed }
scope_region (Some c) r = record { loops = max (loops_in c) r.loops; stays = false; routed = is_closed r || r.stays }

-- How many of the loops round it a part may name in its counts, picks and children; whether, the bodies of scopes that
-- name no loop outside left aside, it goes to no child and names no number of children; whether each scope at a child
-- whose body names a loop outside has a body that stays there so.
abbrev pub region_step : Term-F Region → Region
region_step Term-F.Skip = no_region
region_step (Term-F.Act a) = no_region
region_step (Term-F.Seq rs) = join_all rs
region_step (Term-F.Par rs) = join_all rs
region_step (Term-F.Loop c r) = loop_region c r
region_step (Term-F.Spread c rule r) = loop_region c r
region_step (Term-F.Case k rs) = case_region k (join_all rs)
region_step (Term-F.Within c bs r) = scope_region c r

abbrev pub region_of : Term → Region
region_of = fold-Term Region region_step

-- this term's counts, picks and children name no loop outside
abbrev pub names_no_loop_outside : Term → Bool
names_no_loop_outside x = is_closed (region_of x)
