-- How trees end: sequences and parts beside one another, on both sides.
use Rattle.std.proofs.Common.{◌≡◌, Bool, true, false, Option, Some, None, refl, sym, ap, ◌∙◌}
use Rattle.std.specs.Prelude.{is_none, if◌then◌else◌}
use Rattle.sq_ir.specs.Rect.Paths.{is_before}
use Rattle.sq_ir.specs.Tree.{seq, par}
use Rattle.sq_ir.specs.Runs.{Trap, least, End, joined, beside, in_turn, exec}
use Rattle.sq_ir.specs.Events.{Bytes, Leaves, meaning}
use Rattle.sq_ir.specs.Written.{PlanTree}
use Rattle.sq_ir.proofs.Least.{least-none, least_assoc}
use Rattle.sq_ir.proofs.Exec.{exec-seq, exec-par}
use Rattle.sq_cells.specs.Cells.{State}
use Rattle.sq_cells.specs.Tree as cells
use Rattle.sq_cells.specs.Tree.{Cause, After, go_on, run}
use Rattle.sq_cells.specs.Alike.{state_of, bytes_of, end_of, Does}

-- one part and then another
turn_end : (o : Option (Trap Cause)) (x : State) (go : Bytes → End Bytes Cause) (next : State → After)
    → ((s : State) → go (bytes_of s) ≡ end_of (next s)) → in_turn (end_of (record { mem = x; trap = o })) go
    ≡ end_of (go_on o x next)
turn_end None x go next h = h x
turn_end (Some t) x go next h = refl

both_none : (a b : Option (Trap Cause)) → (if is_none a then is_none b else false) ≡ is_none (least a b)
both_none None b = refl
both_none (Some x) None = refl
both_none (Some x) (Some y) = go (is_before y.path x.path)
  where
    go : (v : Bool) → false ≡ is_none (if v then Some y else Some x)
    go true = refl
    go false = refl

module _ (leaves : Leaves Cause) where
  pub seq_does : (a b : PlanTree) (c d : cells.Tree) → Does leaves a c → Does leaves b d
      → Does leaves (seq a b) (cells.Seq c d)
  seq_does a b c d h g m =
      exec-seq (meaning leaves) a b m ∙ ap (λ r. in_turn r (λ x. exec (meaning leaves) b x)) (h m)
      ∙ turn_end (run c (state_of m)).trap (run c (state_of m)).mem (λ x. exec (meaning leaves) b x) (run d)
      (λ s. g (bytes_of s))

  pub par_does : (a b : PlanTree) (c d : cells.Tree) → Does leaves a c → Does leaves b d
      → Does leaves (par a b) (cells.Par c d)
  par_does a b c d h g m =
      exec-par (meaning leaves) a b m ∙ ap (λ r. beside r (λ x. exec (meaning leaves) b x)) (h m)
      ∙ ap (joined (end_of (run c (state_of m)))) (g (bytes_of (run c (state_of m)).mem))
      ∙ ap (λ f. record {
        bytes = bytes_of (run d (run c (state_of m)).mem).mem;
        finished = f;
        trap
            = least (run c (state_of m)).trap (run d (run c (state_of m)).mem).trap;
      })
      (both_none (run c (state_of m)).trap (run d (run c (state_of m)).mem).trap)

-- ---- associativity, over cells

-- two trees over cells that end alike
abbrev pub EndAlike : cells.Tree → cells.Tree → Type 0
EndAlike c d = (m : State) → run c m ≡ run d m

go_assoc : (o : Option (Trap Cause)) (x : State) (f g : State → After) → (let r = go_on o x f in go_on r.trap r.mem g)
    ≡ go_on o x (λ y. let r = f y in go_on r.trap r.mem g)
go_assoc None x f g = refl
go_assoc (Some t) x f g = refl

pub seq_assoc : (a b c : cells.Tree) → EndAlike (cells.Seq a (cells.Seq b c)) (cells.Seq (cells.Seq a b) c)
seq_assoc a b c m = sym (go_assoc (run a m).trap (run a m).mem (run b) (run c))

pub par_assoc : (a b c : cells.Tree) → EndAlike (cells.Par a (cells.Par b c)) (cells.Par (cells.Par a b) c)
par_assoc a b c m = ap (λ t. record { mem = (run c (run b (run a m).mem).mem).mem; trap = t })
    (sym (least_assoc (run a m).trap (run b (run a m).mem).trap (run c (run b (run a m).mem).mem).trap))

pub seq_empty_right : (a : cells.Tree) → EndAlike a (cells.Seq a cells.Empty)
seq_empty_right a m = go (run a m)
  where
    go : (r : After) → r ≡ go_on r.trap r.mem (run cells.Empty)
    go r = by r.trap r.mem
      where
        by : (o : Option (Trap Cause)) (x : State) → record { mem = x; trap = o } ≡ go_on o x (run cells.Empty)
        by None x = refl
        by (Some t) x = refl

pub par_empty_right : (a : cells.Tree) → EndAlike a (cells.Par a cells.Empty)
par_empty_right a m = ap (λ t. record { mem = (run a m).mem; trap = t }) (sym (least-none (run a m).trap))

go_same : (o : Option (Trap Cause)) (x : State) (f g : State → After) → ((y : State) → f y ≡ g y) → go_on o x f
    ≡ go_on o x g
go_same None x f g h = h x
go_same (Some t) x f g h = refl

pub seq_alike : (a b c d : cells.Tree) → EndAlike a c → EndAlike b d → EndAlike (cells.Seq a b) (cells.Seq c d)
seq_alike a b c d h g m = ap (λ r. go_on r.trap r.mem (run b)) (h m)
    ∙ go_same (run c m).trap (run c m).mem (run b) (run d) g

pub par_alike : (a b c d : cells.Tree) → EndAlike a c → EndAlike b d → EndAlike (cells.Par a b) (cells.Par c d)
par_alike a b c d h g m = ap (λ r. record { mem = (run b r.mem).mem; trap = least r.trap (run b r.mem).trap }) (h m)
    ∙ ap (λ s. record { mem = s.mem; trap = least (run c m).trap s.trap }) (g (run c m).mem)
