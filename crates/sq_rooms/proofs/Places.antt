-- What a walk over a term puts: an equation for each variant, and the steps of lists.
use Rattle.std.proofs.Common.{◌≡◌, ℕ, zero, suc, ◌+◌, ◌-◌, ◌<◌, ◌≤◌, Bool, Option, List, [], ◌∷◌, ◌++◌, length, get_or, drop, map, append-nil, append_assoc, sym, ap, ap₂, ◌∙◌, arith}
use Rattle.std.proofs.lemmas.List.{get_or_past}
use Rattle.sq_ir.specs.declared.num.Num.{Num}
use Rattle.sq_ir.specs.declared.term.Action.{Action}
use Rattle.sq_ir.specs.declared.term.Term.{Term}
use Rattle.sq_ir.specs.declared.term.Term.TheVariants as t
use Rattle.sq_ir.specs.declared.term.Term.TheOpen.{Term-F}
use Rattle.sq_ir.specs.declared.term.Term.TheFolds.{fold-roll-Term}
use Rattle.sq_ir.specs.declared.plan.PlanNode.{PlanNode}
use Rattle.sq_rooms.specs.declared.named.Named.{Named}
use Rattle.sq_rooms.specs.Terms.{Part, part_step, part, flat_step, is_flat, beside}
use Rattle.sq_rooms.specs.Lists.{joined}

pub past : {X : Type 0} (xs : List X) (i : ℕ) (d : X) → length xs ≤ i → get_or xs i d ≡ d
past xs i d h = get_or_past xs i d h

-- ---- the equations, one for each variant

module _ (nodes : List PlanNode) where
  pub part_skip : part nodes t.Skip ≡ part_step nodes Term-F.Skip
  part_skip = ap (part nodes) (sym t.rolls-Skip) ∙ fold-roll-Term Part (part_step nodes) Term-F.Skip

  pub part_act : (a : Action) → part nodes (t.Act a) ≡ part_step nodes (Term-F.Act a)
  part_act a = ap (part nodes) (sym (t.rolls-Act a)) ∙ fold-roll-Term Part (part_step nodes) (Term-F.Act a)

  pub part_seq : (ts : List Term) → part nodes (t.Seq ts) ≡ part_step nodes (Term-F.Seq (map (part nodes) ts))
  part_seq ts = ap (part nodes) (sym (t.rolls-Seq ts)) ∙ fold-roll-Term Part (part_step nodes) (Term-F.Seq ts)

  pub part_par : (ts : List Term) → part nodes (t.Par ts) ≡ part_step nodes (Term-F.Par (map (part nodes) ts))
  part_par ts = ap (part nodes) (sym (t.rolls-Par ts)) ∙ fold-roll-Term Part (part_step nodes) (Term-F.Par ts)

  pub part_loop : (c : Num) (b : Term) → part nodes (t.Loop c b) ≡ part_step nodes (Term-F.Loop c (part nodes b))
  part_loop c b = ap (part nodes) (sym (t.rolls-Loop c b)) ∙ fold-roll-Term Part (part_step nodes) (Term-F.Loop c b)

  pub part_spread : (c : Num) (r : _) (b : Term) → part nodes (t.Spread c r b) ≡ part_step nodes (Term-F.Spread c r (part nodes b))
  part_spread c r b = ap (part nodes) (sym (t.rolls-Spread c r b)) ∙ fold-roll-Term Part (part_step nodes) (Term-F.Spread c r b)

  pub part_case : (k : Num) (ts : List Term) → part nodes (t.Case k ts) ≡ part_step nodes (Term-F.Case k (map (part nodes) ts))
  part_case k ts = ap (part nodes) (sym (t.rolls-Case k ts)) ∙ fold-roll-Term Part (part_step nodes) (Term-F.Case k ts)

  pub part_within : (c : Option Num) (bs : List ℕ) (b : Term) → part nodes (t.Within c bs b) ≡ part_step nodes (Term-F.Within c bs (part nodes b))
  part_within c bs b = ap (part nodes) (sym (t.rolls-Within c bs b)) ∙ fold-roll-Term Part (part_step nodes) (Term-F.Within c bs b)

pub flat_act : (a : Action) → is_flat (t.Act a) ≡ flat_step (Term-F.Act a)
flat_act a = ap is_flat (sym (t.rolls-Act a)) ∙ fold-roll-Term Bool flat_step (Term-F.Act a)

pub flat_seq : (ts : List Term) → is_flat (t.Seq ts) ≡ flat_step (Term-F.Seq (map is_flat ts))
flat_seq ts = ap is_flat (sym (t.rolls-Seq ts)) ∙ fold-roll-Term Bool flat_step (Term-F.Seq ts)

pub flat_par : (ts : List Term) → is_flat (t.Par ts) ≡ flat_step (Term-F.Par (map is_flat ts))
flat_par ts = ap is_flat (sym (t.rolls-Par ts)) ∙ fold-roll-Term Bool flat_step (Term-F.Par ts)

pub flat_loop : (c : Num) (b : Term) → is_flat (t.Loop c b) ≡ flat_step (Term-F.Loop c (is_flat b))
flat_loop c b = ap is_flat (sym (t.rolls-Loop c b)) ∙ fold-roll-Term Bool flat_step (Term-F.Loop c b)

pub flat_spread : (c : Num) (r : _) (b : Term) → is_flat (t.Spread c r b) ≡ flat_step (Term-F.Spread c r (is_flat b))
flat_spread c r b = ap is_flat (sym (t.rolls-Spread c r b)) ∙ fold-roll-Term Bool flat_step (Term-F.Spread c r b)

pub flat_case : (k : Num) (ts : List Term) → is_flat (t.Case k ts) ≡ flat_step (Term-F.Case k (map is_flat ts))
flat_case k ts = ap is_flat (sym (t.rolls-Case k ts)) ∙ fold-roll-Term Bool flat_step (Term-F.Case k ts)

pub flat_within : (c : Option Num) (bs : List ℕ) (b : Term) → is_flat (t.Within c bs b) ≡ flat_step (Term-F.Within c bs (is_flat b))
flat_within c bs b = ap is_flat (sym (t.rolls-Within c bs b)) ∙ fold-roll-Term Bool flat_step (Term-F.Within c bs b)

-- ---- lists

pub length-more : {X : Type 0} (xs ys : List X) → length (xs ++ ys) ≡ length xs + length ys
length-more [] ys = omega arith
length-more (x ∷ xs) ys = let h = length-more xs ys in omega (arith, h)

-- a list on top of others
pub joined-more : (ls : List (List Named)) (l : List Named) → joined (ls ++ l ∷ []) ≡ l ++ joined ls
joined-more [] l = sym (append-nil l)
joined-more (k ∷ ls) l = ap (λ z. z ++ k) (joined-more ls l) ∙ append_assoc l (joined ls) k

-- the list on top behind others
pub join-more : (names new l : List Named) (left ls : List (List Named)) (all : List Named) → new ≡ names ++ l → left ≡ ls ++ l ∷ [] → names ++ joined left ≡ all → new ++ joined ls ≡ all
join-more names new l left ls all e f inv =
    ap (λ z. z ++ joined ls) e ∙ append_assoc names l (joined ls) ∙ ap (λ z. names ++ z) (sym (ap joined f ∙ joined-more ls l)) ∙ inv

drop-item : (ts : List Term) (i : ℕ) (x : Term) → i < length ts → x ≡ get_or ts i x → drop i ts ≡ x ∷ drop (suc i) ts
drop-item [] i x l e = absurd (omega arith)
drop-item (y ∷ ts) zero x l e = ap (λ z. z ∷ ts) (sym e)
drop-item (y ∷ ts) (suc i) x l e = drop-item ts i x (omega arith) e

-- the parts beside one another from the i-th on are put in a list of lists, the last one first
pub record IsBack (f : Term → Part) (ts : List Term) (node first i next : ℕ) (lists : List (List Named)) : Type 0 where
  pub within : i ≤ length ts
  pub joins : joined lists ≡ beside (map f (drop i ts)) node first
  pub number : next ≡ first + length (joined lists)

-- one part more
pub back-more : (f : Term → Part) (ts : List Term) (node first i next later : ℕ) (lists more : List (List Named)) (x : Term) (start l : List Named)
    → 0 < i → IsBack f ts node first i next lists → x ≡ get_or ts (i - 1) x → start ≡ [] → l ≡ start ++ f x node next
    → later ≡ next + length l → more ≡ lists ++ l ∷ [] → IsBack f ts node first (i - 1) later more
back-more f ts node first i next later lists more x start l pos inv at empty puts number pushed =
    let le = inv.within in
    let k : suc (i - 1) ≡ i = omega (arith, pos) in
    let d = drop-item ts (i - 1) x (omega (arith, pos, le)) at ∙ ap (λ j. x ∷ drop j ts) k in
    let rest = beside (map f (drop i ts)) node first in
    let here : l ≡ f x node (first + length rest) = puts ∙ ap (λ z. z ++ f x node next) empty ∙ ap (f x node) (inv.number ∙ ap (λ z. first + length z) inv.joins) in
    let all = ap joined pushed ∙ joined-more lists l in
    let n = inv.number in
    let m = ap length all ∙ length-more l (joined lists) in
    record {
      within = omega (arith, le);
      joins = all ∙ ap₂ (λ a b. a ++ b) here inv.joins ∙ sym (ap (λ ds. beside (map f ds) node first) d);
      number = omega (arith, number, n, m);
    }
