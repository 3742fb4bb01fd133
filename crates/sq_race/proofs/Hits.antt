-- What the work of a part of a form accesses is among the accesses that the walk met.
use Rattle.std.proofs.Common.{◌≡◌, ℕ, zero, suc, ◌+◌, ◌<◌, ◌≤◌, ◌⊎◌, inl, inr, ◌&&◌, ◌||◌, nat_eq, Bool, true, false, List, [], ◌∷◌, ◌++◌, length, take, Option, Some, None, Ok, Err, refl, sym, ◌∙◌, ap, subst, arith, append_assoc}
use Rattle.std.specs.Prelude.{slice_get}
use Rattle.std.specs.List.{list_any}
use Rattle.std.proofs.Math.Seq.{take-append_seam}
use Rattle.sq_text.specs.declared.place.Place.{Place}
use Rattle.sq_text.specs.declared.place.Span.{Span}
use Rattle.sq_text.specs.Names.{Bytes}
use Rattle.sq_ast.specs.declared.expr.ArgUse.{ArgUse}
use Rattle.sq_ast.specs.declared.stmt.Call.{Call as CallStmt}
use Rattle.sq_ast.specs.declared.stmt.MapKind.{MapKind}
use Rattle.sq_ast.specs.declared.program.Param.{Param}
use Rattle.sq_blocks.specs.Names.{Numbers}
use Rattle.sq_rect.specs.Blocks.{Share}
use Rattle.sq_blocks.specs.declared.argument.Argument.{Argument}
use Rattle.sq_forms.specs.declared.form.Found.{Found}
use Rattle.sq_forms.specs.declared.form.Use.{Use}
use Rattle.sq_forms.specs.Faults.{Value, fault_in}
use Rattle.sq_forms.specs.Steps.{Step, Part, Opens, Counts, Tests, Calls, Called, Forms}
use Rattle.sq_forms.specs.Args.{Names, use_step, argument, arguments, args_steps, with_value}
use Rattle.sq_forms.specs.Worlds.{Frame, Callee}
use Rattle.sq_forms.specs.Calls.{CallSite, uses_from, call_of, reached_steps}
use Rattle.sq_ast.specs.declared.program.Mode.{Mode}
use Rattle.sq_ast.specs.Modes.{is_written}
use Rattle.sq_forms.specs.Stmts.{each, opens, within}
use Rattle.sq_form_laws.specs.Reached.{AreExamined, form_number}
use Rattle.sq_form_laws.specs.Insides.{LiesIn}
use Rattle.sq_work.specs.Work.{Work}
use Rattle.sq_work.specs.Meaning.{has, covers, accesses, any_below}
use Rattle.sq_work.specs.InTurn.{IsRaceFree}
use Rattle.sq_race.specs.declared.map.Map.{Map}
use Rattle.sq_race.specs.Race.{IsOf, IsRace}
use Rattle.sq_race.proofs.Wholes.{both, equal, covered, share_flipped}

-- ---- tests of lists

either : (a b : Bool) → (a || b) ≡ true → (a ≡ true) ⊎ (b ≡ true)
either true b h = inl refl
either false b h = inr h

pub some_below : (n : ℕ) (f : ℕ → Bool) → any_below n f ≡ true → (t : ℕ) × (t < n) × (f t ≡ true)
some_below zero f h = absurd (cc h)
some_below (suc n) f h = elim (either (f n) (any_below n f) h) [
  | inl e ↦ (n, omega arith, e)
  | inr e ↦ let r = some_below n f e in (r.0, (let less = r.1 in omega (arith, less)), r.2)
]

some_there : (p : Argument → Bool) (xs : List Argument) → list_any p xs ≡ true → (j : ℕ) × (x : Argument) × (slice_get xs j ≡ Some x) × (p x ≡ true)
some_there p [] h = absurd (cc h)
some_there p (x ∷ xs) h = elim (either (p x) (list_any p xs) h) [
  | inl e ↦ (0, x, refl, e)
  | inr e ↦ let r = some_there p xs e in (suc r.0, r.1, r.2, r.3)
]

-- ---- accesses of a call

abbrev use_of : CallSite → ℕ → ℕ → Argument → Use
use_of site callee i x = record { call = site.call; arg = i; iterations = site.iterations; array = x.array; rect = x.rect; mode = x.mode; callee = callee }

use_there : (site : CallSite) (callee i : ℕ) (xs : List Argument) (j : ℕ) (x : Argument) → slice_get xs j ≡ Some x
    → slice_get (uses_from site callee i xs) j ≡ Some (use_of site callee (i + j) x)
use_there site callee i [] j x h = absurd (cc h)
use_there site callee i (y ∷ xs) zero x h =
    let e : y ≡ x = cc h in
    let z : i ≡ i + 0 = omega arith in
    (λ k. Some (use_of site callee (z k) (e k)))
use_there site callee i (y ∷ xs) (suc j) x h =
    let z : i + 1 + j ≡ i + suc j = omega arith in
    use_there site callee (i + 1) xs j x h ∙ ap (λ k. Some (use_of site callee k x)) z

-- ---- the form's accesses, and the work of its callees

-- forms: all that are found; callee: the work of a form, by its number and by what is known of it; arrays: the extents
-- of the form's arrays
module _ (forms : Forms) (callee : ℕ → Found → Work) (arrays : List (List ℕ)) (uses : List Use) where
  -- the accesses of the call are among the form's, and its callee has no race, wherever it is found
  pub record GoodCall (c : Called) : Type 0 where
    pub among : (j : ℕ) (u : Use) → slice_get (c.uses (form_number forms c.key)) j ≡ Some u → (m : ℕ) × (slice_get uses m ≡ Some u)
    pub free : (f : Found) → f.instance ≡ c.form.instance → f.extents ≡ c.form.extents → IsRaceFree (callee (form_number forms c.key) f)

  -- none of the steps is at fault, and each call is good
  abbrev pub AllGood : List Step → Type 0
  AllGood [] = Unit {0}
  AllGood (Opens ∷ l) = AllGood l
  AllGood (Counts place ∷ l) = AllGood l
  AllGood (Tests o ∷ l) = (o ≡ None) × AllGood l
  AllGood (Calls c ∷ l) = GoodCall c × AllGood l

  used_good : (o : Option Place) (l : List Step) → AllGood (use_step o l) → AllGood l
  used_good None l h = h
  used_good (Some place) l h = h

  pub opens_good : (o : Option Place) (l : List Step) → AllGood (opens o l) → AllGood l
  opens_good None l h = h
  opens_good (Some place) l h = h

  pub each_good : (part : ℕ → Part) → ((t : ℕ) (l : List Step) → AllGood (part t l) → AllGood l) → (t n : ℕ) (l : List Step) → AllGood (each t n part l)
      → ((d : ℕ) → d < n → (k : List Step) × AllGood (part (t + d) k)) × AllGood l
  each_good part keeps t zero l h = (λ d less. absurd (omega (arith, less)), h)
  each_good part keeps t (suc n) l h =
      let rest = each_good part keeps (t + 1) n l (keeps t (each (t + 1) n part l) h) in
      (at rest.0, rest.1)
    where
      at : ((d : ℕ) → d < n → (k : List Step) × AllGood (part (t + 1 + d) k)) → (d : ℕ) → d < suc n → (k : List Step) × AllGood (part (t + d) k)
      at f zero less = let z : t ≡ t + 0 = omega arith in subst (λ m. (k : List Step) × AllGood (part m k)) z (each (t + 1) n part l, h)
      at f (suc d) less = let z : t + 1 + d ≡ t + suc d = omega arith in subst (λ m. (k : List Step) × AllGood (part m k)) z (f d (omega (arith, less)))

  -- ---- a call

  module _ (outer : Option Place) (names : Names) (numbers : Numbers) (reduced : Option Bytes) (params : List Param) where
    one_examined : (i : ℕ) (a : ArgUse) (rest : List ArgUse) (v : Value Argument) → argument names numbers reduced (slice_get params i) a ≡ v
        → fault_in v ≡ None → AreExamined names numbers reduced params (i + 1) rest (arguments names numbers reduced params (i + 1) rest)
        → AreExamined names numbers reduced params i (a ∷ rest) (with_value v (arguments names numbers reduced params (i + 1) rest))
    one_examined i a rest (Ok x) e none h = (e, h)
    one_examined i a rest (Err f) e none h = absurd (cc none)

    args_good : (i : ℕ) (list : List ArgUse) (l : List Step) → AllGood (args_steps outer names numbers reduced params i list l)
        → AreExamined names numbers reduced params i list (arguments names numbers reduced params i list) × AllGood l
    args_good i [] l h = (tt, h)
    args_good i (a ∷ rest) l h =
        let value = argument names numbers reduced (slice_get params i) a in
        let p = used_good outer (Tests (fault_in value) ∷ args_steps outer names numbers reduced params (i + 1) rest l) h in
        let q = args_good (i + 1) rest l p.1 in
        (one_examined i a rest value refl p.0 q.0, q.1)

  -- what is known of a call that is met
  pub record Met (frame : Frame) (names : Names) (site : CallSite) (numbers : Numbers) (c : CallStmt) (its : Callee) (l : List Step) : Type 0 where
    pub examined : AreExamined names numbers site.reduced its.params 0 c.args (arguments names numbers site.reduced its.params 0 c.args)
    pub good : GoodCall (call_of frame its site c (arguments names numbers site.reduced its.params 0 c.args))
    pub later : AllGood l

  pub call_met : (frame : Frame) (names : Names) (site : CallSite) (numbers : Numbers) (c : CallStmt) (its : Callee) (l : List Step)
      → AllGood (args_steps site.outer names numbers site.reduced its.params 0 c.args
      (reached_steps frame its site c (arguments names numbers site.reduced its.params 0 c.args) l)) → Met frame names site numbers c its l
  call_met frame names site numbers c its l h =
      let xs = arguments names numbers site.reduced its.params 0 c.args in
      let a = args_good site.outer names numbers site.reduced its.params 0 c.args (reached_steps frame its site c xs l) h in
      record { examined = a.0; good = a.1.1.1.1.0; later = a.1.1.1.1.1 }

  -- ---- hits

  -- the block is the whole of its array
  abbrev pub CoversAll : Use → Type 0
  CoversAll u = (spans : List Span) → LiesIn arrays u.array spans → Share u.rect spans

  -- an access of the form of this element, of one of so many calls from the site on, in the iterations of the site
  pub record Hit (which : Mode → Bool) (n : ℕ) (cs : List ℕ) (site : CallSite) (calls : ℕ) : Type 0 where
    pub index : ℕ
    pub access : Use
    pub there : slice_get uses index ≡ Some access
    pub mode : which access.mode ≡ true
    pub array : access.array ≡ n
    pub block : (covers access.rect cs ≡ true) ⊎ CoversAll access
    pub rest : List ℕ
    pub round : access.iterations ≡ site.iterations ++ rest
    pub low : site.call ≤ access.call
    pub high : access.call < site.call + calls

  -- what holds of all modes that write
  abbrev pub Written : (Mode → Bool) → Type 0
  Written which = (m : Mode) → is_written m ≡ true → which m ≡ true

  -- each access of the work is one of the form
  abbrev pub Hits : Work → CallSite → ℕ → Type 0
  Hits w site calls = (which : Mode → Bool) → Written which → (n : ℕ) (cs : List ℕ) → accesses (λ a. which a.mode) w n cs ≡ true → Hit which n cs site calls

  -- an access of a call, by the argument that it is
  pub record CallHit (which : Mode → Bool) (n : ℕ) (cs : List ℕ) (site : CallSite) (xs : List Argument) : Type 0 where
    pub hit : Hit which n cs site 1
    pub own : Argument
    pub position : slice_get xs hit.access.arg ≡ Some own
    pub is : own.array ≡ n

  nothing_more : (xs : List ℕ) → xs ≡ xs ++ []
  nothing_more [] = refl
  nothing_more (x ∷ xs) = ap (λ ys. x ∷ ys) (nothing_more xs)

  module _ (frame : Frame) (names : Names) (site : CallSite) (c : CallStmt) (its : Callee) (xs : List Argument) (good : GoodCall (call_of frame its site c xs)) where
    -- an argument is one of the form's accesses
    argument_hit : (which : Mode → Bool) (n : ℕ) (cs : List ℕ) (j : ℕ) (x : Argument) → slice_get xs j ≡ Some x → which x.mode ≡ true → x.array ≡ n
        → (covers x.rect cs ≡ true) ⊎ CoversAll (use_of site (form_number forms (call_of frame its site c xs).key) (0 + j) x) → CallHit which n cs site xs
    argument_hit which n cs j x there mode array block =
        let number = form_number forms (call_of frame its site c xs).key in
        let a = good.among j (use_of site number (0 + j) x) (use_there site number 0 xs j x there) in
        let z : j ≡ 0 + j = omega arith in
        record {
          hit = record {
            index = a.0;
            access = use_of site number (0 + j) x;
            there = a.1;
            mode = mode;
            array = array;
            block = block;
            rest = [];
            round = nothing_more site.iterations;
            low = omega arith;
            high = omega arith;
          };
          own = x;
          position = sym (ap (slice_get xs) z) ∙ there;
          is = array;
        }

    pub whole_hit : (which : Mode → Bool) (n : ℕ) (cs : List ℕ) (j : ℕ) (x : Argument) → slice_get xs j ≡ Some x → which x.mode ≡ true → x.array ≡ n
        → ((spans : List Span) → LiesIn arrays x.array spans → Share x.rect spans) → CallHit which n cs site xs
    whole_hit which n cs j x there mode array all = argument_hit which n cs j x there mode array (inr all)

    pub call_hit : (which : Mode → Bool) (n : ℕ) (cs : List ℕ) → list_any (λ a. which a.mode && has n cs a) xs ≡ true → CallHit which n cs site xs
    call_hit which n cs h =
        let s = some_there (λ a. which a.mode && has n cs a) xs h in
        let x = s.1 in
        let p = both (which x.mode) (has n cs x) s.3 in
        let q = both (nat_eq n x.array) (covers x.rect cs) p.1 in
        argument_hit which n cs s.0 x s.2 p.0 (sym (equal n x.array q.0)) (inl q.1)

  -- ---- races

  -- no two accesses race in a run of the map
  pub record Quiet (m : Map) : Type 0 where
    pub none : (round : List ℕ) (i j : ℕ) (u v : Use) → slice_get uses i ≡ Some u → slice_get uses j ≡ Some v → i < j → IsRace m round u v → ⊥

  abbrev pub AllQuiet : List Map → Type 0
  AllQuiet [] = Unit {0}
  AllQuiet (m ∷ ms) = Quiet m × AllQuiet ms

  at_seam : (xs : List ℕ) (t : ℕ) (rest : List ℕ) → slice_get (xs ++ t ∷ rest) (length xs) ≡ Some t
  at_seam [] t rest = refl
  at_seam (x ∷ xs) t rest = at_seam xs t rest

  some_same : {A : Type 0} (x y : A) → Some x ≡ Some y → x ≡ y
  some_same x y h = cc h

  module _ (lies : (j : ℕ) (u : Use) → slice_get uses j ≡ Some u → LiesIn arrays u.array u.rect) where
    -- accesses of one element share it
    blocks_share : (cs : List ℕ) (i j : ℕ) (u v : Use) → slice_get uses i ≡ Some u → slice_get uses j ≡ Some v → u.array ≡ v.array
        → (covers u.rect cs ≡ true) ⊎ CoversAll u → (covers v.rect cs ≡ true) ⊎ CoversAll v → Share u.rect v.rect
    blocks_share cs i j u v p q same (inl a) (inl b) = record { coordinate = cs; in_one = covered u.rect cs a; in_other = covered v.rect cs b }
    blocks_share cs i j u v p q same (inr a) b = a v.rect (subst (λ n. LiesIn arrays n v.rect) (sym same) (lies j v q))
    blocks_share cs i j u v p q same (inl a) (inr b) = share_flipped v.rect u.rect (b u.rect (subst (λ n. LiesIn arrays n u.rect) same (lies i u p)))

    module _ (m : Map) (quiet : Quiet m) (site : CallSite) (place : Place) (kind : MapKind) (calls : ℕ) (depth : m.depth ≡ length site.iterations)
        (low : m.calls.lo ≡ site.call) (high : m.calls.hi ≡ site.call + calls) where
      in_run : (which : Mode → Bool) (n : ℕ) (cs : List ℕ) (t : ℕ) (h : Hit which n cs (within site place kind t) calls) → (m.reduced ≡ Some h.access.arg → ⊥)
          → IsOf m site.iterations h.access
      in_run which n cs t h kept =
          let above = h.low in
          let under = h.high in
          record {
            call = (omega (arith, above, low), omega (arith, under, high));
            kept = kept;
            round_is =
                ap (λ d. take d h.access.iterations) depth
                ∙ (ap (take (length site.iterations)) (h.round ∙ append_assoc site.iterations (t ∷ []) h.rest) ∙ take-append_seam site.iterations (t ∷ h.rest));
          }

      turn_of : (which : Mode → Bool) (n : ℕ) (cs : List ℕ) (t : ℕ) (h : Hit which n cs (within site place kind t) calls)
          → slice_get h.access.iterations m.depth ≡ Some t
      turn_of which n cs t h =
          ap (slice_get h.access.iterations) depth
          ∙ (ap (λ l. slice_get l (length site.iterations)) (h.round ∙ append_assoc site.iterations (t ∷ []) h.rest) ∙ at_seam site.iterations t h.rest)

      -- an element that one iteration writes is not touched by another
      pub apart : (which : Mode → Bool) (n : ℕ) (cs : List ℕ) (a b : ℕ) → (a ≡ b → ⊥)
          → (x : Hit is_written n cs (within site place kind a) calls) (y : Hit which n cs (within site place kind b) calls)
          → (m.reduced ≡ Some x.access.arg → ⊥) → (m.reduced ≡ Some y.access.arg → ⊥) → ⊥
      apart which n cs a b other x y kept_x kept_y =
          let u = x.access in
          let v = y.access in
          let at_a = turn_of is_written n cs a x in
          let at_b = turn_of which n cs b y in
          let same_array : u.array ≡ v.array = x.array ∙ sym y.array in
          let share = blocks_share cs x.index y.index u v x.there y.there same_array x.block y.block in
          let write : is_written u.mode ≡ true = x.mode in
          let one = in_run is_written n cs a x kept_x in
          let two = in_run which n cs b y kept_y in
          let front : IsRace m site.iterations u v = record {
            one = one;
            other = two;
            iterations = λ e. other (some_same a b (sym at_a ∙ (e ∙ at_b)));
            array = same_array;
            share = share;
            write = inl write;
          } in
          let back : IsRace m site.iterations v u = record {
            one = two;
            other = one;
            iterations = λ e. other (some_same a b (sym at_a ∙ (sym e ∙ at_b)));
            array = sym same_array;
            share = share_flipped u.rect v.rect share;
            write = inr write;
          } in
          by_order (order x.index y.index) front back
        where
          order : (i j : ℕ) → (i < j) ⊎ ((j < i) ⊎ (i ≡ j))
          order i j = grind arith

          by_order : (x.index < y.index) ⊎ ((y.index < x.index) ⊎ (x.index ≡ y.index)) → IsRace m site.iterations x.access y.access
              → IsRace m site.iterations y.access x.access → ⊥
          by_order (inl less) front back = quiet.none site.iterations x.index y.index x.access y.access x.there y.there less front
          by_order (inr (inl less)) front back = quiet.none site.iterations y.index x.index y.access x.access y.there x.there less back
          by_order (inr (inr same)) front back =
              let one : x.access ≡ y.access = some_same x.access y.access (sym x.there ∙ (ap (slice_get uses) same ∙ y.there)) in
              other (some_same a b (sym (turn_of is_written n cs a x) ∙ (ap (λ (u : Use). slice_get u.iterations m.depth) one ∙ turn_of which n cs b y)))

  -- ---- within

  pub outer_hit : (which : Mode → Bool) (n : ℕ) (cs : List ℕ) (site : CallSite) (place : Place) (kind : MapKind) (t calls : ℕ)
      → Hit which n cs (within site place kind t) calls → Hit which n cs site calls
  outer_hit which n cs site place kind t calls h = record {
    index = h.index;
    access = h.access;
    there = h.there;
    mode = h.mode;
    array = h.array;
    block = h.block;
    rest = t ∷ h.rest;
    round = h.round ∙ append_assoc site.iterations (t ∷ []) h.rest;
    low = h.low;
    high = h.high;
  }
