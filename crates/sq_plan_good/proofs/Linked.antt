-- The calls that tables begin are those that are listed for nodes, and those that the walk reached, one by one.
use Rattle.std.proofs.Common.{◌≡◌, ℕ, zero, suc, ◌+◌, ◌<◌, ◌==◌, ◌⊎◌, inl, inr, Bool, false, not, ◌&&◌, ◌||◌, List, []}
use Rattle.std.proofs.Common.{◌∷◌, ◌++◌, map, length, get_or, slice_get, Option, Some, None, refl, sym, ap, ap₂}
use Rattle.std.proofs.Common.{subst, ◌∙◌, arith, append_assoc, append-nil, length-append}
use Rattle.std.proofs.lemmas.Bool.Decides.{nat_tests}
use Rattle.std.specs.Prelude.{is_some}
use Rattle.std.specs.List.{flat_map, range_with_len}
use Rattle.sq_num.specs.declared.Elem.{Elem}
use Rattle.sq_text.specs.declared.place.Place.{Place}
use Rattle.sq_text.specs.Names.{Bytes}
use Rattle.sq_ast.specs.declared.expr.ArgUse.{ArgUse}
use Rattle.sq_ast.specs.declared.stmt.Call.{Call}
use Rattle.sq_ast.specs.declared.stmt.Range.{Range}
use Rattle.sq_ast.specs.declared.stmt.MapKind.{MapKind}
use Rattle.sq_ast.specs.declared.stmt.MapKind.TheVariants.{Par, Seq, Reduce}
use Rattle.sq_ast.specs.declared.stmt.Stmt.{Stmt, roll-Stmt}
use Rattle.sq_ast.specs.declared.stmt.Stmt.TheVariants as s
use Rattle.sq_ast.specs.declared.stmt.Stmt.TheOpen.{Stmt-F}
use Rattle.sq_ast.specs.declared.stmt.Stmt.TheFolds.{ind-Stmt, map-Stmt}
use Rattle.sq_ast.specs.declared.program.Param.{Param}
use Rattle.sq_ast.specs.declared.program.Variant.{Variant}
use Rattle.sq_mapping.specs.declared.mapping.Instance.{Instance}
use Rattle.sq_blocks.specs.Names.{Numbers}
use Rattle.sq_blocks.specs.declared.argument.Argument.{Argument}
use Rattle.sq_forms.specs.declared.form.Found.{Found}
use Rattle.sq_forms.specs.Faults.{value_or}
use Rattle.sq_forms.specs.Steps.{Step, Part, Called, Forms, key_number}
use Rattle.sq_forms.specs.Args.{Names, use_step, arguments, args_steps}
use Rattle.sq_forms.specs.Worlds.{Frame, Callee, callee_of}
use Rattle.sq_forms.specs.Calls.{CallSite, key_of, call_of, served_steps, reached_steps, flags_from}
use Rattle.sq_forms.specs.Stmts.{Portion, portion, all_of as portions_of, after_calls, calls_of as portion_calls, each}
use Rattle.sq_forms.specs.Stmts.{opens, outermost, within, iteration_steps, map_steps, bounds}
use Rattle.sq_forms.specs.Stmts.{reduced_by}
use Rattle.sq_forms.specs.Resolving.{frame_in, start}
use Rattle.sq_forms.proofs.OpenedStmt.{portion_call, portion_map}
use Rattle.sq_form_laws.specs.Reached.{calls_in, concat, text_calls, or_zero, form_number}
use Rattle.sq_form_laws.proofs.EachCall.{AllIn, all_front, all_back, text_call, text_map}
use Rattle.sq_spec.specs.declared.statement.CallInstance.{CallInstance}
use Rattle.sq_spec.specs.Statements.{number_or, starts_from, iteration_points, count_at, count_rows, call_instance}
use Rattle.sq_spec.specs.Statements.{loop_kind_of, StatementTable, all_of, call_table, table_of}
use Rattle.sq_spec.specs.Spreads.{is_beside, is_spread}
use Rattle.sq_spec.proofs.OpenedStatement.{table_of_call, table_of_map, same_calls}
use Rattle.sq_spec.proofs.Rows.{row_kept, rows_kept, begun_before, slice_get_map, get_or_map, inner_at}
use Rattle.sq_spec.proofs.TablesMean.{turn, iteration_points_deeper, first_start}
use Rattle.sq_spec_laws.specs.Needs as needs
use Rattle.sq_spec_laws.specs.Needs.{Turn, Reached, Reaching, reached_by, total_calls, reached_in, turn_in, reaching_step}
use Rattle.sq_spec_laws.specs.Needs.{reaching, frame_at}
use Rattle.sq_spec_laws.proofs.LevelsHold.{reaching_call, reaching_map}
use Rattle.sq_draft_laws.specs.Homes.Begun as tables
use Rattle.sq_draft_laws.specs.Homes.Begun.{Begun, BegunPart, row_begun}
use Rattle.sq_plan_good.proofs.Terms.{begun_call, begun_map}

-- ---- small things

number_same : (o : Option ℕ) → number_or o ≡ or_zero o
number_same None = refl
number_same (Some n) = refl

flags_many : (same : Bool) (all : List Argument) (k : ℕ) (xs : List Argument)
    → length (flags_from same all k xs) ≡ length xs
flags_many same all k [] = refl
flags_many same all k (x ∷ xs) = ap suc (flags_many same all (k + 1) xs)

used_calls : (outer : Option Place) (later : List Step) → calls_in (use_step outer later) ≡ calls_in later
used_calls None later = refl
used_calls (Some place) later = refl

opens_calls : (outer : Option Place) (later : List Step) → calls_in (opens outer later) ≡ calls_in later
opens_calls None later = refl
opens_calls (Some outer) later = refl

args_calls : (outer : Option Place) (names : Names) (numbers : Numbers) (reduced : Option Bytes) (params : List Param)
    (i : ℕ) (list : List ArgUse) (later : List Step)
    → calls_in (args_steps outer names numbers reduced params i list later) ≡ calls_in later
args_calls outer names numbers reduced params i [] later = refl
args_calls outer names numbers reduced params i (a ∷ rest) later =
    used_calls outer _ ∙ args_calls outer names numbers reduced params (i + 1) rest later

beside_same : (elems : List Elem) (names : Names) (kind : MapKind)
    → is_beside (loop_kind_of elems names kind) ≡ needs.is_beside kind
beside_same elems names Par = refl
beside_same elems names Seq = refl
beside_same elems names (Reduce op array) = refl

spread_same : (elems : List Elem) (names : Names) (kind : MapKind) (round : Option Turn) (lower same : Bool)
    → is_spread (loop_kind_of elems names kind) (is_some round) lower same ≡ needs.is_spread kind round lower same
spread_same elems names kind None lower same =
    ap (λ (v : Bool). v && (lower && not same)) (beside_same elems names kind)
spread_same elems names kind (Some u) lower same = ap (λ (v : Bool). v && false) (beside_same elems names kind)

-- ---- served calls

-- an instance of the same level or the next one serves the call
pub record IsNear (frame : Frame) (c : Call) : Type 0 where
  pub callee : Callee
  pub serves : callee_of frame c.task ≡ Some callee
  pub near : (callee.level ≡ frame.level) ⊎ (callee.level ≡ suc frame.level)

near_same : (n m : ℕ) → (n ≡ m) ⊎ (n ≡ suc m) → not (n == suc m) ≡ (n == m)
near_same n m (inl e) = grind (arith, nat_tests, e)
near_same n m (inr e) = grind (arith, nat_tests, e)

abbrev pub callee_instance : Option Callee → ℕ
callee_instance None = 0
callee_instance (Some callee) = callee.instance

-- the instance that serves a call of the text
abbrev pub instance_in : Frame → Option Call → ℕ
instance_in frame None = 0
instance_in frame (Some c) = callee_instance (callee_of frame c.task)

-- ---- three lists

-- text: the form's calls in order
pub record One (forms : Forms) (frame : Frame) (text : List Call) (c : Called) (r : Reached) (d : Begun) : Type 0 where
  pub caller : c.form.caller ≡ Some (record { form = frame.form; call = r.call })
  pub extents : c.form.extents ≡ r.extents
  pub in_place : c.form.in_place ≡ r.in_place
  pub instance : c.form.instance ≡ instance_in frame (slice_get text r.call)
  pub key : c.key ≡ key_of frame.form r.call c.form.instance c.form.in_place c.form.extents
  pub round : d.turn ≡ r.turn
  pub row : d.row.form ≡ form_number forms c.key
  pub many : length d.row.args ≡ length r.in_place
  pub lower : d.lower ≡ (c.form.level == suc frame.level)
  pub near : (c.form.level ≡ frame.level) ⊎ (c.form.level ≡ suc frame.level)

pub data Ones (forms : Forms) (frame : Frame) (text : List Call) : List Called → List Reached → List Begun
    → Type 0 where
  none : Ones forms frame text [] [] []
  more : {c : Called} {r : Reached} {d : Begun} {cs : List Called} {rs : List Reached} {ds : List Begun}
      → One forms frame text c r d → Ones forms frame text cs rs ds → Ones forms frame text (c ∷ cs) (r ∷ rs) (d ∷ ds)

module _ (variants : List Variant) (instances : List Instance) (x : Instance) (form : ℕ) (f : Found) (forms : Forms)
    (names : Names) (elems : List Elem) (numbers : Numbers) (text : List Call) where
  -- the form as it is walked, and as its calls are listed
  abbrev walked_ : Frame
  walked_ = frame_in variants instances x form f

  abbrev listed_ : Frame
  listed_ = frame_at variants instances x form

  abbrev All : List Called → List Reached → List Begun → Type 0
  All = Ones forms walked_ text

  abbrev table : Stmt → StatementTable
  table = table_of forms walked_ names elems numbers

  abbrev Agree : Part → List Reached → List Begun → Type 0
  Agree part rs ds = (later : List Step) (qs : List Reached) (es : List Begun) → All (calls_in later) qs es
      → All (calls_in (part later)) (rs ++ qs) (ds ++ es)

  moved_all : (cs cs2 : List Called) (rs rs2 : List Reached) (ds ds2 : List Begun) → cs ≡ cs2 → rs ≡ rs2 → ds ≡ ds2
      → All cs rs ds → All cs2 rs2 ds2
  moved_all cs cs2 rs rs2 ds ds2 p q u h =
      subst (λ (l : List Begun). All cs2 rs2 l) u
      (subst (λ (l : List Reached). All cs2 l ds) q (subst (λ (l : List Called). All l rs ds) p h))

  agree_by : (part part2 : Part) (rs rs2 : List Reached) (ds ds2 : List Begun) → part ≡ part2 → rs ≡ rs2 → ds ≡ ds2
      → Agree part rs ds → Agree part2 rs2 ds2
  agree_by part part2 rs rs2 ds ds2 p q u h =
      subst (λ (l : List Begun). Agree part2 rs2 l) u
      (subst (λ (l : List Reached). Agree part2 l ds) q (subst (λ (l : Part). Agree l rs ds) p h))

  -- these are the calls of the text from a site on
  abbrev AreText : CallSite → List Call → Type 0
  AreText site cs = (i : ℕ) (c : Call) → slice_get cs i ≡ Some c → slice_get text (site.call + i) ≡ Some c

  record Link (y : Stmt) : Type 0 where
    calls : (portion y).calls ≡ (reaching y).calls
    long : length (text_calls y) ≡ (portion y).calls
    lower : AllIn (IsNear walked_) (text_calls y) → (call : ℕ) (reduced : Option Bytes) (nest : List (List Range))
        → (tables.begun ((table y).table call reduced nest)).lower ≡ (reaching y).lower listed_
    same : AllIn (IsNear walked_) (text_calls y) → (call : ℕ) (reduced : Option Bytes) (nest : List (List Range))
        → (tables.begun ((table y).table call reduced nest)).same ≡ (reaching y).same listed_
    agrees : AllIn (IsNear walked_) (text_calls y) → (site : CallSite) (nest : List (List Range)) (k : ℕ) (e : Numbers)
        (round : Option Turn) → AreText site (text_calls y) → slice_get (iteration_points nest names.lists numbers) k ≡ Some e
        → Agree ((portion y).steps walked_ names site e) ((reaching y).reached listed_ names site e round)
        ((tables.begun ((table y).table site.call site.reduced nest)).calls round k)

  abbrev Known : Type 0
  Known = (y : Stmt) × Link y

  abbrev stmts : List Known → List Stmt
  stmts = map (λ q. q.0)

  many_calls : (ys : List Known) → portion_calls (map portion (stmts ys)) ≡ total_calls (map reaching (stmts ys))
  many_calls [] = refl
  many_calls (y ∷ ys) = ap₂ (λ a c. a + c) y.1.calls (many_calls ys)

  all_long : (ys : List Known) → length (concat (map text_calls (stmts ys))) ≡ portion_calls (map portion (stmts ys))
  all_long [] = refl
  all_long (y ∷ ys) = length-append (text_calls y.0) (concat (map text_calls (stmts ys)))
      ∙ ap₂ (λ a c. a + c) y.1.long (all_long ys)

  lowers : (ys : List Known) → AllIn (IsNear walked_) (concat (map text_calls (stmts ys))) → (call : ℕ)
      (reduced : Option Bytes) (nest : List (List Range))
      → tables.any_lower (map tables.begun (all_of (map table (stmts ys)) call reduced nest))
      ≡ needs.any_lower (map reaching (stmts ys)) listed_
  lowers [] h call reduced nest = refl
  lowers (y ∷ ys) h call reduced nest =
      ap₂ (λ u v. u || v)
      (y.1.lower (all_front (IsNear walked_) (text_calls y.0) (concat (map text_calls (stmts ys))) h) call reduced nest)
      (lowers ys (all_back (IsNear walked_) (text_calls y.0) (concat (map text_calls (stmts ys))) h)
      (call + (table y.0).calls) reduced nest)

  sames : (ys : List Known) → AllIn (IsNear walked_) (concat (map text_calls (stmts ys))) → (call : ℕ)
      (reduced : Option Bytes) (nest : List (List Range))
      → tables.any_same (map tables.begun (all_of (map table (stmts ys)) call reduced nest))
      ≡ needs.any_same (map reaching (stmts ys)) listed_
  sames [] h call reduced nest = refl
  sames (y ∷ ys) h call reduced nest =
      ap₂ (λ u v. u || v)
      (y.1.same (all_front (IsNear walked_) (text_calls y.0) (concat (map text_calls (stmts ys))) h) call reduced nest)
      (sames ys (all_back (IsNear walked_) (text_calls y.0) (concat (map text_calls (stmts ys))) h)
      (call + (table y.0).calls) reduced nest)

  in_front : (cs ds : List Call) (i : ℕ) (c : Call) → slice_get cs i ≡ Some c → slice_get (cs ++ ds) i ≡ Some c
  in_front [] ds i c h = cc
  in_front (d ∷ cs) ds zero c h = h
  in_front (d ∷ cs) ds (suc i) c h = in_front cs ds i c h

  behind : (cs ds : List Call) (i : ℕ) → slice_get (cs ++ ds) (length cs + i) ≡ slice_get ds i
  behind [] ds i = let e : 0 + i ≡ i = omega arith in ap (slice_get ds) e
  behind (d ∷ cs) ds i = let e : suc (length cs) + i ≡ suc (length cs + i) = omega arith in
      ap (slice_get (d ∷ (cs ++ ds))) e ∙ behind cs ds i

  all_agree : (ys : List Known) → AllIn (IsNear walked_) (concat (map text_calls (stmts ys))) → (site : CallSite)
      (nest : List (List Range)) (k : ℕ) (e : Numbers) (round : Option Turn)
      → AreText site (concat (map text_calls (stmts ys))) → slice_get (iteration_points nest names.lists numbers) k ≡ Some e
      → Agree (portions_of (map portion (stmts ys)) walked_ names site e)
      (reached_in (map reaching (stmts ys)) listed_ names site e round)
      (tables.calls_in (map tables.begun (all_of (map table (stmts ys)) site.call site.reduced nest)) round k)
  all_agree [] h site nest k e round at there later qs es g = g
  all_agree (y ∷ ys) h site nest k e round at there later qs es g =
      let cs = text_calls y.0 in
      let ds = concat (map text_calls (stmts ys)) in
      let next = after_calls site (portion y.0).calls in
      let rest = reached_in (map reaching (stmts ys)) listed_ names next e round in
      let begun_rest = tables.calls_in (map tables.begun (all_of (map table (stmts ys)) next.call site.reduced nest)) round k in
      let inner = all_agree ys (all_back (IsNear walked_) cs ds h) next nest k e round
      (λ i c j. let l = y.1.long in
      let z : site.call + (portion y.0).calls + i ≡ site.call + (length cs + i) = omega (arith, l) in
      ap (slice_get text) z ∙ at (length cs + i) c (behind cs ds i ∙ j)) there later qs es g in
      let own = y.1.agrees (all_front (IsNear walked_) cs ds h) site nest k e round
      (λ i c j. at i c (in_front cs ds i c j)) there
      (portions_of (map portion (stmts ys)) walked_ names next e later) (rest ++ qs) (begun_rest ++ es) inner in
      let front = (reaching y.0).reached listed_ names site e round in
      let begun_front = (tables.begun ((table y.0).table site.call site.reduced nest)).calls round k in
      moved_all _ _ _ _ _ _ refl
      (sym (append_assoc front rest qs)
      ∙ ap (λ (m : ℕ). (front ++ reached_in (map reaching (stmts ys)) listed_ names (after_calls site m) e round) ++ qs)
      y.1.calls)
      (sym (append_assoc begun_front begun_rest es)
      ∙ ap (λ (m : ℕ). (begun_front ++ tables.calls_in (map tables.begun
      (all_of (map table (stmts ys)) (site.call + m) site.reduced nest)) round k) ++ es)
      (sym (same_calls forms walked_ names elems numbers y.0))) own

  each_agrees : (part : ℕ → Part) (g : ℕ → List Reached) (h : ℕ → List Begun) (n t : ℕ)
      → ((i : ℕ) → i < t + n → Agree (part i) (g i) (h i))
      → Agree (each t n part) (flat_map g (range_with_len t n)) (flat_map h (range_with_len t n))
  each_agrees part g h zero t is later qs es a = a
  each_agrees part g h (suc n) t is later qs es a =
      let rest = flat_map g (range_with_len (t + 1) n) in
      let begun_rest = flat_map h (range_with_len (t + 1) n) in
      let inner = each_agrees part g h n (t + 1) (λ i l. is i (omega (arith, l))) later qs es a in
      let own = is t (omega arith) (each (t + 1) n part later) (rest ++ qs) (begun_rest ++ es) inner in
      moved_all _ _ _ _ _ _ refl (sym (append_assoc (g t) rest qs)) (sym (append_assoc (h t) begun_rest es)) own

  -- ---- a call

  call_agrees : (c : Call) (near : IsNear walked_ c) (site : CallSite) (nest : List (List Range)) (k : ℕ) (e : Numbers)
      (round : Option Turn) → slice_get text site.call ≡ Some c → slice_get (iteration_points nest names.lists numbers) k ≡ Some e
      → Agree (served_steps walked_ names site e c (Some near.callee)) (reached_by listed_ names site e round c (Some near.callee))
      ((tables.begun (call_table forms walked_ names elems numbers c (Some near.callee) site.call site.reduced nest)).calls round k)
  call_agrees c near site nest k e round at there later qs es g =
      let its = near.callee in
      let xs = arguments names e site.reduced its.params 0 c.args in
      let row : Numbers → CallInstance = call_instance forms walked_ names site.call site.reduced its c.args in
      let lower = its.level == suc walked_.level in
      let is : (tables.begun (call_table forms walked_ names elems numbers c (Some its) site.call site.reduced nest)).calls round k
      ≡ record { row = row e; lower = lower; turn = round } ∷ [] =
      ap (λ (p : BegunPart). p.calls round k) (begun_call lower (map row (iteration_points nest names.lists numbers)))
      ∙ ap (row_begun lower round) (slice_get_map row (iteration_points nest names.lists numbers) k e there) in
      let one : One forms walked_ text (call_of walked_ its site c xs)
      (needs.as_reached site round (its.level == listed_.level) xs) (record { row = row e; lower = lower; turn = round }) =
      record {
        caller = refl;
        extents = refl;
        in_place = refl;
        instance = sym (ap (instance_in walked_) at ∙ ap callee_instance near.serves);
        key = refl;
        round = refl;
        row = number_same (key_number forms (call_of walked_ its site c xs).key);
        many = sym (flags_many (its.level == walked_.level) xs 0 xs);
        lower = refl;
        near = near.near;
      } in
      moved_all _ _ _ _ _ _
      (sym (args_calls site.outer names e site.reduced its.params 0 c.args (reached_steps walked_ its site c xs later)))
      refl (ap (λ (ds : List Begun). ds ++ es) (sym is)) (more one g)

  call_link : (c : Call) → Link (s.Call c)
  call_link c = record {
    calls = ap (λ (p : Portion). p.calls) (portion_call c) ∙ sym (ap (λ (p : Reaching). p.calls) (reaching_call c));
    long = ap length (text_call c) ∙ sym (ap (λ (p : Portion). p.calls) (portion_call c));
    lower = λ h call reduced nest.
        let near = (subst (AllIn (IsNear walked_)) (text_call c) h).0 in
        ap (λ (t : StatementTable). (tables.begun (t.table call reduced nest)).lower) (table_of_call forms walked_ names elems numbers c)
        ∙ ap (λ (o : Option Callee). (tables.begun (call_table forms walked_ names elems numbers c o call reduced nest)).lower) near.serves
        ∙ ap (λ (p : BegunPart). p.lower) (begun_call _ _)
        ∙ sym (ap (λ (p : Reaching). p.lower listed_) (reaching_call c) ∙ ap (needs.is_lower listed_) near.serves);
    same = λ h call reduced nest.
        let near = (subst (AllIn (IsNear walked_)) (text_call c) h).0 in
        ap (λ (t : StatementTable). (tables.begun (t.table call reduced nest)).same) (table_of_call forms walked_ names elems numbers c)
        ∙ ap (λ (o : Option Callee). (tables.begun (call_table forms walked_ names elems numbers c o call reduced nest)).same) near.serves
        ∙ ap (λ (p : BegunPart). p.same) (begun_call _ _)
        ∙ near_same near.callee.level walked_.level near.near
        ∙ sym (ap (λ (p : Reaching). p.same listed_) (reaching_call c) ∙ ap (needs.is_same listed_) near.serves);
    agrees = λ h site nest k e round at there.
        let near = (subst (AllIn (IsNear walked_)) (text_call c) h).0 in
        let zeroth : slice_get (text_calls (s.Call c)) 0 ≡ Some c = ap (λ (cs : List Call). slice_get cs 0) (text_call c) in
        let z : site.call ≡ site.call + 0 = omega arith in
        let own = call_agrees c near site nest k e round (ap (slice_get text) z ∙ at 0 c zeroth) there in
        let served : Agree (served_steps walked_ names site e c (callee_of walked_ c.task)) (reached_by listed_ names site e round c (callee_of walked_ c.task))
        ((tables.begun (call_table forms walked_ names elems numbers c (callee_of walked_ c.task) site.call site.reduced nest)).calls round k) =
        subst (λ (o : Option Callee). Agree (served_steps walked_ names site e c o) (reached_by listed_ names site e round c o)
        ((tables.begun (call_table forms walked_ names elems numbers c o site.call site.reduced nest)).calls round k)) (sym near.serves) own in
        agree_by _ _ _ _ _ _ (sym (ap (λ (p : Portion). p.steps walked_ names site e) (portion_call c)))
        (sym (ap (λ (p : Reaching). p.reached listed_ names site e round) (reaching_call c)))
        (sym (ap (λ (t : StatementTable). (tables.begun (t.table site.call site.reduced nest)).calls round k)
        (table_of_call forms walked_ names elems numbers c))) served;
  }

  -- ---- a map

  abbrev rows_of : List Range → List (List Range) → List ℕ
  rows_of rs nest = count_rows (map (count_at rs names.lists) (iteration_points nest names.lists numbers))

  map_agrees : (p : Place) (kind : MapKind) (rs : List Range) (ys : List Known)
      → AllIn (IsNear walked_) (concat (map text_calls (stmts ys))) → (site : CallSite)
      (nest : List (List Range)) (k : ℕ) (e : Numbers) (round : Option Turn)
      → AreText site (concat (map text_calls (stmts ys))) → slice_get (iteration_points nest names.lists numbers) k ≡ Some e
      → (v : Bool)
      → Agree (map_steps p kind rs (portions_of (map portion (stmts ys))) walked_ names site e)
      (flat_map (λ t. reached_in (map reaching (stmts ys)) listed_ names (within site p kind t) (turn rs names.lists e t)
      (turn_in v round (count_at rs names.lists e) t)) (range_with_len 0 (count_at rs names.lists e)))
      (flat_map (λ t. tables.calls_in (map tables.begun (all_of (map table (stmts ys)) site.call (reduced_by kind) (nest ++ rs ∷ [])))
      (turn_in v round (get_or (rows_of rs nest) k 0) t) (get_or (starts_from 0 (rows_of rs nest)) k 0 + t))
      (range_with_len 0 (get_or (rows_of rs nest) k 0)))
  map_agrees p kind rs ys h site nest k e round at there v =
      subst (λ (m : ℕ). Agree (map_steps p kind rs (portions_of (map portion (stmts ys))) walked_ names site e) reached
      (flat_map (λ t. tables.calls_in parts (turn_in v round m t) (get_or (starts_from 0 (rows_of rs nest)) k 0 + t)) (range_with_len 0 m)))
      (sym counted) all
    where
      times : List Numbers
      times = iteration_points nest names.lists numbers

      parts : List BegunPart
      parts = map tables.begun (all_of (map table (stmts ys)) site.call (reduced_by kind) (nest ++ rs ∷ []))

      many : ℕ
      many = count_at rs names.lists e

      counts : List ℕ
      counts = map (count_at rs names.lists) times

      plain : get_or counts k 0 ≡ many
      plain = get_or_map (count_at rs names.lists) times k e 0 there

      counted : get_or (rows_of rs nest) k 0 ≡ many
      counted = row_kept counts k ∙ plain

      reached : List Reached
      reached = flat_map (λ t. reached_in (map reaching (stmts ys)) listed_ names (within site p kind t)
          (turn rs names.lists e t) (turn_in v round many t)) (range_with_len 0 many)

      its_part : ℕ → Part
      its_part = iteration_steps (outermost site.outer p) (within site p kind) rs (portions_of (map portion (stmts ys)))
          (value_or [] (bounds rs e names.lists)) walked_ names e

      its_reached : ℕ → List Reached
      its_reached t = reached_in (map reaching (stmts ys)) listed_ names (within site p kind t)
          (turn rs names.lists e t) (turn_in v round many t)

      inner : (t : ℕ) → t < many → Agree (its_part t) (its_reached t)
          (tables.calls_in parts (turn_in v round many t) (get_or (starts_from 0 (rows_of rs nest)) k 0 + t))
      inner t less =
          let rows : count_rows counts ≡ counts = rows_kept counts k t (subst (λ (m : ℕ). t < m) (sym plain) less) in
          let start_is : get_or (starts_from 0 (rows_of rs nest)) k 0 ≡ begun_before k counts =
          ap (λ (ns : List ℕ). get_or (starts_from 0 ns) k 0) rows ∙ first_start (count_at rs names.lists) times k e there in
          subst (λ (m : ℕ). Agree (its_part t) (its_reached t) (tables.calls_in parts (turn_in v round many t) (m + t)))
          (sym start_is)
          (λ later qs es g. all_agree ys h (within site p kind t) (nest ++ rs ∷ []) (begun_before k counts + t)
          (turn rs names.lists e t) (turn_in v round many t) at
          (ap (λ (ms : List Numbers). slice_get ms (begun_before k counts + t))
          (iteration_points_deeper nest rs names.lists numbers)
          ∙ inner_at (count_at rs names.lists) (turn rs names.lists) times k t e there less) later qs es g)

      all : Agree (map_steps p kind rs (portions_of (map portion (stmts ys))) walked_ names site e) reached
          (flat_map (λ t. tables.calls_in parts (turn_in v round many t) (get_or (starts_from 0 (rows_of rs nest)) k 0 + t)) (range_with_len 0 many))
      all later qs es g =
          moved_all _ _ _ _ _ _ (sym (opens_calls site.outer _)) refl refl
          (each_agrees its_part its_reached
          (λ t. tables.calls_in parts (turn_in v round many t) (get_or (starts_from 0 (rows_of rs nest)) k 0 + t)) many 0
          (λ t l. inner t (omega (arith, l))) later qs es g)

  map_link : (p : Place) (kind : MapKind) (rs : List Range) (ys : List Known) → Link (s.Map p kind rs (stmts ys))
  map_link p kind rs ys = record {
    calls = ap (λ (q : Portion). q.calls) (portion_map p kind rs (stmts ys)) ∙ many_calls ys
        ∙ sym (ap (λ (q : Reaching). q.calls) (reaching_map p kind rs (stmts ys)));
    long = ap length (text_map p kind rs (stmts ys)) ∙ all_long ys
        ∙ sym (ap (λ (q : Portion). q.calls) (portion_map p kind rs (stmts ys)));
    lower = λ h call reduced nest.
        ap (λ (t : StatementTable). (tables.begun (t.table call reduced nest)).lower) (table_of_map forms walked_ names elems numbers p kind rs (stmts ys))
        ∙ ap (λ (q : BegunPart). q.lower) (begun_map _ _ _ _ _)
        ∙ lowers ys (subst (AllIn (IsNear walked_)) (text_map p kind rs (stmts ys)) h) call (reduced_by kind) (nest ++ rs ∷ [])
        ∙ sym (ap (λ (q : Reaching). q.lower listed_) (reaching_map p kind rs (stmts ys)));
    same = λ h call reduced nest.
        ap (λ (t : StatementTable). (tables.begun (t.table call reduced nest)).same) (table_of_map forms walked_ names elems numbers p kind rs (stmts ys))
        ∙ ap (λ (q : BegunPart). q.same) (begun_map _ _ _ _ _)
        ∙ sames ys (subst (AllIn (IsNear walked_)) (text_map p kind rs (stmts ys)) h) call (reduced_by kind) (nest ++ rs ∷ [])
        ∙ sym (ap (λ (q : Reaching). q.same listed_) (reaching_map p kind rs (stmts ys)));
    agrees = λ h site nest k e round at there.
        let own = subst (AllIn (IsNear walked_)) (text_map p kind rs (stmts ys)) h in
        let inside : AreText site (concat (map text_calls (stmts ys))) = subst (AreText site) (text_map p kind rs (stmts ys)) at in
        let v = needs.is_spread kind round (needs.any_lower (map reaching (stmts ys)) listed_) (needs.any_same (map reaching (stmts ys)) listed_) in
        let parts = map tables.begun (all_of (map table (stmts ys)) site.call (reduced_by kind) (nest ++ rs ∷ [])) in
        let chosen : is_spread (loop_kind_of elems names kind) (is_some round) (tables.any_lower parts) (tables.any_same parts) ≡ v =
        spread_same elems names kind round (tables.any_lower parts) (tables.any_same parts)
        ∙ ap₂ (needs.is_spread kind round) (lowers ys own site.call (reduced_by kind) (nest ++ rs ∷ [])) (sames ys own site.call (reduced_by kind) (nest ++ rs ∷ [])) in
        let all = map_agrees p kind rs ys own site nest k e round inside there v in
        agree_by _ _ _ _ _ _ (sym (ap (λ (q : Portion). q.steps walked_ names site e) (portion_map p kind rs (stmts ys))))
        (sym (ap (λ (q : Reaching). q.reached listed_ names site e round) (reaching_map p kind rs (stmts ys))))
        (sym (ap (λ (t : StatementTable). (tables.begun (t.table site.call site.reduced nest)).calls round k)
        (table_of_map forms walked_ names elems numbers p kind rs (stmts ys))
        ∙ ap (λ (q : BegunPart). q.calls round k)
        (begun_map p (loop_kind_of elems names kind) (rows_of rs nest) (starts_from 0 (rows_of rs nest))
        (all_of (map table (stmts ys)) site.call (reduced_by kind) (nest ++ rs ∷ [])))
        ∙ ap (λ (w : Bool). flat_map (λ t. tables.calls_in parts (turn_in w round (get_or (rows_of rs nest) k 0) t)
        (get_or (starts_from 0 (rows_of rs nest)) k 0 + t)) (range_with_len 0 (get_or (rows_of rs nest) k 0))) chosen)) all;
  }

  link_step : (y : Stmt-F Known) → Link (roll-Stmt (map-Stmt Known Stmt (λ p. p.0) y))
  link_step (Stmt-F.Call c) = subst Link (sym (s.rolls-Call c)) (call_link c)
  link_step (Stmt-F.Map p kind rs ys) = subst Link (sym (s.rolls-Map p kind rs (stmts ys))) (map_link p kind rs ys)

  link : (y : Stmt) → Link y
  link = ind-Stmt Link (λ y z is. subst (λ w. Link (roll-Stmt w)) is (link_step z))

  abbrev known : List Stmt → List Known
  known [] = []
  known (y ∷ ys) = (y, link y) ∷ known ys

  known_are : (ys : List Stmt) → stmts (known ys) ≡ ys
  known_are [] = refl
  known_are (y ∷ ys) = ap (λ zs. y ∷ zs) (known_are ys)

  pub list_linked : (list : List Stmt) → AllIn (IsNear walked_) (concat (map text_calls list))
      → ((i : ℕ) (c : Call) → slice_get (concat (map text_calls list)) i ≡ Some c → slice_get text i ≡ Some c)
      → All (calls_in (portions_of (map portion list) walked_ names start numbers []))
      (reached_in (map reaching list) listed_ names start numbers None)
      (tables.calls_in (map tables.begun (all_of (map table list) 0 None [])) None 0)
  list_linked list h at =
      subst (λ ys. AllIn (IsNear walked_) (concat (map text_calls ys))
      → ((i : ℕ) (c : Call) → slice_get (concat (map text_calls ys)) i ≡ Some c → slice_get text i ≡ Some c)
      → All (calls_in (portions_of (map portion ys) walked_ names start numbers []))
      (reached_in (map reaching ys) listed_ names start numbers None)
      (tables.calls_in (map tables.begun (all_of (map table ys) 0 None [])) None 0)) (known_are list)
      (λ g a. whole (known list) g a) h at
    where
      whole : (ys : List Known) → AllIn (IsNear walked_) (concat (map text_calls (stmts ys)))
          → ((i : ℕ) (c : Call) → slice_get (concat (map text_calls (stmts ys))) i ≡ Some c → slice_get text i ≡ Some c)
          → All (calls_in (portions_of (map portion (stmts ys)) walked_ names start numbers []))
          (reached_in (map reaching (stmts ys)) listed_ names start numbers None)
          (tables.calls_in (map tables.begun (all_of (map table (stmts ys)) 0 None [])) None 0)
      whole ys g a =
          moved_all _ _ _ _ _ _ refl (append-nil _) (append-nil _)
          (all_agree ys g start [] 0 numbers None (λ i c j. let z : 0 + i ≡ i = omega arith in ap (slice_get text) z ∙ a i c j) refl
          [] [] [] none)
