-- From any bytes in the buffers of arrays that are only written.
use Rattle.std.proofs.Common.{◌≡◌, ℕ, zero, suc, ◌+◌, ◌<◌, Bool, true, false, ◌&&◌, List, [], ◌∷◌, length, Option}
use Rattle.std.proofs.Common.{Some, None, Ok, Err, refl, sym, ap, ap₂, ◌∙◌, subst, arith, ◌⊎◌, inl, inr}
use Rattle.std.specs.Prelude.{slice_get, nat_eq, nat_lt, nat_le, ◌-◌, pos, ℤ, if◌then◌else◌}
use Rattle.std.proofs.lemmas.Bool.Decides.{nat_tests}
use mathlib.Core.Path.{fun_ext}
use Rattle.sq_rect.specs.Placing.{IsIn}
use Rattle.sq_ast.specs.Modes.{is_read, is_written}
use Rattle.sq_ast.specs.declared.program.Mode.{Mode}
use Rattle.sq_ast.specs.declared.program.Mode.TheVariants.{Input, Output, Both}
use Rattle.sq_leaf.specs.declared.shape.Shape.{Shape}
use Rattle.sq_leaf.specs.Source.{Arrays}
use Rattle.sq_blocks.specs.Arguments.{lengths}
use Rattle.sq_blocks.specs.declared.argument.Argument.{Argument}
use Rattle.sq_work.specs.Meaning.{Outcome, and_then, is_inside, covers, in_array, in_block, has, block_value}
use Rattle.sq_work.specs.Meaning.{param_value, at_entry, at_return, meaning}
use Rattle.sq_ir.specs.Runs.{End, exec}
use Rattle.sq_ir.specs.Events as events
use Rattle.sq_ir.specs.Events.{Leaves, Bytes}
use Rattle.sq_ir.specs.Written.{Setting}
use Rattle.sq_placed.specs.Placed.{Placed, PlacedArg, PlacedCall, Call, arguments, plain}
use Rattle.sq_cells.specs.Cells.{spot, State}
use Rattle.sq_cells.specs.Tree.{Cause}
use Rattle.sq_plan_laws.specs.Codes.{loaded, Codes}
use Rattle.sq_plan_laws.specs.Fitting.{whole}
use Rattle.sq_plan_laws.specs.Entry.{plan_tree, held_in, EndsSo, IsPlan}
use Rattle.sq_plan_laws.proofs.Entry.{plans_follow}
use Rattle.sq_program_laws.specs.Entry.{IsWhole, AreWhole, ReadCodes, EntriesFollow}

-- ---- whole blocks

inside_in : (ns cs : List ℕ) → is_inside (lengths (whole ns)) cs ≡ true → IsIn ns cs × (in_array (whole ns) cs ≡ cs)
inside_in [] [] h = (tt, refl)
inside_in [] (c ∷ cs) h = cc
inside_in (n ∷ ns) [] h = cc
inside_in (n ∷ ns) (c ∷ cs) h = go (nat_lt c (n - 0)) refl (λ g. inside_in ns cs g) h
  where
    less : nat_lt c (n - 0) ≡ true → c < n
    less e = grind (arith, nat_tests)

    go : (b : Bool) → nat_lt c (n - 0) ≡ b
        → (is_inside (lengths (whole ns)) cs ≡ true → IsIn ns cs × (in_array (whole ns) cs ≡ cs))
        → (b && is_inside (lengths (whole ns)) cs) ≡ true → IsIn (n ∷ ns) (c ∷ cs)
        × (in_array (whole (n ∷ ns)) (c ∷ cs) ≡ c ∷ cs)
    go false e rest g = cc
    go true e rest g =
        let r = rest g in
        let z : 0 + c ≡ c = omega arith in
        ((less e, r.0), ap₂ (λ (x : ℕ) (l : List ℕ). x ∷ l) z r.1)

covers_whole : (ns cs : List ℕ) → IsIn ns cs → covers (whole ns) cs ≡ true
covers_whole [] [] h = refl
covers_whole [] (c ∷ cs) h = absurd h
covers_whole (n ∷ ns) [] h = absurd h
covers_whole (n ∷ ns) (c ∷ cs) h = let l = less h.0 in ap₂ (λ a b. nat_le 0 c && (a && b)) l (covers_whole ns cs h.1)
    ∙ low
  where
    less : c < n → nat_lt c n ≡ true
    less k = grind (arith, nat_tests)

    low : (nat_le 0 c && (true && true)) ≡ true
    low = grind (arith, nat_tests)

-- ---- what goes in

module _ (outer : List Shape) (a b : Arrays) where
  -- the arrays that are read are the same
  abbrev SameRead : List Argument → Type 0
  SameRead args = (i : ℕ) (x : Argument) → slice_get args i ≡ Some x → is_read x.mode ≡ true
      → (sh : Shape) (cs : List ℕ) → slice_get outer x.array ≡ Some sh → IsIn sh.extents cs
      → a x.array cs ≡ b x.array cs

  block_same : (x : Argument) (sh : Shape) → slice_get outer x.array ≡ Some sh → x.rect ≡ whole sh.extents
      → ((cs : List ℕ) → IsIn sh.extents cs → a x.array cs ≡ b x.array cs) → (cs : List ℕ) → block_value x a cs
      ≡ block_value x b cs
  block_same x sh there is h cs = go (is_inside (lengths x.rect) cs) refl
    where
      go : (v : Bool) → is_inside (lengths x.rect) cs ≡ v → (if v then a x.array (in_array x.rect cs) else pos 0)
          ≡ (if v then b x.array (in_array x.rect cs) else pos 0)
      go false e = refl
      go true e =
          let i = inside_in sh.extents cs (ap (λ r. is_inside (lengths r) cs) (sym is) ∙ e) in
          let at : in_array x.rect cs ≡ cs = ap (λ r. in_array r cs) is ∙ i.1 in
          ap (a x.array) at ∙ (h cs i.0 ∙ ap (b x.array) (sym at))

  param_same : (args : List Argument) → ((i : ℕ) (x : Argument) → slice_get args i ≡ Some x → IsWhole outer i x)
      → SameRead args → (k : ℕ) (o : Option Argument) → slice_get args k ≡ o
      → (cs : List ℕ) → param_value o a cs ≡ param_value o b cs
  param_same args w h k None e cs = refl
  param_same args w h k (Some x) e cs = go (is_read x.mode) refl
    where
      go : (v : Bool) → is_read x.mode ≡ v → (if v then block_value x a cs else pos 0)
          ≡ (if v then block_value x b cs else pos 0)
      go false r = refl
      go true r =
          let y = w k x e in
          let there : slice_get outer x.array ≡ Some y.shape = ap (slice_get outer) y.array ∙ y.there in
          block_same x y.shape there y.rect (λ ds i. h k x e r y.shape ds there i) cs

  entry_same : (args : List Argument) → ((i : ℕ) (x : Argument) → slice_get args i ≡ Some x → IsWhole outer i x)
      → SameRead args → at_entry args a ≡ at_entry args b
  entry_same args w h = fun_ext (λ k. fun_ext (λ cs. param_same args w h k (slice_get args k) refl cs))

  -- ---- what comes back

  abbrev Back : List Argument → ℕ → List ℕ → Type 0
  Back args n cs = (a n cs ≡ b n cs)
      ⊎ ((j : ℕ) × (x : Argument) × (slice_get args j ≡ Some x) × ((is_written x.mode && has n cs x) ≡ true))

  return_same : (k : ℕ) (args : List Argument) (inner : Arrays) (n : ℕ) (cs : List ℕ) → Back args n cs
      → at_return k args inner a n cs ≡ at_return k args inner b n cs
  return_same k [] inner n cs (inl e) = e
  return_same k [] inner n cs (inr (j, x, e, h)) = cc
  return_same k (y ∷ args) inner n cs h
      = go (is_written y.mode && has n cs y) refl (λ g. return_same (suc k) args inner n cs g)
    where
      rest : (is_written y.mode && has n cs y) ≡ false → Back (y ∷ args) n cs → Back args n cs
      rest f (inl e) = inl e
      rest f (inr (zero, x, e, g)) = let same : y ≡ x = cc in let no : true ≡ false = sym g
          ∙ (ap (λ (z : Argument). is_written z.mode && has n cs z) (sym same) ∙ f) in cc
      rest f (inr (suc j, x, e, g)) = inr (j, x, e, g)

      go : (v : Bool) → (is_written y.mode && has n cs y) ≡ v
          → (Back args n cs → at_return (suc k) args inner a n cs ≡ at_return (suc k) args inner b n cs)
          → (if v then inner k (in_block y.rect cs) else at_return (suc k) args inner a n cs)
          ≡ (if v then inner k (in_block y.rect cs) else at_return (suc k) args inner b n cs)
      go true e f = refl
      go false e f = f (rest e h)

there_at : {A : Type 0} (xs : List A) (i : ℕ) → i < length xs → (x : A) × (slice_get xs i ≡ Some x)
there_at [] i h = absurd (omega (arith, h))
there_at (x ∷ xs) zero h = (x, refl)
there_at (x ∷ xs) (suc i) h = there_at xs i (omega (arith, h))

inside_list : {A : Type 0} (xs : List A) (i : ℕ) (x : A) → slice_get xs i ≡ Some x → i < length xs
inside_list [] i x h = absurd (cc h)
inside_list (y ∷ xs) zero x h = omega arith
inside_list (y ∷ xs) (suc i) x h = let e = inside_list xs i x h in omega (arith, e)

some_same : {A : Type 0} {x y : A} → Some x ≡ Some y → x ≡ y
some_same h = cc h

argument_at : (args : List PlacedArg) (i : ℕ) (x : Argument) → slice_get (arguments args) i ≡ Some x → (p : PlacedArg)
    × (slice_get args i ≡ Some p) × (p.argument ≡ x)
argument_at [] i x h = absurd (cc h)
argument_at (p ∷ args) zero x h = (p, refl, cc h)
argument_at (p ∷ args) (suc i) x h = argument_at args i x h

at_argument : (args : List PlacedArg) (i : ℕ) (p : PlacedArg) → slice_get args i ≡ Some p → slice_get (arguments args) i
    ≡ Some p.argument
at_argument [] i p h = absurd (cc h)
at_argument (q ∷ args) zero p h = ap (λ (z : PlacedArg). Some z.argument) (some_same h)
at_argument (q ∷ args) (suc i) p h = at_argument args i p h

module _ (s : Setting) (leaves : Leaves Cause) (outer : List Shape) (buffers : List ℕ) (may : ℕ → Bool) (c : PlacedCall)
    (w : Placed)
    (plan : IsPlan s leaves outer buffers may (Call c w)) (wholes : AreWhole outer c.args)
    (many : length c.args ≡ length outer)
    (a : Arrays) (m : Bytes) (codes : ReadCodes outer c.args a (held_in s buffers m)) where
  abbrev state : State
  state = held_in s buffers m

  -- what is loaded from the bytes, all arrays of it
  abbrev in_shape : Option Shape → ℕ → List ℕ → ℤ
  in_shape None n cs = pos 0
  in_shape (Some sh) n cs = loaded sh (λ k. state (spot n k)) cs

  abbrev b : Arrays
  b n cs = in_shape (slice_get outer n) n cs

  b_codes : Codes outer b state
  b_codes = record { at = λ n sh cs there i. ap (λ o. in_shape o n cs) there }

  abbrev args : List Argument
  args = arguments c.args

  all_whole : (i : ℕ) (x : Argument) → slice_get args i ≡ Some x → IsWhole outer i x
  all_whole i x h = let p = argument_at c.args i x h in subst (IsWhole outer i) p.2 (wholes i p.0 p.1)

  same_read : SameRead outer a b args
  same_read i x e r sh cs there inn =
      let p = argument_at c.args i x e in
      let y = all_whole i x e in
      let at : slice_get outer i ≡ Some sh = ap (slice_get outer) (sym y.array) ∙ there in
      ap (λ n. a n cs) y.array
      ∙ (codes.at i p.0 sh cs p.1 (ap (λ (z : Argument). is_read z.mode) p.2 ∙ r) at inn
      ∙ (sym (ap (λ o. in_shape o i cs) at) ∙ ap (λ n. b n cs) (sym y.array)))

  back : (n : ℕ) (sh : Shape) (cs : List ℕ) → slice_get outer n ≡ Some sh → IsIn sh.extents cs
      → Back outer a b args n cs
  back n sh cs there inn = go x.0.argument.mode refl
    where
      x : (p : PlacedArg) × (slice_get c.args n ≡ Some p)
      x = there_at c.args n (let l = inside_list outer n sh there in omega (arith, l, many))

      y : IsWhole outer n x.0.argument
      y = wholes n x.0 x.1

      shape : y.shape ≡ sh
      shape = some_same (sym y.there ∙ there)

      read : is_read x.0.argument.mode ≡ true → Back outer a b args n cs
      read r = inl (codes.at n x.0 sh cs x.1 r there inn ∙ sym (ap (λ o. in_shape o n cs) there))

      covered : has n cs x.0.argument ≡ true
      covered =
          ap₂ (λ k r. nat_eq n k && covers r cs) y.array (y.rect ∙ ap (λ (z : Shape). whole z.extents) shape)
          ∙ (ap (λ v. nat_eq n n && v) (covers_whole sh.extents cs inn) ∙ same_number)
        where
          same_number : (nat_eq n n && true) ≡ true
          same_number = grind (arith, nat_tests)

      go : (z : Mode) → x.0.argument.mode ≡ z → Back outer a b args n cs
      go Input e = read (ap is_read e)
      go Both e = read (ap is_read e)
      go Output e = inr (n, x.0.argument, at_argument c.args n x.0 x.1, ap₂ (λ z v. is_written z && v) e covered)

  ends : (o : Outcome) (e : End Bytes Cause)
      → EndsSo s outer buffers (and_then o (λ inner. Ok (at_return 0 args inner b))) e
      → EndsSo s outer buffers (and_then o (λ inner. Ok (at_return 0 args inner a))) e
  ends (Err x) e h = h
  ends (Ok inner) e h = (
    h.0,
    h.1,
    record {
      at = λ n sh cs there inn. return_same outer a b 0 args inner n cs (back n sh cs there inn)
          ∙ h.2.at n sh cs there inn;
    },
  )

  follows : EndsSo s outer buffers (meaning (plain (Call c w)) a)
      (exec (events.meaning leaves) (plan_tree s (Call c w) outer buffers) m)
  follows =
      let e = exec (events.meaning leaves) (plan_tree s (Call c w) outer buffers) m in
      let by = plans_follow s leaves outer buffers may (Call c w) plan b m b_codes in
      subst (λ (z : Arrays). EndsSo s outer buffers
      (and_then (meaning (plain w) z) (λ inner. Ok (at_return 0 args inner a))) e)
      (sym (entry_same outer a b args all_whole same_read))
      (ends (meaning (plain w) (at_entry args b)) e by)

pub entries_follow : EntriesFollow
entries_follow s leaves outer buffers may c w plan wholes many a m codes
    = follows s leaves outer buffers may c w plan wholes many a m codes
