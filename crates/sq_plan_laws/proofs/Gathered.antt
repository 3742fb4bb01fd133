-- A `mapreduce`: its iterations from one start, and what they leave in the array that is reduced into.
use Rattle.std.proofs.Common.{◌≡◌, ◌≢◌, ℕ, zero, suc, ◌+◌, ◌*◌, ◌/◌, ◌%◌, ◌<◌, Bool, true, false, cond, ◌&&◌, List, []}
use Rattle.std.proofs.Common.{◌∷◌, map, refl, sym, ap, ap₂, ◌∙◌, subst, arith, ⊎_elim}
use Rattle.std.specs.Prelude.{Option, Some, None, Ok, Err, slice_get, nat_eq, nat_lt, nat_le, pos, if◌then◌else◌}
use Rattle.std.specs.List.{list_any}
use Rattle.std.proofs.lemmas.Bool.Decides.{nat_tests}
use Rattle.std.proofs.lemmas.Nat.{div-mul-add, mod-mul-add}
use Rattle.sq_num.specs.Elements.{width, value}
use Rattle.sq_num.specs.Reductions.{red, identity}
use Rattle.sq_rect.specs.Extents.{product}
use Rattle.sq_rect.specs.Placing.{IsIn}
use Rattle.sq_leaf.specs.declared.shape.Shape.{Shape}
use Rattle.sq_leaf.specs.Source.{Arrays}
use Rattle.sq_blocks.specs.declared.argument.Argument.{Argument}
use Rattle.sq_work.specs.declared.reduction.Reduction.{Reduction}
use Rattle.sq_blocks.specs.Arguments.{lengths}
use Rattle.sq_ast.specs.Modes.{is_written}
use Rattle.sq_work.specs.Work as work
use Rattle.sq_work.specs.Meaning as source
use Rattle.sq_work.specs.Meaning.{Outcome, covers, is_inside, in_array, in_block, has, block_value, at_entry, at_return}
use Rattle.sq_work.specs.Meaning.{with_identity, accesses, writes, meaning, with_writes}
use Rattle.sq_placed.specs.Placed.{PlacedArg, PlacedCall, arguments, plain_call}
use Rattle.sq_cells.specs.Machine.{Op}
use Rattle.sq_cells.specs.Cells.{Spot, spot, State, put}
use Rattle.sq_cells.specs.Tree.{Trap, width_of, element, byte_in}
use Rattle.sq_cells.specs.Work as bytes
use Rattle.sq_cells.specs.Work.{Ends, Traps, entry_of, come_back, any_block, any_below, folded, always, value_at}
use Rattle.sq_cells.proofs.Cells.{put_in, put_out}
use Rattle.sq_plan_laws.specs.Coordinates.{number}
use Rattle.sq_plan_laws.specs.Codes.{listed, bytes_in, loaded, Codes, SameOutcome}
use Rattle.sq_plan_laws.specs.Calling.{mode_of, block_of, shapes_of, arrays_of}
use Rattle.sq_plan_laws.specs.OnBytes.{arity_of, which_of, op_of}
use Rattle.sq_plan_laws.specs.Fitting.{IsSum, whole}
use Rattle.sq_plan_laws.proofs.Coordinates.{byte_below}
use Rattle.sq_plan_laws.proofs.PlacedLists.{listed_same, at_left, mapped, mapped_from, same_some}
use Rattle.sq_plan_laws.proofs.Entered.{is_in, plain_param, sum_param, entry_codes}
use Rattle.sq_plan_laws.proofs.Returned.{Wrote, NoneWrote, returned_by, has_array, array_has, back_codes, wrote_same}
use Rattle.sq_plan_laws.proofs.Outcomes.{chosen_same}
use Rattle.sq_plan_laws.proofs.Elements.{held, bytes_held, combined_held, element_table, element_held, folded_table}
use Rattle.sq_plan_laws.proofs.Elements.{width_is}

-- ---- a whole array as a block

pub lengths_whole : (ns : List ℕ) → lengths (whole ns) ≡ ns
lengths_whole [] = refl
lengths_whole (n ∷ ns) = ap₂ (λ x (l : List ℕ). x ∷ l) (omega arith) (lengths_whole ns)

pub array_whole : (ns cs : List ℕ) → IsIn ns cs → in_array (whole ns) cs ≡ cs
array_whole [] [] at = refl
array_whole [] (c ∷ cs) at = absurd at
array_whole (n ∷ ns) [] at = absurd at
array_whole (n ∷ ns) (c ∷ cs) at = ap₂ (λ x (l : List ℕ). x ∷ l) (omega arith) (array_whole ns cs at.1)

pub block_whole : (ns cs : List ℕ) → IsIn ns cs → in_block (whole ns) cs ≡ cs
block_whole [] [] at = refl
block_whole [] (c ∷ cs) at = absurd at
block_whole (n ∷ ns) [] at = absurd at
block_whole (n ∷ ns) (c ∷ cs) at = ap₂ (λ x (l : List ℕ). x ∷ l) (omega arith) (block_whole ns cs at.1)

pub covers_whole : (ns cs : List ℕ) → IsIn ns cs → covers (whole ns) cs ≡ true
covers_whole [] [] at = refl
covers_whole [] (c ∷ cs) at = absurd at
covers_whole (n ∷ ns) [] at = absurd at
covers_whole (n ∷ ns) (c ∷ cs) at =
    let low : c < n = at.0 in
    let first : nat_lt c n ≡ true = grind (arith, nat_tests, low) in
    let zero_below : nat_le 0 c ≡ true = grind (arith, nat_tests) in
    ap₂ (λ x y. x && (y && covers (whole ns) cs)) zero_below first ∙ covers_whole ns cs at.1

not_eq : (m n : ℕ) → m ≢ n → nat_eq m n ≡ false
not_eq m n h = grind (arith, nat_tests, h)

are_eq : (n : ℕ) → nat_eq n n ≡ true
are_eq n = grind (arith, nat_tests)

-- ---- an iteration

-- the meaning of an iteration: one call and nothing else
abbrev pub turn : PlacedCall → work.Work → Arrays → Outcome
turn c w s = meaning (work.Then (plain_call c w) work.Nothing) s

module _ (outer : List Shape) (r : Reduction) (c : PlacedCall) (sums : IsSum outer r c) (of : Shape)
    (there : slice_get outer r.array ≡ Some of) where
  abbrev which : ℕ
  which = which_of c.args

  is_which : (k : ℕ) (p : PlacedArg) → slice_get c.args k ≡ Some p → p.argument.array ≡ r.array → k ≡ which
  is_which k p e same = go (nat_eq k which) refl
    where
      go : (b : Bool) → nat_eq k which ≡ b → k ≡ which
      go true f = grind (arith, nat_tests, f)
      go false f = let ne : k ≢ which = grind (arith, nat_tests, f) in absurd ((sums.others k p e ne).1 same)

  is_sum : (k : ℕ) (p : PlacedArg) → slice_get c.args k ≡ Some p → k ≡ which → p ≡ sums.sum
  is_sum k p e f = same_some (sym e ∙ (ap (slice_get c.args) f ∙ sums.there))

  extents : of.extents ≡ sums.sum.shape.extents
  extents = sums.all of there

  -- what comes in
  pub sum_entry : (s : Arrays) (s' : State) → Codes outer s s'
      → Codes (shapes_of c) (at_entry (arguments c.args) (with_identity r s)) (entry_of (arrays_of outer c) s')
  sum_entry s s' codes = entry_codes outer c (with_identity r s) s'
      (λ k p cs e at. go k p cs e at (nat_eq k which) refl)
    where
      go : (k : ℕ) (p : PlacedArg) (cs : List ℕ) → slice_get c.args k ≡ Some p → IsIn p.shape.extents cs → (b : Bool)
          → nat_eq k which ≡ b
          → source.param_value (Some p.argument) (with_identity r s) cs
          ≡ loaded p.shape (λ j. bytes.start_of (mode_of p) j
          (s' (block_of (slice_get outer p.argument.array) p.argument j))) cs
      go k p cs e at true f =
          let same : p ≡ sums.sum = is_sum k p e (grind (arith, nat_tests, f)) in
          let elem : p.shape.elem ≡ r.elem = ap (λ (q : PlacedArg). q.shape.elem) same ∙ sums.elem in
          let array : p.argument.array ≡ r.array = ap (λ (q : PlacedArg). q.argument.array) same ∙ sums.array in
          let rect : lengths p.argument.rect ≡ p.shape.extents = sym (sums.args.each k p e).extents in
          let inside : is_inside (lengths p.argument.rect) cs ≡ true = ap (λ ns. is_inside ns cs) rect
          ∙ is_in p.shape.extents cs at in
          let here : with_identity r s p.argument.array (in_array p.argument.rect cs) ≡ identity r.op p.shape.elem =
          ap (λ m. if nat_eq m r.array then identity r.op r.elem else s m (in_array p.argument.rect cs)) array
          ∙ (ap (λ b. if b then identity r.op r.elem else s r.array (in_array p.argument.rect cs)) (are_eq r.array)
          ∙ ap (identity r.op) (sym elem)) in
          let value_is : block_value p.argument (with_identity r s) cs ≡ identity r.op p.shape.elem =
          ap (λ b. if b then with_identity r s p.argument.array (in_array p.argument.rect cs) else pos 0) inside
          ∙ here in
          sum_param p r.op (with_identity r s) (λ j. s' (block_of (slice_get outer p.argument.array) p.argument j)) cs
          (ap (λ (q : PlacedArg). q.gathers) same ∙ sums.gathers) value_is
          (ap (λ (q : PlacedArg). q.argument.mode) same ∙ sums.mode)
      go k p cs e at false f =
          let ne : k ≢ which = grind (arith, nat_tests, f) in
          let other = sums.others k p e ne in
          let fits = sums.args.each k p e in
          plain_param p fits.of (slice_get outer p.argument.array) (with_identity r s) s' cs fits.there
          (λ ds inn. ap (λ b. if b then identity r.op r.elem else s p.argument.array ds)
          (not_eq p.argument.array r.array other.1) ∙ codes.at p.argument.array fits.of ds fits.there inn)
          fits.fits fits.elem fits.extents other.0 at

  -- what goes back to other arrays
  sum_others : (s inner : Arrays) (s' inner' : State) → Codes outer s s' → Codes (shapes_of c) inner inner'
      → (m : ℕ) (sh : Shape) (cs : List ℕ) → slice_get outer m ≡ Some sh → IsIn sh.extents cs → m ≢ r.array
      → at_return 0 (arguments c.args) inner (with_identity r s) m cs
      ≡ loaded sh (λ k. come_back (arity_of c) (arrays_of outer c) inner' s' (spot m k)) cs
  sum_others s inner s' inner' codes coded m sh cs is at ne =
      back_codes outer c sums.args sums.no_alias m sh cs is at (no_sum m ne) inner (with_identity r s) inner' s' coded
      (ap (λ b. if b then identity r.op r.elem else s m cs) (not_eq m r.array ne) ∙ codes.at m sh cs is at)
    where
      no_sum : (m : ℕ) → m ≢ r.array → (k : ℕ) (p : PlacedArg) → slice_get c.args k ≡ Some p → p.argument.array ≡ m
          → p.gathers ≡ None
      no_sum m ne k p e same = go (nat_eq k which) refl
        where
          go : (b : Bool) → nat_eq k which ≡ b → p.gathers ≡ None
          go true f = let is : p ≡ sums.sum
              = is_sum k p e (grind (arith, nat_tests, f)) in absurd
              (ne (sym same ∙ (ap (λ (q : PlacedArg). q.argument.array) is ∙ sums.array)))
          go false f = let far : k ≢ which = grind (arith, nat_tests, f) in (sums.others k p e far).0

  pub others_written : (m : ℕ) (sh : Shape) (cs : List ℕ) (b : ℕ) → slice_get outer m ≡ Some sh → IsIn sh.extents cs
      → m ≢ r.array → b < width sh.elem
      → list_any (λ a. is_written a.mode && has m cs a) (arguments c.args)
      ≡ any_block (arity_of c) (arrays_of outer c) (spot m (number sh.extents cs * width sh.elem + b))
  others_written m sh cs b is at ne lb = wrote_same outer c sums.args sums.no_alias m sh cs is at (no_sum m ne) b lb
    where
      no_sum : (m : ℕ) → m ≢ r.array → (k : ℕ) (p : PlacedArg) → slice_get c.args k ≡ Some p → p.argument.array ≡ m
          → p.gathers ≡ None
      no_sum m ne k p e same = go (nat_eq k which) refl
        where
          go : (b : Bool) → nat_eq k which ≡ b → p.gathers ≡ None
          go true f = let is : p ≡ sums.sum
              = is_sum k p e (grind (arith, nat_tests, f)) in absurd
              (ne (sym same ∙ (ap (λ (q : PlacedArg). q.argument.array) is ∙ sums.array)))
          go false f = let far : k ≢ which = grind (arith, nat_tests, f) in (sums.others k p e far).0

  -- and to the one that is reduced into
  sum_own : (s inner : Arrays) (inner' : State) → Codes (shapes_of c) inner inner' → (cs : List ℕ) → IsIn of.extents cs
      → at_return 0 (arguments c.args) inner (with_identity r s) r.array cs ≡ loaded of (λ k. inner' (spot which k)) cs
  sum_own s inner inner' coded cs at
      = ⊎_elim wrote nobody (returned_by 0 (arguments c.args) inner (with_identity r s) r.array cs)
    where
      at' : IsIn sums.sum.shape.extents cs
      at' = subst (λ ns. IsIn ns cs) extents at

      elem : sums.sum.shape.elem ≡ of.elem
      elem = let fits = sums.args.each which sums.sum sums.there in fits.elem
          ∙ ap (λ (z : Shape). z.elem) (same_some (sym fits.there ∙ (ap (slice_get outer) sums.array ∙ there)))

      wrote : Wrote (arguments c.args) r.array cs
          (λ j a. at_return 0 (arguments c.args) inner (with_identity r s) r.array cs
          ≡ inner (0 + j) (in_block a.rect cs)) → at_return 0 (arguments c.args) inner (with_identity r s) r.array cs
          ≡ loaded of (λ k. inner' (spot which k)) cs
      wrote h =
          let got = mapped_from (λ (q : PlacedArg). q.argument) c.args h.j h.a h.there in
          let same = has_array r.array cs h.a h.has_it in
          let is = is_which h.j got.0 got.1 (ap (λ (a : Argument). a.array) (sym got.2) ∙ same.0) in
          let sum = is_sum h.j got.0 got.1 is in
          let zero_plus : 0 + h.j ≡ h.j = omega arith in
          let rect : h.a.rect ≡ whole sums.sum.shape.extents = ap (λ (a : Argument). a.rect) got.2
          ∙ (ap (λ (q : PlacedArg). q.argument.rect) sum ∙ sums.is_whole) in
          h.it ∙ ap₂ inner (zero_plus ∙ is) (ap (λ l. in_block l cs) rect ∙ block_whole sums.sum.shape.extents cs at')
          ∙ coded.at which sums.sum.shape cs
          (at_left (λ (q : PlacedArg). q.shape) c.args (map (λ k. k.shape) c.locals) which sums.sum sums.there) at'
          ∙ ap₂ (λ e ns. value e (listed (width e) (λ b. inner' (spot which (number ns cs * width e + b))))) elem
          (sym extents)

      nobody : NoneWrote (arguments c.args) r.array cs
          × (at_return 0 (arguments c.args) inner (with_identity r s) r.array cs ≡ with_identity r s r.array cs)
          → at_return 0 (arguments c.args) inner (with_identity r s) r.array cs
          ≡ loaded of (λ k. inner' (spot which k)) cs
      nobody h = absurd (h.0 which sums.sum.argument
          (mapped (λ (q : PlacedArg). q.argument) c.args which sums.sum sums.there) (ap is_written sums.mode)
          (array_has r.array cs sums.sum.argument sums.array
          (ap (λ l. covers l cs) sums.is_whole ∙ covers_whole sums.sum.shape.extents cs at')))

  -- an iteration's end on numbers, and its callee's end on bytes
  abbrev pub OwnSame : State → Outcome → bytes.Outcome → Type 0
  OwnSame s' (Ok own) (Ends inner') =
      ((m : ℕ) (sh : Shape) (cs : List ℕ) → slice_get outer m ≡ Some sh → IsIn sh.extents cs → m ≢ r.array → own m cs
      ≡ loaded sh (λ k. come_back (arity_of c) (arrays_of outer c) inner' s' (spot m k)) cs)
      × ((cs : List ℕ) → IsIn of.extents cs → own r.array cs ≡ loaded of (λ k. inner' (spot which k)) cs)
  OwnSame s' (Ok own) (Traps y) = ⊥
  OwnSame s' (Err x) (Ends inner') = ⊥
  OwnSame s' (Err x) (Traps y) = (x.path ≡ y.path) × (x.trap ≡ y.cause)

  pub turn_same : (w : work.Work) (w' : bytes.Work) (s : Arrays) (s' : State) → Codes outer s s'
      → ((a : Arrays) (a' : State) → Codes (shapes_of c) a a'
      → SameOutcome (shapes_of c) (meaning w a) (bytes.meaning w' a'))
      → OwnSame s' (turn c w (with_identity r s)) (bytes.meaning w' (entry_of (arrays_of outer c) s'))
  turn_same w w' s s' codes body = go (meaning w (at_entry (arguments c.args) (with_identity r s)))
      (bytes.meaning w' (entry_of (arrays_of outer c) s')) (body _ _ (sum_entry s s' codes))
    where
      go : (o : Outcome) (o' : bytes.Outcome) → SameOutcome (shapes_of c) o o'
          → OwnSame s' (source.and_then (source.and_then o
          (λ inner. Ok (at_return 0 (arguments c.args) inner (with_identity r s)))) (λ a. Ok a)) o'
      go (Ok inner) (Ends inner') h = (
        λ m sh cs is at ne. sum_others s inner s' inner' codes h m sh cs is at ne,
        λ cs at. sum_own s inner inner' h
            cs at,
      )
      go (Ok inner) (Traps y) h = absurd h
      go (Err x) (Ends inner') h = absurd h
      go (Err x) (Traps y) h = h

-- ---- all iterations

module _ (outer : List Shape) (r : Reduction) (of : Shape) (there : slice_get outer r.array ≡ Some of) (which : ℕ)
    (s' : State) (x' : ℕ → bytes.Outcome) where
  abbrev op : Op
  op = op_of r

  -- the values that the iterations leave in the array that is reduced into
  abbrev pub left : ℕ → ℕ → ℕ
  left t k = value_at (x' t) (spot which k)

  abbrev pub fold_at : ℕ → List ℕ → List ℕ
  fold_at n cs = folded op always (λ t. element (width_of op) (left t) (number of.extents cs)) n
      (element (width_of op) (λ j. s' (spot r.array j)) (number of.extents cs))

  -- the first n iterations
  abbrev pub GatherSame : ℕ → Outcome → Option Trap → State → Type 0
  GatherSame n (Ok below) None merged =
      ((m : ℕ) (sh : Shape) (cs : List ℕ) → slice_get outer m ≡ Some sh → IsIn sh.extents cs → m ≢ r.array → below m cs
      ≡ loaded sh (λ k. merged (spot m k)) cs)
      × ((cs : List ℕ) → IsIn of.extents cs → below r.array cs ≡ held r.elem (fold_at n cs))
  GatherSame n (Ok below) (Some y) merged = ⊥
  GatherSame n (Err x) None merged = ⊥
  GatherSame n (Err x) (Some y) merged = (x.path ≡ y.path) × (x.trap ≡ y.cause)

  element_of_sum : (elem : of.elem ≡ r.elem) (x : ℕ → ℕ) (cs : List ℕ) → loaded of x cs
      ≡ held r.elem (element (width_of op) x (number of.extents cs))
  element_of_sum elem x cs = ap (λ e. value e (listed (width e) (λ b. x (number of.extents cs * width e + b)))) elem
      ∙ sym (element_held op x (number of.extents cs))

  module _ (elem : of.elem ≡ r.elem) where
    gather_step : (n : ℕ) (c : PlacedCall) (sums : IsSum outer r c) → which_of c.args ≡ which → (w : ℕ → List ℕ → Bool)
        → ((m : ℕ) (sh : Shape) (cs : List ℕ) (b : ℕ) → slice_get outer m ≡ Some sh → IsIn sh.extents cs → m ≢ r.array
        → b < width sh.elem → w m cs ≡ any_block (arity_of c) (arrays_of outer c)
        (spot m (number sh.extents cs * width sh.elem + b)))
        → (below : Outcome) (first : Option Trap) (merged : State) → GatherSame n below first merged
        → (own : Outcome) (y : bytes.Outcome) → x' n ≡ y → OwnSame outer r c sums of there s' own y
        → GatherSame (suc n) (source.and_then below
        (λ before. source.and_then (source.with_turn n own) (λ mine. Ok (source.with_reduced r w mine before))))
        (bytes.first_of first (bytes.trap_of
        (bytes.numbered n (bytes.returns_to y (arity_of c) (arrays_of outer c) s'))))
        (λ l. cond (any_block (arity_of c) (arrays_of outer c) l)
        (bytes.state_or s' (bytes.returns_to y (arity_of c) (arrays_of outer c) s') l) (merged l))
    gather_step n c sums same w written (Ok before) None merged h (Ok mine) (Ends inner') e g = (
      λ m sh cs is at ne.
          ap (λ b. if b then red r.op r.elem (before m cs) (mine m cs) else with_writes w mine before m cs)
          (not_eq m r.array ne)
          ∙ ap₂ (λ u v. if w m cs then u else v) (g.0 m sh cs is at ne) (h.0 m sh cs is at ne)
          ∙ chosen_same outer sh cs (w m cs) (λ k. any_block (arity_of c) (arrays_of outer c) (spot m k))
          (λ k. come_back (arity_of c) (arrays_of outer c) inner' s' (spot m k)) (λ k. merged (spot m k))
          (λ b lb. written m sh cs b is at ne lb),
      λ cs at.
          ap (λ b. if b then red r.op r.elem (before r.array cs) (mine r.array cs) else with_writes w mine before
          r.array cs) (are_eq r.array)
          ∙ ap₂ (red r.op r.elem) (h.1 cs at)
          (g.1 cs at ∙ element_of_sum elem (λ k. inner' (spot (which_of c.args) k)) cs
          ∙ ap₂ (λ i o. held r.elem (element (width_of op) (λ k. value_at o (spot i k)) (number of.extents cs))) same
          (sym e))
          ∙ sym (combined_held op (fold_at n cs) (element (width_of op) (left n) (number of.extents cs))),
    )
    gather_step n c sums same w written (Ok before) None merged h (Ok mine) (Traps y) e g = absurd g
    gather_step n c sums same w written (Ok before) None merged h (Err x) (Ends inner') e g = absurd g
    gather_step n c sums same w written (Ok before) None merged h (Err x) (Traps y) e g
        = (ap (λ (l : List ℕ). n ∷ l) g.0, g.1)
    gather_step n c sums same w written (Ok before) (Some z) merged h own y e g = absurd h
    gather_step n c sums same w written (Err x) None merged h own y e g = absurd h
    gather_step n c sums same w written (Err x) (Some z) merged h own y e g = h

    pub gather_turns : (n : ℕ) (c : ℕ → PlacedCall) (sums : (t : ℕ) → t < n → IsSum outer r (c t))
        → ((t : ℕ) → t < n → which_of (c t).args ≡ which) → (w : ℕ → ℕ → List ℕ → Bool)
        → ((t : ℕ) → t < n → (m : ℕ) (sh : Shape) (cs : List ℕ) (b : ℕ) → slice_get outer m ≡ Some sh
        → IsIn sh.extents cs → m ≢ r.array → b < width sh.elem → w t m cs
        ≡ any_block (arity_of (c t)) (arrays_of outer (c t)) (spot m (number sh.extents cs * width sh.elem + b)))
        → (s : Arrays) → Codes outer s s' → (f : ℕ → Outcome)
        → ((t : ℕ) (lt : t < n) → OwnSame outer r (c t) (sums t lt) of there s' (f t) (x' t))
        → GatherSame n (source.apart n (λ t. source.with_reduced r (w t)) f s)
        (bytes.first_trap n (λ t. bytes.trap_of
        (bytes.numbered t (bytes.returns_to (x' t) (arity_of (c t)) (arrays_of outer (c t)) s'))))
        (bytes.merged n (λ t l. any_block (arity_of (c t)) (arrays_of outer (c t)) l)
        (λ t. bytes.state_or s' (bytes.returns_to (x' t) (arity_of (c t)) (arrays_of outer (c t)) s')) s')
    gather_turns zero c sums same w written s codes f own = (
      λ m sh cs is at ne. codes.at m sh cs is at,
      λ cs at. codes.at r.array of cs there at
          ∙ element_of_sum elem (λ k. s' (spot r.array k)) cs,
    )
    gather_turns (suc n) c sums same w written s codes f own =
        gather_step n (c n) (sums n (omega arith)) (same n (omega arith)) (w n) (written n (omega arith)) _ _ _
        (gather_turns n c (λ t lt. sums t (omega (arith, lt))) (λ t lt. same t (omega (arith, lt))) w
        (λ t lt. written t (omega (arith, lt))) s codes f (λ t lt. own t (omega (arith, lt))))
        (f n) (x' n) refl (own n (omega arith))

    -- the bytes of the whole array
    index_of : (k j : ℕ) → spot r.array k ≡ spot r.array j → k ≡ j
    index_of k j e = ap (λ (v : Spot). v.index) e

    pub gathered_same : (n size : ℕ) → size ≡ bytes_in of → (o : Outcome) (first : Option Trap) (merged : State)
        → GatherSame n o first merged
        → SameOutcome outer o (bytes.gathered (bytes.ends_unless first merged) op size (spot r.array) n left s')
    gathered_same n size is_size (Ok below) None merged h
        = record { at = λ m sh cs is at. go m sh cs is at (nat_eq m r.array) refl }
      where
        val : ℕ → ℕ
        val k = byte_in (width_of op) (folded op always (λ t. element (width_of op) (left t) (k / width_of op)) n
            (element (width_of op) (λ j. s' (spot r.array j)) (k / width_of op))) (k % width_of op)

        area_of : (p q : Spot) → p ≡ q → p.area ≡ q.area
        area_of p q e = ap (λ (v : Spot). v.area) e

        val_at : (cs : List ℕ) (b : ℕ) → b < width r.elem → val (number of.extents cs * width r.elem + b)
            ≡ byte_in (width r.elem) (fold_at n cs) b
        val_at cs b lb =
            ap (λ w. byte_in w (folded op always
            (λ t. element (width_of op) (left t) ((number of.extents cs * width r.elem + b) / w)) n
            (element (width_of op) (λ j. s' (spot r.array j)) ((number of.extents cs * width r.elem + b) / w)))
            ((number of.extents cs * width r.elem + b) % w)) (width_is op)
            ∙ ap₂ (λ i j. byte_in (width r.elem)
            (folded op always (λ t. element (width_of op) (left t) i) n
            (element (width_of op) (λ j. s' (spot r.array j)) i)) j)
            (div-mul-add (number of.extents cs) (width r.elem) b lb)
            (mod-mul-add (number of.extents cs) (width r.elem) b lb)

        put_at : (cs : List ℕ) → IsIn of.extents cs → (b : ℕ) → b < width r.elem
            → put size (spot r.array) val merged (spot r.array (number of.extents cs * width r.elem + b))
            ≡ byte_in (width r.elem) (fold_at n cs) b
        put_at cs at b lb =
            let low : number of.extents cs * width r.elem + b < product of.extents * width r.elem
            = byte_below of.extents cs (width r.elem) b at lb in
            put_in size (spot r.array) val merged (number of.extents cs * width r.elem + b)
            (subst (λ z. number of.extents cs * width r.elem + b < z)
            (sym (is_size ∙ ap (λ e. product of.extents * width e) elem)) low) (λ j lj e. index_of j _ e)
            ∙ val_at cs b lb

        go : (m : ℕ) (sh : Shape) (cs : List ℕ) → slice_get outer m ≡ Some sh → IsIn sh.extents cs → (b : Bool)
            → nat_eq m r.array ≡ b → below m cs ≡ loaded sh (λ k. put size (spot r.array) val merged (spot m k)) cs
        go m sh cs is at true e =
            let same : m ≡ r.array = grind (arith, nat_tests, e) in
            let shape : of ≡ sh = same_some (sym there ∙ (ap (slice_get outer) (sym same) ∙ is)) in
            let at' : IsIn of.extents cs = subst (λ (z : Shape). IsIn z.extents cs) (sym shape) at in
            ap (λ i. below i cs) same ∙ h.1 cs at'
            ∙ sym (bytes_held r.elem (fold_at n cs)
            (folded_table op (λ t. element (width_of op) (left t) (number of.extents cs)) n
            (element (width_of op) (λ j. s' (spot r.array j)) (number of.extents cs))
            (element_table op (λ j. s' (spot r.array j)) (number of.extents cs))))
            ∙ ap (value r.elem) (listed_same (width r.elem) _ _ (λ b lb. sym (put_at cs at' b lb)))
            ∙ ap₂ (λ el i. value el (listed (width el)
            (λ b. put size (spot r.array) val merged (spot i (number of.extents cs * width el + b))))) (sym elem)
            (sym same)
            ∙ ap (λ (z : Shape). loaded z (λ k. put size (spot r.array) val merged (spot m k)) cs) shape
        go m sh cs is at false e =
            let ne : m ≢ r.array = grind (arith, nat_tests, e) in
            h.0 m sh cs is at ne ∙ ap (value sh.elem)
            (listed_same (width sh.elem) _ _
            (λ b lb. sym (put_out size (spot r.array) val merged (spot m (number sh.extents cs * width sh.elem + b))
            (λ k lk f. ne (sym (area_of _ _ f))))))
    gathered_same n size is_size (Ok below) (Some y) merged h = absurd h
    gathered_same n size is_size (Err x) None merged h = absurd h
    gathered_same n size is_size (Err x) (Some y) merged h = h
