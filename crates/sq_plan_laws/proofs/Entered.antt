-- A callee's arrays at its start: on numbers, and on the bytes that they are loaded from.
use Rattle.std.proofs.Common.{◌≡◌, ℕ, ◌+◌, ◌*◌, ◌%◌, Bool, true, ◌&&◌, List, [], ◌∷◌, map, get_or, refl, sym, ap, ap₂}
use Rattle.std.proofs.Common.{◌∙◌, subst, arith, pos, nat_lt}
use Rattle.std.specs.Prelude.{Option, Some, None, slice_get, if◌then◌else◌}
use Rattle.std.proofs.lemmas.Nat.{mod-mul-add}
use Rattle.std.proofs.lemmas.Int.{ints}
use Rattle.std.proofs.lemmas.Bool.Decides.{nat_tests}
use Rattle.sq_num.specs.declared.Elem.{Elem}
use Rattle.sq_num.specs.declared.Elem.TheVariants.{Byte, Int, Long}
use Rattle.sq_num.specs.declared.RedOp.{RedOp}
use Rattle.sq_num.specs.Elements.{width, value, cell, cut, least, greatest, IsValue, little_endian}
use Rattle.sq_num.specs.Reductions.{identity}
use Rattle.sq_num.proofs.Cutting.{value-cell, cut-value, length-cell}
use Rattle.sq_num.proofs.Reducing.{are-laws}
use Rattle.sq_rect.specs.Placing.{IsIn}
use Rattle.sq_leaf.specs.declared.shape.Shape.{Shape}
use Rattle.sq_leaf.specs.Source.{Arrays}
use Rattle.sq_ast.specs.declared.program.Mode as source
use Rattle.sq_ast.specs.declared.program.Mode.TheVariants as mode
use Rattle.sq_blocks.specs.declared.argument.Argument.{Argument}
use Rattle.sq_blocks.specs.Arguments.{lengths}
use Rattle.sq_ast.specs.Modes.{is_read}
use Rattle.sq_work.specs.Meaning.{is_inside, in_array, block_value, param_value, at_entry}
use Rattle.sq_placed.specs.Placed.{PlacedArg, PlacedCall, arguments}
use Rattle.sq_cells.specs.Cells.{spot, State}
use Rattle.sq_cells.specs.Tree.{identity_of, width_of}
use Rattle.sq_cells.specs.Work.{start_of, entry_of}
use Rattle.sq_plan_laws.specs.Coordinates.{number, Fits}
use Rattle.sq_plan_laws.specs.Codes.{listed, loaded, Codes}
use Rattle.sq_plan_laws.specs.Calling.{mode_by, mode_of, block_of, shapes_of, array_of, arrays_of}
use Rattle.sq_plan_laws.proofs.Coordinates.{in_of, block_at}
use Rattle.sq_plan_laws.proofs.PlacedLists.{listed_same, listed_all, at_left, mapped, mapped_none, same_some}

-- ---- values

nothing_fits : (e : Elem) → IsValue e (pos 0)
unfolding least greatest
nothing_fits Byte = record { low = omega (arith, ints); high = omega (arith, ints) }
nothing_fits Int = record { low = omega (arith, ints); high = omega (arith, ints) }
nothing_fits Long = record { low = omega (arith, ints); high = omega (arith, ints) }

zeros : (e : Elem) → little_endian (listed (width e) (λ b. 0)) ≡ 0
zeros Byte = refl
zeros Int = refl
zeros Long = refl

pub zero_value : (e : Elem) → pos 0 ≡ value e (listed (width e) (λ b. 0))
unfolding value
zero_value e = sym (cut-value e (pos 0) (nothing_fits e)) ∙ sym (ap (λ n. cut e (pos n)) (zeros e))

pub identity_value : (op : RedOp) (e : Elem) (o : ℕ) → identity op e
    ≡ value e (listed (width e) (λ b. identity_of (record { red = op; elem = e })
    ((o * width e + b) % width_of (record { red = op; elem = e }))))
unfolding identity_of width_of
identity_value op e o =
    sym (ap (value e) (listed_same (width e) (λ b. get_or (cell e (identity op e)) ((o * width e + b) % width e) 0)
    (λ b. get_or (cell e (identity op e)) b 0)
    (λ b lb. ap (λ k. get_or (cell e (identity op e)) k 0) (mod-mul-add o (width e) b lb))
    ∙ listed_all (cell e (identity op e)) (width e) (length-cell e (identity op e)))
    ∙ value-cell e (identity op e) ∙ cut-value e (identity op e) (are-laws op e).unit_fits)

pub is_in : (ns cs : List ℕ) → IsIn ns cs → is_inside ns cs ≡ true
is_in [] [] at = refl
is_in [] (c ∷ cs) at = absurd at
is_in (n ∷ ns) [] at = absurd at
is_in (n ∷ ns) (c ∷ cs) at =
    let below : nat_lt c n ≡ true = grind (arith, nat_tests, at.0) in
    ap (λ (b : Bool). b && is_inside ns cs) below ∙ is_in ns cs at.1

-- ---- a block

-- the element of a block, and its bytes
pub block_codes : (a : Argument) (of to : Shape) (s : Arrays) (s' : State) (cs : List ℕ)
    → ((ds : List ℕ) → IsIn of.extents ds → s a.array ds ≡ loaded of (λ k. s' (spot a.array k)) ds)
    → Fits a.rect of.extents → to.elem ≡ of.elem → to.extents ≡ lengths a.rect → IsIn to.extents cs → block_value a s cs
    ≡ loaded to (λ k. s' (block_of (Some of) a k)) cs
block_codes a of to s s' cs codes fits elem extents at =
    ap (λ (b : Bool). if b then s a.array (in_array a.rect cs) else pos 0) (is_in (lengths a.rect) cs at')
    ∙ codes (in_array a.rect cs) (in_of a.rect of.extents cs fits at')
    ∙ sym (ap₂ (λ (e : Elem) (ns : List ℕ). value e
    (listed (width e) (λ b. s' (block_of (Some of) a (number ns cs * width e + b))))) elem extents
    ∙ ap (value of.elem) (listed_same (width of.elem) _ _
    (λ b lb. ap (λ k. s' (spot a.array k)) (block_at (width of.elem) a.rect of.extents cs b at' lb))))
  where
    at' : IsIn (lengths a.rect) cs
    at' = subst (λ ns. IsIn ns cs) extents at

-- a parameter that is not reduced into
param_by : (m : source.Mode) (a : Argument) (to : Shape) (x : ℕ → ℕ) (s : Arrays) (cs : List ℕ) → block_value a s cs
    ≡ loaded to x cs
    → (if is_read m then block_value a s cs else pos 0) ≡ loaded to (λ k. start_of (mode_by None to.elem m) k (x k)) cs
param_by mode.Input a to x s cs e = e
param_by mode.Output a to x s cs e = zero_value to.elem
param_by mode.Both a to x s cs e = e

pub plain_param : (p : PlacedArg) (of : Shape) (o : Option Shape) (s : Arrays) (s' : State) (cs : List ℕ) → o ≡ Some of
    → ((ds : List ℕ) → IsIn of.extents ds → s p.argument.array ds ≡ loaded of (λ k. s' (spot p.argument.array k)) ds)
    → Fits p.argument.rect of.extents → p.shape.elem ≡ of.elem → p.shape.extents ≡ lengths p.argument.rect → p.gathers
    ≡ None → IsIn p.shape.extents cs
    → param_value (Some p.argument) s cs
    ≡ loaded p.shape (λ k. start_of (mode_of p) k (s' (block_of o p.argument k))) cs
plain_param p of o s s' cs there codes fits elem extents none at =
    param_by p.argument.mode p.argument p.shape (λ k. s' (block_of (Some of) p.argument k)) s cs
    (block_codes p.argument of p.shape s s' cs codes fits elem extents at)
    ∙ ap₂ (λ g q. loaded p.shape (λ k. start_of (mode_by g p.shape.elem p.argument.mode) k
    (s' (block_of q p.argument k))) cs) (sym none) (sym there)

-- a parameter that is reduced into starts at the identity
pub sum_param : (p : PlacedArg) (op : RedOp) (s : Arrays) (x : ℕ → ℕ) (cs : List ℕ) → p.gathers ≡ Some op
    → block_value p.argument s cs ≡ identity op p.shape.elem → p.argument.mode ≡ mode.Both
    → param_value (Some p.argument) s cs ≡ loaded p.shape (λ k. start_of (mode_of p) k (x k)) cs
sum_param p op s x cs gathers same both =
    ap (λ m. if is_read m then block_value p.argument s cs else pos 0) both
    ∙ same
    ∙ identity_value op p.shape.elem (number p.shape.extents cs)
    ∙ ap (λ g. loaded p.shape (λ k. start_of (mode_by g p.shape.elem p.argument.mode) k (x k)) cs) (sym gathers)

-- ---- all arrays

-- where each parameter is as it is loaded, all arrays are
pub entry_codes : (outer : List Shape) (c : PlacedCall) (s : Arrays) (s' : State)
    → ((k : ℕ) (p : PlacedArg) (cs : List ℕ) → slice_get c.args k ≡ Some p → IsIn p.shape.extents cs
    → param_value (Some p.argument) s cs
    ≡ loaded p.shape (λ j. start_of (mode_of p) j (s' (block_of (slice_get outer p.argument.array) p.argument j))) cs)
    → Codes (shapes_of c) (at_entry (arguments c.args) s) (entry_of (arrays_of outer c) s')
entry_codes outer c s s' params = record { at = λ n sh cs there at. go n sh cs there at (slice_get c.args n) refl }
  where
    start : (n : ℕ) (x : Option PlacedArg) (y : Option Shape) → slice_get c.args n ≡ x → slice_get (shapes_of c) n ≡ y
        → (sh : Shape) (cs : List ℕ)
        → loaded sh (λ k. start_of (array_of outer x y).mode k (s' ((array_of outer x y).block k))) cs
        ≡ loaded sh (λ k. entry_of (arrays_of outer c) s' (spot n k)) cs
    start n x y e f sh cs = ap₂ (λ u v. loaded sh
        (λ k. start_of (array_of outer u v).mode k (s' ((array_of outer u v).block k))) cs) (sym e) (sym f)

    go : (n : ℕ) (sh : Shape) (cs : List ℕ) → slice_get (shapes_of c) n ≡ Some sh → IsIn sh.extents cs
        → (o : Option PlacedArg) → slice_get c.args n ≡ o
        → at_entry (arguments c.args) s n cs ≡ loaded sh (λ k. entry_of (arrays_of outer c) s' (spot n k)) cs
    go n sh cs there at (Some p) e =
        let same : p.shape ≡ sh = same_some
        (sym (at_left (λ (q : PlacedArg). q.shape) c.args (map (λ k. k.shape) c.locals) n p e) ∙ there) in
        let at' : IsIn p.shape.extents cs = subst (λ (z : Shape). IsIn z.extents cs) (sym same) at in
        ap (λ o. param_value o s cs) (mapped (λ (q : PlacedArg). q.argument) c.args n p e)
        ∙ params n p cs e at'
        ∙ ap (λ (z : Shape). loaded z (λ j. start_of (mode_of p) j
        (s' (block_of (slice_get outer p.argument.array) p.argument j))) cs) same
        ∙ start n (Some p) (Some sh) e there sh cs
    go n sh cs there at None e =
        ap (λ o. param_value o s cs) (mapped_none (λ (q : PlacedArg). q.argument) c.args n e)
        ∙ zero_value sh.elem
        ∙ start n None (Some sh) e there sh cs
