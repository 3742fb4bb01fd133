-- The entry of a program's forms.
use Rattle.std.proofs.Common.{◌≡◌, ℕ, zero, suc, ◌+◌, ◌*◌, ◌^◌, ◌<◌, ◌≤◌, Bool, true, false, ◌&&◌, nat_lt, nat_le, List, [], ◌∷◌, length, map, slice_get, Option, Some, None, Result, Ok, Err, if◌then◌else◌, refl, sym, ◌∙◌, ap, subst, arith}
use Rattle.std.proofs.Math.Logic.{∥∥₁_elim}
use Rattle.std.specs.Prelude.{ℤ, pos, negsuc}
use Rattle.std.specs.List.{All}
use Rattle.std.specs.Option.{option_map}
use Rattle.std.proofs.lemmas.Bool.Decides.{nat_tests}
use Rattle.sq_port.specs.Ports.{Gains, GainsPrefix}
use Rattle.sq_ast.specs.declared.program.Param.{Param}
use Rattle.sq_mapping.specs.declared.mapping.SizeSet.{SizeSet}
use Rattle.sq_spec.specs.Entry.{IsEntry}
use Rattle.sq_forms.specs.Faults.{Value, and_then}
use Rattle.sq_spec.specs.FormLaws.Reached.{AsManyForms}
use Rattle.sq_forms.specs.Resolving.{Resolving, resolution, param_dims, entry_extents, before}
use Rattle.sq_forms.specs.Decls.{most_extent, most_elements, dims_from, dims_of}
use Rattle.sq_spec.specs.declared.resolved.Resolved.{Resolved}
use Rattle.sq_spec.specs.Works.{extents_at}
use Rattle.sq_rect.specs.Extents.{product}
use Rattle.sq_num.specs.declared.Elem.{Elem}
use Rattle.sq_num.specs.declared.Elem.TheVariants.{Byte, Int, Long}
use Rattle.sq_num.specs.Elements.{width}
use Rattle.sq_ast.specs.declared.program.Mode.{Mode}
use Rattle.sq_arrays.specs.Arrays.{Wanted, size_of}
use Rattle.sq_forms.specs.Resolving.{extent_of, dims_or_fault}
use Rattle.sq_forms.specs.declared.form.Form.{Form}
use Rattle.sq_flat.specs.Held.{extents_in}
use Rattle.sq_driver.specs.Outputs.{stored_texts}
use Rattle.sq_driver.specs.Entry.{params_of, want_of, wants_of}

some_below : {A : Type 0} (xs : List A) (x : A) → slice_get xs 0 ≡ Some x → 0 < length xs
some_below [] x there = cc
some_below (y ∷ xs) x there = omega arith

-- there are forms
some_form : (r : Resolved) → IsEntry r → AsManyForms → (left : Resolving) → resolution r.typed.now.tasks r.mapping.now
    ≡ Ok left → left.found ≡ r.found.entries → left.forms ≡ r.forms → 0 < length r.forms
some_form r entry many left through found forms =
    let some : 0 < length r.found.entries = some_below r.found.entries ([], _) entry.found in
    let same : length left.found ≡ length left.forms = many r.typed.now.tasks r.mapping.now left through in
    omega (arith, some, same, ap length found, ap length forms)

pub forms_there : (r : Resolved) → IsEntry r → AsManyForms → 0 < length r.forms
forms_there r entry many = by (length r.forms) refl
  where
    by : (n : ℕ) → length r.forms ≡ n → 0 < length r.forms
    by zero none = absurd (∥∥₁_elim r.walked (λ x y. absurd x) (λ w.
        let some = some_form r entry many (record { found = r.found.entries; forms = r.forms; uses = r.uses })
        w.through refl refl in
        omega (arith, some, none)))
    by (suc n) some = omega (arith, some)

-- the extents of the first one are those of the entry's parameters
pub first_extents : (r : Resolved) (entry : IsEntry r) (f : Form) (extents : List (List ℕ))
    → slice_get r.forms 0 ≡ Some f → extents ≡ f.extents → entry_extents r.mapping.now.sizes
    (params_of r.typed.now r.mapping.now) ≡ Ok extents
first_extents r entry f extents there same = entry.fit ∙ ap (λ (l : List (List ℕ)). Ok l)
    (sym (entry.form f there) ∙ sym same)

-- those of the entry as it was found
pub found_extents : (r : Resolved) (entry : IsEntry r) (f : Form) (extents : List (List ℕ))
    → slice_get r.forms 0 ≡ Some f → extents ≡ f.extents → extents_in (slice_get r.found.entries 0) ≡ extents
found_extents r entry f extents there same = ap extents_in entry.found ∙ (sym (entry.form f there) ∙ sym same)

ok_same : {A B : Type 0} (x y : A) → ◌≡◌ {A = Result A B} (Ok x) (Ok y) → x ≡ y
ok_same x y is = cc

some_same : {A : Type 0} (x y : A) → Some x ≡ Some y → x ≡ y
some_same x y is = cc

-- ---- the extents of the entry's parameters

-- each parameter has extents
joined : (first : Value (List ℕ)) (rest : Value (List (List ℕ))) (n : ℕ)
    → ((ys : List (List ℕ)) → rest ≡ Ok ys → length ys ≡ n) → (extents : List (List ℕ))
    → and_then first (λ dims. before dims rest) ≡ Ok extents → length extents ≡ suc n
joined (Err f) rest n later extents is = absurd (let no : Err f ≡ Ok extents = is in cc)
joined (Ok dims) (Err f) n later extents is = absurd (let no : Err f ≡ Ok extents = is in cc)
joined (Ok dims) (Ok ys) n later extents is = ap length (sym (ok_same (dims ∷ ys) extents is)) ∙ ap suc (later ys refl)

pub entry_long : (sizes : List SizeSet) (ps : List Param) (extents : List (List ℕ))
    → entry_extents sizes ps ≡ Ok extents → length extents ≡ length ps
entry_long sizes [] extents is = ap length (sym (ok_same [] extents is))
entry_long sizes (p ∷ ps) extents is = joined (param_dims sizes p) (entry_extents sizes ps) (length ps)
    (λ ys at. entry_long sizes ps ys at) extents is

no_item : {A : Type 0} (P : A → Type 0) → All P []
no_item P = λ k d below. absurd (omega (arith, below))

one_item : {A : Type 0} (P : A → Type 0) (x : A) (xs : List A) → P x → All P xs → All P (x ∷ xs)
one_item P x xs first rest zero d below = first
one_item P x xs first rest (suc k) d below = rest k d (omega (arith, below))

-- an array has no more elements than are allowed
and_right : (a b : Bool) → a && b ≡ true → b ≡ true
and_right true b both = both
and_right false b both = absurd (let no : false ≡ true = both in cc)

chosen_small : (most n e : ℕ) (b : Bool) (rest : Option (List ℕ)) (ds : List ℕ) → (b ≡ true → n * e ≤ most)
    → ((more : List ℕ) → rest ≡ Some more → n * e ≤ most → n * e * product more ≤ most)
    → (if b then option_map (λ more. e ∷ more) rest else None) ≡ Some ds → n * product ds ≤ most
chosen_small most n e true (Some more) ds tested later is =
    let same : e ∷ more ≡ ds = some_same (e ∷ more) ds is in
    let few : n * e * product more ≤ most = later more refl (tested refl) in
    let all : n * (e * product more) ≡ n * e * product more = omega arith in
    subst (λ (l : List ℕ). n * product l ≤ most) same (subst (λ (k : ℕ). k ≤ most) (sym all) few)
chosen_small most n e true None ds tested later is = absurd (let no : None ≡ Some ds = is in cc)
chosen_small most n e false rest ds tested later is = absurd (let no : None ≡ Some ds = is in cc)

dims_from_small : (n : ℕ) (es : List ℤ) (ds : List ℕ) → n ≤ most_elements → dims_from n es ≡ Some ds
    → n * product ds ≤ most_elements
dims_from_small n [] ds few is =
    let none : [] ≡ ds = some_same [] ds is in
    subst (λ (l : List ℕ). n * product l ≤ most_elements) none (omega (arith, few))
dims_from_small n (pos e ∷ es) ds few is =
    chosen_small most_elements n e ((nat_lt 0 e && nat_le e most_extent) && nat_le (n * e) most_elements)
    (dims_from (n * e) es) ds
    (λ tested. let test : nat_le (n * e) most_elements ≡ true = and_right (nat_lt 0 e && nat_le e most_extent)
    (nat_le (n * e) most_elements) tested in grind (arith, nat_tests, test))
    (λ more found room. dims_from_small (n * e) es more room found) is
dims_from_small n (negsuc e ∷ es) ds few is = absurd (let no : None ≡ Some ds = is in cc)

one_few : 1 ≤ most_elements
unfolding most_elements
one_few = omega arith

not_too_many : (b : Bool) (es : List ℤ) (ds : List ℕ) → (if b then dims_from 1 es else None) ≡ Some ds
    → product ds ≤ most_elements
not_too_many true es ds is = let few : 1 * product ds ≤ most_elements = dims_from_small 1 es ds one_few is in omega
    (arith, few)
not_too_many false es ds is = absurd (let no : None ≡ Some ds = is in cc)

dims_small : (es : List ℤ) (ds : List ℕ) → dims_of es ≡ Some ds → product ds ≤ most_elements
dims_small [] ds is = absurd (let no : None ≡ Some ds = is in cc)
dims_small (n ∷ ns) ds is = not_too_many (nat_le (length ns) 2) (n ∷ ns) ds is

found_small : (p : Param) (es : List ℤ) (o : Option (List ℕ)) (ds : List ℕ) → dims_of es ≡ o
    → dims_or_fault p o ≡ Ok ds → product ds ≤ most_elements
found_small p es None ds at is = absurd (let no = is in cc)
found_small p es (Some dims) ds at is = subst (λ (l : List ℕ). product l ≤ most_elements) (ok_same dims ds is)
    (dims_small es dims at)

joined_small : (first : Value (List ℕ)) (rest : Value (List (List ℕ)))
    → ((ds : List ℕ) → first ≡ Ok ds → product ds ≤ most_elements)
    → ((ys : List (List ℕ)) → rest ≡ Ok ys → All (λ ds. product ds ≤ most_elements) ys)
    → (extents : List (List ℕ)) → and_then first (λ dims. before dims rest) ≡ Ok extents
    → All (λ ds. product ds ≤ most_elements) extents
joined_small (Err f) rest one later extents is = absurd (let no : Err f ≡ Ok extents = is in cc)
joined_small (Ok dims) (Err f) one later extents is = absurd (let no : Err f ≡ Ok extents = is in cc)
joined_small (Ok dims) (Ok ys) one later extents is = subst
    (λ (l : List (List ℕ)). All (λ ds. product ds ≤ most_elements) l) (ok_same (dims ∷ ys) extents is)
    (one_item (λ ds. product ds ≤ most_elements) dims ys (one dims refl) (later ys refl))

pub entry_small : (sizes : List SizeSet) (ps : List Param) (extents : List (List ℕ))
    → entry_extents sizes ps ≡ Ok extents → All (λ ds. product ds ≤ most_elements) extents
entry_small sizes [] extents is = subst (λ (l : List (List ℕ)). All (λ ds. product ds ≤ most_elements) l)
    (ok_same [] extents is) (no_item (λ ds. product ds ≤ most_elements))
entry_small sizes (p ∷ ps) extents is =
    joined_small (param_dims sizes p) (entry_extents sizes ps)
    (λ ds at. found_small p (map (extent_of sizes) p.extents) (dims_of (map (extent_of sizes) p.extents)) ds refl
    at) (λ ys at. entry_small sizes ps ys at) extents is

-- so its bytes are counted by 64 bits
small_at : (extents : List (List ℕ)) (i : ℕ) → All (λ ds. product ds ≤ most_elements) extents
    → product (extents_at (slice_get extents i)) ≤ most_elements
small_at [] i small = one_few
small_at (ds ∷ extents) zero small = small 0 ds (omega arith)
small_at (ds ∷ extents) (suc i) small = small_at extents i (λ k d below. small (suc k) d (omega (arith, below)))

pub size_small : (e : Elem) (n : ℕ) → n ≤ most_elements → n * width e < 2 ^ 64
unfolding most_elements
size_small Byte n few = omega (arith, few)
size_small Int n few = omega (arith, few)
size_small Long n few = omega (arith, few)

all_step : (b : Bool) (w : Wanted) (ws : List Wanted) → size_of w < 2 ^ 64 → All (λ w. size_of w < 2 ^ 64) ws
    → All (λ w. size_of w < 2 ^ 64) (if b then w ∷ ws else ws)
all_step true w ws first rest = one_item (λ w. size_of w < 2 ^ 64) w ws first rest
all_step false w ws first rest = rest

pub wants_small : (which : Mode → Bool) (ps : List Param) (i : ℕ) (extents : List (List ℕ))
    → All (λ ds. product ds ≤ most_elements) extents → All (λ w. size_of w < 2 ^ 64) (wants_of which ps i extents)
wants_small which [] i extents small = no_item (λ w. size_of w < 2 ^ 64)
wants_small which (p ∷ ps) i extents small =
    all_step (which p.mode) (want_of p i extents) (wants_of which ps (i + 1) extents)
    (size_small p.elem (product (extents_at (slice_get extents i))) (small_at extents i small))
    (wants_small which ps (i + 1) extents small)

pub gains_as : (out now_out : Option (List ℕ)) (t u : List ℕ) → t ≡ u → Gains out now_out t → Gains out now_out u
gains_as out now_out t u same gained = subst (λ (x : List ℕ). Gains out now_out x) same gained

pub prefix_as : (out now_out : Option (List ℕ)) (t u : List ℕ) → t ≡ u → GainsPrefix out now_out t
    → GainsPrefix out now_out u
prefix_as out now_out t u same gained = subst (λ (x : List ℕ). GainsPrefix out now_out x) same gained

-- the texts by another spelling of the parameters and their extents
pub texts_same : (sizes : List SizeSet) (ps qs : List Param) (e f : List (List ℕ)) (list : List (List ℕ)) → qs ≡ ps
    → entry_extents sizes ps ≡ Ok f → entry_extents sizes ps ≡ Ok e → stored_texts qs 0 f list ≡ stored_texts ps 0 e
    list
texts_same sizes ps qs e f list params first second =
    ap (λ (l : List Param). stored_texts l 0 f list) params ∙ ap (λ (x : List (List ℕ)). stored_texts ps 0 x list)
    (ok_same f e (sym first ∙ second))
